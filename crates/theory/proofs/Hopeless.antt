-- A job that can't finish may be chosen, gains nothing, and leaves when its slots left reach 0.
-- Assumes nothing.
use mathlib.Core.Path.{◌≡◌, refl, sym, ◌∙◌, ap, subst}
use mathlib.Core.Bool.{Bool, true, false, cond, ◌&&◌, ◌||◌, and-false, false≢true}
use mathlib.Core.List.Memᴰ
use mathlib.Core.List.{List, [], ◌∷◌, map, map-map, foldl, Memᴰ}
use mathlib.Core.Logic.{◌⊎◌, inl, inr, ⊎_elim}
use mathlib.Core.Option.{Option, none, some, none-ne-some, some-injective}
use Prim.Native.Nat.{ℕ, suc, ◌-◌, ◌<◌, ◌≤◌}
use native.Mathlib.Omega.{arith}
use borrow.Author.Tests.{lt-ltb, le-ltb, ltb-true, eqb-true, ne_eqb}
use lib.Dec.{ltb, eqb}
use lib.ListN.{length}
use Rattle.model.specs.Hopeless.{Hopeless, after_choice, job_after, IsFirst, Unpaid, StaysUnpaid}
use Rattle.model.specs.Lists.{keep}
use Rattle.model.specs.Plan.{Plan}
use Rattle.model.specs.Slot.{Job, JobId, new_jobs, key_below, sooner, first, id_of, is_job, worked, tick, stays, run_first, ready, key_of, chosen_in, slot, jobs_after}
use Rattle.model.proofs.Lists.{mem-keep, mem-of-keep}
use Rattle.model.proofs.Plan.{both}

-- ---- the first by a key

-- of two keys at most one is below the other
below-once : (xs ys : List ℕ) → key_below xs ys ≡ true → key_below ys xs ≡ false
below-once [] ys e = absurd (false≢true e)
below-once (x ∷ xs) [] e = absurd (false≢true e)
below-once (x ∷ xs) (y ∷ ys) e = go (ltb x y) (eqb x y) refl refl e (below-once xs ys)
  where
    go : (a b : Bool) → ltb x y ≡ a → eqb x y ≡ b → (a || (b && key_below xs ys)) ≡ true → (key_below xs ys ≡ true → key_below ys xs ≡ false) →
        key_below (y ∷ ys) (x ∷ xs) ≡ false
    go true b lt eq t h =
        let less : x < y = ltb-true x y lt in
        rw (le-ltb y x (omega arith), ne_eqb y x (λ z. omega arith))
    go false true lt eq t h =
        let same : x ≡ y = eqb-true x y eq in
        rw (le-ltb y x (omega arith), h t, and-false)
    go false false lt eq t h = absurd (false≢true t)

module _ (k : Job → List ℕ) (m : Job) where
  -- the job m itself, or one that comes after it
  abbrev Follows : Job → Type 0
  Follows j = (j ≡ m) ⊎ (key_below (k m) (k j) ≡ true)

  abbrev FollowsIfAny : Option Job → Type 0
  FollowsIfAny none = Unit {0}
  FollowsIfAny (some j) = Follows j

  either : (b : Bool) (i j : Job) → i ≡ m → j ≡ m → cond b i j ≡ m
  either true i j e f = e
  either false i j e f = f

  -- once found, m stays the first
  stays-first : (j : Job) → Follows j → cond (key_below (k j) (k m)) j m ≡ m
  stays-first j (inl e) = either (key_below (k j) (k m)) j m e refl
  stays-first j (inr e) = rw (below-once (k m) (k j) e)

  found_first : (js : List Job) → IsFirst k m js → foldl (sooner k) (some m) js ≡ some m
  found_first [] h = refl
  found_first (x ∷ js) h =
      ap (λ j. foldl (sooner k) (some j) js) (stays-first x (h x (Memᴰ.head refl))) ∙ found_first js (λ j i. h j (Memᴰ.tail i))

  -- m comes before what has been found
  comes_first : (a : Option Job) → FollowsIfAny a → sooner k a m ≡ some m
  comes_first none g = refl
  comes_first (some j) (inl e) = ap some (either (key_below (k m) (k j)) m j refl e)
  comes_first (some j) (inr e) = rw e

  follows_still : (a : Option Job) (x : Job) → FollowsIfAny a → Follows x → FollowsIfAny (sooner k a x)
  follows_still none x g f = f
  follows_still (some j) x g f = go (key_below (k x) (k j))
    where
      go : (b : Bool) → Follows (cond b x j)
      go true = f
      go false = g

  least-found : (a : Option Job) → FollowsIfAny a → (js : List Job) → IsFirst k m js → Memᴰ m js → foldl (sooner k) a js ≡ some m
  least-found a g [] h i = absurd (Memᴰ.not-nil i)
  least-found a g (x ∷ js) h i =
      go (least-found (sooner k a x) (follows_still a x g (h x (Memᴰ.head refl))) js (λ j n. h j (Memᴰ.tail n))) (Memᴰ.cases_cons i)
    where
      go : (Memᴰ m js → foldl (sooner k) (sooner k a x) js ≡ some m) → (m ≡ x) ⊎ Memᴰ m js → foldl (sooner k) (sooner k a x) js ≡ some m
      go later (inl e) =
          ap (λ j. foldl (sooner k) (sooner k a j) js) (sym e) ∙ ap (λ c. foldl (sooner k) c js) (comes_first a g) ∙ found_first js (λ j n. h j (Memᴰ.tail n))
      go later (inr n) = later n

  -- a job whose key is below that of every other is the first
  pub least-key-first : (js : List Job) → IsFirst k m js → Memᴰ m js → first k js ≡ some m
  unfolding first
  least-key-first js h i = least-found none tt js h i

-- the first is a job of the list
module _ (k : Job → List ℕ) {c : Job} where
  found_among : (a : Option Job) (js : List Job) → foldl (sooner k) a js ≡ some c → (a ≡ some c) ⊎ Memᴰ c js
  found_among a [] e = inl e
  found_among a (x ∷ js) e = ⊎_elim (of a) (λ m. inr (Memᴰ.tail m)) (found_among (sooner k a x) js e)
    where
      of : (a : Option Job) → sooner k a x ≡ some c → (a ≡ some c) ⊎ Memᴰ c (x ∷ js)
      of none h = inr (Memᴰ.head (sym (some-injective x c h)))
      of (some m) h = go (key_below (k x) (k m)) h
        where
          go : (b : Bool) → some (cond b x m) ≡ some c → (some m ≡ some c) ⊎ Memᴰ c (x ∷ js)
          go true e' = inr (Memᴰ.head (sym (some-injective x c e')))
          go false e' = inl e'

  pub first-among : (js : List Job) → first k js ≡ some c → Memᴰ c js
  unfolding first
  first-among js e = ⊎_elim (λ h. absurd (none-ne-some c h)) (λ m. m) (found_among none js e)

-- ---- one slot

-- whatever it chooses, it changes the id of every job alike
pub after_id : (c : Option Job) (j : Job) → id_of (after_choice c j) ≡ id_of (tick j)
after_id none j = refl
after_id (some chosen) j = refl

-- it lowers the slots left of a job by 1 and its work by at most 1
after-left : (c : Option Job) (j : Job) → (after_choice c j).left ≡ j.left - 1
after-left c j = ap (λ (i : JobId). i.left) (after_id c j)

after-work : (c : Option Job) (j : Job) → j.work ≤ suc (after_choice c j).work
after-work none j = omega arith
after-work (some chosen) j = go (is_job chosen j)
  where
    go : (b : Bool) → j.work ≤ suc (cond b (j.work - 1) j.work)
    go true = omega arith
    go false = omega arith

-- and never raises it
pub after_less : (c : Option Job) (j : Job) → (after_choice c j).work ≤ j.work
after_less none j = omega arith
after_less (some chosen) j = go (is_job chosen j)
  where
    go : (b : Bool) → cond b (j.work - 1) j.work ≤ j.work
    go true = omega arith
    go false = omega arith

-- so a job that can't finish can't finish after it
still-hopeless : (c : Option Job) {j : Job} → Hopeless j → 1 < j.left → Hopeless (after_choice c j)
still-hopeless c {j} h more = record {
  present = omega (arith, after-left c j);
  short = omega (arith, after-left c j, after-work c j, h.short);
}

module _ (P : Plan) where
  -- the jobs that it leaves
  slot-jobs : (js : List Job) (l : ℕ) → (slot P js l).jobs ≡ keep stays (map (after_choice (chosen_in P js l)) (ready P js l))
  unfolding slot
  slot-jobs js l = go (chosen_in P js l)
    where
      go : (c : Option Job) → (run_first P.tasks (ready P js l) c).jobs ≡ keep stays (map (after_choice c) (ready P js l))
      go none = refl
      go (some chosen) = ap (keep stays) (map-map tick (worked chosen) (ready P js l))

  -- each of them was there before, and has work and slots left
  pub of-slot : (js : List Job) (l : ℕ) {j : Job} → Memᴰ j (slot P js l).jobs →
      (x : Job) × Memᴰ x (ready P js l) × (after_choice (chosen_in P js l) x ≡ j) × (0 < j.work) × (0 < j.left)
  of-slot js l {j} m =
      let after = map (after_choice (chosen_in P js l)) (ready P js l) in
      let kept = mem-of-keep stays after (subst (Memᴰ j) (slot-jobs js l) m) in
      let before = Memᴰ.of_map (after_choice (chosen_in P js l)) (ready P js l) kept.0 in
      let two = both (ltb 0 j.work) (ltb 0 j.left) kept.1 in
      (before.0, before.1, before.2, ltb-true 0 j.work two.0, ltb-true 0 j.left two.1)

  -- the job that was chosen ran
  pub slot-ran : (js : List Job) (l : ℕ) {c : Job} → chosen_in P js l ≡ some c → (slot P js l).ran ≡ some (id_of (tick c))
  unfolding slot
  slot-ran js l e = ap (λ c. (run_first P.tasks (ready P js l) c).ran) e

  -- and no other
  pub of-ran : (js : List Job) (l : ℕ) {i : JobId} → (slot P js l).ran ≡ some i → (c : Job) × (chosen_in P js l ≡ some c) × (id_of (tick c) ≡ i)
  unfolding slot
  of-ran js l {i} e = go (chosen_in P js l) refl e
    where
      go : (c : Option Job) → chosen_in P js l ≡ c → (run_first P.tasks (ready P js l) c).ran ≡ some i → (c : Job) × (chosen_in P js l ≡ some c) × (id_of (tick c) ≡ i)
      go none is h = absurd (none-ne-some i h)
      go (some c) is h = (c, is, some-injective (id_of (tick c)) i h)

  -- the next slot finds what is there
  pub is-ready : {js : List Job} {j : Job} (l : ℕ) → Memᴰ j js → Memᴰ j (ready P js l)
  unfolding ready
  is-ready l m = Memᴰ.append_left (new_jobs P.tasks l 1) m

  -- and leaves what has work and slots left after it
  pub stays_there : {js : List Job} {j : Job} (l : ℕ) → Memᴰ j js → 0 < (after_choice (chosen_in P js l) j).work → 0 < (after_choice (chosen_in P js l) j).left →
      Memᴰ (after_choice (chosen_in P js l) j) (slot P js l).jobs
  stays_there {js} {j} l m w h =
      let after = after_choice (chosen_in P js l) j in
      subst (Memᴰ after) (sym (slot-jobs js l))
      (mem-keep stays (Memᴰ.map (after_choice (chosen_in P js l)) (is-ready l m)) (rw (lt-ltb 0 after.work w, lt-ltb 0 after.left h)))

  -- what a slot leaves has slots left
  left_over : (js : List Job) (l : ℕ) (k : Job) → Memᴰ k (slot P js l).jobs → 0 < k.left
  left_over js l k m = (of-slot js l m).4

  -- a job that can't finish has work for more than this slot
  hopeless-unpaid : (js : List Job) (j : Job) → Memᴰ j js → Hopeless j → Unpaid P js j
  unfolding slot
  hopeless-unpaid js j m h = record {
    chosen = λ l before. least-key-first (key_of P) j (ready P js l) before (is-ready l m);
    runs = λ l e. (
      slot-ran js l e,
      ap (λ c. (run_first P.tasks (ready P js l) c).gain) e ∙ rw (ne_eqb j.work 1 (λ z. omega (arith, h.present, h.short))),
    );
  }

  -- ---- over labels

  hopeless-after : (ls : List ℕ) (js : List Job) (j : Job) → Memᴰ j js → Hopeless j → length ls < j.left →
      Memᴰ (job_after P js j ls) (jobs_after P js ls) × Hopeless (job_after P js j ls)
  hopeless-after [] js j m h lt = (m, h)
  hopeless-after (l ∷ ls) js j m h lt =
      let c = chosen_in P js l in
      let still = still-hopeless c h (omega arith) in
      hopeless-after ls (slot P js l).jobs (after_choice c j) (stays_there l m (omega (arith, still.short)) still.present) still (omega (arith, after-left c j))

  left_after : (ls : List ℕ) (js : List Job) (j : Job) → (job_after P js j ls).left ≡ j.left - length ls
  left_after [] js j = omega arith
  left_after (l ∷ ls) js j =
      let c = chosen_in P js l in
      omega (arith, left_after ls (slot P js l).jobs (after_choice c j), after-left c j)

  all_left : (ls : List ℕ) (js : List Job) → ((k : Job) → Memᴰ k js → 0 < k.left) → (k : Job) → Memᴰ k (jobs_after P js ls) → 0 < k.left
  all_left [] js h = h
  all_left (l ∷ ls) js h = all_left ls (slot P js l).jobs (left_over js l)

  gone_after : (ls : List ℕ) (js : List Job) (j : Job) → 0 < j.left → j.left ≤ length ls → Memᴰ (job_after P js j ls) (jobs_after P js ls) → ⊥
  gone_after [] js j p le m = absurd (omega arith)
  gone_after (l ∷ ls) js j p le m =
      omega (arith, left_after (l ∷ ls) js j, all_left ls (slot P js l).jobs (left_over js l) (job_after P js j (l ∷ ls)) m)

  -- a job that can't finish stays until its slots left reach 0, and never gains
  pub hopeless-stays : (js : List Job) (j : Job) → Memᴰ j js → Hopeless j → StaysUnpaid P js j
  hopeless-stays js j m h = record {
    stays = λ ls lt. (hopeless-after ls js j m h lt).0;
    hopeless = λ ls lt. (hopeless-after ls js j m h lt).1;
    unpaid = λ ls lt. let t = hopeless-after ls js j m h lt in hopeless-unpaid (jobs_after P js ls) (job_after P js j ls) t.0 t.1;
    falls = λ ls. left_after ls js j;
    leaves = λ ls le. gone_after ls js j h.present le;
  }
