-- What is answered for a log that is held against a cap: part by part, and what the answer says.
-- Assumes nothing.
use mathlib.Core.Path.{◌≡◌, refl, sym, ap, subst, ◌∙◌}
use Prim.Native.Nat.{ℕ, zero, suc, ◌+◌, ◌-◌, ◌^◌, ◌≤◌, ◌<◌}
use native.Mathlib.Nat.{zero-add}
use native.Mathlib.Decide.{dec_lt, dec_le}
use native.Mathlib.Omega.{arith}
use mathlib.Core.Bool.{Bool, true, false, cond}
use mathlib.Core.List.{List, [], ◌∷◌, ◌++◌, map, map-append}
use borrow.Author.Tests.{leb-true, leb-false, ltb-true, ltb-false, le-leb, lt-leb, lt-ltb, le-ltb}
use lib.Dec.{ltb}
use lib.ListN.{length, get_or, take, drop, length-append, length-take, length-drop, get_or-append}
use lib.Seq.{take_all, take-length, take-nil, drop-nil, take-take, drop-drop, take-append-le, get_or-take, get_or-append_seam, length-take-le}
use Rattle.model.specs.Lists.{sum_of, up_from}
use Rattle.model.specs.Refusals.{not_admitted, bad_cap}
use Rattle.model.specs.Plan.{Task, Plan, PlanAnswer, faulty, sound, read_plan}
use Rattle.model.specs.Cap.{label_work, work_of, last_slots, exceeds, foreign, CapAnswer, refused, over, kept, slot_tells, earlier, earliest, cap_run, cap_in_range, cap_plan, cap, Keeps, FirstOver, FirstForeign, Says, Exact, CapClaim}
use Rattle.model.proofs.Lists.{map_same, mem-of-up_from, up_from-append}

-- ---- the answer, part by part

earlier-kept : (a : CapAnswer) → earlier a kept ≡ a
earlier-kept (refused n) = refl
earlier-kept (over t) = refl
earlier-kept kept = refl

earlier_twice : (a b : CapAnswer) → earlier a (earlier a b) ≡ earlier a b
earlier_twice (refused n) b = refl
earlier_twice (over t) b = refl
earlier_twice kept b = refl

earlier-then : (a b c : CapAnswer) → earlier a (earlier b c) ≡ earlier (earlier a b) c
earlier-then (refused n) b c = refl
earlier-then (over t) b c = refl
earlier-then kept b c = refl

earliest-append : (as' bs : List CapAnswer) → earliest (as' ++ bs) ≡ earlier (earliest as') (earliest bs)
earliest-append [] bs = refl
earliest-append (a ∷ as') bs = ap (earlier a) (earliest-append as' bs) ∙ earlier-then a (earliest as') (earliest bs)

module _ (ts : List Task) (k w : ℕ) where
  -- what a slot tells goes by the labels up to it
  tells-before : (log rest : List ℕ) (t : ℕ) → t < length log → slot_tells ts k w (log ++ rest) t ≡ slot_tells ts k w log t
  unfolding exceeds
  tells-before log rest t h =
      let label : get_or (log ++ rest) t 0 ≡ get_or log t 0 = get_or-append log rest 0 t h in
      let labels : take (suc t) (log ++ rest) ≡ take (suc t) log = take-append-le (suc t) log rest (omega arith) in
      λ i. cond (foreign ts (label i)) (refused not_admitted) (cond (ltb w (work_of ts (drop (suc t - k) (labels i)))) (over t) kept)

  -- a log and a part behind it
  cap-append : (log rest : List ℕ) →
      cap_run ts k w (log ++ rest) ≡ earlier (cap_run ts k w log) (earliest (map (slot_tells ts k w (log ++ rest)) (up_from (length log) (length rest))))
  unfolding cap_run
  cap-append log rest =
      let tells = slot_tells ts k w (log ++ rest) in
      ap (λ (n : ℕ). earliest (map tells (up_from 0 n))) (length-append log rest)
      ∙ ap (λ (l : List ℕ). earliest (map tells l)) (up_from-append 0 (length log) (length rest) ∙ ap (λ (n : ℕ). up_from 0 (length log) ++ up_from n (length rest)) (zero-add (length log)))
      ∙ ap earliest (map-append tells (up_from 0 (length log)) (up_from (length log) (length rest)))
      ∙ earliest-append (map tells (up_from 0 (length log))) (map tells (up_from (length log) (length rest)))
      ∙ ap (λ (l : List CapAnswer). earlier (earliest l) (earliest (map tells (up_from (length log) (length rest)))))
      (map_same tells (slot_tells ts k w log) (up_from 0 (length log)) (λ t m. tells-before log rest t (omega (arith, (mem-of-up_from 0 (length log) m).1))))

  -- what is told of a log is told of every longer one
  pub run-told : (log rest : List ℕ) → cap_run ts k w (log ++ rest) ≡ earlier (cap_run ts k w log) (cap_run ts k w (log ++ rest))
  run-told log rest =
      let later = earliest (map (slot_tells ts k w (log ++ rest)) (up_from (length log) (length rest))) in
      cap-append log rest ∙ sym (earlier_twice (cap_run ts k w log) later) ∙ ap (earlier (cap_run ts k w log)) (sym (cap-append log rest))

  -- one label more
  module _ (log : List ℕ) (l : ℕ) where
    abbrev more : List ℕ
    more = log ++ (l ∷ [])

    last-slots : last_slots k more (length log) ≡ drop (suc (length log) - k) more
    last-slots = ap (drop (suc (length log) - k)) (take_all (suc (length log)) more (omega (arith, length-append log (l ∷ []))))

    cap-next : cap_run ts k w log ≡ kept → cap_run ts k w more ≡ slot_tells ts k w more (length log)
    cap-next e =
        cap-append log (l ∷ [])
        ∙ ap (λ (a : CapAnswer). earlier a (earlier (slot_tells ts k w more (length log)) kept)) e
        ∙ earlier-kept (slot_tells ts k w more (length log))

    label_is : get_or more (length log) 0 ≡ l
    label_is = get_or-append_seam log l [] 0

    tells_by : (f e : Bool) → foreign ts l ≡ f → ltb w (work_of ts (drop (suc (length log) - k) more)) ≡ e →
        slot_tells ts k w more (length log) ≡ cond f (refused not_admitted) (cond e (over (length log)) kept)
    unfolding exceeds
    tells_by f e p q =
        (λ i. cond (foreign ts (label_is i)) (refused not_admitted) (cond (ltb w (work_of ts (last-slots i))) (over (length log)) kept))
        ∙ (λ i. cond (p i) (refused not_admitted) (cond (q i) (over (length log)) kept))

    module _ (before : cap_run ts k w log ≡ kept) where
      pub next-foreign : 2 ^ length ts ≤ l → cap_run ts k w more ≡ refused not_admitted
      next-foreign h = cap-next before ∙ tells_by true (ltb w (work_of ts (drop (suc (length log) - k) more))) (le-leb _ _ h) refl

      pub next-over : l < 2 ^ length ts → w < work_of ts (drop (suc (length log) - k) more) → cap_run ts k w more ≡ over (length log)
      next-over h o = cap-next before ∙ tells_by false true (lt-leb _ _ h) (lt-ltb _ _ o)

      pub next-kept : l < 2 ^ length ts → work_of ts (drop (suc (length log) - k) more) ≤ w → cap_run ts k w more ≡ kept
      next-kept h o = cap-next before ∙ tells_by false false (lt-leb _ _ h) (le-ltb _ _ o)

-- ---- the answer for plan bytes

module _ (plan log : List ℕ) (k w : ℕ) where
  pub cap-faulty : (n : ℕ) → read_plan plan ≡ faulty n → cap plan log k w ≡ refused n
  unfolding cap
  cap-faulty n e = ap (λ (a : PlanAnswer). cap_plan a k w log) e

  pub cap-sound : (P : Plan) → read_plan plan ≡ sound P → (b : Bool) → cap_in_range k w ≡ b → cap plan log k w ≡ cond b (cap_run P.tasks k w log) (refused bad_cap)
  unfolding cap
  cap-sound P e b ranged = ap (λ (a : PlanAnswer). cap_plan a k w log) e ∙ ap (λ (x : Bool). cond x (cap_run P.tasks k w log) (refused bad_cap)) ranged

-- what is told of a log is told of every longer one: fed in parts, a log has the answer of the whole
pub cap-told : (plan log rest : List ℕ) (k w : ℕ) → cap plan (log ++ rest) k w ≡ earlier (cap plan log k w) (cap plan (log ++ rest) k w)
unfolding cap
cap-told plan log rest k w = by (read_plan plan)
  where
    ranged : (P : Plan) (b : Bool) →
        cond b (cap_run P.tasks k w (log ++ rest)) (refused bad_cap)
        ≡ earlier (cond b (cap_run P.tasks k w log) (refused bad_cap)) (cond b (cap_run P.tasks k w (log ++ rest)) (refused bad_cap))
    ranged P true = run-told P.tasks k w log rest
    ranged P false = refl

    by : (a : PlanAnswer) → cap_plan a k w (log ++ rest) ≡ earlier (cap_plan a k w log) (cap_plan a k w (log ++ rest))
    by (faulty n) = refl
    by (sound P) = ranged P (cap_in_range k w)

-- ---- what it says

-- slots before the place m are those of the first m
part_of {ℓ} : {A : Type ℓ} (k a m : ℕ) (l : List A) → a + k ≤ m → take k (drop a (take m l)) ≡ take k (drop a l)
part_of k zero m l h = take-take k m l (omega (arith, h))
part_of k (suc a) m [] h = ap (λ z. take k (drop (suc a) z)) (take-nil m)
part_of k (suc a) zero (x ∷ l) h = absurd (omega (arith, h))
part_of k (suc a) (suc m) (x ∷ l) h = part_of k a m l (omega (arith, h))

-- fewer labels have no more work
sum_drop {ℓ} : {A : Type ℓ} (f : A → ℕ) (n : ℕ) (l : List A) → sum_of f (drop n l) ≤ sum_of f l
sum_drop f zero l = omega arith
sum_drop f (suc n) [] = omega arith
sum_drop f (suc n) (x ∷ l) = omega (arith, sum_drop f n l)

sum-take {ℓ} : {A : Type ℓ} (f : A → ℕ) (n : ℕ) (l : List A) → sum_of f (take n l) ≤ sum_of f l
sum-take f zero l = omega arith
sum-take f (suc n) [] = omega arith
sum-take f (suc n) (x ∷ l) = omega (arith, sum-take f n l)

module _ (ts : List Task) (k w : ℕ) (log : List ℕ) where
  -- one slot more
  keeps-next : (t : ℕ) → t < length log → Keeps ts k w (take t log) → get_or log t 0 < 2 ^ length ts → work_of ts (last_slots k log t) ≤ w →
      Keeps ts k w (take (suc t) log)
  keeps-next t h sofar l e = record { labels = labels; rows = λ a. rows a (dec_le (a + k) t) }
    where
      long : length (take (suc t) log) ≡ suc t
      long = length-take-le (suc t) log (omega (arith, h))

      before : length (take t log) ≡ t
      before = length-take-le t log (omega (arith, h))

      labels : (j : ℕ) → j < length (take (suc t) log) → get_or (take (suc t) log) j 0 < 2 ^ length ts
      labels j i = by (dec_lt j t)
        where
          by : Dec (j < t) → get_or (take (suc t) log) j 0 < 2 ^ length ts
          by (yes p) =
              subst (λ (x : ℕ). x < 2 ^ length ts) (get_or-take t log j 0 p ∙ sym (get_or-take (suc t) log j 0 (omega (arith, p))))
              (sofar.labels j (omega (arith, p, before)))
          by (no p) =
              let j-is : j ≡ t = omega (arith, p, i, long) in
              subst (λ (x : ℕ). x < 2 ^ length ts) (ap (λ (y : ℕ). get_or log y 0) (sym j-is) ∙ sym (get_or-take (suc t) log j 0 (omega (arith, j-is)))) l

      rows : (a : ℕ) → Dec (a + k ≤ t) → work_of ts (take k (drop a (take (suc t) log))) ≤ w
      rows a (yes p) =
          subst (λ z. work_of ts z ≤ w) (part_of k a t log p ∙ sym (part_of k a (suc t) log (omega (arith, p)))) (sofar.rows a)
      rows a (no p) =
          let whole : take k (drop a (take (suc t) log)) ≡ drop a (take (suc t) log) =
          take_all k (drop a (take (suc t) log)) (omega (arith, p, long, length-drop a (take (suc t) log))) in
          let at : (suc t - k) + (a - (suc t - k)) ≡ a = omega (arith, p) in
          let tail : drop (a - (suc t - k)) (last_slots k log t) ≡ drop a (take (suc t) log) =
          drop-drop (a - (suc t - k)) (suc t - k) (take (suc t) log) ∙ ap (λ (n : ℕ). drop n (take (suc t) log)) at in
          subst (λ z. work_of ts z ≤ w) (tail ∙ sym whole) (omega (arith, e, sum_drop (label_work ts) (a - (suc t - k)) (last_slots k log t)))

  from : (n t : ℕ) → t + n ≡ length log → Keeps ts k w (take t log) → Says ts k w log (earliest (map (slot_tells ts k w log) (up_from t n)))
  unfolding exceeds
  from zero t h sofar = subst (Keeps ts k w) (take_all t log (omega (arith, h))) sofar
  from (suc n) t h sofar = by (foreign ts (get_or log t 0)) (ltb w (work_of ts (last_slots k log t))) refl refl (λ more. from n (suc t) (omega (arith, h)) more)
    where
      later : CapAnswer
      later = earliest (map (slot_tells ts k w log) (up_from (suc t) n))

      by : (f e : Bool) → foreign ts (get_or log t 0) ≡ f → ltb w (work_of ts (last_slots k log t)) ≡ e →
          (Keeps ts k w (take (suc t) log) → Says ts k w log later) →
          Says ts k w log (earlier (cond f (refused not_admitted) (cond e (over t) kept)) later)
      by true e p q go = (refl, t, record { slot = omega (arith, h); before = sofar; label = leb-true _ _ p })
      by false true p q go = record { slot = omega (arith, h); before = sofar; label = leb-false _ _ p; more = ltb-true _ _ q }
      by false false p q go = go (keeps-next t (omega (arith, h)) sofar (leb-false _ _ p) (ltb-false _ _ q))

  says : Says ts k w log (cap_run ts k w log)
  unfolding cap_run
  says =
      from (length log) 0 (omega arith)
      (record {
        labels = λ t h. absurd (omega (arith, h));
        rows = λ t. subst (λ z. work_of ts z ≤ w) (sym (ap (take k) (drop-nil t) ∙ take-nil k)) (omega arith);
      })

-- a log of which nothing is told keeps the cap
pub kept-keeps : (ts : List Task) (k w : ℕ) (log : List ℕ) → cap_run ts k w log ≡ kept → Keeps ts k w log
kept-keeps ts k w log e = subst (Says ts k w log) e (says ts k w log)

-- ---- and nothing else is said

drop-take {ℓ} : {A : Type ℓ} (a n j : ℕ) (l : List A) → n ≡ a + j → drop a (take n l) ≡ take j (drop a l)
drop-take zero n j l e = let same : n ≡ j = omega arith in ap (λ (m : ℕ). take m l) same
drop-take (suc a) n j [] e = ap (drop (suc a)) (take-nil n) ∙ sym (take-nil j)
drop-take (suc a) zero j (x ∷ l) e = absurd (omega arith)
drop-take (suc a) (suc n) j (x ∷ l) e = drop-take a n j l (omega arith)

module _ (ts : List Task) (k w : ℕ) (log : List ℕ) where
  -- in the first m slots the last k of each keep the cap, and so does its label
  module _ (m : ℕ) (keeps : Keeps ts k w (take m log)) (t : ℕ) (h : t < m) (inside : t < length log) where
    label-before : get_or log t 0 < 2 ^ length ts
    label-before =
        subst (λ (l : ℕ). l < 2 ^ length ts) (get_or-take m log t 0 h) (keeps.labels t (omega (arith, length-take m log)))

    work-before : work_of ts (last_slots k log t) ≤ w
    work-before =
        let a = suc t - k in
        let j = suc t - a in
        let few : j ≤ k = omega arith in
        let part : last_slots k log t ≡ take j (take k (drop a (take m log))) =
        ap (drop a) (sym (take-take (suc t) m log (omega arith)))
        ∙ drop-take a (suc t) j (take m log) (omega arith)
        ∙ sym (take-take j k (drop a (take m log)) few) in
        omega (arith, ap (work_of ts) part, sum-take (label_work ts) j (take k (drop a (take m log))), keeps.rows a)

  no_over : (m t : ℕ) → Keeps ts k w (take m log) → t < m → FirstOver ts k w log t → ⊥
  no_over m t keeps h x = omega (arith, work-before m keeps t h x.slot, x.more)

  no_foreign : (m t : ℕ) → Keeps ts k w (take m log) → t < m → FirstForeign ts k w log t → ⊥
  no_foreign m t keeps h x = omega (arith, label-before m keeps t h x.slot, x.label)

  all-keeps : Keeps ts k w log → Keeps ts k w (take (length log) log)
  all-keeps keeps = subst (Keeps ts k w) (sym (take-length log)) keeps

  one-over : (t u : ℕ) → FirstOver ts k w log t → FirstOver ts k w log u → Dec (t < u) → Dec (u < t) → t ≡ u
  one-over t u x y (yes h) d = absurd (no_over u t y.before h x)
  one-over t u x y (no h) (yes g) = absurd (no_over t u x.before g y)
  one-over t u x y (no h) (no g) = omega arith

  not_both : (t u : ℕ) → FirstForeign ts k w log t → FirstOver ts k w log u → Dec (t < u) → Dec (u < t) → ⊥
  not_both t u x y (yes h) d = no_foreign u t y.before h x
  not_both t u x y (no h) (yes g) = no_over t u x.before g y
  not_both t u x y (no h) (no g) =
      let same : t ≡ u = omega arith in
      omega (arith, x.label, y.label, ap (λ (s : ℕ). get_or log s 0) same)

  once : (a b : CapAnswer) → Says ts k w log a → Says ts k w log b → a ≡ b
  once (refused n) (refused m) (p, t, x) (q, u, y) = ap refused (p ∙ sym q)
  once (refused n) (over u) (p, t, x) y = absurd (not_both t u x y (dec_lt t u) (dec_lt u t))
  once (refused n) kept (p, t, x) y = absurd (no_foreign (length log) t (all-keeps y) x.slot x)
  once (over t) (refused m) x (q, u, y) = absurd (not_both u t y x (dec_lt u t) (dec_lt t u))
  once (over t) (over u) x y = ap over (one-over t u x y (dec_lt t u) (dec_lt u t))
  once (over t) kept x y = absurd (no_over (length log) t (all-keeps y) x.slot x)
  once kept (refused m) x (q, u, y) = absurd (no_foreign (length log) u (all-keeps x) y.slot y)
  once kept (over u) x y = absurd (no_over (length log) u (all-keeps x) y.slot y)
  once kept kept x y = refl

pub cap-claim : CapClaim
cap-claim plan log k w P read ranged =
    let answer = cap_run P.tasks k w log in
    subst (Exact P.tasks k w log) (sym (cap-sound plan log k w P read true ranged))
    (record { says = says P.tasks k w log; only = λ b e. once P.tasks k w log answer b (says P.tasks k w log) e })
