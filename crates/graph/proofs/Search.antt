-- A choice found by its masks: the search of the choices is a test of each mask.
-- Assumes nothing.
use mathlib.Core.Path.{◌≡◌, refl, sym, ◌∙◌, ap, ap₂, subst}
use mathlib.Core.Logic.{◌⊎◌, inl, inr, ⊎_elim}
use mathlib.Core.Bool.{Bool, true, false, cond, not, ◌||◌, ◌&&◌, false≢true}
use mathlib.Core.List.Memᴰ
use mathlib.Core.List.{List, [], ◌∷◌, ◌++◌, map, Memᴰ}
use mathlib.Core.Option.{Option, none, some}
use Prim.Native.Nat.{ℕ, zero, suc, ◌+◌, ◌-◌, ◌*◌, ◌/◌, ◌%◌, ◌^◌, ◌<◌, ◌≤◌}
use native.Mathlib.Nat.{add-zero, add_assoc, div-lt_iff_lt-mul, div-one}
use native.Mathlib.Decide.{dec_lt}
use native.Mathlib.Omega.{arith}
use lib.Bits.{bit_and, bit_or}
use lib.Dec.{T, eqb, ltb}
use lib.ListN.{length, get_or, take, drop, replicate, length-append, length-replicate, drop_of_length-le}
use lib.Pow.{shr-shr, pow_pos, pow_mono}
use lib.Seq.{drop-cons}
use borrow.Author.Tests.{eq-eqb, ne_eqb, eqb-true, eqb-false, lt-ltb, ltb-true, le-ltb}
use Rattle.model.specs.Check.{padded}
use Rattle.model.specs.Graph.{choices, joined, worth}
use Rattle.model.specs.Limits.{max_tasks, max_window}
use Rattle.model.specs.Lists.{any, up_from, same_numbers, ones, bit}
use Rattle.model.specs.Masks.{mask_count, neighbouring, masks_of}
use Rattle.model.specs.Plan.{Task}
use Rattle.model.specs.Slot.{no_task}
use Rattle.model.proofs.Lists.{mem-of-flat_map, mem-flat_map, mem-of-up_from, mem-up_from}
use Rattle.model.proofs.Plan.{both}
use Rattle.model.proofs.Tests.{same_numbers_lem, any_some}
use Rattle.theory.proofs.Bits.{Apart, and-apart, zero_no_bit}
use Rattle.theory.proofs.Edges.{MaskOf, Picked, mem-masks_of, mem-choices}
use Rattle.policy.specs.View.{Tasks}
use Rattle.graph.specs.Choice.{Led, find_choice, led_by, choice_of, chosen_with, fits_task, all_zero, choice_from, next_choice}
use Rattle.graph.specs.declared.Chosen.{Chosen}

-- ---- one mask

module _ (m w : ℕ) where
  pub within : m / 2 ^ w ≡ 0 → m < 2 ^ w
  within e = let h : m / 2 ^ w < 1 = omega arith in omega (arith, (div-lt_iff_lt-mul (pow_pos w)).0 h)

  pub beyond : (m / 2 ^ w ≡ 0 → ⊥) → 2 ^ w ≤ m
  beyond ne = by (dec_lt m (2 ^ w))
    where
      by : Dec (m < 2 ^ w) → 2 ^ w ≤ m
      by (yes h) =
          let one : m < 1 * 2 ^ w = omega arith in
          let low : m / 2 ^ w < 1 = (div-lt_iff_lt-mul (pow_pos w)).1 one in
          absurd (ne (omega arith))
      by (no h) = omega arith

-- runs by their places: one of them is the mask, or none is
module _ (m run n : ℕ) where
  abbrev is : ℕ → Bool
  is k = eqb m (run * 2 ^ k)

  pub run-at : (k : ℕ) → k < n → m ≡ run * 2 ^ k → any is (up_from 0 n) ≡ true
  run-at k lt e = (any_some is (up_from 0 n)).1 (k, mem-up_from 0 n (omega arith) (omega arith), eq-eqb m (run * 2 ^ k) e)

  pub no_run : ((k : ℕ) → k < n → m ≡ run * 2 ^ k → ⊥) → any is (up_from 0 n) ≡ false
  no_run h = by (any is (up_from 0 n)) refl
    where
      by : (b : Bool) → any is (up_from 0 n) ≡ b → b ≡ false
      by false e = refl
      by true e =
          let r = (any_some is (up_from 0 n)).0 e in
          absurd (h r.0 (omega (arith, mem-of-up_from 0 n r.1)) (eqb-true m (run * 2 ^ r.0) r.2))

module _ (t : Task) (taken m : ℕ) where
  pub fits-zero : (b : Bool) → m ≡ 0 → fits_task t b taken m ≡ true
  unfolding fits_task
  fits-zero b e = rw (eq-eqb m 0 e)

  pub fits_idle : (m ≡ 0 → ⊥) → fits_task t false taken m ≡ false
  unfolding fits_task
  fits_idle ne = rw (ne_eqb m 0 ne)

  module _ (ne : m ≡ 0 → ⊥) where
    pub fits_beyond : 2 ^ t.window ≤ m → fits_task t true taken m ≡ false
    unfolding fits_task
    fits_beyond h = rw (ne_eqb m 0 ne, le-ltb m (2 ^ t.window) h)

    pub fits-other : (ones t.window m ≡ t.work → ⊥) → m < 2 ^ t.window → fits_task t true taken m ≡ false
    unfolding fits_task
    fits-other h lt = rw (ne_eqb m 0 ne, lt-ltb m (2 ^ t.window) lt, ne_eqb (ones t.window m) t.work h)

    pub fits_work : ones t.window m ≡ t.work → m < 2 ^ t.window →
        fits_task t true taken m ≡ (eqb (bit_and m taken) 0 && (not t.locked || neighbouring t.window m))
    unfolding fits_task
    fits_work h lt = rw (ne_eqb m 0 ne, lt-ltb m (2 ^ t.window) lt, eq-eqb (ones t.window m) t.work h)

-- the test of a mask decides whether it is one for the task
pub fits-mem : (t : Task) (b : Bool) (taken m : ℕ) → fits_task t b taken m ≡ true → MaskOf t b m × Apart m taken
unfolding fits_task
fits-mem t b taken m = by (eqb m 0) refl
  where
    unbroken : Bool
    unbroken = not t.locked || neighbouring t.window m

    free : Bool
    free = eqb (bit_and m taken) 0 && unbroken

    worked : Bool
    worked = eqb (ones t.window m) t.work && free

    inside : Bool
    inside = ltb m (2 ^ t.window) && worked

    by : (z : Bool) → eqb m 0 ≡ z → (z || (b && inside)) ≡ true → MaskOf t b m × Apart m taken
    by true e h = (inl (eqb-true m 0 e), λ k x _. zero_no_bit (eqb-true m 0 e) k x)
    by false e h =
        let one = both b inside h in
        let two = both (ltb m (2 ^ t.window)) worked one.1 in
        let three = both (eqb (ones t.window m) t.work) free two.1 in
        let four = both (eqb (bit_and m taken) 0) unbroken three.1 in (
          inr
              (record {
                out = subst T (sym one.0) tt;
                pos = omega (arith, eqb-false m 0 e);
                below = ltb-true m (2 ^ t.window) two.0;
                size = eqb-true (ones t.window m) t.work three.0;
                run = λ l. ap (λ (d : Bool). not d || neighbouring t.window m) (sym l) ∙ four.1;
              }),
          (and-apart m taken).0 (eqb-true (bit_and m taken) 0 four.0),
        )

pub mem-fits : (t : Task) (b : Bool) (taken m : ℕ) → MaskOf t b m × Apart m taken → fits_task t b taken m ≡ true
mem-fits t b taken m h = ⊎_elim (λ (e : m ≡ 0). fits-zero t taken m b e) (by b) h.0
  where
    by : (b : Bool) → Picked t b m → fits_task t b taken m ≡ true
    by false p = absurd p.out
    by true p =
        fits_work t taken m (λ e. omega (arith, p.pos)) p.size p.below
        ∙ ap₂ (λ (a d : Bool). a && d) (eq-eqb (bit_and m taken) 0 ((and-apart m taken).1 h.1)) (unbroken t.locked p.run)
      where
        unbroken : (l : Bool) → (l ≡ true → neighbouring t.window m ≡ true) → (not l || neighbouring t.window m) ≡ true
        unbroken true n = n refl
        unbroken false n = refl

pub fits_low : (t : Task) (b : Bool) (taken m : ℕ) → t.window ≤ max_window → fits_task t b taken m ≡ true → m < mask_count
fits_low t b taken m h e =
    ⊎_elim (λ (z : m ≡ 0). omega arith) (λ (p : Picked t b m). omega (arith, p.below, pow_mono h)) (fits-mem t b taken m e).0

-- ---- masks that are 0

pub zero-end : (l : List ℕ) (i : ℕ) → length l ≤ i → all_zero (drop i l) ≡ true
zero-end l i h = rw (drop_of_length-le l h)

pub zero_no : (l : List ℕ) (i : ℕ) → i < length l → (get_or l i 0 ≡ 0 → ⊥) → all_zero (drop i l) ≡ false
zero_no l i h ne = rw (drop-cons l i 0 h, ne_eqb (get_or l i 0) 0 ne)

pub zero_more : (l : List ℕ) (i : ℕ) → i < length l → get_or l i 0 ≡ 0 → all_zero (drop i l) ≡ all_zero (drop (i + 1) l)
zero_more l i h e = let s : suc i ≡ i + 1 = omega arith in rw (drop-cons l i 0 h, eq-eqb (get_or l i 0) 0 e) (ap (λ k. all_zero (drop k l)) s)

zeros : (k : ℕ) → all_zero (replicate k 0) ≡ true
zeros zero = refl
zeros (suc k) = zeros k

of-zeros : (l : List ℕ) → all_zero l ≡ true → l ≡ replicate (length l) 0
of-zeros [] h = refl
of-zeros (m ∷ l) h = by (of-zeros l) (eqb m 0) refl h
  where
    by : (all_zero l ≡ true → l ≡ replicate (length l) 0) → (b : Bool) → eqb m 0 ≡ b → cond b (all_zero l) false ≡ true → m ∷ l ≡ replicate (length (m ∷ l)) 0
    by later true e z = ap₂ (λ x k. x ∷ k) (eqb-true m 0 e) (later z)
    by later false e z = absurd (false≢true z)

take-zeros : (k j : ℕ) → k ≤ j → take k (replicate j 0) ≡ replicate {A = ℕ} k 0
take-zeros zero j h = refl
take-zeros (suc k) zero h = absurd (omega arith)
take-zeros (suc k) (suc j) h = ap (λ l. 0 ∷ l) (take-zeros k j (omega arith))

-- masks with a 0 for each task that is lacking
pub padded_plain : (ms : List ℕ) (k j : ℕ) → length ms ≤ k → k ≤ j → take k (ms ++ replicate j 0) ≡ ms ++ replicate (k - length ms) 0
padded_plain [] k j h h' = let e : k ≡ k - 0 = omega arith in take-zeros k j h' ∙ ap (λ n. replicate n 0) e
padded_plain (m ∷ ms) zero j h h' = absurd (omega arith)
padded_plain (m ∷ ms) (suc k) j h h' =
    let e : k - length ms ≡ suc k - length (m ∷ ms) = omega arith in
    ap (λ l. m ∷ l) (padded_plain ms k j (omega arith) (omega arith) ∙ ap (λ n. ms ++ replicate n 0) e)

-- ---- the test of each mask finds the choices

abbrev led : Tasks → Chosen → List ℕ → Led
led ts c ms = record { pattern = joined c.pattern ms / 2; gain = c.gain + worth ts ms }

choice_found : (ts : Tasks) (l : ℕ) (c : Chosen) (ms : List ℕ) (k : ℕ) → Memᴰ ms (choices ts l c.pattern)
    → choice_from ts l c (ms ++ replicate k 0) ≡ some (led ts c ms)
unfolding choices
choice_found [] l c ms k h =
    subst (λ ms. choice_from [] l c (ms ++ replicate k 0) ≡ some (led [] c ms)) (sym (Memᴰ.eq_of_singleton h))
    (ap (λ b. cond b (some (record { pattern = c.pattern / 2; gain = c.gain })) none) (zeros k)
    ∙ ap (λ g. some (record { pattern = c.pattern / 2; gain = g })) (sym (add-zero c.gain)))
choice_found (t ∷ ts) l c ms k h =
    let r = mem-of-flat_map (λ m. map (λ ms. m ∷ ms) (choices ts (l / 2) (bit_or c.pattern m))) (masks_of t (eqb (l % 2) 1) c.pattern) h in
    let m = r.0 in
    let s = Memᴰ.of_map (λ ms. m ∷ ms) (choices ts (l / 2) (bit_or c.pattern m)) r.2 in
    subst (λ ms. choice_from (t ∷ ts) l c (ms ++ replicate k 0) ≡ some (led (t ∷ ts) c ms)) s.2
    (ap (λ b. cond b (choice_from ts (l / 2) (chosen_with t c m) (s.0 ++ replicate k 0)) none)
    (mem-fits t (eqb (l % 2) 1) c.pattern m ((mem-masks_of t (eqb (l % 2) 1) c.pattern m).0 r.1))
    ∙ choice_found ts (l / 2) (chosen_with t c m) s.0 k s.1
    ∙ ap (λ g. some (record { pattern = joined (bit_or c.pattern m) s.0 / 2; gain = g }))
    (add_assoc c.gain (cond (eqb m 0) 0 t.value) (worth ts s.0)))

-- a choice and zeros
abbrev Chose : Tasks → ℕ → ℕ → List ℕ → Type 0
Chose ts l taken given = (ms : List ℕ) × Memᴰ ms (choices ts l taken) × (k : ℕ) × (given ≡ ms ++ replicate k 0)

found_choice : (ts : Tasks) (l : ℕ) (c : Chosen) (given : List ℕ) → (choice_from ts l c given ≡ none) ⊎ Chose ts l c.pattern given
unfolding choices
found_choice [] l c given = by (all_zero given) refl
  where
    by : (b : Bool) → all_zero given ≡ b → (choice_from [] l c given ≡ none) ⊎ Chose [] l c.pattern given
    by true e = inr ([], Memᴰ.head refl, length given, of-zeros given e)
    by false e = inl (ap (λ b. cond b (some (record { pattern = c.pattern / 2; gain = c.gain })) none) e)
found_choice (t ∷ ts) l c [] = inl refl
found_choice (t ∷ ts) l c (m ∷ ms) = by (found_choice ts (l / 2) (chosen_with t c m) ms) (fits_task t (eqb (l % 2) 1) c.pattern m) refl
  where
    later : Option Led
    later = choice_from ts (l / 2) (chosen_with t c m) ms

    by : (later ≡ none) ⊎ Chose ts (l / 2) (bit_or c.pattern m) ms → (b : Bool) → fits_task t (eqb (l % 2) 1) c.pattern m ≡ b
        → (choice_from (t ∷ ts) l c (m ∷ ms) ≡ none) ⊎ Chose (t ∷ ts) l c.pattern (m ∷ ms)
    by rest false e = inl (ap (λ b. cond b later none) e)
    by rest true e =
        ⊎_elim (λ n. inl (ap (λ b. cond b later none) e ∙ n))
        (λ r.
        inr (
          m ∷ r.0,
          mem-flat_map (λ m. map (λ ms. m ∷ ms) (choices ts (l / 2) (bit_or c.pattern m)))
              ((mem-masks_of t (eqb (l % 2) 1) c.pattern m).1 (fits-mem t (eqb (l % 2) 1) c.pattern m e))
              (Memᴰ.map (λ ms. m ∷ ms) r.1),
          r.2,
          ap (λ l. m ∷ l) r.3,
        )) rest

-- what the search finds
abbrev Sought : List ℕ → List (List ℕ) → Type 0
Sought given l =
    ((find_choice given l ≡ none) × ((ms : List ℕ) → Memᴰ ms l → padded ms ≡ given → ⊥))
    ⊎ ((ms : List ℕ) × Memᴰ ms l × (padded ms ≡ given) × (find_choice given l ≡ some ms))

sought : (given : List ℕ) (l : List (List ℕ)) → Sought given l
sought given [] = inl (refl, λ ms h. absurd (Memᴰ.not-nil h))
sought given (x ∷ l) = by (sought given l) (same_numbers (padded x) given) refl
  where
    by : Sought given l → (b : Bool) → same_numbers (padded x) given ≡ b → Sought given (x ∷ l)
    by rest true e = inr (x, Memᴰ.head refl, (same_numbers_lem (padded x) given).0 e, ap (λ b. cond b (some x) (find_choice given l)) e)
    by rest false e =
        ⊎_elim
        (λ n.
        inl (
          ap (λ b. cond b (some x) (find_choice given l)) e ∙ n.0,
          λ ms h p.
              ⊎_elim (λ (q : ms ≡ x). false≢true (sym e ∙ (same_numbers_lem (padded x) given).1 (ap padded (sym q) ∙ p))) (λ m. n.1 ms m p) (Memᴰ.cases_cons h),
        ))
        (λ r. inr (r.0, Memᴰ.tail r.1, r.2, ap (λ b. cond b (some x) (find_choice given l)) e ∙ r.3)) rest

module _ (ts : Tasks) (l : ℕ) (c : Chosen) (given : List ℕ) (none_yet : c.gain ≡ 0) (size : length given ≡ max_tasks) (few : length ts ≤ max_tasks) where
  plain : (ms : List ℕ) → Memᴰ ms (choices ts l c.pattern) → padded ms ≡ ms ++ replicate (max_tasks - length ms) 0
  plain ms h = padded_plain ms max_tasks max_tasks (omega (arith, ((mem-choices ts l c.pattern ms).0 h).count)) (omega arith)

  -- the search of the choices is the test of each mask
  pub choice_tested : choice_of ts l c.pattern given ≡ choice_from ts l c given
  unfolding choice_of
  choice_tested = ⊎_elim missed hit (sought given (choices ts l c.pattern))
    where
      hit : (ms : List ℕ) × Memᴰ ms (choices ts l c.pattern) × (padded ms ≡ given) × (find_choice given (choices ts l c.pattern) ≡ some ms)
          → led_by ts c.pattern (find_choice given (choices ts l c.pattern)) ≡ choice_from ts l c given
      hit (ms, h, p, e) =
          let g : worth ts ms ≡ c.gain + worth ts ms = omega arith in
          ap (led_by ts c.pattern) e ∙ ap (λ g. some (record { pattern = joined c.pattern ms / 2; gain = g })) g
          ∙ sym (choice_found ts l c ms (max_tasks - length ms) h) ∙ ap (choice_from ts l c) (sym (plain ms h) ∙ p)

      missed : (find_choice given (choices ts l c.pattern) ≡ none) × ((ms : List ℕ) → Memᴰ ms (choices ts l c.pattern) → padded ms ≡ given → ⊥)
          → led_by ts c.pattern (find_choice given (choices ts l c.pattern)) ≡ choice_from ts l c given
      missed (e, never) =
          ap (led_by ts c.pattern) e
          ∙ sym
          (⊎_elim (λ n. n)
          (λ r.
          let left : max_tasks - length r.0 ≡ r.2 = omega (arith, ap length r.3, length-append r.0 (replicate r.2 0), length-replicate {A = ℕ} r.2 0) in
          absurd (never r.0 r.1 (plain r.0 r.1 ∙ ap (λ n. r.0 ++ replicate n 0) left ∙ sym r.3))) (found_choice ts l c given))

-- ---- task by task

module _ (ts : Tasks) (l i : ℕ) (c : Chosen) (given : List ℕ) where
  abbrev task : Task
  task = get_or ts i no_task

  abbrev mask : ℕ
  mask = get_or given i 0

  -- no task is left
  pub next-last : (b : Bool) → i ≡ length ts → all_zero (drop i given) ≡ b → next_choice ts l i c given ≡ cond b (some (record { pattern = c.pattern / 2; gain = c.gain })) none
  unfolding next_choice
  next-last b e z =
      let all : length ts ≤ i = omega arith in
      rw (drop_of_length-le ts all, z)

  -- a mask for the next task
  pub next_by : (b : Bool) → i < length ts → i < length given → fits_task task (bit l i) c.pattern mask ≡ b
      → next_choice ts l i c given ≡ cond b (next_choice ts l (i + 1) (chosen_with task c mask) given) none
  unfolding next_choice
  next_by b lt inside e =
      let s : suc i ≡ i + 1 = omega arith in
      let half : l / 2 ^ i / 2 ≡ l / 2 ^ (i + 1) = shr-shr l i 1 in
      ap₂ (λ ts g. choice_from ts (l / 2 ^ i) c g)
      (drop-cons ts i no_task lt ∙ ap (λ k. task ∷ drop k ts) s)
      (drop-cons given i 0 inside ∙ ap (λ k. mask ∷ drop k given) s)
      ∙ ap₂ (λ x l. cond x (choice_from (drop (i + 1) ts) l (chosen_with task c mask) (drop (i + 1) given)) none) e half

-- no mask yet
pub choice_start : (ts : Tasks) (l taken : ℕ) (given : List ℕ) → length ts ≤ max_tasks → length given ≡ max_tasks
    → next_choice ts l 0 (record { pattern = taken; gain = 0 }) given ≡ choice_of ts l taken given
unfolding next_choice
choice_start ts l taken given few size =
    ap (λ l. choice_from ts l c given) (div-one l) ∙ sym (choice_tested ts l c given refl size few)
  where
    c : Chosen
    c = record { pattern = taken; gain = 0 }
