-- The work of the last slots, one label more at a time.
-- Assumes nothing.
use mathlib.Core.Path.{◌≡◌, refl, sym, ap, subst, ◌∙◌}
use mathlib.Core.List.{List, [], ◌∷◌, ◌++◌, append_assoc}
use Prim.Native.Nat.{ℕ, suc, ◌+◌, ◌-◌, ◌^◌, ◌≤◌, ◌<◌}
use native.Mathlib.Nat.{zero-add}
use native.Mathlib.Decide.{dec_le, dec_lt}
use native.Mathlib.Omega.{arith}
use lib.ListN.{length, get_or, take, drop, replicate, length-append, length-replicate, length-drop, get_or-replicate, get_or-append, get_or-eq_default}
use lib.Pow.{pow_pos}
use lib.Seq.{length-take-le, take_all, take-length, drop-cons, drop-drop, drop-append-le, drop-append-add, take-append-add, get_or-take, get_or-drop}
use Rattle.model.specs.Bytes.{part, overwrite}
use Rattle.model.specs.Lists.{sum_of}
use Rattle.model.specs.Plan.{Task}
use Rattle.model.specs.Slot.{new_jobs}
use Rattle.model.specs.Cap.{kept, label_work, work_of, cap_run}
use Rattle.theory.proofs.Cap.{kept-keeps}
use Rattle.theory.proofs.Cycles.{sum_of-append}
use Rattle.words.proofs.Memory.{get_or_skip, part_length, overwrite-all, overwrite_join}
use Rattle.cap.specs.View.{places, padded}

-- an empty label releases nothing
no_release : (ts : List Task) (i : ℕ) → sum_of (λ j. j.work) (new_jobs ts 0 i) ≡ 0
no_release [] i = refl
no_release (t ∷ ts) i = no_release ts (suc i)

-- the label so many slots back from the end of a log
abbrev pub label_back : ℕ → List ℕ → ℕ
label_back back log = get_or (padded log) (length log + (places - back)) 0

module _ (log : List ℕ) where
  pub padded-length : length (padded log) ≡ places + length log
  padded-length = length-append (replicate places 0) log ∙ ap (λ (n : ℕ). n + length log) (length-replicate {A = ℕ} places 0)

  back_there : (back : ℕ) → back ≤ places → back ≤ length log → label_back back log ≡ get_or log (length log - back) 0
  back_there back few h =
      let at : length log + (places - back) ≡ places + (length log - back) = omega arith in
      ap (λ (n : ℕ). get_or (padded log) n 0) at ∙ get_or_skip (replicate places 0) log places (length log - back) (length-replicate {A = ℕ} places 0)

  in_front_lem : (n : ℕ) → n < places → get_or (padded log) n 0 ≡ 0
  in_front_lem n h = get_or-append (replicate places 0) log 0 n (omega (arith, length-replicate {A = ℕ} places 0)) ∙ get_or-replicate places n 0 0 h

  -- the labels are below a bound, and so are the empty ones before them
  pub padded-below : (bound : ℕ) → 0 < bound → ((t : ℕ) → t < length log → get_or log t 0 < bound) → (n : ℕ) → get_or (padded log) n 0 < bound
  padded-below bound some below n = by (dec_lt n places) (dec_lt (n - places) (length log))
    where
      behind : places ≤ n → get_or (padded log) n 0 ≡ get_or log (n - places) 0
      behind h =
          let at : n ≡ places + (n - places) = omega arith in
          ap (λ (m : ℕ). get_or (padded log) m 0) at ∙ get_or_skip (replicate places 0) log places (n - places) (length-replicate {A = ℕ} places 0)

      by : Dec (n < places) → Dec (n - places < length log) → get_or (padded log) n 0 < bound
      by (yes h) d = omega (arith, in_front_lem n h)
      by (no h) (yes g) = omega (arith, behind (omega arith), below (n - places) g)
      by (no h) (no g) = omega (arith, behind (omega arith), get_or-eq_default log 0 {n = n - places} (omega arith))

module _ (ts : List Task) (log : List ℕ) (k : ℕ) (some-slot : 1 ≤ k) (few : k ≤ places) where
  -- the oldest of the last k slots, and the others of them
  oldest_first : work_of ts (drop (length log - k) log) ≡ label_work ts (label_back k log) + work_of ts (drop (suc (length log) - k) log)
  oldest_first = by (dec_le k (length log))
    where
      by : Dec (k ≤ length log) → work_of ts (drop (length log - k) log) ≡ label_work ts (label_back k log) + work_of ts (drop (suc (length log) - k) log)
      by (yes h) =
          let next : suc (length log - k) ≡ suc (length log) - k = omega arith in
          ap (work_of ts) (drop-cons log (length log - k) 0 (omega arith))
          ∙ (λ i. label_work ts (sym (back_there log k few h) i) + work_of ts (drop (next i) log))
      by (no h) =
          let here : length log - k ≡ 0 = omega arith in
          let next : suc (length log) - k ≡ 0 = omega arith in
          omega (
            arith,
            ap (λ (n : ℕ). work_of ts (drop n log)) here,
            ap (λ (n : ℕ). work_of ts (drop n log)) next,
            ap (label_work ts) (in_front_lem log (length log + (places - k)) (omega arith)),
            no_release ts 1,
          )

  pub oldest_within : label_work ts (label_back k log) ≤ work_of ts (drop (length log - k) log)
  oldest_within = omega (arith, oldest_first)

  -- one label more: its work joins, and that of the oldest slot leaves
  pub sum-next : (l : ℕ) → work_of ts (drop (suc (length log) - k) (log ++ (l ∷ []))) + label_work ts (label_back k log) ≡ work_of ts (drop (length log - k) log) + label_work ts l
  sum-next l =
      let rest = drop (suc (length log) - k) log in
      omega (
        arith,
        oldest_first,
        ap (work_of ts) (drop-append-le (suc (length log) - k) log (l ∷ []) (omega arith)),
        sum_of-append (label_work ts) rest (l ∷ []),
      )

  -- where the log keeps the cap, the last k slots do
  pub kept-within : (w : ℕ) → cap_run ts k w log ≡ kept → work_of ts (drop (length log - k) log) ≤ w
  kept-within w e =
      subst (λ (l : List ℕ). work_of ts l ≤ w) (take_all k (drop (length log - k) log) (omega (arith, length-drop (length log - k) log)))
      ((kept-keeps ts k w log e).rows (length log - k))

-- where the log keeps the cap, the last labels and the empty ones before them are the tasks' own
pub kept_own : (ts : List Task) (k w : ℕ) (log : List ℕ) → cap_run ts k w log ≡ kept → (n : ℕ) → get_or (padded log) n 0 < 2 ^ length ts
kept_own ts k w log e n = padded-below log (2 ^ length ts) (pow_pos (length ts)) (kept-keeps ts k w log e).labels n

-- the last labels of a log, and more labels behind them
module _ (log last labels : List ℕ) (last-is : last ≡ drop (length log) (padded log)) where
  joined : last ++ labels ≡ drop (length log) (padded log ++ labels)
  joined =
      ap (λ (l : List ℕ). l ++ labels) last-is
      ∙ sym (drop-append-le (length log) (padded log) labels (omega (arith, padded-length log)))

  -- the label so many slots back, where i of them are counted
  pub back_is : (k i : ℕ) → 1 ≤ k → k ≤ places → i ≤ length labels → get_or (last ++ labels) (i + (places - k)) 0 ≡ label_back k (log ++ take i labels)
  back_is k i some few h =
      let at : length log + (i + (places - k)) ≡ length (log ++ take i labels) + (places - k) =
      omega (arith, length-append log (take i labels), length-take-le i labels h) in
      let whole = padded log ++ labels in
      let low : length (log ++ take i labels) + (places - k) < length (padded log) + i =
      omega (arith, padded-length log, length-append log (take i labels), length-take-le i labels h) in
      ap (λ (l : List ℕ). get_or l (i + (places - k)) 0) joined
      ∙ get_or-drop (length log) whole (i + (places - k)) 0
      ∙ ap (λ (n : ℕ). get_or whole n 0) at
      ∙ sym (get_or-take (length (padded log) + i) whole (length (log ++ take i labels) + (places - k)) 0 low)
      ∙ ap (λ (l : List ℕ). get_or l (length (log ++ take i labels) + (places - k)) 0)
      (take-append-add (padded log) labels i ∙ append_assoc (replicate places 0) log (take i labels))

  -- the last ones of all
  pub last_more : drop (length labels) (last ++ labels) ≡ drop (length (log ++ labels)) (padded (log ++ labels))
  last_more =
      ap (drop (length labels)) joined
      ∙ drop-drop (length labels) (length log) (padded log ++ labels)
      ∙ (λ i. drop (sym (length-append log labels) i) (append_assoc (replicate places 0) log labels i))

-- the last labels as they are written: the last of more labels, or what is left of those before with all of them
module _ (last labels zeros : List ℕ) (size : length last ≡ places) (room : length zeros ≡ places) where
  pub pushed_many : places ≤ length labels → overwrite zeros 0 (part labels (length labels - places) places) ≡ drop (length labels) (last ++ labels)
  pushed_many h =
      let at : length labels ≡ length last + (length labels - places) = omega arith in
      overwrite-all zeros (part labels (length labels - places) places) (part_length labels (length labels - places) places (omega arith) ∙ sym room)
      ∙ take_all places (drop (length labels - places) labels) (omega (arith, length-drop (length labels - places) labels))
      ∙ sym (drop-append-add last labels (length labels - places))
      ∙ ap (λ (n : ℕ). drop n (last ++ labels)) (sym at)

  pub pushed_few : length labels < places →
      overwrite (overwrite zeros 0 (part last (length labels) (places - length labels))) (places - length labels) (part labels 0 (length labels))
      ≡ drop (length labels) (last ++ labels)
  pushed_few h =
      let n = length labels in
      let kept-part : part last n (places - n) ≡ drop n last = take_all (places - n) (drop n last) (omega (arith, length-drop n last)) in
      let long : length (drop n last) ≡ places - n = length-drop n last ∙ ap (λ (m : ℕ). m - n) size in
      (λ i. overwrite (overwrite zeros 0 (kept-part i)) (sym long i) (take-length labels i))
      ∙ ap (λ (m : ℕ). overwrite (overwrite zeros 0 (drop n last)) m labels) (sym (zero-add (length (drop n last))))
      ∙ overwrite_join zeros 0 (drop n last) labels (omega (arith, long))
      ∙ overwrite-all zeros (drop n last ++ labels) (omega (arith, long, length-append (drop n last) labels))
      ∙ sym (drop-append-le n last labels (omega arith))
