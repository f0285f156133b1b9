-- What a label offers: the array, and that the outcomes by it are those of the label's choices.
-- Assumes nothing.
use mathlib.Core.Path.{◌≡◌, refl, sym, ◌∙◌, ap, ap₂, subst}
use mathlib.Core.Bool.{Bool, true, false, cond}
use mathlib.Core.List.Memᴰ
use mathlib.Core.List.{List, [], ◌∷◌, ◌++◌, map, map-map, Memᴰ}
use Prim.Native.Nat.{ℕ, suc, ◌+◌, ◌-◌, ◌*◌, ◌/◌, ◌%◌, ◌^◌, ◌<◌, ◌≤◌}
use native.Mathlib.Nat.{lt_of_lt_of_le, add-zero, zero-add, add_assoc, add-mul, mul_assoc, pow-succ', zero-mul, div-one, div-div-eq-div-mul}
use native.Mathlib.Decide.{dec_lt}
use native.Mathlib.Omega.{arith}
use lib.Bits.{bit_or, or_zero_r}
use lib.Dec.{eqb, lit<}
use lib.ListN.{length, get_or, set}
use lib.Pow.{suc_ones, pow_mono}
use lib.Seq.{get_or-set_same, get_or-set_other}
use borrow.Author.Tests.{ne_eqb}
use Rattle.model.specs.Bytes.{number, part}
use Rattle.model.specs.Graph.{choices, joined, worth}
use Rattle.model.specs.Limits.{max_window}
use Rattle.model.specs.Lists.{keep, flat_map, up_from, ones, bit}
use Rattle.model.specs.Masks.{mask_count, mask_table, group_start, free_masks, bit_run, neighbouring, masks_of}
use Rattle.model.specs.Plan.{Task}
use Rattle.model.specs.Slot.{no_task}
use Rattle.model.proofs.Runs.{run_fits, run-pos}
use Rattle.model.proofs.Lists.{keep-keep, keep_same, mem-of-keep, mem-of-up_from, flat_map-same}
use Rattle.words.specs.Packed.{field_base, packed}
use Rattle.words.proofs.Packed.{packed-cons}
use Rattle.theory.proofs.Bits.{ones_below}
use Rattle.masks.specs.Clear.{clear_of, clear_in, clear_runs}
use Rattle.masks.proofs.Groups.{group_below, group-below, group-below-le, group_start-le, group-below-from-one}
use Rattle.masks.proofs.Clear.{clear_none}
use Rattle.masks.proofs.Runs.{locked-masks, locked_idle}
use Rattle.policy.specs.View.{Tasks, InRange, TasksInRange}
use Rattle.std.specs.Prelude as rust
use Rattle.policy.proofs.Lists.{map-flat_map}
use Rattle.graph.specs.Outcomes.{Outcome, outcome_in, outcomes}
use Rattle.graph.specs.Offers.{span_of, clear_span, SpanFits, no_offer, offer_in, masks_offered, OffersFit, OffersTask, OffersOf, offered}
use Rattle.graph.specs.declared.Offer.{Offer}
use Rattle.graph.specs.declared.Offers.{Offers}
use Rattle.graph.specs.declared.Span.{Span}
use Rattle.graph.specs.declared.Span.TheVariants.{Table, Runs}

-- ---- one task more is offered its masks

pub tasks-more : (offers : List Offer) (i : ℕ) (o : Offer) (ts : Tasks) (l : ℕ) → i < length offers
    → ((k : ℕ) → k < i → OffersTask (get_or ts k no_task) (bit l k) (get_or offers k no_offer)) → OffersTask (get_or ts i no_task) (bit l i) o
    → (k : ℕ) → k < i + 1 → OffersTask (get_or ts k no_task) (bit l k) (get_or (set offers i o) k no_offer)
tasks-more offers i o ts l lt so here k h = by (dec_lt k i)
  where
    by : Dec (k < i) → OffersTask (get_or ts k no_task) (bit l k) (get_or (set offers i o) k no_offer)
    by (yes below) = rw (get_or-set_other offers i k o no_offer (λ e. omega arith)) (so k below)
    by (no above) =
        let same : k ≡ i = omega arith in
        rw (same, get_or-set_same offers i o no_offer lt) here

-- ---- the masks that it offers

-- by the task, if it is locked or not and released or not: a part of the table, or runs
abbrev span_by : Task → (locked released : Bool) → Span
span_by t l b = cond b (cond l (Runs (2 ^ t.work - 1) (suc (t.window - t.work))) (Table (group_start t.work) (group_start t.work + length (group_below t.window t.work)))) (Table 0 0)

abbrev offered_by : Task → (locked released : Bool) → ℕ → List ℕ
offered_by t l b taken = clear_span taken (span_by t l b)

abbrev pub offered_to : Task → Bool → ℕ → List ℕ
offered_to t b taken = offered_by t t.locked b taken

-- what is offered a task
offered-same : (t : Task) (b : Bool) (o : Offer) (taken : ℕ) → OffersTask t b o → clear_span taken o.span ≡ offered_to t b taken
offered-same t b o taken h = ap (clear_span taken) h.span

module _ (t : Task) (h : InRange t) (taken : ℕ) where
  ones_low : (m : ℕ) → m < 2 ^ t.window → ones t.window m ≡ ones max_window m
  ones_low m lt = ones_below t.window t.window m lt (omega arith) ∙ sym (ones_below t.window max_window m lt h.window)

  abbrev low : List ℕ
  low = up_from 1 (2 ^ t.window - 1)

  -- the masks of its work within its window, in the table
  abbrev in_table : List ℕ
  in_table = clear_in taken (group_start t.work) (group_start t.work + length (group_below t.window t.work))

  -- its runs
  abbrev runs : List ℕ
  runs = clear_runs taken (2 ^ t.work - 1) (suc (t.window - t.work))

  -- "C bits below bit D, clear of the pattern", upward
  clear_group : in_table ≡ keep (clear_of taken) (keep (λ m. eqb (ones t.window m) t.work) low)
  unfolding clear_in
  clear_group =
      let size : group_start t.work + length (group_below t.window t.work) - group_start t.work ≡ length (group_below t.window t.work) = omega arith in
      ap (keep (clear_of taken))
      (ap (λ n. part mask_table (group_start t.work) n) size ∙ group-below t.work (omega (arith, h.within, h.window)) t.window
      ∙ sym
      (keep_same (λ m. eqb (ones t.window m) t.work) (λ m. eqb (ones max_window m) t.work) low
      (λ m k. ap (λ n. eqb n t.work) (ones_low m (omega (arith, suc_ones t.window, mem-of-up_from 1 (2 ^ t.window - 1) k))))
      ∙ group-below-from-one t.work t.window h.work h.window))

  -- the masks of a task that is not locked
  free_masks_lem : t.locked ≡ false → masks_of t true taken ≡ 0 ∷ in_table
  unfolding masks_of free_masks
  free_masks_lem e =
      ap (λ l. cond l (keep (neighbouring t.window) (free_masks t true taken)) (free_masks t true taken)) e
      ∙ ap (λ l. 0 ∷ l) (sym (clear_group ∙ keep-keep (clear_of taken) (λ m. eqb (ones t.window m) t.work) low))

  free_idle : t.locked ≡ false → masks_of t false taken ≡ 0 ∷ []
  unfolding masks_of free_masks
  free_idle e = ap (λ l. cond l (keep (neighbouring t.window) (0 ∷ [])) (0 ∷ [])) e

  -- "either 0, or, if the label releases it, C bits below bit D, clear of the pattern"; "a locked task's mask is a run of neighbouring bits"
  pub masks-offered : (b : Bool) → masks_of t b taken ≡ 0 ∷ offered_to t b taken
  masks-offered b = by t.locked refl b
    where
      by : (l : Bool) → t.locked ≡ l → (b : Bool) → masks_of t b taken ≡ 0 ∷ offered_by t l b taken
      by true e true = locked-masks t taken e h.work h.within
      by true e false = locked_idle t taken e ∙ ap (λ l. 0 ∷ l) (sym (clear_none taken 0 0 refl))
      by false e true = free_masks_lem e
      by false e false = free_idle e ∙ ap (λ l. 0 ∷ l) (sym (clear_none taken 0 0 refl))

  -- a run is a mask
  run_range : (m : ℕ) → Memᴰ m runs → (0 < m) × (m < mask_count)
  unfolding clear_runs
  run_range m k =
      let r = Memᴰ.of_map (bit_run t.work) (up_from 0 (suc (t.window - t.work))) (mem-of-keep (clear_of taken) (map (bit_run t.work) (up_from 0 (suc (t.window - t.work)))) k).0 in
      let inside : r.0 + t.work ≤ t.window = omega (arith, mem-of-up_from 0 (suc (t.window - t.work)) r.1, h.within) in
      subst (λ (n : ℕ). (0 < n) × (n < mask_count)) r.2
      (run-pos t.work r.0 h.work, lt_of_lt_of_le (run_fits t.work r.0 t.window inside) (pow_mono h.window))

  -- and so is an entry of the table
  table_range : (m : ℕ) → Memᴰ m in_table → (0 < m) × (m < mask_count)
  table_range m k =
      let inside = (mem-of-keep (clear_of taken) (keep (λ m. eqb (ones t.window m) t.work) low) (subst (Memᴰ m) clear_group k)).0 in
      let from = mem-of-up_from 1 (2 ^ t.window - 1) (mem-of-keep (λ m. eqb (ones t.window m) t.work) low inside).0 in
      (omega arith, omega (arith, suc_ones t.window, pow_mono h.window))

  pub mask_range : (b : Bool) (m : ℕ) → Memᴰ m (offered_to t b taken) → (0 < m) × (m < mask_count)
  mask_range b m = by t.locked b
    where
      by : (l b : Bool) → Memᴰ m (offered_by t l b taken) → (0 < m) × (m < mask_count)
      by true true k = run_range m k
      by true false k = absurd (Memᴰ.not-nil (subst (Memᴰ m) (clear_none taken 0 0 refl) k))
      by false true k = table_range m k
      by false false k = absurd (Memᴰ.not-nil (subst (Memᴰ m) (clear_none taken 0 0 refl) k))

-- what is offered a task in range can be gone through
span_fits : (t : Task) → InRange t → (b : Bool) → SpanFits (span_of t b)
span_fits t h b = by t.locked b
  where
    w : t.work ≤ max_window
    w = omega (arith, h.within, h.window)

    double : 2 ^ suc t.window ≤ 2 * mask_count
    double = pow_mono {i = suc t.window} {j = suc max_window} (omega (arith, h.window))

    by : (l d : Bool) → SpanFits (span_by t l d)
    by true true =
        (omega (arith, h.window), lt_of_lt_of_le (run_fits t.work (suc (t.window - t.work)) (suc t.window) (omega (arith, h.within))) double)
    by true false = (omega arith, omega arith)
    by false true = (omega arith, omega (arith, group-below-le t.work w t.window, group_start-le t.work w))
    by false false = (omega arith, omega arith)

-- ---- the outcomes by it are those of the choices

-- the outcome of masks for the next tasks
abbrev outcome_from : Tasks → ℕ → ℕ → ℕ → List ℕ → Outcome
outcome_from ts p g x ms = outcome_in (joined p ms / 2) (g + worth ts ms) (x * field_base ^ length ms + packed ms)

-- what is offered the tasks from i on
abbrev Fits : Offers → ℕ → Tasks → ℕ → Type 0
Fits offers i ts l = (j : ℕ) → j < length ts → InRange (get_or ts j no_task) × OffersTask (get_or ts j no_task) (bit l j) (offer_in offers (i + j))

fits-later : (offers : Offers) (i : ℕ) (t : Task) (ts : Tasks) (l : ℕ) → Fits offers i (t ∷ ts) l → Fits offers (i + 1) ts (l / 2)
fits-later offers i t ts l f j h =
    let r = f (suc j) (omega arith) in
    let half : l / 2 ^ suc j ≡ l / 2 / 2 ^ j = ap (λ (k : ℕ). l / k) (pow-succ' 2 j) ∙ sym (div-div-eq-div-mul l 2 (2 ^ j)) in
    let next : i + suc j ≡ i + 1 + j = omega arith in (
      r.0,
      subst (λ (k : ℕ). OffersTask (get_or ts j no_task) (bit (l / 2) j) (offer_in offers k)) next
          (subst (λ (k : ℕ). OffersTask (get_or ts j no_task) (eqb (k % 2) 1) (offer_in offers (i + suc j))) half r.1),
    )

-- one task more
module _ (offers : Offers) (t : Task) (range : InRange t) (ts : Tasks) (l i : ℕ) (here : OffersTask t (eqb (l % 2) 1) (offer_in offers i))
    (later : (p g x : ℕ) → offered offers (length ts) (i + 1) p g x ≡ map (outcome_from ts p g x) (choices ts (l / 2) p)) (p g x : ℕ) where
  abbrev released : Bool
  released = eqb (l % 2) 1

  abbrev step : ℕ → List Outcome
  step m = map (outcome_from (t ∷ ts) p g x) (map (λ ms. m ∷ ms) (choices ts (l / 2) (bit_or p m)))

  abbrev gained : ℕ → ℕ
  gained m = g + cond (eqb m 0) 0 t.value

  with_first : (m : ℕ) → m < field_base → (ms : List ℕ) → outcome_from (t ∷ ts) p g x (m ∷ ms) ≡ outcome_from ts (bit_or p m) (gained m) (x * field_base + m) ms
  with_first m low ms =
      ap₂ (λ (a b : ℕ). outcome_in (joined (bit_or p m) ms / 2) a b) (sym (add_assoc g (cond (eqb m 0) 0 t.value) (worth ts ms)))
      (rw (packed-cons m ms low, pow-succ' field_base (length ms), add-mul, mul_assoc) (omega arith))

  by_mask : (m : ℕ) → m < field_base → step m ≡ offered offers (length ts) (i + 1) (bit_or p m) (gained m) (x * field_base + m)
  by_mask m low =
      map-map (outcome_from (t ∷ ts) p g x) (λ ms. m ∷ ms) (choices ts (l / 2) (bit_or p m))
      ∙ (λ j. map (λ ms. with_first m low ms j) (choices ts (l / 2) (bit_or p m)))
      ∙ sym (later (bit_or p m) (gained m) (x * field_base + m))

  idle : step 0 ≡ offered offers (length ts) (i + 1) p g (x * field_base)
  idle = by_mask 0 (lit< tt) ∙ rw (or_zero_r p, add-zero g, add-zero (x * field_base))

  masks : flat_map step (offered_to t released p)
      ≡ flat_map (λ m. offered offers (length ts) (i + 1) (bit_or p m) (g + (offer_in offers i).value) (x * field_base + m)) (masks_offered offers i p)
  masks =
      flat_map-same step (λ m. offered offers (length ts) (i + 1) (bit_or p m) (g + (offer_in offers i).value) (x * field_base + m))
      (offered_to t released p)
      (λ m k.
      let r = mask_range t range p released m k in
      by_mask m (omega arith)
      ∙ ap (λ (v : ℕ). offered offers (length ts) (i + 1) (bit_or p m) (g + v) (x * field_base + m))
      (ap (λ b. cond b 0 t.value) (ne_eqb m 0 (λ e. omega arith)) ∙ sym here.value))
      ∙ ap (flat_map (λ m. offered offers (length ts) (i + 1) (bit_or p m) (g + (offer_in offers i).value) (x * field_base + m)))
      (sym (offered-same t released (offer_in offers i) p here))

  offered-cons : offered offers (suc (length ts)) i p g x ≡ map (outcome_from (t ∷ ts) p g x) (choices (t ∷ ts) l p)
  unfolding offered choices
  offered-cons =
      sym
      (map-flat_map (outcome_from (t ∷ ts) p g x) (λ m. map (λ ms. m ∷ ms) (choices ts (l / 2) (bit_or p m))) (masks_of t released p)
      ∙ ap (flat_map step) (masks-offered t range p released) ∙ ap₂ (λ a b. a ++ b) idle masks)

offered-choices : (offers : Offers) (ts : Tasks) (l i p g x : ℕ) → Fits offers i ts l
    → offered offers (length ts) i p g x ≡ map (outcome_from ts p g x) (choices ts l p)
unfolding offered choices packed number
offered-choices offers [] l i p g x f =
    let none : x ≡ x * field_base ^ 0 + 0 = omega arith in
    ap₂ (λ (a b : ℕ). outcome_in (p / 2) a b ∷ []) (sym (add-zero g)) none
offered-choices offers (t ∷ ts) l i p g x f =
    let same : i + 0 ≡ i = omega arith in
    offered-cons offers t (f 0 (omega arith)).0 ts l i
    (subst (λ (k : ℕ). OffersTask t (eqb (l % 2) 1) (offer_in offers k)) same
    (subst (λ (n : ℕ). OffersTask t (eqb (n % 2) 1) (offer_in offers (i + 0))) (div-one l) (f 0 (omega arith)).1))
    (λ p g x. offered-choices offers ts (l / 2) (i + 1) p g x (fits-later offers i t ts l f)) p g x

-- ---- by a label

module _ {ts : Tasks} (range : TasksInRange ts) {l : ℕ} {wanted : rust.Option ℕ} {offers : Offers} (o : OffersOf ts l wanted offers) where
  -- what is offered can be gone through
  pub offers-sound : OffersFit offers
  offers-sound = record {
    few = omega (arith, o.count, range.count);
    span = λ i lt.
        subst SpanFits (sym (o.each i (omega (arith, o.count))).span)
        (span_fits (get_or ts i no_task) (range.each i (omega (arith, o.count))) (bit l i));
    value = λ i lt. let e = o.each i (omega (arith, o.count)) in omega (arith, e.value, (range.each i (omega (arith, o.count))).value);
  }

  -- from the first task on its outcomes are the label's
  pub offered-all : (taken : ℕ) → offered offers (offers.count - 0) 0 taken 0 0 ≡ outcomes ts l taken
  unfolding outcomes
  offered-all taken =
      let size : offers.count - 0 ≡ length ts = omega (arith, o.count) in
      ap (λ (k : ℕ). offered offers k 0 taken 0 0) size
      ∙ offered-choices offers ts l 0 taken 0 0
      (λ j lt. let e : j ≡ 0 + j = omega arith in
      (range.each j lt, subst (λ (k : ℕ). OffersTask (get_or ts j no_task) (bit l j) (offer_in offers k)) e (o.each j lt)))
      ∙ (λ i. map (λ ms. outcome_in (joined taken ms / 2) (zero-add (worth ts ms) i) (none ms i)) (choices ts l taken))
    where
      none : (ms : List ℕ) → 0 * field_base ^ length ms + packed ms ≡ packed ms
      none ms = rw zero-mul (zero-add (packed ms))
