-- How the outcomes that a label offers are noted, task by task and mask by mask.
-- Assumes nothing.
use mathlib.Core.Path.{◌≡◌, sym, ◌∙◌, ap, ap₂, subst}
use mathlib.Core.Logic.{inl, inr}
use mathlib.Core.List.{List, [], ◌∷◌, ◌++◌, append_assoc, append-nil, foldl, foldl-append}
use Prim.Native.Nat.{ℕ, suc, ◌+◌, ◌-◌, ◌*◌, ◌/◌, ◌^◌, ◌<◌, ◌≤◌}
use native.Mathlib.Nat.{pow-suc, pow-le-pow_right, mul_assoc, mul-le-mul_left}
use native.Mathlib.Numerals.{add-one}
use native.Mathlib.Omega.{arith}
use lib.Bits.{bit_or, or_lt}
use lib.Dec.{lit<}
use lib.Pow.{pow_mono}
use lib.ListN.{length, get_or, take, drop}
use lib.Seq.{take_all, get_or-take, get_or-drop}
use Rattle.std.proofs.lemmas.List.{take_more}
use Rattle.model.specs.Bytes.{Only}
use Rattle.model.specs.Limits.{max_tasks, max_window}
use Rattle.model.specs.Masks.{mask_count}
use Rattle.words.specs.Packed.{field_base}
use Rattle.words.proofs.Memory.{part_length}
use Rattle.model.specs.Lists.{flat_map}
use Rattle.model.proofs.Lists.{flat_map-append}
use Rattle.masks.specs.Clear.{Lists}
use Rattle.masks.proofs.Clear.{clear_low, runs-low}
use Rattle.graph.specs.Outcomes.{pattern_count, Outcome, outcome_in, note, noted_masks_at, order_at, lists_at, list_place, note_room, score_at, word_base, pattern_in, notes_in, Tallied, Room, Keeps, Noting}
use Rattle.graph.specs.Offers.{clear_span, SpanFits, offer_in, masks_offered, OffersFit, offered, offered_with, Carries}
use Rattle.graph.specs.declared.Offers.{Offers}
use Rattle.graph.specs.declared.Span.{Span}
use Rattle.graph.specs.declared.Span.TheVariants.{Table, Runs}
use Rattle.graph.proofs.Notes.{few, keeps_trans, keeps_fewer}
use Rattle.graph.proofs.Tables.{table_same}

-- ---- noting one list of outcomes after another

pub noting_append : (wanted place : ℕ) (os os' : List Outcome) (m₀ : List ℕ) (n₀ : ℕ) (m₁ : List ℕ) (n₁ : ℕ) (m₂ : List ℕ) (n₂ : ℕ)
    → Noting wanted os place m₀ n₀ m₁ n₁ → Noting wanted os' place m₁ n₁ m₂ n₂ → Noting wanted (os ++ os') place m₀ n₀ m₂ n₂
noting_append wanted place os os' m₀ n₀ m₁ n₁ m₂ n₂ a b = record {
  notes = b.notes ∙ ap (λ n. foldl (note wanted) n os') a.notes ∙ sym (foldl-append (note wanted) (notes_in m₀ n₀) os os');
  keeps = keeps_trans a.keeps b.keeps;
  room = b.room;
}

-- with fewer lists kept
pub noting_fewer : {wanted place : ℕ} {os : List Outcome} {m₀ : List ℕ} {n₀ : ℕ} {m₁ : List ℕ} {n₁ : ℕ} (place' : ℕ) → place' ≤ place
    → Noting wanted os place m₀ n₀ m₁ n₁ → Noting wanted os place' m₀ n₀ m₁ n₁
noting_fewer place' le a = record { notes = a.notes; keeps = keeps_fewer a.keeps place' le; room = a.room }

-- ---- lists change no notes

-- notes that stand before the lists
same-notes : (m m' : List ℕ) (count : ℕ) → order_at + count ≤ lists_at → ((i : ℕ) → i < lists_at → get_or m' i 0 ≡ get_or m i 0) → notes_in m' count ≡ notes_in m count
unfolding notes_in
same-notes m m' count few same = λ i. record {
  scores = table_same (score_at m) (score_at m') pattern_count (λ k h. same k (omega arith)) i;
  masks = ap₂ (λ (a b : ℕ). a * word_base + b) (same noted_masks_at (omega arith)) (same (noted_masks_at + 1) (omega arith)) i;
  order = table_same (pattern_in m) (pattern_in m') count (λ k h. same (order_at + k) (omega arith)) i;
}

pub list_noting : (wanted : ℕ) (m m' : List ℕ) (from k count : ℕ) → lists_at ≤ from → from + k ≤ note_room → Only from k m m' → Room m count
    → Noting wanted [] from m count m' count
list_noting wanted m m' from k count behind inside o r =
    let same = same-notes m m' count (omega (arith, few m count r)) (λ i h. o.others i (inl (omega arith))) in
    record {
      notes = same;
      keeps = record { long = o.long; lists = λ i h lt. o.others i (inl lt); behind = λ i h. o.others i (inr (omega arith)) };
      room = record { room = omega (arith, r.room, o.long); tallied = subst Tallied (sym same) r.tallied };
    }

-- ---- the steps of the recursion

-- no task is left
pub offered-last : (offers : Offers) (i p g x : ℕ) → i ≡ offers.count → offered offers (offers.count - i) i p g x ≡ outcome_in (p / 2) g x ∷ []
unfolding offered
offered-last offers i p g x e = let z : offers.count - i ≡ 0 = omega arith in rw z

-- no mask for the next task, and then its masks
pub offered-next : (offers : Offers) (i p g x : ℕ) → i < offers.count
    → offered offers (offers.count - i) i p g x
    ≡ offered offers (offers.count - (i + 1)) (i + 1) p g (x * field_base)
    ++ offered_with offers (offers.count - (i + 1)) (i + 1) p (g + (offer_in offers i).value) (x * field_base) (masks_offered offers i p)
unfolding offered offered_with
offered-next offers i p g x lt = let s : offers.count - i ≡ suc (offers.count - (i + 1)) = omega arith in rw s

-- the outcomes without a mask for the task i, and those with the first n of its masks
abbrev pub so_far : Offers → (i p g x n : ℕ) → List Outcome
so_far o i p g x n =
    offered o (o.count - (i + 1)) (i + 1) p g (x * field_base)
    ++ offered_with o (o.count - (i + 1)) (i + 1) p (g + (offer_in o i).value) (x * field_base) (take n (masks_offered o i p))

module _ (o : Offers) (i p g x n : ℕ) where
  pub so_far-none : n ≡ 0 → so_far o i p g x n ≡ offered o (o.count - (i + 1)) (i + 1) p g (x * field_base) ++ []
  unfolding offered_with
  so_far-none e = rw e

  -- with one mask more
  pub so_far-more : n < length (masks_offered o i p) → (m : ℕ) → m ≡ get_or (masks_offered o i p) n 0
      → so_far o i p g x (n + 1) ≡ so_far o i p g x n ++ offered o (o.count - (i + 1)) (i + 1) (bit_or p m) (g + (offer_in o i).value) (x * field_base + m)
  unfolding offered_with
  so_far-more lt m e =
      ap (λ (l : List Outcome). first ++ l)
      (ap (flat_map of) (take_more (masks_offered o i p) n 0 lt) ∙ flat_map-append of (take n (masks_offered o i p)) (get_or (masks_offered o i p) n 0 ∷ [])
      ∙ ap (λ (l : List Outcome). flat_map of (take n (masks_offered o i p)) ++ l) (append-nil (of (get_or (masks_offered o i p) n 0)) ∙ ap of (sym e)))
      ∙ sym (append_assoc first (flat_map of (take n (masks_offered o i p))) (of m))
    where
      first : List Outcome
      first = offered o (o.count - (i + 1)) (i + 1) p g (x * field_base)

      of : ℕ → List Outcome
      of m = offered o (o.count - (i + 1)) (i + 1) (bit_or p m) (g + (offer_in o i).value) (x * field_base + m)

  pub so_far-all : i < o.count → length (masks_offered o i p) ≤ n → so_far o i p g x n ≡ offered o (o.count - i) i p g x
  so_far-all lt le =
      ap (λ (l : List ℕ). offered o (o.count - (i + 1)) (i + 1) p g (x * field_base) ++ offered_with o (o.count - (i + 1)) (i + 1) p (g + (offer_in o i).value) (x * field_base) l)
      (take_all n (masks_offered o i p) le)
      ∙ sym (offered-next o i p g x lt)

-- a list of masks, and with what was noted behind it
module _ {ms : List ℕ} {room from r : ℕ} {m₁ m : List ℕ} (c : Lists ms room from m₁ m r) where
  pub listed-length : from + room ≤ length m₁ → length ms ≡ r - from
  listed-length h = ap length (sym c.listed) ∙ part_length m from (r - from) (omega (arith, c.only.long, c.starts, c.ends))

  pub listed-mask : {place : ℕ} {m' : List ℕ} → Keeps place m m' → lists_at ≤ from → r ≤ place → (at : ℕ) → from ≤ at → at < r
      → get_or m' at 0 ≡ get_or ms (at - from) 0
  listed-mask k low high at le lt =
      let e : from + (at - from) ≡ at = omega arith in
      k.lists at (omega arith) (omega arith)
      ∙ ap (λ (j : ℕ). get_or m j 0) (sym e) ∙ sym (get_or-drop from m (at - from) 0)
      ∙ sym (get_or-take (r - from) (drop from m) (at - from) 0 (omega arith))
      ∙ ap (λ (l : List ℕ). get_or l (at - from) 0) c.listed

-- ---- what is carried

power_le : (i : ℕ) → i ≤ max_tasks → field_base ^ i ≤ field_base ^ max_tasks
power_le i h = pow-le-pow_right (lit< tt) {i = i} {j = max_tasks} h

module _ {offers : Offers} {i p g x : ℕ} (o : OffersFit offers) (lt : i < offers.count) (c : Carries offers i p g x) where
  -- the masks moved up, and one more
  moved-room : x * field_base + field_base ≤ field_base ^ (i + 1)
  moved-room = let h : x + 1 ≤ field_base ^ i = omega (arith, c.masks) in rw (add-one i, pow-suc field_base i) (omega arith)

  -- they are a number of 64 bits
  pub moved-fits : x * field_base + field_base ≤ field_base ^ max_tasks
  moved-fits = omega (arith, moved-room, power_le (i + 1) (omega (arith, o.few)))

  -- a mask joins
  pub carries-mask : (m : ℕ) → m < mask_count → Carries offers (i + 1) (bit_or p m) (g + (offer_in offers i).value) (x * field_base + m)
  carries-mask m low = record {
    task = omega arith;
    pattern = or_lt max_window p m c.pattern low;
    gain = omega (arith, c.gain, o.value i lt);
    masks = omega (arith, moved-room);
  }

-- the masks that are offered
pub offered-low : (taken : ℕ) (s : Span) → SpanFits s → (k : ℕ) → get_or (clear_span taken s) k 0 < mask_count
offered-low taken (Table at end) f k = clear_low taken at end k
offered-low taken (Runs first count) f k = runs-low taken first count mask_count (lit< tt) run-low k
  where
    -- each run but the last is followed by another
    run-low : (j : ℕ) → j < count → first * 2 ^ j < mask_count
    run-low j lt =
        let next : first * 2 ^ suc j ≤ first * 2 ^ count = mul-le-mul_left first (pow_mono {i = suc j} {j = count} lt) in
        let twice : first * 2 ^ suc j ≡ first * 2 ^ j * 2 = ap (λ (x : ℕ). first * x) (pow-suc 2 j) ∙ sym (mul_assoc first (2 ^ j) 2) in
        omega (arith, f.1, next, twice)

-- a mask of a task's list is one that it is offered
pub mask-listed : (o : Offers) (i p : ℕ) → OffersFit o → i < o.count → {room r : ℕ} {m₁ m m' : List ℕ} → Lists (masks_offered o i p) room (list_place i) m₁ m r
    → r ≤ list_place (i + 1) → Keeps (list_place (i + 1)) m m' → (at : ℕ) → list_place i ≤ at → at < r
    → (get_or m' at 0 ≡ get_or (masks_offered o i p) (at - list_place i) 0) × (get_or m' at 0 < mask_count)
mask-listed o i p f lt c within k at le less =
    let is = listed-mask c k (omega arith) within at le less in
    (is, rw is (offered-low p (offer_in o i).span (f.span i lt) (at - list_place i)))
