-- What a label offers each task, and the outcomes of the choices by it.
use Rattle.std.specs.Prelude as rust
use Rattle.std.specs.Prelude.{◌≡◌, Bool, cond, List, [], ◌∷◌, ◌++◌, ℕ, zero, suc, ◌+◌, ◌-◌, ◌*◌, ◌/◌, ◌^◌, ◌<◌, ◌≤◌, ltb, length, get_or}
use Rattle.std.specs.Int.Bits.{bit_or}
use Rattle.model.specs.Limits.{max_value, max_tasks}
use Rattle.model.specs.Lists.{keep, flat_map, bit}
use Rattle.model.specs.Masks.{mask_count, group, group_start}
use Rattle.model.specs.Plan.{Task}
use Rattle.model.specs.Slot.{no_task}
use Rattle.words.specs.Packed.{field_base}
use Rattle.masks.specs.Clear.{clear_in, clear_runs}
use Rattle.policy.specs.View.{Tasks}
use Rattle.graph.specs.Outcomes.{Outcome, outcome_in}
use Rattle.graph.specs.declared.Offer.{Offer}
use Rattle.graph.specs.declared.Offers.{Offers}
use Rattle.graph.specs.declared.Span.{Span}
use Rattle.graph.specs.declared.Span.TheVariants.{Table, Runs}

-- the masks of a task's work within its window: their part of the table, or, of a locked task, its runs; none if it is not released
abbrev pub span_of : Task → Bool → Span
span_of t released =
    cond released
    (cond t.locked (Runs (2 ^ t.work - 1) (suc (t.window - t.work)))
    (Table (group_start t.work) (group_start t.work + length (keep (λ m. ltb m (2 ^ t.window)) (group t.work)))))
    (Table 0 0)

-- those of a span that are clear of a pattern
abbrev pub clear_span : ℕ → Span → List ℕ
clear_span taken (Table at end) = clear_in taken at end
clear_span taken (Runs first count) = clear_runs taken first count

-- a part of the table, or runs that are masks
abbrev pub SpanFits : Span → Type 0
SpanFits (Table at end) = (at ≤ end) × (end ≤ mask_count)
SpanFits (Runs first count) = (count ≤ mask_count) × (first * 2 ^ count < 2 * mask_count)

-- what is offered the task i; nothing past the last one
abbrev pub no_offer : Offer
no_offer = record { span = Table 0 0; value = 0 }

abbrev pub offer_in : Offers → ℕ → Offer
offer_in o i = get_or o.offers i no_offer

-- the masks that it offers the task i, clear of the pattern
abbrev pub masks_offered : Offers → ℕ → ℕ → List ℕ
masks_offered o i taken = clear_span taken (offer_in o i).span

-- spans and values within their limits
pub record OffersFit (o : Offers) : Type 0 where
  pub few : o.count ≤ max_tasks
  pub span : (i : ℕ) → i < o.count → SpanFits (offer_in o i).span
  pub value : (i : ℕ) → i < o.count → (offer_in o i).value ≤ max_value

-- what is offered a task
pub record OffersTask (t : Task) (released : Bool) (o : Offer) : Type 0 where
  pub span : o.span ≡ span_of t released
  pub value : o.value ≡ t.value

-- what a label offers these tasks
pub record OffersOf (ts : Tasks) (l : ℕ) (w : rust.Option ℕ) (o : Offers) : Type 0 where
  pub count : o.count ≡ length ts
  pub wanted : o.wanted ≡ w
  pub each : (i : ℕ) → i < length ts → OffersTask (get_or ts i no_task) (bit l i) (offer_in o i)

-- ---- the outcomes of the choices for k tasks from the task i on, with the pattern, the gain and the packed masks of those before

-- "For each mask of a task, every choice of the later tasks follows": first no mask, then the clear masks
unfoldable pub offered : Offers → ℕ → ℕ → ℕ → ℕ → ℕ → List Outcome
offered o zero i p g x = outcome_in (p / 2) g x ∷ []
offered o (suc k) i p g x =
    offered o k (i + 1) p g (x * field_base)
    ++ flat_map (λ m. offered o k (i + 1) (bit_or p m) (g + (offer_in o i).value) (x * field_base + m)) (masks_offered o i p)

-- with these masks for the task before, whose value the gain has
unfoldable pub offered_with : Offers → ℕ → ℕ → ℕ → ℕ → ℕ → List ℕ → List Outcome
offered_with o k i p g x ms = flat_map (λ m. offered o k i (bit_or p m) g (x + m)) ms

-- the pattern, the gain and the masks of the tasks before one
pub record Carries (o : Offers) (i p g x : ℕ) : Type 0 where
  pub task : i ≤ o.count
  pub pattern : p < mask_count
  pub gain : g ≤ i * max_value
  pub masks : x < field_base ^ i
