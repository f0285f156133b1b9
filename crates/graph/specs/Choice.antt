-- A choice of masks for a label, found by its masks.
use Rattle.std.specs.Prelude as rust
use Rattle.std.specs.Prelude.{None, Some, ◌*◌, ◌+◌, ◌<◌, ◌≤◌, Bool, true, false, cond, not, ◌&&◌, ◌||◌, List, [], ◌∷◌, ℕ, ◌/◌, ◌%◌, ◌^◌, eqb, ltb, drop}
use Rattle.std.proofs.Math.Option.{Option, none, some}
use Rattle.std.specs.Int.Bits.{bit_and, bit_or}
use Rattle.model.specs.Check.{padded}
use Rattle.model.specs.Graph.{choices, joined, worth}
use Rattle.model.specs.Lists.{same_numbers, ones}
use Rattle.model.specs.Masks.{neighbouring}
use Rattle.model.specs.Plan.{Task}
use Rattle.policy.specs.View.{Tasks}
use Rattle.graph.specs.Outcomes.{pattern_count}
use Rattle.model.specs.Limits.{max_tasks, max_value}
use Rattle.graph.specs.declared.Chosen.{Chosen}

-- where a choice leads: the pattern, and the clairvoyant's gain
pub record Led : Type 0 where
  pub pattern : ℕ
  pub gain : ℕ

-- the first of these choices that has the given masks, "0 for a task the plan lacks"
abbrev pub find_choice : List ℕ → List (List ℕ) → Option (List ℕ)
find_choice given [] = none
find_choice given (ms ∷ l) = let later = find_choice given l in cond (same_numbers (padded ms) given) (some ms) later

abbrev pub led_by : Tasks → ℕ → Option (List ℕ) → Option Led
led_by ts taken none = none
led_by ts taken (some ms) = some (record { pattern = joined taken ms / 2; gain = worth ts ms })

-- where the label's choice with the given masks leads, if there is one
unfoldable pub choice_of : Tasks → ℕ → ℕ → List ℕ → Option Led
choice_of ts l taken given = led_by ts taken (find_choice given (choices ts l taken))

abbrev pub led_of : rust.Option Chosen → Option Led
led_of None = none
led_of (Some c) = some (record { pattern = c.pattern; gain = c.gain })

-- a pattern and a gain within their limits
pub record LeadFits (c : Chosen) : Type 0 where
  pub pattern : c.pattern < pattern_count
  pub gain : c.gain ≤ max_tasks * max_value

-- ---- by a test of each mask

-- "either 0, or, if the label releases it, C bits below bit D, clear of the pattern and of the other masks"; "a locked task's mask is a run
-- of neighbouring bits"
unfoldable pub fits_task : Task → Bool → ℕ → ℕ → Bool
fits_task t released taken m =
    let unbroken = not t.locked || neighbouring t.window m in
    eqb m 0 || (released && (ltb m (2 ^ t.window) && (eqb (ones t.window m) t.work && (eqb (bit_and m taken) 0 && unbroken))))

abbrev pub all_zero : List ℕ → Bool
all_zero [] = true
all_zero (m ∷ ms) = cond (eqb m 0) (all_zero ms) false

-- the mask m for the next task, t
abbrev pub chosen_with : Task → Chosen → ℕ → Chosen
chosen_with t c m = record { pattern = bit_or c.pattern m; gain = c.gain + cond (eqb m 0) 0 t.value }

-- the masks for the next tasks and 0 for those that the plan lacks
abbrev pub choice_from : Tasks → ℕ → Chosen → List ℕ → Option Led
choice_from [] l c given = cond (all_zero given) (some (record { pattern = c.pattern / 2; gain = c.gain })) none
choice_from (t ∷ ts) l c [] = none
choice_from (t ∷ ts) l c (m ∷ ms) = let later = choice_from ts (l / 2) (chosen_with t c m) ms in cond (fits_task t (eqb (l % 2) 1) c.pattern m) later none

-- the same from the task i on
unfoldable pub next_choice : Tasks → ℕ → ℕ → Chosen → List ℕ → Option Led
next_choice ts l i c given = choice_from (drop i ts) (l / 2 ^ i) c (drop i given)
