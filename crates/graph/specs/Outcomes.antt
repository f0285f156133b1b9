-- What the choices of masks for a label lead to, and what is noted of them in memory.
use Rattle.std.specs.Prelude.{◌≡◌, Bool, cond, ◌&&◌, ℕ, ◌+◌, ◌-◌, ◌*◌, ◌/◌, ◌%◌, ◌^◌, ◌<◌, ◌≤◌, leb, ltb, eqb, length, get_or, set, replicate}
use mathlib.Core.List.{List, [], ◌∷◌, ◌++◌, map, foldl}
use Rattle.model.specs.Bytes.{Only}
use Rattle.model.specs.Graph.{choices, joined, worth}
use Rattle.model.specs.Limits.{max_tasks, max_window}
use Rattle.model.specs.Lists.{keep, up_from}
use Rattle.model.specs.Masks.{mask_count}
use Rattle.words.specs.Packed.{packed}
use Rattle.policy.specs.View.{Tasks}

-- the patterns of a node: the masks, moved down one place
abbrev pub pattern_count : ℕ
pattern_count = 2 ^ (max_window - 1)

-- what a choice leads to: the pattern, the clairvoyant's gain, and the masks, packed
pub record Outcome : Type 0 where
  pub pattern : ℕ
  pub gain : ℕ
  pub masks : ℕ

abbrev pub outcome_in : ℕ → ℕ → ℕ → Outcome
outcome_in pattern gain masks = record { pattern = pattern; gain = gain; masks = masks }

abbrev pub outcome_of : Tasks → ℕ → List ℕ → Outcome
outcome_of ts taken ms = outcome_in (joined taken ms / 2) (worth ts ms) (packed ms)

-- the outcomes of a label's choices, in their order
unfoldable pub outcomes : Tasks → ℕ → ℕ → List Outcome
outcomes ts l taken = map (outcome_of ts taken) (choices ts l taken)

-- ---- notes

-- the score of each pattern, its greatest gain and 1, 0 for no outcome; the masks of the wanted pattern; and the patterns in the order of
-- their discovery
pub record Notes : Type 0 where
  pub scores : List ℕ
  pub masks : ℕ
  pub order : List ℕ

-- the greatest gain is noted, and the masks of the first outcome of those that have it
unfoldable pub note : ℕ → Notes → Outcome → Notes
note wanted n o =
    let s = get_or n.scores o.pattern 0 in
    record {
      scores = cond (leb s o.gain) (set n.scores o.pattern (o.gain + 1)) n.scores;
      masks = cond (leb s o.gain && eqb o.pattern wanted) o.masks n.masks;
      order = cond (eqb s 0) (n.order ++ (o.pattern ∷ [])) n.order;
    }

abbrev pub noted_of : Tasks → ℕ → ℕ → ℕ → Notes → Notes
noted_of ts l taken wanted n = foldl (note wanted) n (outcomes ts l taken)

-- nothing is noted for any pattern
unfoldable pub nothing_noted : Notes
nothing_noted = record { scores = replicate pattern_count 0; masks = 0; order = [] }

-- ---- notes in memory

-- the scores stand first; then the masks, in two numbers of 32 bits; then the order; then a list of masks for each task
abbrev pub noted_masks_at : ℕ
noted_masks_at = pattern_count

abbrev pub order_at : ℕ
order_at = noted_masks_at + 2

abbrev pub lists_at : ℕ
lists_at = order_at + pattern_count

-- where the list of a task starts
abbrev pub list_place : ℕ → ℕ
list_place task = lists_at + task * mask_count

abbrev pub note_room : ℕ
note_room = list_place max_tasks

abbrev pub score_at : List ℕ → ℕ → ℕ
score_at memory p = get_or memory p 0

abbrev pub word_base : ℕ
word_base = 2 ^ 32

abbrev pub masks_in : List ℕ → ℕ
masks_in memory = get_or memory noted_masks_at 0 * word_base + get_or memory (noted_masks_at + 1) 0

abbrev pub pattern_in : List ℕ → ℕ → ℕ
pattern_in memory k = get_or memory (order_at + k) 0

-- the notes in memory, with so many patterns in the order
unfoldable pub notes_in : List ℕ → ℕ → Notes
notes_in memory count = record {
  scores = map (score_at memory) (up_from 0 pattern_count);
  masks = masks_in memory;
  order = map (pattern_in memory) (up_from 0 count);
}

-- masks that are written where they are wanted
abbrev pub with_masks : Bool → ℕ → List ℕ → List ℕ
with_masks b masks memory = cond b (set (set memory noted_masks_at (masks / word_base)) (noted_masks_at + 1) (masks % word_base)) memory

-- the patterns of the order are as many as have an outcome noted
pub record Tallied (n : Notes) : Type 0 where
  pub tally : length n.order ≡ length (keep (ltb 0) n.scores)

pub record Room (memory : List ℕ) (count : ℕ) : Type 0 where
  pub room : note_room ≤ length memory
  pub tallied : Tallied (notes_in memory count)

-- what the notes hold is free, and every other number is as it was
abbrev pub NotesFree : List ℕ → List ℕ → Type 0
NotesFree before after = Only 0 note_room before after

-- the lists before a place are as they were, and so is every number behind the notes
pub record Keeps (place : ℕ) (before after : List ℕ) : Type 0 where
  pub long : length after ≡ length before
  pub lists : (i : ℕ) → lists_at ≤ i → i < place → get_or after i 0 ≡ get_or before i 0
  pub behind : (i : ℕ) → note_room ≤ i → get_or after i 0 ≡ get_or before i 0

-- the outcomes os are noted
pub record Noting (wanted : ℕ) (os : List Outcome) (place : ℕ) (before : List ℕ) (count : ℕ) (after : List ℕ) (count' : ℕ) : Type 0 where
  pub notes : notes_in after count' ≡ foldl (note wanted) (notes_in before count) os
  pub keeps : Keeps place before after
  pub room : Room after count'

-- nothing is noted, and every number behind the notes is as it was
pub record Cleared (before after : List ℕ) : Type 0 where
  pub notes : notes_in after 0 ≡ nothing_noted
  pub only : NotesFree before after
  pub room : Room after 0
