-- Writes that are made one after another.
-- Assumes nothing.
use Rattle.std.proofs.Common.{◌≡◌, ℕ, ◌+◌, ◌<◌, ◌≤◌, List, ◌∷◌, length, get_or, drop, sym, refl, ap, ◌∙◌, arith}
use Rattle.model.specs.Controller as model
use Rattle.model.specs.Controller.{after_write, after_writes, writes_in}
use Rattle.model.specs.Plan.{Plan}
use Rattle.policy.specs.View.{tasks_in}
use Rattle.policy.specs.declared.Rules.{Rules}
use Rattle.controller.specs.Block.{Ready, block_of}
use Rattle.controller.specs.View.{write_of, PartOf, Becomes}
use Rattle.controller.specs.declared.part.Block.{Block}
use Rattle.controller.proofs.Lists.{writes_at, writes_end}

-- the writes before a place are made: with those from it on all are
pub record Reached (rules : Rules) (next writes : List ℕ) (block after : Block) (i : ℕ) : Type 0 where
  pub inside : i ≤ length writes
  pub ready : Ready rules after
  pub rest : (P : Plan) → PartOf P rules next →
      after_writes P (block_of (tasks_in rules) after) (writes_in (drop i writes)) ≡ after_writes P (block_of (tasks_in rules) block) (writes_in writes)

module _ (rules : Rules) (next writes : List ℕ) (block : Block) where
  pub reached-start : Ready rules block → Reached rules next writes block block 0
  reached-start ready = record { inside = omega arith; ready = ready; rest = λ P part. refl }

  module _ (after : Block) (i : ℕ) (h : Reached rules next writes block after i) where
    -- one write more
    pub reached-next : (byte : ℕ) → byte ≡ get_or writes i 0 → (more : Block) → i + 1 < length writes → (j : ℕ) → j ≡ i + 2 →
        Becomes rules next (λ P. after_write P (block_of (tasks_in rules) after) (write_of byte (get_or writes (i + 1) 0))) more → Reached rules next writes block more j
    reached-next byte e more inside j place b = record {
      inside = omega arith;
      ready = b.ready;
      rest = λ P part.
          ap (λ (k : ℕ). after_writes P (block_of (tasks_in rules) more) (writes_in (drop k writes))) place
          ∙ ap (λ (k : model.Block). after_writes P k (writes_in (drop (i + 2) writes))) (b.is P part)
          ∙ ap (λ (n : ℕ). after_writes P (block_of (tasks_in rules) after) (write_of n (get_or writes (i + 1) 0) ∷ writes_in (drop (i + 2) writes))) e
          ∙ ap (after_writes P (block_of (tasks_in rules) after)) (sym (writes_at writes i inside))
          ∙ h.rest P part;
    }

    -- all of them
    pub reached-end : length writes ≤ i + 1 → Becomes rules next (λ P. after_writes P (block_of (tasks_in rules) block) (writes_in writes)) after
    reached-end end = record {
      is = λ P part. ap (after_writes P (block_of (tasks_in rules) after)) (sym (writes_end writes i end)) ∙ h.rest P part;
      ready = h.ready;
    }
