-- The answers of the call without state.
-- Assumes nothing.
use Rattle.std.proofs.Common.{◌≡◌, ℕ, List, [], sym, ap, ◌∙◌, subst, arith}
use Rattle.model.specs.Controller.{registers, after_writes, block_after, writes_in, last_refusal, replay_number, replay_registers, TrueToRules}
use Rattle.model.specs.Plan.{Plan, PlanAnswer, faulty, sound, read_plan}
use Rattle.theory.proofs.Controller.{block-claim}
use Rattle.controller.specs.View.{block_in, PartOf, After, Replays}
use Rattle.controller.specs.declared.part.Controller.{Controller}

module _ (plan writes before : List ℕ) where
  -- a plan with a fault
  pub no_block : (n : ℕ) → read_plan plan ≡ faulty n → Replays plan writes before before n
  no_block n read = record {
    number = sym (ap (λ (a : PlanAnswer). replay_number a (writes_in writes)) read);
    bytes = sym (ap (λ (a : PlanAnswer). replay_registers a (writes_in writes) before) read);
    claim = λ P e. absurd (omega (arith, ap fault_or (sym read ∙ e)));
  }
    where
      fault_or : PlanAnswer → ℕ
      fault_or (faulty n) = 0
      fault_or (sound P) = 1

  -- one without
  module _ (P : Plan) (read : read_plan plan ≡ sound P) (c : Controller) (fresh : After P [] c) (after : List ℕ) (n : ℕ)
      (is_after : (Q : Plan) → PartOf Q c.machine.rules c.machine.next → after ≡ registers (after_writes Q (block_in c) (writes_in writes))) (is_number : n ≡ last_refusal (writes_in writes)) where
    replayed : after ≡ registers (block_after P (writes_in writes))
    replayed = is_after P fresh.part ∙ ap (λ b. registers (after_writes P b (writes_in writes))) fresh.block

    pub block-left : Replays plan writes before after n
    block-left = record {
      number = is_number ∙ sym (ap (λ (a : PlanAnswer). replay_number a (writes_in writes)) read);
      bytes = replayed ∙ sym (ap (λ (a : PlanAnswer). replay_registers a (writes_in writes) before) read);
      claim = λ Q e. subst (λ (a : PlanAnswer). True a) (sym read ∙ e) (subst (TrueToRules P (writes_in writes)) (sym replayed) (block-claim P (writes_in writes)));
    }
      where
        True : PlanAnswer → Type 0
        True (faulty n) = ⊥
        True (sound Q) = TrueToRules Q (writes_in writes) after
