-- A part after writes.
-- Assumes nothing.
use Rattle.std.proofs.Common.{◌≡◌, ℕ, List, [], ◌∷◌, ◌++◌, sym, refl, ap, ◌∙◌, subst}
use Rattle.model.specs.Controller as model
use Rattle.model.specs.Controller.{Write, registers, after_write, block_after, fresh, TrueToRules}
use Rattle.model.specs.Plan.{Plan}
use Rattle.theory.proofs.Controller.{block-claim, after_more}
use Rattle.controller.specs.Block.{Ready}
use Rattle.controller.specs.View.{PartOf, block_in, After, Steps, Writes}
use Rattle.controller.specs.declared.part.Block.{Block}
use Rattle.controller.specs.declared.part.Controller.{Controller}

-- its block is all that there is to show
pub after-writes : (P : Plan) (ws : List Write) (c : Controller) → PartOf P c.machine.rules c.machine.next → block_in c ≡ block_after P ws → After P ws c
after-writes P ws c part e = record {
  part = part;
  block = e;
  claim = subst (λ (b : model.Block). TrueToRules P ws (registers b)) (sym e) (block-claim P ws);
}

-- one write more
pub step-writes : (c : Controller) (w : Write) (b : Block) (ready : Ready c.machine.rules b) (n : ℕ) → Steps c.machine.rules c.machine.next c.block w b n →
    Writes c w (record { machine = c.machine; block = b; ready = ready }) n
step-writes c w b ready n h = record {
  machine = refl;
  steps = h;
  more = λ P ws after.
      after-writes P (ws ++ (w ∷ [])) (record { machine = c.machine; block = b; ready = ready }) after.part
      (h.block.is P after.part ∙ ap (λ (k : model.Block). after_write P k w) after.block ∙ sym (after_more P fresh ws (w ∷ [])));
}
