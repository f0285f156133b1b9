-- `controller::registers` meets its contract: the bytes one by one.
-- Assumes nothing.
use Rattle.std.proofs.Common.{ℕ, List, [], ◌∷◌, slice_index_or, ap, ◌∙◌}
use Rattle.model.specs.Bytes.{bytes}
use Rattle.model.specs.Controller as model
use Rattle.words.proofs.Std.{high_first}
use Rattle.controller.proofs.registers.Goals as goal

pub returns : goal.returns
unfolding model.registers bytes
returns c ts =
    let b = c.args.block in
    let gains = λ (l : List ℕ). slice_index_or l 0 0 ∷ slice_index_or l 1 0 ∷ slice_index_or l 2 0 ∷ slice_index_or l 3 0 ∷ 0 ∷ 0 ∷ 0 ∷ 0 ∷ [] in
    ap (λ (n : ℕ). b.label ∷ 0 ∷ b.status ∷ b.mask ∷ b.ran ∷ n ∷ 0 ∷ 0 ∷ gains c.to_be_bytes.result) c.interrupt-irq.ensures
    ∙ ap (λ (l : List ℕ). b.label ∷ 0 ∷ b.status ∷ b.mask ∷ b.ran ∷ model.interrupt_of b.status b.mask ∷ 0 ∷ 0 ∷ gains l) (c.to_be_bytes.ensures ∙ high_first 4 b.gain)
