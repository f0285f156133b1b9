-- `controller::read` meets its contract: one of the sixteen bytes, or none of them.
-- Assumes nothing.
use Rattle.std.proofs.Common.{ℕ, ◌≤◌, List, length, get_or, sym, ap}
use lib.ListN.{get_or-eq_default}
use Rattle.model.specs.Bytes.{bytes}
use Rattle.model.specs.Controller as model
use Rattle.controller.specs.Block.{block_of}
use Rattle.controller.proofs.read.Goals as goal

pub returns-then-at-ge-BYTES : goal.returns-then-at-ge-BYTES
unfolding model.registers bytes
returns-then-at-ge-BYTES c ts =
    let b = c.args.block in
    let long : length (model.registers (block_of ts b)) ≤ c.args.byte = c.if-at-ge-BYTES.true in
    sym (get_or-eq_default (model.registers (block_of ts b)) 0 long)

pub returns : goal.returns
returns c ts = ap (λ (bs : List ℕ). get_or bs c.args.byte 0) (c.registers-bytes.ensures ts)
