-- `links::put_step` meets its contract: its two writes are one.
-- Assumes nothing.
use mathlib.Core.Path.{sym, ◌∙◌, ap, subst}
use Prim.Native.Nat.{◌+◌}
use native.Mathlib.Omega.{arith}
use lib.ListN.{set}
use Rattle.words.proofs.Memory.{overwrite-more}
use Rattle.words.proofs.Numbers.{bytes-length}
use Rattle.links.specs.Links.{step_place, PutsStep}
use Rattle.links.proofs.Written.{puts_step}
use Rattle.links.proofs.put_step.Goals as goal

pub returns : goal.returns
returns c =
    let two = bytes-length 2 c.args.step.node in
    subst (PutsStep c.args.i c.args.step c.args.m.now)
    (sym
    (ap (λ x. set x (step_place c.args.i + 2) c.args.step.label) c.write_u16.ensures
    ∙ overwrite-more c.args.m.now (step_place c.args.i) _ 2 c.args.step.label two (omega (arith, c.requires))))
    (puts_step c.args.step (omega (arith, c.requires)) c.args.m.now c.args.i c.requires.1 c.requires.0)
