-- `records::run_cases` meets its contract: each turn is one call more.
-- Assumes nothing.
use mathlib.Core.Path.{refl}
use mathlib.Core.List.{[], ◌∷◌}
use native.Mathlib.Omega.{arith}
use denote.Param.Always.{always_mut}
use Rattle.std.proofs.Common.{of_calls}
use Rattle.records.proofs.run_cases.Goals as goal

pub returns-in_default : goal.returns-in_default
returns-in_default g c = ([], c.args.run, refl, refl)

pub loop-init : goal.loop-init
loop-init g c = (c.requires, λ later last f. (later, omega arith, f))

pub loop-preserved : goal.loop-preserved
loop-preserved g c =
    let again : always_mut g.F.FnMut c.run.new.self = search of_calls in (
      again,
      λ later last f.
          let all = c.loop.invariant.1 (_ ∷ later) last (c.run.new.self, (_, _, _, c.run.ensures), f) in
          (all.0, omega (arith, all.1), all.2),
    )

pub returns : goal.returns
returns g c =
    let all = c.loop.invariant.1 [] c.loop.run refl in
    (all.0, c.loop.run, omega (arith, all.1, c.loop-test.false), all.2)
