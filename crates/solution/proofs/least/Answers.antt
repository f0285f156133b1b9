-- `solution::least` meets its contract: the fraction falls as long as a cycle is found. Assumes nothing.
use native.Mathlib.Omega.{arith}
use Rattle.words.proofs.Free.{only_refl, only_trans}
use Rattle.solution.proofs.Falls.{settles_as, aimed_first, aimed_priced, aimed_circling, aimed_less, aimed_lower, aimed_solves}
use Rattle.solution.proofs.least.Goals as goal

pub loop-passes-init : goal.loop-passes-init
loop-passes-init c = (only_refl, λ P planned holds. aimed_first planned holds)

pub settle-requires : goal.settle-requires
settle-requires c =
    let h = c.requires.0 in
    let k = c.loop-passes.invariant in
    let a = k.1 h.plan h.planned h.holds in
    record { plan = h.plan; priced = aimed_priced a (omega (arith, c.requires.1, k.0.long)) }

pub attained-fraction-requires : goal.attained-fraction-requires
attained-fraction-requires c =
    let h = c.requires.0 in
    let k = c.loop-passes.invariant in
    let a = k.1 h.plan h.planned h.holds in
    let t = settles_as c.in-Err.is (c.settle.ensures h.plan (aimed_priced a (omega (arith, c.requires.1, k.0.long)))) in (
      record { plan = h.plan; next = c.args.machine.now.next; claim = _; circling = aimed_circling a t },
      omega (arith, c.requires.1, k.0.long, t.only.long),
    )

pub loop-passes-smaller : goal.loop-passes-smaller
loop-passes-smaller c =
    let h = c.requires.0 in
    let k = c.loop-passes.invariant in
    let a = k.1 h.plan h.planned h.holds in
    let t = settles_as c.in-Err.is (c.settle.ensures h.plan (aimed_priced a (omega (arith, c.requires.1, k.0.long)))) in
    aimed_less a (c.attained-fraction.ensures h.plan c.args.machine.now.next _ (aimed_circling a t))

pub loop-passes-preserved : goal.loop-passes-preserved
loop-passes-preserved c =
    let h = c.requires.0 in
    let k = c.loop-passes.invariant in
    let a = k.1 h.plan h.planned h.holds in
    let t = c.settle.ensures h.plan (aimed_priced a (omega (arith, c.requires.1, k.0.long))) in (
      only_trans k.0 t.only,
      λ P planned holds.
          let b = k.1 P planned holds in
          let l = aimed_circling b (settles_as c.in-Err.is (c.settle.ensures P (aimed_priced b (omega (arith, c.requires.1, k.0.long))))) in
          aimed_lower b l (c.attained-fraction.ensures P c.args.machine.now.next _ l),
    )

pub returns-in-Ok-clause-solving : goal.returns-in-Ok-clause-solving
returns-in-Ok-clause-solving c P planned holds =
    let k = c.loop-passes.invariant in
    let b = k.1 P planned holds in
    aimed_solves b (settles_as c.in-Ok.is (c.settle.ensures P (aimed_priced b (omega (arith, c.requires.1, k.0.long)))))

pub returns-in-Ok-clause-only : goal.returns-in-Ok-clause-only
returns-in-Ok-clause-only c =
    let h = c.requires.0 in
    let k = c.loop-passes.invariant in
    let a = k.1 h.plan h.planned h.holds in
    only_trans k.0 (c.settle.ensures h.plan (aimed_priced a (omega (arith, c.requires.1, k.0.long)))).only
