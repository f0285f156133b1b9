-- `writer::write` meets its contract: the pieces one after another are the certificate's bytes. Assumes nothing.
use mathlib.Core.Path.{sym, ap, subst, ◌∙◌}
use Prim.Native.Nat.{ℕ, ◌+◌, ◌<◌}
use native.Mathlib.Omega.{arith}
use Rattle.model.specs.Bytes.{overwrite}
use Rattle.certificate.specs.View.{head_size}
use Rattle.certificate_bytes.specs.Pieces.{end_bytes}
use Rattle.writer.specs.Writer.{distances_in, potentials_bytes, WritesCycle, Written}
use Rattle.writer.proofs.Bytes.{potentials_end}
use Rattle.writer.proofs.Certificates.{count-few, written_bare, steps-few, steps-some, turns, turning, written_full}
use Rattle.writer.proofs.write.Goals as goal

pub overflow_cast-n : goal.overflow_cast-n
overflow_cast-n c = record { fits = omega (arith, count-few c.requires.writable.0.solvable.solving) }

pub write_potentials-requires : goal.write_potentials-requires
write_potentials-requires c =
    let few = count-few c.requires.writable.0.solvable.solving in
    (few, c.requires.writable.1, omega (arith, few, c.requires.writable.2, c.write_head.auto.out))

pub overflow_mul-at : goal.overflow_mul-at
overflow_mul-at c = record { fits = omega (arith, count-few c.requires.writable.0.solvable.solving) }

pub overflow_add-at : goal.overflow_add-at
overflow_add-at c = record { fits = omega (arith, count-few c.requires.writable.0.solvable.solving) }

pub write_end-requires : goal.write_end-requires
write_end-requires c =
    omega (arith, count-few c.requires.writable.0.solvable.solving, c.requires.writable.2, c.write_potentials.auto.out, c.write_head.auto.out)

pub overflow_add-result : goal.overflow_add-result
overflow_add-result c = record { fits = omega (arith, count-few c.requires.writable.0.solvable.solving) }

pub returns-then-q-eq0 : goal.returns-then-q-eq0
returns-then-q-eq0 c =
    let a = c.args in
    let front = c.write_potentials.ensures ∙ ap (λ x. overwrite x head_size (potentials_bytes (distances_in a.m.now a.n))) c.write_head.ensures in
    λ P next h. written_bare h c.if-q-eq0.true c.requires.writable.2 (c.write_end.ensures ∙ ap (λ x. overwrite x (potentials_end a.n) end_bytes) front)

pub write_cycle-end-requires-clause-turning : goal.write_cycle-end-requires-clause-turning
write_cycle-end-requires-clause-turning c =
    let h = c.requires.writable.0.solvable.solving in
    let some : 0 < c.args.solution.fraction.q = omega (arith, c.if-q-eq0.false) in (
      turning h some c.requires.writable.1,
      steps-some h some,
      omega (arith, count-few h, steps-few h some, c.requires.writable.2, c.write_potentials.auto.out, c.write_head.auto.out),
    )

pub write_end-requires-2 : goal.write_end-requires-2
write_end-requires-2 c =
    let h = c.requires.writable.0.solvable.solving in
    let some : 0 < c.args.solution.fraction.q = omega (arith, c.if-q-eq0.false) in
    omega (
      arith,
      c.write_cycle-end.ensures.value,
      count-few h,
      steps-few h some,
      c.requires.writable.2,
      c.write_cycle-end.auto.out,
      c.write_potentials.auto.out,
      c.write_head.auto.out,
    )

pub overflow_add-result-2 : goal.overflow_add-result-2
overflow_add-result-2 c =
    let h = c.requires.writable.0.solvable.solving in
    let some : 0 < c.args.solution.fraction.q = omega (arith, c.if-q-eq0.false) in
    record { fits = omega (arith, c.write_cycle-end.ensures.value, count-few h, steps-few h some) }

pub returns : goal.returns
returns c =
    let end = c.write_end-2 in
    let w = c.write_cycle-end in
    let a = c.args in
    let middle = w.new.out in
    let at = w.ensures.value in
    let some : 0 < a.solution.fraction.q = omega (arith, c.if-q-eq0.false) in
    let front = c.write_potentials.ensures ∙ ap (λ x. overwrite x head_size (potentials_bytes (distances_in a.m.now a.n))) c.write_head.ensures in
    λ P next h.
    let t = h.cycle some in
    let cycle = w.ensures.writes_cycle P next a.n t.node t.edges (turns h some) in
    subst (Written P a.solution.passes a.out.now end.new.out) (ap (λ (x : ℕ). x + 1) (sym at))
    (written_full h some c.requires.writable.2
    (subst (λ x. WritesCycle P a.m.now a.solution.steps t.node x (potentials_end a.n) middle) front cycle)
    (end.ensures ∙ ap (λ (x : ℕ). overwrite middle x end_bytes) at))
