-- `certificate::Reader::cycle` meets its contract: the node, the steps and the end.
-- Assumes nothing.
use Rattle.std.proofs.Common.{arith, refl, ap, ◌∙◌, ◌+◌, length, None, Some}
use Rattle.node.specs.Edition.{edition_of}
use Rattle.certificate.specs.View.{node_command, cycle_size, in_place}
use Rattle.certificate.proofs.Forms.{tested, end-tested, operand_in, steps-moved, cycle_missing, cycle-fault, cycle-empty, cycle-goes_on, cycle-read}
use Rattle.certificate.proofs.Reader.cycle.Goals as goal
use Rattle.certificate.proofs.Reader.cycle.Goals.{then-items-eq0-via-then-items-eq0, then-items-eq0-via-else-items-eq0+then-not-is_end}

pub returns-then-not-has : goal.returns-then-not-has
returns-then-not-has c =
    let a = c.args in
    let gone = tested a.self a.self.src.now a.self.at refl refl node_command cycle_size c.has.ensures c.if-not-has.true in
    ap in_place (cycle_missing (edition_of a.edition) a.self.src.now a.fraction.p a.fraction.q a.count a.self.at gone)

pub returns-in_err-items : goal.returns-in_err-items
returns-in_err-items c =
    let a = c.args in
    let e = edition_of a.edition in
    let here = tested a.self a.self.src.now a.self.at refl refl node_command cycle_size c.has.ensures c.if-not-has.false in
    let from = c.past-from.result in
    let read =
    steps-moved from a.self.src.now (a.self.at + cycle_size) (ap (λ s. s.now) c.past-from.ensures.0) c.past-from.ensures.1 e None
    (c.in_err-items.ensures e c.step_size.ensures) in
    c.from_residual.ensures ∙ ap in_place (cycle-fault e a.self.src.now a.fraction.p a.fraction.q a.count a.self.at here read)

pub is_end-requires : goal.is_end-requires
is_end-requires c =
    let read = c.in_ok-items.ensures (edition_of c.args.edition) c.step_size.ensures in
    omega (arith, read.0.inside, ap length read.0.bytes)

pub returns-then-items-eq0 : goal.returns-then-items-eq0
returns-then-items-eq0 c =
    let a = c.args in
    let e = edition_of a.edition in
    let here = tested a.self a.self.src.now a.self.at refl refl node_command cycle_size c.has.ensures c.if-not-has.false in
    let from = c.past-from.result in
    let run = c.in_ok-items.field-0 in
    let read =
    steps-moved from a.self.src.now (a.self.at + cycle_size) (ap (λ s. s.now) c.past-from.ensures.0) c.past-from.ensures.1 e (Some run)
    (c.in_ok-items.ensures e c.step_size.ensures) in
    ap in_place
    (elim c.then-items-eq0.branch [
      | then-items-eq0-via-then-items-eq0 w ↦
          cycle-empty e a.self.src.now a.fraction.p a.fraction.q a.count a.self.at here run.items run.end.at read.1 w.if-items-eq0.true
      | then-items-eq0-via-else-items-eq0+then-not-is_end w ↦
          cycle-goes_on e a.self.src.now a.fraction.p a.fraction.q a.count a.self.at here run.items run.end.at read.1
          (end-tested run.end a.self.src.now run.end.at read.0.bytes refl w.is_end.ensures w.if-not-is_end.true)
    ])

pub returns : goal.returns
returns c =
    let a = c.args in
    let e = edition_of a.edition in
    let here = tested a.self a.self.src.now a.self.at refl refl node_command cycle_size c.has.ensures c.if-not-has.false in
    let from = c.past-from.result in
    let run = c.in_ok-items.field-0 in
    let read =
    steps-moved from a.self.src.now (a.self.at + cycle_size) (ap (λ s. s.now) c.past-from.ensures.0) c.past-from.ensures.1 e (Some run)
    (c.in_ok-items.ensures e c.step_size.ensures) in
    cycle-read e a.self.src.now a.fraction.p a.fraction.q a.count a.self.at here run.items run.end.at read.1 c.if-items-eq0.false
    (end-tested run.end a.self.src.now run.end.at read.0.bytes refl c.is_end.ensures c.if-not-is_end.false)
    c.operand-node.result from.at
    (operand_in c.past.result a.self.src.now (a.self.at + 1) (ap (λ s. s.now) c.past.ensures.0) c.past.ensures.1 2 c.operand-node.ensures)
    c.past-from.ensures.1 c.requires.1 c.requires.3
