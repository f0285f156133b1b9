-- `certificate::read_in` meets its contract: the head, the potentials, and a cycle unless q is 0.
-- Assumes nothing.
use Rattle.std.specs.Prelude as rust
use Rattle.std.proofs.Common.{arith, refl, ap, ◌≡◌, ◌∙◌, ℕ, List, ◌+◌, None, Some}
use Rattle.model.specs.Bytes.{number, part}
use Rattle.node.specs.Edition.{edition_of}
use Rattle.certificate.specs.declared.Reader.{Reader}
use Rattle.certificate.specs.View.{head_command, head_size, in_place, PotentialsRead, cycle_from}
use Rattle.certificate.proofs.Forms.{tested, end-tested, operand_in, potentials-moved, head_missing, bad_count, potentials-fault, with_cycle_lem, goes_on, without_cycle}
use Rattle.certificate.proofs.read_in.Goals as goal

-- what a reader reads k bytes on from one at the first byte
module _ (head : Reader) (bs : List ℕ) (new : head.src.now ≡ bs) (start : head.at ≡ 0) (r : Reader) (k : ℕ) (moved : (r.src ≡ head.src) × (r.at ≡ head.at + k)) where
  here_now : r.src.now ≡ bs
  here_now = ap (λ s. s.now) moved.0 ∙ new

  here_at : r.at ≡ k
  here_at = omega (arith, moved.1, start)

  operand_on : (width : ℕ) {v : ℕ} → v ≡ number (part r.src.now r.at width) → v ≡ number (part bs k width)
  operand_on = operand_in r bs k here_now here_at

  potentials_on : (n : ℕ) (o : rust.Option Reader) → PotentialsRead r.src.now r.at n o → PotentialsRead bs k n o
  potentials_on = potentials-moved r bs k here_now here_at

pub returns-then-not-has : goal.returns-then-not-has
returns-then-not-has c =
    let bs = c.args.s.now in
    let new = ap (λ s. s.now) c.new-head.ensures.0 in
    let gone = tested c.new-head.result bs 0 new c.new-head.ensures.1 head_command head_size c.has.ensures c.if-not-has.true in
    ap in_place (head_missing (edition_of c.args.edition) bs gone)

pub returns-then-n-lt1 : goal.returns-then-n-lt1
returns-then-n-lt1 c =
    let bs = c.args.s.now in
    let head = c.new-head.result in
    let new = ap (λ s. s.now) c.new-head.ensures.0 in
    let start = c.new-head.ensures.1 in
    let here = tested head bs 0 new start head_command head_size c.has.ensures c.if-not-has.false in
    let is_n = operand_on head bs new start c.past-3.result 9 c.past-3.ensures 2 c.operand-n.ensures in
    ap in_place (bad_count (edition_of c.args.edition) bs here c.operand-n.result is_n c.then-n-lt1.either)

pub returns-in_err-end : goal.returns-in_err-end
returns-in_err-end c =
    let e = edition_of c.args.edition in
    let bs = c.args.s.now in
    let head = c.new-head.result in
    let n = c.operand-n.result in
    let new = ap (λ s. s.now) c.new-head.ensures.0 in
    let start = c.new-head.ensures.1 in
    let here = tested head bs 0 new start head_command head_size c.has.ensures c.if-not-has.false in
    let is_p = operand_on head bs new start c.past.result 1 c.past.ensures 4 c.operand-p.ensures in
    let is_q = operand_on head bs new start c.past-2.result 5 c.past-2.ensures 4 c.operand-q.ensures in
    let is_n = operand_on head bs new start c.past-3.result 9 c.past-3.ensures 2 c.operand-n.ensures in
    let read = potentials_on head bs new start c.past-4.result head_size c.past-4.ensures n None c.in_err-end.ensures in
    c.from_residual.ensures
    ∙ ap in_place (potentials-fault e bs here n is_n c.if-n-lt1.false c.if-n-gt-MAX_NODES.false c.operand-p.result c.operand-q.result is_p is_q read)

pub returns-then-q-ne0 : goal.returns-then-q-ne0
returns-then-q-ne0 c =
    let e = edition_of c.args.edition in
    let bs = c.args.s.now in
    let head = c.new-head.result in
    let n = c.operand-n.result in
    let p = c.operand-p.result in
    let q = c.operand-q.result in
    let end = c.in_ok-end.end in
    let new = ap (λ s. s.now) c.new-head.ensures.0 in
    let start = c.new-head.ensures.1 in
    let here = tested head bs 0 new start head_command head_size c.has.ensures c.if-not-has.false in
    let is_p = operand_on head bs new start c.past.result 1 c.past.ensures 4 c.operand-p.ensures in
    let is_q = operand_on head bs new start c.past-2.result 5 c.past-2.ensures 4 c.operand-q.ensures in
    let is_n = operand_on head bs new start c.past-3.result 9 c.past-3.ensures 2 c.operand-n.ensures in
    let read = potentials_on head bs new start c.past-4.result head_size c.past-4.ensures n (Some end) c.in_ok-end.ensures in
    c.cycle.ensures ∙ ap (λ l. in_place (cycle_from e l p q n end.at)) read.0.bytes
    ∙ ap in_place (with_cycle_lem e bs here n is_n c.if-n-lt1.false c.if-n-gt-MAX_NODES.false p q is_p is_q end.at read.1 c.if-q-ne0.true)

pub returns-then-not-is_end : goal.returns-then-not-is_end
returns-then-not-is_end c =
    let e = edition_of c.args.edition in
    let bs = c.args.s.now in
    let head = c.new-head.result in
    let n = c.operand-n.result in
    let end = c.in_ok-end.end in
    let new = ap (λ s. s.now) c.new-head.ensures.0 in
    let start = c.new-head.ensures.1 in
    let here = tested head bs 0 new start head_command head_size c.has.ensures c.if-not-has.false in
    let is_p = operand_on head bs new start c.past.result 1 c.past.ensures 4 c.operand-p.ensures in
    let is_q = operand_on head bs new start c.past-2.result 5 c.past-2.ensures 4 c.operand-q.ensures in
    let is_n = operand_on head bs new start c.past-3.result 9 c.past-3.ensures 2 c.operand-n.ensures in
    let read = potentials_on head bs new start c.past-4.result head_size c.past-4.ensures n (Some end) c.in_ok-end.ensures in
    ap in_place
    (goes_on e bs here n is_n c.if-n-lt1.false c.if-n-gt-MAX_NODES.false c.operand-p.result c.operand-q.result is_p is_q end.at read.1 c.if-q-ne0.false
    (end-tested end bs end.at read.0.bytes refl c.is_end.ensures c.if-not-is_end.true))

pub returns : goal.returns
returns c =
    let e = edition_of c.args.edition in
    let bs = c.args.s.now in
    let head = c.new-head.result in
    let n = c.operand-n.result in
    let end = c.in_ok-end.end in
    let new = ap (λ s. s.now) c.new-head.ensures.0 in
    let start = c.new-head.ensures.1 in
    let here = tested head bs 0 new start head_command head_size c.has.ensures c.if-not-has.false in
    let is_p = operand_on head bs new start c.past.result 1 c.past.ensures 4 c.operand-p.ensures in
    let is_q = operand_on head bs new start c.past-2.result 5 c.past-2.ensures 4 c.operand-q.ensures in
    let is_n = operand_on head bs new start c.past-3.result 9 c.past-3.ensures 2 c.operand-n.ensures in
    let read = potentials_on head bs new start c.past-4.result head_size c.past-4.ensures n (Some end) c.in_ok-end.ensures in
    without_cycle e bs here n is_n c.if-n-lt1.false c.if-n-gt-MAX_NODES.false c.operand-p.result c.operand-q.result is_p is_q end.at read.1 c.if-q-ne0.false
    (end-tested end bs end.at read.0.bytes refl c.is_end.ensures c.if-not-is_end.false) read.0.place
