-- Four fields, the thousandths and a line feed, one after the other.
use mathlib.Core.Path.{ap₂}
use mathlib.Core.List.{◌++◌}
use Prim.Native.Nat.{ℕ, ◌^◌, ◌≤◌, ◌<◌}
use native.Mathlib.Omega.{arith}
use lib.ListN.{length, length-append}
use Rattle.model.specs.Thousandths.{thousandths}
use Rattle.model.specs.Text.{field, thousandths_text, check_text}
use Rattle.text.proofs.Decimal.{decimal-length, field-length, three_length}
use Rattle.words.proofs.Put.{put_as, put_join}
use Rattle.check_text.proofs.put_share.Goals as goal

-- a field of a number of 64 bits
field-most : (n : ℕ) → n < 2 ^ 64 → length (field n) ≤ 21
field-most n h = omega (arith, field-length n, decimal-length 19 n (omega arith))

pub put_three_fields-a-requires : goal.put_three_fields-a-requires
put_three_fields-a-requires c =
    let x = c.args in
    omega (
      arith,
      c.requires,
      three_length c.from-p.result c.from-q.result x.answer.n,
      field-most c.from-p.result (omega (arith, c.from-p.type_inv)),
      field-most c.from-q.result (omega (arith, c.from-q.type_inv)),
      field-most x.answer.n (omega arith),
    )

pub put_field-b-requires : goal.put_field-b-requires
put_field-b-requires c =
    let x = c.args in
    omega (
      arith,
      c.requires,
      c.put_three_fields-a.ensures.next,
      three_length c.from-p.result c.from-q.result x.answer.n,
      field-most c.from-p.result (omega (arith, c.from-p.type_inv)),
      field-most c.from-q.result (omega (arith, c.from-q.type_inv)),
      field-most x.answer.n (omega arith),
      field-most x.answer.k (omega arith),
    )

pub put_thousandths-c-requires : goal.put_thousandths-c-requires
put_thousandths-c-requires c =
    let x = c.args in
    omega (
      arith,
      c.requires,
      c.put_three_fields-a.ensures.next,
      c.put_field-b.ensures.next,
      three_length c.from-p.result c.from-q.result x.answer.n,
      field-most c.from-p.result (omega (arith, c.from-p.type_inv)),
      field-most c.from-q.result (omega (arith, c.from-q.type_inv)),
      field-most x.answer.n (omega arith),
      field-most x.answer.k (omega arith),
    )

pub put_bytes-requires : goal.put_bytes-requires
put_bytes-requires c =
    let x = c.args in
    omega (
      arith,
      c.requires,
      c.put_three_fields-a.ensures.next,
      c.put_field-b.ensures.next,
      c.put_thousandths-c.ensures.upper_bound,
      three_length c.from-p.result c.from-q.result x.answer.n,
      field-most c.from-p.result (omega (arith, c.from-p.type_inv)),
      field-most c.from-q.result (omega (arith, c.from-q.type_inv)),
      field-most x.answer.n (omega arith),
      field-most x.answer.k (omega arith),
    )

pub returns : goal.returns
unfolding check_text
returns c =
    let x = c.args in
    let s = c.requires in
    let three = three_length x.answer.fraction.p x.answer.fraction.q x.answer.n in
    let p = field-most x.answer.fraction.p (omega (arith, c.from-p.ensures, c.from-p.type_inv)) in
    let q = field-most x.answer.fraction.q (omega (arith, c.from-q.ensures, c.from-q.type_inv)) in
    let n = field-most x.answer.n (omega arith) in
    let k = field-most x.answer.k (omega arith) in
    let m = thousandths_text (thousandths x.answer.fraction.p x.answer.fraction.q) in
    let l4 = length-append (field x.answer.fraction.p ++ field x.answer.fraction.q ++ field x.answer.n) (field x.answer.k) in
    let l5 = length-append (field x.answer.fraction.p ++ field x.answer.fraction.q ++ field x.answer.n ++ field x.answer.k) m in
    let a = put_as (ap₂ (λ (y z : ℕ). field y ++ field z ++ field x.answer.n) c.from-p.ensures c.from-q.ensures) c.put_three_fields-a.ensures in
    let f = c.put_field-b.ensures in
    let end = c.put_thousandths-c.ensures in
    let room : length m ≤ 20 = omega (arith, end.put.next, end.upper_bound) in
    let four = put_join _ _ _ _ _ _ _ _ (omega (arith, s, three, p, q, n, k)) a f in
    let five = put_join _ _ _ _ _ _ _ _ (omega (arith, s, three, l4, p, q, n, k, room)) four end.put in
    record {
      put = put_join _ _ _ _ _ _ _ _ (omega (arith, s, three, l4, l5, p, q, n, k, room)) five c.put_bytes.ensures;
      upper_bound = omega (arith, a.next, f.next, end.upper_bound, c.put_bytes.ensures.next, three, p, q, n, k);
    }
