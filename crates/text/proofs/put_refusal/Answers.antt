-- `text::put_refusal` meets its contract: a word, a number and a line feed, one after the other.
-- Assumes nothing.
use native.Mathlib.Omega.{arith}
use Rattle.model.specs.Text.{refused_line}
use Rattle.text.proofs.Decimal.{refused-length}
use Rattle.words.proofs.Put.{put_join}
use Rattle.text.proofs.put_refusal.Goals as goal

pub put_bytes-word-requires : goal.put_bytes-word-requires
put_bytes-word-requires c = omega (arith, c.requires, refused-length c.args.n)

pub put_number-number-requires : goal.put_number-number-requires
put_number-number-requires c =
    omega (arith, c.put_bytes-word.ensures.next, refused-length c.args.n)

pub put_bytes-requires : goal.put_bytes-requires
put_bytes-requires c =
    omega (arith, c.put_number-number.ensures.next, c.put_bytes-word.ensures.next, refused-length c.args.n)

pub returns : goal.returns
unfolding refused_line
returns c =
    let number = put_join _ _ _ 0 _ _ _ _ (omega (arith, c.requires, refused-length c.args.n)) c.put_bytes-word.ensures c.put_number-number.ensures in
    put_join _ _ _ 0 _ _ _ _ (omega (arith, c.requires, refused-length c.args.n)) number c.put_bytes.ensures
