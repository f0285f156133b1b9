-- A refusal has its line, and the passes have theirs.
use mathlib.Core.Path.{ap}
use native.Mathlib.Omega.{arith}
use Rattle.model.specs.Text.{refused_line}
use Rattle.text.proofs.Decimal.{number-most, refused-most}
use Rattle.words.proofs.Put.{put_as}
use Rattle.solve_text.specs.Bytes.{in_passes}
use Rattle.solve_text.proofs.Answers.{puts_refusal, puts_passes}
use Rattle.solve_text.proofs.put_passes_in.Goals as goal

pub put_refusal-requires : goal.put_refusal-requires
put_refusal-requires c = omega (arith, c.requires, refused-most c.number.result (omega arith))

pub put_number_line-requires : goal.put_number_line-requires
put_number_line-requires c = omega (arith, c.requires, number-most c.in-Ok.solved.passes (omega arith))

pub returns-in-Err : goal.returns-in-Err
returns-in-Err c =
    let p = puts_refusal c.solve.ensures _ c.in-Err.is in_passes (put_as (ap refused_line c.number.ensures) c.put_refusal.ensures) in
    record { puts = p.0; prefix_len = p.1; solves = (c.solve.result, c.solve.ensures) }

pub returns-in-Ok : goal.returns-in-Ok
returns-in-Ok c =
    let p = puts_passes c.solve.ensures _ c.in-Ok.is c.put_number_line.ensures in
    record { puts = p.0; prefix_len = p.1; solves = (c.solve.result, c.solve.ensures) }
