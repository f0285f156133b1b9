-- A refusal is its line, and a certificate is written already.
use mathlib.Core.Path.{ap}
use Prim.Native.Nat.{ℕ, ◌^◌, ◌≤◌, ◌<◌}
use native.Mathlib.Omega.{arith}
use lib.ListN.{length}
use Rattle.model.specs.Limits.{certificate_room}
use Rattle.model.specs.Text.{refused_line}
use Rattle.text.proofs.Decimal.{refused-most}
use Rattle.words.proofs.Put.{put_as}
use Rattle.solve_text.proofs.Answers.{puts_over, puts_certificate}
use Rattle.solve_text.proofs.put_certificate.Goals as goal

-- the line of any number has room
line-fits : {room : ℕ} (n : ℕ) → n < 2 ^ 64 → certificate_room ≤ room → length (refused_line n) ≤ room
line-fits n small room = omega (arith, room, refused-most n small)

pub put_refusal-requires : goal.put_refusal-requires
put_refusal-requires c = line-fits _ (omega arith) (omega (arith, c.requires))

pub returns-in-Err : goal.returns-in-Err
returns-in-Err c =
    let p = puts_over c.solve.ensures _ c.in-Err.is (put_as (ap refused_line c.number.ensures) c.put_refusal.ensures) in
    record { puts = p.0; prefix_len = p.1; work_after = c.solve.ensures.memory }

pub returns-in-Ok : goal.returns-in-Ok
returns-in-Ok c =
    let p = puts_certificate c.solve.ensures _ c.in-Ok.is in
    record { puts = p.0; prefix_len = p.1; work_after = c.solve.ensures.memory }
