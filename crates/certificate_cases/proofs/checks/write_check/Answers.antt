-- `certificate_cases::checks::write_check` meets its contract: as many bytes as the line has. Assumes nothing.
use mathlib.Core.Path.{sym, ◌∙◌, ap}
use Prim.Native.Nat.{ℕ}
use native.Mathlib.Nat.{zero-add}
use lib.ListN.{length}
use Rattle.model.specs.Check.{check}
use Rattle.model.specs.Text.{check_text}
use Rattle.certificate_cases.proofs.checks.write_check.Goals as goal

pub returns : goal.returns
returns c =
    let a = c.args in
    c.put_check-n.ensures.put.next ∙ zero-add _ ∙ ap (λ (n : ℕ). length (check_text (check a.plan.now a.certificate.now n))) (sym c.large_buffer-work.ensures)
