-- What the widening call promises.
use Rattle.std.specs.Prelude.{◌≡◌, List, ℕ, Ok, length, take}
use Rattle.std.proofs.Math.Option.{some}
use Rattle.model.specs.Edition.{first_edition}
use Rattle.model.specs.Plan.{Plan, IsSoundIn}
use Rattle.model.specs.PlanBytes.{plan_bytes}
use Rattle.model.specs.Certificate.{Certificate, certificate_bytes, read_certificate_in}
use Rattle.model.specs.Convert.{widened, CertificateCarried}
use Rattle.refusals.specs.Told.{Answer, Told}

-- for all certificate bytes and output: the definition's answer; and what is written is accepted for a converted plan as the checker's tests
-- took the old one for the plan
pub record Widens (certificate before after : List ℕ) (r : Answer) : Type 0 where
  pub told : Told certificate_bytes (widened certificate (length before)) before after r
  pub carried : (P : Plan) → IsSoundIn first_edition P → (c : Certificate) → read_certificate_in first_edition certificate ≡ some c → (n : ℕ) → r ≡ Ok n →
      CertificateCarried P c (plan_bytes P) (take n after)
