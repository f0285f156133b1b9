-- The call's answer by its tests.
-- Assumes nothing.
use mathlib.Core.Path.{◌≡◌, sym, ap, subst, ◌∙◌}
use mathlib.Core.List.{List}
use mathlib.Core.Option.{Option, some}
use Prim.Native.Nat.{ℕ, ◌≤◌, ◌<◌}
use lib.Dec.{ltb}
use lib.ListN.{length}
use Rattle.model.specs.Limits.{certificate_room}
use Rattle.model.specs.Edition.{first_edition}
use Rattle.model.specs.Refusals.{short_memory}
use Rattle.model.specs.Calls.{refuses, writes}
use Rattle.model.specs.PlanBytes.{plan_bytes}
use Rattle.model.specs.Certificate.{Certificate, certificate_bytes, read_certificate_in}
use Rattle.model.specs.Convert.{with_form, widened, CertificateCarried}
use Rattle.model.proofs.Calls.{room-short, room_enough}
use Rattle.theory.proofs.Writings.{passed}
use Rattle.theory.proofs.Converted.{certificate-carried}
use Rattle.refusals.specs.Told.{Answer, Told}
use Rattle.refusals.proofs.Told.{told_as, told-bytes}
use Rattle.widen.specs.Promise.{Widens}

module _ (certificate : List ℕ) (lent : ℕ) where
  pub short : lent < certificate_room → widened certificate lent ≡ refuses short_memory
  unfolding widened
  short h = room-short certificate_room lent (with_form (read_certificate_in first_edition certificate)) h

  pub by_form : (f : Option Certificate) → certificate_room ≤ lent → read_certificate_in first_edition certificate ≡ f → widened certificate lent ≡ with_form f
  unfolding widened
  by_form f h e = room_enough certificate_room lent (with_form (read_certificate_in first_edition certificate)) h ∙ ap with_form e

  -- what is due is the certificate that was read
  due-read : (c d : Certificate) → read_certificate_in first_edition certificate ≡ some c → widened certificate lent ≡ writes d → d ≡ c
  unfolding widened
  due-read c d read e =
      let k = sym (ap with_form read) ∙ (passed (ltb lent certificate_room) short_memory (with_form (read_certificate_in first_edition certificate)) d e).1 in
      cc

-- what is written carries over
pub widens : (certificate before after : List ℕ) (r : Answer) → Told certificate_bytes (widened certificate (length before)) before after r →
    Widens certificate before after r
widens certificate before after r t = record {
  told = t;
  carried = λ P i c read n e.
      let w = told-bytes certificate_bytes (widened certificate (length before)) before after n (told_as e t) in
      let is = due-read certificate (length before) c w.what read w.is_due in
      subst (CertificateCarried P c (plan_bytes P)) (sym (w.bytes ∙ ap certificate_bytes is)) (certificate-carried P i certificate c read);
}
