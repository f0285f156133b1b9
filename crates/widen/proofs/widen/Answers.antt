-- `widen::widen` meets its contract: short output first, then a fault of form.
-- Assumes nothing.
use Rattle.std.specs.Prelude as rust
use Rattle.std.proofs.Common.{ap, ◌≡◌, ◌∙◌, List, ℕ}
use Rattle.model.specs.Edition.{Edition, first_edition}
use Rattle.model.specs.Certificate.{certificate_bytes, read_certificate_in}
use Rattle.certificate.specs.declared.Parts.{Parts}
use Rattle.certificate.specs.View.{certificate_of, in_place}
use Rattle.certificate.proofs.Placed.{read_as, is_read}
use Rattle.refusals.proofs.Told.{told-refusal, told-written}
use Rattle.widen.proofs.Answers.{short, by_form, widens}
use Rattle.widen.proofs.widen.Goals as goal

-- the bytes were read in the first edition
first_read : (bs : List ℕ) (o : rust.Option Parts) {e : Edition} → e ≡ first_edition → o ≡ in_place (read_certificate_in e bs) → o ≡ in_place (read_certificate_in first_edition bs)
first_read bs o is read = read ∙ ap (λ (e : Edition). in_place (read_certificate_in e bs)) is

pub returns-then-out-lt-CERTIFICATE_ROOM : goal.returns-then-out-lt-CERTIFICATE_ROOM
returns-then-out-lt-CERTIFICATE_ROOM c = widens _ _ _ _ (told-refusal _ _ _ _ (short _ _ c.if-out-lt-CERTIFICATE_ROOM.true))

pub write-requires-clause-read : goal.write-requires-clause-read
write-requires-clause-read c =
    is_read first_edition c.args.certificate.now (first_read c.args.certificate.now _ c.first.ensures c.read_in.ensures) c.in-Some.is

pub returns-in_default : goal.returns-in_default
returns-in_default c =
    let read = first_read c.args.certificate.now _ c.first.ensures c.read_in.ensures in
    widens _ _ _ _
    (told-refusal _ _ _ _
    (by_form _ _ _ c.if-out-lt-CERTIFICATE_ROOM.false (read_as first_edition c.args.certificate.now read c.in_default.is)))

pub returns : goal.returns
returns c =
    let read = first_read c.args.certificate.now _ c.first.ensures c.read_in.ensures in
    widens _ _ _ _
    (told-written certificate_bytes _ (certificate_of first_edition c.args.certificate.now _) _ _ _
    (by_form _ _ _ c.if-out-lt-CERTIFICATE_ROOM.false (read_as first_edition c.args.certificate.now read c.in-Some.is))
    c.write.ensures.value c.write.ensures.out_after)
