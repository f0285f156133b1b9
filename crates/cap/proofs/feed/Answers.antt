-- `cap::feed` meets its contract: an answer that is told stays, and while none is the labels are gone through.
-- Assumes nothing.
use mathlib.Core.Path.{◌≡◌, ap, ◌∙◌}
use Rattle.std.specs.Prelude.{Ok, Some, None}
use Rattle.cap.specs.View.{Answer}
use Rattle.cap.proofs.Answers.{fed_kept, fed_over, fed_refused}
use Rattle.cap.proofs.feed.Goals as goal

pub returns-in-Ok-None : goal.returns-in-Ok-None
returns-in-Ok-None c =
    let none = rw c.in-Ok-None.is at c.in-Ok-None.field-0-is in
    let is : ◌≡◌ {A = Answer} c.args.before.answer (Ok None) = c.in-Ok-None.is ∙ ap Ok none in
    fed_kept _ _ _ is _ c.scan.ensures

pub returns-in-Ok-Some : goal.returns-in-Ok-Some
returns-in-Ok-Some c =
    let some = rw c.in-Ok-Some.is at c.in-Ok-Some.field-0-is in
    let is : ◌≡◌ {A = Answer} c.args.before.answer (Ok (Some c.in-Ok-Some.field-0-0)) = c.in-Ok-Some.is ∙ ap Ok some in
    fed_over _ _ _ _ is

pub returns-in-Err : goal.returns-in-Err
returns-in-Err c = fed_refused _ _ _ _ c.in-Err.is
