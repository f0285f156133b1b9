-- `controller::last_refusal` meets its contract: the last write is that of the last two bytes that are a pair.
-- Assumes nothing.
use Rattle.std.proofs.Common.{ℕ, ◌+◌, length, get_or, ap, ◌∙◌}
use Rattle.model.specs.Controller.{refusal_of}
use Rattle.controller.specs.View.{write_of}
use Rattle.controller.proofs.Lists.{last_place, last_none, last-write}
use Rattle.controller.proofs.last_refusal.Goals as goal

pub returns-then-n-lt2 : goal.returns-then-n-lt2
returns-then-n-lt2 c = last_none c.args.writes.now c.if-n-lt2.true

pub returns : goal.returns
returns c =
    let writes = c.args.writes.now in
    c.refusal_of.ensures
    ∙ ap (λ (n : ℕ). refusal_of (write_of n (get_or writes (last_place (length writes) + 1) 0))) c.from-byte.ensures
    ∙ last-write writes 0 c.if-n-lt2.false
