-- `check_cap::check` meets its contract: the labels that were read, fed from the first on.
-- Assumes nothing.
use mathlib.Core.List.{[]}
use native.Mathlib.Omega.{arith}
use lib.ListN.{take}
use Rattle.std.proofs.lemmas.Result.{err_from_is_err_and}
use Rattle.cap.proofs.Answers.{watching_from, checked, checked-refused}
use Rattle.check_cap.proofs.check.Goals as goal

pub returns-in_err-begun : goal.returns-in_err-begun
returns-in_err-begun g c =
    let a = c.args in
    let plan = take c.read_file-length.result c.read_file-length.new.buf in
    let p = err_from_is_err_and c.from_residual.result c.from_residual.ensures.1 in
    (plan, [], rw (p.1, p.2) (checked-refused plan [] a.slots a.work _ c.in_err-begun.ensures))

pub feed_parts-watch-requires : goal.feed_parts-watch-requires
feed_parts-watch-requires g c = watching_from _ _ _ _ _ _ (omega arith) c.in_ok-begun.ensures

pub returns : goal.returns
returns g c =
    let f = c.feed_parts-watch.ensures in
    let plan = take c.read_file-length.result c.read_file-length.new.buf in
    let a = c.args in
    (plan, f.0, checked plan f.0 a.slots a.work _ _ (f.1 plan a.slots a.work [] c.in_ok-begun.ensures))
