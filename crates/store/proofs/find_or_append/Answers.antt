-- `store::find_or_append` meets its contract. Assumes nothing.
use mathlib.Core.Path.{refl}
use native.Mathlib.Omega.{arith}
use Rattle.store.proofs.Keep.{kept_there, kept_new, kept_full}
use Rattle.store.proofs.find_or_append.Goals as goal

pub returns-in-Some : goal.returns-in-Some
returns-in-Some c =
    let found = c.in-Some.ensures in
    kept_there c.args.m.now c.args.n c.args.row.now c.in-Some.index c.requires.1 found.index c.requires.0 (found.below c.in-Some.index refl)

pub returns-then-n-lt-MAX_ROWS : goal.returns-then-n-lt-MAX_ROWS
returns-then-n-lt-MAX_ROWS c =
    let found = c.in_default.ensures in
    kept_new c.args.m.now c.args.n c.args.row.now c.args.n c.requires.1 found.index c.append.new.m (omega arith) (omega arith) c.append.ensures

pub returns : goal.returns
returns c =
    let found = c.in_default.ensures in
    kept_full c.args.m.now c.args.n c.args.row.now c.args.n c.requires.1 found.index c.requires.0 (omega arith) (omega arith)
