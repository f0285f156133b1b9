-- `store::find` meets its contract. Assumes nothing.
use mathlib.Core.Path.{◌≡◌, sym, ap, subst, ◌∙◌}
use Prim.Native.Nat.{ℕ, ◌<◌}
use native.Mathlib.Omega.{arith}
use Rattle.store.specs.Store.{row_at, hash_of, hash_at, last_of}
use Rattle.store.proofs.Index.{last-le}
use Rattle.model.proofs.Tests.{same_numbers_lem}
use Rattle.store.proofs.Search.{other_numbers}
use Rattle.store.proofs.Walk.{Walked, walked_start, walked_step, walked_found, walked_out}
use Rattle.store.proofs.find.Goals as goal

pub loop-j-init : goal.loop-j-init
loop-j-init c =
    let a = c.args in
    let first : c.entry-next.result ≡ last_of (hash_at a.m.now) (hash_of a.row.now) a.n
    = c.entry-next.ensures ∙ c.requires.0.bucket c.hash.result c.hash.ensures.1
    ∙ ap (λ (h : ℕ). last_of (hash_at a.m.now) h a.n) c.hash.ensures.0 in
    subst (Walked a.m.now a.n a.row.now) (sym first) (walked_start a.m.now a.n a.row.now)

pub returns-then-same_row-clause-index : goal.returns-then-same_row-clause-index
returns-then-same_row-clause-index c =
    let a = c.args in
    let j = c.in-Some.j in
    walked_found a.m.now a.n a.row.now j c.requires.1 (omega arith)
    ((same_numbers_lem (row_at a.m.now j) a.row.now).0 (sym c.same_row.ensures ∙ c.if-same_row.true))

-- the entry of the row before is the one before it with the hash
entry-is : (c : goal.After-entry-next-in-Some)
    → c.entry-next-in-Some.result ≡ last_of (hash_at c.args.m.now) (hash_at c.args.m.now c.in-Some.j) c.in-Some.j
entry-is c =
    let below : c.in-Some.j < c.args.n = omega arith in
    c.entry-next-in-Some.ensures ∙ c.requires.0.chain c.in-Some.j below

pub loop-j-smaller : goal.loop-j-smaller
loop-j-smaller c =
    let m = c.args.m.now in
    let j = c.in-Some.j in
    omega (arith, entry-is c, last-le (hash_at m) (hash_at m j) j)

pub loop-j-preserved : goal.loop-j-preserved
loop-j-preserved c =
    let a = c.args in
    let j = c.in-Some.j in
    subst (Walked a.m.now a.n a.row.now) (sym (entry-is c))
    (walked_step a.m.now a.n a.row.now c.loop-j.next j (omega arith) c.loop-j.invariant
    ((other_numbers (row_at a.m.now j) a.row.now).0 (sym c.same_row.ensures ∙ c.if-same_row.false)))

pub returns-clause-index : goal.returns-clause-index
returns-clause-index c =
    let a = c.args in
    walked_out a.m.now a.n a.row.now c.loop-j.next (omega arith) c.loop-j.invariant
