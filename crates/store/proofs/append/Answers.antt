-- `store::append` meets its contract. Assumes nothing.
use mathlib.Core.Path.{◌≡◌, sym, ap, subst, ◌∙◌}
use mathlib.Core.List.{List}
use Prim.Native.Nat.{ℕ, ◌+◌, ◌*◌, ◌-◌, ◌^◌, ◌<◌}
use native.Mathlib.Omega.{arith}
use borrow.Author.Rules.{rules}
use borrow.Rule.Slice.PartMut.{put_mid}
use Rattle.store.specs.Store.{row_bytes, buckets_at, chain_at, Appended}
use Rattle.store.proofs.Tables.{overwrite-part_whole}
use Rattle.store.proofs.Extend.{with_row, with_entry, chained, appended, held_small, written, appends}
use Rattle.store.proofs.append.Goals as goal

pub put_entry-requires : goal.put_entry-requires
put_entry-requires c =
    let h = c.hash-h in
    (search rules, search rules, held_small c.args.m.now c.args.n c.entry-before.result h.result c.requires.0 h.ensures.1 c.entry-before.ensures)

pub returns : goal.returns
returns c =
    let m = c.args.m.now in
    let n = c.args.n in
    let row = c.args.row.now in
    let h = c.hash-h in
    let v = c.entry-before in
    let chain = c.put_entry in
    let bucket = c.put_entry-2 in
    let copied = c.copy_from_slice in
    let at = row_bytes * n in
    let first : put_mid at (at + row_bytes - at) m copied.new.self ≡ with_row m n row
    = ap (put_mid at (at + row_bytes - at) m) copied.ensures.after ∙ overwrite-part_whole at (at + row_bytes - at) m row (omega (arith, c.told-row)) in
    let second : chain.new.m ≡ chained m n row v.result
    = chain.ensures ∙ ap (λ (l : List ℕ). with_entry l chain_at n v.result) first in
    let third : bucket.new.m ≡ appended m n row v.result h.result
    = bucket.ensures ∙ ap (λ (l : List ℕ). with_entry l buckets_at h.result (n + 1)) second in
    let small : v.result < 256 ^ 2 = held_small m n v.result h.result c.requires.0 h.ensures.1 v.ensures in
    subst (λ (l : List ℕ). Appended m l n row) (sym third)
    (appends m (appended m n row v.result h.result) n row v.result h.result c.requires.0 c.requires.1 h.ensures.0 v.ensures
    (written m n row v.result h.result c.requires.0.room c.requires.1 c.told-row h.ensures.1 small))
