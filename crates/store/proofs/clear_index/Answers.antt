-- `store::clear_index` meets its contract. Assumes nothing.
use mathlib.Core.Path.{◌≡◌, ap, ◌∙◌}
use Prim.Native.Nat.{ℕ, ◌*◌}
use native.Mathlib.Omega.{arith}
use lib.ListN.{length, replicate, take, drop}
use Rattle.model.specs.Bytes.{overwrite}
use Rattle.words.proofs.Memory.{part_length}
use Rattle.store.specs.Store.{buckets_at, hashes}
use Rattle.store.proofs.Tables.{overwrite-part_whole, cleared-index}
use Rattle.store.proofs.clear_index.Goals as goal

pub returns : goal.returns
returns c =
    let m = c.args.m.now in
    let long : length (take (2 * hashes) (drop buckets_at m)) ≡ 2 * hashes = part_length m buckets_at (2 * hashes) (omega arith) in
    let zeros = c.fill.ensures.after (λ y e. e) ∙ ap (λ (k : ℕ). replicate k 0) long in
    cleared-index m _ c.requires
    (overwrite-part_whole buckets_at (2 * hashes) m c.fill.new.self (c.fill.auto.self ∙ long) ∙ ap (overwrite m buckets_at) zeros)
