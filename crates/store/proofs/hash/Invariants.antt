-- `store::hash` meets its contract: so far h is the hash of the first k words. Assumes nothing.
use mathlib.Core.Path.{◌≡◌}
use Prim.Native.Nat.{◌<◌}
use Rattle.store.specs.Store.{hash_base, hash_words}
use Rattle.store.proofs.hash.Given as goal

abbrev pub invariant-loop-k : goal.invariant-loop-k
invariant-loop-k l = (l.h ≡ hash_words l.row l.k) × (l.h < hash_base)
