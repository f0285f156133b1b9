-- Walks one after another, a walk repeated, and their sums.
-- Assumes nothing.
use mathlib.Core.Path.{◌≡◌, sym}
use mathlib.Core.List.{List, [], ◌∷◌, ◌++◌, Memᴰ}
use Prim.Native.Nat.{ℕ, zero, suc, ◌+◌, ◌*◌}
use native.Mathlib.Nat.{zero-add, zero-mul, suc-mul}
use native.Mathlib.Omega.{arith}
use Rattle.model.specs.Lists.{sum_of}
use Rattle.model.specs.Plan.{Plan}
use Rattle.model.specs.Graph.{Node, Edge, edges}
use Rattle.model.specs.Walk.{Walk, here, go}

module _ {ℓ} {A : Type ℓ} where
  -- the list, so many times
  abbrev pub times : ℕ → List A → List A
  times zero l = []
  times (suc m) l = l ++ times m l

  -- the sum over two lists
  pub sum_of-append : (f : A → ℕ) (l k : List A) → sum_of f (l ++ k) ≡ sum_of f l + sum_of f k
  sum_of-append f [] k = sym (zero-add (sum_of f k))
  sum_of-append f (x ∷ l) k = omega (arith, sum_of-append f l k)

  -- the sum over a repeated list
  pub sum_of-times : (f : A → ℕ) (m : ℕ) (l : List A) → sum_of f (times m l) ≡ m * sum_of f l
  sum_of-times f zero l = sym (zero-mul (sum_of f l))
  sum_of-times f (suc m) l = omega (arith, sum_of-append f l (times m l), sum_of-times f m l, suc-mul m (sum_of f l))

module _ {P : Plan} where
  -- a walk, then one from where it leads
  pub walk_append : {u v w : Node} {es fs : List Edge} → Walk P u v es → Walk P v w fs → Walk P u w (es ++ fs)
  walk_append here k = k
  walk_append (go m h) k = go m (walk_append h k)

  -- one edge more
  pub walk_snoc : {u v : Node} {e : Edge} {es : List Edge} → Walk P u v es → Memᴰ e (edges P v) → Walk P u e.to (es ++ (e ∷ []))
  walk_snoc h m = walk_append h (go m here)

  -- a cycle, so many times
  pub walk_times : {u : Node} {es : List Edge} (m : ℕ) → Walk P u u es → Walk P u u (times m es)
  walk_times zero h = here
  walk_times (suc m) h = walk_append h (walk_times m h)
