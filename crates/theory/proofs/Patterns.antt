-- The masks of edges and the patterns of nodes have no more bits than the longest window.
-- Assumes nothing.
use mathlib.Core.Logic.{inl, inr}
use mathlib.Core.Bool.{Bool}
use mathlib.Core.List.{List, [], ◌∷◌, Memᴰ}
use Prim.Native.Nat.{ℕ, suc, ◌^◌, ◌<◌, ◌≤◌}
use native.Mathlib.Nat.{one-le-pow, pow-suc, lt_of_lt_of_le, div-lt_iff_lt-mul}
use native.Mathlib.Omega.{arith}
use lib.Bits.{bit_or, or_lt}
use lib.Dec.{lit<}
use lib.ListN.{length, get_or}
use lib.Pow.{pow_mono}
use Rattle.model.specs.Graph.{Node, Edge, start, joined, edges}
use Rattle.model.specs.Plan.{Task, Plan}
use Rattle.model.specs.Slot.{no_task}
use Rattle.model.specs.Walk.{Walk, here, go}
use Rattle.model.proofs.Lists.{at_each, mem-get_or}
use Rattle.theory.proofs.Edges.{MaskOf}
use Rattle.theory.proofs.Nodes.{explored, explored_reachable}
use Rattle.theory.proofs.Walks.{step-of}

-- masks of n bits join to a pattern of n bits
pub joined-low : (n taken : ℕ) (ms : List ℕ) → taken < 2 ^ n → ((i : ℕ) → get_or ms i 0 < 2 ^ n) → joined taken ms < 2 ^ n
joined-low n taken [] h low = h
joined-low n taken (m ∷ ms) h low = joined-low n (bit_or taken m) ms (or_lt n taken m h (low 0)) (λ i. low (suc i))

-- where no window is above n
abbrev pub WindowsWithin : Plan → ℕ → Type 0
WindowsWithin P n = (t : Task) → Memᴰ t P.tasks → t.window ≤ n

module _ (P : Plan) (n : ℕ) (windows : WindowsWithin P n) where
  -- an edge's masks have n bits
  pub mask_below : (u : Node) (e : Edge) → Memᴰ e (edges P u) → (i : ℕ) → get_or e.masks i 0 < 2 ^ n
  mask_below u e m i = by ((step-of P u e m).fits.mask i)
    where
      by : {b : Bool} {x : ℕ} → MaskOf (get_or P.tasks i no_task) b x → x < 2 ^ n
      by (inl z) = rw z (one-le-pow n 2 (lit< tt))
      by (inr p) = lt_of_lt_of_le p.below (pow_mono (at_each {B = λ (t : Task). t.window ≤ n} P.tasks no_task windows (omega arith) i))

module _ (P : Plan) (n : ℕ) (windows : WindowsWithin P (suc n)) where
  -- the pattern, once joined, "moves down one place"
  pub edge-pattern : (u : Node) (e : Edge) → Memᴰ e (edges P u) → u.taken < 2 ^ suc n → e.to.taken < 2 ^ n
  edge-pattern u e m h =
      rw (step-of P u e m).taken
      ((div-lt_iff_lt-mul (lit< tt)).1 (rw pow-suc at (joined-low (suc n) u.taken e.masks h (mask_below P (suc n) windows u e m))))

  walk_pattern : {u v : Node} {es : List Edge} → Walk P u v es → u.taken < 2 ^ n → v.taken < 2 ^ n
  walk_pattern here h = h
  walk_pattern (go {u} {v} {e} m w) h = walk_pattern w (edge-pattern u e m (lt_of_lt_of_le h (pow_mono (omega arith))))

  -- so has the pattern of every node that is found
  pub pattern-below : (k i : ℕ) → i < length (explored P k) → (get_or (explored P k) i start).taken < 2 ^ n
  pattern-below k i h = walk_pattern (explored_reachable P k (get_or (explored P k) i start) (mem-get_or (explored P k) i start h)).1 (one-le-pow n 2 (lit< tt))
