-- Laws of a node's row. Assumes nothing.
use mathlib.Core.Path.{◌≡◌, sym, ap, ap₂, ◌∙◌}
use mathlib.Core.List.{List, [], ◌∷◌, ◌++◌, append_assoc}
use Prim.Native.Nat.{ℕ, ◌+◌, ◌^◌, ◌<◌}
use native.Mathlib.Omega.{arith}
use lib.ListN.{length, get_or, set, take, length-append}
use lib.Seq.{take_all, take_at}
use Rattle.model.specs.Bytes.{number, bytes, overwrite, part}
use Rattle.words.proofs.Memory.{overwrite-all, overwrite_join, overwrite-more, part_skip, get_or_skip}
use Rattle.words.proofs.Numbers.{bytes-length, number-bytes}
use Rattle.policy.specs.View.{cell_count}
use Rattle.node.specs.declared.Node.{Node}
use Rattle.store.specs.Store.{row_bytes}
use Rattle.discovery.specs.Discovery.{pattern_bytes, row_of, node_in, taken_at, state_at}

-- the writes of a node's row
pub row_written : (zeros cells : List ℕ) (t s : ℕ) → length zeros ≡ row_bytes → length cells ≡ cell_count →
    set (overwrite (overwrite zeros 0 (part cells 0 cell_count)) taken_at (bytes pattern_bytes t)) state_at s ≡ cells ++ (bytes pattern_bytes t ++ (s ∷ []))
row_written zeros cells t s room size =
    let pattern = bytes pattern_bytes t in
    let whole : part cells 0 cell_count ≡ cells = take_all cell_count cells (omega arith) in
    let long : length (cells ++ pattern) ≡ state_at = length-append cells pattern ∙ ap₂ (λ (a b : ℕ). a + b) size (bytes-length pattern_bytes t) in
    let longer : length (cells ++ (pattern ++ (s ∷ []))) ≡ length zeros =
    length-append cells (pattern ++ (s ∷ [])) ∙ ap₂ (λ (a b : ℕ). a + b) size (length-append pattern (s ∷ []) ∙ ap (λ (n : ℕ). n + 1) (bytes-length pattern_bytes t)) ∙ sym room in
    let place : taken_at ≡ 0 + length cells = omega arith in
    ap₂ (λ (l : List ℕ) (k : ℕ). set (overwrite (overwrite zeros 0 l) k pattern) state_at s) whole place
    ∙ ap (λ (l : List ℕ). set l state_at s) (overwrite_join zeros 0 cells pattern (omega (arith, bytes-length pattern_bytes t)))
    ∙ overwrite-more zeros 0 (cells ++ pattern) state_at s long (omega arith)
    ∙ ap (overwrite zeros 0) (append_assoc cells pattern (s ∷ []))
    ∙ overwrite-all zeros (cells ++ (pattern ++ (s ∷ []))) longer

-- the node of a node's row is the node
pub node_row : (u : Node) → length u.cells ≡ cell_count → u.taken < 256 ^ pattern_bytes → node_in (row_of u) ≡ u
node_row u size small =
    let rest = bytes pattern_bytes u.taken ++ (u.state ∷ []) in
    let cells : take cell_count (row_of u) ≡ u.cells = take_at u.cells rest cell_count size in
    let taken : number (part (row_of u) taken_at pattern_bytes) ≡ u.taken =
    ap number (part_skip u.cells rest taken_at 0 pattern_bytes size ∙ take_at (bytes pattern_bytes u.taken) (u.state ∷ []) pattern_bytes (bytes-length pattern_bytes u.taken))
    ∙ number-bytes pattern_bytes u.taken small in
    let state : get_or (row_of u) state_at 0 ≡ u.state =
    get_or_skip u.cells rest taken_at pattern_bytes size ∙ get_or_skip (bytes pattern_bytes u.taken) (u.state ∷ []) pattern_bytes 0 (bytes-length pattern_bytes u.taken) in
    λ i. record { cells = cells i; taken = taken i; state = state i }

pub row-length : (u : Node) → length u.cells ≡ cell_count → length (row_of u) ≡ row_bytes
row-length u size =
    length-append u.cells (bytes pattern_bytes u.taken ++ (u.state ∷ []))
    ∙ ap₂ (λ (a b : ℕ). a + b) size (length-append (bytes pattern_bytes u.taken) (u.state ∷ []) ∙ ap (λ (n : ℕ). n + 1) (bytes-length pattern_bytes u.taken))
