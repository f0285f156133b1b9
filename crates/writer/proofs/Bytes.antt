-- A certificate's bytes, written piece by piece.
-- Assumes nothing.
use mathlib.Core.Path.{◌≡◌, sym, ap, ◌∙◌}
use mathlib.Core.Bool.{cond}
use mathlib.Core.List.{List, [], ◌++◌, map, append-nil}
use Prim.Native.Nat.{ℕ, ◌+◌, ◌*◌, ◌≤◌, ◌<◌}
use native.Mathlib.Omega.{arith}
use borrow.Author.Tests.{eq-eqb, ne_eqb}
use lib.Dec.{eqb}
use lib.IntN.{ℤ}
use lib.ListN.{length, length-append}
use Rattle.model.specs.Bytes.{overwrite}
use Rattle.model.specs.Edition.{long_reads}
use Rattle.model.specs.Certificate.{Certificate, certificate_bytes}
use Rattle.model.specs.Graph.{Edge}
use Rattle.model.proofs.Lists.{flat_map-length, table_more}
use Rattle.theory.specs.Lightest.{step_of}
use Rattle.theory.proofs.Form.{potential_bytes}
use Rattle.theory.proofs.Settled.{length-distances}
use Rattle.certificate.specs.View.{head_size, potential_size, cycle_size, step_size}
use Rattle.certificate_bytes.specs.Pieces.{head_bytes, node_bytes, end_bytes}
use Rattle.certificate_bytes.proofs.Pieces.{certificate_pieces, head-length, potential-length, potentials-length, front_length, node-length}
use Rattle.certificate_bytes.proofs.Pieces.{overwrite-then, overwrite_piece}
use Rattle.links.specs.Links.{link_in, state_in}
use Rattle.circuit.specs.Circuit.{steps_bytes}
use Rattle.circuit.proofs.Steps.{edge_bytes, edge-length, edges-bytes}
use Rattle.writer.specs.Writer.{distances_in, potentials_bytes}

-- ---- the lists

edges-length : (es : List Edge) → length (steps_bytes (map step_of es)) ≡ step_size * length es
edges-length es = ap length (sym (edges-bytes es)) ∙ flat_map-length edge_bytes step_size es edge-length

-- one potential more
pub potentials-more : (m before : List ℕ) (i : ℕ) → head_size + potential_size * i + potential_size ≤ length before →
    overwrite (overwrite before head_size (potentials_bytes (distances_in m i))) (head_size + potential_size * i) (potential_bytes (link_in m i).distance)
    ≡ overwrite before head_size (potentials_bytes (distances_in m (i + 1)))
potentials-more m before i fits =
    overwrite_piece potential_bytes before head_size [] (distances_in m i) (link_in m i).distance (head_size + potential_size * i)
    (omega (arith, potentials-length (distances_in m i), ap (λ (n : ℕ). potential_size * n) (length-distances i (state_in m))))
    (omega (arith, potential-length (link_in m i).distance))
    ∙ ap (λ zs. overwrite before head_size (potentials_bytes zs)) (sym (table_more (state_in m).dist i))

-- the node and the steps
pub cycle-written : (m : List ℕ) (at v : ℕ) (es : List Edge) → at + cycle_size + step_size * length es ≤ length m →
    overwrite (overwrite m at (node_bytes v)) (at + cycle_size) (steps_bytes (map step_of es)) ≡ overwrite m at (node_bytes v ++ steps_bytes (map step_of es))
cycle-written m at v es fits =
    overwrite-then m at (node_bytes v) (steps_bytes (map step_of es)) (at + cycle_size) (omega (arith, node-length v)) (omega (arith, edges-length es))

-- ---- the certificate

-- the place after n potentials, and after a cycle of k steps
abbrev pub potentials_end : ℕ → ℕ
potentials_end n = head_size + potential_size * n

abbrev pub cycle_end : ℕ → ℕ → ℕ
cycle_end n k = potentials_end n + cycle_size + step_size * k

-- memory with a head for n potentials, and with the potentials
abbrev pub fronted : ℕ → ℕ → ℕ → List ℤ → List ℕ → List ℕ
fronted p q n zs m = overwrite (overwrite m 0 (head_bytes p q n)) head_size (potentials_bytes zs)

module _ (c : Certificate) {n : ℕ} (count : length c.potentials ≡ n) where
  -- the head and the potentials
  abbrev front : List ℕ
  front = head_bytes c.p c.q n ++ potentials_bytes c.potentials

  front_ends : length front ≡ potentials_end n
  front_ends = front_length c.p c.q n c.potentials ∙ ap potentials_end count

  pieces : certificate_bytes c ≡ front ++ cond (eqb c.q 0) [] (node_bytes c.node ++ steps_bytes c.steps) ++ end_bytes
  pieces =
      certificate_pieces long_reads c
      ∙ ap
      (λ (k : ℕ). head_bytes c.p c.q k ++ potentials_bytes c.potentials
      ++ cond (eqb c.q 0) [] (node_bytes c.node ++ steps_bytes c.steps) ++ end_bytes)
      count

  front-written : (m : List ℕ) → potentials_end n ≤ length m → fronted c.p c.q n c.potentials m ≡ overwrite m 0 front
  front-written m fits =
      overwrite-then m 0 (head_bytes c.p c.q n) (potentials_bytes c.potentials) head_size
      (omega (arith, head-length c.p c.q n))
      (omega (arith, fits, potentials-length c.potentials, ap (λ (k : ℕ). potential_size * k) count))

  -- without a cycle
  module _ (none : c.q ≡ 0) where
    bytes-bare : certificate_bytes c ≡ front ++ end_bytes
    bytes-bare =
        pieces
        ∙ (λ i. front ++ cond (eq-eqb c.q 0 none i) [] (node_bytes c.node ++ steps_bytes c.steps) ++ end_bytes)
        ∙ ap (λ bs. bs ++ end_bytes) (append-nil front)

    pub bare-length : length (certificate_bytes c) ≡ potentials_end n + 1
    bare-length = omega (arith, ap length bytes-bare, length-append front end_bytes, front_ends)

    pub bare-written : (m : List ℕ) → potentials_end n + 1 ≤ length m →
        overwrite (fronted c.p c.q n c.potentials m) (potentials_end n) end_bytes ≡ overwrite m 0 (certificate_bytes c)
    bare-written m fits =
        ap (λ x. overwrite x (potentials_end n) end_bytes) (front-written m (omega (arith, fits)))
        ∙ overwrite-then m 0 front end_bytes (potentials_end n) (omega (arith, front_ends)) fits
        ∙ ap (overwrite m 0) (sym bytes-bare)

  -- with a cycle along these edges
  module _ (some : 0 < c.q) (es : List Edge) (steps : c.steps ≡ map step_of es) {k : ℕ} (long : length es ≡ k) where
    abbrev cycle : List ℕ
    cycle = node_bytes c.node ++ steps_bytes (map step_of es)

    bytes_full : certificate_bytes c ≡ front ++ cycle ++ end_bytes
    bytes_full =
        pieces
        ∙ (λ i. front ++ cond (ne_eqb c.q 0 (omega (arith, some)) i) [] (node_bytes c.node ++ steps_bytes (steps i)) ++ end_bytes)

    cycle-length : length cycle ≡ cycle_size + step_size * k
    cycle-length =
        omega (
          arith,
          length-append (node_bytes c.node) (steps_bytes (map step_of es)),
          node-length c.node,
          edges-length es,
          ap (λ (j : ℕ). step_size * j) long,
        )

    pub full_length : length (certificate_bytes c) ≡ cycle_end n k + 1
    full_length =
        omega (arith, ap length bytes_full, length-append (front ++ cycle) end_bytes, length-append front cycle, front_ends, cycle-length)

    pub full_written : (m : List ℕ) → cycle_end n k + 1 ≤ length m →
        overwrite (overwrite (fronted c.p c.q n c.potentials m) (potentials_end n) cycle) (cycle_end n k) end_bytes ≡ overwrite m 0 (certificate_bytes c)
    full_written m fits =
        ap (λ x. overwrite (overwrite x (potentials_end n) cycle) (cycle_end n k) end_bytes) (front-written m (omega (arith, fits)))
        ∙ ap (λ x. overwrite x (cycle_end n k) end_bytes)
        (overwrite-then m 0 front cycle (potentials_end n) (omega (arith, front_ends)) (omega (arith, fits, cycle-length)))
        ∙ overwrite-then m 0 (front ++ cycle) end_bytes (cycle_end n k) (omega (arith, length-append front cycle, front_ends, cycle-length)) fits
        ∙ ap (overwrite m 0) (sym bytes_full)
