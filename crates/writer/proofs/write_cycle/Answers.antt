-- `writer::write_cycle` meets its contract: the first step's node, and then the steps. Assumes nothing.
use mathlib.Core.Path.{◌≡◌, refl, sym, ap, ◌∙◌}
use Prim.Native.Nat.{ℕ, ◌+◌, ◌*◌}
use native.Mathlib.Omega.{arith}
use mathlib.Core.List.{map}
use Rattle.model.specs.Bytes.{overwrite}
use Rattle.theory.specs.Lightest.{step_of}
use Rattle.certificate.specs.View.{cycle_size, step_size}
use Rattle.certificate_bytes.specs.Pieces.{node_bytes}
use Rattle.links.specs.declared.Taken.{Taken}
use Rattle.circuit.specs.Circuit.{steps_bytes}
use Rattle.writer.proofs.Bytes.{cycle-written}
use Rattle.writer.proofs.Certificates.{edges-count, first-node}
use Rattle.writer.proofs.write_cycle.Goals as goal

pub overflow_cast-first : goal.overflow_cast-first
overflow_cast-first c =
    let turns = c.requires.turning.0.turns in
    let node = ap (λ (s : Taken). s.node) c.step_at-first.ensures in
    record { fits = omega (arith, node, turns.below 0 c.requires.turning.1, turns.holds.rows.index.few) }

pub returns : goal.returns
returns c =
    let a = c.args in record {
      value = refl;
      writes_cycle = λ P next n v es t.
          let w = c.write_steps.ensures P next n v es t in
          let node : _ ≡ v =
          ap (λ (s : Taken). s.node) c.step_at-first.ensures ∙ sym (first-node a.m.now a.k c.requires.turning.1 t.along) in
          record {
            edges = w.edges;
            along = w.along;
            bytes =
                w.bytes
                ∙ ap (λ x. overwrite x (a.at + cycle_size) (steps_bytes (map step_of w.edges)))
                (c.write_cycle_head.ensures ∙ ap (λ (x : ℕ). overwrite a.out.now a.at (node_bytes x)) node)
                ∙ cycle-written a.out.now a.at v w.edges
                (omega (arith, ap (λ (x : ℕ). step_size * x) (edges-count a.m.now a.k w.along), c.requires.turning.2));
          };
    }
