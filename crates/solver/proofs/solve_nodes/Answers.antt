-- `solver::solve_nodes` meets its contract: the smallest fraction, and then its certificate. Assumes nothing.
use mathlib.Core.Path.{ap}
use Prim.Native.Nat.{ℕ}
use native.Mathlib.Omega.{arith}
use Rattle.std.specs.Prelude.{Ok}
use Rattle.solver.specs.Promise.{Answer}
use Rattle.solver.proofs.solve_nodes.Goals as goal

pub write-bytes-requires-clause-writable : goal.write-bytes-requires-clause-writable
write-bytes-requires-clause-writable c =
    let h = c.requires.0 in
    let call = c.least-solution in (
      record { next = c.args.machine.now.next; solvable = record { plan = h.plan; solving = call.ensures.solving h.plan h.planned h.holds } },
      omega (arith, c.requires.1, call.auto.m),
      c.requires.2,
    )

pub returns : goal.returns
returns c =
    let least = c.least-solution in
    let write = c.write-bytes in record {
      writes = λ P planned holds.
          let w = write.ensures P c.args.machine.now.next (least.ensures.solving P planned holds) in
          record {
            certificate = w.certificate;
            passes = least.result.passes;
            solved = w.solved;
            answer = ap {B = Answer} (λ (n : ℕ). Ok (record { bytes = n; passes = least.result.passes })) w.size;
            bytes = w.bytes;
          };
      only = least.ensures.only;
    }
