-- `graph::is_run` meets its contract.
-- Assumes nothing.
use mathlib.Core.Path.{◌≡◌, sym, ◌∙◌}
use Prim.Native.Nat.{ℕ, ◌*◌, ◌%◌, ◌^◌, ◌<◌}
use native.Mathlib.Nat.{mod-eq_of_lt, mul-le-mul_left, lt_of_le_of_lt}
use native.Mathlib.Omega.{arith}
use borrow.Author.Count.{below_more}
use lib.Pow.{pow_mono}
use Rattle.graph.proofs.Search.{run-at, no_run}
use Rattle.graph.proofs.is_run.Goals as goal

-- a run that is moved up stays within the word
whole : (run k n : ℕ) → k < n → run * 2 ^ n < 2 ^ 32 → run * 2 ^ k % 2 ^ 32 ≡ run * 2 ^ k
whole run k n lt low = mod-eq_of_lt (lt_of_le_of_lt (mul-le-mul_left run (pow_mono {i = k} {j = n} (omega arith))) low)

pub returns-then-m-run : goal.returns-then-m-run
returns-then-m-run c =
    let a = c.args in
    sym (run-at a.m a.run a.places c.loop-k.k (omega arith) (c.if-m-run.true ∙ whole a.run c.loop-k.k a.places (omega arith) c.requires.0))

pub loop-k-preserved : goal.loop-k-preserved
loop-k-preserved c =
    let a = c.args in
    below_more _ _ c.loop-k.invariant (λ e. c.if-m-run.false (e ∙ sym (whole a.run c.loop-k.k a.places (omega arith) c.requires.0)))

pub returns : goal.returns
returns c =
    let a = c.args in
    sym (no_run a.m a.run a.places (λ k lt. c.loop-k.invariant k (omega arith)))
