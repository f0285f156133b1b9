-- `masks::list_runs` meets its contract: so far the clear ones of the first k masks are listed.
-- Assumes nothing.
use mathlib.Core.Path.{◌≡◌, sym, ap, ◌∙◌}
use mathlib.Core.List.{◌++◌, []}
use Prim.Native.Nat.{ℕ, ◌+◌, ◌*◌, ◌^◌}
use native.Mathlib.Nat.{mul-one, mul_assoc, mul-le-mul_left}
use native.Mathlib.Omega.{arith}
use lib.Pow.{pow-add, pow_mono}
use Rattle.model.specs.Lists.{cons_if}
use Rattle.model.proofs.Tests.{one-le}
use Rattle.masks.specs.Clear.{clear_of, clear_runs}
use Rattle.masks.proofs.Clear.{runs_none, runs-more, lists-none, lists-more, lists-same}
use Rattle.masks.proofs.list_runs.Goals as goal

-- the mask after that of k
doubled : (first m k : ℕ) → m ≡ first * 2 ^ k → m * 2 ≡ first * 2 ^ (k + 1)
doubled first m k e = ap (λ (x : ℕ). x * 2) e ∙ mul_assoc first (2 ^ k) 2 ∙ ap (λ (x : ℕ). first * x) (sym (pow-add 2 k 1))

pub loop-k-init : goal.loop-k-init
loop-k-init c =
    let a = c.args in
    (sym (mul-one a.first), omega arith, rw (runs_none a.pattern a.first) lists-none)

pub overflow_add-next : goal.overflow_add-next
overflow_add-next c =
    let a = c.args in
    omega (arith, c.if_clear-next.ensures, one-le (clear_of a.pattern c.loop-k.m))

pub overflow_mul-m : goal.overflow_mul-m
overflow_mul-m c =
    let l = c.loop-k in
    let a = c.args in
    omega (
      arith,
      doubled a.first l.m l._k l.invariant.0,
      mul-le-mul_left a.first (pow_mono {i = l._k + 1} {j = a.count} (omega arith)),
      c.requires.0,
    )

pub loop-k-preserved : goal.loop-k-preserved
loop-k-preserved c =
    let l = c.loop-k in
    let a = c.args in (
      doubled a.first l.m l._k l.invariant.0,
      omega (arith, c.if_clear-next.ensures, one-le (clear_of a.pattern l.m)),
      lists-more a.pattern l.m c.if_clear-next.result c.if_clear-next.ensures
          (runs-more a.pattern a.first l._k
          ∙ ap (λ (j : ℕ). clear_runs a.pattern a.first l._k ++ cons_if (clear_of a.pattern j) j []) (sym l.invariant.0))
          c.requires.1 (omega arith) l.invariant.2,
    )

pub returns : goal.returns
returns c =
    let l = c.loop-k in
    let a = c.args in
    let e : l._k ≡ a.count = omega arith in
    lists-same (ap (clear_runs a.pattern a.first) e) l.invariant.2
