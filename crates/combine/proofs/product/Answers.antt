-- `combine::product` meets its contract: the pairs before k have been explored.
-- Assumes nothing.
use mathlib.Core.Path.{refl, ap, ◌∙◌}
use mathlib.Core.List.{List}
use Prim.Native.Nat.{ℕ}
use lib.ListN.{length, get_or, length-replicate}
use Rattle.model.proofs.Lists.{get_d_default}
use Rattle.plan.specs.View.{pair_count}
use Rattle.combine.specs.Pairs.{state_pairs}
use Rattle.combine.proofs.Numbers.{no_pairs}
use Rattle.combine.proofs.Whole.{reached-start, reached-many, reached-next, reached-all}
use Rattle.combine.proofs.product.Goals as goal

pub join-requires : goal.join-requires
join-requires c =
    let z = c.no_numbers-numbers.ensures in
    no_pairs _ _ refl (ap length z ∙ length-replicate {A = ℕ} state_pairs 0) (λ n. ap (λ (t : List ℕ). get_or t n 0) z ∙ get_d_default state_pairs n 0)

pub loop-k-init : goal.loop-k-init
loop-k-init c =
    let z = c.empty_table-next.ensures in
    reached-start _ _ _ _ _ _ c.join.ensures c.in_ok-states.states c.in_ok-states.was _ (ap length z ∙ length-replicate {A = ℕ} pair_count 0) (λ n. ap (λ (t : List ℕ). get_or t n 0) z ∙ get_d_default pair_count n 0)

pub returns-in_err-row : goal.returns-in_err-row
returns-in_err-row c =
    rw c.from_residual-in_err-row.ensures
    (reached-many _ _ _ _ _ _ c.loop-k.states c.loop-k.k c.loop-k.invariant c.loop-k-test.true _ _ _ c.in_err-row.ensures refl)

pub loop-k-preserved : goal.loop-k-preserved
loop-k-preserved c =
    reached-next _ _ _ _ _ _ c.loop-k.states c.loop-k.k c.loop-k.invariant c.loop-k-test.true _ _ _ c.in_ok-row.ensures c.in_ok-row.row refl _ c.copy.ensures

pub returns : goal.returns
returns c =
    reached-all _ _ _ _ _ _ c.loop-k.states c.loop-k.k c.loop-k.invariant c.args.tasks.now.fits c.loop-k-test.false
