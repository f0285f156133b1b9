-- How much a walk can gain: a slot keeps at most one value, and its ideal gain is at most one value a task.
-- Assumes nothing.
use mathlib.Core.Path.{◌≡◌, refl, sym, ◌∙◌, ap₂, subst}
use mathlib.Core.Bool.{Bool, true, false, cond, ◌&&◌, ◌||◌}
use mathlib.Core.Option.{Option, none, some}
use mathlib.Core.List.{List, [], ◌∷◌, Memᴰ}
use Prim.Native.Nat.{ℕ, ◌*◌, ◌-◌, ◌≤◌}
use native.Mathlib.Nat.{suc-mul, mul-le-mul, mul-le-mul_right, le_trans}
use native.Mathlib.Omega.{arith}
use lib.Dec.{eqb, leb}
use lib.IntN.{nat_abs}
use lib.ListN.{length, get_or}
use borrow.Author.Tests.{eqb-true, leb-true, le-leb}
use Rattle.model.specs.Limits.{max_tasks, max_value, max_nodes, max_p, max_q, max_potential}
use Rattle.model.specs.Lists.{sum_of}
use Rattle.model.specs.Plan.{Task, Plan}
use Rattle.model.specs.Slot.{Job, no_task, task_of, run_first, ready, first, key, slot}
use Rattle.model.specs.Graph.{Node, Edge, worth, edges}
use Rattle.model.specs.Walk.{Walk, here, go, kept, ideal}
use Rattle.model.specs.Check.{gcd, fraction_ok, within_limit}
use Rattle.model.specs.Solve.{cost}
use Rattle.model.proofs.Lists.{at_each}
use Rattle.model.proofs.Plan.{both}
use Rattle.theory.proofs.Divisors.{gcd-zero}
use Rattle.theory.proofs.Integers.{nat_abs-sub-le}
use Rattle.theory.proofs.Sound.{PlanSound}
use Rattle.theory.proofs.Walks.{step-of}

-- no task's value is above the limit
abbrev Valued : List Task → Type 0
Valued ts = (t : Task) → Memᴰ t ts → t.value ≤ max_value

-- a number without a task has no value
value-le : (ts : List Task) → Valued ts → (i : ℕ) → (get_or ts i no_task).value ≤ max_value
value-le ts h i = at_each {B = λ (t : Task). t.value ≤ max_value} ts no_task h (omega arith) i

-- a slot's gain is one value, or none
gain-le : (ts : List Task) → Valued ts → (js : List Job) (o : Option Job) → (run_first ts js o).gain ≤ max_value
gain-le ts h js none = omega arith
gain-le ts h js (some j) = by (eqb j.work 1)
  where
    by : (b : Bool) → cond b (task_of ts j.task).value 0 ≤ max_value
    by true = value-le ts h (j.task - 1)
    by false = omega arith

-- a choice's gain is at most one value a task
worth-le : (ts : List Task) → Valued ts → (ms : List ℕ) → worth ts ms ≤ length ts * max_value
worth-le [] h ms = omega arith
worth-le (t ∷ ts) h [] = omega arith
worth-le (t ∷ ts) h (m ∷ ms) =
    omega (arith, one (eqb m 0), worth-le ts (λ s k. h s (Memᴰ.tail k)) ms, suc-mul (length ts) max_value)
  where
    one : (b : Bool) → cond b 0 t.value ≤ max_value
    one true = omega arith
    one false = h t (Memᴰ.head refl)

-- a sum of numbers up to a bound
sum_of-le : (f : Edge → ℕ) (bound : ℕ) {P : Plan} → ((u : Node) (e : Edge) → Memᴰ e (edges P u) → f e ≤ bound) →
    {u v : Node} {es : List Edge} → Walk P u v es → sum_of f es ≤ length es * bound
sum_of-le f bound h here = omega arith
sum_of-le f bound h (go {u = u} {e = e} {es = es} m w) = omega (arith, h u e m, sum_of-le f bound h w, suc-mul (length es) bound)

module _ (P : Plan) (sd : PlanSound P) where
  -- the plan's tasks have such values
  values : Valued P.tasks
  values t m = (sd.task t m).value_fits

  -- what an edge keeps
  pub edge-kept-le : (u : Node) (e : Edge) → Memᴰ e (edges P u) → e.kept ≤ max_value
  unfolding slot
  edge-kept-le u e m = subst (λ (n : ℕ). n ≤ max_value) (sym (step-of P u e m).kept) (gain-le P.tasks values js (first (key P.tasks P.policy) js))
    where
      js : List Job
      js = ready P u.jobs e.label

  -- an edge's ideal gain
  pub edge-ideal-le : (u : Node) (e : Edge) → Memᴰ e (edges P u) → e.ideal ≤ max_tasks * max_value
  edge-ideal-le u e m =
      omega (arith, (step-of P u e m).ideal, worth-le P.tasks values e.masks, sd.tasks_fit)

  -- what a walk keeps
  pub walk_kept-le : {u v : Node} {es : List Edge} → Walk P u v es → kept es ≤ length es * max_value
  walk_kept-le w = sum_of-le (λ e. e.kept) max_value edge-kept-le w

  -- a walk's ideal gain
  pub walk_ideal-le : {u v : Node} {es : List Edge} → Walk P u v es → ideal es ≤ length es * (max_tasks * max_value)
  walk_ideal-le w = sum_of-le (λ e. e.ideal) (max_tasks * max_value) edge-ideal-le w

-- ---- the limit of potentials

-- a fraction that passes is within the limits and in lowest terms
pub fraction-fits : (p q : ℕ) → fraction_ok p q ≡ true → (p ≤ max_p) × (q ≤ max_q) × (gcd p q ≡ 1)
unfolding fraction_ok
fraction-fits p q h = by (eqb p 1 && eqb q 0) refl h
  where
    by : (b : Bool) → (eqb p 1 && eqb q 0) ≡ b → (b || (eqb (gcd p q) 1 && leb p max_p && leb 1 q && leb q max_q)) ≡ true → (p ≤ max_p) × (q ≤ max_q) × (gcd p q ≡ 1)
    by true e k =
        let two = both (eqb p 1) (eqb q 0) e in
        let one = eqb-true p 1 two.0 in
        let nought = eqb-true q 0 two.1 in
        (omega (arith, one), omega (arith, nought), ap₂ gcd one nought ∙ gcd-zero 1)
    by false e k =
        let four = both (eqb (gcd p q) 1 && leb p max_p && leb 1 q) (leb q max_q) k in
        let three = both (eqb (gcd p q) 1 && leb p max_p) (leb 1 q) four.0 in
        let two = both (eqb (gcd p q) 1) (leb p max_p) three.0 in
        (leb-true p max_p two.1, leb-true q max_q four.1, eqb-true (gcd p q) 1 two.0)

-- a walk of no more edges than the limit of nodes costs no more than the limit of potentials
pub cost-within : (P : Plan) → PlanSound P → (p q : ℕ) → fraction_ok p q ≡ true →
    {u v : Node} {es : List Edge} → Walk P u v es → length es ≤ max_nodes → within_limit (cost p q es) ≡ true
cost-within P sd p q ok {es = es} w h =
    le-leb (nat_abs (cost p q es)) max_potential
    (nat_abs-sub-le (q * kept es) (p * ideal es) max_potential (product fits.1 k (omega arith)) (product fits.0 i (omega arith)))
  where
    fits : (p ≤ max_p) × (q ≤ max_q) × (gcd p q ≡ 1)
    fits = fraction-fits p q ok

    k : kept es ≤ max_nodes * max_value
    k = le_trans (walk_kept-le P sd w) (mul-le-mul_right max_value h)

    i : ideal es ≤ max_nodes * (max_tasks * max_value)
    i = le_trans (walk_ideal-le P sd w) (mul-le-mul_right (max_tasks * max_value) h)

    product : {a b x y : ℕ} → a ≤ x → b ≤ y → x * y ≤ max_potential → a * b ≤ max_potential
    product l m n = le_trans (mul-le-mul l m) n
