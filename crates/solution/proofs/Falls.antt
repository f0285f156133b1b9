-- A fraction falls to that of a cycle which costs less than 0 at it, until there is none. Assumes nothing.
use mathlib.Core.Path.{◌≡◌, refl, sym, subst, subst₂}
use mathlib.Core.Bool.{true}
use mathlib.Core.List.{List}
use Prim.Native.Nat.{ℕ, ◌*◌, ◌/◌, ◌<◌, ◌≤◌}
use native.Mathlib.Omega.{arith}
use lib.ListN.{length}
use Rattle.std.specs.Prelude as rust
use Rattle.std.specs.Prelude.{Ok, Err}
use Rattle.model.specs.Check.{gcd, fraction_ok}
use Rattle.model.specs.Limits.{max_p, max_q}
use Rattle.model.specs.Plan.{Plan}
use Rattle.model.specs.Walk.{kept, ideal}
use Rattle.theory.specs.Lightest.{Along}
use Rattle.theory.proofs.Circuits.{circuit_sums}
use Rattle.theory.proofs.Fractions.{fraction_left, fraction-less, lowest-ok, lowest-pos, lowest-exact, lowest-less}
use Rattle.theory.proofs.Gains.{fraction-fits}
use Rattle.theory.proofs.Sound.{sound-plan}
use Rattle.policy.specs.View.{tasks_in}
use Rattle.policy.specs.declared.Rules.{Rules}
use Rattle.graph.specs.View.{Planned}
use Rattle.discovery.specs.Discovery.{Holds}
use Rattle.potentials.specs.declared.Claim.{Claim}
use Rattle.model.specs.Bytes.{Only}
use Rattle.links.specs.Links.{links_at, links_size, links_end, first_steps}
use Rattle.distances.specs.Distances.{Priced, Settles}
use Rattle.distances.proofs.Rows.{step_kept, steps-kept, holds_kept}
use Rattle.circuit.specs.Circuit.{Turns}
use Rattle.circuit.proofs.Steps.{steps-length}
use Rattle.fraction.specs.declared.Fraction.{Fraction}
use Rattle.solution.specs.Solution.{Tight, Circling, Lowers, Solving}

-- ---- one cycle

module _ {P : Plan} {r : Rules} {next m : List ℕ} {claim : Claim} {k : ℕ} (c : Circling P r next m claim k) where
  pub circling-turns : Turns P r next m claim.n k c.turned.node c.turned.circuit.edges
  circling-turns = record { planned = c.planned; holds = c.holds; below = c.turned.nodes; along = c.turned.circuit.along }

  -- it has at most as many steps as there are nodes
  pub circling-few : k ≤ claim.n
  circling-few = omega (arith, c.turned.circuit.few, steps-length m k)

  circling_sums : (kept c.turned.circuit.edges ≤ max_p) × (ideal c.turned.circuit.edges ≤ max_q) × (0 < ideal c.turned.circuit.edges) × (0 < length (first_steps m k))
  circling_sums = circuit_sums P (sound-plan P c.planned.sound) c.turned.circuit c.holds.rows.index.few

  -- the clairvoyant gains on it
  pub circling-some : 0 < ideal c.turned.circuit.edges
  circling-some = circling_sums.2

  -- and its gains in lowest terms are a smaller fraction
  pub circling_lowers : (f : Fraction) → let a = kept c.turned.circuit.edges in let b = ideal c.turned.circuit.edges in
      f.p ≡ a / gcd a b → f.q ≡ b / gcd a b → Lowers P claim m k f
  circling_lowers f e d =
      let t = c.turned in
      let a = kept t.circuit.edges in
      let b = ideal t.circuit.edges in
      let sums = circling_sums in record {
        fraction = subst₂ (λ (p q : ℕ). fraction_ok p q ≡ true) (sym e) (sym d) (lowest-ok a b sums.2 sums.0 sums.1);
        some = subst (λ (q : ℕ). 0 < q) (sym d) (lowest-pos a b sums.2);
        less = subst₂ (λ (p q : ℕ). claim.fraction.q * p < claim.fraction.p * q) (sym e) (sym d) (lowest-less a b claim.fraction.p claim.fraction.q t.circuit.less);
        tight = record {
          node = t.node;
          below = t.below;
          nodes = t.nodes;
          edges = t.circuit.edges;
          along = t.circuit.along;
          few = circling-few;
          some = sums.2;
          exact = subst₂ (λ (p q : ℕ). p * b ≡ q * a) (sym e) (sym d) (lowest-exact a b);
        };
      }

-- what a search leaves, of an equal answer
pub settles_as : {P : Plan} {claim : Claim} {m m' : List ℕ} {a b : rust.Result ℕ ℕ} → a ≡ b → Settles P claim m m' a → Settles P claim m m' b
settles_as {P = P} {claim = claim} {m = m} {m' = m'} e t = subst (Settles P claim m m') e t

-- a cycle in the steps stands beside a change of links
tight-kept : {P : Plan} {n : ℕ} {m m' : List ℕ} {p q k : ℕ} → Only links_at links_size m m' → Tight P n m p q k → Tight P n m' p q k
tight-kept {P} {n} {k = k} o t = record {
  node = t.node;
  below = t.below;
  nodes = λ i h. subst (λ (s : _). s.node < n) (sym (step_kept o i)) (t.nodes i h);
  edges = t.edges;
  along = subst (λ ss. Along P t.node ss t.node t.edges) (sym (steps-kept o k)) t.along;
  few = t.few;
  some = t.some;
  exact = t.exact;
}

-- ---- from fraction to fraction

-- 1/0 is a fraction
nothing-recurs : fraction_ok 1 0 ≡ true
unfolding fraction_ok
nothing-recurs = refl

-- such a cycle stands in the steps at this fraction, for 1/0 none
pub record Aimed (P : Plan) (r : Rules) (next m : List ℕ) (n : ℕ) (f : Fraction) (steps : ℕ) : Type 0 where
  pub planned : Planned P r next
  pub holds : Holds P (tasks_in r) m n
  pub fraction : fraction_ok f.p f.q ≡ true
  pub cycle : 0 < f.q → Tight P n m f.p f.q steps
  pub bare : f.q ≡ 0 → steps ≡ 0

module _ {P : Plan} {r : Rules} {next m : List ℕ} {n : ℕ} where
  -- at the start
  pub aimed_first : Planned P r next → Holds P (tasks_in r) m n → Aimed P r next m n (record { p = 1; q = 0 }) 0
  aimed_first planned holds = record {
    planned = planned;
    holds = holds;
    fraction = nothing-recurs;
    cycle = λ h. absurd (omega arith);
    bare = λ e. refl;
  }

  module _ {f : Fraction} {steps : ℕ} (a : Aimed P r next m n f steps) where
    abbrev claim : Claim
    claim = record { fraction = f; n = n }

    pub aimed_priced : links_end ≤ length m → Priced P r next m claim
    aimed_priced room = record { planned = a.planned; holds = a.holds; fraction = a.fraction; room = room }

    -- the search at this fraction finds a cycle
    pub aimed_circling : {m' : List ℕ} {k : ℕ} → Settles P claim m m' (Err k) → Circling P r next m' claim k
    aimed_circling t = record { planned = a.planned; holds = holds_kept t.only a.holds; turned = t.circuit.1 }

    -- the next fraction is smaller
    pub aimed_less : {m' : List ℕ} {k : ℕ} {g : Fraction} → Lowers P claim m' k g → fraction_left g.p g.q < fraction_left f.p f.q
    aimed_less {g = g} l =
        let fits = fraction-fits g.p g.q l.fraction in
        fraction-less f.p f.q g.p g.q l.some fits.1 fits.0 (fraction-fits f.p f.q a.fraction).1 l.less

    pub aimed_lower : {m' : List ℕ} {k : ℕ} {g : Fraction} → Circling P r next m' claim k → Lowers P claim m' k g → Aimed P r next m' n g k
    aimed_lower c l = record {
      planned = c.planned;
      holds = c.holds;
      fraction = l.fraction;
      cycle = λ h. l.tight;
      bare = λ e. absurd (omega (arith, l.some));
    }

    -- or none
    pub aimed_solves : {m' : List ℕ} {passes : ℕ} → Settles P claim m m' (Ok passes) →
        Solving P r next m' n (record { fraction = f; steps = steps; passes = passes })
    aimed_solves t = record {
      planned = a.planned;
      holds = holds_kept t.only a.holds;
      fraction = a.fraction;
      search = t.search.0;
      quiet = t.search.1;
      passed = t.passes;
      cycle = λ h. tight-kept t.links (a.cycle h);
      bare = a.bare;
    }
