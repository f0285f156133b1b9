-- The passes over all nodes, one after another, until nothing moves. Assumes nothing.
use mathlib.Core.Path.{◌≡◌, refl, sym, ap, subst, ◌∙◌}
use mathlib.Core.Bool.{Bool, true, false, cond}
use mathlib.Core.List.{List}
use Prim.Native.Nat.{ℕ, ◌+◌, ◌≤◌}
use native.Mathlib.Nat.{zero-add}
use native.Mathlib.Omega.{arith}
use borrow.Author.Tests.{lt-ltb}
use Rattle.std.specs.Prelude.{Ok, Err}
use Rattle.model.specs.Limits.{max_nodes}
use Rattle.model.specs.Graph.{nodes}
use Rattle.model.specs.Passes.{Distances, beginning, unmoved, pass, last, more}
use Rattle.model.specs.Plan.{Plan}
use Rattle.theory.specs.Lightest.{max_weight}
use Rattle.theory.specs.Search.{distances_of, Quiet, Search}
use Rattle.theory.proofs.Passes.{unmoved-same}
use Rattle.theory.proofs.Settled.{settled_few}
use Rattle.theory.proofs.Searched.{told-still, told_moved}
use Rattle.theory.proofs.Sound.{sound-plan}
use Rattle.policy.specs.View.{tasks_in}
use Rattle.policy.specs.declared.Rules.{Rules}
use Rattle.discovery.proofs.Held.{held-count}
use Rattle.potentials.proofs.Numbers.{nodes-few}
use Rattle.potentials.specs.declared.Claim.{Claim}
use Rattle.model.specs.Bytes.{Only}
use Rattle.links.specs.Links.{links_at, links_size, state_in, Begins}
use Rattle.words.proofs.Free.{only_refl, only_trans}
use Rattle.distances.specs.Distances.{LinkOf, known_distances, PassesAt, SearchIn, Priced, Sought, Passes, one_more, Settles}
use Rattle.distances.proofs.Rows.{only_both, priced-kept}
use Rattle.distances.proofs.Marks.{begin_search, begin_found}
use Rattle.distances.proofs.Taken.{nodes-some}

-- after passes that have each moved something, `passes` with the next one, told as far as a plan may have nodes: a search
pub record Passed (P : Plan) (claim : Claim) (before after : List ℕ) (passes : ℕ) : Type 0 where
  pub search : SearchIn P claim after
  pub links : Only links_at links_size before after
  pub number : ℕ
  pub told : number + 1 ≤ max_nodes → passes ≡ number + 1
  pub onward : {es : Distances} {k : ℕ} → PassesAt P claim (known_distances claim after) es k →
      PassesAt P claim (known_distances claim before) es (number + k)

module _ {P : Plan} {claim : Claim} where
  -- before the first
  pub passed_none : {m : List ℕ} → SearchIn P claim m → Passed P claim m m 1
  passed_none {m} s = record {
    search = s;
    links = only_refl;
    number = 0;
    told = λ e. refl;
    onward = λ {es} {k} p. subst (PassesAt P claim (known_distances claim m) es) (sym (zero-add k)) p;
  }

  module _ {m m' : List ℕ} {passes : ℕ} (p : Passed P claim m m' passes) where
    -- so the search goes on
    pub passed-sought : {r : Rules} {next : List ℕ} → Sought P r next m claim → Sought P r next m' claim
    passed-sought s = record { priced = priced-kept p.links s.priced; search = p.search }

    -- one more pass is told
    told_more : p.number + 2 ≤ max_nodes → one_more passes ≡ p.number + 2
    told_more h =
        let same = p.told (omega arith) in
        ap (λ (b : Bool). cond b (passes + 1) passes) (lt-ltb passes max_nodes (omega arith)) ∙ omega arith

    pub passed-more : {m'' : List ℕ} {moved : Bool} → moved ≡ true → Passes P claim m' m'' (Ok moved) → Passed P claim m m'' (one_more passes)
    passed-more {m''} e q = record {
      search = q.advance.progress.search;
      links = only_trans p.links q.advance.links;
      number = p.number + 1;
      told = λ h. told_more (omega arith) ∙ omega arith;
      onward = λ {es} {k} r.
          let go = more (ap (unmoved (known_distances claim m')) q.passed ∙ told_moved claim.n max_weight (state_in m') (state_in m'') (q.advance.progress.less e))
          (subst (λ ds. PassesAt P claim ds es k) (sym q.passed) r) in
          subst (PassesAt P claim (known_distances claim m) es) (omega arith) (p.onward go);
    }

  -- the start: the start node alone is known
  module _ {m m₀ : List ℕ} (b : Begins m m₀) where
    pub begin_sought : {r : Rules} {next : List ℕ} → Priced P r next m claim → Sought P r next m₀ claim
    begin_sought p = record {
      priced = priced-kept b.only p;
      search = begin_search p.holds.rows.index.few b (LinkOf P claim) max_weight;
    }

    module _ {r : Rules} {next m' m'' : List ℕ} {passes : ℕ} (priced : Priced P r next m claim) (p : Passed P claim m₀ m' passes) where
      -- the end: a circuit
      pub passed-circuit : {k : ℕ} → Passes P claim m' m'' (Err k) → Settles P claim m m'' (Err k)
      passed-circuit q = record {
        search = tt;
        passes = tt;
        links = tt;
        circuit = q.advance.circuit;
        only = only_trans (only_both b.only) (only_trans (only_both p.links) q.advance.only);
      }

      -- or nothing has moved
      module _ {moved : Bool} (e : moved ≡ false) (q : Passes P claim m' m'' (Ok moved)) where
        same : known_distances claim m'' ≡ known_distances claim m'
        same = told-still claim.n (state_in m') (state_in m'') (q.advance.progress.still e)

        passed : PassesAt P claim (beginning claim.n) (known_distances claim m'') (p.number + 1)
        passed =
            let end = last ((unmoved-same (known_distances claim m') (pass P claim.fraction.p claim.fraction.q (known_distances claim m'))).1 (sym (q.passed ∙ same))) in
            subst (λ ds. PassesAt P claim ds (known_distances claim m'') (p.number + 1)) (begin_found priced.holds.rows.index.few b (nodes-some priced))
            (subst (λ ds. PassesAt P claim (known_distances claim m₀) ds (p.number + 1)) (sym same) (p.onward end))

        -- there are no more than nodes
        few : p.number + 1 ≤ max_nodes
        few =
            let n = held-count (tasks_in r) m claim.n (nodes P) priced.holds.nodes in
            omega (
              arith,
              priced.holds.rows.index.few,
              n,
              settled_few P (sound-plan P priced.planned.sound) (nodes-few P (tasks_in r) m claim.n priced.holds)
                  (subst (λ (k : ℕ). Search (LinkOf P claim) k max_weight (state_in m'')) (sym n) q.advance.progress.search)
                  (subst (λ (k : ℕ). Quiet k (state_in m'')) (sym n) (q.quiet e))
                  (subst (λ (k : ℕ). PassesAt P claim (beginning k) (distances_of k (state_in m'')) (p.number + 1)) (sym n) passed),
            )

        pub passed-end : Settles P claim m m'' (Ok passes)
        passed-end = record {
          search = (q.advance.progress.search, q.quiet e);
          passes = subst (PassesAt P claim (beginning claim.n) (known_distances claim m'')) (sym (p.told few)) passed;
          links = only_trans b.only (only_trans p.links q.advance.links);
          circuit = tt;
          only = only_both (only_trans b.only (only_trans p.links q.advance.links));
        }
