-- Laws of what trying edges leaves, one after another. Assumes nothing.
use mathlib.Core.Path.{◌≡◌, sym, ap, subst, ◌∙◌}
use mathlib.Core.Bool.{Bool, false, ◌||◌}
use mathlib.Core.List.{List}
use Prim.Native.Nat.{ℕ, ◌^◌, ◌<◌}
use lib.IntN.{◌+ℤ◌}
use lib.ListN.{length}
use lib.Signed.{◌≤ℤ◌}
use Rattle.std.specs.Prelude.{Ok, Err}
use Rattle.model.specs.Plan.{Plan}
use Rattle.words.proofs.Signed.{≤ℤ_trans}
use Rattle.theory.specs.Lightest.{node_at}
use Rattle.theory.specs.Search.{Done, Later}
use Rattle.theory.proofs.Edges.{mem-edges_at}
use Rattle.theory.proofs.Progress.{progress-none, progress-then}
use Rattle.theory.proofs.Sound.{sound-plan, label-below}
use Rattle.policy.specs.View.{Ruled}
use Rattle.policy.specs.declared.Rules.{Rules}
use Rattle.graph.specs.View.{Planned}
use Rattle.potentials.specs.declared.Claim.{Claim}
use Rattle.links.specs.Links.{state_in}
use Rattle.words.proofs.Free.{only_refl, only_trans}
use Rattle.distances.specs.Distances.{LinkOf, SearchIn, Sought, Advance, DoneBy}
use Rattle.distances.proofs.Rows.{priced-kept}

module _ {P : Plan} {claim : Claim} where
  -- nothing is tried
  pub advance-none : {m : List ℕ} → SearchIn P claim m → Advance P claim m m (Ok false)
  advance-none s = record { progress = progress-none (LinkOf P claim) s; links = only_refl; circuit = tt; only = only_refl }

  module _ {m m' : List ℕ} {moved : Bool} (a : Advance P claim m m' (Ok moved)) where
    -- then more, without a circuit
    pub advance-then : {m'' : List ℕ} {moved' : Bool} → Advance P claim m' m'' (Ok moved') → Advance P claim m m'' (Ok (moved || moved'))
    advance-then b = record {
      progress = progress-then (LinkOf P claim) a.progress b.progress;
      links = only_trans a.links b.links;
      circuit = tt;
      only = only_trans a.only b.only;
    }

    -- then a circuit
    pub advance-circuit : {m'' : List ℕ} {k : ℕ} → Advance P claim m' m'' (Err k) → Advance P claim m m'' (Err k)
    advance-circuit b = record { progress = tt; links = tt; circuit = b.circuit; only = only_trans a.only b.only }

    -- the search goes on
    pub sought-after : {r : Rules} {next : List ℕ} → Sought P r next m claim → Sought P r next m' claim
    sought-after s = record { priced = priced-kept a.only s.priced; search = a.progress.search }

  -- a label that is done stays so
  pub done-later : (m m' : List ℕ) (u : ℕ) {l : ℕ} → Later claim.n (state_in m) (state_in m') → (state_in m').dist u ≡ (state_in m).dist u →
      DoneBy P claim m u l → DoneBy P claim m' u l
  done-later m m' u later same done v w h k =
      let was = done v w h k in (
        later.known v h was.0,
        subst (λ z. (state_in m').dist v ≤ℤ (z +ℤ w)) (sym same) (≤ℤ_trans (later.dist v h was.0) was.1),
      )

  -- where every label is done, the links are
  pub done-links : {r : Rules} {next : List ℕ} (m : List ℕ) (u : ℕ) → Planned P r next → Ruled r → ((l : ℕ) → l < 2 ^ r.tasks.count → DoneBy P claim m u l) →
      Done (LinkOf P claim) claim.n (state_in m) u
  done-links m u planned ruled done l v w h k =
      let at = (mem-edges_at P (node_at P u) l k.edge).0 k.best.edge in
      done l
      (subst (λ (n : ℕ). l < 2 ^ n) (ap length planned.for.tasks ∙ ruled.size)
      (label-below P (sound-plan P planned.sound) (node_at P u).state l at.next at.admitted))
      v w h k
