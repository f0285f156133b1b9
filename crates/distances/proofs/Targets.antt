-- The edges that the noted outcomes of a label are. Assumes nothing.
use mathlib.Core.Path.{◌≡◌, refl, sym, ap, subst, ◌∙◌}
use mathlib.Core.Bool.{true}
use mathlib.Core.Logic.{⊎_elim}
use mathlib.Core.List.{List}
use Prim.Native.Nat.{ℕ, ◌*◌, ◌≤◌, ◌<◌}
use native.Mathlib.Nat.{mul-le-mul_right}
use native.Mathlib.Omega.{arith}
use lib.IntN.{ℤ, pos, nat_abs, ◌+ℤ◌}
use Rattle.std.specs.Prelude as rust
use Rattle.std.specs.Prelude.{Some, None, Err, IsSome, IsErrAnd}
use Rattle.std.proofs.lemmas.Result.{err_from_is_err_and}
use Rattle.model.specs.Limits.{max_nodes, max_potential}
use Rattle.model.specs.Plan.{Plan}
use Rattle.words.proofs.Signed.{up-add, up-or-dn, nat_abs-is, ≤ℤ_iff}
use Rattle.store.specs.Store.{index_or}
use Rattle.theory.specs.Search.{Within}
use Rattle.theory.specs.Lightest.{max_weight}
use Rattle.theory.proofs.Search.{search-within}
use Rattle.potentials.specs.declared.Claim.{Claim}
use Rattle.links.specs.Links.{state_in}
use Rattle.distances.specs.Distances.{LinkOf, SearchIn, Offer, weight_of, target_of, distance_by, Offers}
use Rattle.distances.specs.declared.Outcomes.{Outcomes}

-- every known distance is within the limit on potentials
pub distance_small : (P : Plan) (claim : Claim) (m : List ℕ) → SearchIn P claim m → Within (LinkOf P claim) claim.n max_weight → claim.n ≤ max_nodes →
    (u : ℕ) → u < claim.n → (state_in m).known u ≡ true → nat_abs ((state_in m).dist u) ≤ max_potential
distance_small P claim m s within few u below known =
    let z = (state_in m).dist u in
    let range = search-within (LinkOf P claim) s within u below known in
    let most : claim.n * max_weight ≤ max_nodes * max_weight = mul-le-mul_right max_weight few in
    let b = claim.n * max_weight in
    ⊎_elim
    (λ e. omega (arith, e, most, nat_abs-is z, up-add z (pos b), (≤ℤ_iff (pos 0) (z +ℤ pos b)).0 range.1))
    (λ e. omega (arith, e, most, nat_abs-is z, (≤ℤ_iff z (pos b)).0 range.0))
    (up-or-dn z)

-- the k-th outcome offers its node at its distance
pub offer-of : {P : Plan} {claim : Claim} {m notes : List ℕ} {out : Outcomes} → Offers P claim m notes out → (k : ℕ) → k < out.count →
    {v : ℕ} {z : ℤ} → v ≡ target_of claim m notes out k → z ≡ distance_by claim m notes out k → Offer P claim m out.number out.label v z
offer-of {P} {claim} {m} {notes} {out} o k h e d = record {
  few = o.few;
  room = o.room;
  within = o.within;
  search = o.search;
  from = o.from;
  to = subst (λ (x : ℕ). x < claim.n) (sym e) (o.below k h);
  known = o.known;
  weight = weight_of claim out.kept notes out.count k;
  link = subst (λ (x : ℕ). LinkOf P claim out.number out.label x (weight_of claim out.kept notes out.count k)) (sym e) (o.link k h);
  distance = d;
}

-- what is found among the first n is there
pub found-some : {n i : ℕ} (r : rust.Option ℕ) → index_or n r ≡ i → i < n → IsSome r
found-some (Some v) e h = refl
found-some None e h = absurd (omega arith)

-- what a `?` hands out
pub passed_up : {T : Type 0} {e : ℕ} (r : rust.Result T ℕ) → IsErrAnd r (λ y. y ≡ e) → r ≡ Err e
passed_up r h = let p = err_from_is_err_and r h in p.1 ∙ ap Err p.2
