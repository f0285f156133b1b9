-- Where nothing is kept for certain: fractions with p = 0.
-- Assumes nothing.
use mathlib.Core.Path.{◌≡◌, refl, ◌∙◌, ap, subst, subst₂}
use mathlib.Core.Bool.{Bool, true, false, cond}
use mathlib.Core.List.{List, [], ◌∷◌}
use Prim.Native.Nat.{ℕ, suc, ◌+◌, ◌*◌, ◌<◌}
use native.Mathlib.Omega.{arith}
use lib.Dec.{T}
use lib.IntN.{ℤ, pos, nat_abs, ◌-ℤ◌}
use lib.ListN.{length}
use lib.Signed.{◌≤ℤ◌, le_z, le_z_yes}
use Rattle.model.specs.Certificate.{Certificate}
use Rattle.model.specs.Check.{gcd, potential_at, least, allowance, share, verdict}
use Rattle.model.specs.Graph.{nodes}
use Rattle.model.specs.Plan.{Plan}
use Rattle.model.specs.Schedule.{Schedule, admits, policy_gain, schedule_gain}
use Rattle.model.specs.Share.{KeptShare}
use Rattle.model.specs.Solve.{Smallest, Solved}
use Rattle.model.specs.Walk.{here, kept, ideal}
use Rattle.model.proofs.Tests.{holds}
use Rattle.words.proofs.Signed.{≤ℤ_antisymm}
use Rattle.theory.proofs.Accepted.{accepted-iff}
use Rattle.theory.proofs.Costs.{cost-none}
use Rattle.theory.proofs.Distances.{AllSmallest}
use Rattle.theory.proofs.Gains.{fraction-fits}
use Rattle.theory.proofs.Integers.{sub_mono}
use Rattle.theory.proofs.Nodes.{first-node, some-node}
use Rattle.theory.proofs.Unique.{lowest_unique}

-- of these only 0/1 is accepted
pub zero-fraction : (P : Plan) (c : Certificate) {q N K : ℕ} → verdict P c ≡ share 0 q N K → q ≡ 1
unfolding gcd
zero-fraction P c {q} h =
    let a = (accepted-iff P c).0 h in
    let lowest : gcd 0 q ≡ 1 = subst₂ (λ x y. gcd x y ≡ 1) a.is_p a.is_q (fraction-fits c.p c.q a.fraction).2 in
    (lowest_unique 0 q 0 1 lowest refl (omega arith)).1

-- and it says that no fraction above 0 is kept, whatever is allowed
pub nothing-kept : {P : Plan} {K : ℕ} → KeptShare P 0 1 K → (a b H : ℕ) → 0 < a →
    (run : List ℕ) × T (admits P run) × (σ : Schedule P run) × (b * policy_gain P run + H < a * schedule_gain P run σ)
nothing-kept s a b H h = s.no_more a b H (omega arith)

-- the least of numbers that are not below the first is the first
least-same : (zs : List ℤ) (m : ℤ) → ((i : ℕ) → i < length zs → m ≤ℤ potential_at zs i) → least zs m ≡ m
least-same [] m h = refl
least-same (z ∷ zs) m h =
    ap (least zs) (go (le_z z m) refl) ∙ least-same zs m (λ i lt. h (suc i) (omega arith))
  where
    go : (b : Bool) → le_z z m ≡ b → cond b z m ≡ m
    go true e = ≤ℤ_antisymm (le_z_yes (holds e)) (h 0 (omega arith))
    go false e = refl

module _ (P : Plan) (q : ℕ) (zs : List ℤ) (s : AllSmallest P 0 q zs) where
  -- sums of the policy's gains are not below 0
  none_below : (i : ℕ) → i < length (nodes P) → pos 0 ≤ℤ potential_at zs i
  none_below i lt =
      let r = (s i lt).reached in
      subst (λ z. pos 0 ≤ℤ z) r.2 (sub_mono {a = 0} {b = 0} {c = q * kept r.0} {d = 0 * ideal r.0} (omega arith) (omega arith))

  -- and the start's is 0
  start-zero : potential_at zs 0 ≡ pos 0
  start-zero =
      let first = subst (λ v. Smallest P 0 q v (potential_at zs 0)) (first-node P) (s 0 (some-node P)) in
      ≤ℤ_antisymm (subst (λ z. potential_at zs 0 ≤ℤ z) (cost-none 0 q) (first.least [] here)) (none_below 0 (some-node P))

  -- so nothing has to be allowed
  no_allowance : length zs ≡ length (nodes P) → allowance zs ≡ 0
  unfolding allowance
  no_allowance counted =
      ap (λ z. nat_abs (z -ℤ least zs z)) start-zero
      ∙ ap (λ z. nat_abs (pos 0 -ℤ z)) (least-same zs (pos 0) (λ i lt. none_below i (omega (arith, counted))))

-- what the solver writes with p = 0 is answered with `0 1 N 0`
pub solved-zero : {P : Plan} {c : Certificate} {k : ℕ} → Solved P c k → c.p ≡ 0 → verdict P c ≡ share 0 1 (length (nodes P)) 0
solved-zero {P} {c} s e =
    let counted = ((accepted-iff P c).0 s.accepted).counted in
    let zero-p : verdict P c ≡ share 0 c.q (length c.potentials) (allowance c.potentials) =
    s.accepted ∙ ap (λ p. share p c.q (length c.potentials) (allowance c.potentials)) e in
    let one : c.q ≡ 1 = zero-fraction P c zero-p in
    let none : allowance c.potentials ≡ 0 =
    no_allowance P c.q c.potentials (subst (λ p. AllSmallest P p c.q c.potentials) e s.potentials) counted in
    zero-p ∙ (λ i. share 0 (one i) (counted i) (none i))
