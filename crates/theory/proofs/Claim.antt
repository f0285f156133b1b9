-- What an accepted certificate says of the plan: the fraction is kept by every admitted run and schedule, and no larger one is.
-- Assumes nothing.
use mathlib.Core.Path.{◌≡◌, subst, subst₂, subst₃}
use mathlib.Core.Bool.{false}
use mathlib.Core.List.{List}
use Prim.Native.Nat.{ℕ, zero, suc, ◌+◌, ◌*◌, ◌<◌, ◌≤◌}
use native.Mathlib.Nat.{mul-zero}
use native.Mathlib.Omega.{arith}
use lib.Dec.{T}
use lib.ListN.{get_or}
use Rattle.model.specs.Plan.{Plan, sound, read_plan, IsSound}
use Rattle.model.specs.Graph.{Node, start, nodes, too_large}
use Rattle.model.specs.Schedule.{Schedule, admits, policy_gain, schedule_gain}
use Rattle.model.specs.Walk.{labels, TrueToSchedules}
use Rattle.model.specs.Share.{KeptShare}
use Rattle.model.specs.Certificate.{Certificate}
use Rattle.model.specs.Check.{allowance, share, verdict, check}
use Rattle.model.proofs.Lists.{mem-get_or}
use Rattle.theory.proofs.Sound.{PlanSound, sound-plan, read-sound}
use Rattle.theory.proofs.Schedules.{true-to-schedules}
use Rattle.theory.proofs.Nodes.{nodes_reachable}
use Rattle.theory.proofs.Potentials.{walk_keeps}
use Rattle.theory.proofs.Steps.{cycle-tight, cycle-exceeds}
use Rattle.theory.proofs.Accepted.{Accepted, accepted-iff, check-iff}

-- a product below another is of a second factor above 0
factor_pos : (n a q : ℕ) → n < a * q → 0 < q
factor_pos n a zero h = absurd (omega (arith, mul-zero a))
factor_pos n a (suc q) h = omega arith

module _ (P : Plan) (true-to : TrueToSchedules P) (fits : too_large P ≡ false) (c : Certificate)
    {p q N K : ℕ} (a : Accepted P c p q N K) where
  -- the fraction is kept, but for the allowance
  keeps : (run : List ℕ) → T (admits P run) → (σ : Schedule P run) →
      c.p * schedule_gain P run σ ≤ c.q * policy_gain P run + allowance c.potentials
  keeps run adm σ =
      let w = true-to.to_walk run adm σ in
      subst₂ (λ i k. c.p * i ≤ c.q * k + allowance c.potentials) w.3.clairvoyant w.3.policy
      (walk_keeps P c.p c.q c.potentials fits a.counted a.potentials w.2)

  -- and no larger one
  no_more_lem : (x b H : ℕ) → c.p * b < x * c.q →
      (run : List ℕ) × T (admits P run) × (σ : Schedule P run) × (b * policy_gain P run + H < x * schedule_gain P run σ)
  no_more_lem x b H h =
      let t = cycle-tight P (nodes P) c (factor_pos (c.p * b) x c.q h) a.cycle in
      let u : Node = get_or (nodes P) c.node start in
      let w = cycle-exceeds P c.p c.q u (nodes_reachable P u (mem-get_or (nodes P) c.node start t.0)) t.1 x b H h in
      let s = true-to.to_schedule u w.0 w.1 in
      (labels w.0, s.0, s.1, subst₂ (λ k i. b * k + H < x * i) s.2.policy s.2.clairvoyant w.2)

  -- together
  claim : KeptShare P p q K
  claim = subst₃ (λ p' q' k. KeptShare P p' q' k) a.is_p a.is_q a.is_allowance (record { keeps = keeps; no_more = no_more_lem })

-- the claim of an accepted certificate, of any plan whose graph has at most the limit of nodes
pub verdict-claim : (P : Plan) → PlanSound P → too_large P ≡ false → (c : Certificate) →
    {p q N K : ℕ} → verdict P c ≡ share p q N K → KeptShare P p q K
verdict-claim P sd fits c h = claim P (true-to-schedules P sd) fits c ((accepted-iff P c).0 h)

-- the same of a plan that some bytes are read as
pub sound-claim : (P : Plan) → IsSound P → too_large P ≡ false → (c : Certificate) →
    {p q N K : ℕ} → verdict P c ≡ share p q N K → KeptShare P p q K
sound-claim P s = verdict-claim P (sound-plan P s)

module _ (plan certificate : List ℕ) (lent : ℕ) {p q N K : ℕ} where
  -- an accepted certificate's claim, from the bytes
  pub check-claim : check plan certificate lent ≡ share p q N K → (P : Plan) → read_plan plan ≡ sound P → KeptShare P p q K
  check-claim h P r =
      let s = (check-iff plan certificate lent).0 h in
      let same : s.P ≡ P = cc (s.plan_read, r) in
      subst (λ S. KeptShare S p q K) same
      (claim s.P (true-to-schedules s.P (read-sound plan s.P s.plan_read)) s.fits s.c s.accepted)

  -- there is such a plan
  pub check-plan : check plan certificate lent ≡ share p q N K → (P : Plan) × (read_plan plan ≡ sound P) × KeptShare P p q K
  check-plan h = let s = (check-iff plan certificate lent).0 h in (s.P, s.plan_read, check-claim h s.P s.plan_read)
