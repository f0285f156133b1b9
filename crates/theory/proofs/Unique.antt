-- A plan has one fraction, and what the solver may write for it is fixed but for the cycle.
-- Assumes nothing.
use mathlib.Core.Path.{◌≡◌, refl, sym, ◌∙◌, ap, subst, subst₂}
use mathlib.Core.Bool.{Bool, true, false, cond, ◌&&◌}
use mathlib.Core.List.{List, [], map}
use mathlib.Core.Option.{Option, none, some, none-ne-some, some-injective}
use Prim.Native.Nat.{ℕ, zero, suc, ◌*◌, ◌/◌, ◌<◌, ◌∣◌}
use native.Mathlib.Nat.{mul_comm, mul-one, dvd-zero, dvd_trans, dvd-mul_left, dvd-mul_right, dvd_antisymm, mul-dvd-mul_left, dvd_of_mul-dvd-mul_left, mul-div_cancel'}
use native.Mathlib.Decide.{dec_lt}
use native.Mathlib.Omega.{arith}
use lib.Dec.{ltb, eqb, leb}
use lib.IntN.{ℤ, pos}
use lib.ListN.{length, get_or, drop}
use lib.Seq.{ext_get_or}
use borrow.Author.Tests.{eqb-false}
use Rattle.model.specs.Limits.{max_nodes, max_steps}
use Rattle.model.specs.Edition.{Edition, long_reads}
use Rattle.model.specs.Bytes.{number, part}
use Rattle.model.specs.Plan.{Plan, IsSound}
use Rattle.model.specs.Graph.{start, nodes, too_large}
use Rattle.model.specs.Share.{KeptShare}
use Rattle.model.specs.Certificate.{Certificate, Step, Parsed, certificate_bytes, has, is_end, read_potentials, read_steps, with_steps, with_potentials, read_certificate_in}
use Rattle.model.specs.Check.{gcd, share, verdict, check, potential_at}
use Rattle.model.specs.Passes.{PassesTo, beginning}
use Rattle.model.specs.Solve.{Smallest, Solved}
use Rattle.model.proofs.Tests.{cond-some}
use Rattle.theory.proofs.Divisors.{gcd_divides, gcd-greatest}
use Rattle.theory.proofs.Accepted.{Accepted, accepted-iff, check-iff}
use Rattle.theory.proofs.Claim.{sound-claim}
use Rattle.theory.proofs.Gains.{fraction-fits}
use Rattle.theory.proofs.Distances.{smallest_unique}
use Rattle.theory.proofs.Passes.{passes-once}

-- ---- lowest terms

-- what divides m times each of two numbers without a common divisor divides m
coprime_divides : (a b m d : ℕ) → gcd a b ≡ 1 → d ∣ m * a → d ∣ m * b → d ∣ m
coprime_divides a b zero d one h k = dvd-zero d
coprime_divides a b (suc n) d one h k =
    let m : ℕ = suc n in
    let g = gcd (m * a) (m * b) in
    let e = g / m in
    let times : m * e ≡ g = mul-div_cancel' _ (gcd-greatest (m * a) (m * b) m (dvd-mul_right m a) (dvd-mul_right m b)) in
    let left : e ∣ a = dvd_of_mul-dvd-mul_left _ (omega arith) (subst (λ (x : ℕ). x ∣ m * a) (sym times) (gcd_divides (m * a) (m * b)).0) in
    let right : e ∣ b = dvd_of_mul-dvd-mul_left _ (omega arith) (subst (λ (x : ℕ). x ∣ m * b) (sym times) (gcd_divides (m * a) (m * b)).1) in
    let whole : m * e ∣ m * gcd a b = mul-dvd-mul_left _ m (gcd-greatest a b e left right) in
    dvd_trans _ (gcd-greatest (m * a) (m * b) d h k) (subst₂ (λ (x y : ℕ). x ∣ y) times (ap (λ (x : ℕ). m * x) one ∙ mul-one m) whole)

-- in lowest terms, both parts divide those of an equal fraction
lowest_divides : (p q p' q' : ℕ) → gcd p q ≡ 1 → p * q' ≡ p' * q → (p ∣ p') × (q ∣ q')
lowest_divides p q p' q' one same = (
  coprime_divides p q p' p one (dvd-mul_left p p') (subst (λ (x : ℕ). p ∣ x) same (dvd-mul_right p q')),
  coprime_divides p q q' q one (subst (λ (x : ℕ). q ∣ x) (sym same ∙ mul_comm p q') (dvd-mul_left q p')) (dvd-mul_left q q'),
)

-- equal fractions in lowest terms have the same parts
pub lowest_unique : (p q p' q' : ℕ) → gcd p q ≡ 1 → gcd p' q' ≡ 1 → p * q' ≡ p' * q → (p ≡ p') × (q ≡ q')
lowest_unique p q p' q' one one' same =
    let there = lowest_divides p q p' q' one same in
    let back = lowest_divides p' q' p q one' (sym same) in
    (dvd_antisymm there.0 back.0, dvd_antisymm there.1 back.1)

-- ---- the fraction

module _ {P : Plan} {p q K p' q' K' : ℕ} (s : KeptShare P p q K) (t : KeptShare P p' q' K') where
  -- no kept share is above another
  not-above : p * q' < p' * q → ⊥
  not-above less = let run = s.no_more p' q' K' less in omega (arith, t.keeps run.0 run.1 run.2, run.3)

-- a plan's kept shares are one fraction
pub one-share : {P : Plan} {p q K p' q' K' : ℕ} → KeptShare P p q K → KeptShare P p' q' K' → p * q' ≡ p' * q
one-share {p = p} {q = q} {p' = p'} {q' = q'} s t = by (dec_lt (p * q') (p' * q)) (dec_lt (p' * q) (p * q'))
  where
    by : Dec (p * q' < p' * q) → Dec (p' * q < p * q') → p * q' ≡ p' * q
    by (yes h) k = absurd (not-above s t h)
    by (no h) (yes k) = absurd (not-above t s k)
    by (no h) (no k) = omega arith

module _ (P : Plan) (s : IsSound P) (fits : too_large P ≡ false) (c c' : Certificate) where
  -- two certificates of a plan that are accepted have the same fraction
  pub one-fraction : {p q N K p' q' N' K' : ℕ} → verdict P c ≡ share p q N K → verdict P c' ≡ share p' q' N' K' → (p ≡ p') × (q ≡ q')
  one-fraction {p} {q} {p' = p'} {q' = q'} h h' =
      let a = (accepted-iff P c).0 h in
      let b = (accepted-iff P c').0 h' in
      lowest_unique p q p' q' (subst₂ (λ x y. gcd x y ≡ 1) a.is_p a.is_q (fraction-fits c.p c.q a.fraction).2)
      (subst₂ (λ x y. gcd x y ≡ 1) b.is_p b.is_q (fraction-fits c'.p c'.q b.fraction).2)
      (one-share (sound-claim P s fits c h) (sound-claim P s fits c' h'))

-- the same of bytes: whatever accepted certificates of a plan are, their fraction and their number of potentials are the same
pub one_answer : (plan certificate certificate' : List ℕ) (lent lent' : ℕ) {p q N K p' q' N' K' : ℕ} →
    check plan certificate lent ≡ share p q N K → check plan certificate' lent' ≡ share p' q' N' K' → (p ≡ p') × (q ≡ q') × (N ≡ N')
one_answer plan certificate certificate' lent lent' {p} {q} {N} {K} {p'} {q'} {N'} {K'} h h' =
    let a = (check-iff plan certificate lent).0 h in
    let b = (check-iff plan certificate' lent').0 h' in
    let same : b.P ≡ a.P = cc (a.plan_read, b.plan_read) in
    let accepted = subst (λ S. Accepted S b.c p' q' N' K') same b.accepted in
    let both-same =
    one-fraction a.P (record { bytes = plan; read = a.plan_read }) a.fits a.c b.c ((accepted-iff a.P a.c).1 a.accepted) ((accepted-iff a.P b.c).1 accepted) in
    (both-same.0, both-same.1, sym a.accepted.is_count ∙ a.accepted.counted ∙ sym accepted.counted ∙ accepted.is_count)

-- ---- what the solver writes

-- "`13` and `14` are missing exactly when q = 0"
read-bare : (e : Edition) (bs : List ℕ) (c : Certificate) → read_certificate_in e bs ≡ some c → c.q ≡ 0 → (c.node ≡ 0) × (c.steps ≡ [])
unfolding read_certificate_in
read-bare e bs c is zero-q =
    let n = number (part bs 9 2) in
    parsed (read_potentials n (drop 11 bs))
    (cond-some (has bs 0x11 11 && leb 1 n && leb n max_nodes) (with_potentials e (number (part bs 1 4)) (number (part bs 5 4)) (read_potentials n (drop 11 bs))) is).1
  where
    q : ℕ
    q = number (part bs 5 4)

    -- a cycle stands only beside another q
    cycled : (zs : List ℤ) (v : ℕ) (o : Option (Parsed (List Step))) → with_steps (number (part bs 1 4)) q zs v o ≡ some c → c.q ≡ q
    cycled zs v none h = absurd (none-ne-some c h)
    cycled zs v (some r) h =
        ap (λ d. d.q) (sym (some-injective _ _ (cond-some (is_end r.rest && ltb 0 (length r.value)) _ h).1))

    ended : (r : Parsed (List ℤ)) (b : Bool) → eqb q 0 ≡ b →
        cond b (cond (is_end r.rest) (some (record { p = number (part bs 1 4); q = q; potentials = r.value; node = 0; steps = [] })) none)
        (cond (has r.rest 0x13 3) (with_steps (number (part bs 1 4)) q r.value (number (part r.rest 1 2)) (read_steps e max_steps (drop 3 r.rest))) none)
        ≡ some c → (c.node ≡ 0) × (c.steps ≡ [])
    ended r true f h =
        let same = sym (some-injective _ _ (cond-some (is_end r.rest) _ h).1) in
        (ap (λ d. d.node) same, ap (λ d. d.steps) same)
    ended r false f h =
        absurd
        (eqb-false q 0 f
        (sym (cycled r.value (number (part r.rest 1 2)) (read_steps e max_steps (drop 3 r.rest)) (cond-some (has r.rest 0x13 3) _ h).1) ∙ zero-q))

    parsed : (o : Option (Parsed (List ℤ))) → with_potentials e (number (part bs 1 4)) q o ≡ some c → (c.node ≡ 0) × (c.steps ≡ [])
    parsed none h = absurd (none-ne-some c h)
    parsed (some r) h = ended r (eqb q 0) refl h

-- two certificates that the solver may write for a plan differ at most in their cycle, and at 1/0 not at all, and their passes are as many
pub record SameButCycle (c c' : Certificate) (k k' : ℕ) : Type 0 where
  pub p : c.p ≡ c'.p
  pub q : c.q ≡ c'.q
  pub potentials : c.potentials ≡ c'.potentials
  pub bare : c.q ≡ 0 → c ≡ c'
  pub passes : k ≡ k'

pub solved-once : {P : Plan} → IsSound P → too_large P ≡ false → {c c' : Certificate} {k k' : ℕ} → Solved P c k → Solved P c' k' →
    SameButCycle c c' k k'
solved-once {P} s fits {c} {c'} {k} {k'} a b = record { p = parts.0; q = parts.1; potentials = potentials; bare = bare; passes = passes }
  where
    parts : (c.p ≡ c'.p) × (c.q ≡ c'.q)
    parts = one-fraction P s fits c c' a.accepted b.accepted

    counted : length c.potentials ≡ length (nodes P)
    counted = ((accepted-iff P c).0 a.accepted).counted

    counted' : length c'.potentials ≡ length (nodes P)
    counted' = ((accepted-iff P c').0 b.accepted).counted

    potentials : c.potentials ≡ c'.potentials
    potentials =
        ext_get_or (pos 0) c.potentials c'.potentials (counted ∙ sym counted')
        (λ i h.
        let below : i < length (nodes P) = omega (arith, counted) in
        smallest_unique c'.p c'.q
        (subst₂ (λ x y. Smallest P x y (get_or (nodes P) i start) (potential_at c.potentials i)) parts.0 parts.1 (a.potentials i below))
        (b.potentials i below))

    passes : k ≡ k'
    passes =
        (passes-once P c'.p c'.q
        (subst₂ (λ (x y : ℕ). PassesTo P x y (beginning (length (nodes P))) (map some c.potentials) k) parts.0 parts.1 a.passes) b.passes).1

    bare : c.q ≡ 0 → c ≡ c'
    bare e =
        let one = read-bare long_reads (certificate_bytes c) c a.form e in
        let two = read-bare long_reads (certificate_bytes c') c' b.form (sym parts.1 ∙ e) in
        λ i. record {
          p = parts.0 i;
          q = parts.1 i;
          potentials = potentials i;
          node = (one.0 ∙ sym two.0) i;
          steps = (one.1 ∙ sym two.1) i;
        }
