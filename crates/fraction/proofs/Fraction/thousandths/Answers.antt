-- `fraction::Fraction::thousandths` meets its contract.
-- Assumes nothing.
use mathlib.Core.Path.{◌≡◌, refl, sym, ◌∙◌, ap, subst}
use mathlib.Core.Bool.{Bool, true, false, cond}
use mathlib.Core.Option.{Option, some}
use Prim.Native.Nat.{ℕ, zero, suc, ◌+◌, ◌*◌, ◌/◌, ◌%◌, ◌^◌, ◌<◌}
use native.Mathlib.Nat.{mod-lt, div-le_self}
use native.Mathlib.Omega.{arith}
use lib.Dec.{ltb}
use mir.Facts.{Fits-le}
use mir.Syntax.{w32, w64}
use mir.Val.{Fits}
use borrow.Author.Tests.{lt-ltb, le-ltb}
use Rattle.model.specs.Thousandths.{thousandths, Printed}
use Rattle.theory.proofs.Thousandths.{one-test, thousandths_printed}
use Rattle.fraction.proofs.Fraction.thousandths.Goals as goal

-- over a denominator that is not 0, by one comparison
above_zero : (p q : ℕ) → (q ≡ 0 → ⊥) → (up : Bool) → ltb q (2 * (1000 * p % q) + 1000 * p / q % 2) ≡ up → some (cond up (1000 * p / q + 1) (1000 * p / q)) ≡ thousandths p q
unfolding thousandths
above_zero p zero h up e = absurd (h refl)
above_zero p (suc q) h up e =
    ap (λ b. some (cond b (1000 * p / suc q + 1) (1000 * p / suc q))) (sym (one-test (suc q) (2 * (1000 * p % suc q)) (1000 * p / suc q) ∙ e))

-- what the definition has is printed
printed : (p q : ℕ) {m : Option ℕ} → m ≡ thousandths p q → (m ≡ thousandths p q) × Printed p q m
printed p q e = (e, subst (Printed p q) (sym e) (thousandths_printed p q))

-- twice a rest fits, and with 1 more, since the rest is below q
sum_fits : (n q b : ℕ) → (q ≡ 0 → ⊥) → Fits w32 q → b < 2 → Fits w64 (2 * (n % q) + b)
sum_fits n q b h f l = record { fits = omega (arith, mod-lt n {m = q} (omega (arith, h)), f.fits) }

twice-fits : (n q : ℕ) → (q ≡ 0 → ⊥) → Fits w32 q → Fits w64 (2 * (n % q))
twice-fits n q h f = Fits-le (omega arith) (sum_fits n q 0 h f (omega arith))

-- and so does a quotient, with 1 more
next_fits : (n q b : ℕ) → n < 2 ^ 63 → b < 2 → Fits w64 (n / q + b)
next_fits n q b l k = record { fits = omega (arith, div-le_self n q) }

pub returns-then-q-eq0 : goal.returns-then-q-eq0
unfolding thousandths
returns-then-q-eq0 c =
    let r = printed c.args.self.p c.args.self.q (sym (ap (thousandths c.args.self.p) c.if-q-eq0.true)) in
    record { result_value = r.0; printed = r.1 }

pub overflow_mul-rest : goal.overflow_mul-rest
overflow_mul-rest c = twice-fits _ _ c.if-q-eq0.false (record { fits = omega (arith, c.well_formed) })

pub overflow_add-rest : goal.overflow_add-rest
overflow_add-rest c = sum_fits _ _ _ c.if-q-eq0.false (record { fits = omega (arith, c.well_formed) }) (omega arith)

pub overflow_add-next : goal.overflow_add-next
overflow_add-next c = next_fits _ _ _ (omega (arith, c.well_formed)) (omega arith)

pub returns-then-d-rest : goal.returns-then-d-rest
returns-then-d-rest c =
    let r = printed c.args.self.p c.args.self.q (above_zero c.args.self.p c.args.self.q c.if-q-eq0.false true (lt-ltb _ _ c.if-d-rest.true)) in
    record { result_value = r.0; printed = r.1 }

pub returns : goal.returns
returns c =
    let r = printed c.args.self.p c.args.self.q (above_zero c.args.self.p c.args.self.q c.if-q-eq0.false false (le-ltb _ _ c.if-d-rest.false)) in
    record { result_value = r.0; printed = r.1 }
