-- A write by its byte and its value.
-- Assumes nothing.
use Rattle.std.proofs.Common.{◌≡◌, ℕ, Bool, true, false, cond, ◌&&◌, ◌||◌, eqb, refl, ap, ◌∙◌, arith, eq-eqb, ne_eqb}
use Rattle.model.specs.Controller as model
use Rattle.model.specs.Controller.{gives_label, runs, gives_mask, refusal_of, ran_to, with_label, with_mask, after_write}
use Rattle.model.specs.Plan.{Plan, next_in}
use Rattle.model.specs.Refusals.{bad_write}
use Rattle.controller.specs.View.{write_of, action_view}
use Rattle.controller.specs.declared.Action.{Action}
use Rattle.controller.specs.declared.Action.TheVariants.{Label, Run, Mask}

-- what a write may ask is not refused
pub taken : (a : Action) → refusal_of (action_view a) ≡ 0
unfolding refusal_of
taken (Label l) = refl
taken Run = refl
taken (Mask m) = refl

-- a write that is refused changes nothing
pub kept : (P : Plan) (b : model.Block) (w : model.Write) → refusal_of w ≡ bad_write → after_write P b w ≡ b
unfolding refusal_of after_write
kept P b w h = go (gives_label w) (runs w) (gives_mask w) h
  where
    go : (z r m : Bool) → cond (z || r || m) 0 bad_write ≡ bad_write →
        cond z (with_label b w.value) (cond r (ran_to P b (next_in P.arcs b.state b.label)) (cond m (with_mask b w.value) b)) ≡ b
    go true r m e = absurd (omega (arith, e))
    go false true m e = absurd (omega (arith, e))
    go false false true e = absurd (omega (arith, e))
    go false false false e = refl

-- one to no byte that may be written is refused, and one of another value than 1 to byte 1
module _ (byte value : ℕ) (z : byte ≡ 0 → ⊥) (m : byte ≡ 3 → ⊥) where
  refused-by : runs (write_of byte value) ≡ false → refusal_of (write_of byte value) ≡ bad_write
  unfolding refusal_of
  refused-by r = λ i. cond (ne_eqb byte 0 z i || r i || ne_eqb byte 3 m i) 0 bad_write

  pub refused-byte : (byte ≡ 1 → ⊥) → refusal_of (write_of byte value) ≡ bad_write
  refused-byte h = refused-by (ap (λ (b : Bool). b && eqb value 1) (ne_eqb byte 1 h))

  pub refused-value : byte ≡ 1 → (value ≡ 1 → ⊥) → refusal_of (write_of byte value) ≡ bad_write
  refused-value e h = refused-by (ap (λ (b : Bool). b && eqb value 1) (eq-eqb byte 1 e) ∙ ne_eqb value 1 h)
