-- The claim that an accepted certificate makes.
use Rattle.std.specs.Prelude.{ℕ, ◌+◌, ◌*◌, ◌≤◌, ◌<◌, List, T}
use Rattle.model.specs.Plan.{Plan}
use Rattle.model.specs.Schedule.{Schedule, schedule_gain, policy_gain, admits}

-- "any admitted run of any length: q × the policy's gain + K ≥ p × the gain of every schedule; no larger fraction holds with
-- any allowance; at 1/0 no schedule gains more than K", where "a/b is larger than p/q when a × q is above p × b; a, b and the
-- allowance H are any whole numbers from 0 up, b = 0 included". At 1/0 the first field is that no schedule gains more than K.
pub record KeptShare (P : Plan) (p q K : ℕ) : Type 0 where
  pub keeps : (run : List ℕ) → T (admits P run) → (σ : Schedule P run) → p * schedule_gain P run σ ≤ q * policy_gain P run + K
  pub no_more : (a b H : ℕ) → p * b < a * q →
      (run : List ℕ) × T (admits P run) × (σ : Schedule P run) × (b * policy_gain P run + H < a * schedule_gain P run σ)
