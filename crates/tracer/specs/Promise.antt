-- What the trace call promises.
use Rattle.std.specs.Prelude.{◌≡◌, List, ℕ, length}
use Rattle.model.specs.Interrupted.{TellsCuts, cut_in}
use Rattle.model.specs.Plan.{Plan, sound, read_plan}
use Rattle.model.specs.Trace.{trace, trace_bytes}
use Rattle.std.specs.Prelude.{Ok}
use Rattle.refusals.specs.Told.{Answer, Told}

-- for all plan bytes, labels and output: the definition's answer; and where a trace is written, the fourth byte of each label tells who was
-- interrupted
pub record Traces (plan labels before after : List ℕ) (r : Answer) : Type 0 where
  pub told : Told trace_bytes (trace plan labels (length before)) before after r
  pub cuts : (P : Plan) → read_plan plan ≡ sound P → (n : ℕ) → r ≡ Ok n → TellsCuts P labels (cut_in after)
