-- What the controller's structs stand for.
use Rattle.std.specs.Prelude.{◌≡◌, ℕ, List, [], ◌∷◌, ◌++◌, replicate}
use Rattle.std.specs.Prelude as rust
use Rattle.std.specs.Prelude.{Ok, Err}
use Rattle.model.specs.Controller as model
use Rattle.model.specs.Controller.{registers, refusal_of, after_write, block_after, writes_in, replay_number, replay_registers, TrueToRules}
use Rattle.model.specs.Plan.{Plan, sound, faulty, read_plan}
use Rattle.model.specs.Refusals.{bad_write}
use Rattle.plan.specs.View.{arcs_in, fault_number}
use Rattle.plan.specs.declared.Fault.{Fault}
use Rattle.policy.specs.View.{cell_count, tasks_in, PlanFor}
use Rattle.policy.specs.declared.Rules.{Rules}
use Rattle.refusals.specs.Numbers.{refusal_number}
use Rattle.refusals.specs.declared.Refusal.{Refusal}
use Rattle.controller.specs.Block.{Ready, block_of}
use Rattle.controller.specs.declared.part.Block.{Block}
use Rattle.controller.specs.declared.part.Controller.{Controller}
use Rattle.controller.specs.declared.Action.{Action}
use Rattle.controller.specs.declared.Action.TheVariants.{Label, Run, Mask}

abbrev pub write_of : ℕ → ℕ → model.Write
write_of byte value = record { byte = byte; value = value }

-- the write that asks so
abbrev pub action_view : Action → model.Write
action_view (Label l) = write_of 0 l
action_view Run = write_of 1 1
action_view (Mask m) = write_of 3 m

-- the number of the refusal, 0 for none
abbrev pub refusal_of_result : rust.Result Unit Refusal → ℕ
refusal_of_result (Ok u) = 0
refusal_of_result (Err r) = refusal_number r

-- the plans that these rules and this table of next states are of
pub record PartOf (P : Plan) (r : Rules) (next : List ℕ) : Type 0 where
  pub for : PlanFor P r
  pub arcs : P.arcs ≡ arcs_in next

-- what a block becomes, whichever plan the part is of; and it is ready again
pub record Becomes (r : Rules) (next : List ℕ) (due : Plan → model.Block) (b : Block) : Type 0 where
  pub is : (P : Plan) → PartOf P r next → block_of (tasks_in r) b ≡ due P
  pub ready : Ready r b

-- a write leaves the definition's block, after 17 the very one that there was; its refusal is told, 0 for none
pub record Steps (r : Rules) (next : List ℕ) (before : Block) (w : model.Write) (after : Block) (n : ℕ) : Type 0 where
  pub block : Becomes r next (λ P. after_write P (block_of (tasks_in r) before) w) after
  pub unchanged : refusal_of w ≡ bad_write → after ≡ before
  pub refusal : n ≡ refusal_of w

-- ---- the whole part

-- the block that it holds
abbrev pub block_in : Controller → model.Block
block_in c = block_of (tasks_in c.machine.rules) c.block

-- the part of a plan "From a fresh block, after any writes, however many, and no other change": its block is the definition's, and what it
-- reads is true to the rules
pub record After (P : Plan) (ws : List model.Write) (c : Controller) : Type 0 where
  pub part : PartOf P c.machine.rules c.machine.next
  pub block : block_in c ≡ block_after P ws
  pub claim : TrueToRules P ws (registers (block_in c))

-- the same of a part that is lent: nothing but its block is changed; and after any writes it is the part after one write more
pub record Writes (before : Controller) (w : model.Write) (after : Controller) (n : ℕ) : Type 0 where
  pub machine : after.machine ≡ before.machine
  pub steps : Steps before.machine.rules before.machine.next before.block w after.block n
  pub more : (P : Plan) (ws : List model.Write) → After P ws before → After P (ws ++ (w ∷ [])) after

-- ---- the part of a plan

-- all zero, with no jobs, in state 0
abbrev pub fresh_block : Block
fresh_block = record {
  label = 0;
  status = 0;
  mask = 0;
  ran = 0;
  gain = 0;
  cells = replicate cell_count 0;
  state = 0;
}

-- "set up from a plan without faults": its part with a fresh block, or the plan's own fault
abbrev pub SetsUp : List ℕ → rust.Result Controller Fault → Type 0
SetsUp plan (Ok c) = (P : Plan) × (read_plan plan ≡ sound P) × After P [] c
SetsUp plan (Err f) = read_plan plan ≡ faulty (fault_number f)

-- ---- the call without state

-- the definition's number and bytes; and where there is a block, what it holds is true to the rules
pub record Replays (plan writes before after : List ℕ) (n : ℕ) : Type 0 where
  pub number : n ≡ replay_number (read_plan plan) (writes_in writes)
  pub bytes : after ≡ replay_registers (read_plan plan) (writes_in writes) before
  pub claim : (P : Plan) → read_plan plan ≡ sound P → TrueToRules P (writes_in writes) after
