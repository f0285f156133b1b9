-- Walks of the graph, and what it is for the graph to be true to schedules.
use Rattle.std.specs.Prelude.{◌≡◌, ℕ, zero, suc, ◌+◌, ◌↔◌, T, get_or}
use mathlib.Core.List.{List, [], ◌∷◌, map, Memᴰ}
use Rattle.model.specs.Lists.{bit, sum_of}
use Rattle.model.specs.Plan.{Plan}
use Rattle.model.specs.Graph.{Node, Edge, start, edges}
use Rattle.model.specs.Schedule.{Schedule, schedule_gain, policy_gain, admits}

-- "one edge after another", from a node to a node
pub data Walk (P : Plan) : Node → Node → List Edge → Type 0 where
  here : {u : Node} → Walk P u u []
  go : {u v : Node} {e : Edge} {es : List Edge} → Memᴰ e (edges P u) → Walk P e.to v es → Walk P u v (e ∷ es)

-- the sums of both gains over a walk
abbrev pub kept : List Edge → ℕ
kept es = sum_of (λ e. e.kept) es

abbrev pub ideal : List Edge → ℕ
ideal es = sum_of (λ e. e.ideal) es

abbrev pub labels : List Edge → List ℕ
labels es = map (λ e. e.label) es

-- the mask of the task i (from 1) in the step t; 0 past the walk's end and for a task that is not there
abbrev pub mask_at : List Edge → ℕ → ℕ → ℕ
mask_at [] t i = 0
mask_at (e ∷ es) zero zero = 0
mask_at (e ∷ es) zero (suc i) = get_or e.masks i 0
mask_at (e ∷ es) (suc t) i = mask_at es t i

-- "a walk with the same releases and gains", and the same slots
pub record Agrees (P : Plan) (run : List ℕ) (σ : Schedule P run) (es : List Edge) : Type 0 where
  pub releases : labels es ≡ run
  pub slots : (t i k : ℕ) → T (bit (mask_at es t i) k) ↔ T (σ.gives (t + k) t i)
  pub policy : kept es ≡ policy_gain P run
  pub clairvoyant : ideal es ≡ schedule_gain P run σ

-- "every choice of released jobs with their slots is a walk with the same releases and gains, and every walk is such a choice"
pub record TrueToSchedules (P : Plan) : Type 0 where
  pub to_walk : (run : List ℕ) → T (admits P run) → (σ : Schedule P run) →
      (v : Node) × (es : List Edge) × Walk P start v es × Agrees P run σ es
  pub to_schedule : (v : Node) (es : List Edge) → Walk P start v es →
      T (admits P (labels es)) × (σ : Schedule P (labels es)) × Agrees P (labels es) σ es
