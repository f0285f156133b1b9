-- Plans of the first edition in the long-read edition, and back; certificates of the first edition with their masks widened; and what
-- carries over.
use Rattle.std.specs.Prelude.{◌≡◌, ℕ, ◌≤◌, Bool, false, cond, not, ◌&&◌, ◌||◌, List, leb}
use Rattle.std.proofs.Math.Option.{Option, none, some}
use Rattle.model.specs.Limits.{work_room, certificate_room}
use Rattle.model.specs.Edition.{Edition, first_edition, plan_room_in, plan_room}
use Rattle.model.specs.Refusals.{bad_form, not_in_first}
use Rattle.model.specs.Lists.{all}
use Rattle.model.specs.Plan.{Task, Plan, sound, read_plan_in, read_plan, IsSoundIn}
use Rattle.model.specs.Graph.{nodes, too_large}
use Rattle.model.specs.Certificate.{Certificate, certificate_bytes, read_certificate_in}
use Rattle.model.specs.Check.{share, verdict, check}
use Rattle.model.specs.Calls.{Writing, refuses, writes, with_room, with_plan}
use Rattle.model.specs.PlanBytes.{plan_bytes_in}

-- ---- the calls

-- "A converter writes each one without faults in the long-read edition, and builds no graph": the plan of first-edition bytes, with so many
-- bytes of output lent
unfoldable pub forth : List ℕ → ℕ → Writing Plan
forth plan lent = with_room plan_room lent (with_plan (read_plan_in first_edition plan) writes)

-- what an edition can say of a task: no D and no V above its largest, and a lock only where it has locks
abbrev pub says : Edition → Task → Bool
says e t = leb t.window e.window && leb t.value e.value && (not t.locked || e.locks)

-- "it refuses what the old form can't say": "a D above 8 or a V above 255", and "a plan with `09` sent back to the first edition is 16"
abbrev pub back_of : Plan → Writing Plan
back_of P = cond (all (says first_edition) P.tasks) (writes P) (refuses not_in_first)

-- "Back again": the plan of long-read bytes, to be written in the first edition; 16 comes "after the plan's own faults"
unfoldable pub back : List ℕ → ℕ → Writing Plan
back plan lent = with_room (plan_room_in first_edition) lent (with_plan (read_plan plan) back_of)

-- ---- certificates

-- a certificate, or "6, any fault of form"
abbrev pub with_form : Option Certificate → Writing Certificate
with_form none = refuses bad_form
with_form (some c) = writes c

-- "fraction, potentials and cycle of a certificate .. carry over, masks widened": the certificate of first-edition bytes, to be written in
-- the long-read edition
unfoldable pub widened : List ℕ → ℕ → Writing Certificate
widened certificate lent = with_room certificate_room lent (with_form (read_certificate_in first_edition certificate))

-- ---- what is promised of a plan that is written in another edition

-- The bytes given are the plan P in one edition; those written of it in another are it too, and the other call takes them back.
pub record Converted (from to : Edition) (taken_back : List ℕ → ℕ → Writing Plan) (given written : List ℕ) (P : Plan) : Type 0 where
  -- the bytes written are the very plan
  pub read : read_plan_in to written ≡ sound P
  -- "A plan sent forth and back is the same bytes."
  pub returned : (lent : ℕ) → plan_room_in from ≤ lent → taken_back written lent ≡ writes P
  pub same : plan_bytes_in from P ≡ given

-- Bytes that are a sound plan which no bytes of an edition say: "what the old form can't say".
pub record Unsaid (e : Edition) (bs : List ℕ) : Type 0 where
  pub plan : Plan
  pub read : read_plan bs ≡ sound plan
  pub unsaid : IsSoundIn e plan → ⊥

-- Where the certificate c passes the checker's tests for the plan P, the checker accepts these bytes of plan and certificate, with the same p,
-- q, N and K.
abbrev pub CertificateCarried : Plan → Certificate → (plan certificate : List ℕ) → Type 0
CertificateCarried P c plan certificate =
    (p q n k lent : ℕ) → too_large P ≡ false → verdict P c ≡ share p q n k → work_room ≤ lent → check plan certificate lent ≡ share p q n k

-- What the old plan P has, the new bytes have.
pub record CarriesOver (P : Plan) (new : List ℕ) : Type 0 where
  -- "The converted plan has the same nodes in the same order as the old one"
  pub same_nodes : (Q : Plan) → read_plan new ≡ sound Q → nodes Q ≡ nodes P
  -- "so fraction, potentials and cycle of a certificate made since A.4 carry over, masks widened"
  pub certificates : (old : List ℕ) (c : Certificate) → read_certificate_in first_edition old ≡ some c → CertificateCarried P c new (certificate_bytes c)
