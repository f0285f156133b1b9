-- What the structs of the form stand for.
use Rattle.std.specs.Prelude as rust
use Rattle.std.specs.Prelude.{◌≡◌, ◌⊎◌, None, Some, MatchOption, ℕ, ◌+◌, ◌*◌, ◌≤◌, ◌<◌, cond, List, [], map, eqb, ℤ, length, get_or, drop}
use Rattle.std.proofs.Math.Option.{Option, none, some}
use Rattle.model.specs.Limits.{max_tasks, max_steps}
use Rattle.model.specs.Edition.{Edition, long_reads}
use Rattle.model.specs.Lists.{up_from}
use Rattle.model.specs.Bytes.{number, signed, part}
use Rattle.model.specs.Certificate.{Certificate, Step, Parsed, has, step_width, masks_at, with_steps, read_potentials, read_steps, read_certificate_in, read_certificate}
use Rattle.node.specs.declared.Edition as node
use Rattle.certificate.specs.declared.Parts.{Parts}
use Rattle.certificate.specs.declared.Reader.{Reader}
use Rattle.certificate.specs.declared.Run.{Run}

-- an edition that the reader knows: a mask is one byte or two
abbrev pub MasksLegible : node.Edition → Type 0
MasksLegible e = (e.mask_width ≡ 1) ⊎ (e.mask_width ≡ 2)

-- the commands
abbrev pub head_command : ℕ
head_command = 0x11

abbrev pub potential_command : ℕ
potential_command = 0x12

abbrev pub node_command : ℕ
node_command = 0x13

abbrev pub step_command : ℕ
step_command = 0x14

abbrev pub end_command : ℕ
end_command = 0x15

-- the bytes of a potential's number, and of the masks of a long-read step
abbrev pub potential_width : ℕ
potential_width = 8

abbrev pub masks_width : ℕ
masks_width = long_reads.mask_width * max_tasks

-- the bytes of the head, of a potential, of the cycle's start and of a long-read step, each with its command
abbrev pub head_size : ℕ
head_size = 11

abbrev pub potential_size : ℕ
potential_size = 1 + potential_width

abbrev pub cycle_size : ℕ
cycle_size = 3

abbrev pub step_size : ℕ
step_size = step_width long_reads

-- the fraction and the number of potentials in the head, and the node of a cycle that starts at a place
abbrev pub p_in : List ℕ → ℕ
p_in bs = number (part bs 1 4)

abbrev pub q_in : List ℕ → ℕ
q_in bs = number (part bs 5 4)

abbrev pub potential_count_in : List ℕ → ℕ
potential_count_in bs = number (part bs 9 2)

abbrev pub cycle_node_in : List ℕ → ℕ → ℕ
cycle_node_in bs at = number (part bs (at + 1) 2)

-- the potential, and the step, whose command is at a place
abbrev pub potential_in : List ℕ → ℕ → ℤ
potential_in bs at = signed (number (part bs (at + 1) potential_width))

abbrev pub step_in : Edition → List ℕ → ℕ → Step
step_in e bs at = record { label = get_or bs (at + 1) 0; masks = masks_at e (drop at bs) }

-- n items of a size, one after another from a place on
unfoldable pub items : {A : Type 0} → (ℕ → A) → ℕ → ℕ → ℕ → List A
items item from size n = map (λ i. item (from + size * i)) (up_from 0 n)

abbrev pub potentials_in : List ℕ → ℕ → List ℤ
potentials_in bs n = items (potential_in bs) head_size potential_size n

abbrev pub steps_in : Edition → List ℕ → ℕ → ℕ → List Step
steps_in e bs from n = items (step_in e bs) from (step_width e) n

-- the certificate with these parts of the bytes
abbrev pub certificate_of : Edition → List ℕ → Parts → Certificate
certificate_of e bs c = record { p = c.fraction.p; q = c.fraction.q; potentials = potentials_in bs c.count; node = c.node; steps = steps_in e bs c.from c.steps }

abbrev pub form_of : Edition → List ℕ → rust.Option Parts → Option Certificate
form_of e bs None = none
form_of e bs (Some c) = some (certificate_of e bs c)

-- where a certificate's steps begin: after the potentials, and where there is a cycle after its head
abbrev pub steps_place : Certificate → ℕ
steps_place c = head_size + potential_size * length c.potentials + cond (eqb c.q 0) 0 cycle_size

-- its parts
abbrev pub parts_of : Certificate → Parts
parts_of c = record { fraction = record { p = c.p; q = c.q }; count = length c.potentials; node = c.node; from = steps_place c; steps = length c.steps }

abbrev pub in_place : Option Certificate → rust.Option Parts
in_place none = None
in_place (some c) = Some (parts_of c)

-- the bytes of an edition are the certificate with these parts, and its steps stand where they were read
pub record IsRead (e : Edition) (bs : List ℕ) (c : Parts) : Type 0 where
  pub read : read_certificate_in e bs ≡ some (certificate_of e bs c)
  pub place : c.from ≡ steps_place (certificate_of e bs c)

-- the bytes are a long-read certificate with a potential i
pub record HasPotential (bs : List ℕ) (i : ℕ) : Type 0 where
  pub certificate : Certificate
  pub read : read_certificate bs ≡ some certificate
  pub below : i < length certificate.potentials

-- the step j
abbrev pub step_at : List Step → ℕ → Step
step_at ss j = get_or ss j (record { label = 0; masks = [] })

-- a reader after n items of a size, within the bytes
pub record Past (bs : List ℕ) (from size n : ℕ) (r : Reader) : Type 0 where
  pub bytes : r.src.now ≡ bs
  pub place : r.at ≡ from + size * n
  pub inside : r.at ≤ length bs

-- the n items of a size from a place on, and the bytes from where they end
abbrev pub parsed : {A : Type 0} → List ℕ → (ℕ → A) → ℕ → ℕ → ℕ → ℕ → Option (Parsed (List A))
parsed bs item from size n end = some (record { value = items item from size n; rest = drop end bs })

-- n potentials from a place on, and the reader after them
abbrev pub PotentialsRead : List ℕ → ℕ → ℕ → rust.Option Reader → Type 0
PotentialsRead bs from n o =
    let read = read_potentials n (drop from bs) in
    MatchOption o (none ≡ read) (λ r. Past bs from potential_size n r × (parsed bs (potential_in bs) from potential_size n r.at ≡ read))

-- the steps of an edition from a place on, as many as a cycle has at most
abbrev pub StepsRead : Edition → List ℕ → ℕ → rust.Option Run → Type 0
StepsRead e bs from o =
    let read = read_steps e max_steps (drop from bs) in
    MatchOption o (none ≡ read) (λ r. Past bs from (step_width e) r.items r.end × (parsed bs (step_in e bs) from (step_width e) r.items r.end.at ≡ read))

-- the certificate whose cycle starts at a place, after n potentials
abbrev pub cycle_from : Edition → List ℕ → ℕ → ℕ → ℕ → ℕ → Option Certificate
cycle_from e bs p q n at =
    let rest = drop at bs in
    cond (has rest node_command cycle_size) (with_steps p q (potentials_in bs n) (cycle_node_in rest 0) (read_steps e max_steps (drop cycle_size rest))) none
