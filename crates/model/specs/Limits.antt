-- The numbers of documents 01 and 02 that a request may change, each named once.
use Rattle.std.specs.Prelude.{ℕ, ◌^◌}

-- tasks are given one to four times
abbrev pub max_tasks : ℕ
max_tasks = 4

-- "D goes to 10": the longest window of all editions, so the width of a mask and of the pattern
abbrev pub max_window : ℕ
max_window = 10

-- "V becomes two bytes (1 to 65,535)": the largest of all editions
abbrev pub max_value : ℕ
max_value = 65535

-- M states, 1 to 16
abbrev pub max_states : ℕ
max_states = 16

-- more than 1,024 reachable nodes are refused
abbrev pub max_nodes : ℕ
max_nodes = 1024

-- a certificate's cycle has 1 to 1,024 steps
abbrev pub max_steps : ℕ
max_steps = 1024

-- more than 4,096 labels are refused
abbrev pub max_labels : ℕ
max_labels = 4096

-- "p goes to 67,107,840, q to 268,431,360": over a cycle of 1,024 edges the policy gains at most one V a slot, the clairvoyant four
abbrev pub max_p : ℕ
max_p = 67107840

abbrev pub max_q : ℕ
max_q = 268431360

-- "potentials to ±2^56"
abbrev pub max_potential : ℕ
max_potential = 2 ^ 56

-- the bytes of work memory, and the most that a certificate ("to 19,471 bytes") and a trace ("16,384 at most") take
abbrev pub work_room : ℕ
work_room = 65536

abbrev pub certificate_room : ℕ
certificate_room = 19471

abbrev pub trace_room : ℕ
trace_room = 16384

-- a gap is of 1 to 16 slots: its automaton has as many states
abbrev pub max_gap : ℕ
max_gap = max_states

-- a cap is for 1 to 64 slots in a row, and allows at most 2,560 units of work: four tasks release at most 40 in a slot
abbrev pub max_cap_slots : ℕ
max_cap_slots = 64

abbrev pub max_cap_work : ℕ
max_cap_work = 2560
