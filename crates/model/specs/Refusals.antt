-- The refusals of documents 01 and 02, each with its number.
use Rattle.std.specs.Prelude.{ℕ}

-- The plan's author.

-- 1, bytes end inside a command or where one is due
abbrev pub bytes_end : ℕ
bytes_end = 1

-- 2, unknown command
abbrev pub unknown_command : ℕ
unknown_command = 2

-- 3, a command that may not follow here, a fifth task, pairs or locks not rising, any byte at all after `05`
abbrev pub out_of_place : ℕ
out_of_place = 3

-- 4, operand out of range
abbrev pub out_of_range : ℕ
out_of_range = 4

-- 5, more than 1,024 reachable nodes
abbrev pub too_many_nodes : ℕ
too_many_nodes = 5

-- The certificate's author.

-- 6, any fault of form (commands, their order, counts, N, ends)
abbrev pub bad_form : ℕ
bad_form = 6

-- 7, fraction
abbrev pub bad_fraction : ℕ
bad_fraction = 7

-- 8, N is not the node count
abbrev pub bad_count : ℕ
bad_count = 8

-- 9, a potential or an edge
abbrev pub bad_potential : ℕ
bad_potential = 9

-- 10, the cycle, its node or a step's label included
abbrev pub bad_cycle : ℕ
bad_cycle = 10

-- The calling program.

-- 11, work memory short, or output shorter than the most that call can write
abbrev pub short_memory : ℕ
short_memory = 11

-- Whoever lists releases.

-- 12, more than 4,096 labels
abbrev pub too_many_labels : ℕ
too_many_labels = 12

-- 13, a label not admitted in the state reached, or, in a log that is held against a cap, one with a bit of no task of the plan
abbrev pub not_admitted : ℕ
not_admitted = 13

-- Whoever asks for a plan to be written from another.

-- 14, a gap of 0 or above 16, or of no task or one that is not in the plan
abbrev pub bad_gap : ℕ
bad_gap = 14

-- 15, more than 16 reachable pairs
abbrev pub too_many_pairs : ℕ
too_many_pairs = 15

-- 16, a D above 8, a V above 255 or a lock on the way back to the first edition
abbrev pub not_in_first : ℕ
not_in_first = 16

-- Whoever writes to the register block.

-- 17, a write to another byte than 0, 1 or 3, or of another value than 1 to byte 1
abbrev pub bad_write : ℕ
bad_write = 17

-- Whoever asks whether a run kept to its cap.

-- 18, k outside 1 to 64, or w above 2,560
abbrev pub bad_cap : ℕ
bad_cap = 18
