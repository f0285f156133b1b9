-- The number of each refusal.
use Rattle.std.specs.Prelude.{ℕ}
use Rattle.model.specs.Refusals.{too_many_nodes, bad_form, bad_fraction, bad_count, bad_potential, bad_cycle, short_memory, too_many_labels, not_admitted, bad_gap, too_many_pairs, not_in_first, bad_write, bad_cap}
use Rattle.plan.specs.View.{fault_number}
use Rattle.refusals.specs.declared.Refusal.{Refusal}
use Rattle.refusals.specs.declared.Refusal.TheVariants.{Plan, TooManyNodes, BadForm, BadFraction, BadCount, BadPotential, BadCycle, ShortMemory, TooManyLabels, NotAdmitted, BadGap, TooManyPairs, NotInFirst, BadWrite, BadCap}

abbrev pub refusal_number : Refusal → ℕ
refusal_number (Plan f) = fault_number f
refusal_number TooManyNodes = too_many_nodes
refusal_number BadForm = bad_form
refusal_number BadFraction = bad_fraction
refusal_number BadCount = bad_count
refusal_number BadPotential = bad_potential
refusal_number BadCycle = bad_cycle
refusal_number ShortMemory = short_memory
refusal_number TooManyLabels = too_many_labels
refusal_number NotAdmitted = not_admitted
refusal_number BadGap = bad_gap
refusal_number TooManyPairs = too_many_pairs
refusal_number NotInFirst = not_in_first
refusal_number BadWrite = bad_write
refusal_number BadCap = bad_cap
