-- The numbers of refusals are small. Assumes nothing.
use Prim.Native.Nat.{◌≤◌}
use native.Mathlib.Omega.{arith}
use Rattle.model.specs.Refusals.{bad_cap}
use Rattle.plan.specs.View.{fault_number}
use Rattle.plan.specs.declared.Fault.{Fault}
use Rattle.plan.specs.declared.Fault.TheVariants.{BytesEnd, UnknownCommand, OutOfPlace, OutOfRange}
use Rattle.refusals.specs.declared.Refusal.{Refusal}
use Rattle.refusals.specs.declared.Refusal.TheVariants.{Plan, TooManyNodes, BadForm, BadFraction, BadCount, BadPotential, BadCycle, ShortMemory, TooManyLabels, NotAdmitted, BadGap, TooManyPairs, NotInFirst, BadWrite, BadCap}
use Rattle.refusals.specs.Numbers.{refusal_number}

fault_small : (f : Fault) → fault_number f ≤ bad_cap
fault_small BytesEnd = omega arith
fault_small UnknownCommand = omega arith
fault_small OutOfPlace = omega arith
fault_small OutOfRange = omega arith

-- 18 is the largest
pub refusal_small : (r : Refusal) → refusal_number r ≤ bad_cap
refusal_small (Plan f) = fault_small f
refusal_small TooManyNodes = omega arith
refusal_small BadForm = omega arith
refusal_small BadFraction = omega arith
refusal_small BadCount = omega arith
refusal_small BadPotential = omega arith
refusal_small BadCycle = omega arith
refusal_small ShortMemory = omega arith
refusal_small TooManyLabels = omega arith
refusal_small NotAdmitted = omega arith
refusal_small BadGap = omega arith
refusal_small TooManyPairs = omega arith
refusal_small NotInFirst = omega arith
refusal_small BadWrite = omega arith
refusal_small BadCap = omega arith
