-- `plan::with_command` meets its contract: each command sets what the definition says.
-- Assumes nothing.
use native.Mathlib.Omega.{arith}
use Rattle.plan.proofs.Commands.{readable-as, reads_as, room-left, task-read, policy-read, states-read, end-read, lock-there, lock-read}
use Rattle.plan.proofs.with_command.Goals as goal

pub with-requires : goal.with-requires
with-requires c = room-left _ _ _ _ _ (readable-as _ _ _ _ _ c.in-Task.is c.requires)

pub with_arc-requires : goal.with_arc-requires
with_arc-requires c = readable-as _ _ _ _ _ c.in-Arc.is c.requires

pub overflow_sub-g : goal.overflow_sub-g
overflow_sub-g c = (lock-there _ _ _ _ _ (readable-as _ _ _ _ _ c.in-Lock.is c.requires)).0

pub locked-requires : goal.locked-requires
locked-requires c = omega (arith, lock-there _ _ _ _ _ (readable-as _ _ _ _ _ c.in-Lock.is c.requires))

pub returns-in-Task : goal.returns-in-Task
returns-in-Task c = reads_as _ _ _ _ _ _ _ c.in-Task.is (task-read _ _ _ _ _ (readable-as _ _ _ _ _ c.in-Task.is c.requires) c.with.result c.with.ensures.list c.with.ensures.bare)

pub returns-in-Policy : goal.returns-in-Policy
returns-in-Policy c = reads_as _ _ _ _ _ _ _ c.in-Policy.is (policy-read _ _ _ _ _ (readable-as _ _ _ _ _ c.in-Policy.is c.requires))

pub returns-in-States : goal.returns-in-States
returns-in-States c = reads_as _ _ _ _ _ _ _ c.in-States.is (states-read _ _ _ _ _ (readable-as _ _ _ _ _ c.in-States.is c.requires))

pub returns-in-Arc : goal.returns-in-Arc
returns-in-Arc c = reads_as _ _ _ _ _ _ _ c.in-Arc.is c.with_arc.ensures

pub returns-in-End : goal.returns-in-End
returns-in-End c = reads_as _ _ _ _ _ _ _ c.in-End.is (end-read _ _ _ _ _ (readable-as _ _ _ _ _ c.in-End.is c.requires))

pub returns-in-Lock : goal.returns-in-Lock
returns-in-Lock c = reads_as _ _ _ _ _ _ _ c.in-Lock.is (lock-read _ _ _ _ _ (readable-as _ _ _ _ _ c.in-Lock.is c.requires) c.locked.result c.locked.ensures.list c.locked.ensures.bare)
