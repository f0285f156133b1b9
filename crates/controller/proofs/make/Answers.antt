-- The block after what a write asks is the definition's.
use Rattle.std.proofs.Common.{refl}
use Rattle.model.specs.Controller.{after_write}
use Rattle.controller.proofs.make.Goals as goal

pub returns-in-Label : goal.returns-in-Label
unfolding after_write
returns-in-Label c = rw c.in-Label.is (record { is = λ P part. refl; ready = record { cells = c.requires.cells; state = c.requires.state } })

pub returns-in-Mask : goal.returns-in-Mask
unfolding after_write
returns-in-Mask c = rw c.in-Mask.is (record { is = λ P part. refl; ready = record { cells = c.requires.cells; state = c.requires.state } })

pub returns-in-Run : goal.returns-in-Run
unfolding after_write
returns-in-Run c = rw c.in-Run.is (record { is = λ P part. c.run_slot.ensures.is P part; ready = c.run_slot.ensures.ready })
