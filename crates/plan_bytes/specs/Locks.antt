-- The locks of tasks that an edition can say.
use Rattle.std.specs.Prelude.{◌≡◌, true}
use mathlib.Core.List.{List, Memᴰ}
use Rattle.model.specs.Edition.{Edition}
use Rattle.model.specs.Plan.{Task}

-- no task is locked unless the edition has locks
abbrev pub LocksFit : Edition → List Task → Type 0
LocksFit e ts = (t : Task) → Memᴰ t ts → t.locked ≡ true → e.locks ≡ true
