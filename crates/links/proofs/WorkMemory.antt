-- The layout of the lent work memory, and its sum: rows of 39 bytes, the index by hash and by row, the links and the steps.
-- Assumes nothing.
use mathlib.Core.Path.{◌≡◌, refl}
use Prim.Native.Nat.{◌≤◌}
use native.Mathlib.Omega.{arith}
use Rattle.model.specs.Limits.{work_room}
use Rattle.store.specs.Store.{row_bytes, buckets_at, chain_at}
use Rattle.links.specs.Links.{links_at, steps_at, links_end}

pub layout : (row_bytes ≡ 39) × (buckets_at ≡ 39936) × (chain_at ≡ 41984) × (links_at ≡ 44032) × (steps_at ≡ 56320) × (links_end ≡ 59392) × (links_end ≤ work_room)
layout = (refl, refl, refl, refl, refl, refl, omega arith)
