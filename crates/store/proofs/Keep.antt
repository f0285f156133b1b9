-- What finding or appending a row leaves, by whether it is there and whether there is room. Assumes nothing.
use mathlib.Core.Path.{◌≡◌, refl}
use mathlib.Core.List.{List}
use Prim.Native.Nat.{ℕ, ◌+◌, ◌≤◌, ◌<◌}
use native.Mathlib.Omega.{arith}
use borrow.Author.Tests.{lt-ltb, le-ltb}
use Rattle.std.specs.Prelude.{None, Some}
use Rattle.words.proofs.Free.{only_refl}
use Rattle.store.specs.Store.{max_rows, rows_in, index_in, Distinct, Indexed, Appended, rows_with, found_in, Kept}
use Rattle.store.proofs.Rows.{rows-length}
use Rattle.store.proofs.Search.{index-le, distinct_snoc}

module _ (m : List ℕ) (n : ℕ) (row : List ℕ) (i : ℕ) (distinct : Distinct (rows_in m n)) (at : i ≡ index_in (rows_in m n) row) where
  -- it is there
  pub kept_there : Indexed m n → i < n → Kept m m n row (Some (record { index = i; count = n }))
  unfolding found_in rows_with
  kept_there index there =
      record {
        found = rw (← at, rows-length m n, lt-ltb i n there);
        rows = rw (← at, rows-length m n, lt-ltb i n there);
        index = index;
        distinct = distinct;
        same = λ e. refl;
        only = only_refl;
      }

  -- it is not there, and there is no room
  pub kept_full : Indexed m n → n ≤ i → max_rows ≤ n → Kept m m n row None
  unfolding found_in rows_with
  kept_full index out full =
      record {
        found = rw (← at, rows-length m n, le-ltb i n out, le-ltb n max_rows full);
        rows = rw (← at, rows-length m n, le-ltb i n out, le-ltb n max_rows full);
        index = index;
        distinct = distinct;
        same = λ e. refl;
        only = only_refl;
      }

  -- it is not there, and is appended
  pub kept_new : (m' : List ℕ) → n ≤ i → n < max_rows → Appended m m' n row → Kept m m' n row (Some (record { index = i; count = n + 1 }))
  unfolding found_in rows_with
  kept_new m' out room new =
      record {
        found = rw (← at, rows-length m n, le-ltb i n out, lt-ltb n max_rows room);
        rows = rw (← at, rows-length m n, le-ltb i n out, lt-ltb n max_rows room) new.rows;
        index = new.index;
        distinct = rw new.rows
            (distinct_snoc (rows_in m n) row distinct (omega (arith, rows-length m n, index-le (rows_in m n) row)));
        same = λ e. absurd (omega arith);
        only = new.only;
      }
