-- Adding a node's row to rows is adding the node to their nodes. Assumes nothing.
use mathlib.Core.Path.{◌≡◌, refl, sym, ap, ap₂, subst, ◌∙◌}
use mathlib.Core.Bool.{Bool, true, false, cond}
use mathlib.Core.List.{List, [], ◌∷◌, ◌++◌, map, map-append}
use Prim.Native.Nat.{ℕ, suc, ◌+◌, ◌*◌, ◌^◌, ◌<◌}
use native.Mathlib.Omega.{arith}
use lib.Dec.{ltb}
use lib.Seq.{get_or-append_seam}
use lib.ListN.{length, get_or, length-append, length-map, get_or-append}
use borrow.Author.Tests.{ltb-true, ltb-false}
use Rattle.model.specs.Bytes.{bytes}
use Rattle.model.specs.Discovery.{among, add, number_in}
use Rattle.model.specs.Graph as model
use Rattle.model.specs.Graph.{same_node}
use Rattle.model.specs.Lists.{same_numbers}
use Rattle.model.proofs.Discovery.{among-number}
use Rattle.theory.proofs.Nodes.{same-node}
use Rattle.policy.specs.View.{Tasks, cell_count, Cells}
use Rattle.graph.specs.View.{node_of}
use Rattle.node.specs.declared.Node.{Node}
use Rattle.graph.proofs.View.{same_view}
use Rattle.words.proofs.Memory.{part_length}
use Rattle.std.specs.Prelude as rust
use Rattle.std.specs.Prelude.{None, Some}
use Rattle.store.specs.declared.Place.{Place}
use Rattle.store.specs.Store.{row_bytes, max_rows, row_at, rows_in, index_in, Distinct, Indexed, rows_with, found_in, count_after, Kept}
use Rattle.store.proofs.Rows.{rows-length, rows_at}
use Rattle.model.proofs.Tests.{same_decided, same_numbers_lem}
use Rattle.discovery.specs.Discovery.{pattern_bytes, row_of, node_in, view_of, nodes_in, Holding, count_in, Known, Stored, Adds}
use Rattle.discovery.proofs.Rows.{node_row, row-length}

-- a row of a node whose cells a node can hold
pub record Row (ts : Tasks) (row : List ℕ) : Type 0 where
  pub size : length row ≡ row_bytes
  pub cells : Cells ts cell_count (node_in row).cells
  pub own : row_of (node_in row) ≡ row

module _ (ts : Tasks) (u : Node) (fits : Cells ts cell_count u.cells) (small : u.taken < 256 ^ pattern_bytes) where
  own_view : view_of ts (row_of u) ≡ node_of ts u
  own_view = ap (node_of ts) (node_row u fits.size small)

  -- rows are equal just if the nodes of the model are
  pub row_view_lem : (row : List ℕ) → Row ts row → same_node (view_of ts row) (node_of ts u) ≡ same_numbers row (row_of u)
  row_view_lem row ok =
      same_decided (same-node (view_of ts row) (node_of ts u)) (
        λ h. ap (view_of ts) ((same_numbers_lem row (row_of u)).0 h) ∙ own_view,
        λ e.
            let same = (same_view ts (node_in row) u ok.cells fits).0 e in
            (same_numbers_lem row (row_of u)).1 (sym ok.own ∙ (λ i. same.0 i ++ (bytes pattern_bytes (same.1 i) ++ (same.2 i ∷ [])))),
      )

  -- a node's number is that of its row
  pub number-rows : (rows : List (List ℕ)) → ((j : ℕ) → j < length rows → Row ts (get_or rows j [])) →
      number_in same_node (map (view_of ts) rows) (node_of ts u) ≡ index_in rows (row_of u)
  unfolding index_in
  number-rows [] ok = refl
  number-rows (r ∷ rows) ok =
      let later = number-rows rows (λ j h. ok (suc j) (omega arith)) in
      let same = row_view_lem r (ok 0 (omega arith)) in
      λ i. cond (same i) 0 (suc (later i))

  -- so it is among those of the rows just if its row is found
  among-index : (rows : List (List ℕ)) → ((j : ℕ) → j < length rows → Row ts (get_or rows j [])) →
      among same_node (node_of ts u) (map (view_of ts) rows) ≡ ltb (index_in rows (row_of u)) (length rows)
  among-index rows ok =
      among-number same_node same-node (map (view_of ts) rows) (node_of ts u) ∙ ap₂ ltb (number-rows rows ok) (length-map rows (view_of ts))

  -- its own row
  own_row : Row ts (row_of u)
  own_row = record {
    size = row-length u fits.size;
    cells = subst (Cells ts cell_count) (sym (ap (λ (w : Node). w.cells) (node_row u fits.size small))) fits;
    own = ap row_of (node_row u fits.size small);
  }

  module _ (rows : List (List ℕ)) (ok : (j : ℕ) → j < length rows → Row ts (get_or rows j [])) where
    abbrev ns : List model.Node
    ns = map (view_of ts) rows

    with_own : (j : ℕ) → j < length (rows ++ (row_of u ∷ [])) → Row ts (get_or (rows ++ (row_of u ∷ [])) j [])
    with_own j h = by (ltb j (length rows)) refl
      where
        by : (b : Bool) → ltb j (length rows) ≡ b → Row ts (get_or (rows ++ (row_of u ∷ [])) j [])
        by true e =
            let below = ltb-true j (length rows) e in
            subst (Row ts) (sym (get_or-append rows (row_of u ∷ []) [] j below)) (ok j below)
        by false e =
            let last : j ≡ length rows = omega (arith, ltb-false j (length rows) e, length-append rows (row_of u ∷ [])) in
            subst (Row ts) (sym (ap (λ (k : ℕ). get_or (rows ++ (row_of u ∷ [])) k []) last ∙ get_or-append_seam rows (row_of u) [] [])) own_row

    -- the row is there: the node is
    add_there : ltb (index_in rows (row_of u)) (length rows) ≡ true → add same_node ns (node_of ts u) ≡ ns
    add_there e = ap (λ (b : Bool). cond b ns (ns ++ (node_of ts u ∷ []))) (among-index rows ok ∙ e)

    -- it is not: the node joins
    add_new : ltb (index_in rows (row_of u)) (length rows) ≡ false → add same_node ns (node_of ts u) ≡ ns ++ (node_of ts u ∷ [])
    add_new e = ap (λ (b : Bool). cond b ns (ns ++ (node_of ts u ∷ []))) (among-index rows ok ∙ e)

    new_nodes : map (view_of ts) (rows ++ (row_of u ∷ [])) ≡ ns ++ (node_of ts u ∷ [])
    new_nodes = map-append (view_of ts) rows (row_of u ∷ []) ∙ ap (λ (v : model.Node). ns ++ (v ∷ [])) own_view

-- the rows of a store
module _ (ts : Tasks) (m : List ℕ) (n : ℕ) (held : Holding ts m n) where
  pub held-row-at : (j : ℕ) → j < n → Row ts (row_at m j)
  held-row-at j below = record {
    size = part_length m (row_bytes * j) row_bytes (omega (arith, held.index.few, held.index.room));
    cells = held.cells j below;
    own = held.rows j below;
  }

  pub held-row : (j : ℕ) → j < length (rows_in m n) → Row ts (get_or (rows_in m n) j [])
  held-row j h =
      let below : j < n = omega (arith, rows-length m n) in
      subst (Row ts) (sym (rows_at m n j below)) (held-row-at j below)

holding : (ts : Tasks) (m : List ℕ) (n : ℕ) (rows : List (List ℕ)) → rows_in m n ≡ rows → Indexed m n → Distinct (rows_in m n) →
    ((j : ℕ) → j < length rows → Row ts (get_or rows j [])) → Holding ts m n
holding ts m n rows e index distinct ok = record {
  index = index;
  distinct = distinct;
  cells = λ j h.
      let below : j < length rows = subst (λ (l : List (List ℕ)). j < length l) e (omega (arith, rows-length m n)) in
      let same : get_or rows j [] ≡ row_at m j = ap (λ (l : List (List ℕ)). get_or l j []) (sym e) ∙ rows_at m n j h in
      subst (λ (r : List ℕ). Cells ts cell_count (node_in r).cells) same (ok j below).cells;
  rows = λ j h.
      let below : j < length rows = subst (λ (l : List (List ℕ)). j < length l) e (omega (arith, rows-length m n)) in
      let same : get_or rows j [] ≡ row_at m j = ap (λ (l : List (List ℕ)). get_or l j []) (sym e) ∙ rows_at m n j h in
      subst (λ (r : List ℕ). row_of (node_in r) ≡ r) same (ok j below).own;
}

module _ (ts : Tasks) (u : Node) (fits : Cells ts cell_count u.cells) (small : u.taken < 256 ^ pattern_bytes) (m m' : List ℕ) (n : ℕ) (held : Holding ts m n) where
  abbrev target : List model.Node
  target = add same_node (nodes_in ts m n) (node_of ts u)

  abbrev rows : List (List ℕ)
  rows = rows_in m n

  ok : (j : ℕ) → j < length rows → Row ts (get_or rows j [])
  ok = held-row ts m n held

  -- an answer with a number of rows, which are these
  known_at : (p : Place) (after : List (List ℕ)) → Kept m m' n (row_of u) (Some p) → rows_in m' p.count ≡ after →
      ((j : ℕ) → j < length after → Row ts (get_or after j [])) → map (view_of ts) after ≡ target → Known ts target m m' (Some p.count)
  unfolding nodes_in
  known_at p after kept e good same = record {
    held = λ k h.
        let at : p.count ≡ k = cc in
        subst (λ (c : ℕ). Holding ts m' c × (nodes_in ts m' c ≡ target)) at
        (holding ts m' p.count after e kept.index kept.distinct good, ap (map (view_of ts)) e ∙ same);
    many = λ h. cc;
    only = kept.only;
  }

  known_kept : (r : rust.Option Place) → Kept m m' n (row_of u) r → Known ts target m m' (count_in r)
  unfolding nodes_in found_in rows_with
  known_kept r kept = by (ltb (index_in rows (row_of u)) (length rows)) refl (ltb (length rows) max_rows) refl kept.found kept.rows
    where
      i : ℕ
      i = index_in rows (row_of u)

      placed : ℕ → Place
      placed c = record { index = i; count = c }

      Result : rust.Option Place → Type 0
      Result q = Known ts target m m' (count_in q)

      by : (a : Bool) → ltb i (length rows) ≡ a → (b : Bool) → ltb (length rows) max_rows ≡ b →
          r ≡ cond a (Some (placed (length rows))) (cond b (Some (placed (length rows + 1))) None) →
          rows_in m' (count_after n r) ≡ cond a rows (cond b (rows ++ (row_of u ∷ [])) rows) → Result r
      by true e b f at same =
          subst Result (sym at)
          (known_at (placed (length rows)) rows (subst (Kept m m' n (row_of u)) at kept)
          (ap (λ (q : rust.Option Place). rows_in m' (count_after n q)) (sym at) ∙ same) ok (sym (add_there ts u fits small rows ok e)))
      by false e true f at same =
          subst Result (sym at)
          (known_at (placed (length rows + 1)) (rows ++ (row_of u ∷ [])) (subst (Kept m m' n (row_of u)) at kept)
          (ap (λ (q : rust.Option Place). rows_in m' (count_after n q)) (sym at) ∙ same) (with_own ts u fits small rows ok)
          (new_nodes ts u fits small rows ok ∙ sym (add_new ts u fits small rows ok e)))
      by false e false f at same =
          let more : length target ≡ length rows + 1 =
          ap length (add_new ts u fits small rows ok e) ∙ length-append (map (view_of ts) rows) (node_of ts u ∷ [])
          ∙ ap (λ (k : ℕ). k + 1) (length-map rows (view_of ts)) in
          subst Result (sym at) record {
            held = λ k h. cc;
            many = λ h. omega (arith, more, ltb-false (length rows) max_rows f);
            only = kept.only;
          }

-- the same, with what is known of the row and of the answer
pub adds_answer : (u : Node) → u.taken < 256 ^ pattern_bytes → (m m' : List ℕ) (n : ℕ) (row : List ℕ) → row ≡ row_of u → (r q : rust.Option Place) → Kept m m' n row r → r ≡ q →
    Adds u.cells (λ ts. node_of ts u ∷ []) m n m' (count_in q)
adds_answer u small m m' n row same r q kept e = record { stored = stored q (subst (Kept m m' n (row_of u)) e kept'); known = known }
  where
    kept' : Kept m m' n (row_of u) r
    kept' = subst (λ (l : List ℕ). Kept m m' n l r) same kept

    stored : (a : rust.Option Place) → Kept m m' n (row_of u) a → (k : ℕ) → count_in a ≡ Some k → Stored m' k
    stored None kept k h = cc
    stored (Some p) kept k h = let at : p.count ≡ k = cc in subst (Stored m') at (record { index = kept.index; distinct = kept.distinct })

    known : (ts : Tasks) → Holding ts m n → Cells ts cell_count u.cells → Known ts (add same_node (nodes_in ts m n) (node_of ts u)) m m' (count_in q)
    known ts held fits =
        subst (λ (a : rust.Option Place). Known ts (add same_node (nodes_in ts m n) (node_of ts u)) m m' (count_in a)) e (known_kept ts u fits small m m' n held r kept')
