-- A change of links and steps leaves the store, and a change of links alone the steps. Assumes nothing.
use mathlib.Core.Path.{◌≡◌, sym, ap, subst, ◌∙◌}
use mathlib.Core.Logic.{inl, inr}
use mathlib.Core.List.{List, map}
use Prim.Native.Nat.{ℕ, ◌+◌, ◌*◌, ◌<◌, ◌≤◌}
use native.Mathlib.Omega.{arith}
use Rattle.model.specs.Bytes.{number, Only}
use Rattle.model.specs.Lists.{up_from}
use Rattle.model.specs.Plan.{Plan}
use Rattle.model.proofs.Lists.{map_same}
use Rattle.policy.specs.View.{Tasks, cell_count, Cells}
use Rattle.policy.specs.declared.Rules.{Rules}
use Rattle.node.specs.declared.Node.{Node}
use Rattle.store.specs.Store.{row_bytes, max_rows, hashes, buckets_at, chain_at, row_at, rows_in, hash_of, hash_at, last_of, entry_at, Distinct, Indexed}
use Rattle.store.proofs.Index.{last-same}
use Rattle.store.proofs.Rows.{rows_same}
use Rattle.discovery.specs.Discovery.{row_of, node_in, view_of, nodes_in, Holding, Holds}
use Rattle.potentials.specs.declared.Claim.{Claim}
use Rattle.potentials.specs.Potentials.{Numbered}
use Rattle.links.specs.Links.{links_at, links_size, steps_size, step_place, taken_in, taken_of, first_steps}
use Rattle.words.proofs.Free.{only_part, only_wider}
use Rattle.distances.specs.Distances.{Priced}

-- links are among links and steps
pub only_both : {m m' : List ℕ} → Only links_at links_size m m' → Only links_at (links_size + steps_size) m m'
only_both o = only_wider o links_at (links_size + steps_size) (omega arith) (omega arith)

-- the steps beside a change of links
module _ {m m' : List ℕ} (o : Only links_at links_size m m') where
  pub step_kept : (i : ℕ) → taken_in m' i ≡ taken_in m i
  step_kept i = λ j. record {
    node = number (only_part o (step_place i) 2 (inr (omega arith)) j);
    label = o.others (step_place i + 2) (inr (omega arith)) j;
  }

  pub steps-kept : (k : ℕ) → first_steps m' k ≡ first_steps m k
  steps-kept k = map_same (λ i. taken_of (taken_in m' i)) (λ i. taken_of (taken_in m i)) (up_from 0 k) (λ i e. ap taken_of (step_kept i))

-- a change behind the store
module _ {k : ℕ} {m m' : List ℕ} (o : Only links_at k m m') where
  pub row_kept : (j : ℕ) → j < max_rows → row_at m' j ≡ row_at m j
  row_kept j h = only_part o (row_bytes * j) row_bytes (inl (omega arith))

  pub rows-kept : (n : ℕ) → n ≤ max_rows → rows_in m' n ≡ rows_in m n
  rows-kept n few = rows_same m' m n (λ j h. row_kept j (omega arith))

  bucket-kept : (h : ℕ) → h < hashes → entry_at m' buckets_at h ≡ entry_at m buckets_at h
  bucket-kept h below = ap number (only_part o (buckets_at + 2 * h) 2 (inl (omega arith)))

  chain-kept : (j : ℕ) → j < max_rows → entry_at m' chain_at j ≡ entry_at m chain_at j
  chain-kept j below = ap number (only_part o (chain_at + 2 * j) 2 (inl (omega arith)))

  last-kept : (h n : ℕ) → n ≤ max_rows → last_of (hash_at m) h n ≡ last_of (hash_at m') h n
  last-kept h n few = last-same (hash_at m) (hash_at m') h n (λ j below. ap hash_of (sym (row_kept j (omega arith))))

  pub index_kept : {n : ℕ} → Indexed m n → Indexed m' n
  index_kept {n} index = record {
    few = index.few;
    room = omega (arith, o.long, index.room);
    bucket = λ h below. bucket-kept h below ∙ index.bucket h below ∙ last-kept h n index.few;
    chain = λ j below.
        chain-kept j (omega (arith, index.few)) ∙ index.chain j below ∙ last-kept (hash_at m j) j (omega (arith, index.few))
        ∙ ap (λ (r : List ℕ). last_of (hash_at m') (hash_of r) j) (sym (row_kept j (omega (arith, index.few))));
  }

  pub distinct-kept : {n : ℕ} → n ≤ max_rows → Distinct (rows_in m n) → Distinct (rows_in m' n)
  distinct-kept {n} few = subst Distinct (sym (rows-kept n few))

  holding_kept : {ts : Tasks} {n : ℕ} → Holding ts m n → Holding ts m' n
  holding_kept {ts} h = record {
    index = index_kept h.index;
    distinct = distinct-kept h.index.few h.distinct;
    cells = λ j below.
        subst (λ (r : List ℕ). Cells ts cell_count (node_in r).cells) (sym (row_kept j (omega (arith, h.index.few)))) (h.cells j below);
    rows = λ j below. subst (λ (r : List ℕ). row_of (node_in r) ≡ r) (sym (row_kept j (omega (arith, h.index.few)))) (h.rows j below);
  }

  pub holds_kept : {P : Plan} {ts : Tasks} {n : ℕ} → Holds P ts m n → Holds P ts m' n
  unfolding nodes_in
  holds_kept {ts = ts} {n} h = record {
    rows = holding_kept h.rows;
    nodes = ap (map (view_of ts)) (rows-kept n h.rows.index.few) ∙ h.nodes;
  }

  pub priced-kept : {P : Plan} {r : Rules} {next : List ℕ} {claim : Claim} → Priced P r next m claim → Priced P r next m' claim
  priced-kept p = record {
    planned = p.planned;
    holds = holds_kept p.holds;
    fraction = p.fraction;
    room = omega (arith, o.long, p.room);
  }

  pub numbered-kept : {n u : ℕ} {v : Node} → n ≤ max_rows → Numbered m n u v → Numbered m' n u v
  numbered-kept {u = u} few t = record { below = t.below; row = t.row ∙ ap node_in (sym (row_kept u (omega (arith, t.below)))) }
