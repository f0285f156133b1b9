-- A search for distances from number 0, over any links between numbers: its state, the tree of parents, and how far it has come.
use Rattle.std.specs.Prelude.{◌≡◌, Bool, true, false, cond, ◌⊎◌, List, [], ◌∷◌, ◌++◌, map, ℕ, zero, suc, ◌+◌, ◌*◌, ◌<◌, ◌≤◌, eqb, ℤ, pos, nat_abs, ◌+ℤ◌, ◌≤ℤ◌}
use Rattle.std.proofs.Math.Option.{Option, none, some}
use Rattle.model.specs.Lists.{sum, one, up_from}
use Rattle.model.specs.Passes.{Distances}

-- ---- the way up by parents

-- the number reached from v by k steps to the parent
abbrev pub above : (ℕ → ℕ) → ℕ → ℕ → ℕ
above parent zero v = v
above parent (suc k) v = above parent k (parent v)

-- the first k numbers on the way up from v are not x
abbrev pub Before : (ℕ → ℕ) → ℕ → ℕ → ℕ → Type 0
Before parent x k v = (i : ℕ) → i < k → above parent i v ≡ x → ⊥

module _ {ℓ} {A : Type ℓ} where
  -- the function with another value at v
  abbrev pub changed : (ℕ → A) → ℕ → A → ℕ → A
  changed f v a x = cond (eqb x v) a (f x)

-- every known number but 0 has a known parent, and the way up leads to 0
pub record Upward (n : ℕ) (known : ℕ → Bool) (parent : ℕ → ℕ) : Type 0 where
  pub root : known 0 ≡ true
  pub up : (v : ℕ) → v < n → known v ≡ true → (v ≡ 0 → ⊥) → (parent v < n) × (known (parent v) ≡ true)
  pub rooted : (v : ℕ) → v < n → known v ≡ true → (k : ℕ) × (above parent k v ≡ 0)

-- ---- steps and states

-- a step that is taken: the label that is followed from a number
pub record Taken : Type 0 where
  pub node : ℕ
  pub label : ℕ

-- the steps down to v from the number j steps above it
abbrev pub trail : (ℕ → ℕ) → (ℕ → ℕ) → ℕ → ℕ → List Taken
trail parent label zero v = []
trail parent label (suc j) v = trail parent label j (parent v) ++ (record { node = parent v; label = label v } ∷ [])

-- which numbers are known and which wait for their links to be tried, the distances, and the parents with the labels that lead from them
pub record State : Type 0 where
  pub known : ℕ → Bool
  pub waiting : ℕ → Bool
  pub dist : ℕ → ℤ
  pub parent : ℕ → ℕ
  pub label : ℕ → ℕ

-- the distance of a number, if it is known, and those of the first n
abbrev pub distance_of : State → ℕ → Option ℤ
distance_of s x = cond (s.known x) (some (s.dist x)) none

abbrev pub distances_of : ℕ → State → Distances
distances_of n s = map (distance_of s) (up_from 0 n)

-- the distances of the first n where all are known
abbrev pub distances : ℕ → State → List ℤ
distances n s = map s.dist (up_from 0 n)

-- the number x stands where it did
abbrev pub Stays : State → State → ℕ → Type 0
Stays s s' x = (s'.known x ≡ s.known x) × (s'.dist x ≡ s.dist x)

-- no known number below n waits
abbrev pub Quiet : ℕ → State → Type 0
Quiet n s = (x : ℕ) → x < n → s.known x ≡ true → s.waiting x ≡ false

-- what is known in s is known in s', at no greater distance
pub record Later (n : ℕ) (s s' : State) : Type 0 where
  pub known : (x : ℕ) → x < n → s.known x ≡ true → s'.known x ≡ true
  pub dist : (x : ℕ) → x < n → s.known x ≡ true → s'.dist x ≤ℤ s.dist x

-- ---- the measure

-- what a number adds to the measure: how far its distance is above −b, and more than any while it is unknown
abbrev pub share : ℕ → Bool → ℤ → ℕ
share b k z = cond k (nat_abs (z +ℤ pos b)) (2 * b + 1)

-- the measure of a search with distances from −b to b
abbrev pub left : ℕ → ℕ → (ℕ → Bool) → (ℕ → ℤ) → ℕ
left b n known dist = sum (λ v. share b (known v) (dist v)) n

-- the measure of a search with weights from −c to c
abbrev pub remaining : ℕ → ℕ → State → ℕ
remaining n c s = left (n * c) n s.known s.dist

-- how many of the first n numbers are known
abbrev pub count : ℕ → (ℕ → Bool) → ℕ
count n known = sum (λ x. one (known x)) n

-- no known number's distance is above c for each number known
abbrev pub High : ℕ → ℕ → (ℕ → Bool) → (ℕ → ℤ) → Type 0
High n c known dist = (v : ℕ) → v < n → known v ≡ true → dist v ≤ℤ pos (count n known * c)

-- ---- links

-- `Link u l v w`: the label l leads from u to v at the weight w
module _ (Link : ℕ → ℕ → ℕ → ℤ → Type 0) where
  -- links from one number to another, the steps taken, and the sum of the weights
  pub data Path : ℕ → ℕ → List Taken → ℤ → Type 0 where
    here : {u : ℕ} → Path u u [] (pos 0)
    go : {u l x v : ℕ} {ss : List Taken} {w z : ℤ} → Link u l x w → Path x v ss z → Path u v (record { node = u; label = l } ∷ ss) (w +ℤ z)

  -- every known number but 0 has a parent, by a link that its distance allows
  pub record Tree (n : ℕ) (known : ℕ → Bool) (dist : ℕ → ℤ) (parent label : ℕ → ℕ) : Type 0 where
    pub upward : Upward n known parent
    pub zero-at : dist 0 ≡ pos 0
    pub link : (v : ℕ) → v < n → known v ≡ true → (v ≡ 0 → ⊥) →
        (w : ℤ) × Link (parent v) (label v) v w × ((dist (parent v) +ℤ w) ≤ℤ dist v)

  -- every link between numbers below n has a weight from −c to c
  abbrev pub Within : ℕ → ℕ → Type 0
  Within n c = (u l v : ℕ) (w : ℤ) → u < n → v < n → Link u l v w → (w ≤ℤ pos c) × (pos 0 ≤ℤ (w +ℤ pos c))

  -- the links of u lead to known numbers, and to none at a smaller distance
  abbrev pub Done : ℕ → State → ℕ → Type 0
  Done n s u = (l v : ℕ) (w : ℤ) → v < n → Link u l v w → (s.known v ≡ true) × (s.dist v ≤ℤ (s.dist u +ℤ w))

  -- what holds between the turns of a search: the links of a known number that does not wait are done
  pub record Search (n c : ℕ) (s : State) : Type 0 where
    pub tree : Tree n s.known s.dist s.parent s.label
    pub high : High n c s.known s.dist
    pub done : (u : ℕ) → u < n → s.known u ≡ true → s.waiting u ≡ false → Done n s u

  -- from s to s' less remains where something has moved, and else no distance has, and none waits that did not wait before
  pub record Progress (n c : ℕ) (s s' : State) (moved : Bool) : Type 0 where
    pub search : Search n c s'
    pub later : Later n s s'
    pub most : remaining n c s' ≤ remaining n c s
    pub less : moved ≡ true → remaining n c s' < remaining n c s
    pub still : moved ≡ false → (x : ℕ) → x < n → Stays s s' x
    pub fresh : moved ≡ false → (x : ℕ) → x < n → s'.waiting x ≡ true → s.waiting x ≡ true

  -- a link of u leads x where it stands in s', from where u stood in s
  abbrev pub LedFrom : State → State → ℕ → ℕ → Type 0
  LedFrom s s' u x = (l : ℕ) × (w : ℤ) × Link u l x w × (s'.known x ≡ true) × (s'.dist x ≡ s.dist u +ℤ w)

  -- what trying links of u does: u stands where it did, and every number below n too, or where a link of u leads it
  pub record Spread (n : ℕ) (s s' : State) (u : ℕ) : Type 0 where
    pub source : s'.dist u ≡ s.dist u
    pub origin : (x : ℕ) → x < n → Stays s s' x ⊎ LedFrom s s' u x
