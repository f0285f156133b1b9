-- Lists and bits, as the other files use them.
use Rattle.std.specs.Prelude.{ℕ, zero, suc, ◌+◌, ◌/◌, ◌%◌, ◌^◌, Bool, true, false, ◌&&◌, ◌||◌, List, [], ◌∷◌, ◌++◌, eqb}
use Rattle.std.proofs.Math.Option.{Option, none, some}

module _ {ℓ} {A : Type ℓ} where
  abbrev pub cons_if : Bool → A → List A → List A
  cons_if true x xs = x ∷ xs
  cons_if false x xs = xs

  -- the elements that pass the test, in their order
  abbrev pub keep : (A → Bool) → List A → List A
  keep f [] = []
  keep f (x ∷ xs) = cons_if (f x) x (keep f xs)

  -- every element passes the test
  abbrev pub all : (A → Bool) → List A → Bool
  all f [] = true
  all f (x ∷ xs) = f x && all f xs

  -- some element passes the test
  abbrev pub any : (A → Bool) → List A → Bool
  any f [] = false
  any f (x ∷ xs) = f x || any f xs

  -- the sum of a number for each element
  abbrev pub sum_of : (A → ℕ) → List A → ℕ
  sum_of f [] = 0
  sum_of f (x ∷ xs) = f x + sum_of f xs

  -- what is there, if anything
  abbrev pub list_of : Option A → List A
  list_of none = []
  list_of (some x) = x ∷ []

  -- the same elements in the same order, by a test of two
  abbrev pub same_by : (A → A → Bool) → List A → List A → Bool
  same_by same [] [] = true
  same_by same [] (y ∷ ys) = false
  same_by same (x ∷ xs) [] = false
  same_by same (x ∷ xs) (y ∷ ys) = same x y && same_by same xs ys

module _ {ℓ κ} {A : Type ℓ} {B : Type κ} where
  -- the lists of the elements, one after another
  abbrev pub flat_map : (A → List B) → List A → List B
  flat_map f [] = []
  flat_map f (x ∷ xs) = f x ++ flat_map f xs

-- the n numbers from k up
abbrev pub up_from : ℕ → ℕ → List ℕ
up_from k zero = []
up_from k (suc n) = k ∷ up_from (suc k) n

-- the sum of f 0 to f (n − 1)
abbrev pub sum : (ℕ → ℕ) → ℕ → ℕ
sum f zero = 0
sum f (suc n) = sum f n + f n

abbrev pub same_numbers : List ℕ → List ℕ → Bool
same_numbers = same_by eqb

-- 1 for true
abbrev pub one : Bool → ℕ
one true = 1
one false = 0

-- bit k of n
abbrev pub bit : ℕ → ℕ → Bool
bit n k = eqb (n / 2 ^ k % 2) 1

-- how many of the lowest n bits of m are ones
abbrev pub ones : ℕ → ℕ → ℕ
ones zero m = 0
ones (suc n) m = m % 2 + ones n (m / 2)
