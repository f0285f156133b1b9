-- Laws of keep, flat_map and up_from, for any lists.
-- Assumes nothing.
use mathlib.Core.Path.{◌≡◌, refl, sym, ◌∙◌, ap, ap₂, subst}
use mathlib.Core.Logic.{◌↔◌, ⊎_elim}
use mathlib.Core.Bool.{Bool, true, false, ◌&&◌, false≢true, and_comm}
use mathlib.Core.List.Memᴰ
use mathlib.Core.List.{List, [], ◌∷◌, ◌++◌, map, map-append, append_assoc, append-nil, Memᴰ}
use mathlib.Core.Option.{Option, some}
use Prim.Native.Nat.{ℕ, zero, suc, ◌+◌, ◌-◌, ◌*◌, ◌<◌, ◌≤◌}
use native.Mathlib.Nat.{zero-add, add-zero, suc-add, add-suc, mul-zero, mul-suc, add-sub_of_le, le_of_suc-le-suc, not-suc-le-zero}
use native.Mathlib.Omega.{arith}
use lib.Dec.{ltb}
use lib.ListN.{length, get_or, take, replicate, length-append}
use borrow.Author.Tests.{lt-ltb, le-ltb, ltb-false}
use Rattle.model.specs.Lists.{cons_if, keep, flat_map, up_from, list_of}

module _ {ℓ} {A : Type ℓ} where
  cons_if-append : (b : Bool) (x : A) (l l' : List A) → cons_if b x (l ++ l') ≡ cons_if b x l ++ l'
  cons_if-append true x l l' = refl
  cons_if-append false x l l' = refl

  pub keep_append : (f : A → Bool) (l l' : List A) → keep f (l ++ l') ≡ keep f l ++ keep f l'
  keep_append f [] l' = refl
  keep_append f (x ∷ l) l' = ap (cons_if (f x) x) (keep_append f l l') ∙ cons_if-append (f x) x (keep f l) (keep f l')

  keep-cons_if : (f : A → Bool) (b : Bool) (x : A) (l : List A) → keep f (cons_if b x l) ≡ cons_if (b && f x) x (keep f l)
  keep-cons_if f true x l = refl
  keep-cons_if f false x l = refl

  pub keep-keep : (f g : A → Bool) (l : List A) → keep f (keep g l) ≡ keep (λ a. g a && f a) l
  keep-keep f g [] = refl
  keep-keep f g (x ∷ l) = keep-cons_if f (g x) x (keep g l) ∙ ap (cons_if (g x && f x) x) (keep-keep f g l)

  -- two tests that agree on the list keep the same
  pub keep_same : (f g : A → Bool) (l : List A) → ((a : A) → Memᴰ a l → f a ≡ g a) → keep f l ≡ keep g l
  keep_same f g [] h = refl
  keep_same f g (x ∷ l) h =
      ap₂ (λ b k. cons_if b x k) (h x (Memᴰ.head refl)) (keep_same f g l (λ a m. h a (Memᴰ.tail m)))

  pub keep_comm : (f g : A → Bool) (l : List A) → keep f (keep g l) ≡ keep g (keep f l)
  keep_comm f g l =
      keep-keep f g l ∙ keep_same (λ a. g a && f a) (λ a. f a && g a) l (λ a m. and_comm (g a) (f a)) ∙ sym (keep-keep g f l)

  pub keep_all : (f : A → Bool) (l : List A) → ((a : A) → Memᴰ a l → f a ≡ true) → keep f l ≡ l
  keep_all f [] h = refl
  keep_all f (x ∷ l) h =
      ap₂ (λ b k. cons_if b x k) (h x (Memᴰ.head refl)) (keep_all f l (λ a m. h a (Memᴰ.tail m)))

  pub keep-none : (f : A → Bool) (l : List A) → ((a : A) → Memᴰ a l → f a ≡ false) → keep f l ≡ []
  keep-none f [] h = refl
  keep-none f (x ∷ l) h =
      ap₂ (λ b k. cons_if b x k) (h x (Memᴰ.head refl)) (keep-none f l (λ a m. h a (Memᴰ.tail m)))

  length-cons_if-le : (b : Bool) (x : A) (l : List A) → length (cons_if b x l) ≤ suc (length l)
  length-cons_if-le true x l = omega arith
  length-cons_if-le false x l = omega arith

  pub length-keep-le : (f : A → Bool) (l : List A) → length (keep f l) ≤ length l
  length-keep-le f [] = omega arith
  length-keep-le f (x ∷ l) = omega (arith, length-cons_if-le (f x) x (keep f l), length-keep-le f l)

  -- what is kept is in the list and passes the test
  pub mem-of-keep : (f : A → Bool) (l : List A) {a : A} → Memᴰ a (keep f l) → Memᴰ a l × (f a ≡ true)
  mem-of-keep f [] m = absurd (Memᴰ.not-nil m)
  mem-of-keep f (x ∷ l) {a} m = go (λ m'. later (mem-of-keep f l m')) (f x) refl m
    where
      later : Memᴰ a l × (f a ≡ true) → Memᴰ a (x ∷ l) × (f a ≡ true)
      later h = (Memᴰ.tail h.0, h.1)

      go : (Memᴰ a (keep f l) → Memᴰ a (x ∷ l) × (f a ≡ true)) → (b : Bool) → f x ≡ b → Memᴰ a (cons_if b x (keep f l)) → Memᴰ a (x ∷ l) × (f a ≡ true)
      go rest true e m' = ⊎_elim (λ p. (Memᴰ.head p, ap f p ∙ e)) rest (Memᴰ.cases_cons m')
      go rest false e m' = rest m'

  mem-cons_if-head : (b : Bool) {a x : A} (l : List A) → a ≡ x → b ≡ true → Memᴰ a (cons_if b x l)
  mem-cons_if-head true l p e = Memᴰ.head p
  mem-cons_if-head false l p e = absurd (false≢true e)

  mem-cons_if-tail : (b : Bool) {a : A} (x : A) {l : List A} → Memᴰ a l → Memᴰ a (cons_if b x l)
  mem-cons_if-tail true x m = Memᴰ.tail m
  mem-cons_if-tail false x m = m

  pub mem-keep : (f : A → Bool) {a : A} {l : List A} → Memᴰ a l → f a ≡ true → Memᴰ a (keep f l)
  mem-keep f (Memᴰ.head {x = x} {xs = xs} p) e = mem-cons_if-head (f x) (keep f xs) p (ap f (sym p) ∙ e)
  mem-keep f (Memᴰ.tail {x = x} m) e = mem-cons_if-tail (f x) x (mem-keep f m e)

  -- membership and places
  pub mem-get_or : (l : List A) (i : ℕ) (d : A) → i < length l → Memᴰ (get_or l i d) l
  mem-get_or [] i d h = absurd (not-suc-le-zero h)
  mem-get_or (x ∷ l) zero d h = Memᴰ.head refl
  mem-get_or (x ∷ l) (suc i) d h = Memᴰ.tail (mem-get_or l i d (le_of_suc-le-suc h))

  pub place : {a : A} {l : List A} (d : A) → Memᴰ a l → (i : ℕ) × (i < length l) × (get_or l i d ≡ a)
  place d (Memᴰ.head p) = (zero, omega arith, sym p)
  place d (Memᴰ.tail m) = let r = place d m in (suc r.0, omega (arith, r.1), r.2)

  -- every entry of a list of defaults is the default
  pub get_d_default : (n k : ℕ) (d : A) → get_or (replicate n d) k d ≡ d
  get_d_default zero k d = refl
  get_d_default (suc n) zero d = refl
  get_d_default (suc n) (suc k) d = get_d_default n k d

module _ {ℓ κ} {A : Type ℓ} {B : A → Type κ} where
  -- what holds of every element, and of the default, holds at every place
  pub at_each : (l : List A) (d : A) → ((a : A) → Memᴰ a l → B a) → B d → (i : ℕ) → B (get_or l i d)
  at_each [] d h b i = b
  at_each (x ∷ l) d h b zero = h x (Memᴰ.head refl)
  at_each (x ∷ l) d h b (suc i) = at_each l d (λ a m. h a (Memᴰ.tail m)) b i

module _ {ℓ κ} {A : Type ℓ} {B : Type κ} where
  -- two functions that agree on the list
  pub map_same : (f g : A → B) (l : List A) → ((a : A) → Memᴰ a l → f a ≡ g a) → map f l ≡ map g l
  map_same f g [] h = refl
  map_same f g (x ∷ l) h = ap₂ (λ y k. y ∷ k) (h x (Memᴰ.head refl)) (map_same f g l (λ a m. h a (Memᴰ.tail m)))

  -- functions that agree on the list
  pub flat_map-same : (f g : A → List B) (l : List A) → ((a : A) → Memᴰ a l → f a ≡ g a) → flat_map f l ≡ flat_map g l
  flat_map-same f g [] h = refl
  flat_map-same f g (x ∷ l) h =
      ap₂ (λ a b. a ++ b) (h x (Memᴰ.head refl)) (flat_map-same f g l (λ a m. h a (Memᴰ.tail m)))

  pub flat_map-none : (f : A → List B) (l : List A) → ((a : A) → Memᴰ a l → f a ≡ []) → flat_map f l ≡ []
  flat_map-none f [] h = refl
  flat_map-none f (x ∷ l) h =
      ap₂ (λ a b. a ++ b) (h x (Memᴰ.head refl)) (flat_map-none f l (λ a m. h a (Memᴰ.tail m)))

  pub flat_map-append : (f : A → List B) (l l' : List A) → flat_map f (l ++ l') ≡ flat_map f l ++ flat_map f l'
  flat_map-append f [] l' = refl
  flat_map-append f (x ∷ l) l' = ap (λ k. f x ++ k) (flat_map-append f l l') ∙ sym (append_assoc (f x) (flat_map f l) (flat_map f l'))

  -- lists of one length
  pub flat_map-length : (f : A → List B) (size : ℕ) (l : List A) → ((a : A) → length (f a) ≡ size) → length (flat_map f l) ≡ size * length l
  flat_map-length f size [] h = sym (mul-zero size)
  flat_map-length f size (a ∷ l) h = rw (length-append, mul-suc) (omega (arith, h a, flat_map-length f size l h))

  -- what is in the list of an element
  pub mem-of-flat_map : (f : A → List B) (l : List A) {b : B} → Memᴰ b (flat_map f l) → (a : A) × Memᴰ a l × Memᴰ b (f a)
  mem-of-flat_map f [] m = absurd (Memᴰ.not-nil m)
  mem-of-flat_map f (x ∷ l) m =
      ⊎_elim (λ h. (x, Memᴰ.head refl, h)) (λ h. let r = mem-of-flat_map f l h in (r.0, Memᴰ.tail r.1, r.2))
      (Memᴰ.append_cases (f x) m)

  pub mem-flat_map : (f : A → List B) {a : A} {b : B} {l : List A} → Memᴰ a l → Memᴰ b (f a) → Memᴰ b (flat_map f l)
  mem-flat_map f {b = b} (Memᴰ.head {xs = xs} p) m =
      Memᴰ.append_left (flat_map f xs) (subst (λ y. Memᴰ b (f y)) p m)
  mem-flat_map f (Memᴰ.tail {x = x} m) m' = Memᴰ.append_right (f x) (mem-flat_map f m m')

pub length-up_from : (k n : ℕ) → length (up_from k n) ≡ n
length-up_from k zero = refl
length-up_from k (suc n) = ap suc (length-up_from (suc k) n)

pub get_or-up_from : (k n i d : ℕ) → i < n → get_or (up_from k n) i d ≡ k + i
get_or-up_from k zero i d h = absurd (not-suc-le-zero h)
get_or-up_from k (suc n) zero d h = omega arith
get_or-up_from k (suc n) (suc i) d h = omega (arith, get_or-up_from (suc k) n i d (le_of_suc-le-suc h))

-- a table of f: its entry at i is f i
get_or-map-up_from {ℓ} : {B : Type ℓ} (f : ℕ → B) (k n i : ℕ) (d : B) → i < n → get_or (map f (up_from k n)) i d ≡ f (k + i)
get_or-map-up_from f k zero i d h = absurd (not-suc-le-zero h)
get_or-map-up_from f k (suc n) zero d h = ap f (sym (add-zero k))
get_or-map-up_from f k (suc n) (suc i) d h =
    get_or-map-up_from f (suc k) n i d (le_of_suc-le-suc h) ∙ ap f (suc-add k i ∙ sym (add-suc k i))

pub get_or-table {ℓ} : {B : Type ℓ} (f : ℕ → B) (n i : ℕ) (d : B) → i < n → get_or (map f (up_from 0 n)) i d ≡ f i
get_or-table f n i d h = get_or-map-up_from f 0 n i d h ∙ ap f (zero-add i)

-- the numbers from k up, split at k + m
pub up_from-append : (k m n : ℕ) → up_from k (m + n) ≡ up_from k m ++ up_from (k + m) n
up_from-append k zero n = rw (zero-add, add-zero)
up_from-append k (suc m) n = rw (suc-add, add-suc) (ap (λ l. k ∷ l) (rw suc-add at (up_from-append (suc k) m n)))

-- a table of a function with one entry more
pub table-from {ℓ} : {B : Type ℓ} (f : ℕ → B) (i k : ℕ) → map f (up_from i (k + 1)) ≡ map f (up_from i k) ++ (f (i + k) ∷ [])
table-from f i k = ap (map f) (up_from-append i k 1) ∙ map-append f (up_from i k) (up_from (i + k) 1)

pub table_more {ℓ} : {B : Type ℓ} (f : ℕ → B) (n : ℕ) → map f (up_from 0 (n + 1)) ≡ map f (up_from 0 n) ++ (f n ∷ [])
table_more f n = table-from f 0 n ∙ ap (λ k. map f (up_from 0 n) ++ (f k ∷ [])) (zero-add n)

-- the lists of one number more
pub flat_map_snoc {ℓ} : {B : Type ℓ} (g : ℕ → List B) (n : ℕ) → flat_map g (up_from 0 (suc n)) ≡ flat_map g (up_from 0 n) ++ g n
flat_map_snoc {B = B} g n =
    ap (λ (k : ℕ). flat_map g (up_from 0 k)) one_more ∙ ap (flat_map g) (up_from-append 0 n 1) ∙ flat_map-append g (up_from 0 n) (up_from (0 + n) 1)
    ∙ ap (λ (l : List B). flat_map g (up_from 0 n) ++ l) (append-nil (g (0 + n)) ∙ ap g (zero-add n))
  where
    one_more : suc n ≡ n + 1
    one_more = omega arith

pub mem-of-up_from : (k n : ℕ) {a : ℕ} → Memᴰ a (up_from k n) → (k ≤ a) × (a < k + n)
mem-of-up_from k zero m = absurd (Memᴰ.not-nil m)
mem-of-up_from k (suc n) m =
    ⊎_elim (λ p. omega arith) (λ m'. omega (arith, mem-of-up_from (suc k) n m')) (Memᴰ.cases_cons m)

pub mem-up_from : (k n : ℕ) {a : ℕ} → k ≤ a → a < k + n → Memᴰ a (up_from k n)
mem-up_from k n {a} h h' =
    Memᴰ.cast {b = get_or (up_from k n) (a - k) 0} (omega (arith, get_or-up_from k n (a - k) 0 (omega arith)))
    (mem-get_or (up_from k n) (a - k) 0 (omega (arith, length-up_from k n)))

-- what is given for one of the numbers below n
pub mem-given {ℓ} : {B : Type ℓ} (f : ℕ → Option B) (n k : ℕ) {b : B} → k < n → f k ≡ some b → Memᴰ b (flat_map (λ j. list_of (f j)) (up_from 0 n))
mem-given f n k {b} h e =
    mem-flat_map (λ j. list_of (f j)) (mem-up_from 0 n (omega arith) (omega (arith, h))) (subst (λ o. Memᴰ b (list_of o)) (sym e) (Memᴰ.head refl))

-- of the numbers 0 to n − 1, those below b are 0 to b − 1
pub keep-below-up_from : (b n : ℕ) → b ≤ n → keep (λ m. ltb m b) (up_from 0 n) ≡ up_from 0 b
keep-below-up_from b n h =
    ap (λ k. keep below (up_from 0 k)) (sym (add-sub_of_le h)) ∙ ap (keep below) (up_from-append 0 b (n - b))
    ∙ keep_append below (up_from 0 b) (up_from (0 + b) (n - b))
    ∙ ap₂ (λ k l. k ++ l)
    (keep_all below (up_from 0 b) (λ a m. lt-ltb a b (omega (arith, mem-of-up_from 0 b m))))
    (keep-none below (up_from (0 + b) (n - b)) (λ a m. le-ltb a b (omega (arith, mem-of-up_from (0 + b) (n - b) m))))
    ∙ append-nil (up_from 0 b)
  where
    below : ℕ → Bool
    below m = ltb m b

-- the same, where 0 fails the test f
pub keep-below-from-one : (f : ℕ → Bool) (b n : ℕ) → suc b ≤ n → f 0 ≡ false
    → keep f (up_from 1 b) ≡ keep (λ m. ltb m (suc b)) (keep f (up_from 0 n))
keep-below-from-one f b n h e =
    sym
    (keep_comm (λ m. ltb m (suc b)) f (up_from 0 n) ∙ ap (keep f) (keep-below-up_from (suc b) n h)
    ∙ ap (λ t. cons_if t 0 (keep f (up_from 1 b))) e)

-- strictly rising numbers, from k on
abbrev pub Rising : ℕ → List ℕ → Type 0
Rising k [] = Unit {0}
Rising k (x ∷ l) = (k ≤ x) × Rising (suc x) l

pub rising-from : {j k : ℕ} (l : List ℕ) → j ≤ k → Rising k l → Rising j l
rising-from [] h r = tt
rising-from (x ∷ l) h r = (omega arith, r.1)

pub rising-up_from : (k n : ℕ) → Rising k (up_from k n)
rising-up_from k zero = tt
rising-up_from k (suc n) = (omega arith, rising-up_from (suc k) n)

pub rising-keep : (f : ℕ → Bool) (k : ℕ) (l : List ℕ) → Rising k l → Rising k (keep f l)
rising-keep f k [] r = tt
rising-keep f k (x ∷ l) r = go (f x) (rising-keep f (suc x) l r.1)
  where
    go : (b : Bool) → Rising (suc x) (keep f l) → Rising k (cons_if b x (keep f l))
    go true s = (r.0, s)
    go false s = rising-from (keep f l) (omega arith) s

rising-above : (k : ℕ) (l : List ℕ) → Rising k l → (i : ℕ) → i < length l → k ≤ get_or l i 0
rising-above k [] r i h = absurd (not-suc-le-zero h)
rising-above k (x ∷ l) r zero h = r.0
rising-above k (x ∷ l) r (suc i) h = omega (arith, rising-above (suc x) l r.1 i (le_of_suc-le-suc h))

pub rising-at : (k : ℕ) (l : List ℕ) → Rising k l → (i j : ℕ) → i < j → j < length l → get_or l i 0 < get_or l j 0
rising-at k [] r i j h h' = absurd (not-suc-le-zero h')
rising-at k (x ∷ l) r i zero h h' = absurd (not-suc-le-zero h)
rising-at k (x ∷ l) r zero (suc j) h h' = rising-above (suc x) l r.1 j (le_of_suc-le-suc h')
rising-at k (x ∷ l) r (suc i) (suc j) h h' = rising-at (suc x) l r.1 i j (le_of_suc-le-suc h) (le_of_suc-le-suc h')

-- of numbers from k on, none is below b ≤ k
rising_none : (b k : ℕ) (l : List ℕ) → b ≤ k → Rising k l → keep (λ m. ltb m b) l ≡ []
rising_none b k [] h r = refl
rising_none b k (x ∷ l) h r = rw (le-ltb x b (omega arith)) (rising_none b (suc x) l (omega arith) r.1)

-- of strictly rising numbers, those below b come first
pub rising_prefix : (b k : ℕ) (l : List ℕ) → Rising k l → take (length (keep (λ m. ltb m b) l)) l ≡ keep (λ m. ltb m b) l
rising_prefix b k [] r = refl
rising_prefix b k (x ∷ l) r = go (ltb x b) refl (rising_prefix b (suc x) l r.1)
  where
    go : (t : Bool) → ltb x b ≡ t → take (length (keep (λ m. ltb m b) l)) l ≡ keep (λ m. ltb m b) l
        → take (length (cons_if t x (keep (λ m. ltb m b) l))) (x ∷ l) ≡ cons_if t x (keep (λ m. ltb m b) l)
    go true e h = ap (λ k. x ∷ k) h
    go false e h = rw (rising_none b (suc x) l (omega (arith, ltb-false x b e)) r.1)

-- none of numbers from k on is below k
rising-mem : (k : ℕ) (l : List ℕ) → Rising k l → {a : ℕ} → Memᴰ a l → k ≤ a
rising-mem k l r m = let p = place 0 m in subst (λ (x : ℕ). k ≤ x) p.2 (rising-above k l r p.0 p.1)

-- strictly rising numbers with the same members are the same
pub rising-same : (j k : ℕ) (l l' : List ℕ) → Rising j l → Rising k l' → ((a : ℕ) → Memᴰ a l ↔ Memᴰ a l') → l ≡ l'
rising-same j k [] [] r r' h = refl
rising-same j k [] (y ∷ l') r r' h = absurd (Memᴰ.not-nil ((h y).1 (Memᴰ.head refl)))
rising-same j k (x ∷ l) [] r r' h = absurd (Memᴰ.not-nil ((h x).0 (Memᴰ.head refl)))
rising-same j k (x ∷ l) (y ∷ l') r r' h =
    ap₂ (λ z zs. z ∷ zs) first
    (rising-same (suc x) (suc y) l l' r.1 r'.1
    (λ a. (λ m. later l l' r.1 first m ((h a).0 (Memᴰ.tail m)), λ m. later l' l r'.1 (sym first) m ((h a).1 (Memᴰ.tail m)))))
  where
    first : x ≡ y
    first =
        omega (
          arith,
          rising-mem x (x ∷ l) (omega arith, r.1) ((h y).1 (Memᴰ.head refl)),
          rising-mem y (y ∷ l') (omega arith, r'.1) ((h x).0 (Memᴰ.head refl)),
        )

    later : {u v a : ℕ} (us vs : List ℕ) → Rising (suc u) us → u ≡ v → Memᴰ a us → Memᴰ a (v ∷ vs) → Memᴰ a vs
    later {u} us vs s e m m' =
        ⊎_elim (λ p. absurd (omega (arith, rising-mem (suc u) us s m))) (λ among. among) (Memᴰ.cases_cons m')

-- a table of numbers, each below the next
pub rising-table : (f : ℕ → ℕ) → ((k : ℕ) → f k < f (suc k)) → (k n : ℕ) → Rising (f k) (map f (up_from k n))
rising-table f h k zero = tt
rising-table f h k (suc n) = (omega arith, rising-from (map f (up_from (suc k) n)) (h k) (rising-table f h (suc k) n))
