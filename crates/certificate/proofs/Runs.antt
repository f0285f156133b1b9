-- Runs of items that stand one after another: potentials and steps.
-- Assumes nothing.
use mathlib.Core.Path.{◌≡◌, refl, sym, ap, ◌∙◌}
use mathlib.Core.Bool.{Bool, true, false, cond, ◌&&◌}
use mathlib.Core.List.{List, [], ◌∷◌, ◌++◌, map, append_assoc, append-nil}
use mathlib.Core.Option.{Option, none, some}
use Prim.Native.Nat.{ℕ, zero, suc, ◌+◌, ◌-◌, ◌*◌, ◌≤◌, ◌<◌}
use native.Mathlib.Nat.{mul-suc}
use native.Mathlib.Numerals.{add-one}
use native.Mathlib.Omega.{arith}
use borrow.Author.Tests.{leb-true, le-leb, lt-leb}
use lib.Dec.{leb, eqb}
use lib.ListN.{length, get_or, take, drop, length-map, length-drop}
use lib.Seq.{drop-drop, get_or-drop}
use Rattle.model.specs.Lists.{up_from}
use Rattle.model.specs.Bytes.{number, signed, part}
use Rattle.model.specs.Edition.{Edition}
use Rattle.model.specs.Certificate.{Step, Parsed, cons_parsed, has, read_potentials, step_width, masks_at, read_steps}
use Rattle.model.proofs.Lists.{length-up_from, get_or-table, table_more}
use Rattle.model.proofs.Plan.{both}
use Rattle.certificate.specs.View.{potential_command, step_command, potential_width, potential_size, potential_in, step_in, items}

module _ {A : Type 0} (item : ℕ → A) (from size : ℕ) where
  pub items-length : (n : ℕ) → length (items item from size n) ≡ n
  unfolding items
  items-length n = length-map (up_from 0 n) (λ i. item (from + size * i)) ∙ length-up_from 0 n

  -- the item at a place
  pub items_at : (n i : ℕ) (d : A) → i < n → get_or (items item from size n) i d ≡ item (from + size * i)
  unfolding items
  items_at n i d h = get_or-table (λ j. item (from + size * j)) n i d h

  -- one item more
  pub items_more : (n : ℕ) → items item from size (suc n) ≡ items item from size n ++ (item (from + size * n) ∷ [])
  unfolding items
  items_more n =
      ap (λ (k : ℕ). map (λ i. item (from + size * i)) (up_from 0 k)) (sym (add-one n))
      ∙ table_more (λ i. item (from + size * i)) n

module _ {A : Type 0} where
  -- items, and then a reading
  abbrev prefixed : List A → Option (Parsed (List A)) → Option (Parsed (List A))
  prefixed xs none = none
  prefixed xs (some r) = some (record { value = xs ++ r.value; rest = r.rest })

  prefixed-nil : (o : Option (Parsed (List A))) → prefixed [] o ≡ o
  prefixed-nil none = refl
  prefixed-nil (some r) = refl

  prefixed-cons : (xs : List A) (a : A) (o : Option (Parsed (List A))) → prefixed xs (cons_parsed a o) ≡ prefixed (xs ++ (a ∷ [])) o
  prefixed-cons xs a none = refl
  prefixed-cons xs a (some r) = ap (λ l. some (record { value = l; rest = r.rest })) (sym (append_assoc xs (a ∷ []) r.value))

-- before the item i, at a place: the reading of up to n items is the items so far, and then what is read from there
pub record Reached {A : Type 0} (read : ℕ → List ℕ → Option (Parsed (List A))) (item : ℕ → A) (bs : List ℕ) (from size n i at : ℕ) : Type 0 where
  pub most : i ≤ n
  pub place : at ≡ from + size * i
  pub inside : at ≤ length bs
  pub rest : read n (drop from bs) ≡ prefixed (items item from size i) (read (n - i) (drop at bs))

module _ {A : Type 0} (read : ℕ → List ℕ → Option (Parsed (List A))) (item : ℕ → A) (bs : List ℕ) (from size n : ℕ) where
  pub reached-start : from ≤ length bs → Reached read item bs from size n 0 from
  unfolding items
  reached-start h = record {
    most = omega arith;
    place = omega arith;
    inside = h;
    rest = sym (prefixed-nil (read (n - 0) (drop from bs)) ∙ ap (λ (k : ℕ). read k (drop from bs)) (omega arith));
  }

  module _ (i at : ℕ) (h : Reached read item bs from size n i at) where
    -- one item is read
    pub reached-next : i < n → at + size ≤ length bs →
        ((m : ℕ) → read (suc m) (drop at bs) ≡ cons_parsed (item at) (read m (drop (at + size) bs))) →
        Reached read item bs from size n (i + 1) (at + size)
    reached-next more fits turn = record {
      most = omega arith;
      place = rw (add-one, mul-suc) (omega (arith, h.place));
      inside = fits;
      rest =
          h.rest
          ∙ ap (λ (k : ℕ). prefixed (items item from size i) (read k (drop at bs))) (omega arith)
          ∙ ap (prefixed (items item from size i)) (turn (n - (i + 1)))
          ∙ prefixed-cons (items item from size i) (item at) (read (n - (i + 1)) (drop (at + size) bs))
          ∙ ap (λ l. prefixed l (read (n - (i + 1)) (drop (at + size) bs)))
          (ap (λ (k : ℕ). items item from size i ++ (item k ∷ [])) h.place ∙ sym (items_more item from size i) ∙ ap (items item from size) (sym (add-one i)));
    }

    -- no item follows
    pub reached-end : read (n - i) (drop at bs) ≡ some (record { value = []; rest = drop at bs }) →
        some (record { value = items item from size i; rest = drop at bs }) ≡ read n (drop from bs)
    reached-end e =
        sym (h.rest ∙ ap (prefixed (items item from size i)) e ∙ ap (λ l. some (record { value = l; rest = drop at bs })) (append-nil (items item from size i)))

    -- no item is left to read
    pub reached-all : n ≤ i → read 0 (drop at bs) ≡ some (record { value = []; rest = drop at bs }) →
        some (record { value = items item from size i; rest = drop at bs }) ≡ read n (drop from bs)
    reached-all full e = reached-end (ap (λ (k : ℕ). read k (drop at bs)) (omega arith) ∙ e)

    -- the next item is at fault
    pub reached-fault : i < n → ((m : ℕ) → read (suc m) (drop at bs) ≡ none) → none ≡ read n (drop from bs)
    reached-fault more e =
        sym (h.rest ∙ ap (prefixed (items item from size i)) (ap (λ (k : ℕ). read k (drop at bs)) (omega arith) ∙ e (n - (i + 1))))

-- ---- a command and its bytes

-- so many bytes from a place on
pub has_room : (bs : List ℕ) (at c n : ℕ) → at ≤ length bs → has (drop at bs) c n ≡ true → at + n ≤ length bs
has_room bs at c n h e = omega (arith, leb-true n (length (drop at bs)) (both (eqb (get_or (drop at bs) 0 0) c) (leb n (length (drop at bs))) e).1, length-drop at bs)

-- a command is told by its first byte: none is 0, which stands for a missing byte
pub has_one : (c : ℕ) → eqb 0 c ≡ false → (l : List ℕ) → has l c 1 ≡ eqb (get_or l 0 0) c
has_one c e [] = ap (λ b. b && leb 1 0) e ∙ sym e
has_one c e (x ∷ l) = by (eqb x c)
  where
    by : (b : Bool) → (b && leb 1 (length (x ∷ l))) ≡ b
    by true = le-leb 1 (length (x ∷ l)) (omega arith)
    by false = refl

-- ---- the potentials

module _ (bs : List ℕ) (at : ℕ) where
  pub potential-next : has (drop at bs) potential_command potential_size ≡ true → (m : ℕ) →
      read_potentials (suc m) (drop at bs) ≡ cons_parsed (potential_in bs at) (read_potentials m (drop (at + potential_size) bs))
  unfolding read_potentials
  potential-next e m =
      λ i. cond (e i) (cons_parsed (signed (number (take potential_width (drop-drop 1 at bs i)))) (read_potentials m (drop-drop potential_size at bs i))) none

  pub potential-fault : has (drop at bs) potential_command potential_size ≡ false → (m : ℕ) → read_potentials (suc m) (drop at bs) ≡ none
  unfolding read_potentials
  potential-fault e m =
      λ i. cond (e i) (cons_parsed (signed (number (part (drop at bs) 1 potential_width))) (read_potentials m (drop potential_size (drop at bs)))) none

-- ---- the steps

module _ (e : Edition) (bs : List ℕ) (at : ℕ) where
  -- what is read after the command
  abbrev more : ℕ → Option (Parsed (List Step))
  more m = cons_parsed (record { label = get_or (drop at bs) 1 0; masks = masks_at e (drop at bs) }) (read_steps e m (drop (step_width e) (drop at bs)))

  pub step-next : has (drop at bs) step_command 1 ≡ true → step_width e ≤ length bs - at → (m : ℕ) →
      read_steps e (suc m) (drop at bs) ≡ cons_parsed (step_in e bs at) (read_steps e m (drop (at + step_width e) bs))
  unfolding read_steps
  step-next is h m =
      let here : eqb (get_or (drop at bs) 0 0) step_command ≡ true = sym (has_one step_command refl (drop at bs)) ∙ is in
      let room : leb (step_width e) (length (drop at bs)) ≡ true = le-leb (step_width e) (length (drop at bs)) (rw length-drop h) in
      (λ i. cond (here i) (cond (room i) (more m) none) (some (record { value = []; rest = drop at bs })))
      ∙ (λ i. cons_parsed (record { label = get_or-drop at bs 1 0 i; masks = masks_at e (drop at bs) }) (read_steps e m (drop-drop (step_width e) at bs i)))

  pub step-fault : has (drop at bs) step_command 1 ≡ true → length bs - at < step_width e → (m : ℕ) → read_steps e (suc m) (drop at bs) ≡ none
  unfolding read_steps
  step-fault is h m =
      let here : eqb (get_or (drop at bs) 0 0) step_command ≡ true = sym (has_one step_command refl (drop at bs)) ∙ is in
      let room : leb (step_width e) (length (drop at bs)) ≡ false = lt-leb (step_width e) (length (drop at bs)) (rw length-drop h) in
      λ i. cond (here i) (cond (room i) (more m) none) (some (record { value = []; rest = drop at bs }))

  pub step-none : has (drop at bs) step_command 1 ≡ false → (m : ℕ) → read_steps e m (drop at bs) ≡ some (record { value = []; rest = drop at bs })
  unfolding read_steps
  step-none is zero = refl
  step-none is (suc m) =
      let gone : eqb (get_or (drop at bs) 0 0) step_command ≡ false = sym (has_one step_command refl (drop at bs)) ∙ is in
      λ i. cond (gone i) (cond (leb (step_width e) (length (drop at bs))) (more m) none) (some (record { value = []; rest = drop at bs }))
