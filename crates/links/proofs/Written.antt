-- What a link or a step that is written leaves in memory. Assumes nothing.
use mathlib.Core.Path.{◌≡◌, refl, sym, ap, ap₂, subst, ◌∙◌}
use mathlib.Core.Bool.{cond}
use mathlib.Core.Logic.{◌⊎◌, inl, inr, ⊎_map}
use mathlib.Core.List.{List, [], ◌∷◌, ◌++◌, append_assoc}
use Prim.Native.Nat.{ℕ, ◌+◌, ◌^◌, ◌≤◌, ◌<◌}
use native.Mathlib.Decide.{ℕ_discrete, dec_lt}
use native.Mathlib.Nat.{add-zero}
use native.Mathlib.Omega.{arith}
use borrow.Author.Tests.{eq-eqb, ne_eqb}
use lib.Dec.{eqb}
use lib.ListN.{length, get_or, set, length-append}
use lib.Seq.{append_snoc}
use lib.Signed.{mag}
use Rattle.model.specs.Bytes.{number, bytes, signed, complement, part, overwrite, Only}
use Rattle.model.specs.Limits.{max_nodes, max_steps}
use Rattle.words.proofs.Complement.{complement-lt, signed-complement}
use Rattle.words.proofs.Fields.{field-read}
use Rattle.words.proofs.Free.{only_part, overwrite-only, overwrite-within}
use Rattle.words.proofs.Memory.{overwrite-one, overwrite-inside, overwrite_outside, overwrite_frame, overwrite_join, overwrite-more, part_skip, get_or_skip}
use Rattle.words.proofs.Numbers.{bytes-length}
use Rattle.links.specs.Links.{link_bytes, taken_bytes, links_at, steps_at, links_end, link_place, link_in, mark_byte, step_place, taken_in, byte_of, mark_of, marked, PutsMark, PutsStep, links_size, steps_size}
use Rattle.links.specs.declared.Link.{Link}
use Rattle.links.specs.declared.Mark.{Mark}
use Rattle.links.specs.declared.Mark.TheVariants.{Unknown, Waiting, Tried}
use Rattle.links.specs.declared.Taken.{Taken}

-- a table with another entry at v, where it stands there and at no other place
put_one : {A : Type 0} (after before : ℕ → A) (v : ℕ) (a : A) → after v ≡ a → (x : ℕ) → ((x < v) ⊎ (v < x) → after x ≡ before x) →
    after x ≡ cond (eqb x v) a (before x)
put_one after before v a same x other = by (ℕ_discrete x v) (dec_lt x v)
  where
    by : Dec (x ≡ v) → Dec (x < v) → after x ≡ cond (eqb x v) a (before x)
    by (yes p) d = ap after p ∙ same ∙ ap (λ b. cond b a (before x)) (sym (eq-eqb x v p))
    by (no q) (yes h) = other (inl h) ∙ ap (λ b. cond b a (before x)) (sym (ne_eqb x v q))
    by (no q) (no h) = other (inr (omega arith)) ∙ ap (λ b. cond b a (before x)) (sym (ne_eqb x v q))

-- ---- a link

-- the mark of a mark's byte
mark-back : (k : Mark) → mark_of (byte_of k) ≡ k
mark-back Unknown = refl
mark-back Waiting = refl
mark-back Tried = refl

-- no byte of a mark is above 2
pub byte_low : (k : Mark) → byte_of k ≤ 2
byte_low Unknown = omega arith
byte_low Waiting = omega arith
byte_low Tried = omega arith

-- the bytes of a link
abbrev pub bytes_of : Link → List ℕ
bytes_of l = bytes 8 (complement l.distance) ++ bytes 2 l.parent ++ (l.label ∷ byte_of l.mark ∷ [])

bytes_of-length : (l : Link) → length (bytes_of l) ≡ link_bytes
bytes_of-length l =
    length-append (bytes 8 (complement l.distance) ++ bytes 2 l.parent) (l.label ∷ byte_of l.mark ∷ [])
    ∙ ap (λ (n : ℕ). n + 2)
    (length-append (bytes 8 (complement l.distance)) (bytes 2 l.parent) ∙ ap₂ (λ (i j : ℕ). i + j) (bytes-length 8 _) (bytes-length 2 _))

module _ (l : Link) (signs : mag l.distance < 2 ^ 63) (low : l.parent < 256 ^ 2) where
  abbrev first : List ℕ
  first = bytes 8 (complement l.distance)

  abbrev rest : List ℕ
  rest = bytes 2 l.parent ++ (l.label ∷ byte_of l.mark ∷ [])

  abbrev apart : bytes_of l ≡ first ++ rest
  apart = append_assoc first (bytes 2 l.parent) (l.label ∷ byte_of l.mark ∷ [])

  distance_back : signed (number (part (bytes_of l) 0 8)) ≡ l.distance
  distance_back =
      ap (λ bs. signed (number (part bs 0 8))) apart
      ∙ ap signed (field-read 8 (complement l.distance) rest (complement-lt l.distance signs)) ∙ signed-complement l.distance signs

  parent-back : number (part (bytes_of l) (8 + 0) 2) ≡ l.parent
  parent-back =
      ap (λ bs. number (part bs (8 + 0) 2)) apart ∙ ap number (part_skip first rest 8 0 2 (bytes-length 8 _))
      ∙ field-read 2 l.parent (l.label ∷ byte_of l.mark ∷ []) low

  tail-back : (i : ℕ) → get_or (bytes_of l) (8 + (2 + i)) 0 ≡ get_or (l.label ∷ byte_of l.mark ∷ []) i 0
  tail-back i =
      ap (λ bs. get_or bs (8 + (2 + i)) 0) apart ∙ get_or_skip first rest 8 (2 + i) (bytes-length 8 _)
      ∙ get_or_skip (bytes 2 l.parent) (l.label ∷ byte_of l.mark ∷ []) 2 i (bytes-length 2 _)

  module _ (m : List ℕ) (v : ℕ) (room : links_end ≤ length m) (below : v < max_nodes) where
    abbrev after : List ℕ
    after = overwrite m (link_place v) (bytes_of l)

    fits : link_place v + length (bytes_of l) ≤ length m
    fits = omega (arith, bytes_of-length l)

    same_byte : mark_byte after v ≡ byte_of l.mark
    same_byte = overwrite-inside m (link_place v) (bytes_of l) fits 11 (omega (arith, bytes_of-length l)) ∙ tail-back 1

    same : link_in after v ≡ l
    same =
        let long = bytes_of-length l in
        let at-10 : link_place v + 10 ≡ link_place v + (8 + (2 + 0)) = omega arith in
        λ i. record {
          distance =
              (ap (λ (k : ℕ). signed (number (part after k 8))) (sym (add-zero (link_place v)))
              ∙ ap (λ bs. signed (number bs)) (overwrite-within m (link_place v) (bytes_of l) fits 0 8 (omega arith)) ∙ distance_back) i;
          parent = (ap number (overwrite-within m (link_place v) (bytes_of l) fits 8 2 (omega arith)) ∙ parent-back) i;
          label = (overwrite-inside m (link_place v) (bytes_of l) fits 10 (omega arith) ∙ tail-back 0) i;
          mark = (ap mark_of same_byte ∙ mark-back l.mark) i;
        }

    other_byte : (x : ℕ) → (link_place x + link_bytes ≤ link_place v) ⊎ (link_place v + link_bytes ≤ link_place x) → mark_byte after x ≡ mark_byte m x
    other_byte x side =
        let long = bytes_of-length l in
        overwrite_outside m (link_place v) (bytes_of l) fits (link_place x + 11) (⊎_map (λ h. omega arith) (λ h. omega arith) side)

    other : (x : ℕ) → (link_place x + link_bytes ≤ link_place v) ⊎ (link_place v + link_bytes ≤ link_place x) → link_in after x ≡ link_in m x
    other x side =
        let long = bytes_of-length l in
        λ i. record {
          distance = signed (number (overwrite_frame m (link_place v) (bytes_of l) fits (link_place x) 8 (⊎_map (λ h. omega arith) (λ h. omega arith) side) i));
          parent = number (overwrite_frame m (link_place v) (bytes_of l) fits (link_place x + 8) 2 (⊎_map (λ h. omega arith) (λ h. omega arith) side) i);
          label = overwrite_outside m (link_place v) (bytes_of l) fits (link_place x + 10) (⊎_map (λ h. omega arith) (λ h. omega arith) side) i;
          mark = mark_of (other_byte x side i);
        }

    -- the link is read back, and every other as it was
    pub puts : PutsMark v l m after
    puts = record {
      puts = record {
        links = λ x h. put_one (link_in after) (link_in m) v l same x (λ side. other x (⊎_map (λ h. omega arith) (λ h. omega arith) side));
        only = overwrite-only m (link_place v) (bytes_of l) fits links_at links_size (omega arith) (omega (arith, bytes_of-length l));
      };
      marks =
          λ x h. put_one (mark_byte after) (mark_byte m) v (byte_of l.mark) same_byte x
          (λ side. other_byte x (⊎_map (λ h. omega arith) (λ h. omega arith) side));
    }

-- the four writes of a link are one
pub link-written : (m : List ℕ) (at : ℕ) (l : Link) → at + link_bytes ≤ length m →
    set (set (overwrite (overwrite m at (bytes 8 (complement l.distance))) (at + 8) (bytes 2 l.parent)) (at + 10) l.label) (at + 11) (byte_of l.mark)
    ≡ overwrite m at (bytes_of l)
link-written m at l h =
    let a = bytes 8 (complement l.distance) in
    let b = bytes 2 l.parent in
    let la = bytes-length 8 (complement l.distance) in
    let lb = bytes-length 2 l.parent in
    let lab : length (a ++ b) ≡ 10 = length-append a b ∙ ap₂ (λ (i j : ℕ). i + j) la lb in
    let labl : length (a ++ b ++ (l.label ∷ [])) ≡ 11 = length-append (a ++ b) (l.label ∷ []) ∙ ap (λ (n : ℕ). n + 1) lab in
    ap (λ x. set (set x (at + 10) l.label) (at + 11) (byte_of l.mark))
    (ap (λ (n : ℕ). overwrite (overwrite m at a) (at + n) b) (sym la) ∙ overwrite_join m at a b (omega arith))
    ∙ ap (λ x. set x (at + 11) (byte_of l.mark)) (overwrite-more m at (a ++ b) 10 l.label lab (omega arith))
    ∙ overwrite-more m at (a ++ b ++ (l.label ∷ [])) 11 (byte_of l.mark) labl (omega arith)
    ∙ ap (overwrite m at) (append_snoc (a ++ b) l.label (byte_of l.mark ∷ []))

-- so the link is put, where the last byte is that of its mark
pub link_put : (m : List ℕ) (v : ℕ) (l : Link) → mag l.distance < 2 ^ 63 → l.parent < 256 ^ 2 → links_end ≤ length m → v < max_nodes →
    (x : List ℕ) → x ≡ overwrite (overwrite m (link_place v) (bytes 8 (complement l.distance))) (link_place v + 8) (bytes 2 l.parent) →
    (b : ℕ) → b ≡ byte_of l.mark → PutsMark v l m (set (set x (link_place v + 10) l.label) (link_place v + 11) b)
link_put m v l signs low room below x led b told =
    subst (PutsMark v l m)
    (sym
    (ap₂ (λ y k. set (set y (link_place v + 10) l.label) (link_place v + 11) k) led told ∙ link-written m (link_place v) l (omega arith)))
    (puts l signs low m v room below)

-- ---- a mark

module _ (m : List ℕ) (v : ℕ) (k : Mark) (room : links_end ≤ length m) (below : v < max_nodes) where
  abbrev mark_at : ℕ
  mark_at = link_place v + 11

  abbrev remarked : List ℕ
  remarked = overwrite m mark_at (byte_of k ∷ [])

  mark_fits : mark_at + length (byte_of k ∷ []) ≤ length m
  mark_fits = omega arith

  same_mark_byte : mark_byte remarked v ≡ byte_of k
  same_mark_byte =
      ap (λ (j : ℕ). get_or remarked j 0) (sym (add-zero mark_at)) ∙ overwrite-inside m mark_at (byte_of k ∷ []) mark_fits 0 (omega arith)

  same_mark : link_in remarked v ≡ marked k (link_in m v)
  same_mark = λ i. record {
    distance = signed (number (overwrite_frame m mark_at (byte_of k ∷ []) mark_fits (link_place v) 8 (inl (omega arith)) i));
    parent = number (overwrite_frame m mark_at (byte_of k ∷ []) mark_fits (link_place v + 8) 2 (inl (omega arith)) i);
    label = overwrite_outside m mark_at (byte_of k ∷ []) mark_fits (link_place v + 10) (inl (omega arith)) i;
    mark = (ap mark_of same_mark_byte ∙ mark-back k) i;
  }

  other_mark_byte : (x : ℕ) → (link_place x + link_bytes ≤ link_place v) ⊎ (link_place v + link_bytes ≤ link_place x) → mark_byte remarked x ≡ mark_byte m x
  other_mark_byte x side = overwrite_outside m mark_at (byte_of k ∷ []) mark_fits (link_place x + 11) (⊎_map (λ h. omega arith) (λ h. omega arith) side)

  other_mark : (x : ℕ) → (link_place x + link_bytes ≤ link_place v) ⊎ (link_place v + link_bytes ≤ link_place x) → link_in remarked x ≡ link_in m x
  other_mark x side = λ i. record {
    distance = signed (number (overwrite_frame m mark_at (byte_of k ∷ []) mark_fits (link_place x) 8 (⊎_map (λ h. omega arith) (λ h. omega arith) side) i));
    parent = number (overwrite_frame m mark_at (byte_of k ∷ []) mark_fits (link_place x + 8) 2 (⊎_map (λ h. omega arith) (λ h. omega arith) side) i);
    label = overwrite_outside m mark_at (byte_of k ∷ []) mark_fits (link_place x + 10) (⊎_map (λ h. omega arith) (λ h. omega arith) side) i;
    mark = mark_of (other_mark_byte x side i);
  }

  -- one byte is the mark
  pub mark_written : (b : ℕ) → b ≡ byte_of k → PutsMark v (marked k (link_in m v)) m (set m (link_place v + 11) b)
  mark_written b told =
      subst (PutsMark v (marked k (link_in m v)) m) (sym (ap (set m mark_at) told ∙ overwrite-one m mark_at (byte_of k) (omega arith))) (record {
        puts = record {
          links = λ x h. put_one (link_in remarked) (link_in m) v (marked k (link_in m v)) same_mark x (λ side. other_mark x (⊎_map (λ h. omega arith) (λ h. omega arith) side));
          only = overwrite-only m mark_at (byte_of k ∷ []) mark_fits links_at links_size (omega arith) (omega arith);
        };
        marks =
            λ x h. put_one (mark_byte remarked) (mark_byte m) v (byte_of k) same_mark_byte x
            (λ side. other_mark_byte x (⊎_map (λ h. omega arith) (λ h. omega arith) side));
      })

-- ---- a step

-- the bytes of a step
abbrev pub step_bytes_of : Taken → List ℕ
step_bytes_of s = bytes 2 s.node ++ (s.label ∷ [])

step_bytes_of-length : (s : Taken) → length (step_bytes_of s) ≡ taken_bytes
step_bytes_of-length s = length-append (bytes 2 s.node) (s.label ∷ []) ∙ ap (λ (n : ℕ). n + 1) (bytes-length 2 s.node)

module _ (s : Taken) (low : s.node < 256 ^ 2) (m : List ℕ) (i : ℕ) (room : links_end ≤ length m) (below : i < max_steps) where
  abbrev stepped : List ℕ
  stepped = overwrite m (step_place i) (step_bytes_of s)

  step_fits : step_place i + length (step_bytes_of s) ≤ length m
  step_fits = omega (arith, step_bytes_of-length s)

  same_step : taken_in stepped i ≡ s
  same_step =
      let long = step_bytes_of-length s in
      λ j. record {
        node =
            (ap (λ (k : ℕ). number (part stepped k 2)) (sym (add-zero (step_place i)))
            ∙ ap number (overwrite-within m (step_place i) (step_bytes_of s) step_fits 0 2 (omega arith))
            ∙ field-read 2 s.node (s.label ∷ []) low) j;
        label =
            (overwrite-inside m (step_place i) (step_bytes_of s) step_fits 2 (omega arith)
            ∙ get_or_skip (bytes 2 s.node) (s.label ∷ []) 2 0 (bytes-length 2 _)) j;
      }

  other_step : (x : ℕ) → (step_place x + taken_bytes ≤ step_place i) ⊎ (step_place i + taken_bytes ≤ step_place x) → taken_in stepped x ≡ taken_in m x
  other_step x side =
      let long = step_bytes_of-length s in
      λ j. record {
        node = number (overwrite_frame m (step_place i) (step_bytes_of s) step_fits (step_place x) 2 (⊎_map (λ h. omega arith) (λ h. omega arith) side) j);
        label = overwrite_outside m (step_place i) (step_bytes_of s) step_fits (step_place x + 2) (⊎_map (λ h. omega arith) (λ h. omega arith) side) j;
      }

  -- the step is read back, and every other as it was
  pub puts_step : PutsStep i s m stepped
  puts_step = record {
    steps = λ x h. put_one (taken_in stepped) (taken_in m) i s same_step x (λ side. other_step x (⊎_map (λ h. omega arith) (λ h. omega arith) side));
    only =
        overwrite-only m (step_place i) (step_bytes_of s) step_fits steps_at steps_size (omega arith) (omega (arith, step_bytes_of-length s));
  }

-- the links beside a change of steps
pub only-links : {m m' : List ℕ} → Only steps_at steps_size m m' → (v : ℕ) → v < max_nodes → link_in m' v ≡ link_in m v
only-links o v h = λ i. record {
  distance = signed (number (only_part o (link_place v) 8 (inl (omega arith)) i));
  parent = number (only_part o (link_place v + 8) 2 (inl (omega arith)) i);
  label = o.others (link_place v + 10) (inl (omega arith)) i;
  mark = mark_of (o.others (link_place v + 11) (inl (omega arith)) i);
}
