-- A certificate, its bytes, and their reading.
use Rattle.std.specs.Prelude.{ℕ, zero, suc, ◌+◌, ◌*◌, Bool, cond, ◌&&◌, List, [], ◌∷◌, ◌++◌, map, leb, ltb, eqb, ℤ, length, get_or, drop}
use Rattle.std.proofs.Math.Option.{Option, none, some}
use Rattle.model.specs.Limits.{max_tasks, max_nodes, max_steps}
use Rattle.model.specs.Edition.{Edition, long_reads}
use Rattle.model.specs.Lists.{flat_map, up_from}
use Rattle.model.specs.Bytes.{number, bytes, signed, complement, part}

-- a step of the cycle: "label and four masks (..; 0 for a task the plan lacks ..)"
pub record Step : Type 0 where
  pub label : ℕ
  pub masks : List ℕ

pub record Certificate : Type 0 where
  pub p : ℕ
  pub q : ℕ
  pub potentials : List ℤ  -- in node order; N is how many there are
  pub node : ℕ  -- where the cycle starts; 0 where q = 0
  pub steps : List Step  -- none where q = 0

-- ---- written

-- "`14` label and four masks", each of the edition's bytes
abbrev pub step_bytes : Edition → Step → List ℕ
step_bytes e s = 0x14 ∷ s.label ∷ flat_map (bytes e.mask_width) s.masks

-- "`13` node (2); 1 to 1,024 times `14` label and four masks"
abbrev pub cycle_bytes : Edition → Certificate → List ℕ
cycle_bytes e c = (0x13 ∷ bytes 2 c.node) ++ flat_map (step_bytes e) c.steps

-- "`11` p (4 bytes) q (4) N (2); N times `12` potential (8, two's complement) ..; `15` end. `13` and `14` are missing exactly when q = 0."
unfoldable pub certificate_bytes_in : Edition → Certificate → List ℕ
certificate_bytes_in e c =
    (0x11 ∷ bytes 4 c.p) ++ bytes 4 c.q ++ bytes 2 (length c.potentials)
    ++ flat_map (λ z. 0x12 ∷ bytes 8 (complement z)) c.potentials
    ++ cond (eqb c.q 0) [] (cycle_bytes e c)
    ++ (0x15 ∷ [])

abbrev pub certificate_bytes : Certificate → List ℕ
certificate_bytes c = certificate_bytes_in long_reads c

-- ---- read, "in order from its first byte"; none where the form has any fault

-- what has been read, and the bytes that follow it
pub record Parsed (A : Type 0) : Type 0 where
  pub value : A
  pub rest : List ℕ

abbrev pub cons_parsed : {A : Type 0} → A → Option (Parsed (List A)) → Option (Parsed (List A))
cons_parsed a none = none
cons_parsed a (some r) = some (record { value = a ∷ r.value; rest = r.rest })

-- the command c stands at the head, with n bytes in all
abbrev pub has : List ℕ → ℕ → ℕ → Bool
has bs c n = eqb (get_or bs 0 0) c && leb n (length bs)

-- n times `12` potential
unfoldable pub read_potentials : ℕ → List ℕ → Option (Parsed (List ℤ))
read_potentials zero bs = some (record { value = []; rest = bs })
read_potentials (suc n) bs =
    let more = cons_parsed (signed (number (part bs 1 8))) (read_potentials n (drop 9 bs)) in
    cond (has bs 0x12 9) more none

-- the bytes of a step with its command
abbrev pub step_width : Edition → ℕ
step_width e = 2 + e.mask_width * max_tasks

-- the masks of the step at the head
abbrev pub masks_at : Edition → List ℕ → List ℕ
masks_at e bs = map (λ i. number (part bs (2 + e.mask_width * i) e.mask_width)) (up_from 0 max_tasks)

-- `14` label and four masks, up to n times
unfoldable pub read_steps : Edition → ℕ → List ℕ → Option (Parsed (List Step))
read_steps e zero bs = some (record { value = []; rest = bs })
read_steps e (suc n) bs =
    let more = cons_parsed (record { label = get_or bs 1 0; masks = masks_at e bs }) (read_steps e n (drop (step_width e) bs)) in
    let here = cond (leb (step_width e) (length bs)) more none in
    cond (eqb (get_or bs 0 0) 0x14) here (some (record { value = []; rest = bs }))

-- `15` end, and nothing after it
abbrev pub is_end : List ℕ → Bool
is_end bs = eqb (length bs) 1 && eqb (get_or bs 0 0) 0x15

-- the potentials are read, and the steps of a cycle from the node v
abbrev pub with_steps : ℕ → ℕ → List ℤ → ℕ → Option (Parsed (List Step)) → Option Certificate
with_steps p q zs v none = none
with_steps p q zs v (some r) =
    cond (is_end r.rest && ltb 0 (length r.value))
    (some (record { p = p; q = q; potentials = zs; node = v; steps = r.value })) none

-- the potentials are read; "`13` and `14` are missing exactly when q = 0"
abbrev pub with_potentials : Edition → ℕ → ℕ → Option (Parsed (List ℤ)) → Option Certificate
with_potentials e p q none = none
with_potentials e p q (some r) =
    let bare : Option Certificate = cond (is_end r.rest) (some (record { p = p; q = q; potentials = r.value; node = 0; steps = [] })) none in
    let full : Option Certificate = cond (has r.rest 0x13 3) (with_steps p q r.value (number (part r.rest 1 2)) (read_steps e max_steps (drop 3 r.rest))) none in
    cond (eqb q 0) bare full

-- "N is 1 to 1,024."
unfoldable pub read_certificate_in : Edition → List ℕ → Option Certificate
read_certificate_in e bs =
    let n = number (part bs 9 2) in
    let c = with_potentials e (number (part bs 1 4)) (number (part bs 5 4)) (read_potentials n (drop 11 bs)) in
    cond (has bs 0x11 11 && leb 1 n && leb n max_nodes) c none

abbrev pub read_certificate : List ℕ → Option Certificate
read_certificate bs = read_certificate_in long_reads bs
