-- The masks of a step of the first edition, packed.
-- Assumes nothing.
use Rattle.std.proofs.Common.{arith, ◌≡◌, refl, sym, ap, ◌∙◌, List, [], ℕ, zero, suc, ◌+◌, ◌-◌, ◌*◌, ◌^◌, ◌≤◌, ◌<◌, length, get_or, take, drop}
use Rattle.std.proofs.Math.Nat.{pow-le-pow_right}
use Rattle.std.proofs.lemmas.List.{take_more, get_or-take, length-take-le, ext_get_or}
use lib.Dec.{lit<}
use lib.ListN.{length-drop}
use lib.Seq.{get_or-drop}
use Rattle.model.specs.Edition.{first_edition}
use Rattle.model.specs.Limits.{max_tasks}
use Rattle.model.specs.Bytes.{number, part}
use Rattle.model.specs.Certificate.{step_width, masks_at}
use Rattle.words.specs.Packed.{field_base, packed, unpacked}
use Rattle.words.proofs.Memory.{part_length}
use Rattle.words.proofs.Numbers.{AreBytes}
use Rattle.words.proofs.Packed.{packed_snoc, packed_lt, unpacked-packed}
use Rattle.words.proofs.Words.{number-byte, part_bytes}

-- ---- the first i of four bytes, packed

pub packed_none : 0 ≡ packed []
unfolding packed number
packed_none = refl

module _ (masks : List ℕ) (are_bytes : AreBytes masks) where
  pub packed_more : (i : ℕ) → i < length masks → packed (take i masks) * field_base + get_or masks i 0 ≡ packed (take (i + 1) masks)
  packed_more i h = sym (ap packed (take_more masks i 0 h) ∙ packed_snoc (take i masks) (get_or masks i 0) (omega (arith, are_bytes i)))

  pub packed_fits : (i : ℕ) → i < length masks → length masks ≡ max_tasks → packed (take i masks) * field_base + get_or masks i 0 < 2 ^ 64
  packed_fits i h four =
      omega (
        arith,
        packed_lt (take i masks) (λ j. omega (arith, part_bytes masks 0 i are_bytes j)),
        pow-le-pow_right {n = field_base} (lit< tt) {i = length (take i masks)} {j = 3} (omega (arith, length-take-le i masks (omega arith))),
        are_bytes i,
      )

-- ---- in place

module _ (bs : List ℕ) (at : ℕ) (are_bytes : AreBytes bs) (fits : at + step_width first_edition ≤ length bs) where
  -- the bytes of the masks
  abbrev pub mask_bytes : List ℕ
  mask_bytes = part bs (at + 2) (at + step_width first_edition - (at + 2))

  pub four_masks : length mask_bytes ≡ max_tasks
  four_masks = part_length bs (at + 2) (at + step_width first_edition - (at + 2)) (omega arith) ∙ omega arith

  pub mask_small : AreBytes mask_bytes
  mask_small = part_bytes bs (at + 2) (at + step_width first_edition - (at + 2)) are_bytes

  mask-byte : (k : ℕ) → k < max_tasks → get_or mask_bytes k 0 ≡ number (part (drop at bs) (2 + k) 1)
  mask-byte k h =
      get_or-take (at + step_width first_edition - (at + 2)) (drop (at + 2) bs) k 0 (omega arith)
      ∙ get_or-drop (at + 2) bs k 0
      ∙ ap (λ (j : ℕ). get_or bs j 0) (omega arith)
      ∙ sym (number-byte (drop at bs) (2 + k) (omega (arith, length-drop at bs)) ∙ get_or-drop at bs (2 + k) 0)

  pub masks-packed : unpacked (packed mask_bytes) ≡ masks_at first_edition (drop at bs)
  masks-packed =
      unpacked-packed mask_bytes (λ j. omega (arith, mask_small j)) four_masks
      ∙ ext_get_or 0 mask_bytes (masks_at first_edition (drop at bs)) four_masks each
    where
      each : (j : ℕ) → j < length mask_bytes → get_or mask_bytes j 0 ≡ get_or (masks_at first_edition (drop at bs)) j 0
      each zero h = mask-byte 0 (omega arith)
      each (suc zero) h = mask-byte 1 (omega arith)
      each (suc (suc zero)) h = mask-byte 2 (omega arith)
      each (suc (suc (suc zero))) h = mask-byte 3 (omega arith)
      each (suc (suc (suc (suc j)))) h = absurd (omega (arith, four_masks))
