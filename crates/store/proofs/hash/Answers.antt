-- `store::hash` meets its contract: so far h is the hash of the first k words. Assumes nothing.
use mathlib.Core.Path.{◌≡◌, refl, sym, ap, ap₂, subst, ◌∙◌}
use Prim.Native.Nat.{ℕ, ◌+◌, ◌*◌, ◌/◌, ◌<◌}
use native.Mathlib.Numerals.{add-one}
use native.Mathlib.Omega.{arith}
use Rattle.model.specs.Bytes.{number, part}
use Rattle.words.proofs.Words.{number_more}
use Rattle.store.specs.Store.{hashes, hash_step, hash_words, cell_bytes, hash_of}
use Rattle.store.proofs.Rows.{hash_lt}
use Rattle.store.proofs.hash.Goals as goal

pub loop-k-init : goal.loop-k-init
unfolding hash_words
loop-k-init c = (refl, omega arith)

pub loop-k-preserved : goal.loop-k-preserved
unfolding hash_words
loop-k-preserved c =
    let l = c.loop-k in
    let row = c.args.row.now in (
      c.hash_step-h.ensures.0 ∙ ap₂ hash_step l.invariant.0 c.read_u32.ensures ∙ ap (hash_words row) (sym (add-one l.k)),
      c.hash_step-h.ensures.1,
    )

pub returns : goal.returns
unfolding hash_of
returns c =
    let l = c.loop-k in
    let row = c.args.row.now in
    let all : l.k ≡ cell_bytes / 4 = omega arith in
    let last : c.from-pattern.result * 256 + c.from.result ≡ number (part row cell_bytes 3) =
    ap₂ (λ (a b : ℕ). a * 256 + b) (c.from-pattern.ensures ∙ c.read_u16.ensures) c.from.ensures ∙ sym (number_more row cell_bytes 2 (omega (arith, c.fits-row))) in
    let is =
    c.hash_step-mixed.ensures.0 ∙ ap (λ (h : ℕ). hash_step h 0) (c.hash_step.ensures.0 ∙ ap₂ hash_step (l.invariant.0 ∙ ap (hash_words row) all) last) in
    (ap (λ (h : ℕ). h / 4194304) is, subst (λ (h : ℕ). h < hashes) (sym (ap (λ (h : ℕ). h / 4194304) is)) (hash_lt row))
