-- `graph::note_task`, which calls itself, meets its contract.
-- Assumes nothing.
use mathlib.Core.Path.{◌≡◌, sym, ap, subst, ◌∙◌}
use mathlib.Core.List.{List, [], ◌++◌}
use Prim.Native.Nat.{ℕ, ◌+◌, ◌-◌, ◌*◌, ◌≤◌, ◌<◌}
use native.Mathlib.Omega.{arith}
use lib.Bits.{bit_or}
use lib.ListN.{get_or}
use Rattle.model.specs.Masks.{mask_count}
use Rattle.words.specs.Packed.{field_base}
use Rattle.graph.specs.Label.{wanted_in}
use Rattle.graph.specs.Outcomes.{Outcome, list_place, Noting}
use Rattle.graph.specs.Offers.{offer_in, offered, Carries}
use Rattle.graph.proofs.Notes.{keeps_refl, keeps_trans}
use Rattle.graph.proofs.Choices.{noting_append, noting_fewer, list_noting, offered-last, so_far, so_far-none, so_far-more, so_far-all, listed-length, mask-listed, moved-fits, carries-mask}
use Rattle.graph.proofs.+note_task.Goals as goal

-- a task that is not the last one's next
below : {i n : ℕ} → (i ≡ n → ⊥) → i ≤ n → i < n
below ne le = omega arith

pub returns-then-task-offers : goal.returns-then-task-offers
returns-then-task-offers t c =
    let a = c.args in
    let p = c.requires in
    rw (offered-last a.offers.now a.task a.pattern a.gain a.masks c.if-task-offers.true)
    (noting_fewer (list_place a.task) (omega (arith, p.2.task, p.1.few)) c.note.ensures)

pub overflow_mul-moved : goal.overflow_mul-moved
overflow_mul-moved t c =
    let p = c.requires in
    record { fits = omega (arith, moved-fits p.1 (below c.if-task-offers.false p.2.task) p.2) }

pub loop-at-init : goal.loop-at-init
loop-at-init t c =
    let a = c.args in
    let o = a.offers.now in
    let i = a.task in
    let p = c.requires in
    let idle = c.note_task-known in
    let list = c.list_masks-to in
    let m₁ = idle.new.notes in
    let m₂ = list.new.notes in
    let place = list_place i in
    let listed = list_noting (wanted_in o.wanted) m₁ m₂ place mask_count idle.result (omega arith) (omega (arith, p.2.task, p.1.few, c.if-task-offers.false)) list.ensures.only idle.ensures.room in (
      rw (so_far-none o i a.pattern a.gain a.masks (place - place) (omega arith))
          (noting_append (wanted_in o.wanted) place (offered o (o.count - (i + 1)) (i + 1) a.pattern a.gain (a.masks * field_base)) []
          a.notes.now a.count m₁ idle.result m₂ idle.result (noting_fewer place (omega arith) idle.ensures) listed),
      keeps_refl,
    )

pub overflow_add-joined : goal.overflow_add-joined
overflow_add-joined t c =
    let a = c.args in
    let p = c.requires in
    let lt = below c.if-task-offers.false p.2.task in
    let list = c.list_masks-to.ensures in
    let l = c.loop-at in
    let here = mask-listed a.offers.now a.task a.pattern p.1 lt list (omega (arith, list.ends)) l.invariant.1 l.at (omega arith) (omega arith) in
    record { fits = omega (arith, here.1, moved-fits p.1 lt p.2, c.from.ensures) }

pub note_task-known-requires-in-loop-at : goal.note_task-known-requires-in-loop-at
note_task-known-requires-in-loop-at t c =
    let a = c.args in
    let o = a.offers.now in
    let i = a.task in
    let p = c.requires in
    let lt = below c.if-task-offers.false p.2.task in
    let list = c.list_masks-to.ensures in
    let l = c.loop-at in
    let m = get_or l.notes l.at 0 in
    let here = mask-listed o i a.pattern p.1 lt list (omega (arith, list.ends)) l.invariant.1 l.at (omega arith) (omega arith) in (
      omega (arith, c.decreases, lt),
      (
        p.0,
        p.1,
        subst (λ (x : ℕ). Carries o (i + 1) (bit_or a.pattern m) (a.gain + (offer_in o i).value) (a.masks * field_base + x)) (sym c.from.ensures) (carries-mask p.1 lt p.2 m here.1),
        l.invariant.0.room,
      ),
    )

pub loop-at-preserved : goal.loop-at-preserved
loop-at-preserved t c =
    let a = c.args in
    let o = a.offers.now in
    let i = a.task in
    let p = c.requires in
    let lt = below c.if-task-offers.false p.2.task in
    let list = c.list_masks-to.ensures in
    let l = c.loop-at in
    let m = get_or l.notes l.at 0 in
    let place = list_place i in
    let n = l.at - place in
    let w = wanted_in o.wanted in
    let here = mask-listed o i a.pattern p.1 lt list (omega (arith, list.ends)) l.invariant.1 l.at (omega arith) (omega arith) in
    let size = listed-length list (omega (arith, c.note_task-known.ensures.room.room, p.1.few)) in
    let next = c.note_task-known-in-loop-at in
    let with : ℕ → List Outcome = λ x. offered o (o.count - (i + 1)) (i + 1) (bit_or a.pattern m) (a.gain + (offer_in o i).value) (a.masks * field_base + x) in
    let more : so_far o i a.pattern a.gain a.masks (l.at + 1 - place) ≡ so_far o i a.pattern a.gain a.masks n ++ with m =
    let step : l.at + 1 - place ≡ n + 1 = omega arith in
    ap (so_far o i a.pattern a.gain a.masks) step ∙ so_far-more o i a.pattern a.gain a.masks n (omega (arith, size, list.starts)) m here.0 in
    let noted = subst (λ (x : ℕ). Noting w (with x) (list_place (i + 1)) l.notes l.known next.new.notes next.result) c.from.ensures next.ensures in (
      subst (λ (os : List Outcome). Noting w os place a.notes.now a.count next.new.notes next.result) (sym more)
          (noting_append w place (so_far o i a.pattern a.gain a.masks n) (with m) a.notes.now a.count l.notes l.known next.new.notes next.result l.invariant.0
          (noting_fewer place (omega arith) noted)),
      keeps_trans l.invariant.1 next.ensures.keeps,
    )

pub returns : goal.returns
returns t c =
    let a = c.args in
    let o = a.offers.now in
    let i = a.task in
    let p = c.requires in
    let lt = below c.if-task-offers.false p.2.task in
    let l = c.loop-at in
    let list = c.list_masks-to in
    let size = listed-length list.ensures (omega (arith, c.note_task-known.ensures.room.room, p.1.few)) in
    subst (λ (os : List Outcome). Noting (wanted_in o.wanted) os (list_place i) a.notes.now a.count l.notes l.known)
    (so_far-all o i a.pattern a.gain a.masks (l.at - list_place i) lt (omega (arith, size, list.ensures.starts))) l.invariant.0
