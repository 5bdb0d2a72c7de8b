-- `judge_slots` meets its contract: the first slot's verdict by its part, then the later ones', whose parts go into the table behind its own.
use mathlib.Core.Path.{◌≡◌, sym, ap, ◌∙◌}
use mathlib.Core.List.{List}
use Prim.Native.Nat.{ℕ, suc, ◌+◌, ◌-◌}
use lib.ListN.{length}
use Rattle.ring.proofs.Ring.{slots_length}
use native.Mathlib.Omega.{arith}
use Rattle.words.proofs.Word.{no_confusion}
use Rattle.netif.specs.Slot.{Slot}
use Rattle.netif.specs.Decode.{data_of}
use Rattle.grammar.specs.Packet.{first_of}
use Rattle.grammar.specs.Stages.{outline_of}
use Rattle.grammar.specs.declared.Outline.{Outline}
use Rattle.packet.specs.Judge.{own_part, judge_later}
use Rattle.packet.specs.Stages.{slot_part, packet_at, later_at}
use Rattle.answer.specs.declared.Fault.{Fault}
use Rattle.std.specs.Prelude.{Result}
use Rattle.std.proofs.lemmas.Result.{err_from_is_err_and}
use Rattle.packet.proofs.Plans.{slot_bad, slot_at, packet_later, head_of, head_offset, own_of, later_held, plan_whole, slots_bad, slots_later}
use Rattle.planning.proofs.judge_slots.Goals as goal

-- what was judged of the first slot is that of its own part
found : (table window : List ℕ) (o : Outline) (p : List Slot) → o ≡ outline_of o.extras p → (r : Result ℕ Fault)
    → ((s : Slot) → o.head ≡ data_of s → r ≡ slot_part table window 0 s (o.head.size - o.later_bytes)) → r ≡ slot_part table window 0 (first_of p) (own_part o.extras p)
found table window o p h r judged = judged (first_of p) (head_of o o.extras p h) ∙ ap (slot_part table window 0 (first_of p)) (own_of o o.extras p h)

pub judge_later-requires : goal.judge_later-requires
judge_later-requires c = let a = c.args in
    let pre = c.requires in (
      omega (arith, pre.0.some, pre.0.few),
      omega (arith, pre.0.some, pre.0.datas),
      later_held a.parts.now _ _ (rw (packet_later a.ring.now a.first a.o.slots a.o.extras pre.0.some) at pre.2),
    )

pub returns-in_err-page : goal.returns-in_err-page
returns-in_err-page c = let a = c.args in
    let e = a.o.extras in
    let p = packet_at a.ring.now a.first a.o in
    let here = found a.grants.now a.window.now a.o p c.requires.0.outline c.judge_slot.result c.judge_slot.ensures in
    let x = err_from_is_err_and c.from_residual.result c.from_residual.ensures.1 in
    rw (x.1, x.2) (record {
      verdict = sym (slots_bad a.grants.now a.window.now e p _ (slot_bad a.grants.now a.window.now 0 (first_of p) (own_part e p) _ (sym c.in_err-page.was ∙ here)));
      parts_are = λ h. no_confusion cc;
    })

pub returns : goal.returns
returns c = let a = c.args in
    let pre = c.requires in
    let o = a.o in
    let e = o.extras in
    let p = packet_at a.ring.now a.first o in
    let here = found a.grants.now a.window.now o p pre.0.outline c.judge_slot.result c.judge_slot.ensures in
    let later = packet_later a.ring.now a.first o.slots e pre.0.some in
    let at = slot_at a.grants.now a.window.now 0 (first_of p) (own_part e p) c.in_ok-page.page (sym c.in_ok-page.was ∙ here) in
    let r = c.judge_later.ensures in
    let count : length (later_at a.ring.now a.first e (o.slots - 1 - e)) ≡ o.slots - 1 - e = slots_length 12 256 a.ring.now (o.slots - 1 - e) (a.first + (e + 1)) in
    record {
      verdict = r.verdict ∙ ap (judge_later a.grants.now a.window.now (suc e)) (sym later) ∙ sym (slots_later a.grants.now a.window.now e p at.0);
      parts_are = λ h. plan_whole a.grants.now e p _ later a.parts.now _ _ (omega (arith, c.told-parts)) (λ i. record { page = at.1 i; offset = head_offset o e p pre.0.outline i; size = own_of o e p pre.0.outline i })
          (rw count (r.parts_are h));
    }
