-- `judge_alone` meets its contract: the verdict on the packet is that on its sizes, or on its slot (`alone_short`, `alone_judged`).
use mathlib.Core.Path.{sym, ap, ◌∙◌}
use Rattle.std.specs.Prelude.{Err}
use Rattle.std.proofs.lemmas.Result.{err_from_is_err_and}
use Rattle.netif.specs.Slot.{transmit_slot}
use Rattle.packet.specs.Stages.{slot_page, part_by, slot_part}
use Rattle.transmit.proofs.Alone.{own_is, alone_short, alone_judged}
use Rattle.alone.proofs.judge_alone.Goals as goal

pub returns-in_err-judge_sizes : goal.returns-in_err-judge_sizes
returns-in_err-judge_sizes c ring first is = let table = c.args.grants.now in
    let window = c.args.window.now in
    let short = alone_short ring first c.args.head is table window c.in_err-judge_sizes.field-0.0 (sym c.judge_sizes.ensures ∙ c.in_err-judge_sizes.was) in
    let x = err_from_is_err_and c.from_residual.result c.from_residual.ensures.1 in
    x.1 ∙ ap Err x.2 ∙ ap (λ v. part_by v (slot_page table (transmit_slot ring first))) (sym short)

pub returns : goal.returns
unfolding slot_part
returns c ring first is = let table = c.args.grants.now in
    let window = c.args.window.now in
    let judged = alone_judged ring first c.args.head is table window (sym c.judge_sizes.ensures ∙ c.in_ok-judge_sizes.was) in
    c.judge_slot.ensures (transmit_slot ring first) is
    ∙ ap (slot_part table window 0 (transmit_slot ring first)) (own_is ring first c.args.head is)
    ∙ ap (λ v. part_by v (slot_page table (transmit_slot ring first))) (sym judged)
