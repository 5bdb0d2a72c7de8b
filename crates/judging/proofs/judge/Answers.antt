-- `judge` meets its contract: the verdicts on the sizes, on the data slots and on the gso fields, of which the first bad one wins.
use mathlib.Core.Path.{◌≡◌, sym, ◌∙◌}
use mathlib.Core.List.{List}
use Rattle.std.proofs.lemmas.Result.{err_from_is_err_and}
use Rattle.words.proofs.Word.{no_confusion}
use Rattle.netif.specs.Slot.{Slot}
use Rattle.grammar.specs.Packet.{later_of, sizes}
use Rattle.grammar.specs.Stages.{outline_of}
use Rattle.grammar.specs.declared.Outline.{Outline}
use Rattle.answer.specs.Verdict.{Verdict}
use Rattle.packet.specs.Judge.{total_of, judge_sizes, judge_gso}
use Rattle.packet.specs.Stages.{packet_at}
use Rattle.packet.proofs.Judge.{sizes_good}
use Rattle.packet.proofs.Plans.{total_of_lem, sum_of, gso_size_of_lem, gso_type_of_lem, judge_sizes_bad, judge_slots_bad, judge_gso_lem}
use Rattle.judging.proofs.judge.Goals as goal

-- the verdict on the outline's sizes is that on the packet's
sizes_are : (o : Outline) (p : List Slot) → o ≡ outline_of o.extras p → {r : Verdict} → r ≡ judge_sizes o.head.size o.later_bytes → r ≡ judge_sizes (total_of p) (sizes (later_of o.extras p))
sizes_are o p h e = e ∙ (λ i. judge_sizes (total_of_lem o o.extras p h i) (sum_of o o.extras p h i))

pub judge_slots-requires : goal.judge_slots-requires
judge_slots-requires c = let pre = c.requires in (pre.0, sizes_good _ _ (sym c.judge_sizes.ensures ∙ c.in_ok-judge_sizes.was), pre.1)

pub returns-in_err-judge_sizes : goal.returns-in_err-judge_sizes
returns-in_err-judge_sizes c = let a = c.args in
    let p = packet_at a.ring.now a.first a.o in
    let x = err_from_is_err_and c.from_residual.result c.from_residual.ensures.1 in
    rw (x.1, x.2) (record {
      verdict = sym (judge_sizes_bad a.grants.now a.window.now a.o.extras p _ (sym (sizes_are a.o p c.requires.0.outline c.judge_sizes.ensures) ∙ c.in_err-judge_sizes.was));
      parts_are = λ g. no_confusion cc;
    })

pub returns-in_err-judge_slots : goal.returns-in_err-judge_slots
returns-in_err-judge_slots c = let a = c.args in
    let p = packet_at a.ring.now a.first a.o in
    let right = sym (sizes_are a.o p c.requires.0.outline c.judge_sizes.ensures) ∙ c.in_ok-judge_sizes.was in
    let x = err_from_is_err_and c.from_residual-in_err-judge_slots.result c.from_residual-in_err-judge_slots.ensures.1 in
    rw (x.1, x.2) (record {
      verdict = sym (judge_slots_bad a.grants.now a.window.now a.o.extras p _ right (sym c.judge_slots.ensures.verdict ∙ c.in_err-judge_slots.was));
      parts_are = λ g. no_confusion cc;
    })

pub returns : goal.returns
returns c = let a = c.args in
    let o = a.o in
    let p = packet_at a.ring.now a.first o in
    let h = c.requires.0.outline in
    let right = sym (sizes_are o p h c.judge_sizes.ensures) ∙ c.in_ok-judge_sizes.was in
    let r = c.judge_slots.ensures in
    let good = c.in_ok-judge_slots.was in
    record {
      verdict = c.judge_gso.ensures ∙ (λ i. judge_gso o.extras (gso_size_of_lem o o.extras p h i) (gso_type_of_lem o o.extras p h i))
          ∙ sym (judge_gso_lem a.grants.now a.window.now o.extras p right (sym r.verdict ∙ good));
      parts_are = λ g. r.parts_are good;
    }
