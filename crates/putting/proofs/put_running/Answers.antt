-- `put_running` meets its contract. Each test of the code is the next one of the definition, so that each way out is one of its cases
-- (`Calls`), at the place where the code has come to know it.
use mathlib.Core.Path.{refl, sym, ◌∙◌}
use native.Mathlib.Omega.{arith}
use Rattle.answer.specs.Report.{go_on}
use Rattle.answer.specs.declared.Answer.TheVariants as answer
use Rattle.answer.proofs.Ends.{gives_refusal}
use Rattle.receive.proofs.Calls.{one_piece, good_length, sized_page, put_overflow, put_no_buffers, put_settled}
use Rattle.putting.proofs.put_running.Goals as goal

pub returns-then-posted-gt-COUNT : goal.returns-then-posted-gt-COUNT
returns-then-posted-gt-COUNT c = let a = c.args in
    let q = go_on a.first in
    rw (put_overflow a.grants.now q a.ring.now a.window.now a.frame.now (sized_page a.ring.now (omega arith)) c.requires refl _ c.posted-posted.ensures (omega arith), c.halt.ensures)
    (gives_refusal 3 q a.ring.now a.window.now answer.Overflow refl)

pub needed-count-requires : goal.needed-count-requires
needed-count-requires c = good_length _ c.requires

pub returns-then-posted-count : goal.returns-then-posted-count
returns-then-posted-count c = let a = c.args in
    let q = go_on a.first in
    rw (put_no_buffers a.grants.now q a.ring.now a.window.now a.frame.now (sized_page a.ring.now (omega arith)) c.requires refl _ c.posted-posted.ensures (omega arith) _ c.needed-count.ensures (omega arith), c.ask.ensures.0, c.ask.ensures.1)
    (gives_refusal 10 q a.ring.now a.window.now answer.NoBuffers refl)

pub settle_one-requires : goal.settle_one-requires
settle_one-requires c = one_piece _ (sym c.needed-count.ensures ∙ c.if-count-eq1.true)

pub returns-then-count-eq1 : goal.returns-then-count-eq1
returns-then-count-eq1 c = let a = c.args in
    rw (put_settled a.grants.now (go_on a.first) a.ring.now a.window.now a.frame.now (sized_page a.ring.now (omega arith)) c.requires refl _ c.posted-posted.ensures (omega arith) 1 (sym c.if-count-eq1.true ∙ c.needed-count.ensures) (omega arith))
    c.settle_one.ensures

pub settle-requires : goal.settle-requires
settle-requires c = (good_length _ c.requires, c.needed-count.ensures)

pub returns : goal.returns
returns c = let a = c.args in
    rw (put_settled a.grants.now (go_on a.first) a.ring.now a.window.now a.frame.now (sized_page a.ring.now (omega arith)) c.requires refl _ c.posted-posted.ensures (omega arith) _ c.needed-count.ensures (omega arith))
    c.settle.ensures
