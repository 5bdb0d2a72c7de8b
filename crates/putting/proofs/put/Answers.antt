-- `put` meets its contract. Each test of the code is the next one of the definition, so that each way out is one of its cases (`Calls`).
use mathlib.Core.Path.{refl, sym, ap, ◌∙◌}
use borrow.Author.Tests.{ne_eqb}
use Rattle.answer.specs.declared.Answer.TheVariants as answer
use Rattle.answer.proofs.Ends.{running, gives_refusal}
use Rattle.receive.specs.Put.{receive_put}
use Rattle.receive.proofs.Calls.{sized_page, put_bad_page, put_bad_length, put_halted}
use Rattle.putting.proofs.put.Goals as goal

pub returns-in_default : goal.returns-in_default
returns-in_default c = let a = c.args in
    rw (put_bad_page a.grants.now a.queue a.ring.now a.window.now a.frame.now (ne_eqb _ 4096 c.in_default.ensures.cases), c.keep.ensures)
    (gives_refusal 1 a.queue a.ring.now a.window.now answer.BadPage refl)

pub returns-then-bad_length : goal.returns-then-bad_length
returns-then-bad_length c = let a = c.args in
    let page = c.in-Some.ensures.cases in
    rw (page.same, put_bad_length a.grants.now a.queue a.ring.now a.window.now a.frame.now (sized_page a.ring.now page.long) (sym c.bad_length.ensures ∙ c.if-bad_length.true), c.keep-then-bad_length.ensures)
    (gives_refusal 9 a.queue a.ring.now a.window.now answer.BadLength refl)

pub returns-then-queue : goal.returns-then-queue
returns-then-queue c = let a = c.args in
    let page = c.in-Some.ensures.cases in
    let fine = sym c.bad_length.ensures ∙ c.if-bad_length.false in
    rw (page.same, put_halted a.grants.now a.queue a.ring.now a.window.now a.frame.now (sized_page a.ring.now page.long) fine c.if-queue.true, c.keep-then-queue.ensures)
    (gives_refusal 2 a.queue a.ring.now a.window.now answer.HaltedAlready refl)

pub returns : goal.returns
returns c = let a = c.args in
    let page = c.in-Some.ensures.cases in
    rw (← page.same, ap (λ x. receive_put a.grants.now x c.in-Some.ring.now a.window.now a.frame.now) (running a.queue c.if-queue.false)) c.put_running.ensures
