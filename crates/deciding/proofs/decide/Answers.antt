-- `decide` meets its contract, in the order of the answers.
use Rattle.std.proofs.Common.{sym, refl, ◌∙◌, arith}
use Rattle.std.proofs.lemmas.Option.{MatchOption-at_some, MatchOption-at_none}
use Rattle.std.specs.Array.{IsWholeChunk}
use borrow.Author.Tests.{ne_eqb}
use Rattle.transmit.specs.declared.Answer.TheVariants.{BadPage, BadRecords, HaltedAlready, Overflow, Empty}
use Rattle.transmit.specs.Take.{stop}
use Rattle.transmit.specs.Stages.{Lent}
use Rattle.transmit.proofs.Cases.{take_of_lem, look_bad, look_unsound, look_halted, look_over, look_empty, take_some, few_posted}
use Rattle.transmit.proofs.Settling.{gives_refusal, gives_front}
use Rattle.deciding.proofs.decide.Goals as goal
use Rattle.deciding.proofs.decide.Goals.{In-Some}

-- the page is the slice that was lent
whole : (c : In-Some) → IsWholeChunk c.args.ring.now c.in-Some.ring.now 4096
whole c = MatchOption-at_some _ _ _ c.in-Some.is c.as_mut_array.ensures.cases

pub returns-in_default : goal.returns-in_default
returns-in_default c l found = let a = c.args in
    let other = MatchOption-at_none _ _ c.in_default.is c.as_mut_array.ensures.cases in
    rw (take_of_lem a.grants.now a.window.now a.queue a.ring.now l a.frame.now (stop 1) (look_bad a.grants.now a.window.now a.queue a.ring.now l (ne_eqb _ _ other)))
    (gives_refusal 1 a.queue a.ring.now a.frame.now l BadPage refl refl refl)

pub returns-then-not-sound : goal.returns-then-not-sound
returns-then-not-sound c l found = let a = c.args in
    let page = whole (goal.at.returns-then-not-sound c).In-Some in
    rw (page.same, take_of_lem a.grants.now a.window.now a.queue a.ring.now l a.frame.now (stop 17) (look_unsound a.grants.now a.window.now a.queue a.ring.now l page.long (found.soundness ∙ c.if-not-sound.true)))
    (gives_refusal 17 a.queue a.ring.now a.frame.now l BadRecords refl refl refl)

pub returns-then-queue : goal.returns-then-queue
returns-then-queue c l found = let a = c.args in
    let page = whole (goal.at.returns-then-queue c).In-Some in
    let sound = found.soundness ∙ c.if-not-sound.false in
    rw (page.same, take_of_lem a.grants.now a.window.now a.queue a.ring.now l a.frame.now (stop 2) (look_halted a.grants.now a.window.now a.queue a.ring.now l page.long sound c.if-queue.true))
    (gives_refusal 2 a.queue a.ring.now a.frame.now l HaltedAlready refl refl refl)

pub returns-then-overflows : goal.returns-then-overflows
returns-then-overflows c l found = let a = c.args in
    let page = whole (goal.at.returns-then-overflows c).In-Some in
    let sound = found.soundness ∙ c.if-not-sound.false in
    let told = sym (rw page.same at c.overflows.ensures) ∙ c.if-overflows.true in
    rw (page.same, take_of_lem a.grants.now a.window.now a.queue a.ring.now l a.frame.now (stop 3) (look_over a.grants.now a.window.now a.queue a.ring.now l page.long sound c.if-queue.false told))
    (gives_refusal 3 a.queue a.ring.now a.frame.now l Overflow refl refl refl)

pub returns-then-posted-eq0 : goal.returns-then-posted-eq0
returns-then-posted-eq0 c l found = let a = c.args in
    let page = whole (goal.at.returns-then-posted-eq0 c).In-Some in
    let sound = found.soundness ∙ c.if-not-sound.false in
    let fits = sym (rw page.same at c.overflows.ensures) ∙ c.if-overflows.false in
    let none = sym (rw page.same at c.posted-posted.ensures) ∙ c.if-posted-eq0.true in
    rw (take_of_lem a.grants.now a.window.now a.queue a.ring.now l a.frame.now (stop 4) (look_empty a.grants.now a.window.now a.queue a.ring.now l page.long sound c.if-queue.false fits none), c.ask_event.ensures, page.same)
    (gives_refusal 4 a.queue a.ring.now a.frame.now l Empty refl refl refl)

pub take_front-requires : goal.take_front-requires
take_front-requires c = let q = c.args.queue in (
  c.posted-posted.ensures,
  omega (arith, c.if-posted-eq0.false),
  omega (arith, c.posted-posted.ensures, few_posted c.in-Some.ring.now q.consumed q.replied (sym c.overflows.ensures ∙ c.if-overflows.false)),
)

pub returns : goal.returns
returns c l found = let a = c.args in
    let page = whole (goal.at.returns c).In-Some in
    let sound = found.soundness ∙ c.if-not-sound.false in
    let fits = sym (rw page.same at c.overflows.ensures) ∙ c.if-overflows.false in
    let lent : Lent a.queue.consumed a.queue.replied a.full l = record { sound = sound; fullness = found.fullness c.if-not-sound.false } in
    rw (take_some a.grants.now a.window.now a.queue a.ring.now l page.long sound c.if-queue.false fits a.frame.now (λ z. c.if-posted-eq0.false ((rw page.same at c.posted-posted.ensures) ∙ z)))
    (gives_front a.grants.now a.window.now a.queue a.ring.now a.frame.now l _ _ _ c.if-queue.false (rw page.same at (c.take_front.ensures l lent)))
