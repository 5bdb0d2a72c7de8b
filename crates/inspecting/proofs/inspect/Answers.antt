-- Each way out is one law of `Judging`.
use Rattle.std.proofs.Common.{◌≡◌, ℕ, refl, sym, ap, ◌∙◌, leb-true, Some, Option, true, is_some}
use Rattle.words.proofs.Word.{and_both}
use Rattle.ring.specs.Ring.{wsub}
use Rattle.held.specs.Valid.{between}
use Rattle.held.proofs.Offsets.{offset_is}
use Rattle.noting.specs.declared.Tally.{Tally}
use Rattle.inspecting.proofs.Judging.{shown_beyond, not_shown, shown_done}
use Rattle.inspecting.proofs.inspect.Goals as goal

apart : (c r b : ℕ) → b ≡ wsub c r → between c r ≡ b
unfolding between
apart c r b e = sym e

pub returns-then-not-within_limits : goal.returns-then-not-within_limits
returns-then-not-within_limits c = let a = c.args in
    shown_beyond a.list.now a.consumed a.replied a.index.now _ (offset_is a.consumed a.replied c.ranges.replied.fits) (sym c.within_limits.ensures ∙ c.if-not-within_limits.true)

pub returns-in_err-survey : goal.returns-in_err-survey
returns-in_err-survey c = let a = c.args in
    rw c.from_residual.ensures
    (not_shown a.list.now a.consumed a.replied c.survey.new.index
    (c.survey.ensures.refused c.in_err-survey.was a.consumed (sym (offset_is a.consumed a.replied c.ranges.replied.fits))))

pub returns : goal.returns
returns c = let a = c.args in
    let at = offset_is a.consumed a.replied c.ranges.replied.fits in
    let limits = and_both _ _ (sym c.within_limits.ensures ∙ c.if-not-within_limits.false) in
    let found = c.survey.ensures in
    let is = c.in_ok-survey.was in
    shown_done a.list.now a.consumed a.replied _ c.ranges.replied.fits (leb-true _ 256 limits.0) (leb-true _ 256 limits.1) (apart a.consumed a.replied _ at) a.index.now c.survey.new.index c.requires
    c.in_ok-survey.field-0 (rw is at found.found) (found.tickets (ap is_some is)) c.confirm.result c.confirm.ensures
