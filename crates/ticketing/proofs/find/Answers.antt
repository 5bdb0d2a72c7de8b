-- Each way out is one law of `Tickets`, at the offset that is computed.
use Rattle.std.proofs.Common.{◌≡◌, ℕ, ◌+◌, ◌-◌, ◌%◌, ◌<◌, List, Some, sym, ap, ◌∙◌, eqb-true}
use Rattle.std.proofs.lemmas.Bool.{eqb-false, not-true, not-false}
use Rattle.ring.specs.Ring.{wsub}
use Rattle.held.proofs.Offsets.{offset_is}
use Rattle.ticketing.specs.Place.{place_in}
use Rattle.ticketing.proofs.Tickets.{find_beyond, find_none, find_some}
use Rattle.ticketing.proofs.find.Goals as goal
use Rattle.ticketing.proofs.find.Goals.{else-offset-slots-via-then-offset-slots+else-holds, else-offset-slots-via-else-offset-slots}

there : (index : List ℕ) (ticket replied slots : ℕ) → replied < 4294967296
    → place_in index ((ticket + (4294967296 - replied)) % 4294967296) slots ≡ place_in index (wsub ticket replied) slots
there index ticket replied slots h = ap (λ (o : ℕ). place_in index o slots) (offset_is ticket replied h)

pub returns-then-holds : goal.returns-then-holds
returns-then-holds c = let a = c.args in
    ap (λ (p : ℕ). Some p) c.place.ensures
    ∙ find_some a.index.now _ a.slots c.if-offset-slots.true (eqb-false _ 0 (not-true _ (sym c.holds.ensures ∙ c.if-holds.true)))
    ∙ there a.index.now a.ticket a.replied a.slots c.ranges.replied.fits

pub returns-else-offset-slots : goal.returns-else-offset-slots
returns-else-offset-slots c = let a = c.args in
    elim c.else-offset-slots.branch [
      | else-offset-slots-via-then-offset-slots+else-holds w ↦ find_none a.index.now _ a.slots w.if-offset-slots.true (eqb-true _ 0 (not-false _ (sym w.holds.ensures ∙ w.if-holds.false)))
      | else-offset-slots-via-else-offset-slots w ↦ find_beyond a.index.now _ a.slots w.if-offset-slots.false
    ] ∙ there a.index.now a.ticket a.replied a.slots c.ranges.replied.fits
