-- The words that a take leaves say the queue that its effect leaves, so that lent on they go on with it.
use mathlib.Core.Path.{◌≡◌, ap, ◌∙◌}
use mathlib.Core.Bool.{true, not}
use mathlib.Core.List.{List}
use Prim.Native.Nat.{ℕ}
use lib.Dec.{eqb}
use Rattle.answer.proofs.LentOn.{mark_left}
use Rattle.held.specs.declared.Held.{Held}
use Rattle.transmit.specs.Take.{TakeEffect, transmit_take}
use Rattle.transmit.specs.Words.{queue_of, TakeLeft, TakeLeaves}
use Rattle.transmit.proofs.Cases.{halted_stays}

pub lent_on : (e : TakeEffect) (mark : ℕ) (l : TakeLeft) → (not (eqb mark 0) ≡ true → e.queue.halted ≡ true) → TakeLeaves e mark l
    → queue_of l.consumed l.replied l.mark ≡ e.queue
lent_on e mark l stays h =
    let m : not (eqb l.mark 0) ≡ e.queue.halted = ap (λ (x : ℕ). not (eqb x 0)) h.marks ∙ mark_left mark e.queue.halted stays in
    λ i. record { consumed = h.counter i; replied = h.replies i; halted = m i }

pub take_lent_on : (table window : List ℕ) (consumed replied mark : ℕ) (page frame : List ℕ) (l : List Held) (o : TakeLeft)
    → TakeLeaves (transmit_take table window (queue_of consumed replied mark) page frame l) mark o
    → queue_of o.consumed o.replied o.mark ≡ (transmit_take table window (queue_of consumed replied mark) page frame l).queue
take_lent_on table window consumed replied mark page frame l o =
    lent_on (transmit_take table window (queue_of consumed replied mark) page frame l) mark o (halted_stays table window (queue_of consumed replied mark) page frame l)
