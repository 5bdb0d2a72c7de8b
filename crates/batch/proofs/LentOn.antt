-- The words that a batch leaves say the queue that its effect leaves, so that lent on they go on with it: no take undoes a halt.
use mathlib.Core.Path.{◌≡◌, refl, ap, ◌∙◌}
use mathlib.Core.Bool.{Bool, true, false, not, cond}
use mathlib.Core.List.{List}
use Prim.Native.Nat.{ℕ}
use lib.Dec.{eqb}
use Rattle.words.proofs.Word.{no_confusion}
use Rattle.answer.specs.Report.{flag}
use Rattle.answer.specs.Words.{mark_after}
use Rattle.answer.proofs.LentOn.{mark_left}
use Rattle.held.specs.declared.Held.{Held}
use Rattle.transmit.specs.declared.Queue.{Queue}
use Rattle.transmit.specs.Words.{queue_of}
use Rattle.batch.specs.Batch.{begun, batch, BatchEffect, bad_results, refused_batch, done_batch, transmit_batch}
use Rattle.batch.specs.Words.{BatchLeft, BatchLeaves}
use Rattle.batch.proofs.Course.{batch_halted}

pub lent_on : (e : BatchEffect) (mark : ℕ) (l : BatchLeft) → (not (eqb mark 0) ≡ true → e.queue.halted ≡ true) → BatchLeaves e mark l
    → queue_of l.consumed l.replied l.mark ≡ e.queue
lent_on e mark l stays h =
    let m : not (eqb l.mark 0) ≡ e.queue.halted = ap (λ (x : ℕ). not (eqb x 0)) h.marks ∙ mark_left mark e.queue.halted stays in
    λ i. record { consumed = h.counter i; replied = h.replies i; halted = m i }

pub halted_stays : (table window : List ℕ) (q : Queue) (page frame : List ℕ) (l : List Held) (results : List (List ℕ)) (most : ℕ) → q.halted ≡ true
    → (transmit_batch table window q page frame l results most).queue.halted ≡ true
unfolding transmit_batch
halted_stays table window q page frame l results most h = go (bad_results results most)
  where
    go : (b : Bool) → (cond b (refused_batch q page frame l results) (done_batch results (batch table window most (begun q page frame l)))).queue.halted ≡ true
    go true = h
    go false = batch_halted table window most (begun q page frame l) h

pub batch_lent_on : (table window : List ℕ) (consumed replied mark : ℕ) (page frame : List ℕ) (l : List Held) (results : List (List ℕ)) (most : ℕ) (o : BatchLeft)
    → BatchLeaves (transmit_batch table window (queue_of consumed replied mark) page frame l results most) mark o
    → queue_of o.consumed o.replied o.mark ≡ (transmit_batch table window (queue_of consumed replied mark) page frame l results most).queue
batch_lent_on table window consumed replied mark page frame l results most o =
    lent_on (transmit_batch table window (queue_of consumed replied mark) page frame l results most) mark o (halted_stays table window (queue_of consumed replied mark) page frame l results most)

-- the mark after two calls, of which the second undoes no halt of the first, is that after one that does what the second did
pub mark_again : (mark : ℕ) (h k : Bool) → (h ≡ true → k ≡ true) → mark_after (mark_after mark h) k ≡ mark_after mark k
unfolding mark_after
mark_again mark h k stays = go (eqb mark 0) refl h k stays
  where
    go : (b : Bool) → eqb mark 0 ≡ b → (h k : Bool) → (h ≡ true → k ≡ true) → cond (eqb (cond b (flag h) mark) 0) (flag k) (cond b (flag h) mark) ≡ cond b (flag k) mark
    go true e true true s = refl
    go true e true false s = no_confusion (let z : false ≡ true = s refl in cc)
    go true e false k s = refl
    go false e h k s = rw e
