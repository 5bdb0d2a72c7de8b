-- The words that a call leaves say the queue that its effect leaves, so that lent on they go on with it: the mark by its two cases, 0 and
-- anything else.
use mathlib.Core.Path.{◌≡◌, refl, sym, ap, ◌∙◌}
use mathlib.Core.Bool.{Bool, true, false, cond, not}
use Prim.Native.Nat.{ℕ}
use lib.Dec.{eqb}
use borrow.Author.Tests.{eqb-true}
use Rattle.answer.specs.Effect.{Effect}
use Rattle.answer.specs.Report.{flag}
use Rattle.answer.specs.Words.{queue_of, mark_after, Left, Leaves}

marked : (mark : ℕ) (h : Bool) → eqb mark 0 ≡ true → not (eqb (mark_after mark h) 0) ≡ h
unfolding mark_after
marked mark true e = rw e
marked mark false e = rw e

kept : (mark : ℕ) (h : Bool) → eqb mark 0 ≡ false → mark_after mark h ≡ mark
unfolding mark_after
kept mark h e = ap (λ (b : Bool). cond b (flag h) mark) e

-- the mark left says what the queue is, if no call undoes a halt
pub mark_left : (mark : ℕ) (halted : Bool) → (not (eqb mark 0) ≡ true → halted ≡ true) → not (eqb (mark_after mark halted) 0) ≡ halted
mark_left mark halted stays = go (eqb mark 0) refl
  where
    go : (b : Bool) → eqb mark 0 ≡ b → not (eqb (mark_after mark halted) 0) ≡ halted
    go true e = marked mark halted e
    go false e = ap (λ (m : ℕ). not (eqb m 0)) (kept mark halted e) ∙ ap not e ∙ sym (stays (ap not e))

-- and is the mark lent, if the call leaves that as it is
pub mark_same : (mark : ℕ) → mark_after mark (not (eqb mark 0)) ≡ mark
unfolding mark_after
mark_same mark = go (eqb mark 0) refl
  where
    go : (b : Bool) → eqb mark 0 ≡ b → cond b (flag (not b)) mark ≡ mark
    go true e = sym (eqb-true mark 0 e)
    go false e = refl

pub lent_on : (e : Effect) (consumed mark : ℕ) (l : Left) → ((queue_of consumed mark).halted ≡ true → e.queue.halted ≡ true) → Leaves e mark l
    → queue_of l.consumed l.mark ≡ e.queue
lent_on e consumed mark l stays h =
    let m : not (eqb l.mark 0) ≡ e.queue.halted = ap (λ (x : ℕ). not (eqb x 0)) h.marks ∙ mark_left mark e.queue.halted stays in
    λ i. record { consumed = h.counter i; halted = m i }
