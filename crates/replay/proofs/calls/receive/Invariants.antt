-- `replay::calls::receive` meets its contract. The invariant: whatever page and window the calls that are left end with, all calls end with them.
use mathlib.Core.List.{List}
use Prim.Native.Nat.{ℕ}
use Rattle.ring.specs.Ring.{rsp_prod}
use Rattle.replay.specs.Calls.{ReceiveCalls}
use Rattle.replay.proofs.calls.receive.Given as goal

abbrev pub invariant-loop-call : goal.invariant-loop-call
invariant-loop-call g l = (after windowAfter : List ℕ) → ReceiveCalls l.grants after windowAfter l.call l.consumed l.halted l.page l.window → ReceiveCalls l.grants after windowAfter 0 (rsp_prod l.initial.page) 0 l.initial.page l.initial.window
