-- `replay::calls::transmit` meets its contract. The invariant: whatever page the calls that are left end with, all calls end with it.
use mathlib.Core.List.{List}
use Prim.Native.Nat.{ℕ}
use Rattle.replay.specs.Calls.{stored, TransmitCalls}
use Rattle.replay.proofs.calls.transmit.Given as goal

abbrev pub invariant-loop-call : goal.invariant-loop-call
invariant-loop-call g l = (after : List ℕ) → TransmitCalls l.grants l.window after l.call (record { consumed = l.consumed; replied = l.replied; mark = l.halted; page = l.page })
    → TransmitCalls l.grants l.window after 0 (stored l.initial.page)
