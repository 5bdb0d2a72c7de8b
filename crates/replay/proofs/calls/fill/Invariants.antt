-- `replay::calls::fill` meets its contract. The invariant: the bytes passed count up.
use Rattle.replay.specs.Pattern.{Counted}
use Rattle.replay.proofs.calls.fill.Given as goal

abbrev pub invariant-loop-i : goal.invariant-loop-i
invariant-loop-i l = Counted l.start l.i l.bytes
