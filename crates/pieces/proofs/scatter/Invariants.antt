-- `scatter` meets its contract. The invariant: the pages so far have their pieces.
use mathlib.Core.Path.{◌≡◌}
use lib.ListN.{take}
use Rattle.receive.specs.Put.{scatter}
use Rattle.pieces.proofs.scatter.Given as goal

abbrev pub invariant-loop-i : goal.invariant-loop-i
invariant-loop-i l = l.window ≡ scatter l.initial.window (take l.i l.whole) l.frame
