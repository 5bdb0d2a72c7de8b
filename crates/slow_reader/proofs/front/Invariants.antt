-- `slow_reader::front` meets its contract. The invariant: one slot fewer than the length that is asked about next is a proper beginning.
use Rattle.std.proofs.Common.{◌-◌}
use Rattle.grammar.specs.Grammar.{BeginsProperly}
use Rattle.division.specs.Run.{slots_in}
use Rattle.slow_reader.proofs.front.Given as goal

abbrev pub invariant-loop-n : goal.invariant-loop-n
invariant-loop-n l = BeginsProperly (slots_in l.run l.at (l.n - 1))
