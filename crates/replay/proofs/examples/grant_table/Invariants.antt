-- `replay::examples::grant_table` is safe. The invariant: the table keeps its length.
use Rattle.std.proofs.Common.{◌≡◌, length}
use Rattle.replay.proofs.examples.grant_table.Given as goal

abbrev pub invariant-loop-g : goal.invariant-loop-g
invariant-loop-g l = 144 ≡ length l.grants
