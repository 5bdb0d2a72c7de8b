-- The numbers fit what is lent, and what was asked is what is left to do.
use Prim.Native.Nat.{◌-◌, ◌*◌, ◌<◌, ◌≤◌}
use mathlib.Core.Path.{◌≡◌}
use lib.ListN.{length}
use Rattle.batch.specs.Batch.{begun}
use Rattle.batching.specs.Course.{Known}
use Rattle.batching.proofs.Course.{ToDo}
use Rattle.batching.proofs.take_many.Given as goal

abbrev pub invariant-loop : goal.invariant-loop
invariant-loop l = record {
  known : l.counter < l.most → Known l.batch l.list;
  filled : l.batch.filled ≤ length l.frame;
  bounded : l.batch.filled ≤ l.batch.count * 4294967295;
  counted : l.batch.count ≡ l.counter;
  to_do : ToDo l.grants l.window l.most (begun l.fn.queue l.fn.ring l.fn.frame l.fn.list) l.fn.results (l.most - l.counter) l.batch l.ring l.list l.frame l.results;
}
