-- `slow_reader::ask` meets its contract. The invariant: the slots begin no packet of fewer extras. Slots that begin a packet agree with its
-- shape, which is within the limit, so that it was tried.
use Prim.Native.Nat.{ℕ, ◌<◌}
use Rattle.division.specs.Run.{slots_in}
use Rattle.slow_reader.specs.Asking.{AskedWith}
use Rattle.std.specs.Prelude.{None}
use Rattle.slow_reader.proofs.ask.Given as goal

abbrev pub invariant-loop-extras : goal.invariant-loop-extras
invariant-loop-extras l = (e : ℕ) → e < l.extras → AskedWith e (slots_in l.run l.at l.n) None
