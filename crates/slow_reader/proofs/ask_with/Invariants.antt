-- `slow_reader::ask_with` meets its contract. The invariant: with fewer later data slots the slots begin no packet of so many extras. A shape
-- that they agree with is within the limit, as the loop ends there.
use mathlib.Core.Path.{◌≡◌}
use mathlib.Core.Bool.{true}
use Prim.Native.Nat.{ℕ, suc, ◌+◌, ◌≤◌, ◌<◌}
use lib.ListN.{length}
use Rattle.grammar.specs.Grammar.{within}
use Rattle.division.specs.Run.{slots_in}
use Rattle.division.specs.Shape.{shaped}
use Rattle.slow_reader.proofs.ask_with.Given as goal

abbrev pub invariant-loop-later : goal.invariant-loop-later
invariant-loop-later l = (d : ℕ) → d < l.later → within (suc d) l.extras ≡ true → length (slots_in l.run l.at l.n) ≤ suc d + l.extras → shaped d l.extras (slots_in l.run l.at l.n) ≡ true → ⊥
