-- `judge_later` meets its contract. The invariant: the verdict on all later data slots is that on those left, since those passed
-- are good; their parts are in the table, whose sizes stay, and what is behind them. Each way out is one law of `Plans`.
use mathlib.Core.Path.{◌≡◌}
use mathlib.Core.List.{map, ◌++◌}
use Prim.Native.Nat.{ℕ, suc, ◌+◌, ◌-◌, ◌≤◌}
use lib.ListN.{take, drop}
use Rattle.netif.specs.Slot.{transmit_slots}
use Rattle.grammar.specs.Stages.{sizes_in}
use Rattle.packet.specs.Judge.{judge_later}
use Rattle.packet.specs.Stages.{later_plan, later_at}
use Rattle.planning.proofs.judge_later.Given as goal

abbrev pub invariant-loop-i : goal.invariant-loop-i
invariant-loop-i l =
    (judge_later l.grants l.window (suc l.extras) (later_at l.ring l.first l.extras l.later) ≡ judge_later l.grants l.window (suc l.extras + l.i) (transmit_slots l.ring (l.first + (l.extras + 1) + l.i) (l.later - l.i)))
    × (take (l.i + 1) l.parts ≡ take 1 l.initial.parts ++ map (later_plan l.grants) (later_at l.ring l.first l.extras l.i))
    × (sizes_in l.parts ≡ sizes_in l.initial.parts)
    × ((m : ℕ) → l.i + 1 ≤ m → drop m l.parts ≡ drop m l.initial.parts)
