-- `replay::calls::fill` meets its contract. Each byte written counts on, and those before it stay.
use mathlib.Core.Path.{◌∙◌}
use mathlib.Core.List.{List}
use Prim.Native.Nat.{ℕ, ◌+◌, ◌%◌, ◌<◌}
use native.Mathlib.Omega.{arith}
use lib.ListN.{length, set}
use lib.Seq.{get_or-set_same, get_or-set_other}
use borrow.Author.Count.{below_none, below_more}
use Rattle.replay.specs.Pattern.{Counted}
use Rattle.replay.proofs.Calling.{counted_fewer}
use Rattle.replay.proofs.calls.fill.Goals as goal

counted_none : (start : ℕ) (l : List ℕ) → Counted start 0 l
unfolding Counted
counted_none start l = below_none _

counted-more : (start i : ℕ) (l : List ℕ) → i < length l → Counted start i l → Counted start (i + 1) (set l i ((i % 251 + start) % 251))
unfolding Counted
counted-more start i l h all =
    let v = (i % 251 + start) % 251 in
    below_more _ i
    (λ k lt. get_or-set_other l i k v 0 (λ e. absurd (omega (arith, e, lt))) ∙ all k lt)
    (get_or-set_same l i v 0 h ∙ omega arith)

pub loop-i-init : goal.loop-i-init
loop-i-init c = counted_none _ _

pub loop-i-preserved : goal.loop-i-preserved
loop-i-preserved c = counted-more c.args.start c.loop-i.i c.loop-i.bytes (omega arith) c.loop-i.invariant

pub returns : goal.returns
returns c = counted_fewer c.args.start c.loop-i.i (length c.args.bytes.now) c.loop-i.bytes (omega arith) c.loop-i.invariant
