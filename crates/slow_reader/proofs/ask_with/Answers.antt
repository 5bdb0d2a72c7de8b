-- `slow_reader::ask_with` meets its contract. The invariant: with fewer later data slots the slots begin no packet of so many extras. A shape
-- that they agree with is within the limit, as the loop ends there.
use mathlib.Core.Path.{◌≡◌, sym, ◌∙◌}
use mathlib.Core.Bool.{true, false}
use Prim.Native.Nat.{suc}
use native.Mathlib.Omega.{arith}
use borrow.Author.Count.{below_more}
use Rattle.words.proofs.Word.{no_confusion}
use Rattle.grammar.proofs.Within.{within_most, within_datas}
use Rattle.division.specs.Run.{slots_in}
use Rattle.division.proofs.Runs.{slots_length}
use Rattle.division.proofs.Shapes.{shape_packet, shape_begins}
use Rattle.slow_reader.proofs.ask_with.Goals as goal
use Rattle.slow_reader.proofs.ask_with.Goals.{else-n-all-via-then-n-all+else-shaped, else-n-all-via-else-n-all}

pub loop-later-init : goal.loop-later-init
loop-later-init c = λ d h. absurd (omega arith)

pub returns-then-n-all-2 : goal.returns-then-n-all-2
returns-then-n-all-2 c = let l = c.loop-later in
    let a = c.args in
    shape_packet l.later a.extras (within_most (suc l.later) a.extras (omega arith) c.requires.3) (slots_in a.run.now a.at a.n)
    (omega (arith, slots_length a.run.now a.n a.at)) (rw c.shaped.ensures at c.if-shaped.true)

pub returns-then-shaped : goal.returns-then-shaped
returns-then-shaped c = let l = c.loop-later in
    let a = c.args in
    let k = slots_length a.run.now a.n a.at in
    shape_begins l.later a.extras (within_most (suc l.later) a.extras (omega arith) c.requires.3) (slots_in a.run.now a.at a.n)
    (omega arith) (omega (arith, c.if-n-all.true, c.if-n-all-2.false)) (rw c.shaped.ensures at c.if-shaped.true)

pub loop-later-preserved : goal.loop-later-preserved
loop-later-preserved c = let l = c.loop-later in
    let a = c.args in
    below_more _ _ l.invariant
    (λ w n h. elim c.else-n-all.branch [
      | else-n-all-via-then-n-all+else-shaped v ↦ (let z : true ≡ false = sym h ∙ sym v.shaped.ensures ∙ v.if-shaped.false in no_confusion cc)
      | else-n-all-via-else-n-all v ↦ omega (arith, v.if-n-all.false, slots_length a.run.now a.n a.at)
    ])

pub returns : goal.returns
returns c = let l = c.loop-later in
    let a = c.args in
    λ d w. l.invariant d (omega (arith, within_datas (suc d) a.extras w)) w
