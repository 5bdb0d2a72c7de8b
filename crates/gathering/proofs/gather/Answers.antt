-- `gather` meets its contract: the parts before this one stand joined at the front of the frame buffer. A turn is a step of `Joining`.
use mathlib.Core.Path.{refl, sym, ◌∙◌}
use native.Mathlib.Omega.{arith}
use Rattle.words.proofs.Word.{splice_none}
use Rattle.packet.proofs.Joining.{next_fits, next_ends, next_stands}
use Rattle.gathering.proofs.gather.Goals as goal

pub loop-part-init : goal.loop-part-init
loop-part-init c = (refl, sym (splice_none _ 0))

pub copy_part-requires : goal.copy_part-requires
copy_part-requires c = let a = c.args in
    let l = c.loop-part in
    let f = next_fits a.window.now a.parts.now a.frame.now c.requires.0 c.requires.1 l.part-index (omega arith) _ l.at l.invariant.0 in
    (f.0, f.1, omega arith)

pub overflow_add-at : goal.overflow_add-at
overflow_add-at c = let a = c.args in
    let l = c.loop-part in
    let f = next_fits a.window.now a.parts.now a.frame.now c.requires.0 c.requires.1 l.part-index (omega arith) (record { page = 0; offset = 0; size = 0 }) l.at l.invariant.0 in
    omega arith

pub loop-part-preserved : goal.loop-part-preserved
loop-part-preserved c = let a = c.args in
    let l = c.loop-part in (
      next_ends a.window.now a.parts.now a.frame.now c.requires.0 c.requires.1 l.part-index (omega arith) _ l.at l.invariant.0,
      c.copy_part.ensures ∙ next_stands a.window.now a.parts.now a.frame.now c.requires.0 c.requires.1 l.part-index (omega arith) _ l.at l.invariant.0 l.frame l.invariant.1,
    )
