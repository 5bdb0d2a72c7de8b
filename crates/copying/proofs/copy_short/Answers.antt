-- `copying::copy_short` meets its contract. A turn that copies is `splice_next`; one that does not finds all of src copied.
use mathlib.Core.Path.{sym, ap, ◌∙◌}
use Prim.Native.Nat.{◌+◌}
use native.Mathlib.Omega.{arith}
use lib.ListN.{set, get_or}
use lib.Seq.{take_all}
use Rattle.words.specs.Word.{splice}
use Rattle.words.proofs.Word.{splice_none}
use Rattle.copying.proofs.Copied.{splice_next}
use Rattle.copying.proofs.copy_short.Goals as goal
use Rattle.copying.proofs.copy_short.Goals.{then-i-src, else-i-src}

pub loop-i-init : goal.loop-i-init
loop-i-init c = sym (splice_none _ _)

pub loop-i-preserved : goal.loop-i-preserved
loop-i-preserved c = let l = c.loop-i in
    let a = c.args in
    elim c.if-i-src.branch [
      | then-i-src w ↦
          w.dst-is ∙ ap (λ d. set d l.i (get_or a.src.now l.i 0)) l.invariant ∙ splice_next a.dst.now 0 a.src.now l.i l.i (omega arith) (omega arith) (omega arith)
      | else-i-src w ↦
          w.dst-is ∙ l.invariant ∙ ap (splice a.dst.now 0) (take_all l.i a.src.now (omega arith) ∙ sym (take_all (l.i + 1) a.src.now (omega arith)))
    ]
