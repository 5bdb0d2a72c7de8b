-- `copying::copy_eights` meets its contract: what the first passes put at the front of `held` the second ones put at the front of dst.
use mathlib.Core.Path.{ap, ◌∙◌}
use Prim.Native.Nat.{◌*◌, ◌/◌}
use native.Mathlib.Omega.{arith}
use lib.ListN.{length, take}
use lib.Seq.{length-take-le}
use Rattle.words.specs.Word.{splice}
use Rattle.copying.proofs.Copied.{splice_front}
use Rattle.copying.proofs.copy_eights.Goals as goal

pub returns : goal.returns
returns c = let a = c.args in
    let filled = c.copy_passes in
    let emptied = c.copy_passes-2 in
    let m = 8 * (length a.src.now / 8) in (
      emptied.ensures.0
          ∙ ap (splice a.dst.now 0) (ap (take m) filled.ensures.0 ∙ splice_front _ (take m a.src.now) m (length-take-le m a.src.now (omega arith))),
      emptied.ensures.1,
    )
