-- `copying::copy_short` meets its contract. After i turns dst starts with the first i bytes of src, or with all of them where there are
-- fewer.
use mathlib.Core.Path.{◌≡◌}
use lib.ListN.{take}
use Rattle.words.specs.Word.{splice}
use Rattle.copying.proofs.copy_short.Given as goal

abbrev pub invariant-loop-i : goal.invariant-loop-i
invariant-loop-i l = l.dst ≡ splice l.initial.dst 0 (take l.i l.src)
