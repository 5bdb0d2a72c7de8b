-- `fits` meets its contract: its two tests are the definition's, in its order.
use mathlib.Core.Path.{sym, ap, ◌∙◌}
use mathlib.Core.Bool.{◌&&◌}
use native.Mathlib.Omega.{arith}
use lib.Dec.{leb}
use borrow.Author.Tests.{le-leb, lt-leb}
use Rattle.grammar.specs.Grammar.{within}
use Rattle.scanning.proofs.fits.Goals as goal

pub returns-then-datas-le-MOST_DATA_SLOTS : goal.returns-then-datas-le-MOST_DATA_SLOTS
unfolding within
returns-then-datas-le-MOST_DATA_SLOTS c = let a = c.args in sym (ap (◌&& leb a.extras 4) (le-leb a.datas 18 (omega (arith, c.if-datas-le-MOST_DATA_SLOTS.true))))

pub returns-else-datas-le-MOST_DATA_SLOTS : goal.returns-else-datas-le-MOST_DATA_SLOTS
unfolding within
returns-else-datas-le-MOST_DATA_SLOTS c = let a = c.args in
    let over = lt-leb a.datas 18 (omega (arith, c.if-datas-le-MOST_DATA_SLOTS.false)) in
    over ∙ sym (ap (◌&& leb a.extras 4) over)
