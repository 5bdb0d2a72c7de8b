-- `is_count` meets its contract: the limits of a packet, and a data slot at least.
use Rattle.std.proofs.Common.{◌∙◌}
use borrow.Author.Tests.{lt-leb}
use Rattle.fitting.proofs.Fits.{count_many, count_few}
use Rattle.fitting.proofs.is_count.Goals as goal

pub returns-then-extras-le-MOST_EXTRAS : goal.returns-then-extras-le-MOST_EXTRAS
returns-then-extras-le-MOST_EXTRAS c = count_few c.args.slots c.args.extras c.if-extras-le-MOST_EXTRAS.true c.ranges.slots.fits

pub returns-else-extras-le-MOST_EXTRAS : goal.returns-else-extras-le-MOST_EXTRAS
returns-else-extras-le-MOST_EXTRAS c = let over = c.if-extras-le-MOST_EXTRAS.false in
    lt-leb c.args.extras 4 over ∙ count_many c.args.slots c.args.extras over
