-- `shape::leads` meets its contract: what the slot's bits say is compared with what is to be.
use Rattle.shape.proofs.Reading.{leads_here}
use Rattle.shape.proofs.leads.Goals as goal

pub returns-then-extra_follows-extras : goal.returns-then-extra_follows-extras
returns-then-extra_follows-extras c = let a = c.args in
    rw (← leads_here a.later a.extras a.first.now _ c.decode-head.ensures, ← c.extra_follows.ensures, c.if-extra_follows-extras.true, ← c.more_data.ensures)

pub returns-else-extra_follows-extras : goal.returns-else-extra_follows-extras
returns-else-extra_follows-extras c = let a = c.args in
    rw (← leads_here a.later a.extras a.first.now _ c.decode-head.ensures, ← c.extra_follows.ensures, c.if-extra_follows-extras.false)
