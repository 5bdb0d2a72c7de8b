-- `read` meets its contract: the scan starts behind the first slot, goes on behind the extras, of which there may be none, and
-- ends where a stage ends it.
use mathlib.Core.Path.{◌≡◌, ◌∙◌}
use Rattle.grammar.proofs.Reading.{read_unfinished, head_read, after_extras, no_extras}
use Rattle.netif.specs.Slot.{transmit_slots}
use Rattle.grammar.specs.Divide.{scan, divide}
use Rattle.grammar.specs.Stages.{behind}
use Rattle.divider.proofs.read.Goals as goal
use Rattle.divider.proofs.read.Goals.{After-extra_follows-announced}

-- what the first slot says of the rest
head : (c : After-extra_follows-announced) → divide (transmit_slots c.args.page.now c.args.first c.args.posted)
    ≡ scan (behind c.args.page.now c.args.first c.args.posted 1) 1 0 c.extra_follows-announced.result c.more_data-more.result
head c = head_read c.args.page.now c.args.first c.args.posted c.read-head.result _ _ c.requires c.read-head.ensures c.extra_follows-announced.ensures c.more_data-more.ensures

pub read_rest-requires : goal.read_rest-requires
read_rest-requires c = let a = c.args in
    after_extras a.page.now a.first a.posted _ _ _ (head (goal.at.read_rest-requires c).After-extra_follows-announced)
    (no_extras a.page.now a.first a.posted _ c.if-not-announced.true c.requires)

pub returns-in-Err : goal.returns-in-Err
returns-in-Err c =
    read_unfinished _ _ _ _ (head (goal.at.returns-in-Err c).After-extra_follows-announced ∙ c.in-Err.ensures.0 c.more_data-more.result)

pub read_rest-requires-2 : goal.read_rest-requires-2
read_rest-requires-2 c = let a = c.args in
    after_extras a.page.now a.first a.posted _ _ _ (head (goal.at.read_rest-requires-2 c).After-extra_follows-announced) c.in-Ok.ensures
