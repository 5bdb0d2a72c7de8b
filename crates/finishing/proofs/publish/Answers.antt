-- Where no slot is replied to the counter stays, and that is no event.
use borrow.Author.Rules.{rules}
use Rattle.finishing.proofs.Answers.{published_none, published_some}
use Rattle.finishing.proofs.publish.Goals as goal

pub returns-then-slots-eq0 : goal.returns-then-slots-eq0
returns-then-slots-eq0 c = let a = c.args in published_none a.ring.now a.replied a.slots (search rules) c.if-slots-eq0.true

pub returns : goal.returns
returns c = let a = c.args in
    let moved = c.publish-notify in
    published_some a.ring.now a.replied a.slots c.if-slots-eq0.false c.ahead.result c.ahead.ensures moved.result _ moved.ensures
