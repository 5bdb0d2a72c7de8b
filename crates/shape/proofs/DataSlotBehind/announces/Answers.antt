-- A later data slot announces no extra.
use Rattle.std.proofs.Common.{Some, ap, ◌∙◌}
use Rattle.grammar.proofs.Loop.{more_bit, follows_bit}
use Rattle.shape.proofs.DataSlotBehind.announces.Goals as goal

pub returns-then-extra_follows : goal.returns-then-extra_follows
returns-then-extra_follows c = rw (← follows_bit _ _ c.decode-later.ensures, ← c.extra_follows.ensures, c.if-extra_follows.true)

pub returns : goal.returns
returns c = rw (← follows_bit _ _ c.decode-later.ensures, ← c.extra_follows.ensures, c.if-extra_follows.false) (ap Some (c.more_data.ensures ∙ more_bit _ _ c.decode-later.ensures))
