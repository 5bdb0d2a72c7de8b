-- An extra's kind byte is 1.
use Rattle.std.proofs.Common.{Some, ap, ◌∙◌}
use Rattle.grammar.proofs.Loop.{kind_other, kind_extra, another_bit}
use Rattle.shape.proofs.ExtraBehind.announces.Goals as goal

pub returns-then-extra-ne1 : goal.returns-then-extra-ne1
returns-then-extra-ne1 c = rw (kind_other _ _ c.decode-extra.ensures c.if-extra-ne1.true)

pub returns : goal.returns
returns c = rw (kind_extra _ _ c.decode-extra.ensures c.if-extra-ne1.false) (ap Some (c.another_follows.ensures ∙ another_bit _ _ c.decode-extra.ensures))
