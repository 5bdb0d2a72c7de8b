-- `tally::of` meets its contract: each count is 1 where the ends are the same, and else 0.
use Rattle.std.proofs.Common.{refl, ◌∙◌}
use Rattle.division.specs.declared.Ending.TheVariants as ending
use Rattle.tally.proofs.Ends.{ends_alike, ends_rest, ends_uneven, ends_long}
use Rattle.tally.proofs.of.Goals as goal

pub returns : goal.returns
returns c = let slow = c.args.compared.slow in
    record {
      runs = refl;
      whole = refl;
      slow = c.count_of.ensures;
      fast = c.count_of-2.ensures;
      agreed = refl;
      alike = c.from.ensures ∙ rw (c.eq.ensures, c.end-slow.ensures, c.end.ensures) (ends_alike slow c.args.compared.fast);
      empty = c.from-2.ensures ∙ rw (c.eq-2.ensures, c.end-slow.ensures) (ends_rest slow ending.Empty);
      waiting = c.from-3.ensures ∙ rw (c.eq-3.ensures, c.end-slow.ensures) (ends_rest slow ending.Waiting);
      misshapen = c.from-4.ensures ∙ rw (c.eq-4.ensures, c.end-slow.ensures) (ends_rest slow ending.Misshapen);
      uneven = c.from-5.ensures ∙ rw (c.eq-5.ensures, c.end-slow.ensures) (ends_uneven slow);
      too_long = c.from-6.ensures ∙ rw (c.eq-6.ensures, c.end-slow.ensures) (ends_long slow);
    }
