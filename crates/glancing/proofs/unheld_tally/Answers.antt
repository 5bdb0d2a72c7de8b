-- Each way out is one law of `Unheld`.
use Rattle.std.proofs.Common.{sym, ◌∙◌}
use Rattle.glancing.proofs.Unheld.{unheld_long, unheld_used, unheld_empty, unheld_some}
use Rattle.glancing.proofs.unheld_tally.Goals as goal
use Rattle.glancing.proofs.unheld_tally.Goals.{then-list-gt-MOST_RECORDS-via-then-list-gt-MOST_RECORDS, then-list-gt-MOST_RECORDS-via-else-list-gt-MOST_RECORDS+then-not-all_free}

pub returns-then-list-gt-MOST_RECORDS : goal.returns-then-list-gt-MOST_RECORDS
returns-then-list-gt-MOST_RECORDS c = let l = c.args.list.now in
    elim c.then-list-gt-MOST_RECORDS.branch [
      | then-list-gt-MOST_RECORDS-via-then-list-gt-MOST_RECORDS w ↦ unheld_long l w.if-list-gt-MOST_RECORDS.true
      | then-list-gt-MOST_RECORDS-via-else-list-gt-MOST_RECORDS+then-not-all_free w ↦ unheld_used l w.if-list-gt-MOST_RECORDS.false (sym w.all_free.ensures ∙ w.if-not-all_free.true)
    ]

pub returns-then-is_empty : goal.returns-then-is_empty
returns-then-is_empty c = unheld_empty c.args.list.now c.if-list-gt-MOST_RECORDS.false (sym c.all_free.ensures ∙ c.if-not-all_free.false) (sym c.is_empty.ensures ∙ c.if-is_empty.true)

pub returns-else-is_empty : goal.returns-else-is_empty
returns-else-is_empty c = unheld_some c.args.list.now c.if-list-gt-MOST_RECORDS.false (sym c.all_free.ensures ∙ c.if-not-all_free.false) (sym c.is_empty.ensures ∙ c.if-is_empty.false)
