-- Each turn notes one record.
use Rattle.inspecting.proofs.Turns.{Turn}
use Rattle.inspecting.proofs.survey.Given as goal

abbrev pub invariant-loop-i : goal.invariant-loop-i
invariant-loop-i l = Turn l.list l.replied l.between l.initial.index l.index l.tally l.i
