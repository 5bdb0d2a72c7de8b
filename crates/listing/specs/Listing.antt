-- A take of a batch: what it leaves of the whole frame buffer and of the list of results, and the numbers behind it.
use Rattle.std.specs.Prelude.{List, Option, is_some, ◌++◌, ℕ, ◌+◌, take, set}
use Rattle.answer.specs.Words.{report_words}
use Rattle.noting.specs.declared.Tally.{Tally}
use Rattle.noting.specs.Survey.{free_in}
use Rattle.transmit.specs.declared.Queue.{Queue}
use Rattle.transmit.specs.Take.{TakeEffect}
use Rattle.transmit.specs.declared.Answer.{Answer}
use Rattle.transmit.specs.Stages.{report_of}
use Rattle.concluding.specs.declared.Taken.{Taken}
use Rattle.listing.specs.declared.Batch.{Batch}

-- the numbers before the first take
abbrev pub started : Queue → Option Tally → Batch
started q found = record { queue = q; good = is_some found; free = free_in found; filled = 0; count = 0 }

-- the effect e of a take that was lent the frame buffer behind the bytes filled, over the whole frame buffer
abbrev pub behind : (filled : ℕ) (frame : List ℕ) → TakeEffect → TakeEffect
behind filled frame e = record { report = e.report; queue = e.queue; page = e.page; frame = take filled frame ++ e.frame; list = e.list }

-- the list of results with the report of a take at a place
abbrev pub listed_in : (results : List (List ℕ)) (at : ℕ) → Taken → List (List ℕ)
listed_in results at t = set results at (report_words (report_of t.ticket t.answer))

-- the total that is reported with an answer
abbrev pub total_of : Answer → ℕ
total_of a = (report_of 0 a).total

abbrev pub advanced : Batch → Taken → (free : Option ℕ) → Batch
advanced b t free = record {
  queue = t.queue;
  good = b.good;
  free = free;
  filled = b.filled + total_of t.answer;
  count = b.count + 1;
}
