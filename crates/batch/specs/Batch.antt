-- Request 5, many packets a call: single takes one after another, each lent what is left of the frame buffer.
use Rattle.std.specs.Prelude.{List, [], ◌++◌, map, Bool, cond, ◌||◌, ℕ, zero, suc, ◌+◌, length, take, drop, ltb, eqb}
use Rattle.grammar.specs.Service.{◌▹◌}
use Rattle.answer.specs.Report.{Report}
use Rattle.answer.specs.Words.{report_words}
use Rattle.held.specs.declared.Held.{Held}
use Rattle.transmit.specs.declared.Queue.{Queue}
use Rattle.transmit.specs.Take.{TakeEffect, transmit_take}

-- the most packets that a call can be asked for
abbrev pub most_packets : ℕ
most_packets = 256

-- what stands between two takes of a batch: the queue, the ring page, the list of records, the whole frame buffer with the number of its
-- bytes that are filled with frames, and the reports of the takes so far
pub record Progress : Type 0 where
  pub queue : Queue
  pub page : List ℕ
  pub list : List Held
  pub frame : List ℕ
  pub filled : ℕ
  pub reports : List Report

-- before the first take nothing is filled and nothing is reported
abbrev pub begun : Queue → (page frame : List ℕ) → List Held → Progress
begun q page frame l = record { queue = q; page = page; list = l; frame = frame; filled = 0; reports = [] }

-- a take is listed: what it left of its part of the frame buffer stands behind the bytes filled before it, and its total, which is 0 unless a
-- packet was handed over, is filled now
abbrev pub listed : Progress → TakeEffect → Progress
listed b e = record {
  queue = e.queue;
  page = e.page;
  list = e.list;
  frame = take b.filled b.frame ++ e.frame;
  filled = b.filled + e.report.total;
  reports = b.reports ▹ e.report;
}

-- the answers that a batch goes on after: done and spoiled
abbrev pub goes_on : ℕ → Bool
goes_on n = eqb n 0 || eqb n 7

module _ (table window : List ℕ) where
  -- the take that comes next: it is lent what is left of the frame buffer
  abbrev pub next_take : Progress → TakeEffect
  next_take b = transmit_take table window b.queue b.page (drop b.filled b.frame) b.list

  -- up to n takes; the first one answered neither 0 nor 7 is listed last
  abbrev pub batch : ℕ → Progress → Progress
  batch zero b = b
  batch (suc n) b =
      let after = listed b (next_take b) in
      cond (goes_on (next_take b).report.answer) (batch n after) after

-- ---- the call

-- what it leaves: its answer, the count of reports listed, and all that it was lent to write
pub record BatchEffect : Type 0 where
  pub answer : ℕ
  pub count : ℕ
  pub queue : Queue
  pub page : List ℕ
  pub frame : List ℕ
  pub list : List Held
  pub results : List (List ℕ)

-- the lent list of results with these reports, eleven words each, in its first places; what stands behind them stays
unfoldable pub stored : List (List ℕ) → List Report → List (List ℕ)
stored results reports = map report_words reports ++ drop (length reports) results

-- 16: the list of results is shorter than the packets asked for, or more are asked for than a call can be
abbrev pub bad_results : (results : List (List ℕ)) (most : ℕ) → Bool
bad_results results most = ltb (length results) most || ltb most_packets most

abbrev pub refused_batch : Queue → (page frame : List ℕ) → List Held → (results : List (List ℕ)) → BatchEffect
refused_batch q page frame l results = record { answer = 16; count = 0; queue = q; page = page; frame = frame; list = l; results = results }

abbrev pub done_batch : (results : List (List ℕ)) → Progress → BatchEffect
done_batch results b = record {
  answer = 0;
  count = length b.reports;
  queue = b.queue;
  page = b.page;
  frame = b.frame;
  list = b.list;
  results = stored results b.reports;
}

-- 16 is tested before all else
unfoldable pub transmit_batch : (table window : List ℕ) → Queue → (page frame : List ℕ) → List Held → (results : List (List ℕ)) (most : ℕ) → BatchEffect
transmit_batch table window q page frame l results most =
    cond (bad_results results most)
    (refused_batch q page frame l results)
    (done_batch results (batch table window most (begun q page frame l)))
