-- A batch is single takes one after another. What a batch that is not refused leaves is what `batch` comes to (`from_words`); of that the laws of
-- `Course` speak, and `Stored` reads the counts, answers and totals off the words.
use mathlib.Core.Path.{◌≡◌, refl, sym, ap, ◌∙◌}
use mathlib.Core.List.{List, [], ◌∷◌, ◌++◌}
use mathlib.Core.Bool.{Bool, true, false, cond}
use Prim.Native.Nat.{ℕ, ◌+◌, ◌≤◌, ◌<◌}
use native.Mathlib.Omega.{arith}
use lib.ListN.{length, take, drop, get_or, length-append, length-drop}
use borrow.Author.Tests.{le-ltb}
use Rattle.words.specs.Lists.{all}
use Rattle.answer.specs.Report.{plain}
use Rattle.answer.specs.Words.{mark_after}
use Rattle.held.specs.declared.Held.{Held}
use Rattle.transmit.specs.declared.Queue.{Queue}
use Rattle.transmit.specs.Take.{TakeEffect, transmit_take}
use Rattle.transmit.specs.Words.{TakeLeaves}
use Rattle.batch.specs.Batch.{Progress, begun, listed, goes_on, batch, BatchEffect, stored, done_batch, transmit_batch}
use Rattle.batch.specs.Words.{BatchLeft, BatchLeaves}
use Rattle.batch.specs.Repeated.{Start, start_queue, BatchFrom, count_of, answer_at, filled_before, GoesOn, WentOn, start_behind, AsTake, OneTake, AsTwo, TwoBatches, EndedBatch}
use Rattle.batch.proofs.Course.{on_report, totals, batch_split, batch_over, behind, batch_anew, Fills, batch_fills, begun_fills, batch_halted}
use Rattle.batch.proofs.Stored.{stored_behind, stored_answer, stored_totals, stored_two, all_goes, not_all}
use Rattle.batch.proofs.LentOn.{batch_lent_on, mark_again}

-- two that left one effect left the same
pub left_same : (e : BatchEffect) (mark : ℕ) (l a : BatchLeft) → BatchLeaves e mark l → BatchLeaves e mark a → l ≡ a
left_same e mark l a h k = λ i. record {
  returned = (h.returns ∙ sym k.returns) i;
  consumed = (h.counter ∙ sym k.counter) i;
  replied = (h.replies ∙ sym k.replies) i;
  mark = (h.marks ∙ sym k.marks) i;
  page = (h.pages ∙ sym k.pages) i;
  frame = (h.frames ∙ sym k.frames) i;
  list = (h.records ∙ sym k.records) i;
  results = (h.listings ∙ sym k.listings) i;
  words = (h.reports ∙ sym k.reports) i;
}

-- what a batch leaves that is lent this mark
abbrev pub left_of : BatchEffect → (mark : ℕ) → BatchLeft
left_of e mark = record {
  returned = e.answer;
  consumed = e.queue.consumed;
  replied = e.queue.replied;
  mark = mark_after mark e.queue.halted;
  page = e.page;
  frame = e.frame;
  list = e.list;
  results = e.results;
  words = e.answer ∷ e.count ∷ [];
}

pub left_so : (e : BatchEffect) (mark : ℕ) → BatchLeaves e mark (left_of e mark)
left_so e mark = record { returns = refl; reports = refl; counter = refl; replies = refl; marks = refl; pages = refl; frames = refl; records = refl; listings = refl }

module _ (table window : List ℕ) where
  -- the takes of a batch that is not refused
  abbrev pub takes_from : Start → ℕ → Progress
  takes_from s most = batch table window most (begun (start_queue s) s.page s.frame s.list)

  pub accepted : (q : Queue) (page frame : List ℕ) (l : List Held) (results : List (List ℕ)) (most : ℕ) → most ≤ 256 → most ≤ length results
      → transmit_batch table window q page frame l results most ≡ done_batch results (batch table window most (begun q page frame l))
  unfolding transmit_batch
  accepted q page frame l results most few long = rw (le-ltb (length results) most long, le-ltb 256 most few)

  pub from_words : (s : Start) (results : List (List ℕ)) (most : ℕ) → most ≤ 256 → most ≤ length results → (l : BatchLeft) → BatchFrom table window s results most l
      → BatchLeaves (done_batch results (takes_from s most)) s.mark l
  from_words s results most few long l h = rw (accepted (start_queue s) s.page s.frame s.list results most few long) at h

  pub takes_fill : (s : Start) (most : ℕ) → Fills table window s.frame (takes_from s most)
  takes_fill s most = batch_fills table window s.frame most (begun (start_queue s) s.page s.frame s.list) (begun_fills table window (start_queue s) s.page s.frame s.list)

-- ---- what is read off the words

module _ (results : List (List ℕ)) (b : Progress) (mark : ℕ) (l : BatchLeft) (h : BatchLeaves (done_batch results b) mark l) where
  pub count_is : count_of l ≡ length b.reports
  count_is = ap (λ (w : List ℕ). get_or w 1 0) h.reports

  pub answer_is : (i : ℕ) → i < length b.reports → answer_at l i ≡ (get_or b.reports i (plain 0)).answer
  answer_is i k = ap (λ (r : List (List ℕ)). get_or (get_or r i []) 0 0) h.listings ∙ stored_answer results b.reports i k

  pub filled_is : filled_before l (length b.reports) ≡ totals b.reports
  filled_is = rw h.listings (stored_totals results b.reports)

  pub went_on : (n : ℕ) → WentOn l n → (length b.reports ≡ n) × (all on_report b.reports ≡ true)
  went_on n w =
      let c : length b.reports ≡ n = sym count_is ∙ w.count in
      (c, all_goes b.reports (λ i k. (let g : GoesOn (answer_at l i) = w.each i (omega arith) in rw (answer_is i k) at g)))

-- ---- a batch of one

pub one_take : OneTake
unfolding OneTake stored
one_take table window s results long o t l h =
    as_take (transmit_take table window (start_queue s) s.page s.frame s.list) t
    (rw (both (goes_on (transmit_take table window (start_queue s) s.page s.frame s.list).report.answer)) at (from_words table window s results 1 (omega arith) long l h))
  where
    both : (b : Bool) → cond b (listed (begun (start_queue s) s.page s.frame s.list) (transmit_take table window (start_queue s) s.page s.frame s.list))
        (listed (begun (start_queue s) s.page s.frame s.list) (transmit_take table window (start_queue s) s.page s.frame s.list))
        ≡ listed (begun (start_queue s) s.page s.frame s.list) (transmit_take table window (start_queue s) s.page s.frame s.list)
    both true = refl
    both false = refl

    as_take : (e : TakeEffect) → TakeLeaves e s.mark o → BatchLeaves (done_batch results (listed (begun (start_queue s) s.page s.frame s.list) e)) s.mark l → AsTake results o l
    as_take e t h = record {
      returns = h.returns;
      reports = h.reports;
      counter = h.counter ∙ sym t.counter;
      replies = h.replies ∙ sym t.replies;
      marks = h.marks ∙ sym t.marks;
      pages = h.pages ∙ sym t.pages;
      frames = h.frames ∙ sym t.frames;
      records = h.records ∙ sym t.records;
      listings = h.listings ∙ ap (◌∷ drop 1 results) (sym t.reports);
    }

-- ---- two batches

module _ (table window : List ℕ) (s : Start) (results : List (List ℕ)) (m n : ℕ) (few : m + n ≤ 256) (long : m + n ≤ length results) (a : BatchLeft) (x : BatchFrom table window s results m a) where
  abbrev first : Progress
  first = takes_from table window s m

  -- the second, begun on what the first left
  abbrev second : Progress
  second = batch table window n (begun first.queue first.page (drop first.filled first.frame) first.list)

  first_left : BatchLeaves (done_batch results first) s.mark a
  first_left = from_words table window s results m (omega arith) (omega arith) a x

  module _ (w : WentOn a m) where
    counted : length first.reports ≡ m
    counted = (went_on results first s.mark a first_left m w).0

    filled : filled_before a m ≡ first.filled
    filled = ap (filled_before a) (sym counted) ∙ filled_is results first s.mark a first_left ∙ sym (takes_fill table window s m).sums

    both_are : takes_from table window s (m + n) ≡ behind table window (take first.filled first.frame) first.reports second
    both_are =
        batch_split table window m n (begun (start_queue s) s.page s.frame s.list) (went_on results first s.mark a first_left m w).1
        ∙ batch_anew table window n first (takes_fill table window s m).fits

    -- lent what the first left, the second begins there
    second_left : (b : BatchLeft) → BatchFrom table window (start_behind a m) (drop m a.results) n b → BatchLeaves (done_batch (drop m results) second) a.mark b
    second_left b y =
        let h = first_left in
        let q : start_queue (start_behind a m) ≡ first.queue
        = batch_lent_on table window s.consumed s.replied s.mark s.page s.frame s.list results m a x
        ∙ ap (λ (e : BatchEffect). e.queue) (accepted table window (start_queue s) s.page s.frame s.list results m (omega arith) (omega arith)) in
        let rest : drop m a.results ≡ drop m results
        = ap (drop m) h.listings ∙ ap (λ (k : ℕ). drop k (stored results first.reports)) (sym counted) ∙ stored_behind results first.reports ∙ ap (λ (k : ℕ). drop k results) counted in
        let e : transmit_batch table window (start_queue (start_behind a m)) a.page (drop (filled_before a m) a.frame) a.list (drop m a.results) n ≡ done_batch (drop m results) second
        = (λ i. transmit_batch table window (q i) (h.pages i) (drop (filled i) (h.frames i)) (h.records i) (rest i) n)
        ∙ accepted table window first.queue first.page (drop first.filled first.frame) first.list (drop m results) n (omega arith) (omega (arith, length-drop m results)) in
        rw e at y

    as_two : (b : BatchLeft) → BatchFrom table window (start_behind a m) (drop m a.results) n b → (l : BatchLeft) → BatchFrom table window s results (m + n) l → AsTwo m a b l
    as_two b y l z =
        let h = first_left in
        let g = second_left b y in
        let k : BatchLeaves (done_batch results (behind table window (take first.filled first.frame) first.reports second)) s.mark l
        = rw both_are at (from_words table window s results (m + n) few long l z) in
        let counts : length (first.reports ++ second.reports) ≡ m + count_of b
        = omega (arith, length-append first.reports second.reports, counted, count_is (drop m results) second a.mark b g) in
        let marked : b.mark ≡ mark_after s.mark second.queue.halted
        = g.marks ∙ ap (λ (k : ℕ). mark_after k second.queue.halted) h.marks
        ∙ mark_again s.mark first.queue.halted second.queue.halted (batch_halted table window n (begun first.queue first.page (drop first.filled first.frame) first.list)) in
        record {
          returns = k.returns;
          reports = k.reports ∙ ap (λ (c : ℕ). 0 ∷ c ∷ []) counts;
          counter = k.counter ∙ sym g.counter;
          replies = k.replies ∙ sym g.replies;
          marks = k.marks ∙ sym marked;
          pages = k.pages ∙ sym g.pages;
          frames = k.frames ∙ (λ i. take (sym filled i) (sym h.frames i) ++ sym g.frames i);
          records = k.records ∙ sym g.records;
          listings = k.listings ∙ stored_two results first.reports second.reports m counted ∙ (λ i. take m (sym h.listings i) ++ sym g.listings i);
        }

  as_ended : (i : ℕ) → i < count_of a → (GoesOn (answer_at a i) → ⊥) → (l : BatchLeft) → BatchFrom table window s results (m + n) l → l ≡ a
  as_ended i k off l z =
      let h = first_left in
      let inside : i < length first.reports = omega (arith, count_is results first s.mark a h) in
      let over : all on_report first.reports ≡ false = not_all first.reports i inside (λ g. off (rw (answer_is results first s.mark a h i inside) g)) in
      let same = batch_over table window m n (begun (start_queue s) s.page s.frame s.list) refl over in
      left_same (done_batch results first) s.mark l a (rw same at (from_words table window s results (m + n) few long l z)) h

pub two_batches : TwoBatches
unfolding TwoBatches
two_batches table window s results m n few long a x w b y l z = as_two table window s results m n few long a x w b y l z

pub ended_batch : EndedBatch
unfolding EndedBatch
ended_batch table window s results m n few long a x i k off l z = as_ended table window s results m n few long a x i k off l z
