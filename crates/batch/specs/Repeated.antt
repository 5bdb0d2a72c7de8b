-- A batch equals single takes one after another, each lent what is left of the frame buffer: told of the words that the exported calls are
-- lent and leave.
use Rattle.std.specs.Prelude.{◌≡◌, ◌⊎◌, List, [], ◌∷◌, ◌++◌, ℕ, ◌+◌, ◌≤◌, ◌<◌, length, take, drop, get_or}
use Rattle.words.specs.Lists.{sum_of}
use Rattle.held.specs.declared.Held.{Held}
use Rattle.transmit.specs.declared.Queue.{Queue}
use Rattle.transmit.specs.Take.{transmit_take}
use Rattle.transmit.specs.Words.{queue_of, TakeLeft, TakeLeaves}
use Rattle.batch.specs.Batch.{transmit_batch}
use Rattle.batch.specs.Words.{BatchLeft, BatchLeaves}

-- ---- what a call starts from

-- the three words of a queue, the ring page, the frame buffer and the records that a take or a batch is lent
pub record Start : Type 0 where
  pub consumed : ℕ
  pub replied : ℕ
  pub mark : ℕ
  pub page : List ℕ
  pub frame : List ℕ
  pub list : List Held

abbrev pub start_queue : Start → Queue
start_queue s = queue_of s.consumed s.replied s.mark

module _ (table window : List ℕ) where
  -- a take that was lent these left o
  abbrev pub TakeFrom : Start → TakeLeft → Type 0
  TakeFrom s o = TakeLeaves (transmit_take table window (start_queue s) s.page s.frame s.list) s.mark o

  -- a batch that was lent these and a list of results, and asked for so many packets, left l
  abbrev pub BatchFrom : Start → (results : List (List ℕ)) (most : ℕ) → BatchLeft → Type 0
  BatchFrom s results most l = BatchLeaves (transmit_batch table window (start_queue s) s.page s.frame s.list results most) s.mark l

-- ---- what it listed

-- a report's answer and total: its first and its sixth word
abbrev pub answer_word : List ℕ → ℕ
answer_word words = get_or words 0 0

abbrev pub total_word : List ℕ → ℕ
total_word words = get_or words 5 0

-- the count: the second of the batch's two words
abbrev pub count_of : BatchLeft → ℕ
count_of l = get_or l.words 1 0

-- the report at place i, and its answer
abbrev pub report_at : BatchLeft → ℕ → List ℕ
report_at l i = get_or l.results i []

abbrev pub answer_at : BatchLeft → ℕ → ℕ
answer_at l i = answer_word (report_at l i)

-- the bytes of the frame buffer that are filled before the report at place i: the totals before it added up
abbrev pub filled_before : BatchLeft → ℕ → ℕ
filled_before l i = sum_of total_word (take i l.results)

-- the answers that a batch goes on after, done and spoiled, and those that end it
abbrev pub GoesOn : ℕ → Type 0
GoesOn n = (n ≡ 0) ⊎ (n ≡ 7)

abbrev pub Ends : ℕ → Type 0
Ends n = ((1 ≤ n) × (n ≤ 6)) ⊎ (n ≡ 8) ⊎ (n ≡ 14) ⊎ (n ≡ 17)

-- so many reports are listed, each answered 0 or 7
pub record WentOn (l : BatchLeft) (n : ℕ) : Type 0 where
  pub count : count_of l ≡ n
  pub each : (i : ℕ) → i < n → GoesOn (answer_at l i)

-- what the next call starts from: all that the batch left, and of the frame buffer what is not filled by n reports
abbrev pub start_behind : BatchLeft → (n : ℕ) → Start
start_behind l n = record {
  consumed = l.consumed;
  replied = l.replied;
  mark = l.mark;
  page = l.page;
  frame = drop (filled_before l n) l.frame;
  list = l.list;
}

-- ---- one after another

-- a batch left what the take left that was lent the same, and listed its words
pub record AsTake (results : List (List ℕ)) (o : TakeLeft) (l : BatchLeft) : Type 0 where
  pub returns : l.returned ≡ 0
  pub reports : l.words ≡ 0 ∷ 1 ∷ []
  pub counter : l.consumed ≡ o.consumed
  pub replies : l.replied ≡ o.replied
  pub marks : l.mark ≡ o.mark
  pub pages : l.page ≡ o.page
  pub frames : l.frame ≡ o.frame
  pub records : l.list ≡ o.list
  pub listings : l.results ≡ o.words ∷ drop 1 results

-- a batch of one is the take
unfoldable pub OneTake : Type 0
OneTake =
    (table window : List ℕ) (s : Start) (results : List (List ℕ)) → 1 ≤ length results
    → (o : TakeLeft) → TakeFrom table window s o → (l : BatchLeft) → BatchFrom table window s results 1 l → AsTake results o l

-- l is what two batches left, a of them m reports and b behind it: the frames and the reports of b stand behind those of a
pub record AsTwo (m : ℕ) (a b l : BatchLeft) : Type 0 where
  pub returns : l.returned ≡ 0
  pub reports : l.words ≡ 0 ∷ (m + count_of b) ∷ []
  pub counter : l.consumed ≡ b.consumed
  pub replies : l.replied ≡ b.replied
  pub marks : l.mark ≡ b.mark
  pub pages : l.page ≡ b.page
  pub frames : l.frame ≡ take (filled_before a m) a.frame ++ b.frame
  pub records : l.list ≡ b.list
  pub listings : l.results ≡ take m a.results ++ b.results

-- a batch of m + n, if that of m goes on, is a batch of m and then one of n, lent all that the first left, with the rest of the frame buffer and the
-- rest of the list of results
unfoldable pub TwoBatches : Type 0
TwoBatches =
    (table window : List ℕ) (s : Start) (results : List (List ℕ)) (m n : ℕ) → m + n ≤ 256 → m + n ≤ length results
    → (a : BatchLeft) → BatchFrom table window s results m a → WentOn a m
    → (b : BatchLeft) → BatchFrom table window (start_behind a m) (drop m a.results) n b
    → (l : BatchLeft) → BatchFrom table window s results (m + n) l → AsTwo m a b l

-- if it does not go on, no more is taken: all is as the batch of m left it
unfoldable pub EndedBatch : Type 0
EndedBatch =
    (table window : List ℕ) (s : Start) (results : List (List ℕ)) (m n : ℕ) → m + n ≤ 256 → m + n ≤ length results
    → (a : BatchLeft) → BatchFrom table window s results m a → (i : ℕ) → i < count_of a → (GoesOn (answer_at a i) → ⊥)
    → (l : BatchLeft) → BatchFrom table window s results (m + n) l → l ≡ a
