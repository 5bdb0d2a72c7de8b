-- What a batch lists and where its frames stand: told of the words that the exported call is lent and leaves.
use Rattle.std.specs.Prelude.{◌≡◌, ◌≢◌, ◌⊎◌, List, [], ◌∷◌, ℕ, ◌+◌, ◌-◌, ◌≤◌, ◌<◌, length, take, drop}
use Rattle.transmit.specs.Words.{TakeLeft}
use Rattle.transmit.specs.Keeps.{notify_word}
use Rattle.batch.specs.Words.{BatchLeft}
use Rattle.batch.specs.Repeated.{Start, TakeFrom, BatchFrom, total_word, count_of, report_at, answer_at, filled_before, GoesOn, Ends, start_behind}

-- ---- 16

-- nothing is changed, and nothing listed
abbrev pub unchanged : (answer : ℕ) → Start → (results : List (List ℕ)) → BatchLeft
unchanged answer s results = record {
  returned = answer;
  consumed = s.consumed;
  replied = s.replied;
  mark = s.mark;
  page = s.page;
  frame = s.frame;
  list = s.list;
  results = results;
  words = answer ∷ 0 ∷ [];
}

-- so it is with a list of results shorter than the packets asked for, and with more than 256 asked for, whatever else is lent; and only then is a
-- batch answered 16
pub record Refusals (s : Start) (results : List (List ℕ)) (most : ℕ) (l : BatchLeft) : Type 0 where
  pub refused : (length results < most) ⊎ (256 < most) → l ≡ unchanged 16 s results
  pub only : l.returned ≡ 16 → (length results < most) ⊎ (256 < most)
  -- no packet asked for
  pub none : most ≡ 0 → l ≡ unchanged 0 s results

unfoldable pub BatchRefusals : Type 0
BatchRefusals =
    (table window : List ℕ) (s : Start) (results : List (List ℕ)) (most : ℕ) (l : BatchLeft) → BatchFrom table window s results most l
    → Refusals s results most l

-- ---- the reports

-- at most as many as asked for, eleven words each, in the first places of the list; what stands behind them stays. All but the last are
-- answered 0 or 7; if there are fewer than asked for, the last is an answer that ends a batch
pub record Listing (results : List (List ℕ)) (most : ℕ) (l : BatchLeft) : Type 0 where
  pub returns : l.returned ≡ 0
  pub reports : l.words ≡ 0 ∷ count_of l ∷ []
  pub few : count_of l ≤ most
  pub long : length l.results ≡ length results
  pub stays : drop (count_of l) l.results ≡ drop (count_of l) results
  pub eleven : (i : ℕ) → i < count_of l → length (report_at l i) ≡ 11
  pub answers : (i : ℕ) → i < count_of l → GoesOn (answer_at l i) ⊎ Ends (answer_at l i)
  pub goes : (i : ℕ) → i + 1 < count_of l → GoesOn (answer_at l i)
  pub ends : count_of l < most → (0 < count_of l) × Ends (answer_at l (count_of l - 1))

unfoldable pub BatchLists : Type 0
BatchLists =
    (table window : List ℕ) (s : Start) (results : List (List ℕ)) (most : ℕ) → most ≤ 256 → most ≤ length results
    → (l : BatchLeft) → BatchFrom table window s results most l → Listing results most l

-- ---- the frames

-- the frames fit the buffer, and behind them it is as it was lent
pub record Frames (frame : List ℕ) (l : BatchLeft) : Type 0 where
  pub fits : filled_before l (count_of l) ≤ length frame
  pub long : length l.frame ≡ length frame
  pub stays : drop (filled_before l (count_of l)) l.frame ≡ drop (filled_before l (count_of l)) frame

unfoldable pub FramesFit : Type 0
FramesFit =
    (table window : List ℕ) (s : Start) (results : List (List ℕ)) (most : ℕ) → most ≤ 256 → most ≤ length results
    → (l : BatchLeft) → BatchFrom table window s results most l → Frames s.frame l

-- the report at place i of what l lists is that of the take o, made behind what a batch of i left, a; the first bytes that this take left of its
-- part of the buffer, as many as its total, stand from the totals before it on, and the frames before them are as they were
pub record Stands (i : ℕ) (a : BatchLeft) (o : TakeLeft) (l : BatchLeft) : Type 0 where
  pub reports : take i l.results ≡ take i a.results
  pub report : report_at l i ≡ o.words
  pub before : take (filled_before l i) l.frame ≡ take (filled_before l i) a.frame
  pub bytes : take (total_word o.words) (drop (filled_before l i) l.frame) ≡ take (total_word o.words) o.frame

unfoldable pub FramesStand : Type 0
FramesStand =
    (table window : List ℕ) (s : Start) (results : List (List ℕ)) (most : ℕ) → most ≤ 256 → most ≤ length results
    → (l : BatchLeft) → BatchFrom table window s results most l
    → (i : ℕ) → i < count_of l
    → (a : BatchLeft) → BatchFrom table window s results i a → (o : TakeLeft) → TakeFrom table window (start_behind a i) o
    → Stands i a o l

-- only a report answered 7 can say that the guest is to be notified
unfoldable pub OnlySpoiledNotify : Type 0
OnlySpoiledNotify =
    (table window : List ℕ) (s : Start) (results : List (List ℕ)) (most : ℕ) → most ≤ 256 → most ≤ length results
    → (l : BatchLeft) → BatchFrom table window s results most l
    → (i : ℕ) → i < count_of l → answer_at l i ≢ 7 → notify_word (report_at l i) ≡ 0
