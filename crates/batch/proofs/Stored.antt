-- The list of results as words: the reports listed stand in its first places, and what was lent behind them.
use mathlib.Core.Path.{◌≡◌, refl, sym, ap, ◌∙◌}
use mathlib.Core.List.{List, [], ◌∷◌, ◌++◌, map, map-append, append_assoc}
use mathlib.Core.Bool.{Bool, true, false}
use Prim.Native.Nat.{ℕ, zero, suc, ◌+◌, ◌≤◌, ◌<◌}
use native.Mathlib.Omega.{arith}
use lib.ListN.{length, take, drop, get_or, length-append, length-drop, length-map}
use lib.Seq.{take_at, drop_at, drop-drop}
use Rattle.words.specs.Lists.{all, sum_of}
use Rattle.words.proofs.Word.{true_and, and_both}
use Rattle.answer.specs.Report.{Report, plain}
use Rattle.answer.specs.Words.{report_words}
use Rattle.batch.specs.Batch.{stored}
use Rattle.batch.specs.Repeated.{answer_word, total_word, GoesOn}
use Rattle.batch.proofs.Taking.{goes_on_lem, only_these}
use Rattle.batch.proofs.Course.{on_report, totals}

module _ (results : List (List ℕ)) (rs : List Report) where
  pub stored_length : length rs ≤ length results → length (stored results rs) ≡ length results
  unfolding stored
  stored_length h = omega (arith, length-append (map report_words rs) (drop (length rs) results), length-map rs report_words, length-drop (length rs) results)

  pub stored_front : take (length rs) (stored results rs) ≡ map report_words rs
  unfolding stored
  stored_front = take_at (map report_words rs) (drop (length rs) results) (length rs) (length-map rs report_words)

  pub stored_behind : drop (length rs) (stored results rs) ≡ drop (length rs) results
  unfolding stored
  stored_behind = drop_at (map report_words rs) (drop (length rs) results) (length rs) (length-map rs report_words)

-- the word of a report that stands at a place
pub stored_at : (results : List (List ℕ)) (rs : List Report) (i : ℕ) → i < length rs → get_or (stored results rs) i [] ≡ report_words (get_or rs i (plain 0))
unfolding stored
stored_at results rs i h = go rs (drop (length rs) results) i h
  where
    go : (rs : List Report) (tail : List (List ℕ)) (i : ℕ) → i < length rs → get_or (map report_words rs ++ tail) i [] ≡ report_words (get_or rs i (plain 0))
    go [] tail i h = absurd (omega arith)
    go (r ∷ rs) tail zero h = refl
    go (r ∷ rs) tail (suc i) h = go rs tail i (omega arith)

pub stored_answer : (results : List (List ℕ)) (rs : List Report) (i : ℕ) → i < length rs → answer_word (get_or (stored results rs) i []) ≡ (get_or rs i (plain 0)).answer
unfolding report_words
stored_answer results rs i h = ap answer_word (stored_at results rs i h)

-- the totals of the reports listed
pub stored_totals : (results : List (List ℕ)) (rs : List Report) → sum_of total_word (take (length rs) (stored results rs)) ≡ totals rs
unfolding report_words
stored_totals results rs = ap (sum_of total_word) (stored_front results rs) ∙ go rs
  where
    go : (rs : List Report) → sum_of total_word (map report_words rs) ≡ totals rs
    go [] = refl
    go (r ∷ rs) = ap (r.total +◌) (go rs)

-- reports of two batches, the second lent the rest of the list
pub stored_two : (results : List (List ℕ)) (rs more : List Report) (m : ℕ) → length rs ≡ m
    → stored results (rs ++ more) ≡ take m (stored results rs) ++ stored (drop m results) more
unfolding stored
stored_two results rs more m h =
    let n : length (rs ++ more) ≡ m + length more = omega (arith, length-append rs more) in
    ap (λ (k : ℕ). map report_words (rs ++ more) ++ drop k results) n
    ∙ ap (◌++ drop (m + length more) results) (map-append report_words rs more)
    ∙ append_assoc (map report_words rs) (map report_words more) (drop (m + length more) results)
    ∙ ap (λ (x : List (List ℕ)). map report_words rs ++ (map report_words more ++ x)) (sym (drop-drop (length more) m results))
    ∙ ap (◌++ (map report_words more ++ drop (length more) (drop m results))) (sym (take_at (map report_words rs) (drop (length rs) results) m (length-map rs report_words ∙ h)))

-- ---- all listed went on

pub all_goes : (rs : List Report) → ((i : ℕ) → i < length rs → GoesOn (get_or rs i (plain 0)).answer) → all on_report rs ≡ true
all_goes [] h = refl
all_goes (r ∷ rs) h = true_and (on_report r) (all on_report rs) (goes_on_lem r.answer (h 0 (omega arith))) (all_goes rs (λ i k. h (suc i) (omega arith)))

pub goes_at : (rs : List Report) → all on_report rs ≡ true → (i : ℕ) → i < length rs → GoesOn (get_or rs i (plain 0)).answer
goes_at [] h i k = absurd (omega arith)
goes_at (r ∷ rs) h zero k = only_these r.answer (and_both (on_report r) (all on_report rs) h).0
goes_at (r ∷ rs) h (suc i) k = goes_at rs (and_both (on_report r) (all on_report rs) h).1 i (omega arith)

pub not_all : (rs : List Report) (i : ℕ) → i < length rs → (GoesOn (get_or rs i (plain 0)).answer → ⊥) → all on_report rs ≡ false
not_all rs i h k = go (all on_report rs) refl
  where
    go : (b : Bool) → all on_report rs ≡ b → all on_report rs ≡ false
    go true e = absurd (k (goes_at rs e i h))
    go false e = e
