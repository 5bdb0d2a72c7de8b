-- A batch of n + 1 is a take, and then, if the take goes on, a batch of n lent all that it left: `one_take` and `two_batches`, or `ended_batch`.
use mathlib.Core.Path.{◌≡◌, refl, sym, ap, subst, ◌∙◌}
use mathlib.Core.Logic.{◌⊎◌, inl, inr, ⊎_elim}
use mathlib.Core.List.{List, [], ◌∷◌, ◌++◌}
use Prim.Native.Nat.{ℕ, zero, suc, ◌+◌, ◌≤◌, ◌<◌}
use native.Mathlib.Nat.{add-zero}
use native.Mathlib.Omega.{arith}
use lib.ListN.{length, take, drop, get_or}
use Rattle.words.specs.Lists.{sum_of}
use Rattle.words.proofs.Word.{same_or_not}
use Rattle.answer.specs.Words.{mark_after, report_words}
use Rattle.transmit.specs.Take.{TakeEffect}
use Rattle.transmit.specs.Words.{TakeLeft, TakeLeaves}
use Rattle.batch.specs.Batch.{transmit_batch}
use Rattle.batch.specs.Words.{BatchLeft}
use Rattle.batch.specs.Repeated.{Start, start_queue, TakeFrom, BatchFrom, answer_word, total_word, count_of, answer_at, filled_before, GoesOn, WentOn, start_behind, AsTake, OneTake, TwoBatches, EndedBatch}
use Rattle.batch.proofs.Taking.{take_writes}
use Rattle.batch.proofs.Repeated.{left_of, left_so, one_take, two_batches, ended_batch}

pub goes_or_not : (n : ℕ) → GoesOn n ⊎ (GoesOn n → ⊥)
goes_or_not n = ⊎_elim (λ h. inl (inl h)) (λ h. ⊎_elim (λ k. inl (inr k)) (λ k. inr (λ g. ⊎_elim h k g)) (same_or_not n 7)) (same_or_not n 0)

-- what a take leaves that is lent this mark
abbrev pub take_left_of : TakeEffect → (mark : ℕ) → TakeLeft
take_left_of e mark = record {
  returned = e.report.answer;
  consumed = e.queue.consumed;
  replied = e.queue.replied;
  mark = mark_after mark e.queue.halted;
  page = e.page;
  frame = e.frame;
  list = e.list;
  words = report_words e.report;
}

pub take_left_so : (e : TakeEffect) (mark : ℕ) → TakeLeaves e mark (take_left_of e mark)
take_left_so e mark = record { returns = refl; reports = refl; counter = refl; replies = refl; marks = refl; pages = refl; frames = refl; records = refl }

-- what the next call starts from: all that the take left, and of the frame buffer what is behind its total
abbrev pub start_after : TakeLeft → Start
start_after o = record { consumed = o.consumed; replied = o.replied; mark = o.mark; page = o.page; frame = drop (total_word o.words) o.frame; list = o.list }

-- l is what the take o and then the batch b left
pub record AsBoth (o : TakeLeft) (b l : BatchLeft) : Type 0 where
  pub reports : l.words ≡ 0 ∷ suc (count_of b) ∷ []
  pub counter : l.consumed ≡ b.consumed
  pub replies : l.replied ≡ b.replied
  pub marks : l.mark ≡ b.mark
  pub pages : l.page ≡ b.page
  pub frames : l.frame ≡ take (total_word o.words) o.frame ++ b.frame
  pub records : l.list ≡ b.list
  pub listings : l.results ≡ o.words ∷ b.results

module _ (table window : List ℕ) where
  pub data Unrolls (results : List (List ℕ)) (n : ℕ) (o : TakeLeft) (l : BatchLeft) : Type 0 where
    stops : (GoesOn (answer_word o.words) → ⊥) → AsTake results o l → Unrolls results n o l
    goes : GoesOn (answer_word o.words) → (b : BatchLeft) → BatchFrom table window (start_after o) (drop 1 results) n b → AsBoth o b l → Unrolls results n o l

  -- a take's total fits the frame buffer that it was lent
  pub total_fits : (s : Start) (o : TakeLeft) → TakeFrom table window s o → (total_word o.words ≤ length s.frame) × (length o.frame ≡ length s.frame)
  unfolding report_words
  total_fits s o t =
      let w = take_writes table window (start_queue s) s.page s.frame s.list in
      (omega (arith, ap total_word t.reports, w.fits), ap length t.frames ∙ w.long)

  module _ (s : Start) (results : List (List ℕ)) (n : ℕ) (few : suc n ≤ 256) (long : suc n ≤ length results) (o : TakeLeft) (t : TakeFrom table window s o) where
    one : BatchLeft
    one = left_of (transmit_batch table window (start_queue s) s.page s.frame s.list results 1) s.mark

    one_from : BatchFrom table window s results 1 one
    unfolding one
    one_from = left_so (transmit_batch table window (start_queue s) s.page s.frame s.list results 1) s.mark

    one_as : AsTake results o one
    unfolding OneTake
    one_as = one_take table window s results (omega arith) o t one one_from

    one_answer : answer_at one 0 ≡ answer_word o.words
    one_answer = ap (λ (r : List (List ℕ)). answer_word (get_or r 0 [])) one_as.listings

    one_total : filled_before one 1 ≡ total_word o.words
    one_total = ap (λ (r : List (List ℕ)). sum_of total_word (take 1 r)) one_as.listings ∙ add-zero (total_word o.words)

    one_behind : start_behind one 1 ≡ start_after o
    one_behind =
        let a = one_as in
        λ i. record { consumed = a.counter i; replied = a.replies i; mark = a.marks i; page = a.pages i; frame = drop (one_total i) (a.frames i); list = a.records i }

    -- the rest of the batch, and what it leaves
    rest : BatchLeft
    rest = left_of (transmit_batch table window (start_queue (start_after o)) o.page (drop (total_word o.words) o.frame) o.list (drop 1 results) n) o.mark

    rest_from : BatchFrom table window (start_after o) (drop 1 results) n rest
    unfolding rest
    rest_from = left_so (transmit_batch table window (start_queue (start_after o)) o.page (drop (total_word o.words) o.frame) o.list (drop 1 results) n) o.mark

    module _ (l : BatchLeft) (z : BatchFrom table window s results (suc n) l) where
      more : BatchFrom table window s results (1 + n) l
      more = let e : suc n ≡ 1 + n = omega arith in rw e at z

      goes_both : GoesOn (answer_word o.words) → AsBoth o rest l
      unfolding TwoBatches
      goes_both g =
          let a = one_as in
          let went : WentOn one 1 = record { count = ap (λ (w : List ℕ). get_or w 1 0) a.reports; each = first g } in
          let same : drop 1 one.results ≡ drop 1 results = ap (drop 1) a.listings in
          let y : BatchFrom table window (start_behind one 1) (drop 1 one.results) n rest
          = subst (λ (x : Start). BatchFrom table window x (drop 1 one.results) n rest) (sym one_behind)
          (subst (λ (r : List (List ℕ)). BatchFrom table window (start_after o) r n rest) (sym same) rest_from) in
          let b = two_batches table window s results 1 n (omega arith) (omega arith) one one_from went rest y l more in
          record {
            reports = b.reports ∙ (let e : 1 + count_of rest ≡ suc (count_of rest) = omega arith in ap (λ (c : ℕ). 0 ∷ c ∷ []) e);
            counter = b.counter;
            replies = b.replies;
            marks = b.marks;
            pages = b.pages;
            frames = b.frames ∙ (λ i. take (one_total i) (a.frames i) ++ rest.frame);
            records = b.records;
            listings = b.listings ∙ ap (λ (r : List (List ℕ)). take 1 r ++ rest.results) a.listings;
          }
        where
          first : GoesOn (answer_word o.words) → (i : ℕ) → i < 1 → GoesOn (answer_at one i)
          first g zero h = rw one_answer g
          first g (suc i) h = absurd (omega arith)

      stops_there : (GoesOn (answer_word o.words) → ⊥) → AsTake results o l
      unfolding EndedBatch
      stops_there g =
          let a = one_as in
          let same = ended_batch table window s results 1 n (omega arith) (omega arith) one one_from 0 (omega (arith, ap (λ (w : List ℕ). get_or w 1 0) a.reports)) (λ k. g (rw one_answer at k)) l more in
          rw same a

      pub unrolled : Unrolls results n o l
      unrolled = ⊎_elim (λ g. Unrolls.goes g rest rest_from (goes_both g)) (λ g. Unrolls.stops g (stops_there g)) (goes_or_not (answer_word o.words))
