-- What a batch lists, by its course, and where its frames stand: a batch that lists the report at place i is a batch of i, a take and the batch of the
-- rest (`two_batches`, `one_take`), or ends with that take (`ended_batch`).
use mathlib.Core.Path.{◌≡◌, refl, sym, ap, ◌∙◌}
use mathlib.Core.Logic.{◌⊎◌, inl, inr, ⊎_elim}
use mathlib.Core.List.{List, [], ◌∷◌, ◌++◌}
use mathlib.Core.Bool.{Bool, true, false, ◌||◌}
use Prim.Native.Nat.{ℕ, suc, ◌+◌, ◌-◌, ◌≤◌, ◌<◌}
use native.Mathlib.Omega.{arith}
use lib.ListN.{length, take, drop, get_or, length-drop, get_or-append}
use lib.Seq.{get_or-append_seam, get_or-append-add, take_at, drop_at, length-take-le}
use lib.Dec.{ltb}
use borrow.Author.Tests.{lt-ltb}
use Rattle.words.specs.Lists.{sum_of}
use Rattle.words.proofs.Word.{lt_or_ge}
use Rattle.grammar.specs.Service.{◌▹◌}
use Rattle.answer.specs.Report.{Report, plain}
use Rattle.answer.specs.Words.{report_words}
use Rattle.answer.proofs.LentOn.{mark_same}
use Rattle.transmit.specs.Take.{transmit_take}
use Rattle.transmit.specs.Words.{TakeLeft}
use Rattle.transmit.specs.Keeps.{notify_word}
use Rattle.batch.specs.Batch.{begun, BatchEffect, bad_results, refused_batch, transmit_batch, stored}
use Rattle.batch.specs.Words.{BatchLeft, BatchLeaves}
use Rattle.batch.specs.Repeated.{Start, start_queue, TakeFrom, BatchFrom, answer_word, total_word, count_of, report_at, answer_at, filled_before, GoesOn, Ends, WentOn, start_behind, AsTwo, TwoBatches, EndedBatch}
use Rattle.batch.specs.Listed.{unchanged, BatchRefusals, BatchLists, FramesFit, Stands, FramesStand, OnlySpoiledNotify}
use Rattle.batch.proofs.Course.{Course, batch_course, length_snoc}
use Rattle.batch.proofs.Stored.{stored_length, stored_behind, stored_at, goes_at}
use Rattle.batch.proofs.Unrolled.{goes_or_not, take_left_of, take_left_so, Unrolls, total_fits, unrolled}
use Rattle.batch.proofs.Taking.{not_both, take_quiet}
use Rattle.batch.proofs.Repeated.{left_same, left_of, left_so, two_batches, ended_batch, takes_from, accepted, from_words, takes_fill, count_is, answer_is, filled_is}

-- ---- 16, and no packet asked for

module _ (s : Start) (results : List (List ℕ)) where
  -- what a refusal leaves, and a batch of none
  same_words : (n : ℕ) (e : BatchEffect) → e ≡ record { answer = n; count = 0; queue = start_queue s; page = s.page; frame = s.frame; list = s.list; results = results }
      → (l : BatchLeft) → BatchLeaves e s.mark l → l ≡ unchanged n s results
  same_words n e h l k = left_same e s.mark l (unchanged n s results) k (rw h (record {
    returns = refl;
    reports = refl;
    counter = refl;
    replies = refl;
    marks = sym (mark_same s.mark);
    pages = refl;
    frames = refl;
    records = refl;
    listings = refl;
  }))

bad_so : (results : List (List ℕ)) (most : ℕ) → (length results < most) ⊎ (256 < most) → bad_results results most ≡ true
bad_so results most (inl h) = rw (lt-ltb (length results) most h)
bad_so results most (inr h) = rw (lt-ltb 256 most h) (go (ltb (length results) most))
  where
    go : (b : Bool) → b || true ≡ true
    go true = refl
    go false = refl

module _ (table window : List ℕ) (s : Start) (results : List (List ℕ)) (most : ℕ) where
  refuses : bad_results results most ≡ true
      → transmit_batch table window (start_queue s) s.page s.frame s.list results most ≡ refused_batch (start_queue s) s.page s.frame s.list results
  unfolding transmit_batch
  refuses h = rw h

  asks_none : most ≡ 0
      → transmit_batch table window (start_queue s) s.page s.frame s.list results most ≡ record { answer = 0; count = 0; queue = start_queue s; page = s.page; frame = s.frame; list = s.list; results = results }
  unfolding stored
  asks_none h = rw h (accepted table window (start_queue s) s.page s.frame s.list results 0 (omega arith) (omega arith))

  only_bad : (transmit_batch table window (start_queue s) s.page s.frame s.list results most).answer ≡ 16 → (length results < most) ⊎ (256 < most)
  only_bad h = ⊎_elim inl (λ long. ⊎_elim inr (λ few.
      absurd (omega (arith, sym h ∙ ap (λ (e : BatchEffect). e.answer) (accepted table window (start_queue s) s.page s.frame s.list results most few long))))
      (lt_or_ge 256 most)) (lt_or_ge (length results) most)

pub batch_refusals : BatchRefusals
unfolding BatchRefusals
batch_refusals table window s results most l h = record {
  refused = λ k. same_words s results 16 _ (refuses table window s results most (bad_so results most k)) l h;
  only = λ k. only_bad table window s results most (sym h.returns ∙ k);
  none = λ k. same_words s results 0 _ (asks_none table window s results most k) l h;
}

-- ---- the reports

-- of the reports of a course: all but the last go on, each goes on or ends, and if they are fewer than asked for, the last ends
record Orderly (n : ℕ) (rs : List Report) : Type 0 where
  few : length rs ≤ n
  answers : (i : ℕ) → i < length rs → GoesOn (get_or rs i (plain 0)).answer ⊎ Ends (get_or rs i (plain 0)).answer
  goes : (i : ℕ) → i + 1 < length rs → GoesOn (get_or rs i (plain 0)).answer
  ends : length rs < n → (0 < length rs) × Ends (get_or rs (length rs - 1) (plain 0)).answer

orderly : (table window : List ℕ) {n : ℕ} {rs : List Report} → Course table window n rs → Orderly n rs
orderly table window (Course.whole more k a) = record {
  few = omega arith;
  answers = λ i h. inl (goes_at more a i h);
  goes = λ i h. goes_at more a i (omega arith);
  ends = λ h. absurd (omega arith);
}
orderly table window (Course.ended more r k a e) =
    let c : length (more ▹ r) ≡ suc (length more) = length_snoc more r in
    let at-end : get_or (more ▹ r) (length more) (plain 0) ≡ r = get_or-append_seam more r [] (plain 0) in
    let last : Ends (get_or (more ▹ r) (length more) (plain 0)).answer = rw at-end e in
    let front : (i : ℕ) → i < length more → GoesOn (get_or (more ▹ r) i (plain 0)).answer = λ i h. rw (get_or-append more (r ∷ []) (plain 0) i h) (goes_at more a i h) in
    record {
      few = omega arith;
      answers = λ i h. ⊎_elim (λ g. inl (front i g)) (λ g. inr (let z : i ≡ length more = omega arith in rw z last)) (lt_or_ge i (length more));
      goes = λ i h. front i (omega arith);
      ends = λ h. (omega arith, (let z : length (more ▹ r) - 1 ≡ length more = omega arith in rw z last));
    }

pub batch_lists : BatchLists
unfolding BatchLists report_words
batch_lists table window s results most few long l z =
    let b = takes_from table window s most in
    let h = from_words table window s results most few long l z in
    let t = batch_course table window most (begun (start_queue s) s.page s.frame s.list) in
    let o : Orderly most b.reports = rw t.joined (orderly table window t.course) in
    let c : count_of l ≡ length b.reports = count_is results b s.mark l h in
    let at : (i : ℕ) → i < count_of l → answer_at l i ≡ (get_or b.reports i (plain 0)).answer = λ i k. answer_is results b s.mark l h i (omega arith) in
    record {
      returns = h.returns;
      reports = h.reports ∙ ap (λ (n : ℕ). 0 ∷ n ∷ []) (sym c);
      few = omega (arith, o.few);
      long = ap length h.listings ∙ stored_length results b.reports (omega (arith, o.few));
      stays = rw c (ap (drop (length b.reports)) h.listings ∙ stored_behind results b.reports);
      eleven = λ i k. ap length (ap (λ (r : List (List ℕ)). get_or r i []) h.listings ∙ stored_at results b.reports i (omega arith));
      answers = λ i k. rw (at i k) (o.answers i (omega arith));
      goes = λ i k. rw (at i (omega arith)) (o.goes i (omega arith));
      ends = λ k. (let e = o.ends (omega arith) in (omega (arith, e.0), (let n : count_of l - 1 < count_of l = omega (arith, e.0) in rw (at (count_of l - 1) n, c) e.1)));
    }

-- ---- the frames

pub frames_fit : FramesFit
unfolding FramesFit
frames_fit table window s results most few long l z =
    let b = takes_from table window s most in
    let h = from_words table window s results most few long l z in
    let f = takes_fill table window s most in
    let c : count_of l ≡ length b.reports = count_is results b s.mark l h in
    let n = ap (filled_before l) c ∙ filled_is results b s.mark l h ∙ sym f.sums in
    record {
      fits = omega (arith, n, f.fits, f.long);
      long = ap length h.frames ∙ f.long;
      stays = rw n (ap (drop b.filled) h.frames ∙ f.stays);
    }

-- ---- each frame in its place

module _ (table window : List ℕ) (s : Start) (results : List (List ℕ)) (most : ℕ) (few : most ≤ 256) (long : most ≤ length results) (l : BatchLeft) (z : BatchFrom table window s results most l)
    (i : ℕ) (k : i < count_of l) (a : BatchLeft) (x : BatchFrom table window s results i a) where
  within : i < most
  unfolding BatchLists
  within = omega (arith, (batch_lists table window s results most few long l z).few)

  -- a batch that lists a report at place i goes on up to there
  no_end : (j : ℕ) → j < count_of a → (GoesOn (answer_at a j) → ⊥) → count_of a ≤ i → ⊥
  unfolding EndedBatch
  no_end j h off few-listed =
      let n : most ≡ i + (most - i) = omega (arith, within) in
      let same : l ≡ a = ended_batch table window s results i (most - i) (omega (arith, within)) (omega (arith, within)) a x j h off l (rw n at z) in
      omega (arith, ap count_of same)

  up_to : WentOn a i
  unfolding BatchLists
  up_to =
      let g = batch_lists table window s results i (omega (arith, within)) (omega (arith, within)) a x in
      let all_listed : count_of a ≡ i = ⊎_elim
      (λ h. (let e = g.ends h in absurd (no_end (count_of a - 1) (omega (arith, e.0)) (λ on. not_both _ on e.1) (omega arith))))
      (λ h. omega (arith, g.few)) (lt_or_ge (count_of a) i) in
      record { count = all_listed; each = λ j h. ⊎_elim (λ on. on) (λ off. absurd (no_end j (omega arith) off (omega arith))) (goes_or_not (answer_at a j)) }

  module _ (o : TakeLeft) (t : TakeFrom table window (start_behind a i) o) where
    rest : BatchLeft
    rest = left_of (transmit_batch table window (start_queue (start_behind a i)) a.page (drop (filled_before a i) a.frame) a.list (drop i a.results) (most - i)) a.mark

    rest_from : BatchFrom table window (start_behind a i) (drop i a.results) (most - i) rest
    unfolding rest
    rest_from = left_so (transmit_batch table window (start_queue (start_behind a i)) a.page (drop (filled_before a i) a.frame) a.list (drop i a.results) (most - i)) a.mark

    both : AsTwo i a rest l
    unfolding TwoBatches
    both =
        let n : most ≡ i + (most - i) = omega (arith, within) in
        two_batches table window s results i (most - i) (omega (arith, within)) (omega (arith, within)) a x up_to rest rest_from l (rw n at z)

    -- the take is the first of the rest
    begins : (b : BatchLeft) (n : ℕ) → Unrolls table window (drop i a.results) n o b → (report_at b 0 ≡ o.words) × (take (total_word o.words) b.frame ≡ take (total_word o.words) o.frame)
    begins b n (Unrolls.stops off h) = (ap (λ (r : List (List ℕ)). get_or r 0 []) h.listings, ap (take (total_word o.words)) h.frames)
    begins b n (Unrolls.goes on c y h) =
        let f = total_fits table window (start_behind a i) o t in (
          ap (λ (r : List (List ℕ)). get_or r 0 []) h.listings,
          ap (take (total_word o.words)) h.frames ∙ take_at (take (total_word o.words) o.frame) c.frame (total_word o.words) (length-take-le (total_word o.words) o.frame (omega (arith, f.0, f.1))),
        )

    stands : Stands i a o l
    unfolding BatchLists FramesFit
    stands =
        let g = batch_lists table window s results i (omega (arith, within)) (omega (arith, within)) a x in
        let f = frames_fit table window s results i (omega (arith, within)) (omega (arith, within)) a x in
        let n : most - i ≡ suc (most - i - 1) = omega (arith, within) in
        let (first, bytes) = begins rest (most - i - 1) (unrolled table window (start_behind a i) (drop i a.results) (most - i - 1) (omega arith) (omega (arith, within, g.long, length-drop i a.results)) o t rest (rw n at rest_from)) in
        let h = both in
        let size : length (take i a.results) ≡ i = length-take-le i a.results (omega (arith, within, g.long)) in
        let same : take i l.results ≡ take i a.results = ap (take i) h.listings ∙ take_at (take i a.results) rest.results i size in
        let filled : filled_before l i ≡ filled_before a i = ap (sum_of total_word) same in
        let fits : filled_before a i ≤ length a.frame = omega (arith, f.fits, f.long, ap (filled_before a) up_to.count) in
        let bytes-before : length (take (filled_before a i) a.frame) ≡ filled_before a i = length-take-le (filled_before a i) a.frame fits in
        record {
          reports = same;
          report = ap (λ (r : List (List ℕ)). get_or r i []) h.listings ∙ (let e : i ≡ length (take i a.results) + 0 = omega arith in ap (λ (j : ℕ). get_or (take i a.results ++ rest.results) j []) e)
              ∙ get_or-append-add (take i a.results) rest.results 0 [] ∙ first;
          before = rw filled (ap (take (filled_before a i)) h.frames ∙ take_at (take (filled_before a i) a.frame) rest.frame (filled_before a i) bytes-before);
          bytes = rw filled (ap (λ (d : List ℕ). take (total_word o.words) (drop (filled_before a i) d)) h.frames
              ∙ ap (take (total_word o.words)) (drop_at (take (filled_before a i) a.frame) rest.frame (filled_before a i) bytes-before) ∙ bytes);
        }

pub frames_stand : FramesStand
unfolding FramesStand
frames_stand table window s results most few long l z i k a x o t = stands table window s results most few long l z i k a x o t

-- the report at place i is a take's
pub only_spoiled_notify : OnlySpoiledNotify
unfolding OnlySpoiledNotify FramesStand report_words
only_spoiled_notify table window s results most few long l z i k other =
    let e = transmit_batch table window (start_queue s) s.page s.frame s.list results i in
    go (left_of e s.mark) (left_so e s.mark)
  where
    go : (a : BatchLeft) → BatchFrom table window s results i a → notify_word (report_at l i) ≡ 0
    go a x =
        let b = start_behind a i in
        let e = transmit_take table window (start_queue b) b.page b.frame b.list in
        let same : report_at l i ≡ report_words e.report = (frames_stand table window s results most few long l z i k a x (take_left_of e b.mark) (take_left_so e b.mark)).report in
        ap notify_word same ∙ take_quiet table window (start_queue b) b.page b.frame b.list (λ h. other (ap answer_word same ∙ h))
