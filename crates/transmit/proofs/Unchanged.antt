-- What each answer leaves as it was: by the cases of the two definitions.
use mathlib.Core.Path.{◌≡◌, refl, sym, ap, ◌∙◌}
use mathlib.Core.Logic.{◌≢◌, ◌⊎◌, inl, inr, ⊎_elim}
use mathlib.Core.List.{List}
use mathlib.Core.Bool.{Bool, true, false, not, cond, ◌&&◌}
use Prim.Native.Nat.{ℕ, ◌+◌}
use native.Mathlib.Omega.{arith}
use lib.ListN.{length, take}
use lib.Dec.{eqb, ltb}
use Rattle.std.specs.Prelude.{Ok, Err}
use Rattle.ring.specs.Ring.{posted, asking}
use Rattle.netif.specs.Slot.{Slot}
use Rattle.grammar.specs.Divide.{Cut, whole, beginning, misshapen, divide, on_cut}
use Rattle.answer.specs.Verdict.{Verdict}
use Rattle.answer.specs.Report.{plain, halts, asks}
use Rattle.answer.specs.Words.{mark_after, report_words}
use Rattle.answer.proofs.LentOn.{mark_same}
use Rattle.packet.specs.Judge.{judge, total_of}
use Rattle.held.specs.declared.Held.{Held}
use Rattle.held.specs.Records.{full, is_status, finish, can_finish}
use Rattle.held.specs.Valid.{valid}
use Rattle.transmit.specs.declared.Queue.{Queue}
use Rattle.transmit.specs.Take.{halt, TakeEffect, refusal, overflow, waiting_slots, spoiled, handed_over, take_packet, Look, stop, ready, take_of, look, transmit_take}
use Rattle.transmit.specs.Finish.{FinishEffect, unfinished, finished, transmit_finish}
use Rattle.transmit.specs.Words.{queue_of, FinishLeft, FinishLeaves}
use Rattle.transmit.specs.Unchanged.{TakesUnchanged, FinishUnchanged, FinishesUnchanged}

-- ---- a take

-- the same of an effect
record Unchanged (q : Queue) (page frame : List ℕ) (l : List Held) (e : TakeEffect) : Type 0 where
  counter : e.report.answer ≢ 0 → e.report.answer ≢ 7 → e.queue.consumed ≡ q.consumed
  records : e.report.answer ≢ 0 → e.report.answer ≢ 7 → e.list ≡ l
  replies : e.report.answer ≢ 7 → e.queue.replied ≡ q.replied
  marks : e.report.answer ≢ 3 → e.report.answer ≢ 5 → e.queue.halted ≡ q.halted
  pages : e.report.answer ≢ 4 → e.report.answer ≢ 6 → e.report.answer ≢ 7 → e.page ≡ page
  asked : (e.report.answer ≡ 4) ⊎ (e.report.answer ≡ 6) → e.page ≡ asking page
  frames : e.report.answer ≢ 0 → e.frame ≡ frame
  says : e.report.answer ≢ 0 → e.report.answer ≢ 7 → e.report ≡ plain e.report.answer

module _ (table window : List ℕ) (q : Queue) (page frame : List ℕ) (l : List Held) where
  abbrev Fine : TakeEffect → Type 0
  Fine e = Unchanged q page frame l e

  -- neither 4 nor 6
  not_asking : {A : Type 0} (n : ℕ) → n ≢ 4 → n ≢ 6 → (n ≡ 4) ⊎ (n ≡ 6) → A
  not_asking n h k w = absurd (⊎_elim h k w)

  still : (n : ℕ) → halts n ≡ false → n ≢ 4 → n ≢ 6 → asks n ≡ false → Fine (refusal n q page frame l)
  still n h a b k = record {
    counter = λ x y. ap (λ (t : Bool). (cond t (halt q) q).consumed) h;
    records = λ x y. refl;
    replies = λ x. ap (λ (t : Bool). (cond t (halt q) q).replied) h;
    marks = λ x y. ap (λ (t : Bool). (cond t (halt q) q).halted) h;
    pages = λ x y z. ap (λ (t : Bool). cond t (asking page) page) k;
    asked = not_asking n a b;
    frames = λ x. refl;
    says = λ x y. refl;
  }

  halting : (n : ℕ) → halts n ≡ true → (n ≡ 3) ⊎ (n ≡ 5) → n ≢ 4 → n ≢ 6 → asks n ≡ false → Fine (refusal n q page frame l)
  halting n h w a b k = record {
    counter = λ x y. ap (λ (t : Bool). (cond t (halt q) q).consumed) h;
    records = λ x y. refl;
    replies = λ x. ap (λ (t : Bool). (cond t (halt q) q).replied) h;
    marks = λ x y. absurd (⊎_elim x y w);
    pages = λ x y z. ap (λ (t : Bool). cond t (asking page) page) k;
    asked = not_asking n a b;
    frames = λ x. refl;
    says = λ x y. refl;
  }

  asking_event : (n : ℕ) → halts n ≡ false → (n ≡ 4) ⊎ (n ≡ 6) → asks n ≡ true → Fine (refusal n q page frame l)
  asking_event n h w k = record {
    counter = λ x y. ap (λ (t : Bool). (cond t (halt q) q).consumed) h;
    records = λ x y. refl;
    replies = λ x. ap (λ (t : Bool). (cond t (halt q) q).replied) h;
    marks = λ x y. ap (λ (t : Bool). (cond t (halt q) q).halted) h;
    pages = λ x y z. absurd (⊎_elim x y w);
    asked = λ x. ap (λ (t : Bool). cond t (asking page) page) k;
    frames = λ x. refl;
    says = λ x y. refl;
  }

  by : (b : Bool) (x y : TakeEffect) → Fine x → Fine y → Fine (cond b x y)
  by true x y f g = f
  by false x y f g = g

  handed_fine : q.halted ≡ false → (e : ℕ) (p : List Slot) → Fine (handed_over table window q page frame l e p)
  unfolding handed_over
  handed_fine h e p = record {
    counter = λ x y. absurd (x refl);
    records = λ x y. absurd (x refl);
    replies = λ x. refl;
    marks = λ x y. sym h;
    pages = λ x y z. refl;
    asked = not_asking 0 (λ z. omega arith) (λ z. omega arith);
    frames = λ x. absurd (x refl);
    says = λ x y. absurd (x refl);
  }

  spoiled_fine : q.halted ≡ false → (e : ℕ) (p : List Slot) (c k : ℕ) → Fine (spoiled q page frame l e p c k)
  unfolding spoiled
  spoiled_fine h e p c k = record {
    counter = λ x y. absurd (y refl);
    records = λ x y. absurd (y refl);
    replies = λ x. absurd (x refl);
    marks = λ x y. sym h;
    pages = λ x y z. absurd (z refl);
    asked = not_asking 7 (λ z. omega arith) (λ z. omega arith);
    frames = λ x. refl;
    says = λ x y. absurd (y refl);
  }

  no_record : Fine (refusal 14 q page frame l)
  no_record = still 14 refl (λ z. omega arith) (λ z. omega arith) refl

  packet_fine : q.halted ≡ false → (e : ℕ) (p : List Slot) (v : Verdict) → Fine (take_packet table window q page frame l e p v)
  packet_fine h e p (Err f) = by (full l) _ _ no_record (spoiled_fine h e p f.cause f.place)
  packet_fine h e p (Ok u) =
      by (ltb (length frame) (total_of p)) _ _ (still 8 refl (λ z. omega arith) (λ z. omega arith) refl)
      (by (full l) _ _ no_record (handed_fine h e p))

  LookFine : Look → Type 0
  LookFine x = Fine (take_of table window q page frame l x)

  look_case : (b : Bool) (x y : Look) → LookFine x → (b ≡ false → LookFine y) → LookFine (cond b x y)
  look_case true x y f g = f
  look_case false x y f g = g refl

  take_fine : Fine (transmit_take table window q page frame l)
  unfolding transmit_take look LookFine
  take_fine =
      look_case (not (eqb (length page) 4096)) _ _ (still 1 refl (λ z. omega arith) (λ z. omega arith) refl) (λ k.
      look_case (not (valid q.consumed q.replied l)) _ _ (still 17 refl (λ z. omega arith) (λ z. omega arith) refl) (λ g.
      look_case q.halted _ _ (still 2 refl (λ z. omega arith) (λ z. omega arith) refl) (λ m.
      look_case (overflow q.consumed q.replied page) _ _ (halting 3 refl (inl refl) (λ z. omega arith) (λ z. omega arith) refl) (λ o.
      look_case (eqb (posted page q.consumed) 0) _ _ (asking_event 4 refl (inl refl) refl) (λ z. by_cut m (divide (waiting_slots page q.consumed)))))))
    where
      by_cut : q.halted ≡ false → (c : Cut)
          → LookFine (on_cut c (λ d e. ready e (take (d + e) (waiting_slots page q.consumed)) (judge table window e (take (d + e) (waiting_slots page q.consumed)))) (stop 6) (stop 5))
      by_cut m (whole d e) = packet_fine m e (take (d + e) (waiting_slots page q.consumed)) (judge table window e (take (d + e) (waiting_slots page q.consumed)))
      by_cut m beginning = asking_event 6 refl (inr refl) refl
      by_cut m misshapen = halting 5 refl (inr refl) (λ z. omega arith) (λ z. omega arith) refl

pub takes_unchanged : TakesUnchanged
unfolding TakesUnchanged
takes_unchanged table window consumed replied mark page frame l o h =
    let u = take_fine table window (queue_of consumed replied mark) page frame l in
    record {
      counter = λ a b. h.counter ∙ u.counter (other 0 a) (other 7 b);
      records = λ a b. h.records ∙ u.records (other 0 a) (other 7 b);
      replies = λ a. h.replies ∙ u.replies (other 7 a);
      marks = λ a b. h.marks ∙ ap (mark_after mark) (u.marks (other 3 a) (other 5 b)) ∙ mark_same mark;
      pages = λ a b c. h.pages ∙ u.pages (other 4 a) (other 6 b) (other 7 c);
      asks = λ w. h.pages ∙ u.asked (⊎_elim (λ a. inl (same 4 a)) (λ a. inr (same 6 a)) w);
      frames = λ a. h.frames ∙ u.frames (other 0 a);
      says = λ a b. h.reports ∙ ap report_words (u.says (other 0 a) (other 7 b)) ∙ number;
    }
  where
    other : (n : ℕ) → o.returned ≢ n → (transmit_take table window (queue_of consumed replied mark) page frame l).report.answer ≢ n
    other n f g = f (h.returns ∙ g)

    same : (n : ℕ) → o.returned ≡ n → (transmit_take table window (queue_of consumed replied mark) page frame l).report.answer ≡ n
    same n f = rw h.returns at f

    number : report_words (plain (transmit_take table window (queue_of consumed replied mark) page frame l).report.answer) ≡ report_words (plain o.returned)
    number = rw h.returns refl

-- ---- a finish

module _ (consumed replied : ℕ) (page : List ℕ) (l : List Held) (o : FinishLeft) where
  Same : FinishEffect → Type 0
  Same e = FinishLeaves e o → o.returned ≢ 0 → FinishUnchanged replied page l o

  by_test : (b : Bool) (x y : FinishEffect) → Same x → Same y → Same (cond b x y)
  by_test true x y f g = f
  by_test false x y f g = g

  refused_same : (n : ℕ) → Same (unfinished n replied page l)
  unfolding Same
  refused_same n h k = record { replies = h.replies; pages = h.pages; records = h.records; says = h.reports ∙ rw h.returns refl }

  finished_same : (m : List Held) → Same (finished consumed replied page m)
  unfolding finished Same
  finished_same m h k = absurd (k h.returns)

  all_same : (ticket status : ℕ) → Same (transmit_finish consumed replied page l ticket status)
  unfolding transmit_finish
  all_same ticket status =
      by_test (not (eqb (length page) 4096)) _ _ (refused_same 1)
      (by_test (not (valid consumed replied l)) _ _ (refused_same 17)
      (by_test (not (can_finish l ticket && is_status status)) _ _ (refused_same 15) (finished_same (finish l ticket status))))

pub finishes_unchanged : FinishesUnchanged
unfolding FinishesUnchanged Same
finishes_unchanged consumed replied page l ticket status o = all_same consumed replied page l o ticket status
