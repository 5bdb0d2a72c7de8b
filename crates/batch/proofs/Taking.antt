-- What a batch needs of a take: its cases, by the tests of the definition, and from them its answers and what it leaves of its part of the
-- frame buffer.
use mathlib.Core.Path.{◌≡◌, refl, ap, ◌∙◌}
use mathlib.Core.Logic.{◌≢◌, ◌⊎◌, inl, inr}
use mathlib.Core.List.{List}
use mathlib.Core.Bool.{Bool, true, false, not, cond, ◌||◌}
use Prim.Native.Nat.{ℕ, ◌+◌, ◌≤◌}
use native.Mathlib.Nat.{zero-add}
use native.Mathlib.Omega.{arith}
use lib.ListN.{length, take, drop, length-take}
use lib.Seq.{drop_at}
use lib.Dec.{eqb, ltb}
use borrow.Author.Tests.{ltb-false, ne_eqb, eqb-true, not-false}
use Rattle.words.specs.Word.{splice}
use Rattle.words.proofs.Word.{no_confusion, splice_length}
use Rattle.ring.specs.Ring.{posted}
use Rattle.ring.proofs.Ring.{slots_length}
use Rattle.netif.specs.Slot.{Slot}
use Rattle.grammar.specs.Divide.{Cut, whole, beginning, misshapen, divide, on_cut}
use Rattle.std.specs.Prelude.{Ok, Err}
use Rattle.answer.specs.Verdict.{Verdict, good}
use Rattle.packet.specs.Judge.{judge, total_of, frame_of}
use Rattle.packet.proofs.Judge.{frame_length}
use Rattle.held.specs.declared.Held.{Held}
use Rattle.held.specs.Records.{full}
use Rattle.held.specs.Valid.{valid}
use Rattle.transmit.specs.declared.Queue.{Queue}
use Rattle.transmit.specs.Take.{TakeEffect, refusal, overflow, waiting_slots, summary_of, spoiled, handed_over, take_packet, Look, stop, ready, take_of, look, transmit_take}
use Rattle.transmit.proofs.Cases.{few_posted}
use Rattle.batch.specs.Batch.{goes_on}
use Rattle.batch.specs.Repeated.{GoesOn, Ends}

-- ---- the answers

one_to_six : (n : ℕ) → 1 ≤ n → n ≤ 6 → Ends n
one_to_six n h k = inl (h, k)

pub not_both : (n : ℕ) → GoesOn n → Ends n → ⊥
not_both n (inl a) (inl b) = omega (arith, b.0)
not_both n (inl a) (inr (inl b)) = omega arith
not_both n (inl a) (inr (inr (inl b))) = omega arith
not_both n (inl a) (inr (inr (inr b))) = omega arith
not_both n (inr a) (inl b) = omega (arith, b.1)
not_both n (inr a) (inr (inl b)) = omega arith
not_both n (inr a) (inr (inr (inl b))) = omega arith
not_both n (inr a) (inr (inr (inr b))) = omega arith

-- the test of the definition, by the numbers
pub goes_on_lem : (n : ℕ) → GoesOn n → goes_on n ≡ true
goes_on_lem n (inl h) = rw h
goes_on_lem n (inr h) = rw h

pub only_these : (n : ℕ) → goes_on n ≡ true → GoesOn n
only_these n h = go (eqb n 0) refl (eqb n 7) refl h
  where
    go : (a : Bool) → eqb n 0 ≡ a → (b : Bool) → eqb n 7 ≡ b → a || b ≡ true → GoesOn n
    go true x b y k = inl (eqb-true n 0 x)
    go false x true y k = inr (eqb-true n 7 y)
    go false x false y k = no_confusion cc

pub ends_it : (n : ℕ) → Ends n → goes_on n ≡ false
ends_it n h = rw (ne_eqb n 0 (λ z. not_both n (inl z) h), ne_eqb n 7 (λ z. not_both n (inr z) h))

module _ (table window : List ℕ) (q : Queue) (page frame : List ℕ) (l : List Held) where
  -- ---- the cases

  -- what holds of every ending answer, of a good packet handed over with room for its frame, and of a spoiled one; a packet is taken only where the
  -- list of records is valid, and has at most the ring's slots
  module _ (P : TakeEffect → Type 0) (refused : (n : ℕ) → Ends n → P (refusal n q page frame l))
      (handed : (e : ℕ) (p : List Slot) → valid q.consumed q.replied l ≡ true → length p ≤ 256 → judge table window e p ≡ good → total_of p ≤ length frame
      → P (handed_over table window q page frame l e p))
      (spoilt : (e : ℕ) (p : List Slot) (cause place : ℕ) → valid q.consumed q.replied l ≡ true → length p ≤ 256 → P (spoiled q page frame l e p cause place)) where
    by_test : (b : Bool) (x y : TakeEffect) → P x → (b ≡ false → P y) → P (cond b x y)
    by_test true x y f g = f
    by_test false x y f g = g refl

    packet_case : valid q.consumed q.replied l ≡ true → (e : ℕ) (p : List Slot) → length p ≤ 256 → (v : Verdict) → judge table window e p ≡ v
        → P (take_packet table window q page frame l e p v)
    packet_case h e p few (Err fault) j = by_test (full l) _ _ (refused 14 (inr (inr (inl refl)))) (λ f. spoilt e p fault.cause fault.place h few)
    packet_case h e p few (Ok u) j =
        by_test (ltb (length frame) (total_of p)) _ _ (refused 8 (inr (inl refl)))
        (λ r. by_test (full l) _ _ (refused 14 (inr (inr (inl refl)))) (λ f. handed e p h few j (ltb-false (length frame) (total_of p) r)))

    LookHas : Look → Type 0
    LookHas x = P (take_of table window q page frame l x)

    look_case : (b : Bool) (x y : Look) → LookHas x → (b ≡ false → LookHas y) → LookHas (cond b x y)
    look_case true x y f g = f
    look_case false x y f g = g refl

    few_slots : overflow q.consumed q.replied page ≡ false → (n : ℕ) → length (take n (waiting_slots page q.consumed)) ≤ 256
    unfolding waiting_slots
    few_slots o n = omega (arith, length-take n (waiting_slots page q.consumed), slots_length 12 256 page (posted page q.consumed) q.consumed, few_posted page q.consumed q.replied o)

    pub take_cases : P (transmit_take table window q page frame l)
    unfolding transmit_take look LookHas
    take_cases =
        look_case (not (eqb (length page) 4096)) _ _ (refused 1 (one_to_six 1 (omega arith) (omega arith))) (λ k.
        look_case (not (valid q.consumed q.replied l)) _ _ (refused 17 (inr (inr (inr refl)))) (λ g.
        look_case q.halted _ _ (refused 2 (one_to_six 2 (omega arith) (omega arith))) (λ m.
        look_case (overflow q.consumed q.replied page) _ _ (refused 3 (one_to_six 3 (omega arith) (omega arith))) (λ o.
        look_case (eqb (posted page q.consumed) 0) _ _ (refused 4 (one_to_six 4 (omega arith) (omega arith))) (λ z.
        by_cut (not-false _ g) o (divide (waiting_slots page q.consumed)))))))
      where
        by_cut : valid q.consumed q.replied l ≡ true → overflow q.consumed q.replied page ≡ false → (c : Cut)
            → LookHas (on_cut c (λ d e. ready e (take (d + e) (waiting_slots page q.consumed)) (judge table window e (take (d + e) (waiting_slots page q.consumed)))) (stop 6) (stop 5))
        by_cut h o (whole d e) =
            packet_case h e (take (d + e) (waiting_slots page q.consumed)) (few_slots o (d + e)) (judge table window e (take (d + e) (waiting_slots page q.consumed))) refl
        by_cut h o beginning = refused 6 (one_to_six 6 (omega arith) (omega arith))
        by_cut h o misshapen = refused 5 (one_to_six 5 (omega arith) (omega arith))

  -- ---- what follows

  -- an answer that goes on or one that ends
  pub take_answers : GoesOn (transmit_take table window q page frame l).report.answer ⊎ Ends (transmit_take table window q page frame l).report.answer
  unfolding handed_over spoiled
  take_answers = take_cases (λ (e : TakeEffect). GoesOn e.report.answer ⊎ Ends e.report.answer) (λ n h. inr h) (λ e p v w j r. inl (inl refl)) (λ e p c k v w. inl (inr refl))

  -- it takes at most the ring's slots, and takes a packet only where the list of records is valid
  pub take_slots : (transmit_take table window q page frame l).report.slots ≤ 256
  unfolding handed_over spoiled summary_of
  take_slots = take_cases (λ (e : TakeEffect). e.report.slots ≤ 256) (λ n h. omega arith) (λ e p v w j r. w) (λ e p c k v w. w)

  pub take_valid : GoesOn (transmit_take table window q page frame l).report.answer → valid q.consumed q.replied l ≡ true
  take_valid = take_cases (λ (e : TakeEffect). GoesOn e.report.answer → valid q.consumed q.replied l ≡ true) (λ n h g. absurd (not_both n g h)) (λ e p v w j r g. v) (λ e p c k v w g. v)

  -- and notifies only with 7
  pub take_quiet : (transmit_take table window q page frame l).report.answer ≢ 7 → (transmit_take table window q page frame l).report.notifies ≡ 0
  unfolding handed_over spoiled
  take_quiet = take_cases (λ (e : TakeEffect). e.report.answer ≢ 7 → e.report.notifies ≡ 0) (λ n h k. refl) (λ e p v w j r k. refl) (λ e p c i v w k. absurd (k refl))

  -- a take writes to its part of the frame buffer at most the bytes of its total, and they fit
  pub record Writes (e : TakeEffect) : Type 0 where
    pub fits : e.report.total ≤ length frame
    pub long : length e.frame ≡ length frame
    pub stays : drop e.report.total e.frame ≡ drop e.report.total frame

  handed_writes : (e : ℕ) (p : List Slot) → judge table window e p ≡ good → total_of p ≤ length frame → Writes (handed_over table window q page frame l e p)
  unfolding handed_over summary_of splice
  handed_writes e p j r =
      let f = frame_of table window e p in
      let n : length f ≡ total_of p = frame_length table window e p j in
      record {
        fits = r;
        long = splice_length frame 0 f (omega arith);
        stays = drop_at f (drop (0 + length f) frame) (total_of p) n ∙ ap (λ (k : ℕ). drop k frame) (zero-add (length f) ∙ n);
      }

  pub take_writes : Writes (transmit_take table window q page frame l)
  unfolding spoiled
  take_writes = take_cases Writes (λ n h. record { fits = omega arith; long = refl; stays = refl }) (λ e p v w. handed_writes e p) (λ e p c k v w. record { fits = omega arith; long = refl; stays = refl })
