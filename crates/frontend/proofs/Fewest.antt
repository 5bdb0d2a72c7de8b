-- No packet of a total with fewer data slots than its pages is done: what is in range of a fit grant is at most a page, so a good packet's
-- total is at most a page for each data slot.
use mathlib.Core.Path.{◌≡◌, refl, ap, ◌∙◌}
use mathlib.Core.List.{List, [], ◌∷◌}
use mathlib.Core.Bool.{Bool, true, false, not, cond}
use Prim.Native.Nat.{ℕ, suc, ◌+◌, ◌-◌, ◌*◌, ◌≤◌}
use native.Mathlib.Omega.{arith}
use lib.ListN.{length, take, length-drop}
use lib.Dec.{ltb, eqb}
use borrow.Author.Tests.{not-false}
use Rattle.std.specs.Prelude.{Ok, Err}
use Rattle.grant.specs.Grant.{in_range, fit_transmit}
use Rattle.netif.specs.Slot.{Slot, gref, offset, size}
use Rattle.grammar.specs.Packet.{first_of, later_of, sizes}
use Rattle.transmit.specs.declared.Queue.{Queue}
use Rattle.grammar.proofs.Grammar.{divide_whole, front_slots}
use Rattle.ring.specs.Ring.{posted}
use Rattle.held.specs.declared.Held.{Held}
use Rattle.held.specs.Records.{full}
use Rattle.held.specs.Valid.{valid}
use Rattle.transmit.specs.Take.{TakeEffect, refusal, overflow, waiting_slots, summary_of, spoiled, handed_over, take_packet, Look, stop, ready, look_front, look, take_of, transmit_take}
use Rattle.answer.specs.Verdict.{Verdict, good, test}
use Rattle.packet.specs.Judge.{total_of, own_part, judge_slot, judge_later, judge}
use Rattle.packet.proofs.Judge.{or_else_good, test_good, good_parts, good_sizes}
use Rattle.receive.specs.Put.{needed}
use Rattle.frontend.specs.RoundTrip.{Fewest, FewestDone}
use Rattle.grant.proofs.Grant.{range_page}

module _ (table window : List ℕ) where
  -- a part is at most a page
  slot_short : (k : ℕ) (s : Slot) (n : ℕ) → judge_slot table window k s n ≡ good → n ≤ 4096
  unfolding judge_slot
  slot_short k s n h =
      let (a, b) = or_else_good (test (not (fit_transmit table window (gref s))) 4 k) (test (not (in_range table (gref s) (offset s) n)) 5 k) h in
      omega (
        arith,
        range_page table window (gref s) (offset s) n
            (not-false _ (test_good (not (in_range table (gref s) (offset s) n)) 5 k b))
            (not-false _ (test_good (not (fit_transmit table window (gref s))) 4 k a)),
      )

  later_short : (l : List Slot) (k : ℕ) → judge_later table window k l ≡ good → sizes l ≤ 4096 * length l
  later_short [] k h = omega arith
  later_short (s ∷ l) k h =
      let (a, b) = or_else_good (judge_slot table window k s (size s)) (judge_later table window (suc k) l) h in
      omega (arith, slot_short k s (size s) a, later_short l (suc k) b)

  -- a good packet's total is at most a page for each data slot
  pub total_short : (e : ℕ) (p : List Slot) → judge table window e p ≡ good → total_of p ≤ 4096 * suc (length (later_of e p))
  unfolding own_part
  total_short e p h =
      let (a, b, c) = good_parts table window e p h in
      omega (arith, slot_short 0 (first_of p) (own_part e p) b, later_short (later_of e p) (suc e) c, good_sizes table window e p h)

pub fewest : Fewest
unfolding Fewest needed
fewest table window e p k h = omega (arith, total_short table window e p h, length-drop (suc e) p)

-- ---- of a take

module _ (table window : List ℕ) (q : Queue) (page buffer : List ℕ) (records : List Held) where
  -- an answer that is not done
  pass : (b : Bool) (n : ℕ) (y : Look) → (take_of table window q page buffer records (cond b (stop (suc n)) y)).report.answer ≡ 0 → cond b (stop (suc n)) y ≡ y
  pass true n y h = absurd (omega arith)
  pass false n y h = refl

  look_done : (transmit_take table window q page buffer records).report.answer ≡ 0 → look table window q page records ≡ look_front table window q.consumed page
  unfolding transmit_take look
  look_done h =
      let a = pass (not (eqb (length page) 4096)) 0 _ h in
      let h1 = rw a at h in
      let b = pass (not (valid q.consumed q.replied records)) 16 _ h1 in
      let h2 = rw b at h1 in
      let c = pass q.halted 1 _ h2 in
      let h3 = rw c at h2 in
      let d = pass (overflow q.consumed q.replied page) 2 _ h3 in
      let h4 = rw d at h3 in
      a ∙ b ∙ c ∙ d ∙ pass (eqb (posted page q.consumed) 0) 3 _ h4

  -- a packet that is done is good, and its total is reported
  packet_done : (e : ℕ) (p : List Slot) (v : Verdict) → (take_packet table window q page buffer records e p v).report.answer ≡ 0
      → (v ≡ good) × ((take_packet table window q page buffer records e p v).report.total ≡ total_of p)
  unfolding spoiled handed_over summary_of
  packet_done e p (Err f) h = go (full records) h
    where
      go : (b : Bool) → (cond b (refusal 14 q page buffer records) (spoiled q page buffer records e p f.cause f.place)).report.answer ≡ 0
          → (Err f ≡ good) × ((cond b (refusal 14 q page buffer records) (spoiled q page buffer records e p f.cause f.place)).report.total ≡ total_of p)
      go true h = absurd (omega arith)
      go false h = absurd (omega arith)
  packet_done e p (Ok u) h = go (ltb (length buffer) (total_of p)) (full records) h
    where
      result : Bool → Bool → TakeEffect
      result b f = cond b (refusal 8 q page buffer records) (cond f (refusal 14 q page buffer records) (handed_over table window q page buffer records e p))

      go : (b f : Bool) → (result b f).report.answer ≡ 0 → (Ok u ≡ good) × ((result b f).report.total ≡ total_of p)
      go true f h = absurd (omega arith)
      go false true h = absurd (omega arith)
      go false false h = (refl, refl)

pub fewest_done : FewestDone
unfolding FewestDone transmit_take Fewest
fewest_done table window q page buffer records d e cut h =
    let l = waiting_slots page q.consumed in
    let p = take (d + e) l in
    let a = look_done table window q page buffer records h in
    let r : look table window q page records ≡ ready e p (judge table window e p) = a ∙ rw cut refl in
    let (is_good, total) = packet_done table window q page buffer records e p (judge table window e p) (rw r at h) in
    let f = divide_whole l d e cut in
    let (size, taken, left) = front_slots l d e f in
    let count : length p ≡ d + e = ap length taken ∙ size in
    let least : needed (total_of p) ≤ length p - e = fewest table window e p (omega (arith, f.counts_data)) is_good in
    rw (r, total) (omega arith)
