-- The sequence, by computation.
use mathlib.Core.Path.{◌≡◌, refl}
use mathlib.Core.List.{List, [], ◌∷◌}
use Prim.Native.Nat.{ℕ, zero, suc, ◌+◌, ◌<◌}
use native.Mathlib.Omega.{arith}
use lib.Dec.{lit<, lit≤}
use Rattle.words.specs.Word.{u16_at, u32_at, bit, u16_bytes, u32_bytes, splice}
use Rattle.words.proofs.Word.{bytes_of}
use Rattle.ring.specs.Ring.{wadd, wsub, with_req_event, with_producer, posted, asking, notify, slot_place, slot_at}
use Rattle.grant.specs.Grant.{has_word, word_bits, granted, writable, page_of, range_start, range_length, range_end, range_in_page, whole_page, in_range, usable, fit_transmit}
use Rattle.netif.specs.Slot.{gref, offset, flags, ident, size, more_data, extra_follows, is_extra, another_extra, gso_size, gso_type, transmit_reply, transmit_slot}
use Rattle.grammar.specs.Grammar.{within}
use Rattle.grammar.specs.Divide.{divide}
use Rattle.grammar.specs.Service.{◌▹◌}
use Rattle.answer.specs.Words.{mark_after, report_words}
use Rattle.packet.specs.Judge.{total_of, own_part, parts, judge_sizes, judge_slot, judge_slots, judge, data_reply, extra_reply, replies_of}
use Rattle.held.specs.declared.Held.{Held}
use Rattle.held.specs.Records.{dropped, in_use, free, is_finished, full, all_free, place_at, record_at, first_free, added, finish, can_finish, freed}
use Rattle.held.specs.Valid.{between, each_held, owns, owners, covers, is_count, oldest_waits, valid}
use Rattle.held.specs.Release.{settle}
use Rattle.transmit.specs.Take.{waiting_slots, summary_of, replies_to, overflow, spoiled, handed_over, look, transmit_take}
use Rattle.transmit.specs.Finish.{finished, transmit_finish}
use Rattle.transmit.specs.Words.{TakeLeft, FinishLeft}
use Rattle.sequences.specs.Sequence.{State, queue_at, Fresh, after_publication, Room, Take, take_lent, after_take, after_finish, Sequence}
use Rattle.sequences.specs.Unrewritten.{KeepsHeld}
use Rattle.sequences.specs.Turns.{zeros, table, window, one_posted, three_posted, Turns}

abbrev blank : List ℕ
blank = zeros 4096

abbrev records : List Held
records = free ∷ free ∷ free ∷ []

is_fresh : Fresh 0 blank records
unfolding u32_at all_free in_use
is_fresh = record { counter = lit< tt; size = refl; bytes = bytes_of blank refl; requests = refl; replies = refl; records = lit≤ tt; unused = refl }

-- what a take with room for every frame leaves, and a finish
abbrev left : State → TakeLeft
left s =
    let e = transmit_take table window (queue_at s) s.page (zeros 65535) s.list in
    record {
      returned = e.report.answer;
      consumed = e.queue.consumed;
      replied = e.queue.replied;
      mark = mark_after s.mark e.queue.halted;
      page = e.page;
      frame = e.frame;
      list = e.list;
      words = report_words e.report;
    }

abbrev finish_left : State → (ticket status : ℕ) → FinishLeft
finish_left s ticket status =
    let e = transmit_finish s.consumed s.replied s.page s.list ticket status in
    record { returned = e.report.answer; replied = e.replied; page = e.page; list = e.list; words = report_words e.report }

-- one take more, and one finish more
abbrev took : {s : State} {takes : List Take} → Sequence table window 0 s takes → Room s → Sequence table window 0 (after_take s (left s)) (takes ▹ take_lent s (zeros 65535) (left s))
took {s} z room =
    Sequence.takes z (zeros 65535) (left s) (lit≤ tt) room (record { returns = refl; reports = refl; counter = refl; replies = refl; marks = refl; pages = refl; frames = refl; records = refl })

abbrev ended : {s : State} {takes : List Take} → Sequence table window 0 s takes → (ticket status : ℕ) → Sequence table window 0 (after_finish s (finish_left s ticket status)) takes
ended {s} z ticket status =
    Sequence.finishes z ticket status (finish_left s ticket status) (record { returns = refl; reports = refl; replies = refl; pages = refl; records = refl })

only_first : (P : ℕ → Type 0) → P 0 → (i : ℕ) → i < 1 → P i
only_first P p zero h = p
only_first P p (suc i) h = absurd (omega arith)

pub turns : Turns
unfolding KeepsHeld after_publication Room mark_after report_words u16_at u32_at bit u16_bytes u32_bytes splice wadd wsub with_req_event with_producer posted asking notify slot_place slot_at has_word word_bits granted writable page_of range_start range_length range_end range_in_page whole_page in_range usable fit_transmit gref offset flags ident size more_data extra_follows is_extra another_extra gso_size gso_type transmit_reply within divide total_of own_part parts judge_sizes judge_slot judge_slots judge data_reply extra_reply replies_of in_use is_finished full place_at record_at first_free added finish can_finish freed between each_held owns owners covers is_count oldest_waits valid settle waiting_slots summary_of replies_to overflow spoiled handed_over look transmit_take finished transmit_finish
turns = record {
  state = _;
  takes = _;
  sequence =
      ended
      (ended
      (ended
      (took
      (took
      (Sequence.publish
      (took
      (Sequence.publish (Sequence.fresh is_fresh) one_posted 1 (record { size = refl; bytes = bytes_of one_posted refl; raised = refl; few = lit≤ tt; kept = λ i h. absurd (omega (arith, h)) }))
      (λ d e f. refl))
      three_posted 2 (record { size = refl; bytes = bytes_of three_posted refl; raised = refl; few = lit≤ tt; kept = λ i h. absurd (omega (arith, h)) }))
      (λ d e f. refl))
      (λ d e f. refl))
      2 0)
      1 0)
      0 dropped;
  unrewritten = ((tt, λ i h. absurd (omega (arith, h))), λ i h. only_first (λ (j : ℕ). transmit_slot three_posted (0 + j) ≡ transmit_slot one_posted (0 + j)) refl i h);
  answers = refl;
  replied = refl;
  left = refl;
  first = refl;
  second = refl;
  third = refl;
}
