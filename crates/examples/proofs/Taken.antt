-- On a fresh queue one packet of two slots is published in two publications, the take between them is told waiting, and the take
-- after both takes the packet; and a sequence in which a queue is halted: by computation.
use mathlib.Core.Path.{◌≡◌, refl}
use mathlib.Core.Bool.{false}
use mathlib.Core.List.{List, [], ◌++◌}
use Prim.Native.Nat.{ℕ, zero, suc, ◌+◌, ◌<◌}
use native.Mathlib.Omega.{arith}
use lib.Dec.{lit<, lit≤}
use Rattle.words.specs.Word.{u16_at, u32_at, bit, u16_bytes, u32_bytes, splice}
use Rattle.words.proofs.Word.{bytes_of}
use Rattle.ring.specs.Ring.{wadd, wsub, with_req_event, with_producer, posted, asking, notify, slot_place, slot_at}
use Rattle.grant.specs.Grant.{has_word, word_bits, granted, writable, page_of, range_start, range_length, range_end, range_in_page, whole_page, in_range, usable, fit_transmit}
use Rattle.netif.specs.Slot.{gref, offset, flags, ident, size, more_data, extra_follows, is_extra, another_extra, gso_size, gso_type, transmit_reply, transmit_slot}
use Rattle.grammar.specs.Grammar.{within}
use Rattle.grammar.specs.Divide.{divide}
use Rattle.packet.specs.Judge.{total_of, own_part, parts, judge_sizes, judge_slot, judge_slots, judge, data_reply, extra_reply, replies_of}
use Rattle.answer.specs.Words.{mark_after, report_words}
use Rattle.grammar.specs.Service.{◌▹◌}
use Rattle.held.specs.Records.{in_use, is_finished, full, all_free, place_at, record_at, first_free, added, freed}
use Rattle.held.specs.Valid.{between, each_held, owns, owners, covers, is_count, oldest_waits, valid}
use Rattle.held.specs.Release.{settle}
use Rattle.transmit.specs.Take.{waiting_slots, summary_of, replies_to, spoiled, handed_over, overflow, look, transmit_take}
use Rattle.transmit.specs.Words.{TakeLeft}
use Rattle.sequences.specs.Sequence.{Fresh, State, queue_at, Room, Take, take_lent, after_take, after_publication, Sequence}
use Rattle.examples.specs.Calls.{zeros, one, two, with_extra, ring_page, records, grants, window}
use Rattle.examples.specs.Taken.{Answered, OneTaken, OneHalts}

-- the pages: fresh, with the first slot published, and with both
abbrev blank : List ℕ
blank = zeros 4096

abbrev half : List ℕ
half = ring_page 1 (two 100 60)

abbrev whole : List ℕ
whole = ring_page 2 (two 100 60)

-- and one with a packet of 13 bytes, and behind it a first slot that announces an extra, and none
abbrev wrong : List ℕ
wrong = ring_page 3 (one 13 ++ with_extra 2)

is_fresh : Fresh 0 blank (records 1)
unfolding u32_at all_free in_use
is_fresh = record { counter = lit< tt; size = refl; bytes = bytes_of blank refl; requests = refl; replies = refl; records = lit≤ tt; unused = refl }

-- what a take with room for every frame leaves
abbrev left : State → TakeLeft
left s =
    let e = transmit_take grants window (queue_at s) s.page (zeros 65535) s.list in
    record {
      returned = e.report.answer;
      consumed = e.queue.consumed;
      replied = e.queue.replied;
      mark = mark_after s.mark e.queue.halted;
      page = e.page;
      frame = e.frame;
      list = e.list;
      words = report_words e.report;
    }

-- one take more, where a record is free
took : {s : State} {takes : List Take} → Sequence grants window 0 s takes → full s.list ≡ false
    → Sequence grants window 0 (after_take s (left s)) (takes ▹ take_lent s (zeros 65535) (left s))
unfolding Room
took {s} z room =
    Sequence.takes z (zeros 65535) (left s) (lit≤ tt) (λ d e f. room)
    (record { returns = refl; reports = refl; counter = refl; replies = refl; marks = refl; pages = refl; frames = refl; records = refl })

abbrev start : State
start = record { consumed = 0; replied = 0; mark = 0; page = blank; list = records 1; run = [] }

first : Sequence grants window 0 (after_publication start half 1) []
unfolding u16_at u32_at u16_bytes u32_bytes wadd wsub posted slot_place slot_at
first = Sequence.publish (Sequence.fresh is_fresh) half 1 (record {
  size = refl;
  bytes = bytes_of half refl;
  raised = refl;
  few = lit≤ tt;
  kept = λ i h. absurd (omega (arith, h));
})

pub one_taken : OneTaken
unfolding OneTaken Answered after_publication mark_after u16_at u32_at bit u16_bytes u32_bytes splice wadd wsub with_req_event with_producer posted asking notify slot_place slot_at has_word word_bits granted writable page_of range_start range_length range_end range_in_page whole_page in_range usable fit_transmit gref offset flags ident size more_data extra_follows is_extra another_extra gso_size gso_type transmit_reply within divide total_of own_part parts judge_sizes judge_slot judge_slots judge data_reply extra_reply replies_of waiting_slots summary_of replies_to spoiled handed_over overflow look transmit_take in_use is_finished full place_at record_at first_free added freed between each_held owns owners covers is_count oldest_waits valid settle
one_taken = (
  _,
  _,
  took (Sequence.publish (took first refl) whole 1 (record { size = refl; bytes = bytes_of whole refl; raised = refl; few = lit≤ tt; kept = stays })) refl,
  refl,
)
  where
    stays : (i : ℕ) → i < 1 → transmit_slot whole (0 + i) ≡ transmit_slot (asking half) (0 + i)
    stays zero h = refl
    stays (suc i) h = absurd (omega arith)

three_slots : Sequence grants window 0 (after_publication start wrong 3) []
unfolding u16_at u32_at u16_bytes u32_bytes wadd wsub posted slot_place slot_at
three_slots = Sequence.publish (Sequence.fresh is_fresh) wrong 3 (record {
  size = refl;
  bytes = bytes_of wrong refl;
  raised = refl;
  few = lit≤ tt;
  kept = λ i h. absurd (omega (arith, h));
})

pub one_halts : OneHalts
unfolding OneHalts Answered after_publication mark_after u16_at u32_at bit u16_bytes u32_bytes splice wadd wsub with_req_event with_producer posted asking notify slot_place slot_at has_word word_bits granted writable page_of range_start range_length range_end range_in_page whole_page in_range usable fit_transmit gref offset flags ident size more_data extra_follows is_extra another_extra gso_size gso_type transmit_reply within divide total_of own_part parts judge_sizes judge_slot judge_slots judge data_reply extra_reply replies_of waiting_slots summary_of replies_to spoiled handed_over overflow look transmit_take in_use is_finished full place_at record_at first_free added freed between each_held owns owners covers is_count oldest_waits valid settle
one_halts = (_, _, took (took (took three_slots refl) refl) refl, refl)
