-- The sequence, by computation; that the batch finds room, by `records_suffice`.
use mathlib.Core.Path.{refl}
use mathlib.Core.List.{List, [], ◌∷◌}
use Prim.Native.Nat.{ℕ}
use native.Mathlib.Omega.{arith}
use lib.ListN.{length-replicate, replicate}
use lib.Dec.{lit<, lit≤}
use Rattle.words.specs.Word.{u16_at, u32_at, bit, u16_bytes, u32_bytes, splice}
use Rattle.words.proofs.Word.{bytes_of}
use Rattle.ring.specs.Ring.{wadd, wsub, with_req_event, with_producer, posted, asking, notify, slot_place, slot_at}
use Rattle.grant.specs.Grant.{has_word, word_bits, granted, writable, page_of, range_start, range_length, range_end, range_in_page, whole_page, in_range, usable, fit_transmit, page_part}
use Rattle.netif.specs.Slot.{gref, offset, flags, ident, size, more_data, extra_follows, is_extra, another_extra, gso_size, gso_type, transmit_reply}
use Rattle.grammar.specs.Grammar.{within}
use Rattle.grammar.specs.Divide.{divide}
use Rattle.answer.specs.Words.{mark_after, report_words}
use Rattle.packet.specs.Judge.{total_of, own_part, parts, judge_sizes, judge_slot, judge_slots, judge, data_reply, extra_reply, replies_of, part_of, frame_of}
use Rattle.held.specs.declared.Held.{Held}
use Rattle.held.specs.Records.{dropped, in_use, free, is_finished, full, all_free, place_at, record_at, first_free, added, finish, can_finish, freed}
use Rattle.held.specs.Valid.{between, each_held, owns, owners, covers, is_count, oldest_waits, valid}
use Rattle.held.specs.Release.{settle}
use Rattle.transmit.specs.Take.{waiting_slots, summary_of, replies_to, overflow, spoiled, handed_over, look, transmit_take}
use Rattle.transmit.specs.Finish.{finished, transmit_finish}
use Rattle.transmit.specs.Words.{FinishLeft}
use Rattle.batch.specs.Batch.{stored, transmit_batch}
use Rattle.batch.specs.Words.{BatchLeft}
use Rattle.batch.proofs.Repeated.{left_of, left_so}
use Rattle.sequences.specs.Sequence.{State, queue_at, Fresh, after_publication, after_finish}
use Rattle.sequences.specs.Unrewritten.{KeepsHeld}
use Rattle.sequences.specs.Turns.{zeros, table, window, three_posted}
use Rattle.batches.specs.BatchSequence.{BatchSequence, Enough, RecordsSuffice}
use Rattle.batches.specs.BatchTurns.{BatchTurns}
use Rattle.batches.proofs.Records.{records_suffice}

abbrev blank : List ℕ
blank = zeros 4096

abbrev records : List Held
records = free ∷ free ∷ free ∷ []

is_fresh : Fresh 0 blank records
unfolding u32_at all_free in_use
is_fresh = record { counter = lit< tt; size = refl; bytes = bytes_of blank refl; requests = refl; replies = refl; records = lit≤ tt; unused = refl }

-- room for three frames, and three results
abbrev room : List ℕ
room = zeros 196605

abbrev results : List (List ℕ)
results = replicate 3 []

abbrev posted_three : State
posted_three = after_publication (record { consumed = 0; replied = 0; mark = 0; page = blank; list = records; run = [] }) three_posted 3

enough : Enough table window posted_three room results 3
unfolding RecordsSuffice after_publication in_use
enough = records_suffice table window posted_three room results 3 (rw length-replicate (omega arith)) (lit≤ tt)

abbrev finish_left : State → (ticket status : ℕ) → FinishLeft
finish_left s ticket status =
    let e = transmit_finish s.consumed s.replied s.page s.list ticket status in
    record { returned = e.report.answer; replied = e.replied; page = e.page; list = e.list; words = report_words e.report }

abbrev left : BatchLeft
left = left_of (transmit_batch table window (queue_at posted_three) posted_three.page room posted_three.list results 3) 0

abbrev ended : {s : State} {words : List (List ℕ)} → BatchSequence table window 0 s words → (ticket status : ℕ) → BatchSequence table window 0 (after_finish s (finish_left s ticket status)) words
ended {s} z ticket status =
    BatchSequence.finishes z ticket status (finish_left s ticket status) (record { returns = refl; reports = refl; replies = refl; pages = refl; records = refl })

pub batch_turns : BatchTurns
unfolding stored transmit_batch KeepsHeld after_publication mark_after report_words u16_at u32_at bit u16_bytes u32_bytes splice wadd wsub with_req_event with_producer posted asking notify slot_place slot_at has_word word_bits granted writable page_of range_start range_length range_end range_in_page whole_page in_range usable fit_transmit page_part gref offset flags ident size more_data extra_follows is_extra another_extra gso_size gso_type transmit_reply within divide total_of own_part parts judge_sizes judge_slot judge_slots judge data_reply extra_reply replies_of part_of frame_of in_use is_finished full place_at record_at first_free added finish can_finish freed between each_held owns owners covers is_count oldest_waits valid settle waiting_slots summary_of replies_to overflow spoiled handed_over look transmit_take finished transmit_finish
batch_turns = record {
  state = _;
  words = _;
  sequence =
      ended
      (ended
      (BatchSequence.batches
      (BatchSequence.publish (BatchSequence.fresh is_fresh) three_posted 3 (record { size = refl; bytes = bytes_of three_posted refl; raised = refl; few = lit≤ tt; kept = λ i h. absurd (omega (arith, h)) }))
      room results 3 left (λ h. enough) (left_so (transmit_batch table window (queue_at posted_three) posted_three.page room posted_three.list results 3) 0))
      2 0)
      0 dropped;
  keeping = (tt, λ i h. absurd (omega (arith, h)));
  answers = refl;
  consumed = refl;
  replied = refl;
}
