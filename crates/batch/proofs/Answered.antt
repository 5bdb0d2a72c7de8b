-- The batches computed.
use mathlib.Core.Path.{refl}
use Rattle.words.specs.Word.{u16_at, u32_at, bit, u16_bytes, u32_bytes, splice}
use Rattle.ring.specs.Ring.{wadd, wsub, with_req_event, with_producer, posted, asking, notify, slot_place, slot_at}
use Rattle.grant.specs.Grant.{has_word, word_bits, granted, writable, page_of, range_start, range_length, range_end, range_in_page, whole_page, in_range, usable, fit_transmit, page_part}
use Rattle.netif.specs.Slot.{gref, offset, flags, ident, size, more_data, extra_follows, is_extra, another_extra, gso_size, gso_type, transmit_reply}
use Rattle.grammar.specs.Grammar.{within}
use Rattle.grammar.specs.Divide.{divide}
use Rattle.answer.specs.Words.{report_words}
use Rattle.packet.specs.Judge.{total_of, own_part, parts, judge_sizes, judge_slot, judge_slots, judge, data_reply, extra_reply, replies_of, part_of, frame_of}
use Rattle.held.specs.Records.{in_use, is_finished, full, place_at, record_at, first_free, added, finish, can_finish, freed}
use Rattle.held.specs.Valid.{between, each_held, owns, owners, covers, is_count, oldest_waits, valid}
use Rattle.held.specs.Release.{settle}
use Rattle.transmit.specs.Take.{waiting_slots, summary_of, replies_to, overflow, spoiled, handed_over, look, transmit_take}
use Rattle.batch.specs.Batch.{stored, transmit_batch}
use Rattle.batch.specs.Answered.{Answered}

pub batches_answered : Answered
unfolding stored transmit_batch report_words u16_at u32_at bit u16_bytes u32_bytes splice wadd wsub with_req_event with_producer posted asking notify slot_place slot_at has_word word_bits granted writable page_of range_start range_length range_end range_in_page whole_page in_range usable fit_transmit page_part gref offset flags ident size more_data extra_follows is_extra another_extra gso_size gso_type transmit_reply within divide total_of own_part parts judge_sizes judge_slot judge_slots judge data_reply extra_reply replies_of part_of frame_of in_use is_finished full place_at record_at first_free added finish can_finish freed between each_held owns owners covers is_count oldest_waits valid settle waiting_slots summary_of replies_to overflow spoiled handed_over look transmit_take
batches_answered = record {
  all_count = refl;
  all_answers = refl;
  all_frames = refl;
  all_behind = refl;
  two_answers = refl;
  two_consumed = refl;
  short_count = refl;
  short_answers = refl;
  short_frames = refl;
  list_answer = refl;
  list_count = refl;
  many_answer = refl;
  most_answer = refl;
  most_answers = refl;
}
