-- The rows of posting hold: every row's two sides compute to the same numbers.
use mathlib.Core.Path.{refl}
use Rattle.words.specs.Word.{u16_at, u32_at, bit, u16_bytes, u32_bytes, splice}
use Rattle.ring.specs.Ring.{wadd, wsub, with_req_event, with_producer, posted, asking, notify, slot_place, slot_at, with_posted}
use Rattle.grant.specs.Grant.{has_word, word_bits, granted, writable, page_of, range_start, range_length, range_end, range_in_page, whole_page, in_range, usable, fit_transmit, fit_receive, page_part, with_page}
use Rattle.netif.specs.Slot.{gref, offset, flags, ident, size, more_data, extra_follows, is_extra, another_extra, gso_size, gso_type, transmit_reply, request_ident, request_gref, receive_reply}
use Rattle.grammar.specs.Grammar.{within}
use Rattle.grammar.specs.Divide.{divide}
use Rattle.packet.specs.Judge.{total_of, own_part, parts, judge_sizes, judge_slot, judge_slots, judge, data_reply, extra_reply, replies_of, part_of, frame_of}
use Rattle.held.specs.Records.{in_use, is_finished, full, place_at, record_at, first_free, added}
use Rattle.held.specs.Valid.{between, each_held, owns, owners, covers, is_count, oldest_waits, valid}
use Rattle.transmit.specs.Take.{waiting_slots, summary_of, handed_over, overflow, look, transmit_take}
use Rattle.receive.specs.Put.{bad_length, needed}
use Rattle.netif.specs.Encode.{data_bytes, extra_bytes}
use Rattle.frontend.specs.Pages.{bad_pages}
use Rattle.frontend.specs.Post.{bad_gso, flags_for, data_for, free_slots, slots_for, post_packet, post}
use Rattle.examples.specs.Posts.{post_rows, PostsHold}

pub posts_hold : PostsHold
unfolding u16_at u32_at bit u16_bytes u32_bytes splice wadd wsub with_req_event with_producer posted asking notify slot_place slot_at with_posted has_word word_bits granted writable page_of range_start range_length range_end range_in_page whole_page in_range usable fit_transmit fit_receive gref offset flags ident size more_data extra_follows is_extra another_extra gso_size gso_type transmit_reply request_ident request_gref receive_reply within divide total_of own_part parts judge_sizes judge_slot judge_slots judge data_reply extra_reply replies_of in_use is_finished full place_at record_at first_free added between each_held owns owners covers is_count oldest_waits valid waiting_slots summary_of handed_over overflow look transmit_take bad_length needed post_rows PostsHold data_bytes extra_bytes part_of frame_of page_part with_page bad_pages bad_gso flags_for data_for free_slots slots_for post_packet post
posts_hold = refl
