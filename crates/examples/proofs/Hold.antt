-- The examples hold: a test of every row's two sides computes to true, and what passes it is the same. (One path between the two columns would be
-- past the prover's number of steps.)
use mathlib.Core.Path.{◌≡◌, refl}
use mathlib.Core.List.{List, [], ◌∷◌, map}
use mathlib.Core.Bool.{Bool, true, false, ◌&&◌}
use Prim.Native.Nat.{ℕ}
use lib.Dec.{eqb}
use borrow.Author.Tests.{eqb-true}
use Rattle.words.specs.Word.{u16_at, u32_at, bit, u16_bytes, u32_bytes, splice}
use Rattle.words.specs.Lists.{all}
use Rattle.words.proofs.Word.{and_both, clash}
use Rattle.ring.specs.Ring.{wadd, wsub, with_req_event, with_producer, posted, asking, notify, slot_place, slot_at}
use Rattle.grant.specs.Grant.{has_word, word_bits, granted, writable, page_of, range_start, range_length, range_end, range_in_page, whole_page, in_range, usable, fit_transmit, fit_receive}
use Rattle.netif.specs.Slot.{gref, offset, flags, ident, size, more_data, extra_follows, is_extra, another_extra, gso_size, gso_type, transmit_reply, request_ident, request_gref, receive_reply}
use Rattle.grammar.specs.Grammar.{within}
use Rattle.grammar.specs.Divide.{divide}
use Rattle.packet.specs.Judge.{total_of, own_part, parts, judge_sizes, judge_slot, judge_slots, judge, data_reply, extra_reply, replies_of}
use Rattle.answer.specs.Effect.{consume}
use Rattle.held.specs.Records.{in_use, is_finished, full, place_at, record_at, first_free, added, finish, can_finish, freed}
use Rattle.held.specs.Valid.{between, each_held, owns, owners, covers, is_count, oldest_waits, valid}
use Rattle.held.specs.Release.{settle}
use Rattle.transmit.specs.Take.{waiting_slots, summary_of, replies_to, spoiled, handed_over, overflow, look, transmit_take}
use Rattle.transmit.specs.Finish.{finished, transmit_finish}
use Rattle.receive.specs.Put.{bad_length, needed, refuse, deliver, receive_put}
use Rattle.examples.specs.Holding.{good_take, good_finish, bad_take, extra_take, wrap_take, wrap_finish, second_take, second_finish, first_finish, mixed_page, behind_take, both_finish, later_take, halted_take}
use Rattle.examples.specs.Examples.{Row, rows, ExamplesHold}

-- two lists of numbers are the same
abbrev same : List ℕ → List ℕ → Bool
same [] [] = true
same [] (y ∷ m) = false
same (x ∷ l) [] = false
same (x ∷ l) (y ∷ m) = eqb x y && same l m

same_is : (l m : List ℕ) → same l m ≡ true → l ≡ m
same_is [] [] h = refl
same_is [] (y ∷ m) h = absurd (clash h refl)
same_is (x ∷ l) [] h = absurd (clash h refl)
same_is (x ∷ l) (y ∷ m) h =
    let (a, b) = and_both (eqb x y) (same l m) h in
    let e : x ≡ y = eqb-true x y a in
    let f : l ≡ m = same_is l m b in
    cc

-- a row whose two sides are the same, and all of them
abbrev holds : Row → Bool
holds r = same r.computed r.expected

all_hold : (l : List Row) → all holds l ≡ true → map (λ (r : Row). r.computed) l ≡ map (λ (r : Row). r.expected) l
all_hold [] h = refl
all_hold (r ∷ l) h =
    let (a, b) = and_both (holds r) _ h in
    let e : r.computed ≡ r.expected = same_is r.computed r.expected a in
    let f : map (λ (r : Row). r.computed) l ≡ map (λ (r : Row). r.expected) l = all_hold l b in
    λ i. e i ∷ f i

computed : all holds rows ≡ true
unfolding u16_at u32_at bit u16_bytes u32_bytes splice wadd wsub with_req_event with_producer posted asking notify slot_place slot_at has_word word_bits granted writable page_of range_start range_length range_end range_in_page whole_page in_range usable fit_transmit fit_receive gref offset flags ident size more_data extra_follows is_extra another_extra gso_size gso_type transmit_reply request_ident request_gref receive_reply within divide total_of own_part parts judge_sizes judge_slot judge_slots judge data_reply extra_reply replies_of consume in_use is_finished full place_at record_at first_free added finish can_finish freed between each_held owns owners covers is_count oldest_waits valid settle waiting_slots summary_of replies_to spoiled handed_over overflow look transmit_take finished transmit_finish bad_length needed refuse deliver receive_put good_take good_finish bad_take extra_take wrap_take wrap_finish second_take second_finish first_finish mixed_page behind_take both_finish later_take halted_take rows
computed = refl

pub examples_hold : ExamplesHold
unfolding ExamplesHold
examples_hold = all_hold rows computed
