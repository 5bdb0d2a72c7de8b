-- A whole packet at the counter, from what the divider read of it to what the call leaves: it stands on the page with its outline, a good
-- one's plan lies in the window and is its frame.
use mathlib.Core.Path.{◌≡◌, refl, sym, ap, subst, ◌∙◌}
use mathlib.Core.List.{List, [], ◌∷◌, ◌++◌, map}
use mathlib.Core.Bool.{Bool, true, false}
use Prim.Native.Nat.{ℕ, zero, suc, ◌+◌, ◌-◌, ◌*◌, ◌≤◌, ◌<◌}
use native.Mathlib.Omega.{arith}
use lib.ListN.{length, take, get_or, length-take, length-append, length-map}
use lib.Seq.{get_or-take}
use lib.Dec.{eqb}
use borrow.Author.Tests.{eq-eqb, ne_eqb, eqb-true, eqb-false, lt-ltb, le-ltb}
use Rattle.std.specs.Prelude.{Result, Ok, Err}
use Rattle.words.specs.Word.{splice, bit}
use Rattle.words.proofs.Lists.{map_at}
use Rattle.words.proofs.Word.{no_confusion}
use Rattle.ring.specs.Ring.{wrap, wadd, notify, with_producer, ProducerMoved}
use Rattle.ring.specs.declared.Side.TheVariants.{Replies}
use Rattle.ring.proofs.Ring.{slots_length, slots_take}
use Rattle.ring.proofs.Facts.{notify_none}
use Rattle.ring.proofs.Replied.{notify_replied}
use Rattle.ring.proofs.Counters.{not_moved, on_counter, wadd_zero}
use Rattle.grant.proofs.Grant.{fit_page, range_page}
use Rattle.netif.specs.Slot.{Slot, gref, offset, size, error, transmit_slots}
use Rattle.grammar.specs.Packet.{first_of, later_of}
use Rattle.grammar.specs.Divide.{Cut, whole, beginning, misshapen, divide, on_cut}
use Rattle.grammar.specs.Stages.{outline_of, front_of}
use Rattle.grammar.specs.declared.Outline.{Outline}
use Rattle.grammar.specs.declared.Unfinished.{Unfinished}
use Rattle.grammar.specs.declared.Unfinished.TheVariants.{Beginning, Misshapen}
use Rattle.answer.specs.Report.{plain, spoiled_report}
use Rattle.answer.specs.declared.Summary.{Summary}
use Rattle.answer.specs.Verdict.{good}
use Rattle.answer.specs.declared.Fault.{Fault}
use Rattle.grammar.proofs.Within.{within_datas}
use Rattle.grammar.proofs.Grammar.{packet_length, divide_whole}
use Rattle.packet.specs.Judge.{total_of, own_part, parts, judge_slot, judge_later, judge, part_of, later_parts, frame_of, replies_of}
use Rattle.held.specs.declared.Held.{Held}
use Rattle.held.specs.Records.{full, added, failed}
use Rattle.held.specs.Valid.{between}
use Rattle.held.proofs.Spoiling.{spoiled_alone, spoiled_behind}
use Rattle.transmit.specs.declared.Queue.{Queue}
use Rattle.transmit.specs.declared.Answer.{Answer}
use Rattle.transmit.specs.declared.Answer.TheVariants.{Done, Spoiled}
use Rattle.transmit.specs.Take.{go_on, refusal, replies_to, summary_of, spoiled, handed_over, take_packet, take_front}
use Rattle.transmit.specs.Stages.{report_of, takes, queue_after, Gives, Lent, RepliedNow}
use Rattle.packet.specs.Stages.{joined, InWindow, slot_page, later_plan, plan, packet_at, Ready}
use Rattle.packet.proofs.Judge.{or_else_good, slot_granted, good_parts}
use Rattle.transmit.proofs.Cases.{running, replies_short}
use Rattle.transmit.proofs.Replies.{low_status}
use Rattle.packet.proofs.Plans.{total_of_lem, blank_of, validated_of, gso_size_of_lem, gso_type_of_lem}

-- ---- what stands at the front

-- by the three cuts
front_by : List Slot → Cut → Result Outline Unfinished
front_by l x = on_cut x (λ d e. Ok (outline_of e (take (d + e) l))) (Err Beginning) (Err Misshapen)

by_beginning : (l : List Slot) (x : Cut) → Err Beginning ≡ front_by l x → x ≡ beginning
unfolding front_by
by_beginning l (whole d e) h = no_confusion cc
by_beginning l beginning h = refl
by_beginning l misshapen h = no_confusion cc

by_misshapen : (l : List Slot) (x : Cut) → Err Misshapen ≡ front_by l x → x ≡ misshapen
unfolding front_by
by_misshapen l (whole d e) h = no_confusion cc
by_misshapen l beginning h = no_confusion cc
by_misshapen l misshapen h = refl

by_whole : (l : List Slot) (x : Cut) (o : Outline) → Ok o ≡ front_by l x → (d : ℕ) × (e : ℕ) × (x ≡ whole d e) × (o ≡ outline_of e (take (d + e) l))
unfolding front_by
by_whole l (whole d e) o h = (d, e, refl, (cc))
by_whole l beginning o h = no_confusion cc
by_whole l misshapen o h = no_confusion cc

pub front_beginning : (l : List Slot) → Err Beginning ≡ front_of l → divide l ≡ beginning
unfolding front_of front_by
front_beginning l h = by_beginning l (divide l) h

pub front_misshapen : (l : List Slot) → Err Misshapen ≡ front_of l → divide l ≡ misshapen
unfolding front_of front_by
front_misshapen l h = by_misshapen l (divide l) h

pub front_whole : (l : List Slot) (o : Outline) → Ok o ≡ front_of l → (d : ℕ) × (e : ℕ) × (divide l ≡ whole d e) × (o ≡ outline_of e (take (d + e) l))
unfolding front_of front_by
front_whole l o h = by_whole l (divide l) o h

-- a whole packet at the front of n slots posted at counter c
module _ (page : List ℕ) (c n : ℕ) (few : n ≤ 256) (d e : ℕ) (cut : divide (transmit_slots page c n) ≡ whole d e) (o : Outline) (is : o ≡ outline_of e (take (d + e) (transmit_slots page c n))) where
  counts : (d + e ≤ n) × (1 ≤ d) × (d ≤ 18)
  counts =
      let f = divide_whole (transmit_slots page c n) d e cut in
      let size : length f.front ≡ d + e = omega (arith, packet_length f.packet, f.counts_data, f.counts_extras) in
      let all : n ≡ length f.front + length f.tail = sym (slots_length 12 256 page n c) ∙ ap length f.joined ∙ length-append f.front f.tail in
      (omega arith, omega (arith, f.counts_data), omega (arith, within_datas _ _ f.packet.limit, f.counts_data))

  packet_is : take (d + e) (transmit_slots page c n) ≡ transmit_slots page c (d + e)
  packet_is =
      let z : d + e + (n - (d + e)) ≡ n = omega (arith, counts) in
      rw z at (slots_take 12 256 page (d + e) (n - (d + e)) c)

  slots_are : o.slots ≡ d + e
  unfolding outline_of
  slots_are = ap (λ (x : Outline). x.slots) is ∙ ap length packet_is ∙ slots_length 12 256 page (d + e) c

  pub extras_are : o.extras ≡ e
  unfolding outline_of
  extras_are = ap (λ (x : Outline). x.extras) is

  pub packet_whole : take (d + e) (transmit_slots page c n) ≡ packet_at page c o
  packet_whole = packet_is ∙ ap (transmit_slots page c) (sym slots_are)

  pub whole_ready : Ready page c o
  whole_ready = record {
    outline = is ∙ ap (λ (x : ℕ). outline_of x (take (d + e) (transmit_slots page c n))) (sym extras_are) ∙ ap (outline_of o.extras) packet_whole;
    some = omega (arith, counts, slots_are, extras_are);
    few = omega (arith, counts, slots_are);
    datas = omega (arith, counts, slots_are, extras_are);
  }

-- ---- a good packet's plan

pub slot_inside : (table window : List ℕ) (k : ℕ) (s : Slot) (n : ℕ) → judge_slot table window k s n ≡ good → (4096 * slot_page table s + 4096 ≤ length window) × (offset s + n ≤ 4096)
unfolding slot_page
slot_inside table window k s n h =
    let (f, r) = slot_granted table window k s n h in
    (fit_page table window (gref s) f, range_page table window (gref s) (offset s) n r f)

later_inside : (table window : List ℕ) (l : List Slot) (k : ℕ) → judge_later table window k l ≡ good → (j : ℕ) → j < length l
    → (4096 * slot_page table (get_or l j []) + 4096 ≤ length window) × (offset (get_or l j []) + size (get_or l j []) ≤ 4096)
later_inside table window [] k h j f = absurd (omega arith)
later_inside table window (s ∷ l) k h zero f = slot_inside table window k s (size s) (or_else_good (judge_slot table window k s (size s)) (judge_later table window (suc k) l) h).0
later_inside table window (s ∷ l) k h (suc j) f = later_inside table window l (suc k) (or_else_good (judge_slot table window k s (size s)) (judge_later table window (suc k) l) h).1 j (omega arith)

joined_later : (table window : List ℕ) (l : List Slot) → joined window (map (later_plan table) l) ≡ later_parts table window l
unfolding part_of slot_page
joined_later table window [] = refl
joined_later table window (s ∷ l) = ap (part_of table window s (size s) ++◌) (joined_later table window l)

module _ (table window : List ℕ) (e : ℕ) (p : List Slot) where
  pub plan_joined : joined window (plan table e p) ≡ frame_of table window e p
  unfolding frame_of part_of slot_page
  plan_joined = ap (part_of table window (first_of p) (own_part e p) ++◌) (joined_later table window (later_of e p))

  pub plan_inside : judge table window e p ≡ good → InWindow window (plan table e p)
  plan_inside fine zero d k = slot_inside table window 0 (first_of p) (own_part e p) (good_parts table window e p fine).1
  plan_inside fine (suc j) d k =
      let few : j < length (later_of e p) = omega (arith, k, length-map (later_of e p) (later_plan table)) in
      rw (map_at (later_plan table) (later_of e p) j [] d few) (later_inside table window (later_of e p) (suc e) (good_parts table window e p fine).2 j few)

-- ---- what a take leaves

-- an answer that takes nothing
pub gives_refusal : (n : ℕ) (q : Queue) (page frame : List ℕ) (l : List Held) (a : Answer) → report_of q.consumed a ≡ plain n
    → queue_after q a ≡ (refusal n q page frame l).queue → takes a ≡ false
    → Gives (refusal n q page frame l) q l a (refusal n q page frame l).page frame
gives_refusal n q page frame l a reports leaves none =
    record { report = reports; queue = leaves; page = refl; frame = refl; list = rw none; room = λ h. no_confusion cc }

-- a queue that is not halted goes on from its counters
pub gives_front : (table window : List ℕ) (q : Queue) (page frame : List ℕ) (l : List Held) (a : Answer) (ring written : List ℕ) → q.halted ≡ false
    → Gives (take_front table window (go_on q.consumed q.replied) page frame l) (go_on q.consumed q.replied) l a ring written
    → Gives (take_front table window q page frame l) q l a ring written
gives_front table window q page frame l a ring written runs g =
    subst (λ (x : Queue). Gives (take_front table window x page frame l) x l a ring written) (sym (running q runs)) g

-- the replies to a spoiled packet were written, and rsp_prod was moved behind them
pub replied_now : (page : List ℕ) → length page ≡ 4096 → (c r n e : ℕ) → c ≡ r → (written : List ℕ) (new : ℕ) (after : List ℕ) (notified : Bool)
    → written ≡ replies_to page c n e error → new ≡ wadd c n → ProducerMoved Replies written c new after notified → RepliedNow page c r n e after notified
unfolding replies_to
replied_now page size c r n e same written new after notified w to moved =
    let f : written ≡ replies_to page c n e failed = w ∙ sym (low_status page c n e failed) in
    record {
      pages = rw (eq-eqb c r same) (moved.page ∙ (λ i. with_producer Replies (f i) (to i)));
      notifies = rw (eq-eqb c r same) (moved.notifies
          ∙ (λ i. notify Replies (f i) c (to i))
          ∙ notify_replied 12 256 (omega arith) page (omega arith) c (replies_of e (transmit_slots page c n) failed) (replies_short e (transmit_slots page c n) failed) Replies c (wadd c n));
    }

-- a packet is held before it, and nothing was written
pub replied_later : (page : List ℕ) (c r n e : ℕ) → (c ≡ r → ⊥) → RepliedNow page c r n e page false
replied_later page c r n e other = record { pages = rw (ne_eqb c r other); notifies = rw (ne_eqb c r other) }

-- no slot is between two counters exactly if they are the same
none_between : (c : ℕ) → between c c ≡ 0
unfolding between
none_between c = not_moved c

between_same : (c r : ℕ) → c < wrap → r < wrap → between c r ≡ 0 → c ≡ r
unfolding between
between_same c r small start h = on_counter c r small ∙ ap (wadd r) h ∙ wadd_zero r start

-- a spoiled packet: nothing is held and it leaves at once, or it waits behind the oldest
module _ (page frame : List ℕ) (c r : ℕ) (l : List Held) (n e : ℕ) (p : List Slot) (cause place : ℕ) (after : List ℕ) (notified : Bool)
    (small : c < wrap) (start : r < wrap) (slots : n ≡ length p) (some : 0 < n) (few : n < wrap) (lent : Lent c r false l)
    (replied : RepliedNow page c r n e after notified) where
  abbrev q : Queue
  q = go_on c r

  alone : eqb c r ≡ true → Gives (spoiled q page frame l e p cause place) q l (Spoiled cause place n e notified) after frame
  unfolding spoiled added
  alone h =
      let same : c ≡ r = eqb-true c r h in
      let none : between c r ≡ 0 = rw same (none_between r) in
      let s = spoiled_alone c r l lent.sound lent.fullness small n e failed some none start few in
      let told : notified ≡ notify Replies page r (wadd r n) = replied.notifies ∙ (rw (h, same)) in
      let left : after ≡ with_producer Replies (replies_to page r n e failed) (wadd r n) = replied.pages ∙ (rw (h, same)) in
      rw (← slots, s) (record {
        report = ap (spoiled_report cause place n) told;
        queue = rw (h, same);
        page = left;
        frame = refl;
        list = rw h;
        room = λ k. lent;
      })

  behind : eqb c r ≡ false → Gives (spoiled q page frame l e p cause place) q l (Spoiled cause place n e notified) after frame
  unfolding spoiled
  behind h =
      let s = spoiled_behind c r l lent.sound lent.fullness small n e failed some (λ z. eqb-false c r h (between_same c r small start z)) in
      let told : notified ≡ notify Replies page r r = replied.notifies ∙ (rw (h, notify_none Replies page r)) in
      let left : after ≡ page = replied.pages ∙ (rw h) in
      rw (← slots, s) (record {
        report = ap (spoiled_report cause place n) told;
        queue = rw h;
        page = left;
        frame = refl;
        list = rw h;
        room = λ k. lent;
      })

  pub gives_spoiled : Gives (spoiled q page frame l e p cause place) q l (Spoiled cause place n e notified) after frame
  gives_spoiled = go (eqb c r) refl
    where
      go : (b : Bool) → eqb c r ≡ b → Gives (spoiled q page frame l e p cause place) q l (Spoiled cause place n e notified) after frame
      go true h = alone h
      go false h = behind h

-- a good packet
pub gives_done : (table window page frame : List ℕ) (c r : ℕ) (l : List Held) (e : ℕ) (p : List Slot) (a : Answer) → a ≡ Done (summary_of e p) e → Lent c r false l
    → Gives (handed_over table window (go_on c r) page frame l e p) (go_on c r) l a page (splice frame 0 (frame_of table window e p))
unfolding handed_over summary_of
gives_done table window page frame c r l e p a is room = rw is (record { report = refl; queue = refl; page = refl; frame = refl; list = refl; room = λ k. room })

-- what is reported of a packet, by its outline
pub summary_is : (o : Outline) (e : ℕ) (p : List Slot) → o ≡ outline_of e p → (b v : Bool) → b ≡ bit 0 o.head.flags → v ≡ bit 1 o.head.flags
    → ◌≡◌ {A = Summary} (record { slots = o.slots; total = o.head.size; checksum_blank = b; data_validated = v; gso_size = o.gso_size; gso_type = o.gso_type }) (summary_of e p)
unfolding summary_of outline_of
summary_is o e p is b v bs vs = λ i. record {
  slots = (is i).slots;
  total = total_of_lem o e p is i;
  checksum_blank = (bs ∙ blank_of o e p is) i;
  data_validated = (vs ∙ validated_of o e p is) i;
  gso_size = gso_size_of_lem o e p is i;
  gso_type = gso_type_of_lem o e p is i;
}

-- ---- by the verdict

module _ (table window : List ℕ) (q : Queue) (page frame : List ℕ) (l : List Held) (e : ℕ) (p : List Slot) where
  pub packet_full : (f : Fault) → full l ≡ true → take_packet table window q page frame l e p (Err f) ≡ refusal 14 q page frame l
  packet_full f h = rw h

  pub packet_spoiled : (f : Fault) → full l ≡ false → take_packet table window q page frame l e p (Err f) ≡ spoiled q page frame l e p f.cause f.place
  packet_spoiled f h = rw h

  module _ (fine : judge table window e p ≡ good) where
    pub packet_no_room : length frame < total_of p → take_packet table window q page frame l e p (judge table window e p) ≡ refusal 8 q page frame l
    packet_no_room h = rw (fine, lt-ltb (length frame) (total_of p) h)

    module _ (room : total_of p ≤ length frame) where
      pub packet_no_record : full l ≡ true → take_packet table window q page frame l e p (judge table window e p) ≡ refusal 14 q page frame l
      packet_no_record h = rw (fine, le-ltb (length frame) (total_of p) room, h)

      pub packet_done : full l ≡ false → take_packet table window q page frame l e p (judge table window e p) ≡ handed_over table window q page frame l e p
      packet_done h = rw (fine, le-ltb (length frame) (total_of p) room, h)
