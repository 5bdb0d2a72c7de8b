-- A take and a finish keep a valid list valid, whatever page they are lent, account for every slot, and move rsp_prod by replies sent: by the cases of the
-- two definitions.
use mathlib.Core.Path.{◌≡◌, refl, sym, ap, ◌∙◌}
use mathlib.Core.Logic.{⊎_elim}
use mathlib.Core.List.{List, [], ◌∷◌}
use mathlib.Core.Bool.{Bool, true, false, not, cond, ◌&&◌, ◌||◌}
use Prim.Native.Nat.{ℕ, ◌+◌, ◌-◌, ◌≤◌, ◌<◌}
use native.Mathlib.Omega.{arith}
use lib.ListN.{length, take, length-append}
use lib.Seq.{take_at}
use lib.Dec.{ltb, eqb}
use borrow.Author.Tests.{ltb-false, eqb-true, lt-ltb, not-false}
use Rattle.std.specs.Prelude.{Ok, Err}
use Rattle.words.proofs.Word.{and_both, true_and, or_none}
use Rattle.words.proofs.Lists.{found_set}
use Rattle.ring.specs.Ring.{wrap, wadd, wsub, req_prod, rsp_prod, posted, asking, notify}
use Rattle.ring.specs.declared.Side.TheVariants.{Replies}
use Rattle.ring.proofs.Facts.{event_leaves_counters, notify_none}
use Rattle.ring.proofs.Counters.{wadd_zero, wsub_on, posted_left, not_moved}
use Rattle.ring.proofs.Ring.{slots_length}
use Rattle.grammar.specs.Grammar.{within}
use Rattle.grammar.specs.Divide.{Cut, whole, beginning, misshapen, divide, on_cut}
use Rattle.grammar.proofs.Grammar.{packet_length, divide_whole}
use Rattle.answer.specs.Verdict.{Verdict}
use Rattle.answer.specs.Report.{flag}
use Rattle.answer.specs.Words.{report_words}
use Rattle.packet.specs.Judge.{judge, total_of}
use Rattle.held.specs.declared.Held.{Held}
use Rattle.held.specs.Records.{is_status, in_use, free, is_finished, full, slots_held, place_at, record_at, first_free, added, waiting, ended, finish, can_finish, failed}
use Rattle.held.specs.Valid.{between, is_count, valid}
use Rattle.held.specs.Release.{settle}
use Rattle.held.proofs.Cover.{in_use_some, EachHeld, Covers, Sound, valid_split, valid_join, Found, found_used, free_place, finish_covers, finish_sound, finish_sums, finish_length, added_length, added_sums, added_sound, added_covers}
use Rattle.held.proofs.Leaving.{Leaves, Kept, settle_keeps}
use Rattle.transmit.specs.declared.Queue.{Queue}
use Rattle.transmit.specs.Take.{TakeEffect, replied_page, waiting_slots, summary_of, overflow, spoiled, handed_over, take_packet, Look, stop, ready, look, take_of, transmit_take}
use Rattle.transmit.specs.Finish.{FinishEffect, unfinished, finished, transmit_finish}
use Rattle.transmit.specs.Words.{queue_of}
use Rattle.transmit.specs.Keeps.{Keeps, Sent, TakeKeeps, FinishKeeps}
use Rattle.transmit.proofs.Paging.{settle_replied}

nothing_changed : (c r : ℕ) (l : List Held) → Keeps c r l 0 c r l
nothing_changed c r l = record { stays = λ h. h; long = refl; sums = omega (arith, not_moved r) }

-- ---- replies sent

-- no reply left
none_sent : (r : ℕ) (page : List ℕ) → Sent r page r page 0
none_sent r page = record { notifies = sym (ap flag (notify_none Replies page r)); moves = λ n. absurd (n refl); rests = λ e. refl }

-- an event was asked for
event_sent : (r : ℕ) (page : List ℕ) → length page ≡ 4096 → Sent r page r (asking page) 0
unfolding asking
event_sent r page size = record {
  notifies = sym (ap flag (notify_none Replies page r));
  moves = λ n. absurd (n refl);
  rests = λ e. (event_leaves_counters page (omega arith) (wadd (req_prod page) 1)).1;
}

-- where no slot left, no record did
none_gone : (r : ℕ) (gone : List Held) → Leaves r gone → slots_held gone ≡ 0 → gone ≡ []
none_gone r [] g e = refl
none_gone r (x ∷ gone) g e = absurd (omega (arith, in_use_some x g.1))

settle_sent : (c r : ℕ) (l : List Held) (page : List ℕ) → length page ≡ 4096 → Covers (between c r) r l → EachHeld Sound l → r < wrap
    → let s = settle c r l in Sent r page s.replied (replied_page page r s.gone s.replied) (flag (notify Replies page r s.replied))
unfolding between
settle_sent c r l page size v snd small =
    let s = settle c r l in
    let k = settle_keeps c r l v snd in
    let w = settle_replied c r l page size v snd in
    record {
      notifies = refl;
      moves = λ n. w.published (λ g. n (⊎_elim (λ z. z.1) (λ z. z ∙ ap (λ (x : List Held). wadd r (slots_held x)) g ∙ wadd_zero r small) k.counter));
      rests = λ e. ap rsp_prod (w.nothing (none_gone r s.gone k.gone (sym k.moved ∙ ap (λ (x : ℕ). wsub x r) e ∙ not_moved r)));
    }

-- ---- a record added

module _ (c r : ℕ) (l : List Held) (h : valid c r l ≡ true) (room : full l ≡ false) (n e : ℕ) (few : between c r + n ≤ 256) (counts : is_count n e ≡ true) where
  on_between : between (wadd c n) r ≡ between c r + n
  unfolding between
  on_between = wsub_on c r n (omega arith)

  pub more_covers : (x : Held) → x.ticket ≡ c → x.slots ≡ n → Covers (between (wadd c n) r) r (added l x)
  unfolding between
  more_covers x t s = rw (on_between, ← s) (added_covers (between c r) r c l (valid_split c r l h).covered room refl x t (omega arith))

  pub more_sound : (x : Held) → x.slots ≡ n → x.extras ≡ e → is_status x.status ≡ true → EachHeld Sound (added l x)
  more_sound x s z k = added_sound l x room (valid_split c r l h).sound (record { counts = rw (s, z) counts; status = k })

  -- a waiting record leaves the oldest waiting
  more_waits : is_finished (record_at (added l (waiting c n e)) r) ≡ false
  unfolding record_at place_at added is_finished
  more_waits = ⊎_elim (λ g. ap is_finished g) (λ g. ap is_finished g ∙ (valid_split c r l h).waits)
      (found_set (λ x. in_use x && eqb x.ticket r) free l (first_free l) (waiting c n e) (rw (free_place l room).1))

  long : (x : Held) → length (added l x) ≤ 256
  long x = omega (arith, added_length l x, (valid_split c r l h).few)

  hold_valid : valid (wadd c n) r (added l (waiting c n e)) ≡ true
  hold_valid = valid_join (wadd c n) r (added l (waiting c n e)) (record {
    few = long (waiting c n e);
    covered = more_covers (waiting c n e) refl refl;
    sound = more_sound (waiting c n e) refl refl refl;
    waits = more_waits;
  })

  -- a spoiled packet's record, and what leaves then
  spoil_kept : Kept (wadd c n) r (added l (ended c n e failed)) (settle (wadd c n) r (added l (ended c n e failed)))
  spoil_kept = settle_keeps (wadd c n) r (added l (ended c n e failed)) (more_covers (ended c n e failed) refl refl) (more_sound (ended c n e failed) refl refl refl)

  spoil_valid : let s = settle (wadd c n) r (added l (ended c n e failed)) in valid (wadd c n) s.replied s.list ≡ true
  unfolding between
  spoil_valid =
      let k = spoil_kept in
      let s = settle (wadd c n) r (added l (ended c n e failed)) in
      valid_join (wadd c n) s.replied s.list (record { few = omega (arith, k.long, long (ended c n e failed)); covered = k.covered; sound = k.sound; waits = k.waits })

-- ---- a take

-- the slots that a take took, by its effect
abbrev took_of : TakeEffect → ℕ
took_of o = cond (eqb o.report.answer 0 || eqb o.report.answer 7) o.report.slots 0

module _ (table window : List ℕ) (q : Queue) (page frame : List ℕ) (l : List Held) where
  After : TakeEffect → Type 0
  After o =
      Keeps q.consumed q.replied l (took_of o) o.queue.consumed o.queue.replied o.list
      × (q.replied < wrap → Sent q.replied page o.queue.replied o.page o.report.notifies)

  -- nothing is taken, and no reply leaves
  abbrev Same : (page' : List ℕ) → Type 0
  Same page' = Keeps q.consumed q.replied l 0 q.consumed q.replied l × (q.replied < wrap → Sent q.replied page q.replied page' 0)

  same : Same page
  same = (nothing_changed q.consumed q.replied l, λ w. none_sent q.replied page)

  event : length page ≡ 4096 → Same (asking page)
  event size = (nothing_changed q.consumed q.replied l, λ w. event_sent q.replied page size)

  case : (b : Bool) (x y : TakeEffect) → (b ≡ true → After x) → (b ≡ false → After y) → After (cond b x y)
  case true x y f g = f refl
  case false x y f g = g refl

  -- a packet at the front of the posted slots: its counts, and its room between the counters
  packet_here : (d e : ℕ) → divide (waiting_slots page q.consumed) ≡ whole d e → overflow q.consumed q.replied page ≡ false
      → (length (take (d + e) (waiting_slots page q.consumed)) ≡ d + e) × (is_count (d + e) e ≡ true) × (between q.consumed q.replied + (d + e) ≤ 256)
  unfolding waiting_slots overflow posted between is_count
  packet_here d e g o =
      let a = divide_whole (waiting_slots page q.consumed) d e g in
      let size : length a.front ≡ d + e = omega (arith, packet_length a.packet, a.counts_data, a.counts_extras) in
      let t : take (d + e) (waiting_slots page q.consumed) ≡ a.front = ap (take (d + e)) a.joined ∙ take_at a.front a.tail (d + e) size in
      let (o1, o2) = or_none (ltb 256 (wsub (req_prod page) q.replied)) _ o in
      let all_slots : length (waiting_slots page q.consumed) ≡ posted page q.consumed = slots_length 12 256 page (posted page q.consumed) q.consumed in
      let parts : length (waiting_slots page q.consumed) ≡ length a.front + length a.tail = ap length a.joined ∙ length-append a.front a.tail in
      let few1 : wsub (req_prod page) q.replied ≤ 256 = ltb-false 256 (wsub (req_prod page) q.replied) o1 in
      let few2 : wsub q.consumed q.replied ≤ wsub (req_prod page) q.replied = ltb-false (wsub (req_prod page) q.replied) (wsub q.consumed q.replied) o2 in
      let dd : d + e - e ≡ d = omega arith in (
        ap length t ∙ size,
        true_and (ltb e (d + e)) (within (d + e - e) e) (lt-ltb e (d + e) (omega (arith, a.counts_data))) (rw dd (rw (a.counts_data, a.counts_extras) at a.packet.limit)),
        omega (arith, all_slots, parts, size, posted_left (req_prod page) q.consumed q.replied few2),
      )

  packet_keeps : length page ≡ 4096 → valid q.consumed q.replied l ≡ true → (d e : ℕ) → divide (waiting_slots page q.consumed) ≡ whole d e
      → overflow q.consumed q.replied page ≡ false → (v : Verdict) → After (take_packet table window q page frame l e (take (d + e) (waiting_slots page q.consumed)) v)
  unfolding handed_over spoiled summary_of After
  packet_keeps size h d e g o (Ok u) =
      let (n, c, few) = packet_here d e g o in
      case (ltb (length frame) (total_of (take (d + e) (waiting_slots page q.consumed)))) _ _ (λ k. same)
      (λ k. case (full l) _ _ (λ f. same) (λ f. rw n (
        record {
          stays = λ z. hold_valid q.consumed q.replied l h f (d + e) e few c;
          long = added_length l (waiting q.consumed (d + e) e);
          sums = omega (arith, not_moved q.replied, added_sums l (waiting q.consumed (d + e) e) f);
        },
        λ w. none_sent q.replied page,
      )))
  packet_keeps size h d e g o (Err x) =
      let (n, c, few) = packet_here d e g o in
      case (full l) _ _ (λ f. same) (λ f. rw n (
      let k = spoil_kept q.consumed q.replied l h f (d + e) e few c in
      let y : Held = ended q.consumed (d + e) e failed in (
        record {
          stays = λ z. spoil_valid q.consumed q.replied l h f (d + e) e few c;
          long = k.long ∙ added_length l (ended q.consumed (d + e) e failed);
          sums = omega (arith, k.sums, k.moved, added_sums l (ended q.consumed (d + e) e failed) f);
        },
        λ w. settle_sent (wadd q.consumed (d + e)) q.replied (added l y) page size (more_covers q.consumed q.replied l h f (d + e) e few c y refl refl)
            (more_sound q.consumed q.replied l h f (d + e) e few c y refl refl refl) w,
      )))

  -- a look that keeps, by its case
  LookKeeps : Look → Type 0
  LookKeeps x = After (take_of table window q page frame l x)

  look_case : (b : Bool) (x y : Look) → (b ≡ true → LookKeeps x) → (b ≡ false → LookKeeps y) → LookKeeps (cond b x y)
  look_case true x y f g = f refl
  look_case false x y f g = g refl

  effect_keeps : After (transmit_take table window q page frame l)
  unfolding transmit_take look After LookKeeps
  effect_keeps =
      look_case (not (eqb (length page) 4096)) _ _ (λ k. same) (λ k.
      look_case (not (valid q.consumed q.replied l)) _ _ (λ g. same) (λ g.
      look_case q.halted _ _ (λ m. same) (λ m.
      look_case (overflow q.consumed q.replied page) _ _ (λ o. same) (λ o.
      look_case (eqb (posted page q.consumed) 0) _ _ (λ z. event (size k)) (λ z. by_cut (size k) (not-false _ g) (divide (waiting_slots page q.consumed)) refl o)))))
    where
      size : not (eqb (length page) 4096) ≡ false → length page ≡ 4096
      size k = eqb-true (length page) 4096 (not-false _ k)

      by_cut : length page ≡ 4096 → valid q.consumed q.replied l ≡ true → (c : Cut) → divide (waiting_slots page q.consumed) ≡ c → overflow q.consumed q.replied page ≡ false
          → LookKeeps (on_cut c (λ d e. ready e (take (d + e) (waiting_slots page q.consumed)) (judge table window e (take (d + e) (waiting_slots page q.consumed)))) (stop 6) (stop 5))
      by_cut k h (whole d e) g o = packet_keeps k h d e g o (judge table window e (take (d + e) (waiting_slots page q.consumed)))
      by_cut k h beginning g o = event k
      by_cut k h misshapen g o = same

-- a take on a valid list leaves one
pub stays_valid : (table window : List ℕ) (q : Queue) (page frame : List ℕ) (l : List Held) → valid q.consumed q.replied l ≡ true
    → let e = transmit_take table window q page frame l in valid e.queue.consumed e.queue.replied e.list ≡ true
unfolding After
stays_valid table window q page frame l h = (effect_keeps table window q page frame l).0.stays h

pub take_keeps : TakeKeeps
unfolding TakeKeeps After report_words
take_keeps table window consumed replied mark page frame l o h =
    rw (h.returns, h.reports, h.counter, h.replies, h.records, h.pages) (effect_keeps table window (queue_of consumed replied mark) page frame l)

-- ---- a finish

module _ (c r : ℕ) (l : List Held) (ticket status : ℕ) (h : valid c r l ≡ true) (o : can_finish l ticket ≡ true) (st : is_status status ≡ true) where
  pub finish_found : Found l ticket
  unfolding can_finish
  finish_found = found_used l ticket (and_both (in_use (record_at l ticket)) _ o).0

  finish_kept : Kept c r (finish l ticket status) (settle c r (finish l ticket status))
  finish_kept =
      let v = valid_split c r l h in
      settle_keeps c r (finish l ticket status) (finish_covers (between c r) r l v.covered ticket finish_found status) (finish_sound (between c r) r l v.covered ticket finish_found status v.sound st)

  finish_valid : let s = settle c r (finish l ticket status) in valid c s.replied s.list ≡ true
  unfolding between
  finish_valid =
      let k = finish_kept in
      let s = settle c r (finish l ticket status) in
      valid_join c s.replied s.list (record { few = omega (arith, k.long, finish_length l ticket status, (valid_split c r l h).few); covered = k.covered; sound = k.sound; waits = k.waits })

module _ (c r : ℕ) (page : List ℕ) (l : List Held) (ticket status : ℕ) where
  Then : FinishEffect → Type 0
  Then o =
      Keeps c r l 0 c o.replied o.list
      × (r < wrap → Sent r page o.replied o.page o.report.notifies)
      × (o.report.slots ≡ wsub o.replied r)

  finish_case : (b : Bool) (x y : FinishEffect) → (b ≡ true → Then x) → (b ≡ false → Then y) → Then (cond b x y)
  finish_case true x y f g = f refl
  finish_case false x y f g = g refl

  refused : (n : ℕ) → Then (unfinished n r page l)
  unfolding Then
  refused n = (nothing_changed c r l, λ w. none_sent r page, sym (not_moved r))

  effect_finish : Then (transmit_finish c r page l ticket status)
  unfolding transmit_finish finished Then
  effect_finish =
      finish_case (not (eqb (length page) 4096)) _ _ (λ k. refused 1) (λ k.
      finish_case (not (valid c r l)) _ _ (λ g. refused 17) (λ g.
      finish_case (not (can_finish l ticket && is_status status)) _ _ (λ d. refused 15) (λ d.
      let h : valid c r l ≡ true = not-false _ g in
      let (a, b) = and_both (can_finish l ticket) (is_status status) (not-false _ d) in
      let k' = finish_kept c r l ticket status h a b in
      let v = valid_split c r l h in
      let f = finish_found c r l ticket status h a b in (
        record {
          stays = λ z. finish_valid c r l ticket status h a b;
          long = k'.long ∙ finish_length l ticket status;
          sums = omega (arith, k'.sums, k'.moved, finish_sums (between c r) r l v.covered ticket f status);
        },
        λ w. settle_sent c r (finish l ticket status) page (eqb-true (length page) 4096 (not-false _ k)) (finish_covers (between c r) r l v.covered ticket f status)
            (finish_sound (between c r) r l v.covered ticket f status v.sound b) w,
        sym k'.moved,
      ))))

pub finish_keeps : FinishKeeps
unfolding FinishKeeps Then report_words
finish_keeps consumed replied page l ticket status o h = rw (h.reports, h.replies, h.records, h.pages) (effect_finish consumed replied page l ticket status)
