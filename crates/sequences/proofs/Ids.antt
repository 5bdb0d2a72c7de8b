-- Where published slots are not rewritten, the packets taken and not replied to stand on the page unchanged; so each reply has the id of the slot
-- that was taken.
use mathlib.Core.Path.{◌≡◌, refl, sym, ap, ◌∙◌}
use mathlib.Core.Logic.{◌≢◌, ◌⊎◌, inl, inr, ⊎_elim}
use mathlib.Core.List.{List, [], ◌∷◌, ◌++◌}
use mathlib.Core.Bool.{Bool, true, false}
use Prim.Native.Nat.{ℕ, zero, suc, ◌+◌, ◌-◌, ◌≤◌, ◌<◌}
use native.Mathlib.Omega.{arith}
use lib.ListN.{length, take, get_or, length-append, get_or-append}
use lib.Seq.{ext_get_or, get_or-take, get_or-append-add}
use lib.Dec.{eqb}
use borrow.Author.Tests.{lt-ltb, le-ltb, eqb-true, eqb-false}
use Rattle.words.specs.Word.{splice}
use Rattle.words.proofs.Word.{lt_or_ge, same_or_not}
use Rattle.ring.specs.Ring.{wadd, wsub, posted, asking}
use Rattle.ring.proofs.Ring.{slots_length, slots_at}
use Rattle.netif.specs.Slot.{Slot, transmit_slot, transmit_slots}
use Rattle.grammar.specs.Grammar.{join_all}
use Rattle.grammar.specs.Service.{◌▹◌}
use Rattle.grammar.proofs.Service.{join_append, join_snoc}
use Rattle.held.specs.declared.Held.{Held}
use Rattle.held.specs.Records.{slots_held, failed}
use Rattle.held.specs.Valid.{between}
use Rattle.transmit.specs.Take.{waiting_slots}
use Rattle.transmit.specs.Words.{TakeLeft, FinishLeft}
use Rattle.transmit.specs.Replied.{reply_at, reply_of}
use Rattle.transmit.proofs.Cases.{asking_slot}
use Rattle.transmit.proofs.Paging.{slot_behind, same_slot}
use Rattle.transmit.specs.Keeps.{slots_word}
use Rattle.sequences.specs.Sequence.{State, after_publication, Room, Take, take_lent, TakeAt, FinishAt, Sequence}
use Rattle.sequences.specs.Ledger.{Fate, pending, finally, Entry, entry, packets_in, slots_in, marked, on_fate, leaving, staying, HasFate, RecordsOf}
use Rattle.sequences.specs.Order.{took_packet, ledger_taking, ledger_finishing, ledger_of, InOrder, Replies, RepliesLeave, SpoiledLeave}
use Rattle.transmit.specs.Unchanged.{TakesUnchanged, FinishesUnchanged}
use Rattle.sequences.specs.Unrewritten.{KeepsHeld, Unrewritten, HeldStand, HeldOfRun, AllAnswered, StatedReplies, StatedSpoiled}
use Rattle.sequences.proofs.Ledger.{slots_cons, packets_snoc, marked_packets, leave_stay}
use Rattle.transmit.proofs.Unchanged.{takes_unchanged, finishes_unchanged}
use Rattle.sequences.proofs.Order.{in_order, replies_leave, spoiled_leave, few_slots, page_size_lem, run_waits}

-- ---- slots that stand on a page from counter r on

unfoldable Holds : List ℕ → ℕ → List Slot → Type 0
Holds page r l = (i : ℕ) → i < length l → transmit_slot page (r + i) ≡ get_or l i []

holds_slots : (page : List ℕ) (r : ℕ) (l : List Slot) → Holds page r l → transmit_slots page r (length l) ≡ l
unfolding Holds
holds_slots page r l f =
    let n : length (transmit_slots page r (length l)) ≡ length l = slots_length 12 256 page (length l) r in
    ext_get_or [] (transmit_slots page r (length l)) l n (λ i h. slots_at 12 256 page (length l) r i (omega arith) ∙ f i (omega arith))

holds_front : (page : List ℕ) (r : ℕ) (l m : List Slot) → Holds page r (l ++ m) → Holds page r l
unfolding Holds
holds_front page r l m f i h = f i (omega (arith, length-append l m)) ∙ get_or-append l m [] i h

holds_behind : (page : List ℕ) (r : ℕ) (l m : List Slot) → Holds page r (l ++ m) → Holds page (wadd r (length l)) m
unfolding Holds
holds_behind page r l m f i h = slot_behind page r (length l) i ∙ f (length l + i) (omega (arith, length-append l m)) ∙ get_or-append-add l m i []

holds_join : (page : List ℕ) (c r : ℕ) (l m : List Slot) → wsub c r ≡ length l → Holds page r l → Holds page c m → Holds page r (l ++ m)
unfolding Holds
holds_join page c r l m n f g i h = ⊎_elim
    (λ k. f i k ∙ sym (get_or-append l m [] i k))
    (λ k.
    let e : i ≡ length l + (i - length l) = omega arith in
    ap (λ (x : ℕ). transmit_slot page (r + x)) (e ∙ ap (◌+ (i - length l)) (sym n))
    ∙ sym (same_slot page c r (i - length l))
    ∙ g (i - length l) (omega (arith, length-append l m))
    ∙ sym (get_or-append-add l m (i - length l) [])
    ∙ ap (λ (x : ℕ). get_or (l ++ m) x []) (sym e))
    (lt_or_ge i (length l))

-- the first of the slots that wait
take_sizes : (n : ℕ) (l : List Slot) → (length (take n l) ≤ n) × (length (take n l) ≤ length l)
take_sizes zero l = (omega arith, omega arith)
take_sizes (suc n) [] = (omega arith, omega arith)
take_sizes (suc n) (x ∷ l) = let (a, b) = take_sizes n l in (omega arith, omega arith)

waiting_length : (page : List ℕ) (c : ℕ) → length (waiting_slots page c) ≡ posted page c
unfolding waiting_slots
waiting_length page c = slots_length 12 256 page (posted page c) c

holds_took : (page : List ℕ) (c n : ℕ) → Holds page c (take n (waiting_slots page c))
unfolding Holds waiting_slots
holds_took page c n i h =
    let (a, b) = take_sizes n (waiting_slots page c) in
    sym (get_or-take n (waiting_slots page c) i [] (omega arith) ∙ slots_at 12 256 page (posted page c) c i (omega (arith, waiting_length page c)))

-- a page that is the same, or asks for an event
holds_quiet : (page page' : List ℕ) (r r' : ℕ) (l : List Slot) → length page ≡ 4096 → r' ≡ r → (page' ≡ page) ⊎ (page' ≡ asking page) → Holds page r l → Holds page' r' l
unfolding Holds
holds_quiet page page' r r' l size e (inl p) f i h = rw (e, p) (f i h)
holds_quiet page page' r r' l size e (inr p) f i h = rw (e, p) (asking_slot page size (r + i) ∙ f i h)

-- ---- replies that leave

records_slots : (xs : List Held) (es : List Entry) → RecordsOf xs es → slots_held xs ≡ slots_in es
records_slots [] [] u = refl
records_slots [] (e ∷ es) u = absurd u
records_slots (x ∷ xs) [] u = absurd u
records_slots (x ∷ xs) (e ∷ es) u = omega (arith, slots_cons e es, u.0.slots, records_slots xs es u.1)

leave_stay_slots : (es : List Entry) → join_all (packets_in es) ≡ join_all (packets_in (leaving es)) ++ join_all (packets_in (staying es))
leave_stay_slots es = ap join_all (leave_stay es) ∙ join_append (packets_in (leaving es)) (packets_in (staying es))

-- those that stay are not touched
stay_holds : (page : List ℕ) (r : ℕ) (es : List Entry) (new : ℕ) (after : List ℕ) → Replies r page (leaving es) new after → slots_in es ≤ 256
    → Holds page r (join_all (packets_in es)) → Holds after new (join_all (packets_in (staying es)))
unfolding Holds
stay_holds page r es new after w few f i h =
    let l : List Slot = join_all (packets_in (leaving es)) in
    let m : List Slot = join_all (packets_in (staying es)) in
    let sizes : slots_in es ≡ slots_in (leaving es) + slots_in (staying es) = ap length (leave_stay_slots es) ∙ length-append l m in
    ap (λ (x : ℕ). transmit_slot after (x + i)) w.counter
    ∙ slot_behind after r (slots_in (leaving es)) i
    ∙ w.written.others (slots_in (leaving es) + i) (omega (arith, records_slots w.records (leaving es) w.theirs)) (omega arith)
    ∙ f (slots_in (leaving es) + i) (omega arith)
    ∙ ap (λ (x : List Slot). get_or x (slots_in (leaving es) + i) []) (leave_stay_slots es)
    ∙ get_or-append-add l m i []

-- each of these has an end
abbrev Ended : List Entry → Type 0
Ended [] = Unit {0}
Ended (e ∷ es) = ((status : ℕ) × (e.fate ≡ finally status)) × Ended es

leaving_ended : (es : List Entry) → Ended (leaving es)
leaving_ended [] = tt
leaving_ended (e ∷ es) = go e.fate refl (leaving_ended es)
  where
    go : (f : Fate) → e.fate ≡ f → Ended (leaving es) → Ended (on_fate f [] (e ∷ leaving es))
    go pending h k = tt
    go (finally status) h k = ((status, h), k)

-- the slots with their replies
Written : (page : List ℕ) (c : ℕ) (gone : List Held) (after : List ℕ) → Type 0
Written page c gone after =
    (i : ℕ) → i < slots_held gone → transmit_slot after (c + i) ≡ splice (transmit_slot page (c + i)) 0 (reply_of gone i (transmit_slot page (c + i)))

reply_first : (x : Held) (gone : List Held) (i : ℕ) (s : Slot) → i < x.slots → reply_of (x ∷ gone) i s ≡ reply_at x.extras i x.status s
reply_first x gone i s h = rw (lt-ltb i x.slots h)

reply_behind : (x : Held) (gone : List Held) (i : ℕ) (s : Slot) → reply_of (x ∷ gone) (x.slots + i) s ≡ reply_of gone i s
reply_behind x gone i s =
    let e : x.slots + i - x.slots ≡ i = omega arith in
    rw (le-ltb (x.slots + i) x.slots (omega arith)) (ap (λ (j : ℕ). reply_of gone j s) e)

all_answered : (page after : List ℕ) (xs : List Held) (es : List Entry) (c : ℕ) → RecordsOf xs es → Ended es → Written page c xs after → Holds page c (join_all (packets_in es)) → AllAnswered after c es
unfolding Holds Written
all_answered page after [] [] c u n w f = tt
all_answered page after [] (e ∷ es) c u n w f = absurd u
all_answered page after (x ∷ xs) [] c u n w f = absurd u
all_answered page after (x ∷ xs) (e ∷ es) c u n w f = (
  record { packet = u.0.packet; status = n.0.0; ended = n.0.1; replies = here },
  all_answered page after xs es (wadd c (length e.packet)) u.1 n.1 behind (holds_behind page c e.packet (join_all (packets_in es)) f),
)
  where
    same : x.slots ≡ length e.packet
    same = u.0.slots

    has : HasFate x (finally n.0.0)
    has = rw n.0.1 at u.0.fate

    first : (i : ℕ) → i < length e.packet → transmit_slot page (c + i) ≡ get_or e.packet i []
    first i h = holds_front page c e.packet (join_all (packets_in es)) f i h

    here : (i : ℕ) → i < length e.packet → transmit_slot after (c + i) ≡ splice (get_or e.packet i []) 0 (reply_at (length u.0.packet.extras) i n.0.0 (get_or e.packet i []))
    here i h =
        w i (omega arith)
        ∙ ap (λ (s : Slot). splice s 0 (reply_of (x ∷ xs) i s)) (first i h)
        ∙ ap (splice (get_or e.packet i []) 0)
        (reply_first x xs i (get_or e.packet i []) (omega arith)
        ∙ ap (λ (k : ℕ). reply_at k i x.status (get_or e.packet i [])) u.0.extras
        ∙ ap (λ (k : ℕ). reply_at (length u.0.packet.extras) i k (get_or e.packet i [])) has.1)

    behind : Written page (wadd c (length e.packet)) xs after
    behind i h =
        ap (λ (k : ℕ). transmit_slot after (wadd c k + i)) (sym same)
        ∙ slot_behind after c x.slots i
        ∙ w (x.slots + i) (omega arith)
        ∙ ap (splice (transmit_slot page (c + (x.slots + i))) 0) (reply_behind x xs i (transmit_slot page (c + (x.slots + i))))
        ∙ ap (λ (s : Slot). splice s 0 (reply_of xs i s)) (sym (slot_behind page c x.slots i) ∙ ap (λ (k : ℕ). transmit_slot page (wadd c k + i)) same)

replies_answered : (page : List ℕ) (r : ℕ) (es : List Entry) (new : ℕ) (after : List ℕ) → Replies r page (leaving es) new after
    → Holds page r (join_all (packets_in es)) → AllAnswered after r (leaving es)
unfolding Written
replies_answered page r es new after w f =
    all_answered page after w.records (leaving es) r w.theirs (leaving_ended es) w.written.slots
    (holds_front page r (join_all (packets_in (leaving es))) (join_all (packets_in (staying es))) (rw (leave_stay_slots es) at f))

-- ---- the sequences

module _ (table window : List ℕ) {c : ℕ} {s : State} {takes : List Take} (z : Sequence table window c s takes) (f : Holds s.page s.replied (join_all (packets_in (ledger_of table window z)))) where
  held : between s.consumed s.replied ≡ slots_in (ledger_of table window z)
  unfolding InOrder
  held = (in_order table window c s takes z).slots

  -- with the packet that was taken behind them
  took_holds : (o : TakeLeft) (g : Fate) → Holds s.page s.replied (join_all (packets_in (ledger_of table window z ▹ entry (took_packet s o) g)))
  unfolding between
  took_holds o g =
      let e : join_all (packets_in (ledger_of table window z ▹ entry (took_packet s o) g)) ≡ join_all (packets_in (ledger_of table window z)) ++ took_packet s o
      = ap join_all (packets_snoc (ledger_of table window z) (took_packet s o) g) ∙ join_snoc (packets_in (ledger_of table window z)) (took_packet s o) in
      rw e
      (holds_join s.page s.consumed s.replied (join_all (packets_in (ledger_of table window z))) (took_packet s o) held f
      (holds_took s.page s.consumed (slots_word o.words)))

  took_few : (o : TakeLeft) (g : Fate) → slots_in (ledger_of table window z ▹ entry (took_packet s o) g) ≤ 256
  took_few o g =
      let e : slots_in (ledger_of table window z ▹ entry (took_packet s o) g) ≡ slots_in (ledger_of table window z) + length (took_packet s o)
      = ap length (ap join_all (packets_snoc (ledger_of table window z) (took_packet s o) g) ∙ join_snoc (packets_in (ledger_of table window z)) (took_packet s o))
      ∙ length-append (join_all (packets_in (ledger_of table window z))) (took_packet s o) in
      let (a, b) = take_sizes (slots_word o.words) (waiting_slots s.page s.consumed) in
      omega (arith, few_slots table window c s takes z, held, waiting_length s.page s.consumed)

  -- with one of them finished
  marked_holds : (ticket status : ℕ) → Holds s.page s.replied (join_all (packets_in (marked s.replied ticket status (ledger_of table window z))))
  marked_holds ticket status = rw (marked_packets s.replied ticket status (ledger_of table window z)) f

  marked_few : (ticket status : ℕ) → slots_in (marked s.replied ticket status (ledger_of table window z)) ≤ 256
  marked_few ticket status = rw (marked_packets s.replied ticket status (ledger_of table window z)) (omega (arith, few_slots table window c s takes z, held))

  -- a take not answered 7 writes no reply
  take_quiet : (frame : List ℕ) (o : TakeLeft) → TakeAt table window s frame o → o.returned ≢ 7 → (l : List Slot) → Holds s.page s.replied l → Holds o.page o.replied l
  unfolding TakesUnchanged
  take_quiet frame o leaves h l g =
      let u = takes_unchanged table window s.consumed s.replied s.mark s.page frame s.list o leaves in
      holds_quiet s.page o.page s.replied o.replied l (page_size_lem table window c s takes z) (u.replies h)
      (⊎_elim (λ a. inr (u.asks (inl a))) (λ a. ⊎_elim (λ b. inr (u.asks (inr b))) (λ b. inl (u.pages a b h)) (same_or_not o.returned 6)) (same_or_not o.returned 4)) g

  take_holds : (frame : List ℕ) (o : TakeLeft) → 65535 ≤ length frame → Room s → TakeAt table window s frame o
      → Holds o.page o.replied (join_all (packets_in (ledger_taking o.returned (took_packet s o) (ledger_of table window z))))
  unfolding SpoiledLeave
  take_holds frame o big room leaves = go (eqb o.returned 0) (eqb o.returned 7) refl refl
    where
      go : (b d : Bool) → eqb o.returned 0 ≡ b → eqb o.returned 7 ≡ d
          → Holds o.page o.replied (join_all (packets_in (ledger_taking o.returned (took_packet s o) (ledger_of table window z))))
      go true d h k =
          let e : o.returned ≡ 0 = eqb-true o.returned 0 h in
          rw h (take_quiet frame o leaves (λ y. omega arith) _ (took_holds o pending))
      go false true h k =
          rw (h, k)
          (stay_holds s.page s.replied (ledger_of table window z ▹ entry (took_packet s o) (finally failed)) _ _
          (spoiled_leave table window c s takes z (take_lent s frame o) (record { frame = frame; left = o; big = big; room = room; leaves = leaves; is = refl }) (eqb-true o.returned 7 k))
          (took_few o (finally failed)) (took_holds o (finally failed)))
      go false false h k = rw (h, k) (take_quiet frame o leaves (eqb-false o.returned 7 k) _ f)

  finish_holds : (ticket status : ℕ) (o : FinishLeft) → FinishAt s ticket status o
      → Holds o.page o.replied (join_all (packets_in (ledger_finishing o.returned s.replied ticket status (ledger_of table window z))))
  unfolding FinishesUnchanged RepliesLeave
  finish_holds ticket status o leaves = go (eqb o.returned 0) refl
    where
      go : (b : Bool) → eqb o.returned 0 ≡ b
          → Holds o.page o.replied (join_all (packets_in (ledger_finishing o.returned s.replied ticket status (ledger_of table window z))))
      go true h =
          rw h
          (stay_holds s.page s.replied (marked s.replied ticket status (ledger_of table window z)) _ _
          (replies_leave table window c s takes z ticket status o leaves (eqb-true o.returned 0 h)).0 (marked_few ticket status) (marked_holds ticket status))
      go false h =
          let u = finishes_unchanged s.consumed s.replied s.page s.list ticket status o leaves (eqb-false o.returned 0 h) in
          rw h (holds_quiet s.page o.page s.replied o.replied _ (page_size_lem table window c s takes z) u.replies (inl u.pages) f)

holds_all : (table window : List ℕ) {c : ℕ} {s : State} {takes : List Take} (z : Sequence table window c s takes) → Unrewritten table window z
    → Holds s.page s.replied (join_all (packets_in (ledger_of table window z)))
unfolding after_publication Holds KeepsHeld InOrder
holds_all table window (Sequence.fresh f) u = λ i h. absurd (omega arith)
holds_all table window (Sequence.publish {s} {takes} z page k p) u = λ i h. u.1 i (omega (arith, (in_order table window _ s takes z).slots)) ∙ holds_all table window z u.0 i h
holds_all table window (Sequence.takes z frame o big room leaves) u = take_holds table window z (holds_all table window z u) frame o big room leaves
holds_all table window (Sequence.finishes z ticket status o leaves) u = finish_holds table window z (holds_all table window z u) ticket status o leaves

-- the packets taken and not replied to stand unchanged
pub held_stand : HeldStand
unfolding HeldStand InOrder
held_stand table window c s takes z u =
    ap (transmit_slots s.page s.replied) (in_order table window c s takes z).slots
    ∙ holds_slots s.page s.replied (join_all (packets_in (ledger_of table window z))) (holds_all table window z u)

pub held_of_run : HeldOfRun
unfolding HeldOfRun InOrder
held_of_run table window c s takes z =
    let a = in_order table window c s takes z in
    record {
      gone = a.gone;
      joined = run_waits table window c s takes z ∙ ap (◌++ waiting_slots s.page s.consumed) (ap join_all a.joined ∙ join_append a.gone (packets_in (ledger_of table window z)));
      counter = a.counter;
    }

-- each reply has the id of the slot that was taken
pub stated_replies : StatedReplies
unfolding StatedReplies RepliesLeave
stated_replies table window c s takes z u ticket status o leaves n =
    replies_answered s.page s.replied (marked s.replied ticket status (ledger_of table window z)) _ _
    (replies_leave table window c s takes z ticket status o leaves n).0 (marked_holds table window z (holds_all table window z u) ticket status)

pub stated_spoiled : StatedSpoiled
unfolding StatedSpoiled SpoiledLeave
stated_spoiled table window c s takes z u a next n =
    replies_answered s.page s.replied (ledger_of table window z ▹ entry (took_packet s a.left) (finally failed)) _ _
    (spoiled_leave table window c s takes z a next n) (took_holds table window z (holds_all table window z u) a.left (finally failed))
