-- The invariant of the sequences, by which demand 3 and the order of the replies are proved: the laws of the slots that stand and of what is read of a run,
-- with the list of records valid and the accounts right. Each step goes by what the definition comes to, carried over to the words left.
use mathlib.Core.Path.{◌≡◌, refl, sym, ap, ◌∙◌}
use mathlib.Core.Logic.{◌≢◌, ◌⊎◌, inl, inr}
use mathlib.Core.List.{List, [], ◌∷◌, ◌++◌}
use mathlib.Core.Bool.{Bool, true, false, ◌&&◌}
use Prim.Native.Nat.{ℕ, ◌+◌, ◌≤◌, ◌<◌}
use native.Mathlib.Omega.{arith}
use lib.ListN.{length, take}
use lib.Seq.{take_at}
use lib.Dec.{eqb}
use borrow.Author.Tests.{le-ltb, eq-eqb}
use Rattle.words.specs.Word.{Bytes}
use Rattle.words.proofs.Word.{no_confusion, and_both, either, u32_same}
use Rattle.ring.specs.Ring.{wrap, wadd, wsub, req_prod, asking}
use Rattle.ring.proofs.Counters.{wadd_zero, wadd_small, wsub_on, not_moved}
use Rattle.ring.proofs.Standing.{EachBytes, Stands, stands_none, stands_posted, stands_slots, stands_same, stands_less, stands_more, stands_on}
use Rattle.netif.specs.Slot.{Slot, transmit_slots}
use Rattle.grammar.specs.Grammar.{Packet, join_all}
use Rattle.grammar.specs.Packet.{first_of}
use Rattle.grammar.specs.Divide.{Cut, whole, beginning, misshapen, divide, on_cut}
use Rattle.grammar.specs.Service.{◌▹◌}
use Rattle.grammar.proofs.Grammar.{packet_length, packet_some, divide_whole}
use Rattle.grammar.proofs.Service.{Reads, Case, reads_fresh, reads_publish, reads_again, reads_empty, reads_waiting, reads_wrong, reads_took}
use Rattle.std.specs.Prelude.{Ok, Err}
use Rattle.answer.specs.Verdict.{Verdict, good}
use Rattle.answer.specs.Words.{report_words}
use Rattle.packet.specs.Judge.{judge, total_of}
use Rattle.packet.proofs.Judge.{total_small}
use Rattle.held.specs.declared.Held.{Held}
use Rattle.held.specs.Records.{is_status, is_finished, full, added, waiting, ended, finish, can_finish, failed}
use Rattle.held.specs.Valid.{between, valid}
use Rattle.held.specs.Release.{settle}
use Rattle.held.proofs.Cover.{fresh_valid, Covers, EachHeld, Sound, valid_split, Found, finish_covers, finish_sound}
use Rattle.held.proofs.Counts.{packet_counts}
use Rattle.held.proofs.Leaving.{settle_keeps}
use Rattle.transmit.specs.declared.Queue.{Queue}
use Rattle.transmit.specs.Take.{go_on, TakeEffect, refusal, summary_of, waiting_slots, overflow, replied_page, spoiled, handed_over, take_packet, Look, stop, ready, look, take_of}
use Rattle.transmit.specs.Finish.{FinishEffect, unfinished, finished, transmit_finish}
use Rattle.transmit.specs.Words.{TakeLeft, TakeLeaves, FinishLeft, FinishLeaves}
use Rattle.transmit.proofs.Cases.{asking_length, asking_requests, asking_slot, take_of_lem, look_halted, look_empty, look_some}
use Rattle.transmit.proofs.Paging.{turn, small, same_slot, settle_replied}
use Rattle.transmit.proofs.LentOn.{lent_on}
use Rattle.transmit.specs.Keeps.{slots_word, TakeKeeps, FinishKeeps}
use Rattle.sequences.specs.Sequence.{State, queue_at, after_publication, Room, Take, take_lent, answer_of, after_take, TakeAt, FinishAt, after_finish, Sequence, Took, Told, Next}
use Rattle.sequences.specs.Ledger.{pending, finally, Entry, entry, slots_in, marked, leaving, staying, HeldFrom}
use Rattle.sequences.specs.Order.{took_packet, ledger_taking, ledger_finishing, ledger_of, Accounts, Replies}
use Rattle.transmit.proofs.Keeps.{take_keeps, finish_keeps, more_covers, more_sound, finish_found}
use Rattle.sequences.proofs.Ledger.{marked_packets, held_finish, accounts_of, accounts_more, leaves_from}

running : (q : Queue) → q.halted ≡ false → q ≡ go_on q.consumed q.replied
running q h = λ i. record { consumed = q.consumed; replied = q.replied; halted = h i }

first_bytes : (p t : List Slot) → 1 ≤ length p → EachBytes (p ++ t) → Bytes (first_of p)
first_bytes [] t n h = absurd (omega arith)
first_bytes (s ∷ p) t n h = h.0

-- ---- a settled page

-- replies that leave keep the slots behind the counter
settled_stands : (c r : ℕ) (l : List Held) (page : List ℕ) → length page ≡ 4096 → Covers (between c r) r l → EachHeld Sound l → (left : List Slot)
    → Stands 12 256 turn small page (between c r) c left
    → let s = settle c r l in Stands 12 256 turn small (replied_page page r s.gone s.replied) (between c s.replied) c left
unfolding between
settled_stands c r l page size v s left t =
    let k = settle_keeps c r l v s in
    let o = settle c r l in
    let p = settle_replied c r l page size v s in
    stands_less 12 256 turn small
    (stands_same 12 256 turn small t (replied_page page r o.gone o.replied)
    (u32_same (replied_page page r o.gone o.replied) page 0 (λ j a b. p.header j (omega arith) (inl (omega arith))))
    (λ i h.
    same_slot (replied_page page r o.gone o.replied) c r i
    ∙ p.others (wsub c r + i) (omega (arith, k.moved, k.left)) (omega (arith, t.few))
    ∙ sym (same_slot page c r i)))
    (wsub c o.replied) (omega (arith, k.left))

settled_size : (c r : ℕ) (l : List Held) (page : List ℕ) → length page ≡ 4096 → Covers (between c r) r l → EachHeld Sound l
    → let s = settle c r l in length (replied_page page r s.gone s.replied) ≡ 4096
settled_size c r l page size v s = (settle_replied c r l page size v s).size ∙ size

-- where the slots left stand, nothing overflows
no_overflow : (c r : ℕ) (page : List ℕ) (left : List Slot) → Stands 12 256 turn small page (between c r) c left → overflow c r page ≡ false
unfolding overflow between
no_overflow c r page left t =
    let n : wsub (req_prod page) r ≡ wsub c r + length left = ap (λ (x : ℕ). wsub x r) t.requests ∙ wsub_on c r (length left) (omega (arith, t.few)) in
    rw (n, le-ltb 256 (wsub c r + length left) t.few, le-ltb (wsub c r + length left) (wsub c r) (omega arith))

-- the slots that a report has
slots_word_lem : (e : TakeEffect) (mark : ℕ) (o : TakeLeft) → TakeLeaves e mark o → slots_word o.words ≡ e.report.slots
unfolding report_words
slots_word_lem e mark o h = ap slots_word h.reports

finish_word : (e : FinishEffect) (o : FinishLeft) → FinishLeaves e o → slots_word o.words ≡ e.report.slots
unfolding report_words
finish_word e o h = ap slots_word h.reports

module _ (table window : List ℕ) where
  pub record Inv (c : ℕ) (s : State) (takes : List Take) (es : List Entry) : Type 0 where
    pub done : List (List Slot)
    pub left : List Slot
    pub reads : Reads Take answer_of (Took table window) Told c s.run takes s.consumed (queue_at s).halted done left
    pub size : length s.page ≡ 4096
    pub stands : Stands 12 256 turn small s.page (between s.consumed s.replied) s.consumed left
    pub right : valid s.consumed s.replied s.list ≡ true
    pub accounts : Accounts c s.consumed s.replied s.list done es

  -- by another name of the counter or the mark
  recount : {c n m : ℕ} {run : List Slot} {takes : List Take} {b d : Bool} {done : List (List Slot)} {left : List Slot} → n ≡ m → b ≡ d
      → Reads Take answer_of (Took table window) Told c run takes m d done left → Reads Take answer_of (Took table window) Told c run takes n b done left
  recount h g r = rw (h, g) r

  restand : {page other : List ℕ} {c d r q : ℕ} {left : List Slot} → page ≡ other → c ≡ d → r ≡ q
      → Stands 12 256 turn small other (between d q) d left → Stands 12 256 turn small page (between c r) c left
  restand h g k t = rw (h, g, k) t

  reaccount : {c n m r q : ℕ} {l k : List Held} {done : List (List Slot)} {es fs : List Entry} → n ≡ m → r ≡ q → l ≡ k → es ≡ fs
      → Accounts c m q k done fs → Accounts c n r l done es
  reaccount h g k e a = rw (h, g, k, e) a

  -- the frame buffer holds a good packet that stands ready; one of 65,535 bytes does
  Suits : {c : ℕ} {s : State} {takes : List Take} {es : List Entry} → Inv c s takes es → List ℕ → Type 0
  Suits v frame = (p t : List Slot) (k : Packet p) → v.left ≡ p ++ t → judge table window (length k.extras) p ≡ good → total_of p ≤ length frame

  big_suits : {c : ℕ} {s : State} {takes : List Take} {es : List Entry} (v : Inv c s takes es) (frame : List ℕ) → 65535 ≤ length frame → Suits v frame
  unfolding Suits
  big_suits v frame big p t k e j = omega (arith, total_small p (first_bytes p t (packet_some k) (rw e at v.stands.bytes)))

  -- ---- a take

  module _ {c : ℕ} {s : State} {takes : List Take} {es : List Entry} (v : Inv c s takes es) (frame : List ℕ) (suits : Suits v frame) (room : Room s)
      (l : TakeLeft) (leaves : TakeAt table window s frame l) where
    a : Take
    a = take_lent s frame l

    -- the ledger after the take
    es' : List Entry
    es' = ledger_taking l.returned (took_packet s l) es

    -- what leaves at a take answered 7
    Gone : Type 0
    Gone = l.returned ≡ 7 → Replies s.replied s.page (leaving (es ▹ entry (took_packet s l) (finally failed))) l.replied l.page

    -- what the take is, the invariant after it, and what left
    Step : Type 0
    Step = Case Take answer_of (Took table window) Told s.consumed (queue_at s).halted v.left a × Inv c (after_take s l) (takes ▹ a) es' × Gone

    -- the invariant after a take that left the effect o, and with it a queue that is halted if it was
    after : {o : TakeEffect} {done : List (List Slot)} {left : List Slot} {fs : List Entry} → TakeLeaves o s.mark l → ((queue_at s).halted ≡ true → o.queue.halted ≡ true)
        → es' ≡ fs
        → Reads Take answer_of (Took table window) Told c s.run (takes ▹ a) o.queue.consumed o.queue.halted done left
        → length o.page ≡ 4096 → Stands 12 256 turn small o.page (between o.queue.consumed o.queue.replied) o.queue.consumed left
        → Accounts c o.queue.consumed o.queue.replied o.list done fs → Inv c (after_take s l) (takes ▹ a) es'
    unfolding TakeKeeps
    after {o} {done} {left} h stays e r z t y =
        let q = lent_on o s.mark l stays h in
        record {
          done = done;
          left = left;
          reads = recount h.counter (ap (λ (x : Queue). x.halted) q) r;
          size = ap length h.pages ∙ z;
          stands = restand h.pages h.counter h.replies t;
          right = (take_keeps table window s.consumed s.replied s.mark s.page frame s.list l leaves).0.stays v.right;
          accounts = reaccount h.counter h.replies h.records e y;
        }

    -- a queue that is not halted has no halt to keep
    runs : (queue_at s).halted ≡ false → {b : Bool} → (queue_at s).halted ≡ true → b ≡ true
    runs h k = no_confusion cc

    -- a take that took nothing
    ledger_same : (n : ℕ) → eqb n 0 ≡ false → eqb n 7 ≡ false → l.returned ≡ n → es' ≡ es
    unfolding es'
    ledger_same n h k e = rw (e, h, k)

    nothing_gone : (n : ℕ) → n ≢ 7 → l.returned ≡ n → Gone
    unfolding Gone
    nothing_gone n h e k = absurd (h (sym e ∙ k))

    asks : Stands 12 256 turn small (asking s.page) (between s.consumed s.replied) s.consumed v.left
    asks = stands_same 12 256 turn small v.stands (asking s.page) (asking_requests s.page v.size) (λ i h. asking_slot s.page v.size (s.consumed + i))

    step_again : (queue_at s).halted ≡ true → TakeLeaves (refusal 2 (queue_at s) s.page frame s.list) s.mark l → Step
    unfolding Step Told a
    step_again h o = (
      Case.again h o.returns o,
      after o (λ k. k) (ledger_same 2 refl refl o.returns) (recount refl h (reads_again Take answer_of (Took table window) Told v.reads a h o.returns o)) v.size v.stands v.accounts,
      nothing_gone 2 (λ z. omega arith) o.returns,
    )

    step_empty : (queue_at s).halted ≡ false → v.left ≡ [] → TakeLeaves (refusal 4 (queue_at s) s.page frame s.list) s.mark l → Step
    unfolding Step Told a
    step_empty h e o = (
      Case.empty h e o.returns o,
      after o (runs h) (ledger_same 4 refl refl o.returns) (recount refl h (reads_empty Take answer_of (Took table window) Told v.reads a h o.returns o)) (asking_length s.page v.size) asks v.accounts,
      nothing_gone 4 (λ z. omega arith) o.returns,
    )

    step_waiting : (queue_at s).halted ≡ false → v.left ≢ [] → divide v.left ≡ beginning → TakeLeaves (refusal 6 (queue_at s) s.page frame s.list) s.mark l → Step
    unfolding Step Told a
    step_waiting h n g o = (
      Case.waiting h n g o.returns o,
      after o (runs h) (ledger_same 6 refl refl o.returns) (recount refl h (reads_waiting Take answer_of (Took table window) Told v.reads a h o.returns o)) (asking_length s.page v.size) asks v.accounts,
      nothing_gone 6 (λ z. omega arith) o.returns,
    )

    step_wrong : (queue_at s).halted ≡ false → divide v.left ≡ misshapen → TakeLeaves (refusal 5 (queue_at s) s.page frame s.list) s.mark l → Step
    unfolding Step Told a
    step_wrong h g o = (
      Case.wrong h g o.returns o,
      after o (runs h) (ledger_same 5 refl refl o.returns) (reads_wrong Take answer_of (Took table window) Told v.reads a h g o.returns o) v.size v.stands v.accounts,
      nothing_gone 5 (λ z. omega arith) o.returns,
    )

    -- the slots behind a packet, once it is held
    on_stands : (p t : List Slot) → v.left ≡ p ++ t → Stands 12 256 turn small s.page (between (wadd s.consumed (length p)) s.replied) (wadd s.consumed (length p)) t
    unfolding between
    on_stands p t e =
        let m = stands_on 12 256 turn small p t (rw e at v.stands) in
        rw (wsub_on s.consumed s.replied (length p) (omega (arith, m.few))) m

    small_consumed : s.consumed < wrap
    small_consumed = omega (arith, v.reads.counter, wadd_small c (length (join_all v.done)))

    few_more : (p t : List Slot) → v.left ≡ p ++ t → between s.consumed s.replied + length p ≤ 256
    few_more p t e = let m = stands_on 12 256 turn small p t (rw e at v.stands) in omega (arith, m.few)

    waiting_is : waiting_slots s.page s.consumed ≡ v.left
    unfolding waiting_slots
    waiting_is = stands_slots 12 256 turn small v.stands

    -- the packet that was taken, as it stood
    packet_is : (p t : List Slot) → v.left ≡ p ++ t → slots_word l.words ≡ length p → took_packet s l ≡ p
    packet_is p t e n = rw (n, waiting_is, e) (take_at p t (length p) refl)

    ledger_handed : (p : List Slot) → l.returned ≡ 0 → took_packet s l ≡ p → es' ≡ es ▹ entry p pending
    unfolding es'
    ledger_handed p n e = rw (n, e)

    ledger_spoiled : (p : List Slot) → l.returned ≡ 7 → took_packet s l ≡ p → es' ≡ staying (es ▹ entry p (finally failed))
    unfolding es'
    ledger_spoiled p n e = rw (n, e)

    regone : {r r' : ℕ} {page page' : List ℕ} {p q : List Slot} → q ≡ p → r ≡ r' → page ≡ page'
        → Replies s.replied s.page (leaving (es ▹ entry p (finally failed))) r' page' → Replies s.replied s.page (leaving (es ▹ entry q (finally failed))) r page
    regone e g h w = rw (e, g, h) w

    step_packet : (queue_at s).halted ≡ false → (p t : List Slot) (k : Packet p) → v.left ≡ p ++ t → full s.list ≡ false → (j : Verdict) → judge table window (length k.extras) p ≡ j
        → TakeLeaves (take_packet table window (queue_at s) s.page frame s.list (length k.extras) p j) s.mark l → Step
    unfolding Step Gone handed_over spoiled a between Suits summary_of is_finished
    step_packet h p t k e f (Ok u) jh o =
        let fits = le-ltb (length frame) (total_of p) (suits p t k e jh) in
        let o' : TakeLeaves (handed_over table window (queue_at s) s.page frame s.list (length k.extras) p) s.mark l = rw (fits, f) at o in
        let w : Took table window s.consumed (take_lent s frame l) p = Took.handed k (running (queue_at s) h) jh o' in
        let took : took_packet s l ≡ p = packet_is p t e (slots_word_lem (handed_over table window (queue_at s) s.page frame s.list (length k.extras) p) s.mark l o') in
        let x : Held = waiting s.consumed (length p) (length k.extras) in (
          Case.packet h p t k e (inl o'.returns) w,
          after o' (runs h) (ledger_handed p o'.returns took) (reads_took Take answer_of (Took table window) Told v.reads (take_lent s frame l) h p t k e (inl o'.returns) w) v.size (on_stands p t e)
              (accounts_more s.consumed s.replied s.list v.accounts v.right f small_consumed p pending (few_more p t e) x refl (record { packet = k; slots = refl; extras = refl; fate = (refl, refl) })),
          nothing_gone 0 (λ z. omega arith) o'.returns,
        )
    step_packet h p t k e f (Err fault) jh o =
        let o' : TakeLeaves (spoiled (queue_at s) s.page frame s.list (length k.extras) p fault.cause fault.place) s.mark l = rw f at o in
        let w : Took table window s.consumed (take_lent s frame l) p = Took.spoilt k fault.cause fault.place (running (queue_at s) h) jh o' in
        let took : took_packet s l ≡ p = packet_is p t e (slots_word_lem (spoiled (queue_at s) s.page frame s.list (length k.extras) p fault.cause fault.place) s.mark l o') in
        let x : Held = ended s.consumed (length p) (length k.extras) failed in
        let cov = more_covers s.consumed s.replied s.list v.right f (length p) (length k.extras) (few_more p t e) (packet_counts k) x refl refl in
        let snd = more_sound s.consumed s.replied s.list v.right f (length p) (length k.extras) (few_more p t e) (packet_counts k) x refl refl refl in
        let y = accounts_more s.consumed s.replied s.list v.accounts v.right f small_consumed p (finally failed) (few_more p t e) x refl (record { packet = k; slots = refl; extras = refl; fate = (refl, refl) }) in (
          Case.packet h p t k e (inr o'.returns) w,
          after o' (runs h) (ledger_spoiled p o'.returns took) (reads_took Take answer_of (Took table window) Told v.reads (take_lent s frame l) h p t k e (inr o'.returns) w)
              (settled_size (wadd s.consumed (length p)) s.replied (added s.list x) s.page v.size cov snd)
              (settled_stands (wadd s.consumed (length p)) s.replied (added s.list x) s.page v.size cov snd t (on_stands p t e))
              (accounts_of c (wadd s.consumed (length p)) s.replied (added s.list x) (v.done ++ (p ∷ [])) y.gone (es ▹ entry p (finally failed)) y.joined y.counter y.slots cov snd y.records),
          λ z. regone took o'.replies o'.pages
              (leaves_from (wadd s.consumed (length p)) s.replied (added s.list x) s.page (es ▹ entry p (finally failed)) v.size cov snd y.slots
              (omega (arith, y.counter, wadd_small c (length (join_all y.gone)))) y.records).0,
        )

    -- the take, by what stands at the counter
    gives : (x : Look) → look table window (queue_at s) s.page s.list ≡ x → TakeLeaves (take_of table window (queue_at s) s.page frame s.list x) s.mark l
    gives x h = rw (take_of_lem table window (queue_at s) s.page s.list frame x h) at leaves

    some : (queue_at s).halted ≡ false → 0 < length v.left
        → look table window (queue_at s) s.page s.list
        ≡ on_cut (divide v.left) (λ d e. ready e (take (d + e) v.left) (judge table window e (take (d + e) v.left))) (stop 6) (stop 5)
    some h n = look_some table window (queue_at s) s.page s.list v.size v.right h (no_overflow s.consumed s.replied s.page v.left v.stands)
        v.left waiting_is (stands_posted 12 256 turn small v.stands) n

    step_cut : (d : Cut) → divide v.left ≡ d → (queue_at s).halted ≡ false → 0 < length v.left → Step
    unfolding Room
    step_cut (whole d e) g h n =
        let f = divide_whole v.left d e g in
        let sizes : length f.front ≡ d + e = omega (arith, packet_length f.packet, f.counts_data, f.counts_extras) in
        let taken' : take (d + e) v.left ≡ f.front = ap (take (d + e)) f.joined ∙ take_at f.front f.tail (d + e) sizes in
        let x : Look = ready (length f.packet.extras) f.front (judge table window (length f.packet.extras) f.front) in
        step_packet h f.front f.tail f.packet f.joined (room d e (rw waiting_is f)) (judge table window (length f.packet.extras) f.front) refl
        (gives x (some h n ∙ rw (g, taken', f.counts_extras)))
    step_cut beginning g h n = step_waiting h (λ e. omega (arith, ap length e)) g (gives (stop 6) (some h n ∙ rw g))
    step_cut misshapen g h n = step_wrong h g (gives (stop 5) (some h n ∙ rw g))

    step_left : (left : List Slot) → v.left ≡ left → (queue_at s).halted ≡ false → Step
    step_left [] e h =
        step_empty h e (gives (stop 4) (look_empty table window (queue_at s) s.page s.list v.size v.right h (no_overflow s.consumed s.replied s.page v.left v.stands) (stands_posted 12 256 turn small v.stands ∙ ap length e)))
    step_left (x ∷ left) e h = step_cut (divide v.left) refl h (omega (arith, ap length e))

    step : Step
    step = go (queue_at s).halted refl
      where
        go : (b : Bool) → (queue_at s).halted ≡ b → Step
        go true h = step_again h (gives (stop 2) (look_halted table window (queue_at s) s.page s.list v.size v.right h))
        go false h = step_left v.left refl h

  -- ---- a finish

  module _ {c : ℕ} {s : State} {takes : List Take} {es : List Entry} (v : Inv c s takes es) (ticket status : ℕ) (l : FinishLeft) (leaves : FinishAt s ticket status l) where
    -- the ledger after the finish
    after_finish_lem : List Entry
    after_finish_lem = ledger_finishing l.returned s.replied ticket status es

    finish_after : {o : FinishEffect} {fs : List Entry} → FinishLeaves o l → after_finish_lem ≡ fs → length o.page ≡ 4096
        → Stands 12 256 turn small o.page (between s.consumed o.replied) s.consumed v.left → Accounts c s.consumed o.replied o.list v.done fs
        → Inv c (after_finish s l) takes after_finish_lem
    unfolding FinishKeeps
    finish_after h e z t y = record {
      done = v.done;
      left = v.left;
      reads = v.reads;
      size = ap length h.pages ∙ z;
      stands = restand h.pages refl h.replies t;
      right = (finish_keeps s.consumed s.replied s.page s.list ticket status l leaves).0.stays v.right;
      accounts = reaccount refl h.replies h.records e y;
    }

    -- done exactly if the packet can be finished so; else 15
    pub finish_done : can_finish s.list ticket && is_status status ≡ true → FinishLeaves (finished s.consumed s.replied s.page (finish s.list ticket status)) l
    unfolding transmit_finish
    finish_done h = rw (eq-eqb (length s.page) 4096 v.size, v.right, h) at leaves

    pub finish_not : can_finish s.list ticket && is_status status ≡ false → FinishLeaves (unfinished 15 s.replied s.page s.list) l
    unfolding transmit_finish
    finish_not h = rw (eq-eqb (length s.page) 4096 v.size, v.right, h) at leaves

    module _ (h : can_finish s.list ticket && is_status status ≡ true) where
      found : Found s.list ticket
      found = let (x, y) = and_both (can_finish s.list ticket) (is_status status) h in finish_found s.consumed s.replied s.list ticket status v.right x y

      now_covers : Covers (between s.consumed s.replied) s.replied (finish s.list ticket status)
      now_covers = finish_covers (between s.consumed s.replied) s.replied s.list (valid_split s.consumed s.replied s.list v.right).covered ticket found status

      now_sound : EachHeld Sound (finish s.list ticket status)
      now_sound =
          let (x, y) = and_both (can_finish s.list ticket) (is_status status) h in
          let w = valid_split s.consumed s.replied s.list v.right in
          finish_sound (between s.consumed s.replied) s.replied s.list w.covered ticket found status w.sound y

      small_replied : s.replied < wrap
      small_replied = omega (arith, v.accounts.counter, wadd_small c (length (join_all v.accounts.gone)))

      -- the ledger, with the packet finished, and its records
      now_held : HeldFrom (finish s.list ticket status) s.replied (marked s.replied ticket status es)
      now_held = held_finish s.list ticket status found es s.replied small_replied
          (omega (arith, v.accounts.slots, (valid_split s.consumed s.replied s.list v.right).covered.small)) v.accounts.records

    now_slots : between s.consumed s.replied ≡ slots_in (marked s.replied ticket status es)
    now_slots = v.accounts.slots ∙ sym (ap (λ (x : List (List Slot)). length (join_all x)) (marked_packets s.replied ticket status es))

    ledger_done : l.returned ≡ 0 → after_finish_lem ≡ staying (marked s.replied ticket status es)
    unfolding after_finish_lem
    ledger_done h = rw h

    ledger_not : l.returned ≡ 15 → after_finish_lem ≡ es
    unfolding after_finish_lem
    ledger_not h = rw h

    finish_step : Inv c (after_finish s l) takes after_finish_lem
    unfolding finished
    finish_step = go (either (can_finish s.list ticket && is_status status))
      where
        go : (can_finish s.list ticket && is_status status ≡ true) ⊎ (can_finish s.list ticket && is_status status ≡ false) → Inv c (after_finish s l) takes after_finish_lem
        go (inl h) =
            let a = v.accounts in
            finish_after (finish_done h) (ledger_done (finish_done h).returns)
            (settled_size s.consumed s.replied (finish s.list ticket status) s.page v.size (now_covers h) (now_sound h))
            (settled_stands s.consumed s.replied (finish s.list ticket status) s.page v.size (now_covers h) (now_sound h) v.left v.stands)
            (accounts_of c s.consumed s.replied (finish s.list ticket status) v.done a.gone (marked s.replied ticket status es)
            (a.joined ∙ ap (a.gone ++◌) (sym (marked_packets s.replied ticket status es))) a.counter now_slots (now_covers h) (now_sound h) (now_held h))
        go (inr h) = finish_after (finish_not h) (ledger_not (finish_not h).returns) v.size v.stands v.accounts

    refinish : {r r' n n' : ℕ} {page page' : List ℕ} → r ≡ r' → page ≡ page' → n ≡ n'
        → Replies s.replied s.page (leaving (marked s.replied ticket status es)) r' page' × (n' ≡ slots_in (leaving (marked s.replied ticket status es)))
        → Replies s.replied s.page (leaving (marked s.replied ticket status es)) r page × (n ≡ slots_in (leaving (marked s.replied ticket status es)))
    refinish e g h w = rw (e, g, h) w

    -- what leaves at a finish that is done
    pub finish_leaves : l.returned ≡ 0
        → Replies s.replied s.page (leaving (marked s.replied ticket status es)) l.replied l.page
        × (slots_word l.words ≡ slots_in (leaving (marked s.replied ticket status es)))
    unfolding finished
    finish_leaves n = go (either (can_finish s.list ticket && is_status status))
      where
        go : (can_finish s.list ticket && is_status status ≡ true) ⊎ (can_finish s.list ticket && is_status status ≡ false)
            → Replies s.replied s.page (leaving (marked s.replied ticket status es)) l.replied l.page
            × (slots_word l.words ≡ slots_in (leaving (marked s.replied ticket status es)))
        go (inl h) =
            let o = finish_done h in
            refinish o.replies o.pages (finish_word (finished s.consumed s.replied s.page (finish s.list ticket status)) l o)
            (leaves_from s.consumed s.replied (finish s.list ticket status) s.page (marked s.replied ticket status es) v.size (now_covers h) (now_sound h) now_slots (small_replied h) (now_held h))
        go (inr h) = absurd (let z : 15 ≡ 0 = sym (finish_not h).returns ∙ n in omega arith)

  -- ---- the sequences

  pub inv : {c : ℕ} {s : State} {takes : List Take} (z : Sequence table window c s takes) → Inv c s takes (ledger_of table window z)
  unfolding after_publication Step a between es' after_finish_lem
  inv {c} (Sequence.fresh {page} {l} f) = record {
    done = [];
    left = [];
    reads = reads_fresh Take answer_of (Took table window) Told c f.counter;
    size = f.size;
    stands = rw (not_moved c) (stands_none 12 256 turn small page c (f.requests ∙ sym (wadd_zero c f.counter)));
    right = fresh_valid c l f.records f.unused;
    accounts = record { gone = []; joined = refl; counter = sym (wadd_zero c f.counter); slots = not_moved c; records = tt };
  }
  inv (Sequence.publish {s} z page k u) =
      let v = inv z in
      let n : wsub (req_prod s.page) s.replied ≡ wsub s.consumed s.replied + length v.left
      = ap (λ (x : ℕ). wsub x s.replied) v.stands.requests ∙ wsub_on s.consumed s.replied (length v.left) (omega (arith, v.stands.few)) in
      record {
        done = v.done;
        left = v.left ++ transmit_slots page (req_prod s.page) k;
        reads = reads_publish Take answer_of (Took table window) Told v.reads (transmit_slots page (req_prod s.page) k);
        size = u.size;
        stands = stands_more 12 256 turn small v.stands page k u.bytes u.raised (omega (arith, u.few, stands_posted 12 256 turn small v.stands)) u.kept;
        right = v.right;
        accounts = v.accounts;
      }
  inv (Sequence.takes z frame o big room leaves) = (step (inv z) frame (big_suits (inv z) frame big) room o leaves).1
  inv (Sequence.finishes z ticket status o leaves) = finish_step (inv z) ticket status o leaves

  pub case_of : {c : ℕ} {s : State} {takes : List Take} {es : List Entry} (v : Inv c s takes es) (b : Take) → Next table window s b
      → Case Take answer_of (Took table window) Told s.consumed (queue_at s).halted v.left b
  unfolding Step a
  case_of v b n = rw n.is (step v n.frame (big_suits v n.frame n.big) n.room n.left n.leaves).0

  pub spoiled_of : {c : ℕ} {s : State} {takes : List Take} {es : List Entry} (v : Inv c s takes es) (b : Take) → Next table window s b → answer_of b ≡ 7
      → Replies s.replied s.page (leaving (es ▹ entry (took_packet s b.left) (finally failed))) b.left.replied b.left.page
  unfolding Step Gone
  spoiled_of v b n seven = rw n.is ((step v n.frame (big_suits v n.frame n.big) n.room n.left n.leaves).2 (rw n.is at seven))
