-- The order in which replies leave, by the invariant of the sequences.
use mathlib.Core.Path.{◌≡◌, refl, sym, ap, ◌∙◌}
use mathlib.Core.Logic.{◌≢◌, inl, inr, ⊎_elim}
use mathlib.Core.List.{List, [], ◌∷◌, ◌++◌}
use mathlib.Core.Bool.{true, false, not, ◌&&◌}
use Prim.Native.Nat.{ℕ, ◌+◌, ◌≤◌, ◌<◌}
use native.Mathlib.Omega.{arith}
use lib.ListN.{length, get_or}
use borrow.Author.Tests.{not-true}
use Rattle.words.proofs.Word.{lt_or_ge, and_both, true_and, either, clash}
use Rattle.ring.specs.Ring.{wadd, wsub, posted}
use Rattle.ring.proofs.Counters.{posted_of, wadd_wadd, wadd_zero, wadd_small}
use Rattle.ring.proofs.Standing.{stands_posted, stands_slots}
use Rattle.netif.specs.Slot.{Slot, slot_count, transmit_slots}
use Rattle.grammar.specs.Grammar.{join_all}
use Rattle.grammar.proofs.Grammar.{packet_some}
use Rattle.grammar.proofs.Service.{reads_done}
use Rattle.held.specs.declared.Held.{Held}
use Rattle.held.specs.Records.{is_status, in_use, free, place_at, record_at, is_finished, can_finish}
use Rattle.held.specs.Valid.{between, owns}
use Rattle.held.proofs.Cover.{in_use_some, some_in_use, Covers, valid_split, Found, found_used, owns_first, owns_own}
use Rattle.held.proofs.Slots.{one_owner, valid_slots}
use Rattle.transmit.specs.Take.{waiting_slots}
use Rattle.transmit.specs.Finish.{finished}
use Rattle.transmit.proofs.Paging.{turn, small}
use Rattle.sequences.specs.Sequence.{State, Take, answer_of, Sequence, Took, Told}
use Rattle.sequences.specs.Ledger.{Fate, pending, finally, Entry, slots_in, HasFate, HeldFrom, Waits}
use Rattle.sequences.specs.Order.{ledger_of, packets_taken, InOrder, RepliesLeave, SpoiledLeave, FinishesDone, NoOthers}
use Rattle.sequences.proofs.Invariant.{Inv, inv, spoiled_of, finish_done, finish_not, finish_leaves}
use Rattle.sequences.proofs.Ledger.{slots_cons}

-- of the packets taken the first ones are replied to, and the records are those of the others
pub in_order : InOrder
unfolding InOrder packets_taken
in_order table window c s takes z =
    let v = inv table window z in
    rw (reads_done Take answer_of (Took table window) Told v.reads) v.accounts

-- what leaves at a finish, and at a take answered 7
pub replies_leave : RepliesLeave
unfolding RepliesLeave
replies_leave table window c s takes z ticket status o leaves n = finish_leaves table window (inv table window z) ticket status o leaves n

pub spoiled_leave : SpoiledLeave
unfolding SpoiledLeave
spoiled_leave table window c s takes z a next n = spoiled_of table window (inv table window z) a next n

-- a packet of the ledger that waits can be finished
waits_can : (l : List Held) (ticket : ℕ) (es : List Entry) (c : ℕ) → HeldFrom l c es → Waits c ticket es → can_finish l ticket ≡ true
unfolding can_finish
waits_can l ticket [] c h w = absurd w
waits_can l ticket (e ∷ es) c (r, h) (inl (k, f)) =
    let g : HasFate (record_at l c) pending = rw f at r.fate in
    ap (can_finish l) (sym k) ∙ true_and (in_use (record_at l c)) (not (is_finished (record_at l c))) (some_in_use (record_at l c) (omega (arith, r.slots, packet_some r.packet))) (ap not g.0)
waits_can l ticket (e ∷ es) c (r, h) (inr w) = waits_can l ticket es (wadd c (length e.packet)) h w

-- and what can be finished is such a packet: each slot of it belongs to the record of an entry, and to no other
module _ (l : List Held) (r n : ℕ) (v : Covers n r l) (ticket : ℕ) (h : can_finish l ticket ≡ true) where
  can_parts : (in_use (record_at l ticket) ≡ true) × (is_finished (record_at l ticket) ≡ false)
  unfolding can_finish
  can_parts = let (a, b) = and_both (in_use (record_at l ticket)) _ h in (a, not-true _ b)

  found : Found l ticket
  found = found_used l ticket can_parts.0

  inside : wsub ticket r < n
  unfolding record_at
  inside = omega (arith, v.each (place_at l ticket) found.holds, ap (λ (t : ℕ). wsub t r) found.ticket, in_use_some (record_at l ticket) found.holds)

  here_owns : owns (wadd r (wsub ticket r)) (record_at l ticket) ≡ true
  here_owns = ap (λ (t : ℕ). owns (wadd r (wsub t r)) (record_at l ticket)) (sym found.ticket) ∙ owns_first r (record_at l ticket) (in_use_some (record_at l ticket) found.holds)

  -- the entry at offset m, whose record has the ticket's slot, is the ticket's
  same_record : (m k : ℕ) → in_use (record_at l (wadd r m)) ≡ true → (record_at l (wadd r m)).slots ≡ k → m ≤ wsub ticket r → wsub ticket r < m + k → wadd r m ≡ ticket
  unfolding record_at
  same_record m k u e a b =
      let f : Found l (wadd r m) = found_used l (wadd r m) u in
      let back : wsub (wadd r m) r ≡ m = posted_of r m (omega (arith, inside, v.small)) in
      let owned : owns (wadd r (wsub ticket r)) (record_at l (wadd r m)) ≡ true
      = owns_own r (wadd r m) (wsub ticket r) m (record_at l (wadd r m)) f.ticket back a (omega arith) (omega (arith, inside, v.small)) in
      let place : place_at l ticket ≡ place_at l (wadd r m) = one_owner n r l v (wsub ticket r) inside (place_at l (wadd r m)) (place_at l ticket) f.inside owned here_owns in
      sym f.ticket ∙ ap (λ (p : ℕ). (get_or l p free).ticket) (sym place) ∙ found.ticket

  -- it waits
  still_pending : (f : Fate) → HasFate (record_at l ticket) f → f ≡ pending
  still_pending pending w = refl
  still_pending (finally status) w = absurd (clash w.0 can_parts.1)

  can_waits : (es : List Entry) (m : ℕ) → HeldFrom l (wadd r m) es → m + slots_in es ≡ n → m ≤ wsub ticket r → Waits (wadd r m) ticket es
  can_waits [] m u e a = absurd (omega (arith, inside))
  can_waits (x ∷ es) m u e a = ⊎_elim
      (λ b. inl (here b))
      (λ b. inr (
      let next : wadd (wadd r m) (length x.packet) ≡ wadd r (m + length x.packet) = wadd_wadd r m (length x.packet) in
      rw next (can_waits es (m + length x.packet) (rw next at u.1) (omega (arith, slots_cons x es)) b)))
      (lt_or_ge (wsub ticket r) (m + length x.packet))
    where
      here : wsub ticket r < m + length x.packet → (wadd r m ≡ ticket) × (x.fate ≡ pending)
      here b =
          let is : wadd r m ≡ ticket
          = same_record m (length x.packet) (some_in_use (record_at l (wadd r m)) (omega (arith, u.0.slots, packet_some u.0.packet))) u.0.slots a b in
          (is, still_pending x.fate (rw is at u.0.fate))

pub finishes_done : FinishesDone
unfolding FinishesDone finished
finishes_done table window c s takes z ticket status o leaves = ((done_waits, waits_done), other)
  where
    v : Inv table window c s takes (ledger_of table window z)
    v = inv table window z

    waits_done : Waits s.replied ticket (ledger_of table window z) × (is_status status ≡ true) → o.returned ≡ 0
    waits_done (w, st) =
        (finish_done table window v ticket status o leaves
        (true_and (can_finish s.list ticket) (is_status status) (waits_can s.list ticket (ledger_of table window z) s.replied v.accounts.records w) st)).returns

    done_waits : o.returned ≡ 0 → Waits s.replied ticket (ledger_of table window z) × (is_status status ≡ true)
    done_waits n = ⊎_elim
        (λ h.
        let (a, b) = and_both (can_finish s.list ticket) (is_status status) h in
        let start : wadd s.replied 0 ≡ s.replied = wadd_zero s.replied (omega (arith, v.accounts.counter, wadd_small c (length (join_all v.accounts.gone)))) in
        let w : Waits (wadd s.replied 0) ticket (ledger_of table window z)
        = can_waits s.list s.replied (between s.consumed s.replied) (valid_split s.consumed s.replied s.list v.right).covered ticket a
        (ledger_of table window z) 0 (rw start v.accounts.records) (omega (arith, v.accounts.slots)) (omega arith) in
        (rw start at w, b))
        (λ h. absurd (let e : 15 ≡ 0 = sym (finish_not table window v ticket status o leaves h).returns ∙ n in omega arith))
        (either (can_finish s.list ticket && is_status status))

    other : o.returned ≢ 0 → o.returned ≡ 15
    other n = ⊎_elim
        (λ h. absurd (n (finish_done table window v ticket status o leaves h).returns))
        (λ h. (finish_not table window v ticket status o leaves h).returns)
        (either (can_finish s.list ticket && is_status status))

-- no other records are held than the ledger's
pub no_others : NoOthers
unfolding NoOthers
no_others table window c s takes z = let v = inv table window z in valid_slots s.consumed s.replied s.list v.right ∙ v.accounts.slots

-- at most 256 slots are held or stand to be taken, and the page has its size
pub few_slots : (table window : List ℕ) (c : ℕ) (s : State) (takes : List Take) → Sequence table window c s takes
    → between s.consumed s.replied + posted s.page s.consumed ≤ slot_count
few_slots table window c s takes z = let v = inv table window z in omega (arith, v.stands.few, stands_posted 12 256 turn small v.stands)

pub page_size_lem : (table window : List ℕ) (c : ℕ) (s : State) (takes : List Take) → Sequence table window c s takes → length s.page ≡ 4096
page_size_lem table window c s takes z = (inv table window z).size

-- the run is the packets taken, and behind them what stands to be taken
pub run_waits : (table window : List ℕ) (c : ℕ) (s : State) (takes : List Take) → Sequence table window c s takes
    → s.run ≡ join_all (packets_taken table window takes s.run) ++ waiting_slots s.page s.consumed
unfolding packets_taken waiting_slots
run_waits table window c s takes z =
    let v = inv table window z in
    let d = reads_done Take answer_of (Took table window) Told v.reads in
    let w : transmit_slots s.page s.consumed (posted s.page s.consumed) ≡ v.left = stands_slots 12 256 turn small v.stands in
    v.reads.joined ∙ ap (λ (x : List (List Slot)). join_all x ++ v.left) (sym d) ∙ ap (join_all (packets_taken table window takes s.run) ++◌) (sym w)
