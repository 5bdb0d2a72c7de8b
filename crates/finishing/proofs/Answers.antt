-- What each way out of a finish comes to, by the definition.
use mathlib.Core.Path.{◌≡◌, refl, sym, ap, ◌∙◌}
use mathlib.Core.Logic.{⊎_elim}
use mathlib.Core.List.{List, [], ◌∷◌}
use Rattle.std.proofs.Common.{Option, Some, None, Result, Ok, Err}
use Rattle.std.specs.Option.{ok_or}
use mathlib.Core.Bool.{Bool, true, false, cond, ◌&&◌}
use Prim.Native.Nat.{ℕ, ◌<◌}
use native.Mathlib.Omega.{arith}
use lib.ListN.{length, get_or, set}
use lib.Dec.{eqb}
use borrow.Author.Tests.{eq-eqb, ne_eqb}
use Rattle.words.proofs.Word.{and_both}
use Rattle.ring.specs.Ring.{wrap, wadd, wsub, with_producer, notify, ProducerMoved}
use Rattle.answer.specs.Report.{plain}
use Rattle.ring.specs.declared.Side.TheVariants.{Replies}
use Rattle.ring.proofs.Counters.{wadd_zero}
use Rattle.ring.proofs.Facts.{notify_none}
use Rattle.ring.proofs.Replied.{notify_replied}
use Rattle.netif.specs.Slot.{transmit_slots}
use Rattle.packet.specs.Judge.{replies_of}
use Rattle.held.specs.declared.Held.{Held}
use Rattle.held.specs.Records.{is_status, free, slots_held, finish, can_finish}
use Rattle.held.specs.Valid.{between, is_count, valid}
use Rattle.held.specs.Release.{Released, release, settle}
use Rattle.held.proofs.Cover.{in_use_some, covers_split, each_split}
use Rattle.held.proofs.Leaving.{Leaves, Kept, settle_keeps}
use Rattle.inspecting.specs.Inspection.{Indexed}
use Rattle.records.specs.Finished.{finished_as}
use Rattle.transmit.specs.Take.{replies_to, replies_for, replied_page}
use Rattle.transmit.specs.Finish.{unfinished, finished, finished_report, transmit_finish}
use Rattle.transmit.proofs.Cases.{replies_short, to_length}
use Rattle.leaving.specs.Left.{Left}
use Rattle.finishing.specs.declared.Sent.{Sent}
use Rattle.finishing.specs.declared.Refusal.{Refusal}
use Rattle.finishing.specs.declared.Refusal.TheVariants.{BadPage, BadRecords, BadTicket}
use Rattle.finishing.specs.Finished.{FinishGives, finish_held, Published, report_of, replied_after}
use Rattle.ticketing.specs.Place.{place_in}
use Rattle.ticketing.proofs.Tickets.{ticket_none, ticket_inside, ticket_can, ticket_finish, ticket_indexed}

-- ---- the refusal that an `ok_or` makes of a missing value

error_of : {T : Type 0} → Refusal → Result T Refusal → Refusal
error_of d (Ok x) = d
error_of d (Err e) = e

pub refusal_is : {T : Type 0} (e b : Refusal) (o : Option T) → o ≡ None → ◌≡◌ {A = Result T Refusal} (Err e) (ok_or o b) → e ≡ b
unfolding error_of
refusal_is {T} e b o n h = ap (error_of b) (h ∙ ap (λ (x : Option T). ok_or x b) n)

-- ---- replies leave the guest's wish for an event

notify_one : (page : List ℕ) → length page ≡ 4096 → (c slots e status old new : ℕ) → notify Replies (replies_to page c slots e status) old new ≡ notify Replies page old new
unfolding replies_to
notify_one page size c slots e status old new =
    notify_replied 12 256 (omega arith) page (omega arith) c (replies_of e (transmit_slots page c slots) status) (replies_short e (transmit_slots page c slots) status) Replies old new

notify_for : (gone : List Held) (page : List ℕ) → length page ≡ 4096 → (c old new : ℕ) → notify Replies (replies_for page c gone) old new ≡ notify Replies page old new
notify_for [] page size c old new = refl
notify_for (x ∷ gone) page size c old new =
    notify_for gone (replies_to page c x.slots x.extras x.status) (to_length page size c x.slots x.extras x.status) (wadd c x.slots) old new
    ∙ notify_one page size c x.slots x.extras x.status old new

-- ---- the ways out of a publication

module _ (page : List ℕ) (replied slots : ℕ) where
  pub published_none : replied < wrap → slots ≡ 0 → Published page replied slots (record { slots = slots; notify = false }) page
  published_none small e =
      let same : wadd replied slots ≡ replied = ap (wadd replied) e ∙ wadd_zero replied small in
      record {
        answer = ap (λ (b : Bool). record { slots = slots; notify = b }) (sym (ap (notify Replies page replied) same ∙ notify_none Replies page replied));
        moved = rw (eq-eqb slots 0 e) refl;
      }

  pub published_some : (slots ≡ 0 → ⊥) → (new : ℕ) → new ≡ wadd replied slots → (notified : Bool) (after : List ℕ) → ProducerMoved Replies page replied new after notified
      → Published page replied slots (record { slots = slots; notify = notified }) after
  published_some h new e notified after m = record {
    answer = ap (λ (b : Bool). record { slots = slots; notify = b }) (m.notifies ∙ ap (notify Replies page replied) e);
    moved = rw (ne_eqb slots 0 h) (m.page ∙ ap (with_producer Replies page) e);
  }

-- ---- packets have left

-- rsp_prod is moved exactly if some did
published_page : (gone : List Held) (c : ℕ) → Leaves c gone → (page : List ℕ) (replied : ℕ)
    → cond (eqb (slots_held gone) 0) (replies_for page c gone) (with_producer Replies (replies_for page c gone) replied) ≡ replied_page page c gone replied
published_page [] c g page replied = refl
published_page (x ∷ gone) c g page replied =
    let some = in_use_some x g.1 in
    rw (ne_eqb (slots_held (x ∷ gone)) 0 (λ z. omega arith)) refl

module _ (c r : ℕ) (l : List Held) (page : List ℕ) (size : length page ≡ 4096) (small : r < wrap) (n : ℕ) (apart : n ≡ between c r) (index : List ℕ) (i : Indexed n r l index) where
  kept : Kept c r l (settle c r l)
  kept = settle_keeps c r l (rw apart at (covers_split n r l i.covered))
      (λ j u. record { counts = each_split (λ x. is_count x.slots x.extras) l i.counts j u; status = each_split (λ x. is_status x.status) l i.statuses j u })

  replied_is : (settle c r l).replied ≡ wadd r (slots_held (settle c r l).gone)
  replied_is = ⊎_elim (λ g. g.1 ∙ sym (wadd_zero r small) ∙ ap (wadd r) (ap slots_held (sym g.0))) (λ g. g) kept.counter

  finished_is : (k : ℕ) (m : List Held) (written : List ℕ) (z : Sent) (after : List ℕ) → Left (release n r l) r page k m written → Published written r k z after
      → FinishGives (finished c r page l) r (Ok z) after m
  unfolding finished settle
  finished_is k m written z after left p =
      let s : Released = settle c r l in
      let e : release n r l ≡ settle c r l = ap (λ (j : ℕ). release j r l) apart in
      let slots : k ≡ slots_held (settle c r l).gone = left.slots ∙ ap (λ (x : Released). slots_held x.gone) e in
      let pages : written ≡ replies_for page r (settle c r l).gone = left.page ∙ ap (λ (x : Released). replies_for page r x.gone) e in
      let counter : wadd r k ≡ (settle c r l).replied = ap (wadd r) slots ∙ sym replied_is in
      let notified : notify Replies written r (wadd r k) ≡ notify Replies page r (settle c r l).replied
      = (λ j. notify Replies (pages j) r (counter j)) ∙ notify_for (settle c r l).gone page size r r (settle c r l).replied in
      record {
        report = ap (λ (y : Sent). report_of (Ok y)) p.answer ∙ (λ j. finished_report (slots j) (notified j));
        replied = ap (λ (y : Sent). replied_after r (Ok y)) p.answer ∙ counter;
        page = p.moved ∙ (λ j. cond (eqb (slots j) 0) (pages j) (with_producer Replies (pages j) (counter j))) ∙ published_page (settle c r l).gone r kept.gone page (settle c r l).replied;
        list = left.list ∙ ap (λ (x : Released). x.list) e;
      }

-- ---- the ways out

module _ (l : List Held) (c r : ℕ) (page : List ℕ) (t status : ℕ) where
  unchanged : (n : ℕ) (e : Refusal) → report_of (Err e) ≡ plain n → FinishGives (unfinished n r page l) r (Err e) page l
  unchanged n e p = record { report = p; replied = refl; page = refl; list = refl }

  pub finish_page : (length page ≡ 4096 → ⊥) → FinishGives (transmit_finish c r page l t status) r (Err BadPage) page l
  unfolding transmit_finish
  finish_page h = rw (ne_eqb (length page) 4096 h) (unchanged 1 BadPage refl)

  module _ (size : length page ≡ 4096) where
    pub finish_records : valid c r l ≡ false → FinishGives (transmit_finish c r page l t status) r (Err BadRecords) page l
    unfolding transmit_finish
    finish_records h = rw (eq-eqb (length page) 4096 size, h) (unchanged 17 BadRecords refl)

    pub finish_valid : valid c r l ≡ true → (a : Result Sent Refusal) (after : List ℕ) (m : List Held) → FinishGives (finish_held c r page l t status) r a after m
        → FinishGives (transmit_finish c r page l t status) r a after m
    unfolding transmit_finish
    finish_valid h a after m g = rw (eq-eqb (length page) 4096 size, h) g

    module _ (n : ℕ) (apart : n ≡ between c r) (index : List ℕ) (i : Indexed n r l index) (word : t < wrap) where
      refused : (can_finish l t && is_status status) ≡ false → FinishGives (finish_held c r page l t status) r (Err BadTicket) page l
      refused e = rw e (unchanged 15 BadTicket refl)

      pub finish_unheld : None ≡ place_in index (wsub t r) n → FinishGives (finish_held c r page l t status) r (Err BadTicket) page l
      finish_unheld e = refused (rw (ticket_none n r l index i t word e) refl)

      module _ (p : ℕ) (place : Some p ≡ place_in index (wsub t r) n) where
        pub finish_inside : p < length l
        finish_inside = ticket_inside n r l index i t word p place

        module _ (b : Bool) (may : b ≡ (eqb (get_or l p free).finished 0 && is_status status)) where
          test : b ≡ (can_finish l t && is_status status)
          test = may ∙ ap (λ (z : Bool). z && is_status status) (ticket_can n r l index i t word p place)

          pub finish_refused : b ≡ false → FinishGives (finish_held c r page l t status) r (Err BadTicket) page l
          finish_refused z = refused (sym test ∙ z)

          module _ (z : b ≡ true) (m : List Held) (e : m ≡ set l p (finished_as status (get_or l p free))) where
            both : (can_finish l t ≡ true) × (is_status status ≡ true)
            both = and_both (can_finish l t) (is_status status) (sym test ∙ z)

            finish_is : m ≡ finish l t status
            finish_is = e ∙ ticket_finish n r l index i t word p place status

            pub finish_indexed : Indexed n r m index
            finish_indexed = rw finish_is (ticket_indexed n r l index i t word p place status both.1)

            pub finish_done : r < wrap → (q : ℕ) (last : List Held) (written : List ℕ) (s : Sent) (after : List ℕ) → Left (release n r m) r page q last written
                → Published written r q s after → FinishGives (finish_held c r page l t status) r (Ok s) after last
            finish_done small q last written s after left published =
                rw (both.0, both.1, ← finish_is) (finished_is c r m page size small n apart index finish_indexed q last written s after left published)
