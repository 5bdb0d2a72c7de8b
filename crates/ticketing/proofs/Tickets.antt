-- A ticket by the index: the place that the index has at its offset is that of its record, or it is not held.
use Rattle.std.proofs.Common.{◌≡◌, ℕ, ◌%◌, ◌<◌, ◌≤◌, Bool, true, false, not, eqb, ◌≢◌, List, Option, Some, None, length, get_or, set, sym, refl, ap, ◌∙◌, subst, ⊎_elim, arith, eq-eqb, ne_eqb, le-leb}
use borrow.Author.Tests.{lt-leb}
use Rattle.std.specs.Option.{unwrap_or}
use Rattle.words.proofs.Word.{lt_or_ge}
use Rattle.ring.specs.Ring.{wrap, wadd, wsub}
use Rattle.ring.proofs.Counters.{on_counter}
use Rattle.held.specs.declared.Held.{Held}
use Rattle.held.specs.Records.{is_status, in_use, free, is_finished, place_at, record_at, ended, finish, can_finish}
use Rattle.held.specs.Valid.{is_count}
use Rattle.held.proofs.Cover.{EachHeld, each_split, each_join, in_use_some, unused_free, Covers, covers_split, covers_join, Sound, Found, found_used, found_or_free, finish_covers, finish_sound, finish_length}
use Rattle.inspecting.specs.Inspection.{Stands, Tickets, Indexed}
use Rattle.inspecting.proofs.Indexing.{inside_of, held_place, tickets_set, stands_changed}
use Rattle.records.specs.Finished.{finished_as}
use Rattle.ticketing.specs.Place.{place_in}

-- ---- the ways out of a search

module _ (index : List ℕ) (o n : ℕ) where
  pub find_beyond : n ≤ o → ◌≡◌ {A = Option ℕ} None (place_in index o n)
  unfolding place_in
  find_beyond h = rw (le-leb n o h) refl

  module _ (h : o < n) where
    pub find_none : (get_or index o 0 ≡ 0) → ◌≡◌ {A = Option ℕ} None (place_in index o n)
    unfolding place_in
    find_none e = rw (lt-leb n o h, eq-eqb (get_or index o 0) 0 e) refl

    pub find_some : (get_or index o 0 ≡ 0 → ⊥) → ◌≡◌ {A = Option ℕ} (Some (get_or index o 0 % 256)) (place_in index o n)
    unfolding place_in
    find_some e = rw (lt-leb n o h, ne_eqb (get_or index o 0) 0 e) refl

-- ---- what it finds

-- a ticket at whose offset no record is held is not held
module _ (l : List Held) (r t : ℕ) (g : (j : ℕ) → in_use (get_or l j free) ≡ true → wsub (get_or l j free).ticket r ≢ wsub t r) where
  none_there : record_at l t ≡ free
  unfolding record_at
  none_there = ⊎_elim (λ f. absurd (g (place_at l t) f.holds (ap (λ (x : ℕ). wsub x r) f.ticket))) (λ e. e) (found_or_free l t)

  not_held : can_finish l t ≡ false
  unfolding can_finish
  not_held = rw (none_there, unused_free)

module _ (n r : ℕ) (l : List Held) (index : List ℕ) (i : Indexed n r l index) (t : ℕ) (word : t < wrap) where
  -- the ticket's offset
  abbrev o : ℕ
  o = wsub t r

  covered : Covers n r l
  covered = covers_split n r l i.covered

  sound : EachHeld Sound l
  sound j u = record { counts = each_split (λ x. is_count x.slots x.extras) l i.counts j u; status = each_split (λ x. is_status x.status) l i.statuses j u }

  inside_n : (j : ℕ) → in_use (get_or l j free) ≡ true → wsub (get_or l j free).ticket r < n
  inside_n j u = omega (arith, covered.each j u, in_use_some (get_or l j free) u)

  -- the index has no place at the ticket's offset
  pub ticket_none : None ≡ place_in index o n → can_finish l t ≡ false
  unfolding place_in
  ticket_none e = ⊎_elim
      (λ k. go k (i.entries o k))
      (λ k. not_held l r t (λ j u z. omega (arith, inside_n j u)))
      (lt_or_ge o n)
    where
      go : o < n → Stands l r (length l) o (get_or index o 0) → can_finish l t ≡ false
      go k (Stands.empty q g) = not_held l r t (λ j u z. g j (inside_of l j u) u z)
      go k (Stands.entered q a b u z) =
          let some = in_use_some (get_or l q free) u in
          let y : None ≡ Some (get_or index o 0 % 256) = e ∙ rw (lt-leb n o k, ne_eqb (get_or index o 0) 0 (λ v. omega arith)) refl in
          absurd cc

  -- the place that the index has there
  module _ (p : ℕ) (e : Some p ≡ place_in index o n) where
    record There : Type 0 where
      inside : p < length l
      used : in_use (get_or l p free) ≡ true
      place : place_at l t ≡ p

    there : There
    unfolding place_in
    there = ⊎_elim
        (λ k. go k (i.entries o k))
        (λ k. (let y : Some p ≡ None = e ∙ rw (le-leb n o k) refl in absurd cc))
        (lt_or_ge o n)
      where
        go : o < n → Stands l r (length l) o (get_or index o 0) → There
        go k (Stands.empty q g) = let y : Some p ≡ None = e ∙ rw (lt-leb n o k, eq-eqb (get_or index o 0) 0 q) refl in absurd cc
        go k (Stands.entered q a b u z) =
            let some = in_use_some (get_or l q free) u in
            let y : Some p ≡ Some (get_or index o 0 % 256) = e ∙ rw (lt-leb n o k, ne_eqb (get_or index o 0) 0 (λ v. omega arith)) refl in
            let w : p ≡ get_or index o 0 % 256 = ap (λ (m : Option ℕ). unwrap_or m 0) y in
            let x : q ≡ p = omega (arith, i.few) in
            let f : place_at l (wadd r o) ≡ q = held_place n r l covered i.tickets o k q u z in
            record {
              inside = omega arith;
              used = rw x at u;
              place = ap (place_at l) (on_counter t r word) ∙ f ∙ x;
            }

    pub ticket_inside : p < length l
    ticket_inside = there.inside

    record_is : record_at l t ≡ get_or l p free
    unfolding record_at
    record_is = ap (λ (k : ℕ). get_or l k free) there.place

    -- it can be finished exactly if it is not finished
    pub ticket_can : eqb (get_or l p free).finished 0 ≡ can_finish l t
    unfolding can_finish is_finished
    ticket_can = sym (rw (record_is, there.used) (twice_not (eqb (get_or l p free).finished 0)))
      where
        twice_not : (b : Bool) → not (not b) ≡ b
        twice_not true = refl
        twice_not false = refl

    held : Found l t
    held = found_used l t (ap in_use record_is ∙ there.used)

    pub ticket_finish : (status : ℕ) → set l p (finished_as status (get_or l p free)) ≡ finish l t status
    unfolding finish
    ticket_finish status =
        sym (ap (λ (k : ℕ). set l k (ended t (record_at l t).slots (record_at l t).extras status)) there.place
        ∙ ap (λ (y : Held). set l p y) (ap (λ (q : ℕ). ended q (record_at l t).slots (record_at l t).extras status) (sym held.ticket) ∙ ap (λ (y : Held). finished_as status y) record_is))

    -- and the index stays right
    pub ticket_indexed : (status : ℕ) → is_status status ≡ true → Indexed n r (finish l t status) index
    unfolding Tickets
    ticket_indexed status ok =
        let x : Held = finished_as status (get_or l p free) in
        let keeps = finish_sound n r l covered t held status sound ok in
        record {
          few = omega (arith, finish_length l t status, i.few);
          covered = covers_join n r (finish l t status) (finish_covers n r l covered t held status);
          counts = each_join (λ x. is_count x.slots x.extras) (finish l t status) (λ j u. (keeps j u).counts);
          statuses = each_join (λ x. is_status x.status) (finish l t status) (λ j u. (keeps j u).status);
          entries = λ q b. rw (finish_length l t status, ← ticket_finish status) (stands_changed l r (length l) q (get_or index q 0) p (finished_as status (get_or l p free)) there.inside refl refl (i.entries q b));
          tickets = subst Tickets (ticket_finish status) (tickets_set l p (finished_as status (get_or l p free)) there.inside (i.tickets p) i.tickets);
        }
