-- The record of a ticket: what adding, finishing and freeing leave of the others. So a record keeps its counts from its taking on, and its
-- status from its finishing on, until it leaves.
use mathlib.Core.Path.{◌≡◌, refl, sym, ap, ◌∙◌}
use mathlib.Core.Logic.{◌≢◌, ⊎_elim}
use mathlib.Core.List.{List}
use mathlib.Core.Bool.{Bool, true, false, ◌&&◌}
use Prim.Native.Nat.{ℕ, ◌<◌}
use native.Mathlib.Omega.{arith}
use lib.ListN.{get_or}
use lib.Dec.{eqb}
use borrow.Author.Tests.{ne_eqb, eq-eqb}
use Rattle.words.proofs.Word.{either}
use Rattle.words.proofs.Lists.{found_same, found_new, found_kept}
use Rattle.ring.specs.Ring.{wadd, wsub}
use Rattle.ring.proofs.Counters.{posted_of}
use Rattle.held.specs.declared.Held.{Held}
use Rattle.held.specs.Records.{in_use, free, full, place_at, record_at, first_free, added, ended, finish, freed}
use Rattle.held.proofs.Cover.{in_use_some, some_in_use, unused_free, Covers, Found, free_place}

-- ---- tests of a ticket

other_ticket : (x : Held) (t : ℕ) → x.ticket ≢ t → in_use x && eqb x.ticket t ≡ false
other_ticket x t h = rw (ne_eqb x.ticket t h) (and_no (in_use x))
  where
    and_no : (b : Bool) → b && false ≡ false
    and_no true = refl
    and_no false = refl

not_used : (x : Held) (t : ℕ) → in_use x ≡ false → in_use x && eqb x.ticket t ≡ false
not_used x t h = rw h

-- slots within one turn have different counters
pub counters_apart : (r i j : ℕ) → i < 512 → j < 512 → i ≢ j → wadd r i ≢ wadd r j
counters_apart r i j h k n e = n (sym (posted_of r i (omega arith)) ∙ ap (λ (x : ℕ). wsub x r) e ∙ posted_of r j (omega arith))

-- ---- one added

pub added_other : (l : List Held) (x : Held) (t : ℕ) → full l ≡ false → x.ticket ≢ t → record_at (added l x) t ≡ record_at l t
unfolding record_at place_at added
added_other l x t room h = found_same (λ y. in_use y && eqb y.ticket t) free l (first_free l) x (not_used (get_or l (first_free l) free) t (free_place l room).1) (other_ticket x t h)

pub added_here : (n r : ℕ) (l : List Held) → Covers n r l → full l ≡ false → (x : Held) → x.ticket ≡ wadd r n → in_use x ≡ true → record_at (added l x) (wadd r n) ≡ x
unfolding record_at place_at added
added_here n r l v room x ticket u = found_new (λ y. in_use y && eqb y.ticket (wadd r n)) free l (first_free l) x (free_place l room).0 no_other (rw (u, eq-eqb x.ticket (wadd r n) ticket))
  where
    past : (j : ℕ) → in_use (get_or l j free) ≡ true → (get_or l j free).ticket ≡ wadd r n → ⊥
    past j w e = omega (arith, v.each j w, ap (λ (t : ℕ). wsub t r) e, posted_of r n (omega (arith, v.small)), in_use_some (get_or l j free) w)

    no_other : (j : ℕ) → in_use (get_or l j free) && eqb (get_or l j free).ticket (wadd r n) ≡ false
    no_other j = ⊎_elim (λ w. other_ticket (get_or l j free) (wadd r n) (λ e. past j w e)) (λ w. not_used (get_or l j free) (wadd r n) w) (either (in_use (get_or l j free)))

-- ---- one finished

pub finish_here : (l : List Held) (t status : ℕ) → Found l t → record_at (finish l t status) t ≡ ended t (record_at l t).slots (record_at l t).extras status
unfolding record_at place_at finish
finish_here l t status f = found_kept (λ y. in_use y && eqb y.ticket t) free l (ended t (record_at l t).slots (record_at l t).extras status) f.inside
    (rw (some_in_use (ended t (record_at l t).slots (record_at l t).extras status) (in_use_some (record_at l t) f.holds), eq-eqb t t refl))

pub finish_other : (l : List Held) (t status : ℕ) → Found l t → (c : ℕ) → c ≢ t → record_at (finish l t status) c ≡ record_at l c
unfolding record_at place_at finish
finish_other l t status f c h = found_same (λ y. in_use y && eqb y.ticket c) free l (place_at l t) (ended t (record_at l t).slots (record_at l t).extras status)
    (other_ticket (record_at l t) c (λ z. h (sym z ∙ f.ticket)))
    (other_ticket (ended t (record_at l t).slots (record_at l t).extras status) c (λ z. h (sym z)))

-- ---- one freed

pub freed_other : (l : List Held) (t : ℕ) → Found l t → (c : ℕ) → c ≢ t → record_at (freed l t) c ≡ record_at l c
unfolding record_at place_at freed
freed_other l t f c h = found_same (λ y. in_use y && eqb y.ticket c) free l (place_at l t) free
    (other_ticket (record_at l t) c (λ z. h (sym z ∙ f.ticket)))
    (not_used free c unused_free)
