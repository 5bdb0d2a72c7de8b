-- A packet that is finished when it is taken: with nothing held it leaves at once, and else it waits behind the oldest. Two cases, no loop.
use mathlib.Core.Path.{◌≡◌, refl, sym, ap, ◌∙◌}
use mathlib.Core.Logic.{◌≢◌, ⊎_elim}
use mathlib.Core.List.{List}
use mathlib.Core.Bool.{true, false, ◌&&◌}
use Prim.Native.Nat.{ℕ, zero, suc, ◌<◌}
use native.Mathlib.Omega.{arith}
use lib.ListN.{get_or, set, length-set}
use lib.Seq.{set-set, get_or-set_same, get_or-set_other}
use lib.Dec.{eqb}
use borrow.Author.Tests.{eq-eqb}
use Rattle.words.proofs.Word.{same_or_not, and_both, either, clash}
use Rattle.words.proofs.Lists.{place_only}
use Rattle.ring.specs.Ring.{wrap, wadd, wsub}
use Rattle.ring.proofs.Counters.{posted_of, wadd_zero}
use Rattle.held.specs.declared.Held.{Held}
use Rattle.held.specs.Records.{in_use, free, is_finished, full, place_at, record_at, first_free, added, ended, freed}
use Rattle.held.specs.Valid.{between, valid}
use Rattle.held.specs.Release.{nothing, firstly, release, settle}
use Rattle.held.proofs.Cover.{in_use_some, some_in_use, unused_free, free_waits, ended_finished, free_place, valid_split, found_or_free}
use Rattle.held.proofs.Leaving.{settle_nothing}
use Rattle.held.proofs.Tickets.{added_other, added_here}

module _ (c r : ℕ) (l : List Held) (v : valid c r l ≡ true) (room : full l ≡ false) (small : c < wrap) (n e status : ℕ) (some : 0 < n) where
  abbrev x : Held
  x = ended c n e status

  -- slots are held: the oldest waits, and nothing leaves
  pub spoiled_behind : between c r ≢ 0 → settle (wadd c n) r (added l (ended c n e status)) ≡ nothing r (added l (ended c n e status))
  unfolding between wsub
  spoiled_behind h =
      settle_nothing (wadd c n) r (added l x)
      (ap is_finished (added_other l x r room (λ z. h (rw z (omega arith)))) ∙ (valid_split c r l v).waits)

  module _ (none : between c r ≡ 0) (start : r < wrap) (few : n < wrap) where
    -- nothing is held, so no record is in use
    unused : (j : ℕ) → in_use (get_or l j free) ≡ false
    unused j = ⊎_elim (λ u. absurd (omega (arith, (valid_split c r l v).covered.each j u, in_use_some (get_or l j free) u))) (λ u. u) (either (in_use (get_or l j free)))

    same_counter : c ≡ r
    unfolding between wsub
    same_counter = omega (arith, none)

    at_start : record_at (added l x) r ≡ x
    unfolding between
    at_start =
        ap (record_at (added l x)) (sym (wadd_zero r start))
        ∙ added_here 0 r l (rw none at (valid_split c r l v).covered) room x (same_counter ∙ sym (wadd_zero r start)) (some_in_use x some)

    place_is : place_at (added l x) r ≡ first_free l
    unfolding place_at added
    place_is =
        let (a, b) = free_place l room in
        let here : get_or (set l (first_free l) x) (first_free l) free ≡ x = get_or-set_same l (first_free l) x free a in
        place_only (λ y. in_use y && eqb y.ticket r) free (set l (first_free l) x) (first_free l) (omega (arith, length-set l (first_free l) x))
        (rw (here, some_in_use x some, eq-eqb c r same_counter))
        (λ j k t. ⊎_elim
        (λ z. z)
        (λ z. absurd (clash (and_both (in_use (get_or (set l (first_free l) x) j free)) _ t).0 (ap in_use (get_or-set_other l (first_free l) j x free z) ∙ unused j)))
        (same_or_not j (first_free l)))

    rest_is : freed (added l x) r ≡ set l (first_free l) free
    unfolding freed added
    rest_is = rw place_is (set-set l (first_free l) x free)

    none_waits : (t : ℕ) → is_finished (record_at (set l (first_free l) free) t) ≡ false
    unfolding record_at
    none_waits t = ⊎_elim (λ f. absurd (clash f.holds (still (place_at (set l (first_free l) free) t)))) (λ z. ap is_finished z ∙ free_waits) (found_or_free (set l (first_free l) free) t)
      where
        still : (j : ℕ) → in_use (get_or (set l (first_free l) free) j free) ≡ false
        still j = ⊎_elim
            (λ z. ap (λ (i : ℕ). in_use (get_or (set l (first_free l) free) i free)) z ∙ ap in_use (get_or-set_same l (first_free l) free free (free_place l room).0) ∙ unused_free)
            (λ z. ap in_use (get_or-set_other l (first_free l) j free free z) ∙ unused j)
            (same_or_not j (first_free l))

    -- nothing is held: it leaves, and the first free record is zeroed
    pub spoiled_alone : settle (wadd c n) r (added l (ended c n e status)) ≡ firstly (ended c n e status) (nothing (wadd r n) (set l (first_free l) free))
    unfolding settle between
    spoiled_alone =
        let count : wsub (wadd c n) r ≡ n = ap (λ (k : ℕ). wsub (wadd c n) k) (sym same_counter) ∙ posted_of c n few in
        rw count (go n some)
      where
        steps : (k : ℕ) → release k (wadd r n) (set l (first_free l) free) ≡ nothing (wadd r n) (set l (first_free l) free)
        steps zero = refl
        steps (suc k) = rw (none_waits (wadd r n))

        go : (k : ℕ) → 0 < k → release k r (added l x) ≡ firstly x (nothing (wadd r n) (set l (first_free l) free))
        go zero h = absurd (omega arith)
        go (suc k) h = rw (at_start, ended_finished c n e status, rest_is, steps k)
