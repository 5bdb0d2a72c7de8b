-- The loop in which packets leave, along the index: its invariant, one turn, and its ends. `at` slots have been replied to; the list and the page are
-- as they are then, and what the definition makes of it all is what it makes of what is left.
use mathlib.Core.Path.{◌≡◌, refl, sym, ap, ◌∙◌}
use mathlib.Core.List.{List}
use mathlib.Core.Bool.{true, false}
use Prim.Native.Nat.{ℕ, ◌+◌, ◌-◌, ◌*◌, ◌%◌, ◌≤◌, ◌<◌}
use native.Mathlib.Omega.{arith}
use lib.ListN.{length, get_or, set, length-set}
use Rattle.words.proofs.Word.{clash}
use Rattle.ring.specs.Ring.{wrap, wadd, wsub}
use Rattle.ring.proofs.Counters.{posted_of, wadd_wadd, wadd_zero, behind_by, moved_on}
use Rattle.held.specs.declared.Held.{Held}
use Rattle.held.specs.Records.{is_status, in_use, free, is_finished, place_at, record_at, freed, slots_held}
use Rattle.held.specs.Valid.{between, is_count}
use Rattle.held.specs.Release.{Released, nothing, firstly, release, settle}
use Rattle.held.proofs.Cover.{EachHeld, each_split, each_set, in_use_some, unused_free, Covers, covers_split, Sound, sound_extras, Found, found_finished, release_few, release_covers}
use Rattle.held.proofs.Leaving.{settle_step, settle_nothing}
use Rattle.held.proofs.Walk.{sound_short, walked_start, covers_next}
use Rattle.inspecting.specs.Inspection.{Stands, Tickets, Indexed}
use Rattle.inspecting.proofs.Indexing.{held_place, tickets_set, stands_freed}
use Rattle.transmit.specs.Take.{replies_to, replies_for}
use Rattle.leaving.specs.Left.{Left}

module _ (n r : ℕ) (l₀ : List Held) (index page₀ : List ℕ) where
  -- the counter of slots consumed
  abbrev c : ℕ
  c = wadd r n

  pub record Goes (at : ℕ) (l : List Held) (page : List ℕ) : Type 0 where
    pub same : length l ≡ length l₀
    pub least : at ≤ n
    pub count : between c (wadd r at) ≡ n - at
    pub long : length l ≤ 256
    pub covered : Covers (n - at) (wadd r at) l
    pub sound : EachHeld Sound l
    pub standing : (o : ℕ) → at ≤ o → o < n → Stands l r (length l) o (get_or index o 0)
    pub tickets : Tickets l
    pub list : (settle c r l₀).list ≡ (settle c (wadd r at) l).list
    pub slots : slots_held (settle c r l₀).gone ≡ at + slots_held (settle c (wadd r at) l).gone
    pub written : replies_for page₀ r (settle c r l₀).gone ≡ replies_for page (wadd r at) (settle c (wadd r at) l).gone

  module _ (i : Indexed n r l₀ index) where
    cover : Covers n r l₀
    cover = covers_split n r l₀ i.covered

    apart : between c r ≡ n
    unfolding between
    apart = posted_of r n (omega (arith, cover.small))

    pub goes_start : r < wrap → Goes 0 l₀ page₀
    goes_start h =
        let z : wadd r 0 ≡ r = wadd_zero r h in
        let m : n - 0 ≡ n = omega arith in
        record {
          same = refl;
          least = omega arith;
          count = rw (z, m) apart;
          long = i.few;
          covered = rw (z, m) cover;
          sound = λ j u. record { counts = each_split (λ x. is_count x.slots x.extras) l₀ i.counts j u; status = each_split (λ x. is_status x.status) l₀ i.statuses j u };
          standing = λ o a b. i.entries o b;
          tickets = i.tickets;
          list = rw z refl;
          slots = rw z (omega arith);
          written = rw z refl;
        }

    settle_is : settle c r l₀ ≡ release n r l₀
    unfolding settle
    settle_is = ap (λ (k : ℕ). release k r l₀) apart

    module _ {at : ℕ} {l : List Held} {page : List ℕ} (w : Goes at l page) where
      few : n ≤ 256
      few = cover.small

      -- the end: all have left, or the oldest waits
      ends : settle c (wadd r at) l ≡ nothing (wadd r at) l → Left (release n r l₀) r page₀ at l page
      ends e =
          let s : Released = release n r l₀ in
          rw (← settle_is)
          (record {
            slots = sym (w.slots ∙ ap (λ (s : Released). at + slots_held s.gone) e ∙ omega arith);
            list = sym (w.list ∙ ap (λ (s : Released). s.list) e);
            page = sym (w.written ∙ ap (λ (s : Released). replies_for page (wadd r at) s.gone) e);
          })

      pub goes_all : n ≤ at → Left (release n r l₀) r page₀ at l page
      unfolding settle
      goes_all h = ends (let z : between c (wadd r at) ≡ 0 = w.count ∙ omega arith in rw z refl)

      module _ (h : at < n) where
        -- the record that the index has there is the oldest
        record Oldest (p : ℕ) : Type 0 where
          entry : get_or index at 0 ≡ (get_or l p free).slots * 256 + p
          inside : p < length l
          used : in_use (get_or l p free) ≡ true
          offset : wsub (get_or l p free).ticket r ≡ at
          found : place_at l (wadd r at) ≡ p

        oldest_of : Stands l r (length l) at (get_or index at 0) → (p : ℕ) × Oldest p
        oldest_of (Stands.entered p k q u z) =
            let here : wsub (get_or l p free).ticket (wadd r at) ≡ 0 = behind_by (get_or l p free).ticket r at (omega arith) ∙ omega arith in
            let found : place_at l (wadd (wadd r at) 0) ≡ p = held_place (n - at) (wadd r at) l w.covered w.tickets 0 (omega arith) p u here in
            (p, record { entry = q; inside = k; used = u; offset = z; found = ap (place_at l) (sym (wadd_wadd r at 0 ∙ ap (wadd r) (omega arith))) ∙ found })
        oldest_of (Stands.empty q g) =
            let (j, k, u, z) = covers_next (walked_start l (wadd r at)) (n - at) w.covered (omega arith) in
            absurd (g j k u (moved_on r at (get_or l j free).ticket (omega (arith, few)) ∙ omega arith))

        -- the place p that the index has there
        module _ (p : ℕ) (e : p ≡ get_or index at 0 % 256) where
          oldest : Oldest p
          oldest = go (oldest_of (w.standing at (omega arith) h))
            where
              go : (q : ℕ) × Oldest q → Oldest p
              go (q, x) = let z : q ≡ p = omega (arith, x.entry, x.inside, w.long) in rw z at x

          pub goes_inside : p < length l
          goes_inside = oldest.inside

          -- the record x there
          module _ (x : Held) (here : x ≡ get_or l p free) where
            is : record_at l (wadd r at) ≡ x
            unfolding record_at
            is = ap (λ (k : ℕ). get_or l k free) oldest.found ∙ sym here

            counts : Sound x
            counts = rw here (w.sound p oldest.used)

            pub goes_counts : (x.slots ≤ 256) × (x.extras < x.slots)
            goes_counts = (rw here (sound_short l w.sound p oldest.used), sound_extras x counts)

            pub goes_waits : is_finished x ≡ false → Left (release n r l₀) r page₀ at l page
            goes_waits f = ends (settle_nothing c (wadd r at) l (rw is f))

            module _ (f : is_finished x ≡ true) where
              fin : is_finished (record_at l (wadd r at)) ≡ true
              fin = rw is f

              found : Found l (wadd r at)
              found = found_finished l (wadd r at) fin

              freed_is : freed l (wadd r at) ≡ set l p free
              unfolding freed
              freed_is = ap (λ (q : ℕ). set l q free) oldest.found

              next : wadd (wadd r at) x.slots ≡ wadd r (at + x.slots)
              next = wadd_wadd r at x.slots

              -- it is the next that leaves
              first : settle c (wadd r at) l ≡ firstly x (settle c (wadd r (at + x.slots)) (set l p free))
              first = settle_step c (wadd r at) l (rw w.count w.covered) w.sound fin ∙ rw (is, freed_is, next) refl

              fits : x.slots ≤ n - at
              fits = omega (arith, release_few (n - at) (wadd r at) l w.covered found, ap (λ (y : Held). y.slots) is)

              pub goes_some : 0 < x.slots
              goes_some = rw here (in_use_some (get_or l p free) oldest.used)

              pub goes_within : at + x.slots ≤ n
              goes_within = omega (arith, fits)

              pub goes_step : Goes (at + x.slots) (set l p free) (replies_to page (wadd r at) x.slots x.extras x.status)
              unfolding between
              goes_step =
                  let some = goes_some in
                  let rest : n - at - x.slots ≡ n - (at + x.slots) = omega arith in
                  let eq : (record_at l (wadd r at)).slots ≡ x.slots = ap (λ (y : Held). y.slots) is in
                  record {
                    same = length-set l p free ∙ w.same;
                    least = goes_within;
                    count = rw (← next) (behind_by c (wadd r at) x.slots (omega (arith, w.count, fits)) ∙ omega (arith, w.count));
                    long = omega (arith, length-set l p free, w.long);
                    covered = rw (eq, freed_is, next, rest) at (release_covers (n - at) (wadd r at) l w.covered found);
                    sound = each_set Sound l p free oldest.inside w.sound (λ u. absurd (clash u unused_free));
                    standing = λ o a b. rw (length-set l p free) (stands_freed l r (length l) o (get_or index o 0) p oldest.inside (λ z. omega (arith, oldest.offset)) (w.standing o (omega arith) b));
                    tickets = tickets_set l p free oldest.inside (omega arith) w.tickets;
                    list = w.list ∙ ap (λ (s : Released). s.list) first;
                    slots = w.slots ∙ ap (λ (s : Released). at + slots_held s.gone) first ∙ omega arith;
                    written = w.written
                        ∙ ap (λ (s : Released). replies_for page (wadd r at) s.gone) first
                        ∙ ap (λ (k : ℕ). replies_for (replies_to page (wadd r at) x.slots x.extras x.status) k (settle c (wadd r (at + x.slots)) (set l p free)).gone) next;
                  }
