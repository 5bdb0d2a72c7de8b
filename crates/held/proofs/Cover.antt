-- The held records cover the slots between the two counters, each exactly once; adding, finishing and freeing keep that.
-- Everything goes by `owners_set`: a changed record changes the number of a slot's owners by the difference.
use mathlib.Core.Path.{◌≡◌, refl, sym, ap, ◌∙◌}
use mathlib.Core.Logic.{◌≢◌, ◌⊎◌, inl, inr, ⊎_elim}
use mathlib.Core.List.{List}
use mathlib.Core.Bool.{Bool, true, false, not, ◌&&◌, ◌||◌}
use Prim.Native.Nat.{ℕ, zero, suc, ◌+◌, ◌-◌, ◌≤◌, ◌<◌}
use native.Mathlib.Omega.{arith}
use lib.ListN.{length, get_or, set, length-set, get_or-eq_default}
use lib.Seq.{get_or-set_same, get_or-set_other}
use lib.Dec.{ltb, leb, eqb}
use borrow.Author.Tests.{ltb-true, leb-true, leb-false, eqb-true, lt-ltb, le-ltb, le-leb, eq-eqb, ne_eqb, not-true, not-false}
use Rattle.words.proofs.Word.{same_or_not, lt_or_ge, and_both, true_and, either, clash, implied, implies}
use Rattle.words.proofs.Lists.{below_at, below_by, all_at, all_by, sum_set, sum_none, none_sum, place_passes, all_place}
use Rattle.ring.specs.Ring.{wadd, wsub}
use Rattle.ring.proofs.Counters.{not_moved, wadd_wadd, behind_by, from_ticket, before_ticket}
use Rattle.answer.specs.Report.{flag}
use Rattle.held.specs.declared.Held.{Held}
use Rattle.held.specs.Records.{is_status, in_use, free, is_finished, full, all_free, slots_held, place_at, record_at, first_free, added, ended, finish, freed}
use Rattle.held.specs.Valid.{between, each_held, owns, owners, covers, is_count, oldest_waits, valid}

-- ---- records in use

pub in_use_some : (x : Held) → in_use x ≡ true → 0 < x.slots
unfolding in_use
in_use_some x h = ⊎_elim (λ e. absurd (clash (eq-eqb x.slots 0 e) (not-true _ h))) (λ e. omega (arith, positive x.slots e)) (same_or_not x.slots 0)
  where
    positive : (n : ℕ) → n ≢ 0 → 0 < n
    positive zero e = absurd (e refl)
    positive (suc n) e = omega arith

pub some_in_use : (x : Held) → 0 < x.slots → in_use x ≡ true
unfolding in_use
some_in_use x h = rw (ne_eqb x.slots 0 (λ e. omega arith))

pub unused_none : (x : Held) → in_use x ≡ false → x.slots ≡ 0
unfolding in_use
unused_none x h = eqb-true x.slots 0 (not-false _ h)

pub unused_free : in_use free ≡ false
unfolding in_use
unused_free = refl

pub free_waits : is_finished free ≡ false
unfolding is_finished
free_waits = refl

pub ended_finished : (t n e status : ℕ) → is_finished (ended t n e status) ≡ true
unfolding is_finished
ended_finished t n e status = refl

-- the first free record, where not all are in use
pub free_place : (l : List Held) → full l ≡ false → (first_free l < length l) × (in_use (get_or l (first_free l) free) ≡ false)
unfolding full first_free
free_place l h =
    let k : first_free l < length l = leb-false (length l) (first_free l) (sym (all_place in_use l) ∙ h) in
    (k, not-true _ (place_passes (λ r. not (in_use r)) free l k))

-- all are in use exactly if no free one is found
pub full_place : (l : List Held) → full l ≡ leb (length l) (first_free l)
unfolding full first_free
full_place l = all_place in_use l

-- ---- what holds of each held record

abbrev pub EachHeld : (Held → Type 0) → List Held → Type 0
EachHeld P l = (i : ℕ) → in_use (get_or l i free) ≡ true → P (get_or l i free)

pub each_split : (f : Held → Bool) (l : List Held) → each_held f l ≡ true → (i : ℕ) → in_use (get_or l i free) ≡ true → f (get_or l i free) ≡ true
unfolding each_held
each_split f l h i u = implies (in_use (get_or l i free)) (f (get_or l i free)) (all_at (λ r. not (in_use r) || f r) free (rw unused_free) l h i) u

pub each_join : (f : Held → Bool) (l : List Held) → ((i : ℕ) → in_use (get_or l i free) ≡ true → f (get_or l i free) ≡ true) → each_held f l ≡ true
unfolding each_held
each_join f l h = all_by (λ r. not (in_use r) || f r) free l (λ i. implied (in_use (get_or l i free)) (f (get_or l i free)) (h i))

-- a change of one record
pub each_set : (P : Held → Type 0) (l : List Held) (i : ℕ) (x : Held) → i < length l → EachHeld P l → (in_use x ≡ true → P x) → EachHeld P (set l i x)
each_set P l i x h f g j u = go (same_or_not j i)
  where
    go : (j ≡ i) ⊎ (j ≢ i) → P (get_or (set l i x) j free)
    go (inl e) =
        let same : get_or (set l i x) j free ≡ x = rw e (get_or-set_same l i x free h) in
        rw same (g (rw same at u))
    go (inr e) =
        let same : get_or (set l i x) j free ≡ get_or l j free = get_or-set_other l i j x free e in
        rw same (f j (rw same at u))

-- ---- covers, and sound records

-- the slots of a record are among the n from counter r on
abbrev pub Lies : ℕ → ℕ → Held → Type 0
Lies n r x = wsub x.ticket r + x.slots ≤ n

pub record Covers (n r : ℕ) (l : List Held) : Type 0 where
  pub small : n ≤ 256
  pub each : EachHeld (Lies n r) l
  pub once : (i : ℕ) → i < n → owners l (wadd r i) ≡ 1

pub covers_split : (n r : ℕ) (l : List Held) → covers n r l ≡ true → Covers n r l
unfolding covers
covers_split n r l h =
    let (a, b) = and_both (leb n 256) _ h in
    let (c, d) = and_both (each_held (λ x. leb (wsub x.ticket r + x.slots) n) l) _ b in
    record {
      small = leb-true n 256 a;
      each = λ i u. leb-true _ n (each_split (λ x. leb (wsub x.ticket r + x.slots) n) l c i u);
      once = λ i k. eqb-true (owners l (wadd r i)) 1 (below_at n (λ i. eqb (owners l (wadd r i)) 1) d i k);
    }

pub covers_join : (n r : ℕ) (l : List Held) → Covers n r l → covers n r l ≡ true
unfolding covers
covers_join n r l v =
    true_and (leb n 256) _ (le-leb n 256 v.small)
    (true_and (each_held (λ x. leb (wsub x.ticket r + x.slots) n) l) _
    (each_join (λ x. leb (wsub x.ticket r + x.slots) n) l (λ i u. le-leb _ n (v.each i u)))
    (below_by n (λ i. eqb (owners l (wadd r i)) 1) (λ i k. eq-eqb _ 1 (v.once i k))))

-- a packet has the record's counts, and its status is one of the three
pub record Sound (x : Held) : Type 0 where
  pub counts : is_count x.slots x.extras ≡ true
  pub status : is_status x.status ≡ true

pub sound_extras : (x : Held) → Sound x → x.extras < x.slots
unfolding is_count
sound_extras x h = ltb-true x.extras x.slots (and_both (ltb x.extras x.slots) _ h.counts).0

-- a list that is not answered with 17, taken apart and put together
pub record Valid (consumed replied : ℕ) (l : List Held) : Type 0 where
  pub few : length l ≤ 256
  pub covered : Covers (between consumed replied) replied l
  pub sound : EachHeld Sound l
  pub waits : is_finished (record_at l replied) ≡ false

pub valid_split : (consumed replied : ℕ) (l : List Held) → valid consumed replied l ≡ true → Valid consumed replied l
unfolding valid oldest_waits
valid_split consumed replied l h =
    let (a, b) = and_both (leb (length l) 256) _ h in
    let (c, d) = and_both (covers (between consumed replied) replied l) _ b in
    let (e, f) = and_both (each_held (λ x. is_count x.slots x.extras) l) _ d in
    let (g, k) = and_both (each_held (λ x. is_status x.status) l) _ f in
    record {
      few = leb-true (length l) 256 a;
      covered = covers_split (between consumed replied) replied l c;
      sound = λ i u. record { counts = each_split (λ x. is_count x.slots x.extras) l e i u; status = each_split (λ x. is_status x.status) l g i u };
      waits = not-true _ k;
    }

pub valid_join : (consumed replied : ℕ) (l : List Held) → Valid consumed replied l → valid consumed replied l ≡ true
unfolding valid oldest_waits
valid_join consumed replied l v =
    true_and (leb (length l) 256) _ (le-leb (length l) 256 v.few)
    (true_and (covers (between consumed replied) replied l) _ (covers_join (between consumed replied) replied l v.covered)
    (true_and (each_held (λ x. is_count x.slots x.extras) l) _ (each_join (λ x. is_count x.slots x.extras) l (λ i u. (v.sound i u).counts))
    (true_and (each_held (λ x. is_status x.status) l) _ (each_join (λ x. is_status x.status) l (λ i u. (v.sound i u).status))
    (rw v.waits))))

-- ---- the record at a counter

-- what is found at a counter is in the list, held, and has that ticket; else it is zeroed
pub record Found (l : List Held) (c : ℕ) : Type 0 where
  pub inside : place_at l c < length l
  pub holds : in_use (record_at l c) ≡ true
  pub ticket : (record_at l c).ticket ≡ c

pub found_or_free : (l : List Held) (c : ℕ) → Found l c ⊎ (record_at l c ≡ free)
unfolding record_at place_at
found_or_free l c = ⊎_elim
    (λ h.
    let (a, b) = and_both (in_use (record_at l c)) (eqb (record_at l c).ticket c) (place_passes (λ r. in_use r && eqb r.ticket c) free l h) in
    inl (record { inside = h; holds = a; ticket = eqb-true (record_at l c).ticket c b }))
    (λ h. inr (get_or-eq_default l free {n = place_at l c} h))
    (lt_or_ge (place_at l c) (length l))

pub found_finished : (l : List Held) (c : ℕ) → is_finished (record_at l c) ≡ true → Found l c
found_finished l c h = ⊎_elim (λ f. f) (λ e. absurd (clash h (ap is_finished e ∙ free_waits))) (found_or_free l c)

pub found_used : (l : List Held) (c : ℕ) → in_use (record_at l c) ≡ true → Found l c
found_used l c h = ⊎_elim (λ f. f) (λ e. absurd (clash h (ap in_use e ∙ unused_free))) (found_or_free l c)

-- ---- owners

pub flag_true : {b : Bool} → b ≡ true → flag b ≡ 1
flag_true h = rw h

pub flag_false : {b : Bool} → b ≡ false → flag b ≡ 0
flag_false h = rw h

pub flag_none : (b : Bool) → flag b ≡ 0 → b ≡ false
flag_none true h = absurd (omega arith)
flag_none false h = refl

pub owners_set : (l : List Held) (i : ℕ) (a : Held) (c : ℕ) → i < length l → owners (set l i a) c + flag (owns c (get_or l i free)) ≡ owners l c + flag (owns c a)
unfolding owners
owners_set l i a c h = sum_set (λ r. flag (owns c r)) free l i a h

pub owns_unused : (c : ℕ) (x : Held) → in_use x ≡ false → owns c x ≡ false
unfolding owns
owns_unused c x h = le-ltb (wsub c x.ticket) x.slots (omega (arith, unused_none x h))

pub owns_free : (c : ℕ) → owns c free ≡ false
owns_free c = owns_unused c free unused_free

-- where nobody owns a slot, no record does
pub no_owner : (l : List Held) (c : ℕ) → owners l c ≡ 0 → (j : ℕ) → owns c (get_or l j free) ≡ false
unfolding owners
no_owner l c h j = flag_none _ (none_sum (λ x. flag (owns c x)) free (flag_false (owns_free c)) l h j)

-- a slot is in the record at r exactly if it is one of its slots
pub owns_at : (r i s : ℕ) (x : Held) → x.ticket ≡ r → x.slots ≡ s → i < 512 → owns (wadd r i) x ≡ ltb i s
unfolding owns wadd wsub
owns_at r i s x t e h = rw (t, e) (ap (λ (k : ℕ). ltb k s) (omega arith))

-- a record's first slot is its own
pub owns_first : (r : ℕ) (x : Held) → 0 < x.slots → owns (wadd r (wsub x.ticket r)) x ≡ true
unfolding owns wadd wsub
owns_first r x h = lt-ltb _ x.slots (omega arith)

-- slots behind a record, before it, and its own, counted from r
pub owns_past : (r i n : ℕ) (y : Held) → wsub y.ticket r + y.slots ≤ n → n ≤ i → i < 512 → owns (wadd r i) y ≡ false
unfolding owns
owns_past r i n y w h g = le-ltb _ y.slots (omega (arith, from_ticket y.ticket r i (omega arith) (omega arith)))

pub owns_before : (r c i n : ℕ) (x : Held) → x.ticket ≡ c → wsub c r ≡ n → n ≤ 512 → x.slots ≤ 256 → i < n → owns (wadd r i) x ≡ false
unfolding owns
owns_before r c i n x t a k f h = rw t (le-ltb _ x.slots (omega (arith, before_ticket c r i (omega arith))))

pub owns_own : (r c i n : ℕ) (x : Held) → x.ticket ≡ c → wsub c r ≡ n → n ≤ i → i < n + x.slots → i < 512 → owns (wadd r i) x ≡ true
unfolding owns
owns_own r c i n x t a h g k = rw t (lt-ltb _ x.slots (omega (arith, from_ticket c r i (omega arith) (omega arith))))

-- no record has a slot behind the last
pub none_behind : (n r : ℕ) (l : List Held) → Covers n r l → (i : ℕ) → n ≤ i → i < 512 → owners l (wadd r i) ≡ 0
unfolding owners
none_behind n r l v i h g = sum_none (λ y. flag (owns (wadd r i) y)) free l (λ j. flag_false (⊎_elim (λ u. owns_past r i n (get_or l j free) (v.each j u) h g) (λ u. owns_unused (wadd r i) (get_or l j free) u) (either (in_use (get_or l j free)))))

-- ---- a record freed

module _ (n r : ℕ) (l : List Held) (v : Covers n r l) (f : Found l r) where
  pub release_some : 0 < (record_at l r).slots
  release_some = in_use_some (record_at l r) f.holds

  pub release_lies : Lies n r (record_at l r)
  unfolding record_at
  release_lies = v.each (place_at l r) f.holds

  pub release_few : (record_at l r).slots ≤ n
  unfolding wsub
  release_few = omega (arith, release_lies, f.ticket)

  release_owners : (c : ℕ) → owners (freed l r) c + flag (owns c (record_at l r)) ≡ owners l c
  unfolding record_at freed
  release_owners c = omega (arith, owners_set l (place_at l r) free c f.inside, flag_false (owns_free c))

  -- its slots are no other record's
  release_alone : (i : ℕ) → i < (record_at l r).slots → owners (freed l r) (wadd r i) ≡ 0
  release_alone i h =
      let o : owns (wadd r i) (record_at l r) ≡ true = owns_at r i (record_at l r).slots (record_at l r) f.ticket refl (omega (arith, release_few, v.small)) ∙ lt-ltb i (record_at l r).slots h in
      omega (arith, release_owners (wadd r i), flag_true o, v.once i (omega (arith, release_few)))

  -- another record's slots stand behind
  release_behind : (j : ℕ) → in_use (get_or (freed l r) j free) ≡ true → (record_at l r).slots ≤ wsub (get_or (freed l r) j free).ticket r
  release_behind j u = ⊎_elim (λ h. absurd (bad h)) (λ h. h) (lt_or_ge (wsub y.ticket r) (record_at l r).slots)
    where
      y : Held
      y = get_or (freed l r) j free

      bad : wsub y.ticket r < (record_at l r).slots → ⊥
      bad h = clash (owns_first r y (in_use_some y u)) (no_owner (freed l r) (wadd r (wsub y.ticket r)) (release_alone (wsub y.ticket r) h) j)

  pub release_covers : Covers (n - (record_at l r).slots) (wadd r (record_at l r).slots) (freed l r)
  unfolding freed
  release_covers = record {
    small = omega (arith, v.small);
    each = λ j u. moved j u (same_or_not j (place_at l r));
    once = λ i h.
        let o : owns (wadd r ((record_at l r).slots + i)) (record_at l r) ≡ false
        = owns_at r ((record_at l r).slots + i) (record_at l r).slots (record_at l r) f.ticket refl (omega (arith, release_few, v.small)) ∙ le-ltb ((record_at l r).slots + i) (record_at l r).slots (omega arith) in
        rw (wadd_wadd r (record_at l r).slots i)
        (omega (arith, release_owners (wadd r ((record_at l r).slots + i)), flag_false o, v.once ((record_at l r).slots + i) (omega (arith, release_few))));
  }
    where
      moved : (j : ℕ) → in_use (get_or (freed l r) j free) ≡ true → (j ≡ place_at l r) ⊎ (j ≢ place_at l r) → Lies (n - (record_at l r).slots) (wadd r (record_at l r).slots) (get_or (freed l r) j free)
      moved j u (inl e) = absurd (clash u (rw (e, get_or-set_same l (place_at l r) free free f.inside) unused_free))
      moved j u (inr e) =
          let same : get_or (freed l r) j free ≡ get_or l j free = get_or-set_other l (place_at l r) j free free e in
          let b : (record_at l r).slots ≤ wsub (get_or l j free).ticket r = rw same at (release_behind j u) in
          rw same (omega (arith, behind_by (get_or l j free).ticket r (record_at l r).slots b, v.each j (rw same at u)))

  pub release_sums : slots_held (freed l r) + (record_at l r).slots ≡ slots_held l
  unfolding record_at freed
  release_sums = omega (arith, sum_set (λ (x : Held). x.slots) free l (place_at l r) free f.inside)

  pub release_sound : EachHeld Sound l → EachHeld Sound (freed l r)
  unfolding freed
  release_sound h = each_set Sound l (place_at l r) free f.inside h (λ u. absurd (clash u unused_free))

pub freed_length : (l : List Held) (c : ℕ) → length (freed l c) ≡ length l
unfolding freed
freed_length l c = length-set l (place_at l c) free

-- ---- a record finished

pub finish_length : (l : List Held) (t status : ℕ) → length (finish l t status) ≡ length l
unfolding finish
finish_length l t status = length-set l (place_at l t) _

module _ (n r : ℕ) (l : List Held) (v : Covers n r l) (t : ℕ) (f : Found l t) (status : ℕ) where
  new : Held
  new = ended t (record_at l t).slots (record_at l t).extras status

  finish_owns : (c : ℕ) → owns c new ≡ owns c (record_at l t)
  unfolding owns new
  finish_owns c = rw f.ticket

  finish_owners : (c : ℕ) → owners (finish l t status) c ≡ owners l c
  unfolding finish record_at new
  finish_owners c = omega (arith, owners_set l (place_at l t) new c f.inside, ap flag (finish_owns c))

  pub finish_covers : Covers n r (finish l t status)
  unfolding finish new record_at
  finish_covers = record {
    small = v.small;
    each = each_set (Lies n r) l (place_at l t) new f.inside v.each (λ u. rw f.ticket at (v.each (place_at l t) f.holds));
    once = λ i h. finish_owners (wadd r i) ∙ v.once i h;
  }

  pub finish_sound : EachHeld Sound l → is_status status ≡ true → EachHeld Sound (finish l t status)
  unfolding finish new record_at
  finish_sound h right = each_set Sound l (place_at l t) new f.inside h (λ u. record { counts = (h (place_at l t) f.holds).counts; status = right })

  pub finish_sums : slots_held (finish l t status) ≡ slots_held l
  unfolding finish record_at new
  finish_sums = omega (arith, sum_set (λ (y : Held). y.slots) free l (place_at l t) new f.inside)

-- ---- a record added

pub added_length : (l : List Held) (x : Held) → length (added l x) ≡ length l
unfolding added
added_length l x = length-set l (first_free l) x

pub added_sums : (l : List Held) (x : Held) → full l ≡ false → slots_held (added l x) ≡ slots_held l + x.slots
unfolding added
added_sums l x h =
    let (a, b) = free_place l h in
    omega (arith, sum_set (λ (y : Held). y.slots) free l (first_free l) x a, unused_none (get_or l (first_free l) free) b)

pub added_sound : (l : List Held) (x : Held) → full l ≡ false → EachHeld Sound l → Sound x → EachHeld Sound (added l x)
unfolding added
added_sound l x h s k = each_set Sound l (first_free l) x (free_place l h).0 s (λ u. k)

module _ (n r c : ℕ) (l : List Held) (v : Covers n r l) (room : full l ≡ false) (apart : wsub c r ≡ n) (x : Held) (ticket : x.ticket ≡ c) (few : n + x.slots ≤ 256) where
  added_owners : (k : ℕ) → owners (added l x) k ≡ owners l k + flag (owns k x)
  unfolding added
  added_owners k =
      let (a, b) = free_place l room in
      omega (arith, owners_set l (first_free l) x k a, flag_false (owns_unused k (get_or l (first_free l) free) b))

  pub added_covers : Covers (n + x.slots) r (added l x)
  unfolding added
  added_covers = record {
    small = few;
    each = each_set (Lies (n + x.slots) r) l (first_free l) x (free_place l room).0 (λ j u. omega (arith, v.each j u)) (λ u. rw (ticket, apart) (omega arith));
    once = λ i h. added_owners (wadd r i) ∙ ⊎_elim
        (λ g. omega (arith, v.once i g, flag_false (owns_before r c i n x ticket apart (omega arith) (omega arith) g)))
        (λ g. omega (arith, none_behind n r l v i g (omega arith), flag_true (owns_own r c i n x ticket apart g h (omega arith))))
        (lt_or_ge i n);
  }

-- ---- nothing held

pub fresh_unused : (l : List Held) → all_free l ≡ true → (i : ℕ) → in_use (get_or l i free) ≡ false
unfolding all_free
fresh_unused l h i = not-true _ (all_at (λ r. not (in_use r)) free (rw unused_free) l h i)

pub fresh_covers : (c : ℕ) (l : List Held) → all_free l ≡ true → Covers 0 c l
fresh_covers c l h = record { small = omega arith; each = λ i u. absurd (clash u (fresh_unused l h i)); once = λ i k. absurd (omega arith) }

pub fresh_waits : (c : ℕ) (l : List Held) → all_free l ≡ true → is_finished (record_at l c) ≡ false
unfolding record_at
fresh_waits c l h = ⊎_elim (λ f. absurd (clash f.holds (fresh_unused l h (place_at l c)))) (λ e. ap is_finished e ∙ free_waits) (found_or_free l c)

pub fresh_slots : (l : List Held) → all_free l ≡ true → slots_held l ≡ 0
fresh_slots l h = sum_none (λ (r : Held). r.slots) free l (λ i. unused_none (get_or l i free) (fresh_unused l h i))

pub fresh_valid : (c : ℕ) (l : List Held) → length l ≤ 256 → all_free l ≡ true → valid c c l ≡ true
unfolding between
fresh_valid c l few h = valid_join c c l (record {
  few = few;
  covered = rw (not_moved c) (fresh_covers c l h);
  sound = λ i u. absurd (clash u (fresh_unused l h i));
  waits = fresh_waits c l h;
})
