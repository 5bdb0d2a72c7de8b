-- What is released, and what stays: the records that leave are finished, sound, and stand one behind the other from the counter of
-- replies sent on; the list without them covers the slots behind.
use mathlib.Core.Path.{◌≡◌, refl, sym, ap, ◌∙◌}
use mathlib.Core.Logic.{◌⊎◌, inl, inr, ⊎_elim}
use mathlib.Core.List.{List, [], ◌∷◌}
use mathlib.Core.Bool.{Bool, true, false, cond}
use Prim.Native.Nat.{ℕ, zero, suc, ◌+◌, ◌-◌, ◌≤◌, ◌<◌}
use native.Mathlib.Omega.{arith}
use lib.ListN.{length}
use Rattle.words.proofs.Word.{either}
use Rattle.ring.specs.Ring.{wadd, wsub}
use Rattle.ring.proofs.Counters.{wadd_wadd, behind_by, moved_on, not_moved}
use Rattle.held.specs.declared.Held.{Held}
use Rattle.held.specs.Records.{in_use, is_finished, slots_held, place_at, record_at, freed}
use Rattle.held.specs.Valid.{between}
use Rattle.held.specs.Release.{Released, nothing, firstly, release, settle}
use Rattle.held.proofs.Cover.{EachHeld, Covers, Sound, Found, found_finished, freed_length, release_some, release_few, release_covers, release_sums, release_sound}

-- records that leave from counter c on, one behind the other
abbrev pub Leaves : ℕ → List Held → Type 0
Leaves c [] = Unit {0}
Leaves c (x ∷ l) = (x.ticket ≡ c) × (in_use x ≡ true) × Sound x × (is_finished x ≡ true) × Leaves (wadd c x.slots) l

-- what a release from r on makes of the list l, where slots up to counter c are consumed
pub record Kept (c r : ℕ) (l : List Held) (o : Released) : Type 0 where
  pub covered : Covers (wsub c o.replied) o.replied o.list
  pub sound : EachHeld Sound o.list
  pub waits : is_finished (record_at o.list o.replied) ≡ false
  pub left : wsub c o.replied + wsub o.replied r ≡ wsub c r
  pub moved : wsub o.replied r ≡ slots_held o.gone
  pub sums : slots_held o.list + slots_held o.gone ≡ slots_held l
  pub long : length o.list ≡ length l
  pub gone : Leaves r o.gone
  pub counter : ((o.gone ≡ []) × (o.replied ≡ r)) ⊎ (o.replied ≡ wadd r (slots_held o.gone))

stopped : (c r : ℕ) (l : List Held) → Covers (wsub c r) r l → EachHeld Sound l → is_finished (record_at l r) ≡ false → Kept c r l (nothing r l)
stopped c r l v s w = record {
  covered = v;
  sound = s;
  waits = w;
  left = omega (arith, not_moved r);
  moved = not_moved r;
  sums = omega arith;
  long = refl;
  gone = tt;
  counter = inl (refl, refl);
}

none_left : (r : ℕ) (l : List Held) → Covers 0 r l → is_finished (record_at l r) ≡ false
none_left r l v = ⊎_elim (λ h. absurd (let f = found_finished l r h in omega (arith, release_some 0 r l v f, release_few 0 r l v f))) (λ h. h) (either (is_finished (record_at l r)))

module _ (c r : ℕ) (l : List Held) (v : Covers (wsub c r) r l) (s : EachHeld Sound l) (h : is_finished (record_at l r) ≡ true) where
  f : Found l r
  f = found_finished l r h

  rest_covers : Covers (wsub c (wadd r (record_at l r).slots)) (wadd r (record_at l r).slots) (freed l r)
  rest_covers = rw (behind_by c r (record_at l r).slots (release_few (wsub c r) r l v f)) (release_covers (wsub c r) r l v f)

  rest_sound : EachHeld Sound (freed l r)
  rest_sound = release_sound (wsub c r) r l v f s

  one_more : (o : Released) → Kept c (wadd r (record_at l r).slots) (freed l r) o → Kept c r l (firstly (record_at l r) o)
  unfolding record_at
  one_more o k =
      let few : (record_at l r).slots ≤ wsub c r = release_few (wsub c r) r l v f in
      let back : wsub c (wadd r (record_at l r).slots) ≡ wsub c r - (record_at l r).slots = behind_by c r (record_at l r).slots few in
      let on : wsub o.replied r ≡ (record_at l r).slots + wsub o.replied (wadd r (record_at l r).slots) = moved_on r (record_at l r).slots o.replied (omega (arith, k.left, v.small)) in
      record {
        covered = k.covered;
        sound = k.sound;
        waits = k.waits;
        left = omega (arith, k.left);
        moved = omega (arith, k.moved);
        sums = omega (arith, k.sums, release_sums (wsub c r) r l v f);
        long = k.long ∙ freed_length l r;
        gone = (f.ticket, f.holds, s (place_at l r) f.holds, h, k.gone);
        counter = inr (⊎_elim
            (λ g. g.1 ∙ ap (λ (x : ℕ). wadd r x) (omega (arith, ap slots_held g.0)))
            (λ g. g ∙ wadd_wadd r (record_at l r).slots (slots_held o.gone))
            k.counter);
      }

  rest_fewer : (k : ℕ) → wsub c r ≤ suc k → wsub c (wadd r (record_at l r).slots) ≤ k
  rest_fewer k g = omega (arith, behind_by c r (record_at l r).slots (release_few (wsub c r) r l v f), release_few (wsub c r) r l v f, release_some (wsub c r) r l v f)

module _ {c r : ℕ} {l : List Held} where
  kept_true : (b : Bool) (x y : Released) → b ≡ true → Kept c r l x → Kept c r l (cond b x y)
  kept_true b x y h k = rw h k

  kept_false : (b : Bool) (x y : Released) → b ≡ false → Kept c r l y → Kept c r l (cond b x y)
  kept_false b x y h k = rw h k

pub release_keeps : (k c r : ℕ) (l : List Held) → Covers (wsub c r) r l → EachHeld Sound l → wsub c r ≤ k → Kept c r l (release k r l)
release_keeps zero c r l v s h = stopped c r l v s (none_left r l (let z : wsub c r ≡ 0 = omega arith in rw z at v))
release_keeps (suc k) c r l v s h = go (is_finished (record_at l r)) refl (λ e. release_keeps k c (wadd r (record_at l r).slots) (freed l r) (rest_covers c r l v s e) (rest_sound c r l v s e) (rest_fewer c r l v s e k h))
  where
    go : (b : Bool) → is_finished (record_at l r) ≡ b
        → (is_finished (record_at l r) ≡ true → Kept c (wadd r (record_at l r).slots) (freed l r) (release k (wadd r (record_at l r).slots) (freed l r)))
        → Kept c r l (release (suc k) r l)
    go true e ih = kept_true _ _ _ e (one_more c r l v s e _ (ih e))
    go false e ih = kept_false _ _ _ e (stopped c r l v s e)

pub settle_keeps : (c r : ℕ) (l : List Held) → Covers (between c r) r l → EachHeld Sound l → Kept c r l (settle c r l)
unfolding settle between
settle_keeps c r l v s = release_keeps (wsub c r) c r l v s (omega arith)

-- while the oldest waits, nothing leaves
pub settle_nothing : (c r : ℕ) (l : List Held) → is_finished (record_at l r) ≡ false → settle c r l ≡ nothing r l
unfolding settle
settle_nothing c r l h = go (between c r)
  where
    go : (k : ℕ) → release k r l ≡ nothing r l
    go zero = refl
    go (suc k) = rw h

-- ---- by steps, without the number of steps: what a loop does

-- more steps than slots make no difference
release_enough : (k m c r : ℕ) (l : List Held) → Covers (wsub c r) r l → EachHeld Sound l → wsub c r ≤ k → wsub c r ≤ m → release k r l ≡ release m r l
release_enough zero zero c r l v s h g = refl
release_enough zero (suc m) c r l v s h g = sym (rw (none_left r l (let z : wsub c r ≡ 0 = omega arith in rw z at v)))
release_enough (suc k) zero c r l v s h g = rw (none_left r l (let z : wsub c r ≡ 0 = omega arith in rw z at v))
release_enough (suc k) (suc m) c r l v s h g = go (is_finished (record_at l r)) refl
    (λ e. release_enough k m c (wadd r (record_at l r).slots) (freed l r) (rest_covers c r l v s e) (rest_sound c r l v s e) (rest_fewer c r l v s e k h) (rest_fewer c r l v s e m g))
  where
    go : (b : Bool) → is_finished (record_at l r) ≡ b
        → (is_finished (record_at l r) ≡ true → release k (wadd r (record_at l r).slots) (freed l r) ≡ release m (wadd r (record_at l r).slots) (freed l r))
        → release (suc k) r l ≡ release (suc m) r l
    go true e ih = rw (e, ih e)
    go false e ih = rw e

-- the oldest is finished: it leaves first
pub settle_step : (c r : ℕ) (l : List Held) → Covers (between c r) r l → EachHeld Sound l → is_finished (record_at l r) ≡ true
    → settle c r l ≡ firstly (record_at l r) (settle c (wadd r (record_at l r).slots) (freed l r))
unfolding settle between
settle_step c r l v s h =
    let f : Found l r = found_finished l r h in
    let some : 0 < wsub c r = omega (arith, release_some (wsub c r) r l v f, release_few (wsub c r) r l v f) in
    go (wsub c r) refl some
  where
    go : (k : ℕ) → wsub c r ≡ k → 0 < k → release k r l ≡ firstly (record_at l r) (release (wsub c (wadd r (record_at l r).slots)) (wadd r (record_at l r).slots) (freed l r))
    go zero e g = absurd (omega arith)
    go (suc k) e g =
        rw h
        (ap (firstly (record_at l r))
        (release_enough k (wsub c (wadd r (record_at l r).slots)) c (wadd r (record_at l r).slots) (freed l r) (rest_covers c r l v s h) (rest_sound c r l v s h) (rest_fewer c r l v s h k (omega arith)) (omega arith)))
