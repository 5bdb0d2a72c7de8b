-- What a record that fits says, and the ways out of the tests.
use Rattle.std.proofs.Common.{◌≡◌, ℕ, ◌+◌, ◌-◌, ◌%◌, ◌<◌, ◌≤◌, Bool, true, false, cond, not, ◌&&◌, eqb, ltb, leb, sym, refl, ap, ◌∙◌, ⊎_elim, arith, ltb-true, le-ltb, lt-ltb, eq-eqb, ne_eqb, eqb-true, le-leb, leb-true}
use borrow.Author.Tests.{lt-leb}
use Rattle.words.proofs.Word.{and_both, lt_or_ge, clash}
use Rattle.grammar.specs.Grammar.{within}
use Rattle.grammar.proofs.Within.{within_bound}
use Rattle.held.specs.declared.Held.{Held}
use Rattle.held.specs.Records.{is_status, is_finished, failed, dropped}
use Rattle.held.specs.Valid.{is_count}
use Rattle.fitting.specs.Fits.{fits_at}

-- ---- a record that fits

-- only the oldest must not be finished
abbrev waits : Held → (offset : ℕ) → Bool
waits h offset = cond (eqb offset 0) (eqb h.finished 0) true

and_no : (b : Bool) → b && false ≡ false
and_no true = refl
and_no false = refl

-- counts of a packet are of a data slot at least
count_some : (slots extras : ℕ) → is_count slots extras ≡ true → extras < slots
unfolding is_count
count_some slots extras p = ltb-true extras slots (and_both (ltb extras slots) (within (slots - extras) extras) p).0

count_small : (slots extras : ℕ) → is_count slots extras ≡ true → slots ≤ 22
unfolding is_count
count_small slots extras p =
    let (a, b) = and_both (ltb extras slots) (within (slots - extras) extras) p in
    omega (arith, ltb-true extras slots a, within_bound (slots - extras) extras b)

pub record Fitting (h : Held) (offset n : ℕ) : Type 0 where
  pub below : offset < n
  pub lies : offset + h.slots ≤ n
  pub counts : is_count h.slots h.extras ≡ true
  pub small : h.slots ≤ 22
  pub status : is_status h.status ≡ true
  pub oldest : offset ≡ 0 → h.finished ≡ 0

module _ (h : Held) (o n : ℕ) where
  pub fits_split : fits_at h o n ≡ true → Fitting h o n
  unfolding fits_at
  fits_split p =
      let (a, q) = and_both (ltb o n) _ p in
      let (b, r) = and_both (leb (o + h.slots) n) _ q in
      let (c, s) = and_both (is_count h.slots h.extras) _ r in
      let (d, e) = and_both (is_status h.status) (waits h o) s in
      record {
        below = ltb-true o n a;
        lies = leb-true (o + h.slots) n b;
        counts = c;
        small = count_small h.slots h.extras c;
        status = d;
        oldest = λ z. eqb-true h.finished 0 (rw (eq-eqb o 0 z) at e);
      }

  -- ---- the tests, in their order

  module _ (b : o + h.slots ≤ n) (c : is_count h.slots h.extras ≡ true) where
    below : o < n
    below = omega (arith, b, count_some h.slots h.extras c)

    module _ (d : is_status h.status ≡ true) where
      pub fits_oldest : o ≡ 0 → eqb h.finished 0 ≡ fits_at h o n
      unfolding fits_at
      fits_oldest e = rw (lt-ltb o n below, le-leb (o + h.slots) n b, c, d, eq-eqb o 0 e) refl

      pub fits_later : (o ≡ 0 → ⊥) → true ≡ fits_at h o n
      unfolding fits_at
      fits_later e = rw (lt-ltb o n below, le-leb (o + h.slots) n b, c, d, ne_eqb o 0 e) refl

  -- whether it lies within the slots and has a packet's counts, and whether it also has one of the three statuses
  pub fits_tests : (lies sound : Bool) → lies ≡ (leb (o + h.slots) n && is_count h.slots h.extras) → sound ≡ (lies && is_status h.status)
      → sound && waits h o ≡ fits_at h o n
  unfolding fits_at
  fits_tests lies sound p q = ap (λ (b : Bool). b && waits h o) q ∙ go lies p
    where
      short : (a c : Bool) → false ≡ a && c → false ≡ (ltb o n && (a && (c && (is_status h.status && waits h o))))
      short false c e = sym (and_no (ltb o n))
      short true false e = sym (and_no (ltb o n))
      short true true e = absurd (clash refl (sym e))

      go : (b : Bool) → b ≡ (leb (o + h.slots) n && is_count h.slots h.extras) → (b && is_status h.status) && waits h o ≡ fits_at h o n
      go true e =
          let (a, c) = and_both (leb (o + h.slots) n) (is_count h.slots h.extras) (sym e) in
          let z : ltb o n ≡ true = lt-ltb o n (below (leb-true (o + h.slots) n a) c) in
          rw (z, a, c) refl
      go false e = short (leb (o + h.slots) n) (is_count h.slots h.extras) e

pub not_finished : (h : Held) → not (is_finished h) ≡ eqb h.finished 0
unfolding is_finished
not_finished h = twice (eqb h.finished 0)
  where
    twice : (b : Bool) → not (not b) ≡ b
    twice true = refl
    twice false = refl

-- ---- a status, and counts

pub status_okay : (x : ℕ) → x ≡ 0 → true ≡ is_status x
status_okay x a = rw (eq-eqb x 0 a) refl

pub status_error : (x : ℕ) → (x ≡ 0 → ⊥) → x ≡ failed → true ≡ is_status x
status_error x a b = rw (ne_eqb x 0 a, eq-eqb x failed b) refl

pub status_dropped : (x : ℕ) → (x ≡ 0 → ⊥) → (x ≡ failed → ⊥) → eqb x dropped ≡ is_status x
status_dropped x a b = rw (ne_eqb x 0 a, ne_eqb x failed b) refl

pub count_many : (slots extras : ℕ) → 4 < extras → false ≡ is_count slots extras
unfolding is_count within
count_many slots extras a = rw (lt-leb extras 4 a, and_no (leb (slots - extras) 18), and_no (ltb extras slots)) refl

-- the data slots but one, modulo 2^32, are below the limit
pub count_few : (slots extras : ℕ) → extras ≤ 4 → slots < 4294967296 → ltb ((slots + (4294967296 - (extras + 1))) % 4294967296) 18 ≡ is_count slots extras
unfolding is_count within
count_few slots extras few small = ⊎_elim some none (lt_or_ge extras slots)
  where
    some : extras < slots → ltb ((slots + (4294967296 - (extras + 1))) % 4294967296) 18 ≡ (ltb extras slots && (leb (slots - extras) 18 && leb extras 4))
    some p =
        let d : (slots + (4294967296 - (extras + 1))) % 4294967296 ≡ slots - extras - 1 = omega arith in
        ⊎_elim
        (λ a. rw (d, lt-ltb (slots - extras - 1) 18 (omega arith), lt-ltb extras slots p, le-leb (slots - extras) 18 (omega arith), le-leb extras 4 few) refl)
        (λ a. rw (d, le-ltb (slots - extras - 1) 18 (omega arith), lt-ltb extras slots p, lt-leb (slots - extras) 18 (omega arith)) refl)
        (lt_or_ge (slots - extras) 19)

    none : slots ≤ extras → ltb ((slots + (4294967296 - (extras + 1))) % 4294967296) 18 ≡ (ltb extras slots && (leb (slots - extras) 18 && leb extras 4))
    none q = rw (le-ltb ((slots + (4294967296 - (extras + 1))) % 4294967296) 18 (omega arith), le-ltb extras slots q) refl
