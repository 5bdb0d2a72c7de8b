-- One record of the pass, and a confirmation: the ways out.
use Rattle.std.proofs.Common.{◌≡◌, ℕ, ◌+◌, ◌*◌, ◌&&◌, true, false, List, Option, Some, None, get_or, set, refl, eq-eqb, ne_eqb}
use Rattle.std.specs.Option.{option_or}
use Rattle.ring.specs.Ring.{wsub}
use Rattle.held.specs.declared.Held.{Held}
use Rattle.fitting.specs.Fits.{fits_at}
use Rattle.noting.specs.declared.Tally.{Tally}
use Rattle.noting.specs.Survey.{made, noted, noted_free, noted_held, chain_of, confirmed}

module _ (s : Tally) (i : ℕ) (h : Held) (replied n : ℕ) (index : List ℕ) where
  pub note_free : h.slots ≡ 0 → made (Some (record { free = option_or s.free (Some i); slots = s.slots })) index ≡ noted i h replied n s index
  unfolding noted noted_free
  note_free a = rw (eq-eqb h.slots 0 a) refl

  module _ (a : h.slots ≡ 0 → ⊥) (o : ℕ) (at : o ≡ wsub h.ticket replied) where
    pub note_unfit : fits_at h o n ≡ false → made None index ≡ noted i h replied n s index
    unfolding noted
    note_unfit b = rw (ne_eqb h.slots 0 a, ← at, b) refl

    module _ (b : fits_at h o n ≡ true) where
      pub note_taken : (get_or index o 0 ≡ 0 → ⊥) → made None index ≡ noted i h replied n s index
      unfolding noted
      note_taken c = rw (ne_eqb h.slots 0 a, ← at, b, ne_eqb (get_or index o 0) 0 c) refl

      pub note_held : get_or index o 0 ≡ 0 → made (Some (record { free = s.free; slots = s.slots + h.slots })) (set index o (h.slots * 256 + i)) ≡ noted i h replied n s index
      unfolding noted noted_held
      note_held c = rw (ne_eqb h.slots 0 a, ← at, b, eq-eqb (get_or index o 0) 0 c) refl

module _ (s : Tally) (index : List ℕ) (n : ℕ) where
  pub confirm_all : s.slots ≡ n → chain_of index n ≡ true → ◌≡◌ {A = Option Tally} (Some s) (confirmed s index n)
  unfolding confirmed
  confirm_all h c = rw (eq-eqb s.slots n h, c) refl

  pub confirm_gap : s.slots ≡ n → chain_of index n ≡ false → ◌≡◌ {A = Option Tally} None (confirmed s index n)
  unfolding confirmed
  confirm_gap h c = rw (eq-eqb s.slots n h, c) refl

  pub confirm_sum : (s.slots ≡ n → ⊥) → ◌≡◌ {A = Option Tally} None (confirmed s index n)
  unfolding confirmed
  confirm_sum h = rw (ne_eqb s.slots n h) refl
