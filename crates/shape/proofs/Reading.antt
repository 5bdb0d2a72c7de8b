-- The slow reader's code held against the shape of a packet: what `link`, `chain`, `follow` and `shaped` answer.
use mathlib.Core.Path.{◌≡◌, ◌∙◌, refl, ap}
use mathlib.Core.Bool.{Bool, true, false, beq, ◌&&◌}
use mathlib.Core.List.{List}
use mathlib.Core.Logic.{⊎_elim}
use Prim.Native.Nat.{ℕ, ◌+◌, ◌-◌, ◌≤◌, ◌<◌, suc, min}
use native.Mathlib.Omega.{arith}
use native.Mathlib.Numerals.{add-one}
use lib.Dec.{ltb}
use lib.ListN.{take, drop, drop_of_length-le}
use lib.Seq.{take_all}
use Rattle.std.specs.Prelude.{Option, Some, None, if◌then◌else◌}
use Rattle.std.specs.Option.{option_eq}
use Rattle.words.specs.Word.{bit}
use Rattle.words.proofs.Word.{lt_or_ge}
use Rattle.netif.specs.Slot.{Slot, more_data, is_extra, another_extra}
use Rattle.netif.specs.Decode.{data_of}
use Rattle.netif.specs.declared.DataSlot.{DataSlot}
use Rattle.grammar.specs.Grammar.{is_later}
use Rattle.grammar.proofs.Loop.{more_bit, follows_bit}
use Rattle.division.specs.Run.{slot_in, slots_in}
use Rattle.division.specs.Shape.{alike, link_at, begun, follows, leads, shaped}
use Rattle.division.proofs.Runs.{slots_next, slots_length, slots_take, slots_drop}

-- two tests that are compared
pub alike_beq : (a b : Bool) → beq a b ≡ alike a b
alike_beq true true = refl
alike_beq true false = refl
alike_beq false true = refl
alike_beq false false = refl

-- a slot of a kind that announces another exactly if it is not the last
pub link_here : (right announces : Slot → Bool) (n j : ℕ) (s : Slot) (o : Option Bool) (r : Bool) → o ≡ (if right s then Some (announces s) else None)
    → r ≡ option_eq beq o (Some (ltb (j + 1) n)) → r ≡ link_at right announces n j s
unfolding link_at
link_here right announces n j s o r p q = q ∙ rw (p, add-one) (go (right s))
  where
    go : (b : Bool) → option_eq beq (if b then Some (announces s) else None) (Some (ltb (suc j) n)) ≡ (b && alike (announces s) (ltb (suc j) n))
    go true = alike_beq (announces s) (ltb (suc j) n)
    go false = refl

-- the loop over a chain's slots: what is asked of those that are left
module _ (right announces : Slot → Bool) (n : ℕ) (bytes : List ℕ) (from count : ℕ) where
  abbrev pub asked : ℕ → Bool
  asked j = begun right announces n j (slots_in bytes (from + j) (count - j))

  pub asked_all : begun right announces n 0 (slots_in bytes from count) ≡ asked 0
  asked_all =
      let p : from + 0 ≡ from = omega arith in
      let q : count - 0 ≡ count = omega arith in
      rw (p, q)

  pub asked_none : (j : ℕ) → count ≤ j → asked j ≡ true
  asked_none j h =
      let z : count - j ≡ 0 = omega arith in
      rw z

  -- r is what the slot's test gave
  module _ (j : ℕ) (h : j < count) (r : Bool) (e : r ≡ link_at right announces n j (slot_in bytes (from + j))) where
    pub asked_wrong : r ≡ false → asked j ≡ false
    asked_wrong w = rw (slots_next bytes from j count h, ← e, w)

    pub asked_next : r ≡ true → asked j ≡ asked (j + 1)
    asked_next w = rw (slots_next bytes from j count h, ← e, w, add-one)

-- ---- behind the first slot

module _ (bytes : List ℕ) (from count later extras seen : ℕ) (s : seen ≡ min extras count) where
  -- the extras that are seen, and the later data slots
  seen_extras : take extras (slots_in bytes from count) ≡ slots_in bytes from seen
  seen_extras = ⊎_elim
      (λ h.
      let z : count ≡ seen = omega arith in
      take_all extras (slots_in bytes from count) (omega (arith, slots_length bytes count from)) ∙ ap (slots_in bytes from) z)
      (λ h.
      let z : extras ≡ seen = omega arith in
      slots_take bytes extras count from h ∙ ap (slots_in bytes from) z)
      (lt_or_ge count extras)

  seen_later : drop extras (slots_in bytes from count) ≡ slots_in bytes (from + seen) (count - seen)
  seen_later = ⊎_elim
      (λ h.
      let z : count - seen ≡ 0 = omega arith in
      drop_of_length-le (slots_in bytes from count) {i = extras} (omega (arith, slots_length bytes count from)) ∙ rw z)
      (λ h.
      let z : extras ≡ seen = omega arith in
      slots_drop bytes extras count from h ∙ rw z)
      (lt_or_ge count extras)

  -- r is what the test of the extras gave
  module _ (r : Bool) (e : r ≡ begun is_extra another_extra extras 0 (slots_in bytes from seen)) where
    pub follows_wrong : r ≡ false → r ≡ follows later extras (slots_in bytes from count)
    unfolding follows
    follows_wrong w = w ∙ rw (seen_extras, ← e, w)

    pub follows_right : r ≡ true → (b : Bool) → b ≡ begun is_later more_data later 0 (slots_in bytes (from + seen) (count - seen)) → b ≡ follows later extras (slots_in bytes from count)
    unfolding follows
    follows_right w b g = rw (seen_extras, ← e, w, seen_later) g

-- ---- with the first slot

-- what a first slot announces
pub leads_here : (later extras : ℕ) (s : Slot) (r : DataSlot) → r ≡ data_of s → (beq (bit 3 r.flags) (ltb 0 extras) && beq (bit 2 r.flags) (ltb 0 later)) ≡ leads later extras s
unfolding leads
leads_here later extras s r h = rw (follows_bit s r h, more_bit s r h, alike_beq _ _, alike_beq _ _)

pub by_first : (bytes : List ℕ) (at n later extras : ℕ) → 1 ≤ n
    → shaped later extras (slots_in bytes at n) ≡ (leads later extras (slot_in bytes at) && follows later extras (slots_in bytes (at + 1) (n - 1)))
by_first bytes at n later extras some =
    let z : n ≡ suc (n - 1) = omega arith in
    let y : suc at ≡ at + 1 = omega arith in
    ap (λ k. shaped later extras (slots_in bytes at k)) z ∙ rw y
