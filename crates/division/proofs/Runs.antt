-- The laws of a run in memory: its slots one by one, its beginnings and its ends.
use mathlib.Core.Path.{◌≡◌, refl, ap, ◌∙◌}
use mathlib.Core.List.{List, ◌∷◌, ◌++◌}
use Prim.Native.Nat.{ℕ, zero, suc, ◌+◌, ◌-◌, ◌*◌, ◌≤◌, ◌<◌}
use native.Mathlib.Nat.{zero-add, add-zero, suc-add, add-suc}
use native.Mathlib.Omega.{arith}
use lib.ListN.{length, take, drop, length-take, length-drop}
use lib.Seq.{take_at, drop_at}
use Rattle.netif.specs.Slot.{slot_width}
use Rattle.division.specs.Run.{slot_in, slots_in}

module _ (bytes : List ℕ) where
  pub slot_length : (i : ℕ) → slot_width * i + slot_width ≤ length bytes → length (slot_in bytes i) ≡ slot_width
  unfolding slot_in
  slot_length i h = simp (length-take, length-drop) (omega arith)

  pub slots_length : (k i : ℕ) → length (slots_in bytes i k) ≡ k
  slots_length zero i = refl
  slots_length (suc k) i = ap suc (slots_length k (suc i))

  -- some slots and those behind them
  pub slots_join : (j k i : ℕ) → slots_in bytes i (j + k) ≡ slots_in bytes i j ++ slots_in bytes (i + j) k
  slots_join zero k i = rw (zero-add, add-zero)
  slots_join (suc j) k i = rw (suc-add, add-suc, ← suc-add) (ap (slot_in bytes i ∷◌) (slots_join j k (suc i)))

  pub slots_split : (n k i : ℕ) → n ≤ k → slots_in bytes i k ≡ slots_in bytes i n ++ slots_in bytes (i + n) (k - n)
  slots_split n k i h =
      let z : k ≡ n + (k - n) = omega arith in
      ap (slots_in bytes i) z ∙ slots_join n (k - n) i

  pub slots_take : (n k i : ℕ) → n ≤ k → take n (slots_in bytes i k) ≡ slots_in bytes i n
  slots_take n k i h = ap (take n) (slots_split n k i h) ∙ take_at (slots_in bytes i n) (slots_in bytes (i + n) (k - n)) n (slots_length n i)

  pub slots_drop : (n k i : ℕ) → n ≤ k → drop n (slots_in bytes i k) ≡ slots_in bytes (i + n) (k - n)
  slots_drop n k i h = ap (drop n) (slots_split n k i h) ∙ drop_at (slots_in bytes i n) (slots_in bytes (i + n) (k - n)) n (slots_length n i)

  -- n slots fewer are left
  pub left_drop : (slots at n : ℕ) → at + n ≤ slots → drop n (slots_in bytes at (slots - at)) ≡ slots_in bytes (at + n) (slots - (at + n))
  left_drop slots at n h =
      let z : slots - at - n ≡ slots - (at + n) = omega arith in
      slots_drop n (slots - at) at (omega arith) ∙ ap (slots_in bytes (at + n)) z

  -- of the slots that are left, the first and those behind it
  pub slots_next : (from j k : ℕ) → j < k → slots_in bytes (from + j) (k - j) ≡ slot_in bytes (from + j) ∷ slots_in bytes (from + (j + 1)) (k - (j + 1))
  slots_next from j k h =
      let z : k - j ≡ suc (k - (j + 1)) = omega arith in
      let p : from + (j + 1) ≡ suc (from + j) = omega arith in
      rw (z, p)
