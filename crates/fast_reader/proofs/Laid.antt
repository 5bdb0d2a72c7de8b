-- A run laid on a ring page, from its first slot on: the page's slots are the run's. And the slots of a page that are left once
-- some were taken off the front.
use mathlib.Core.Path.{◌≡◌, refl, sym, ap, ◌∙◌}
use mathlib.Core.List.{List, ◌++◌, append_assoc}
use Prim.Native.Nat.{ℕ, zero, suc, ◌+◌, ◌-◌, ◌*◌, ◌%◌, ◌≤◌}
use native.Mathlib.Omega.{arith}
use lib.ListN.{length, take, drop, length-drop}
use lib.Seq.{length-take-le, drop_at, drop-drop, drop-append-le, take-append-le}
use Rattle.words.specs.Word.{splice}
use Rattle.ring.specs.Ring.{page_size, slot_place, slot_at}
use Rattle.ring.proofs.Ring.{slots_drop}
use Rattle.netif.specs.Slot.{slot_width, slot_count, transmit_slot, transmit_slots}
use Rattle.division.specs.Run.{slot_in, slots_in}

module _ (page bytes : List ℕ) (size : length page ≡ page_size) (short : length bytes ≤ slot_width * slot_count) where
  pub slot_laid : (i : ℕ) → slot_width * i + slot_width ≤ length bytes → transmit_slot (splice page 64 bytes) i ≡ slot_in bytes i
  unfolding slot_at slot_place slot_in splice
  slot_laid i h =
      let behind = drop (64 + length bytes) page in
      let laid = take 64 page ++ bytes ++ behind in
      let e : i % slot_count ≡ i = omega arith in
      ap (λ (n : ℕ). take slot_width (drop (64 + slot_width * n) laid)) e
      ∙ ap (take slot_width) (sym (drop-drop (slot_width * i) 64 laid))
      ∙ ap (λ (l : List ℕ). take slot_width (drop (slot_width * i) (drop 64 l))) (append_assoc (take 64 page) bytes behind)
      ∙ ap (λ (l : List ℕ). take slot_width (drop (slot_width * i) l)) (drop_at (take 64 page) (bytes ++ behind) 64 (length-take-le 64 page (omega arith)))
      ∙ ap (take slot_width) (drop-append-le (slot_width * i) bytes behind (omega arith))
      ∙ take-append-le slot_width (drop (slot_width * i) bytes) behind (omega (arith, length-drop (slot_width * i) bytes))

  pub slots_laid : (k i : ℕ) → slot_width * (i + k) ≤ length bytes → transmit_slots (splice page 64 bytes) i k ≡ slots_in bytes i k
  slots_laid zero i h = refl
  slots_laid (suc k) i h =
      let a : transmit_slot (splice page 64 bytes) i ≡ slot_in bytes i = slot_laid i (omega arith) in
      let b : transmit_slots (splice page 64 bytes) (suc i) k ≡ slots_in bytes (suc i) k = slots_laid k (suc i) (omega arith) in
      cc

-- n slots fewer are left
pub left_drop : (page : List ℕ) (slots at n : ℕ) → at + n ≤ slots
    → drop n (transmit_slots page at (slots - at)) ≡ transmit_slots page (at + n) (slots - (at + n))
left_drop page slots at n h =
    let e : slots - at ≡ n + (slots - (at + n)) = omega arith in
    ap (λ (k : ℕ). drop n (transmit_slots page at k)) e ∙ slots_drop slot_width slot_count page n (slots - (at + n)) at
