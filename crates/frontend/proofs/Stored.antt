-- Slots as the code writes them, field by field, and the loop that writes the later ones.
use mathlib.Core.Path.{◌≡◌, refl, sym, ap, ◌∙◌}
use mathlib.Core.List.{List, [], ◌∷◌, ◌++◌}
use mathlib.Core.Bool.{false}
use Prim.Native.Nat.{ℕ, suc, ◌+◌, ◌-◌, ◌*◌, ◌/◌, ◌%◌, ◌≤◌, ◌<◌, min}
use native.Mathlib.Omega.{arith}
use native.Mathlib.Nat.{mod-mod_of_dvd, dvd_of_mod-eq-zero, suc-mod, add-zero}
use native.Mathlib.Numerals.{add-one}
use lib.ListN.{length, take, drop, get_or, length-append, length-take, length-drop, drop_of_length-le}
use lib.Seq.{drop-cons, drop-drop}
use lib.Dec.{ltb}
use borrow.Author.Tests.{lt-ltb}
use Rattle.words.specs.Word.{u16_bytes, u32_bytes, splice}
use Rattle.words.proofs.Word.{splice_join}
use Rattle.ring.specs.Ring.{wrap, wadd, slot_place, with_slots}
use Rattle.ring.proofs.Ring.{place_fits}
use Rattle.ring.proofs.Replied.{place_ahead}
use Rattle.receive.proofs.Pieces.{follows}
use Rattle.netif.specs.Encode.{data_bytes, extra_bytes}
use Rattle.frontend.specs.Post.{flags_for, others, data_for, later_for}

-- ---- one slot

-- three stores of four bytes, one behind the other
stored_three : (page mid after last a b d : List ℕ) (n at : ℕ) → length page ≡ 4096 → at ≡ slot_place 12 256 n → length a ≡ 4 → length b ≡ 4
    → mid ≡ splice page at a → after ≡ splice mid (at + 4) b → last ≡ splice after (at + 8) d → last ≡ splice page (slot_place 12 256 n) (a ++ b ++ d)
stored_three page mid after last a b d n at size place la lb p q r =
    let fits : slot_place 12 256 n + 12 ≤ 4096 = place_fits 12 256 n 4096 (omega arith) (omega arith) in
    let one : after ≡ splice page at (a ++ b) = q ∙ ap (λ (x : List ℕ). splice x (at + 4) b) p ∙ splice_join page at a b (at + 4) (omega arith) (omega arith) in
    let two : last ≡ splice page at (a ++ b ++ d)
    = r ∙ ap (λ (x : List ℕ). splice x (at + 8) d) one ∙ splice_join page at (a ++ b) d (at + 8) (omega (arith, length-append a b)) (omega arith) in
    two ∙ ap (λ (x : ℕ). splice page x (a ++ b ++ d)) place

module _ (page mid after last : List ℕ) (n at : ℕ) (size : length page ≡ 4096) (place : at ≡ slot_place 12 256 n) where
  pub data_stored : (g fl m : ℕ) → mid ≡ splice page at (u32_bytes g) → after ≡ splice mid (at + 4) (u16_bytes 0 ++ u16_bytes fl)
      → last ≡ splice after (at + 8) (u16_bytes (n % 65536) ++ u16_bytes m) → last ≡ splice page (slot_place 12 256 n) (data_for n g fl m)
  unfolding data_for data_bytes u16_bytes u32_bytes
  data_stored g fl m p q r = stored_three page mid after last (u32_bytes g) (u16_bytes 0 ++ u16_bytes fl) (u16_bytes (n % 65536) ++ u16_bytes m) n at size place refl refl p q r

  pub extra_stored : (m t : ℕ) → t < 256 → mid ≡ splice page at (u16_bytes 1 ++ u16_bytes m) → after ≡ splice mid (at + 4) (u32_bytes t) → last ≡ splice after (at + 8) (u32_bytes 0)
      → last ≡ splice page (slot_place 12 256 n) (extra_bytes (record { kind = 1; flags = 0; gso_size = m; gso_type = t }))
  unfolding extra_bytes u16_bytes u32_bytes
  extra_stored m t h p q r =
      let a : t % 256 ≡ t = omega arith in
      let b : t / 256 % 256 ≡ 0 = omega arith in
      let d : t / 65536 % 256 ≡ 0 = omega arith in
      let e : t / 16777216 % 256 ≡ 0 = omega arith in
      stored_three page mid after last (u16_bytes 1 ++ u16_bytes m) (u32_bytes t) (u32_bytes 0) n at size place refl refl p q r
      ∙ ap (splice page (slot_place 12 256 n)) (rw (a, b, d, e) refl)

-- ---- counters that wrap give the same ids

lap_id : (n : ℕ) → n % wrap % 65536 ≡ n % 65536
lap_id n = mod-mod_of_dvd 65536 n (dvd_of_mod-eq-zero 65536 refl)

data_mod : (i j g fl m : ℕ) → i % 65536 ≡ j % 65536 → data_for i g fl m ≡ data_for j g fl m
unfolding data_for
data_mod i j g fl m h = rw h

later_mod : (l frame : List ℕ) (i j : ℕ) → i % 65536 ≡ j % 65536 → later_for i l frame ≡ later_for j l frame
later_mod [] frame i j h = refl
later_mod (g ∷ l) frame i j h =
    let a = data_mod i j g (flags_for (others l) false) (length (take 4096 frame)) h in
    let b = later_mod l (drop 4096 frame) (suc i) (suc j) (suc-mod i 65536 ∙ ap (λ (x : ℕ). suc x % 65536) h ∙ sym (suc-mod j 65536)) in
    λ k. a k ∷ b k

pub later_wadd : (l frame : List ℕ) (c i : ℕ) → later_for (wadd c i) l frame ≡ later_for (c + i) l frame
unfolding wadd
later_wadd l frame c i = later_mod l frame ((c + i) % wrap) (c + i) (lap_id (c + i))

-- ---- the loop over the later slots

pub others_ltb : (l : List ℕ) → others l ≡ ltb 0 (length l)
others_ltb [] = refl
others_ltb (g ∷ l) = sym (lt-ltb 0 (suc (length l)) (omega arith))

module _ (l frame : List ℕ) (first : ℕ) where
  -- what is left of the loop from the later reference i on
  abbrev pub left_later : List ℕ → ℕ → List ℕ
  left_later ring i = with_slots 12 256 ring (first + i) (later_for (first + i) (drop i l) (drop (4096 * (i + 1)) frame))

  pub later_next : (ring next : List ℕ) (i n fl m : ℕ) → i < length l → n ≡ wadd first i → fl ≡ flags_for (ltb (i + 1) (length l)) false → m ≡ min 4096 (length frame - 4096 * (i + 1))
      → next ≡ splice ring (slot_place 12 256 n) (data_for n (get_or l i 0) fl m) → left_later ring i ≡ left_later next (i + 1)
  unfolding wadd
  later_next ring next i n fl m h a f s q =
      let k = first + i in
      let at = 4096 * (i + 1) in
      let z : first + (i + 1) ≡ suc k = omega arith in
      let w : at + 4096 ≡ 4096 * (i + 1 + 1) = omega arith in
      let o : others (drop (i + 1) l) ≡ ltb (i + 1) (length l) = others_ltb (drop (i + 1) l) ∙ ap (ltb 0) (length-drop (i + 1) l ∙ ap (length l -◌) (add-one i)) ∙ follows i (length l) in
      let size : length (take 4096 (drop at frame)) ≡ m = length-take 4096 (drop at frame) ∙ ap (min 4096) (length-drop at frame) ∙ sym s in
      let rest : drop 4096 (drop at frame) ≡ drop (4096 * (i + 1 + 1)) frame = drop-drop 4096 at frame ∙ ap (λ (x : ℕ). drop x frame) w in
      let slot : data_for k (get_or l i 0) (flags_for (others (drop (i + 1) l)) false) (length (take 4096 (drop at frame))) ≡ data_for n (get_or l i 0) fl m
      = rw (o, ← f, size, a) (sym (data_mod (k % wrap) k (get_or l i 0) fl m (lap_id k))) in
      let place : slot_place 12 256 k ≡ slot_place 12 256 n = sym (place_ahead 12 256 refl ring first n i a) in
      let cut : drop i l ≡ get_or l i 0 ∷ drop (i + 1) l = drop-cons l i 0 h ∙ ap (λ (x : ℕ). get_or l i 0 ∷ drop x l) (sym (add-one i)) in
      ap (λ (x : List ℕ). with_slots 12 256 ring k (later_for k x (drop at frame))) cut
      ∙ (λ j. with_slots 12 256 (splice ring (place j) (slot j)) (suc k) (later_for (suc k) (drop (i + 1) l) (rest j)))
      ∙ (λ j. with_slots 12 256 (sym q j) (sym z j) (later_for (sym z j) (drop (i + 1) l) (drop (4096 * (i + 1 + 1)) frame)))

  pub later_last : (ring : List ℕ) (i : ℕ) → length l ≤ i → left_later ring i ≡ ring
  later_last ring i h = rw (drop_of_length-le l {i = i} h) refl

  pub later_first : (ring : List ℕ) → with_slots 12 256 ring first (later_for first l (drop 4096 frame)) ≡ left_later ring 0
  later_first ring = rw (add-zero first) refl
