-- The laws of the ring page, over the slot's width and the number of slots.
use Rattle.std.proofs.Common.{◌≡◌, ℕ, zero, suc, ◌+◌, ◌*◌, ◌/◌, ◌%◌, ◌<◌, ◌≤◌, ◌≢◌, ◌⊎◌, List, [], ◌∷◌, ◌++◌, map, length, get_or, take, drop, sym, refl, ap, ◌∙◌, inl, inr, ⊎_elim, add-zero, add_assoc, add-suc, mod-lt, suc-add, mul-le-mul_left, zero-add, arith, length-drop, length-take, get_or-drop, get_or-take, take_at, ext_get_or, drop_at}
use native.Mathlib.Nat.{add-mod_right, div-add-mod, suc-mod, mod-mod_of_dvd, dvd_of_mod-eq-zero}
use Rattle.words.specs.Word.{Bytes, u16_at, u32_at, splice}
use Rattle.words.proofs.Word.{lt_or_ge, splice_length, splice_before, splice_after, splice_inside, part_same, take_bytes, drop_bytes}
use Rattle.ring.specs.Ring.{wrap, slot_place, slot_at, slots_from, with_slots}

-- ---- slots of different places, over the width and the count

-- the same remainder within one turn of the ring: the same number
pub same_turn : (n i j : ℕ) → i ≤ j → j < n + i → i % n ≡ j % n → i ≡ j
same_turn n i j h g e =
    let a : n * (i / n) + i % n ≡ i = div-add-mod i n in
    let b : n * (j / n) + j % n ≡ j = div-add-mod j n in
    go (i / n) (j / n) (omega arith) (omega arith)
  where
    go : (p q : ℕ) → n * p + i % n ≡ i → n * q + i % n ≡ j → i ≡ j
    go p q a b = ⊎_elim (λ k. absurd (omega (arith, mul-le-mul_left n k))) (λ k. omega (arith, mul-le-mul_left n k)) (lt_or_ge p q)

module _ (w n : ℕ) where
  -- of two places, one ends before the other begins
  pub places_apart : (i j : ℕ) → i % n ≢ j % n → (slot_place w n i + w ≤ slot_place w n j) ⊎ (slot_place w n j + w ≤ slot_place w n i)
  unfolding slot_place
  places_apart i j h = ⊎_elim (λ k. inl (omega (arith, mul-le-mul_left w k))) (λ k. inr (omega (arith, mul-le-mul_left w (after k)))) (lt_or_ge (i % n) (j % n))
    where
      after : j % n ≤ i % n → suc (j % n) ≤ i % n
      after k = omega arith

  -- a place lies on the page
  pub place_fits : (i page : ℕ) → 0 < n → 64 + w * n ≤ page → slot_place w n i + w ≤ page
  unfolding slot_place
  place_fits i page h g = omega (arith, mul-le-mul_left w (mod-lt i h))

  -- slots whose numbers have one remainder are one slot
  pub slot_mod : (page : List ℕ) (i j : ℕ) → i % n ≡ j % n → slot_at w n page i ≡ slot_at w n page j
  unfolding slot_at slot_place
  slot_mod page i j h = rw h

  -- a slot of a page of bytes is bytes
  pub slot_bytes : (page : List ℕ) → Bytes page → (i : ℕ) → Bytes (slot_at w n page i)
  unfolding slot_at
  slot_bytes page h i = take_bytes (drop (slot_place w n i) page) (drop_bytes page h (slot_place w n i)) w

  pub slots_mod : (page : List ℕ) (k i j : ℕ) → i % n ≡ j % n → slots_from w n page i k ≡ slots_from w n page j k
  slots_mod page zero i j h = refl
  slots_mod page (suc k) i j h =
      let a : slot_at w n page i ≡ slot_at w n page j = slot_mod page i j h in
      let b : slots_from w n page (suc i) k ≡ slots_from w n page (suc j) k = slots_mod page k (suc i) (suc j) (suc-mod i n ∙ ap (λ (x : ℕ). suc x % n) h ∙ sym (suc-mod j n)) in
      cc

  -- a counter that wraps goes on to the same slots
  pub slot_wrap : (page : List ℕ) (i : ℕ) → wrap % n ≡ 0 → slot_at w n page (i % wrap) ≡ slot_at w n page i
  slot_wrap page i h = slot_mod page (i % wrap) i (mod-mod_of_dvd n i (dvd_of_mod-eq-zero n h))

  pub place_wrap : (i : ℕ) → wrap % n ≡ 0 → slot_place w n (i % wrap) ≡ slot_place w n i
  unfolding slot_place
  place_wrap i h = rw (mod-mod_of_dvd n i (dvd_of_mod-eq-zero n h))

  pub slots_wrap : (page : List ℕ) (k i : ℕ) → wrap % n ≡ 0 → slots_from w n page (i % wrap) k ≡ slots_from w n page i k
  slots_wrap page k i h = slots_mod page k (i % wrap) i (mod-mod_of_dvd n i (dvd_of_mod-eq-zero n h))

  pub slots_length : (page : List ℕ) (k i : ℕ) → length (slots_from w n page i k) ≡ k
  slots_length page zero i = refl
  slots_length page (suc k) i = ap suc (slots_length page k (suc i))

  pub slots_split : (page : List ℕ) (j k i : ℕ) → slots_from w n page i (j + k) ≡ slots_from w n page i j ++ slots_from w n page (i + j) k
  slots_split page zero k i = rw (zero-add, add-zero)
  slots_split page (suc j) k i = rw (suc-add, add-suc, ← suc-add) (ap (slot_at w n page i ∷◌) (slots_split page j k (suc i)))

  pub slots_snoc : (page : List ℕ) (k i : ℕ) → slots_from w n page i (k + 1) ≡ slots_from w n page i k ++ (slot_at w n page (i + k) ∷ [])
  slots_snoc page k i = slots_split page k 1 i

  pub slots_same : (p q : List ℕ) (k i : ℕ) → ((j : ℕ) → i ≤ j → j < i + k → slot_at w n p j ≡ slot_at w n q j) → slots_from w n p i k ≡ slots_from w n q i k
  slots_same p q zero i f = refl
  slots_same p q (suc k) i f =
      let a : slot_at w n p i ≡ slot_at w n q i = f i (omega arith) (omega arith) in
      let b : slots_from w n p (suc i) k ≡ slots_from w n q (suc i) k = slots_same p q k (suc i) (λ j g h. f j (omega arith) (omega arith)) in
      cc

  -- one of the slots; the slots from it on
  pub slots_at : (page : List ℕ) (k i j : ℕ) → j < k → get_or (slots_from w n page i k) j [] ≡ slot_at w n page (i + j)
  slots_at page zero i j h = absurd (omega arith)
  slots_at page (suc k) i zero h = rw add-zero
  slots_at page (suc k) i (suc j) h = slots_at page k (suc i) j (omega arith) ∙ ap (slot_at w n page) (omega arith)

  pub slots_drop : (page : List ℕ) (j k i : ℕ) → drop j (slots_from w n page i (j + k)) ≡ slots_from w n page (i + j) k
  slots_drop page j k i =
      ap (drop j) (slots_split page j k i) ∙ drop_at (slots_from w n page i j) (slots_from w n page (i + j) k) j (slots_length page j i)

  pub slots_take : (page : List ℕ) (j k i : ℕ) → take j (slots_from w n page i (j + k)) ≡ slots_from w n page i j
  slots_take page j k i =
      ap (take j) (slots_split page j k i) ∙ take_at (slots_from w n page i j) (slots_from w n page (i + j) k) j (slots_length page j i)

  -- a byte of a slot, off the page; so too for numbers
  pub slot_byte : (page : List ℕ) (i j : ℕ) → j < w → get_or (slot_at w n page i) j 0 ≡ get_or page (slot_place w n i + j) 0
  unfolding slot_at
  slot_byte page i j h = get_or-take w (drop (slot_place w n i) page) j 0 h ∙ get_or-drop (slot_place w n i) page j 0

  pub slot_u16 : (page : List ℕ) (i j : ℕ) → j + 2 ≤ w → u16_at (slot_at w n page i) j ≡ u16_at page (slot_place w n i + j)
  unfolding u16_at
  slot_u16 page i j h = rw (slot_byte page i j (omega arith), slot_byte page i (j + 1) (omega arith), add_assoc)

  pub slot_u32 : (page : List ℕ) (i j : ℕ) → j + 4 ≤ w → u32_at (slot_at w n page i) j ≡ u32_at page (slot_place w n i + j)
  unfolding u32_at
  slot_u32 page i j h =
      simp (slot_byte page i j (omega arith), slot_byte page i (j + 1) (omega arith), slot_byte page i (j + 2) (omega arith), slot_byte page i (j + 3) (omega arith), add_assoc)

  -- replies one after the other
  pub replies_append : (a b : List (List ℕ)) (page : List ℕ) (i : ℕ) → with_slots w n page i (a ++ b) ≡ with_slots w n (with_slots w n page i a) (i + length a) b
  replies_append [] b page i = rw (add-zero i)
  replies_append (r ∷ a) b page i =
      replies_append a b (splice page (slot_place w n i) r) (suc i) ∙ ap (λ (j : ℕ). with_slots w n (with_slots w n (splice page (slot_place w n i) r) (suc i) a) j b) (omega arith)

  -- one more reply
  pub replies_more : (rs : List (List ℕ)) (page : List ℕ) (i : ℕ) (r : List ℕ) → with_slots w n page i (rs ++ (r ∷ [])) ≡ splice (with_slots w n page i rs) (slot_place w n (i + length rs)) r
  replies_more rs page i r = replies_append rs (r ∷ []) page i

-- replies that fit their slots
abbrev pub Short : ℕ → List (List ℕ) → Type 0
Short w [] = Unit {0}
Short w (r ∷ rs) = (length r ≤ w) × Short w rs

pub short_map : {A : Type 0} (w : ℕ) (f : A → List ℕ) → ((x : A) → length (f x) ≤ w) → (l : List A) → Short w (map f l)
short_map w f h [] = tt
short_map w f h (x ∷ l) = (h x, short_map w f h l)

pub short_append : (w : ℕ) (a b : List (List ℕ)) → Short w a → Short w b → Short w (a ++ b)
short_append w [] b h k = k
short_append w (r ∷ a) b h k = (h.0, short_append w a b h.1 k)

pub short_take : (w : ℕ) (rs : List (List ℕ)) (i : ℕ) → Short w rs → Short w (take i rs)
short_take w rs zero h = tt
short_take w [] (suc i) h = tt
short_take w (r ∷ rs) (suc i) h = (h.0, short_take w rs i h.1)

module _ (w n : ℕ) (some : 0 < n) where
  module _ (page : List ℕ) (fits : 64 + w * n ≤ length page) (i : ℕ) (r : List ℕ) (short : length r ≤ w) where
    pub reply_fits : slot_place w n i + length r ≤ length page
    reply_fits = omega (arith, place_fits w n i (length page) some fits)

    pub reply_length : length (splice page (slot_place w n i) r) ≡ length page
    reply_length = splice_length page (slot_place w n i) r reply_fits

    pub reply_header : (j : ℕ) → j < 64 → get_or (splice page (slot_place w n i) r) j 0 ≡ get_or page j 0
    unfolding slot_place
    reply_header j h = splice_before page (slot_place w n i) r reply_fits j (omega arith)

    -- a reply leaves every other slot
    pub reply_slot : (j : ℕ) → i % n ≢ j % n → slot_at w n (splice page (slot_place w n i) r) j ≡ slot_at w n page j
    unfolding slot_at
    reply_slot j h =
        part_same (splice page (slot_place w n i) r) page (slot_place w n j) w reply_length
        (λ k a b. ⊎_elim
        (λ c. splice_after page (slot_place w n i) r reply_fits k (omega arith))
        (λ c. splice_before page (slot_place w n i) r reply_fits k (omega arith))
        (places_apart w n i j h))

  pub replies_length : (rs : List (List ℕ)) (page : List ℕ) (i : ℕ) → 64 + w * n ≤ length page → Short w rs → length (with_slots w n page i rs) ≡ length page
  replies_length [] page i f h = refl
  replies_length (r ∷ rs) page i f h =
      let e : length (splice page (slot_place w n i) r) ≡ length page = reply_length page f i r h.0 in
      replies_length rs (splice page (slot_place w n i) r) (suc i) (omega arith) h.1 ∙ e

  pub replies_header : (rs : List (List ℕ)) (page : List ℕ) (i : ℕ) → 64 + w * n ≤ length page → Short w rs
      → (j : ℕ) → j < 64 → get_or (with_slots w n page i rs) j 0 ≡ get_or page j 0
  replies_header [] page i f h j g = refl
  replies_header (r ∷ rs) page i f h j g =
      let e : length (splice page (slot_place w n i) r) ≡ length page = reply_length page f i r h.0 in
      replies_header rs (splice page (slot_place w n i) r) (suc i) (omega arith) h.1 j g ∙ reply_header page f i r h.0 j g

  -- and the bytes behind the slots
  pub replies_behind : (rs : List (List ℕ)) (page : List ℕ) (i : ℕ) → 64 + w * n ≤ length page → Short w rs
      → (j : ℕ) → 64 + w * n ≤ j → get_or (with_slots w n page i rs) j 0 ≡ get_or page j 0
  replies_behind [] page i f h j g = refl
  replies_behind (r ∷ rs) page i f h j g =
      let e : length (splice page (slot_place w n i) r) ≡ length page = reply_length page f i r h.0 in
      replies_behind rs (splice page (slot_place w n i) r) (suc i) (omega arith) h.1 j g
      ∙ splice_after page (slot_place w n i) r (reply_fits page f i r h.0) j (omega (arith, place_fits w n i (64 + w * n) some (omega arith), h.0))

  -- replies leave the slots behind them, as far as one turn of the ring
  pub replies_slot : (rs : List (List ℕ)) (page : List ℕ) (i : ℕ) → 64 + w * n ≤ length page → Short w rs
      → (j : ℕ) → i + length rs ≤ j → j < i + n → slot_at w n (with_slots w n page i rs) j ≡ slot_at w n page j
  replies_slot [] page i f h j g k = refl
  replies_slot (r ∷ rs) page i f h j g k =
      let e : length (splice page (slot_place w n i) r) ≡ length page = reply_length page f i r h.0 in
      replies_slot rs (splice page (slot_place w n i) r) (suc i) (omega arith) h.1 j (omega arith) (omega arith)
      ∙ reply_slot page f i r h.0 j (λ q. absurd (let z : i ≡ j = same_turn n i j (omega arith) (omega arith) q in omega arith))

  -- a slot's length, and a reply in its own slot: its first bytes, and the slot's others stay
  pub slot_length : (page : List ℕ) → 64 + w * n ≤ length page → (i : ℕ) → length (slot_at w n page i) ≡ w
  unfolding slot_at
  slot_length page f i = simp (length-take, length-drop) (omega (arith, place_fits w n i (length page) some f))

  pub reply_here : (page : List ℕ) → 64 + w * n ≤ length page → (i : ℕ) (r : List ℕ) → length r ≤ w → slot_at w n (splice page (slot_place w n i) r) i ≡ splice (slot_at w n page i) 0 r
  reply_here page f i r h =
      let e : length (splice page (slot_place w n i) r) ≡ length page = reply_length page f i r h in
      let size : length (slot_at w n page i) ≡ w = slot_length page f i in
      let size' : length (slot_at w n (splice page (slot_place w n i) r) i) ≡ w = slot_length (splice page (slot_place w n i) r) (omega arith) i in
      let fits : 0 + length r ≤ length (slot_at w n page i) = omega arith in
      ext_get_or 0 (slot_at w n (splice page (slot_place w n i) r) i) (splice (slot_at w n page i) 0 r) (size' ∙ sym (splice_length (slot_at w n page i) 0 r fits ∙ size))
      (λ j k.
      slot_byte w n (splice page (slot_place w n i) r) i j (omega arith)
      ∙ ⊎_elim
      (λ g. splice_inside page (slot_place w n i) r (reply_fits page f i r h) j g ∙ sym (ap (λ (x : ℕ). get_or (splice (slot_at w n page i) 0 r) x 0) (omega arith) ∙ splice_inside (slot_at w n page i) 0 r fits j g))
      (λ g.
      splice_after page (slot_place w n i) r (reply_fits page f i r h) (slot_place w n i + j) (omega arith)
      ∙ sym (splice_after (slot_at w n page i) 0 r fits j (omega arith) ∙ slot_byte w n page i j (omega arith)))
      (lt_or_ge j (length r)))

  -- each of at most one turn of replies stands in its slot
  pub replies_here : (rs : List (List ℕ)) (page : List ℕ) (i : ℕ) → 64 + w * n ≤ length page → Short w rs → length rs ≤ n
      → (j : ℕ) → j < length rs → slot_at w n (with_slots w n page i rs) (i + j) ≡ splice (slot_at w n page (i + j)) 0 (get_or rs j [])
  replies_here [] page i f h m j g = absurd (omega arith)
  replies_here (r ∷ rs) page i f h m zero g =
      let e : length (splice page (slot_place w n i) r) ≡ length page = reply_length page f i r h.0 in
      let z : i + 0 ≡ i = omega arith in
      rw z
      (slot_mod w n (with_slots w n (splice page (slot_place w n i) r) (suc i) rs) i (i + n) (turn_mod i)
      ∙ replies_slot rs (splice page (slot_place w n i) r) (suc i) (omega arith) h.1 (i + n) (omega arith) (omega arith)
      ∙ slot_mod w n (splice page (slot_place w n i) r) (i + n) i (sym (turn_mod i))
      ∙ reply_here page f i r h.0)
    where
      turn_mod : (i : ℕ) → i % n ≡ (i + n) % n
      turn_mod i = sym (add-mod_right i n)
  replies_here (r ∷ rs) page i f h m (suc j) g =
      let e : length (splice page (slot_place w n i) r) ≡ length page = reply_length page f i r h.0 in
      let z : i + suc j ≡ suc i + j = omega arith in
      rw z
      (replies_here rs (splice page (slot_place w n i) r) (suc i) (omega arith) h.1 (omega arith) j (omega arith)
      ∙ ap (λ (s : List ℕ). splice s 0 (get_or rs j []))
      (reply_slot page f i r h.0 (suc i + j) (λ q. absurd (let y : i ≡ suc i + j = same_turn n i (suc i + j) (omega arith) (omega arith) q in omega arith))))

  -- so do stores into the header
  pub header_slot : (page : List ℕ) (a : ℕ) (b : List ℕ) → a + length b ≤ 64 → 64 + w * n ≤ length page → (j : ℕ) → slot_at w n (splice page a b) j ≡ slot_at w n page j
  unfolding slot_at slot_place
  header_slot page a b h f j =
      let g : a + length b ≤ length page = omega arith in
      part_same (splice page a b) page (64 + w * (j % n)) w (splice_length page a b g)
      (λ k x y. splice_after page a b g k (omega arith))
