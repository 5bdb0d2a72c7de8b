-- The laws of bytes and little-endian numbers in lists.
use mathlib.Core.Path.{◌≡◌, refl, sym, ap, ◌∙◌}
use mathlib.Core.Bool.{Bool, true, false, not, ◌&&◌, ◌||◌}
use lib.Dec.{ltb}
use borrow.Author.Tests.{ltb-true}
use mathlib.Core.Logic.{◌≢◌, ◌⊎◌, inl, inr, ⊎_elim}
use mathlib.Core.List.{List, [], ◌∷◌, ◌++◌, append-nil, append_assoc}
use Prim.Native.Nat.{ℕ, zero, suc, ◌+◌, ◌-◌, ◌*◌, ◌/◌, ◌%◌, ◌≤◌, ◌<◌}
use native.Mathlib.Nat.{div-div-eq-div-mul, zero-add, add-zero, add_assoc}
use native.Mathlib.Numerals.{add-one, add-two, add-three}
use native.Mathlib.Omega.{arith}
use lib.ListN.{length, take, drop, get_or, set, length-append, length-take, length-drop, get_or-append, get_or-eq_default, drop_of_length-le, take-append-drop}
use lib.Seq.{get_or-take, get_or-drop, get_or-append-add, ext_get_or, length-take-le, sets-eq, drop-cons, set_at, append_snoc, drop-drop, drop-append-add, take_at}
use Rattle.words.specs.Word.{Bytes, u16_at, u32_at, u16_bytes, u32_bytes, splice}

-- one of two numbers is the smaller
pub lt_or_ge : (a b : ℕ) → (a < b) ⊎ (b ≤ a)
lt_or_ge a zero = inr (omega arith)
lt_or_ge zero (suc b) = inl (omega arith)
lt_or_ge (suc a) (suc b) = ⊎_elim (λ h. inl (omega arith)) (λ h. inr (omega arith)) (lt_or_ge a b)

pub same_or_not : (i j : ℕ) → (i ≡ j) ⊎ (i ≢ j)
same_or_not zero zero = inl refl
same_or_not zero (suc j) = inr (λ h. omega arith)
same_or_not (suc i) zero = inr (λ h. omega arith)
same_or_not (suc i) (suc j) = ⊎_elim (λ h. inl (ap suc h)) (λ h. inr (λ k. h (omega arith))) (same_or_not i j)

-- anything follows where 0 is 1; `cc` shows it wherever two different constructors are said to be equal
pub no_confusion : {A : Type 0} → ◌≡◌ {A = ℕ} 0 1 → A
no_confusion h = absurd (omega arith)

-- of a test that is two tests
pub and_both : (a b : Bool) → a && b ≡ true → (a ≡ true) × (b ≡ true)
and_both true b h = (refl, h)
and_both false b h = no_confusion cc

pub or_none : (a b : Bool) → a || b ≡ false → (a ≡ false) × (b ≡ false)
or_none true b h = no_confusion cc
or_none false b h = (refl, h)

pub true_and : (a b : Bool) → a ≡ true → b ≡ true → a && b ≡ true
true_and a b h k = rw (h, k)

-- a test passes or not, and not both
pub either : (b : Bool) → (b ≡ true) ⊎ (b ≡ false)
either true = inl refl
either false = inr refl

pub clash : {b : Bool} → b ≡ true → b ≡ false → ⊥
clash h k = no_confusion cc

-- of a test that is asked only where another passes
pub implied : (a b : Bool) → (a ≡ true → b ≡ true) → not a || b ≡ true
implied true b f = f refl
implied false b f = refl

pub implies : (a b : Bool) → not a || b ≡ true → a ≡ true → b ≡ true
implies true b h k = h
implies false b h k = no_confusion cc

-- ---- splice

module _ (l : List ℕ) (i : ℕ) (b : List ℕ) (fits : i + length b ≤ length l) where
  pub splice_length : length (splice l i b) ≡ length l
  unfolding splice
  splice_length = simp (length-append, length-take, length-drop) (omega arith)

  -- bytes outside stay
  pub splice_before : (j : ℕ) → j < i → get_or (splice l i b) j 0 ≡ get_or l j 0
  unfolding splice
  splice_before j h =
      let k : length (take i l) ≡ i = length-take-le i l (omega arith) in
      get_or-append (take i l ++ b) (drop (i + length b) l) 0 j (omega (arith, length-append (take i l) b))
      ∙ get_or-append (take i l) b 0 j (omega arith)
      ∙ get_or-take i l j 0 h

  pub splice_after : (j : ℕ) → i + length b ≤ j → get_or (splice l i b) j 0 ≡ get_or l j 0
  unfolding splice
  splice_after j h =
      let k : length (take i l ++ b) ≡ i + length b = length-append (take i l) b ∙ ap (◌+ length b) (length-take-le i l (omega arith)) in
      let e : j ≡ length (take i l ++ b) + (j - (i + length b)) = omega arith in
      ap (λ (n : ℕ). get_or (take i l ++ b ++ drop (i + length b) l) n 0) e
      ∙ get_or-append-add (take i l ++ b) (drop (i + length b) l) (j - (i + length b)) 0
      ∙ get_or-drop (i + length b) l (j - (i + length b)) 0
      ∙ ap (λ (n : ℕ). get_or l n 0) (omega arith)

  -- bytes inside are those written
  pub splice_inside : (j : ℕ) → j < length b → get_or (splice l i b) (i + j) 0 ≡ get_or b j 0
  unfolding splice
  splice_inside j h =
      let k : length (take i l) ≡ i = length-take-le i l (omega arith) in
      get_or-append (take i l ++ b) (drop (i + length b) l) 0 (i + j) (omega (arith, length-append (take i l) b))
      ∙ ap (λ (n : ℕ). get_or (take i l ++ b) (n + j) 0) (sym k)
      ∙ get_or-append-add (take i l) b j 0

-- nothing written
pub splice_none : (l : List ℕ) (i : ℕ) → splice l i [] ≡ l
unfolding splice
splice_none l i = rw (add-zero i, append-nil (take i l)) (take-append-drop i l)

-- one more behind what was written
pub splice_more : (l : List ℕ) (i : ℕ) (b : List ℕ) (v n : ℕ) → n ≡ i + length b → n < length l → set (splice l i b) n v ≡ splice l i (b ++ (v ∷ []))
unfolding splice
splice_more l i b v n e h =
    let k : length (take i l ++ b) ≡ n = length-append (take i l) b ∙ ap (◌+ length b) (length-take-le i l (omega arith)) ∙ sym e in
    let m : i + length (b ++ (v ∷ [])) ≡ suc n = ap (i +◌) (length-append b (v ∷ [])) ∙ (omega arith) in
    ap (λ (x : ℕ). set (take i l ++ b ++ drop x l) n v) (sym e)
    ∙ ap (λ (r : List ℕ). set (take i l ++ b ++ r) n v) (drop-cons l n 0 h)
    ∙ set_at (take i l ++ b) (get_or l n 0) (drop (suc n) l) v n k
    ∙ sym (append_snoc (take i l ++ b) v (drop (suc n) l))
    ∙ rw (m, append_assoc (take i l) b (v ∷ []))

-- what is written right behind what was written
pub splice_join : (l : List ℕ) (i : ℕ) (a b : List ℕ) (n : ℕ) → n ≡ i + length a → n ≤ length l → splice (splice l i a) n b ≡ splice l i (a ++ b)
unfolding splice
splice_join l i a b n e h =
    let k : length (take i l ++ a) ≡ n = length-append (take i l) a ∙ ap (◌+ length a) (length-take-le i l (omega arith)) ∙ sym e in
    let front : take n (take i l ++ a ++ drop (i + length a) l) ≡ take i l ++ a = take_at (take i l ++ a) (drop (i + length a) l) n k in
    let behind : drop (n + length b) (take i l ++ a ++ drop (i + length a) l) ≡ drop (i + length (a ++ b)) l
    = ap (λ (x : ℕ). drop (x + length b) (take i l ++ a ++ drop (i + length a) l)) (sym k)
    ∙ drop-append-add (take i l ++ a) (drop (i + length a) l) (length b)
    ∙ drop-drop (length b) (i + length a) l
    ∙ ap (λ (x : ℕ). drop x l) (add_assoc i (length a) (length b) ∙ ap (i +◌) (sym (length-append a b))) in
    rw (front, behind, append_assoc (take i l) a b)

-- two stores, and four, are one splice
pub two_stores : (l : List ℕ) (i a b : ℕ) → i + 2 ≤ length l → set (set l i a) (i + 1) b ≡ splice l i (a ∷ b ∷ [])
unfolding splice
two_stores l i a b h = rw add-one (sets-eq (a ∷ b ∷ []) l i h)

pub four_stores : (l : List ℕ) (i a b c d : ℕ) → i + 4 ≤ length l → set (set (set (set l i a) (i + 1) b) (i + 2) c) (i + 3) d ≡ splice l i (a ∷ b ∷ c ∷ d ∷ [])
unfolding splice
four_stores l i a b c d h = rw (add-one, add-two, add-three) (sets-eq (a ∷ b ∷ c ∷ d ∷ []) l i h)

-- all of a list written over
pub splice_all : (l b : List ℕ) → length l ≡ length b → splice l 0 b ≡ b
unfolding splice
splice_all l b h =
    let none : drop (0 + length b) l ≡ [] = drop_of_length-le l {i = 0 + length b} (omega arith) in
    rw none (append-nil b)

-- bytes copied over a part of l that is as long: written over what stands there
pub part_written : (l b : List ℕ) (a n : ℕ) → n ≡ length b → a ≤ length l → take a l ++ (splice (take n (drop a l)) 0 b ++ drop n (drop a l)) ≡ splice l a b
unfolding splice
part_written l b a n e h =
    let none : drop (length b) (take n (drop a l)) ≡ [] = drop_of_length-le (take n (drop a l)) {i = length b} (omega (arith, length-take n (drop a l))) in
    rw (zero-add, none, append-nil b, drop-drop n a l, e) (sym (append_assoc (take a l) b (drop (a + length b) l)))

-- ---- parts of a list

-- two lists of one length that agree on a part have the same part
pub part_same : (l m : List ℕ) (a w : ℕ) → length l ≡ length m → ((j : ℕ) → a ≤ j → j < a + w → get_or l j 0 ≡ get_or m j 0) → take w (drop a l) ≡ take w (drop a m)
part_same l m a w h f =
    ext_get_or 0 (take w (drop a l)) (take w (drop a m))
    (simp (length-take, length-drop) (omega arith))
    (λ j k.
    let n : j < w = omega (arith, length-take w (drop a l)) in
    get_or-take w (drop a l) j 0 n ∙ get_or-drop a l j 0 ∙ f (a + j) (omega arith) (omega arith) ∙ sym (get_or-drop a m j 0) ∙ sym (get_or-take w (drop a m) j 0 n))

-- a 32-bit number where two lists agree
pub u32_same : (l m : List ℕ) (a : ℕ) → ((j : ℕ) → a ≤ j → j < a + 4 → get_or l j 0 ≡ get_or m j 0) → u32_at l a ≡ u32_at m a
unfolding u32_at
u32_same l m a f = rw (f a (omega arith) (omega arith), f (a + 1) (omega arith) (omega arith), f (a + 2) (omega arith) (omega arith), f (a + 3) (omega arith) (omega arith))

-- ---- numbers written and read back

-- two 16-bit numbers side by side are one of 32 bits
pub pair_bytes : (x y : ℕ) → x < 65536 → y < 65536 → u32_bytes (x + 65536 * y) ≡ u16_bytes x ++ u16_bytes y
unfolding u32_bytes u16_bytes
pair_bytes x y h g =
    let low : (x + 65536 * y) / 256 ≡ x / 256 + 256 * y = omega arith in
    let high : (x + 65536 * y) / 65536 ≡ y = omega arith in
    let top : (x + 65536 * y) / 16777216 ≡ y / 256 = sym (div-div-eq-div-mul (x + 65536 * y) 65536 256) ∙ ap (◌/ 256) high in
    let a : (x + 65536 * y) % 256 ≡ x % 256 = omega arith in
    let b : (x + 65536 * y) / 256 % 256 ≡ x / 256 % 256 = rw low (omega arith) in
    let c : (x + 65536 * y) / 65536 % 256 ≡ y % 256 = ap (◌% 256) high in
    let d : (x + 65536 * y) / 16777216 % 256 ≡ y / 256 % 256 = ap (◌% 256) top in
    λ i. a i ∷ b i ∷ c i ∷ d i ∷ []

pub u16_stored : (l : List ℕ) (i x : ℕ) → i + 2 ≤ length l → u16_at (splice l i (u16_bytes x)) i ≡ x % 65536
unfolding u16_at u16_bytes
u16_stored l i x h =
    let b : List ℕ = x % 256 ∷ x / 256 % 256 ∷ [] in
    let e0 : get_or (splice l i b) (i + 0) 0 ≡ x % 256 = splice_inside l i b h 0 (omega arith) in
    let e1 : get_or (splice l i b) (i + 1) 0 ≡ x / 256 % 256 = splice_inside l i b h 1 (omega arith) in
    let z : i + 0 ≡ i = omega arith in
    rw (rw z at e0, e1) (omega arith)

-- a number's low 16 bits, by their bytes; its low 32 bits, by halves
two_bytes : (x : ℕ) → x % 256 + 256 * (x / 256 % 256) ≡ x % 65536
two_bytes x = omega arith

two_halves : (x : ℕ) → x % 65536 + 65536 * (x / 65536 % 65536) ≡ x % 4294967296
two_halves x = omega arith

pub four_bytes : (x : ℕ) → x % 256 + 256 * (x / 256 % 256) + 65536 * (x / 65536 % 256) + 16777216 * (x / 16777216 % 256) ≡ x % 4294967296
four_bytes x =
    let low : x % 256 + 256 * (x / 256 % 256) ≡ x % 65536 = two_bytes x in
    let high : x / 65536 % 256 + 256 * (x / 65536 / 256 % 256) ≡ x / 65536 % 65536 = two_bytes (x / 65536) in
    let same : x / 65536 / 256 ≡ x / 16777216 = div-div-eq-div-mul x 65536 256 in
    join (x % 256 + 256 * (x / 256 % 256)) (x % 65536) (x / 65536 % 256) (x / 16777216 % 256) (x / 65536 % 65536) (x % 4294967296) low (rw same at high) (two_halves x)
  where
    join : (a a' b c h w : ℕ) → a ≡ a' → b + 256 * c ≡ h → a' + 65536 * h ≡ w → a + 65536 * b + 16777216 * c ≡ w
    join a a' b c h w p q r = omega arith

pub u32_stored : (l : List ℕ) (i x : ℕ) → i + 4 ≤ length l → u32_at (splice l i (u32_bytes x)) i ≡ x % 4294967296
unfolding u32_at u32_bytes
u32_stored l i x h =
    let b : List ℕ = x % 256 ∷ x / 256 % 256 ∷ x / 65536 % 256 ∷ x / 16777216 % 256 ∷ [] in
    let e0 : get_or (splice l i b) (i + 0) 0 ≡ x % 256 = splice_inside l i b h 0 (omega arith) in
    let e1 : get_or (splice l i b) (i + 1) 0 ≡ x / 256 % 256 = splice_inside l i b h 1 (omega arith) in
    let e2 : get_or (splice l i b) (i + 2) 0 ≡ x / 65536 % 256 = splice_inside l i b h 2 (omega arith) in
    let e3 : get_or (splice l i b) (i + 3) 0 ≡ x / 16777216 % 256 = splice_inside l i b h 3 (omega arith) in
    let z : i + 0 ≡ i = omega arith in
    rw (rw z at e0, e1, e2, e3) (four_bytes x)

-- ---- lists of bytes

-- a computed list of bytes, by a test
abbrev pub all_bytes : List ℕ → Bool
all_bytes [] = true
all_bytes (x ∷ l) = ltb x 256 && all_bytes l

pub bytes_of : (l : List ℕ) → all_bytes l ≡ true → Bytes l
unfolding Bytes
bytes_of [] h i = omega arith
bytes_of (x ∷ l) h zero = ltb-true x 256 (and_both (ltb x 256) (all_bytes l) h).0
bytes_of (x ∷ l) h (suc i) = bytes_of l (and_both (ltb x 256) (all_bytes l) h).1 i

bytes_none : Bytes []
unfolding Bytes
bytes_none i = omega arith

pub bytes_cons : (x : ℕ) (l : List ℕ) → x < 256 → Bytes l → Bytes (x ∷ l)
unfolding Bytes
bytes_cons x l h k zero = h
bytes_cons x l h k (suc i) = k i

pub bytes_append : (l m : List ℕ) → Bytes l → Bytes m → Bytes (l ++ m)
unfolding Bytes
bytes_append [] m h k = k
bytes_append (x ∷ l) m h k = bytes_cons x (l ++ m) (h 0) (bytes_append l m (λ i. h (suc i)) k)

low : (x : ℕ) → x % 256 < 256
low x = omega arith

pub bytes_u16 : (x : ℕ) → Bytes (u16_bytes x)
unfolding u16_bytes
bytes_u16 x = bytes_cons _ _ (low x) (bytes_cons _ _ (low (x / 256)) bytes_none)

pub bytes_u32 : (x : ℕ) → Bytes (u32_bytes x)
unfolding u32_bytes
bytes_u32 x = bytes_cons _ _ (low x) (bytes_cons _ _ (low (x / 256)) (bytes_cons _ _ (low (x / 65536)) (bytes_cons _ _ (low (x / 16777216)) bytes_none)))

-- bytes written over bytes
pub bytes_spliced : (l b : List ℕ) (i : ℕ) → i + length b ≤ length l → Bytes l → Bytes b → Bytes (splice l i b)
unfolding Bytes
bytes_spliced l b i fits h k j = ⊎_elim
    (λ g. rw (splice_before l i b fits j g) (h j))
    (λ g. ⊎_elim (λ f. inside g f) (λ f. rw (splice_after l i b fits j f) (h j)) (lt_or_ge j (i + length b)))
    (lt_or_ge j i)
  where
    inside : i ≤ j → j < i + length b → get_or (splice l i b) j 0 < 256
    inside g f =
        let e : j ≡ i + (j - i) = omega arith in
        let s : get_or (splice l i b) j 0 ≡ get_or b (j - i) 0 = ap (λ (x : ℕ). get_or (splice l i b) x 0) e ∙ splice_inside l i b fits (j - i) (omega arith) in
        rw s (k (j - i))

module _ (l : List ℕ) (bytes : Bytes l) where
  pub u16_small : (i : ℕ) → u16_at l i < 65536
  unfolding u16_at Bytes
  u16_small i = omega (arith, bytes i, bytes (i + 1))

  pub u32_small : (i : ℕ) → u32_at l i < 4294967296
  unfolding u32_at Bytes
  u32_small i = omega (arith, bytes i, bytes (i + 1), bytes (i + 2), bytes (i + 3))

  pub drop_bytes : (n : ℕ) → Bytes (drop n l)
  unfolding Bytes
  drop_bytes n i = rw get_or-drop (bytes (n + i))

  pub take_bytes : (n : ℕ) → Bytes (take n l)
  unfolding Bytes
  take_bytes n i = ⊎_elim
      (λ h. rw (get_or-take n l i 0 h) (bytes i))
      (λ h. rw (get_or-eq_default (take n l) 0 {n = i} (omega (arith, length-take n l))) (omega arith))
      (lt_or_ge i n)
