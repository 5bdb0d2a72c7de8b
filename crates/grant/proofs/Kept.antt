-- What stays of grants and pages. A word and a page that are the same bytes are read alike, so a grant that was fit still is; and bytes
-- written to a page stand at its front and leave every other page.
use mathlib.Core.Path.{◌≡◌, refl, sym, ap, ◌∙◌}
use mathlib.Core.Logic.{◌≢◌, ⊎_elim}
use mathlib.Core.List.{List, ◌++◌, append_assoc}
use mathlib.Core.Bool.{true}
use Prim.Native.Nat.{ℕ, ◌+◌, ◌*◌, ◌/◌, ◌≤◌, ◌<◌}
use native.Mathlib.Omega.{arith}
use lib.ListN.{length, take, drop, get_or, length-take, length-drop}
use lib.Seq.{take-take, get_or-take, get_or-drop, take_at, drop_at}
use borrow.Author.Tests.{le-leb}
use Rattle.words.specs.Word.{u16_at, u32_at, splice}
use Rattle.words.proofs.Word.{lt_or_ge, part_same, splice_length, splice_before, splice_after}
use Rattle.grant.specs.Grant.{has_word, word_bits, granted, page_of, range_start, range_length, range_end, range_in_page, in_range, usable, fit_transmit, page_part, with_page}
use Rattle.grant.specs.Lookup.{SameWord, SamePage}
use Rattle.grant.proofs.Grant.{word_in, has_word_lem, fit_word, fit_granted, fit_range}

-- ---- a word that stayed

module _ (table table' : List ℕ) (g : ℕ) (same : SameWord table table' g) where
  byte_same : (j i : ℕ) → j ≡ 8 * g + i → i < 8 → get_or table' j 0 ≡ get_or table j 0
  unfolding SameWord
  byte_same j i e h =
      ap (λ (x : ℕ). get_or table' x 0) e
      ∙ sym (get_or-drop (8 * g) table' i 0)
      ∙ sym (get_or-take 8 (drop (8 * g) table') i 0 h)
      ∙ ap (λ (l : List ℕ). get_or l i 0) same
      ∙ get_or-take 8 (drop (8 * g) table) i 0 h
      ∙ get_or-drop (8 * g) table i 0
      ∙ ap (λ (x : ℕ). get_or table x 0) (sym e)

  same_has : has_word table g ≡ true → has_word table' g ≡ true
  unfolding SameWord
  same_has h =
      let a : 8 * g + 8 ≤ length table = word_in table g h in
      let e : length (take 8 (drop (8 * g) table')) ≡ length (take 8 (drop (8 * g) table)) = ap length same in
      has_word_lem table' table' g
      (omega (arith, length-take 8 (drop (8 * g) table'), length-drop (8 * g) table', length-take 8 (drop (8 * g) table), length-drop (8 * g) table))

  same_bits : word_bits table' g ≡ word_bits table g
  unfolding word_bits u32_at
  same_bits = rw (byte_same (8 * g) 0 (omega arith) (omega arith), byte_same (8 * g + 1) 1 refl (omega arith), byte_same (8 * g + 2) 2 refl (omega arith), byte_same (8 * g + 3) 3 refl (omega arith))

  same_start : range_start table' g ≡ range_start table g
  unfolding range_start u16_at
  same_start = rw (byte_same (8 * g + 4) 4 refl (omega arith), byte_same (8 * g + 4 + 1) 5 (omega arith) (omega arith))

  same_end : range_end table' g ≡ range_end table g
  unfolding range_end range_length u16_at
  same_end = rw (same_start, byte_same (8 * g + 6) 6 refl (omega arith), byte_same (8 * g + 6 + 1) 7 (omega arith) (omega arith))

  pub same_named : page_of table' g ≡ page_of table g
  unfolding page_of
  same_named = ap (◌/ 4) same_bits

  -- the grant is still fit, if its page is still there
  pub same_fit : (window window' : List ℕ) → fit_transmit table window g ≡ true → 4096 * page_of table g + 4096 ≤ length window' → fit_transmit table' window' g ≡ true
  unfolding fit_transmit granted range_in_page usable
  same_fit window window' f u =
      rw (
        same_has (fit_word table window g f),
        same_named,
        same_bits,
        fit_granted table window g f,
        same_end,
        le-leb (range_end table g) 4096 (fit_range table window g f),
        le-leb (4096 * page_of table g + 4096) (length window') u,
      )

  pub same_range : (offset n : ℕ) → in_range table g offset n ≡ true → in_range table' g offset n ≡ true
  unfolding in_range
  same_range offset n h = rw (same_start, same_end) h

-- ---- a page that stayed

module _ (window window' : List ℕ) (p : ℕ) (same : SamePage window window' p) where
  -- so did its first bytes
  pub same_front : (n : ℕ) → n ≤ 4096 → page_part window' p 0 n ≡ page_part window p 0 n
  unfolding SamePage page_part
  same_front n h = sym (take-take n 4096 (drop (4096 * p + 0) window') h) ∙ ap (take n) same ∙ take-take n 4096 (drop (4096 * p + 0) window) h

  -- and it is still there
  pub same_there : 4096 * p + 4096 ≤ length window → 4096 * p + 4096 ≤ length window'
  unfolding SamePage page_part
  same_there h =
      let k : length (take 4096 (drop (4096 * p + 0) window')) ≡ length (take 4096 (drop (4096 * p + 0) window)) = ap length same in
      omega (arith, length-take 4096 (drop (4096 * p + 0) window'), length-drop (4096 * p + 0) window', length-take 4096 (drop (4096 * p + 0) window), length-drop (4096 * p + 0) window)

-- ---- a page that is written

module _ (window : List ℕ) (p : ℕ) (b : List ℕ) (there : 4096 * p + 4096 ≤ length window) (short : length b ≤ 4096) where
  pub page_length : length (with_page window p b) ≡ length window
  unfolding with_page
  page_length = splice_length window (4096 * p) b (omega arith)

  -- the bytes stand at its front
  pub page_here : page_part (with_page window p b) p 0 (length b) ≡ b
  unfolding page_part with_page splice
  page_here =
      let k : length (take (4096 * p) window) ≡ 4096 * p + 0 = length-take (4096 * p) window ∙ (omega arith) in
      let r = drop (4096 * p + length b) window in
      ap (λ (l : List ℕ). take (length b) (drop (4096 * p + 0) l)) (append_assoc (take (4096 * p) window) b r)
      ∙ ap (take (length b)) (drop_at (take (4096 * p) window) (b ++ r) (4096 * p + 0) k)
      ∙ take_at b r (length b) refl

  -- and every other page stays
  pub page_other : (q n : ℕ) → p ≢ q → n ≤ 4096 → page_part (with_page window p b) q 0 n ≡ page_part window q 0 n
  unfolding page_part with_page
  page_other q n d h =
      part_same (splice window (4096 * p) b) window (4096 * q + 0) n page_length
      (λ j x y. ⊎_elim
      (λ k. splice_after window (4096 * p) b (omega arith) j (omega arith))
      (λ k. splice_before window (4096 * p) b (omega arith) j (before k x y))
      (lt_or_ge p q))
    where
      before : {j : ℕ} → q ≤ p → 4096 * q + 0 ≤ j → j < 4096 * q + 0 + n → j < 4096 * p
      before {j} k x y = ⊎_elim (λ (l : q < p). (let m : q < p = l in omega arith)) (λ l. absurd (d (omega arith))) (lt_or_ge q p)
