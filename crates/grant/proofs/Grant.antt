-- Laws of grants: what an answer says of the grant, that a part within the range of a fit grant lies in the window, and that it is a
-- part of what the grant covers. Each test of the code is one of the definitions', so an answer's law is one `rw`.
use Rattle.std.specs.Prelude.{Some, None, Ok, Err}
use mathlib.Core.Path.{◌≡◌, refl, sym, ap, ◌∙◌}
use mathlib.Core.List.{List}
use mathlib.Core.Bool.{Bool, true, false, cond, ◌&&◌}
use Prim.Native.Nat.{ℕ, ◌+◌, ◌-◌, ◌*◌, ◌/◌, ◌≤◌, ◌<◌}
use native.Mathlib.Omega.{arith}
use lib.ListN.{length, take, drop, length-take, length-drop}
use lib.Seq.{drop-drop}
use lib.Dec.{leb, eqb}
use borrow.Author.Tests.{leb-true, le-leb, lt-leb, eqb-true, eq-eqb}
use Rattle.words.specs.Word.{u32_at, bit}
use Rattle.words.proofs.Word.{no_confusion, and_both}
use Rattle.words.proofs.Lists.{part_part}
use Rattle.grant.specs.Grant.{has_word, word_bits, granted, writable, usable, page_of, range_start, range_length, range_end, range_in_page, whole_page, in_range, fit_transmit, fit_receive, page_part, window_part, range_of}
use Rattle.grant.specs.Lookup.{read_page, write_page, source_of, page_cause, source_cause, WithinGrant, LookedUp}
use Rattle.grant.specs.declared.Unlent.TheVariants.{Unfit, Outside}

pub and_false : (a : Bool) → a && false ≡ false
and_false true = refl
and_false false = refl

when_fit : (b : Bool) (n p : ℕ) → Some p ≡ cond b (Some n) None → (b ≡ true) × (p ≡ n)
when_fit true n p h = (refl, (cc))
when_fit false n p h = no_confusion cc

when_unfit : (b : Bool) (n : ℕ) → None ≡ cond b (Some n) None → b ≡ false
when_unfit true n h = no_confusion cc
when_unfit false n h = refl

-- a reference that has a word: the word lies in the table
pub word_in : (table : List ℕ) (g : ℕ) → has_word table g ≡ true → 8 * g + 8 ≤ length table
unfolding has_word
word_in table g h = leb-true (8 * g + 8) (length table) h

-- a range in the page that is as long as the page is the whole of it
pub whole_length : (table : List ℕ) (g : ℕ) → range_end table g ≤ 4096 → eqb (range_length table g) 4096 ≡ whole_page table g
unfolding whole_page range_end
whole_length table g h = go (eqb (range_length table g) 4096) refl
  where
    go : (b : Bool) → eqb (range_length table g) 4096 ≡ b → b ≡ eqb (range_start table g) 0 && b
    go true k = rw (eq-eqb (range_start table g) 0 (omega (arith, h, eqb-true (range_length table g) 4096 k)))
    go false k = sym (and_false (eqb (range_start table g) 0))

when_no_source : (f b : Bool) (p : ℕ) → Err Unfit ≡ cond f (cond b (Ok p) (Err Outside)) (Err Unfit) → f ≡ false
when_no_source true true p h = no_confusion cc
when_no_source true false p h = no_confusion cc
when_no_source false b p h = refl

when_outside : (f b : Bool) (p : ℕ) → Err Outside ≡ cond f (cond b (Ok p) (Err Outside)) (Err Unfit) → (f ≡ true) × (b ≡ false)
when_outside true true p h = no_confusion cc
when_outside true false p h = (refl, refl)
when_outside false b p h = no_confusion cc

when_at : (f b : Bool) (n p : ℕ) → Ok p ≡ cond f (cond b (Ok n) (Err Outside)) (Err Unfit) → (f ≡ true) × (b ≡ true) × (p ≡ n)
when_at true true n p h = (refl, refl, (cc))
when_at true false n p h = no_confusion cc
when_at false b n p h = no_confusion cc

module _ (table window : List ℕ) (g : ℕ) where
  -- ---- what the tests say

  -- a fit grant has a word, its range lies in the page and its page in the window
  module _ (fit : fit_transmit table window g ≡ true) where
    fit_both : (has_word table g && granted table g && range_in_page table g ≡ true) × (usable window (page_of table g) ≡ true)
    unfolding fit_transmit
    fit_both = and_both _ _ fit

    pub fit_word : has_word table g ≡ true
    fit_word = (and_both _ (granted table g) (and_both _ (range_in_page table g) fit_both.0).0).0

    pub fit_granted : granted table g ≡ true
    fit_granted = (and_both (has_word table g) _ (and_both _ (range_in_page table g) fit_both.0).0).1

    pub fit_range : range_end table g ≤ 4096
    unfolding range_in_page
    fit_range = leb-true (range_end table g) 4096 (and_both (has_word table g && granted table g) _ fit_both.0).1

    pub fit_page : 4096 * page_of table g + 4096 ≤ length window
    unfolding usable
    fit_page = leb-true (4096 * page_of table g + 4096) (length window) fit_both.1

  -- what is in range lies between the range's start and its end
  module _ (offset n : ℕ) (h : in_range table g offset n ≡ true) where
    range_from : range_start table g ≤ offset
    unfolding in_range
    range_from = leb-true (range_start table g) offset (and_both (leb (range_start table g) offset) _ h).0

    range_to : offset + n ≤ range_end table g
    unfolding in_range
    range_to = leb-true (offset + n) (range_end table g) (and_both (leb (range_start table g) offset) _ h).1

  -- ---- the answer of `fit_to_read`, test by test

  pub no_word : length table < 8 * g + 8 → None ≡ read_page table window g
  unfolding read_page fit_transmit has_word
  no_word h = rw (lt-leb (8 * g + 8) (length table) h)

  -- the reference has a word
  module _ (some : 8 * g + 8 ≤ length table) where
    pub has_word_lem : has_word table g ≡ true
    unfolding has_word
    has_word_lem = le-leb (8 * g + 8) (length table) some

    pub range_too_long : 4096 < range_end table g → None ≡ read_page table window g
    unfolding read_page fit_transmit range_in_page
    range_too_long h = rw (lt-leb (range_end table g) 4096 h, and_false (has_word table g && granted table g))

    module _ (w : ℕ) (reads : w ≡ u32_at table (8 * g)) where
      pub not_usable : length window < 4096 * (w / 4) + 4096 → None ≡ read_page table window g
      unfolding read_page fit_transmit usable page_of word_bits
      not_usable h = rw (← reads, lt-leb (4096 * (w / 4) + 4096) (length window) h, and_false (has_word table g && granted table g && range_in_page table g))

      pub not_granted : bit 0 w ≡ false → None ≡ read_page table window g
      unfolding read_page fit_transmit granted word_bits
      not_granted h = rw (← reads, h, and_false (has_word table g))

      pub is_fit : 4096 * (w / 4) + 4096 ≤ length window → bit 0 w ≡ true → range_end table g ≤ 4096 → Some (w / 4) ≡ read_page table window g
      unfolding read_page fit_transmit granted range_in_page usable page_of word_bits
      is_fit h b r = rw (← reads, has_word_lem, b, le-leb (range_end table g) 4096 r, le-leb (4096 * (w / 4) + 4096) (length window) h)

  -- ---- what it says

  pub read_fit : (p : ℕ) → Some p ≡ read_page table window g → (fit_transmit table window g ≡ true) × (p ≡ page_of table g)
  unfolding read_page
  read_fit p h = when_fit (fit_transmit table window g) (page_of table g) p h

  pub read_unfit : None ≡ read_page table window g → fit_transmit table window g ≡ false
  unfolding read_page
  read_unfit h = when_unfit (fit_transmit table window g) (page_of table g) h

  -- ---- the answers above it

  pub write_of : (f w : Bool) → fit_transmit table window g ≡ f → writable table g && whole_page table g ≡ w → write_page table window g ≡ cond (f && w) (Some (page_of table g)) None
  unfolding write_page fit_receive
  write_of f w h k = rw (h, k)

  pub write_fit : (p : ℕ) → Some p ≡ write_page table window g → (fit_receive table window g ≡ true) × (p ≡ page_of table g)
  unfolding write_page
  write_fit p h = when_fit (fit_receive table window g) (page_of table g) p h

  pub write_unfit : None ≡ write_page table window g → fit_receive table window g ≡ false
  unfolding write_page
  write_unfit h = when_unfit (fit_receive table window g) (page_of table g) h

  pub receive_transmit : fit_receive table window g ≡ true → fit_transmit table window g ≡ true
  unfolding fit_receive
  receive_transmit h = (and_both (fit_transmit table window g) (writable table g && whole_page table g) h).0

  -- what a grant fit for receive covers is its whole page
  pub receive_whole : fit_receive table window g ≡ true → range_of table window g ≡ window_part table window g 0 4096
  unfolding fit_receive whole_page
  receive_whole h =
      let (a, b) = and_both (eqb (range_start table g) 0) (eqb (range_length table g) 4096) (and_both (writable table g) _ (and_both (fit_transmit table window g) _ h).1).1 in
      rw (eqb-true (range_start table g) 0 a, eqb-true (range_length table g) 4096 b)

  -- so every part of it from its start on is in range
  pub receive_range : fit_receive table window g ≡ true → (n : ℕ) → n ≤ 4096 → in_range table g 0 n ≡ true
  unfolding fit_receive whole_page in_range range_end
  receive_range h n k =
      let (a, b) = and_both (eqb (range_start table g) 0) (eqb (range_length table g) 4096) (and_both (writable table g) _ (and_both (fit_transmit table window g) _ h).1).1 in
      rw (eqb-true (range_start table g) 0 a, eqb-true (range_length table g) 4096 b) (le-leb (0 + n) 4096 (omega arith))

  pub source_unfit : (offset n : ℕ) → fit_transmit table window g ≡ false → Err Unfit ≡ source_of table window g offset n
  unfolding source_of
  source_unfit offset n h = rw h

  module _ (fit : fit_transmit table window g ≡ true) (offset n : ℕ) where
    pub source_before : offset < range_start table g → Err Outside ≡ source_of table window g offset n
    unfolding source_of in_range
    source_before h = rw (fit, lt-leb (range_start table g) offset h)

    pub source_behind : range_end table g < offset + n → Err Outside ≡ source_of table window g offset n
    unfolding source_of in_range
    source_behind h = rw (fit, lt-leb (offset + n) (range_end table g) h, and_false (leb (range_start table g) offset))

    pub source_at : range_start table g ≤ offset → offset + n ≤ range_end table g → Ok (page_of table g) ≡ source_of table window g offset n
    unfolding source_of in_range
    source_at h k = rw (fit, le-leb (range_start table g) offset h, le-leb (offset + n) (range_end table g) k)

  -- what each answer says of the grant and the part
  module _ (offset n : ℕ) where
    pub found_unfit : Err Unfit ≡ source_of table window g offset n → fit_transmit table window g ≡ false
    unfolding source_of
    found_unfit h = when_no_source (fit_transmit table window g) (in_range table g offset n) (page_of table g) h

    pub found_outside : Err Outside ≡ source_of table window g offset n → (fit_transmit table window g ≡ true) × (in_range table g offset n ≡ false)
    unfolding source_of
    found_outside h = when_outside (fit_transmit table window g) (in_range table g offset n) (page_of table g) h

    pub found_at : (p : ℕ) → Ok p ≡ source_of table window g offset n → (fit_transmit table window g ≡ true) × (in_range table g offset n ≡ true) × (p ≡ page_of table g)
    unfolding source_of
    found_at p h = when_at (fit_transmit table window g) (in_range table g offset n) (page_of table g) p h

  -- ---- the causes of the answers: 4 where the grant is not fit, then 5 where its range does not have the part

  pub write_cause : page_cause (write_page table window g) ≡ cond (fit_receive table window g) 0 4
  unfolding write_page
  write_cause = go (fit_receive table window g)
    where
      go : (f : Bool) → page_cause (cond f (Some (page_of table g)) None) ≡ cond f 0 4
      go true = refl
      go false = refl

  pub source_cause_lem : (offset n : ℕ) → source_cause (source_of table window g offset n) ≡ cond (fit_transmit table window g) (cond (in_range table g offset n) 0 5) 4
  unfolding source_of
  source_cause_lem offset n = go (fit_transmit table window g) (in_range table g offset n)
    where
      go : (f b : Bool) → source_cause (cond f (cond b (Ok (page_of table g)) (Err Outside)) (Err Unfit)) ≡ cond f (cond b 0 5) 4
      go true true = refl
      go true false = refl
      go false b = refl

  -- ---- parts

  -- what is in range is a part of what the grant covers
  module _ (offset n : ℕ) (h : in_range table g offset n ≡ true) where
    part_covered : window_part table window g offset n ≡ take n (drop (offset - range_start table g) (range_of table window g))
    unfolding page_part range_end
    part_covered =
        let s = range_start table g in
        let a = 4096 * page_of table g in
        let f : s ≤ offset = range_from offset n h in
        let e : offset + n ≤ s + range_length table g = range_to offset n h in
        ap (λ (i : ℕ). take n (drop i window)) {x = a + offset} {y = a + s + (offset - s)} (omega arith)
        ∙ sym (ap (take n) (drop-drop (offset - s) (a + s) window))
        ∙ sym (part_part (offset - s) n (range_length table g) (drop (a + s) window) (omega arith))

    module _ (fit : fit_transmit table window g ≡ true) where
      -- in a fit grant it lies in the page
      pub range_page : offset + n ≤ 4096
      range_page = omega (arith, range_to offset n h, fit_range fit)

      -- and is as long as asked
      pub part_length : length (window_part table window g offset n) ≡ n
      unfolding page_part
      part_length =
          let a : 4096 * page_of table g + 4096 ≤ length window = fit_page fit in
          let b : offset + n ≤ 4096 = range_page in
          simp (length-take, length-drop) (omega arith)

      pub part_within : WithinGrant table window g offset n (window_part table window g offset n)
      part_within = record { starts = range_from offset n h; ends = range_to offset n h; in_page = fit_range fit; covered = part_covered }

-- the lookup's promise
pub looked_up : (window : List ℕ) (p offset n : ℕ) (bytes : List ℕ) → bytes ≡ page_part window p offset n → LookedUp window p offset n bytes
looked_up window p offset n bytes e = record {
  part = e;
  within = λ table g h.
      let (f, r, q) = found_at table window g offset n p (sym h) in
      rw (e, q) (part_within table window g offset n r f);
}

-- ---- windows that are the same on what the grants cover

module _ (table window other : List ℕ) (g : ℕ) where
  pub fit_alike : length window ≡ length other → fit_transmit table window g ≡ fit_transmit table other g
  unfolding fit_transmit usable
  fit_alike h = rw h

  pub part_alike : (offset n : ℕ) → in_range table g offset n ≡ true → range_of table window g ≡ range_of table other g → window_part table window g offset n ≡ window_part table other g offset n
  part_alike offset n h e = part_covered table window g offset n h ∙ ap (λ (r : List ℕ). take n (drop (offset - range_start table g) r)) e ∙ sym (part_covered table other g offset n h)
