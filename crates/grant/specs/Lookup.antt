-- What is found by a reference: the page granted, or why it may not be used; and what the lookup then returns.
use Rattle.std.specs.Prelude.{◌≡◌, List, true, cond, ℕ, ◌+◌, ◌-◌, ◌*◌, ◌≤◌, length, take, drop, Option, Some, None, Result, Ok, Err}
use Rattle.grant.specs.Grant.{word_size, page_of, range_start, range_end, in_range, fit_transmit, fit_receive, page_part, range_of}
use Rattle.grant.specs.declared.Unlent.{Unlent}
use Rattle.grant.specs.declared.Unlent.TheVariants.{Unfit, Outside}

module _ (table window : List ℕ) (g : ℕ) where
  -- the page of a grant fit for transmit, and of one fit for receive
  unfoldable pub read_page : Option ℕ
  read_page = cond (fit_transmit table window g) (Some (page_of table g)) None

  unfoldable pub write_page : Option ℕ
  write_page = cond (fit_receive table window g) (Some (page_of table g)) None

  -- causes 4 and 5 of a slot's part: first whether the grant is fit, then whether it covers the part
  unfoldable pub source_of : (offset n : ℕ) → Result ℕ Unlent
  source_of offset n =
      cond (fit_transmit table window g)
      (cond (in_range table g offset n) (Ok (page_of table g)) (Err Outside))
      (Err Unfit)

-- document 01's number of the cause for 7 that each answer tells, 0 where it tells none
abbrev pub page_cause : Option ℕ → ℕ
page_cause (Some p) = 0
page_cause None = 4

abbrev pub source_cause : Result ℕ Unlent → ℕ
source_cause (Ok p) = 0
source_cause (Err Unfit) = 4
source_cause (Err Outside) = 5

-- n bytes that stand from an offset of a page on are within what reference g grants: they lie between the start and the end of its
-- range, and that in the page, and they are a part of what it covers
pub record WithinGrant (table window : List ℕ) (g offset n : ℕ) (bytes : List ℕ) : Type 0 where
  pub starts : range_start table g ≤ offset
  pub ends : offset + n ≤ range_end table g
  pub in_page : range_end table g ≤ 4096
  pub covered : bytes ≡ take n (drop (offset - range_start table g) (range_of table window g))

-- what the lookup returns: n bytes from an offset of page p of the window, within every grant by which the page was found
pub record LookedUp (window : List ℕ) (p offset n : ℕ) (bytes : List ℕ) : Type 0 where
  pub part : bytes ≡ page_part window p offset n
  pub within : (table : List ℕ) (g : ℕ) → source_of table window g offset n ≡ Ok p → WithinGrant table window g offset n bytes

-- two windows of one length that are the same on all that the grants fit for transmit cover
pub record CoveredAlike (table window other : List ℕ) : Type 0 where
  pub lengths : length window ≡ length other
  pub ranges : (g : ℕ) → fit_transmit table window g ≡ true → range_of table window g ≡ range_of table other g

-- a grant word is as it was, byte for byte; so is a page
unfoldable pub SameWord : (table table' : List ℕ) (g : ℕ) → Type 0
SameWord table table' g = take word_size (drop (word_size * g) table') ≡ take word_size (drop (word_size * g) table)

unfoldable pub SamePage : (window window' : List ℕ) (p : ℕ) → Type 0
SamePage window window' p = page_part window' p 0 4096 ≡ page_part window p 0 4096
