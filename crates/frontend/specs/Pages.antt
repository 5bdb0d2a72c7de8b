-- The pages that a list of grant references names, and answer 12 of posting.
use Rattle.std.specs.Prelude.{List, [], ◌∷◌, map, Bool, true, false, not, ◌&&◌, ◌||◌, ℕ, length, take, ltb, eqb}
use Rattle.grant.specs.Grant.{fit_receive, page_of}

-- a number stands in a list
abbrev pub among : ℕ → List ℕ → Bool
among x [] = false
among x (y ∷ l) = eqb x y || among x l

-- a number stands in a list twice
abbrev pub twice : List ℕ → Bool
twice [] = false
twice (x ∷ l) = among x l || twice l

-- the pages that references name
abbrev pub pages_of : (table refs : List ℕ) → List ℕ
pages_of table l = map (page_of table) l

module _ (table window : List ℕ) where
  -- each reference's grant is fit for receive
  abbrev pub all_fit : List ℕ → Bool
  all_fit [] = true
  all_fit (g ∷ l) = fit_receive table window g && all_fit l

  -- answer 12 for k pages: the list is too short, a used grant is not fit for receive, or two used references name one page
  unfoldable pub bad_pages : List ℕ → ℕ → Bool
  bad_pages refs k = ltb (length refs) k || not (all_fit (take k refs)) || twice (pages_of table (take k refs))
