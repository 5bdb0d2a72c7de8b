-- The search over the references that a frame uses: each is fit for receive, and names none of the pages that those before it name. It
-- ends at the first that is not fit, or at the first pair that names one page, by its second place and then by its first.
use Rattle.std.specs.Prelude.{List, [], ◌∷◌, ◌++◌, Bool, true, false, cond, ℕ, suc, length, eqb, Result, Ok, Err}
use Rattle.grant.specs.Grant.{fit_receive, page_of}
use Rattle.frontend.specs.declared.Unusable.{Unusable}
use Rattle.frontend.specs.declared.Unusable.TheVariants.{Unfit, Same}

-- how the search ends: behind the last reference, or at what may not be used
abbrev pub Search : Type 0
Search = Result Unit Unusable

-- the first of two that ends the search
abbrev pub or_search : Search → Search → Search
or_search (Ok u) q = q
or_search (Err e) q = Err e

-- page x is named at place j; where it stands among the pages before, of which the first has place i
abbrev pub earlier : (x i j : ℕ) → List ℕ → Search
earlier x i j [] = Ok tt
earlier x i j (y ∷ l) = cond (eqb y x) (Err (Same i j)) (earlier x (suc i) j l)

module _ (table window : List ℕ) where
  -- the search over references, of which those before have named these pages
  abbrev pub search_from : (seen refs : List ℕ) → Search
  search_from seen [] = Ok tt
  search_from seen (g ∷ l) =
      cond (fit_receive table window g)
      (or_search (earlier (page_of table g) 0 (length seen) seen) (search_from (seen ++ (page_of table g ∷ [])) l))
      (Err Unfit)

-- whether it ended before all references were seen
abbrev pub ended : Search → Bool
ended (Ok u) = false
ended (Err e) = true
