-- The search as the code's two loops make it: with each turn of the outer loop the pages seen are one more, and with each of the inner
-- one the pages still to be compared are one fewer. It ends before the last reference exactly if one is not fit or a page is named twice:
-- over the pages seen too, that is one law by induction over the references.
use mathlib.Core.Path.{◌≡◌, refl, sym, ap, ◌∙◌}
use mathlib.Core.List.{List, [], ◌∷◌, ◌++◌, map}
use mathlib.Core.Bool.{Bool, true, false, not, cond, ◌&&◌, ◌||◌}
use Prim.Native.Nat.{ℕ, suc, ◌+◌, ◌≤◌, ◌<◌}
use native.Mathlib.Numerals.{add-one}
use native.Mathlib.Omega.{arith}
use lib.ListN.{length, take, drop, get_or, set, drop_of_length-le}
use lib.Seq.{drop-cons, get_or-take, length-take-le, take-suc, take-suc-set}
use lib.Dec.{eqb}
use borrow.Author.Tests.{eqb-true, eq-eqb, ne_eqb}
use Rattle.std.specs.Prelude.{Option, Some, None, Result, Ok, Err, ok_or}
use Rattle.words.proofs.Word.{no_confusion}
use Rattle.grant.specs.Grant.{page_of, fit_receive}
use Rattle.grant.specs.Lookup.{write_page}
use Rattle.grant.proofs.Grant.{write_fit, write_unfit}
use Rattle.frontend.specs.Pages.{among, twice, all_fit, pages_of}
use Rattle.frontend.specs.Search.{Search, or_search, earlier, search_from, ended}
use Rattle.frontend.specs.Stages.{Searched}
use Rattle.frontend.specs.declared.Unusable.{Unusable}
use Rattle.frontend.specs.declared.Unusable.TheVariants.{Unfit, Same}

-- ---- the loops

map_snoc : (f : ℕ → ℕ) (l : List ℕ) (x : ℕ) → map f (l ++ (x ∷ [])) ≡ map f l ++ (f x ∷ [])
map_snoc f [] x = refl
map_snoc f (y ∷ l) x = ap (f y ∷◌) (map_snoc f l x)

-- over the references l, with the table of pages
module _ (table window l pages : List ℕ) where
  -- what is left of the search from reference i on, behind the pages of the table
  abbrev pub from_reference : ℕ → Search
  from_reference i = search_from table window (take i pages) (drop i l)

  -- and of page x at place i, behind the pages before place j
  abbrev pub from_page : (x i j : ℕ) → Search
  from_page x i j = or_search (earlier x j i (drop j (take i pages))) (search_from table window (take i pages ++ (x ∷ [])) (drop (i + 1) l))

module _ (table window l pages : List ℕ) where
  pub search_unfit : (i : ℕ) → i < length l → None ≡ write_page table window (get_or l i 0) → from_reference table window l pages i ≡ Err Unfit
  search_unfit i h u = rw (drop-cons l i 0 h, write_unfit table window (get_or l i 0) u) refl

  module _ (i : ℕ) (h : i < length l) (x : ℕ) (fit : Some x ≡ write_page table window (get_or l i 0)) where
    pub search_enters : i ≤ length pages → from_reference table window l pages i ≡ from_page table window l pages x i 0
    search_enters k =
        let (f, p) = write_fit table window (get_or l i 0) x fit in
        rw (drop-cons l i 0 h, f, ← p, length-take-le i pages k, add-one i) refl

    -- the table gets the page
    pub table_next : i < length pages → take i pages ≡ pages_of table (take i l) → take (i + 1) (set pages i x) ≡ pages_of table (take (i + 1) l)
    table_next k e =
        rw (add-one i)
        (take-suc-set pages i x k
        ∙ rw (e, (write_fit table window (get_or l i 0) x fit).1) refl
        ∙ sym (map_snoc (page_of table) (take i l) (get_or l i 0))
        ∙ ap (pages_of table) (sym (take-suc l i 0 h)))

  module _ (x i j : ℕ) (some : i ≤ length pages) (h : j < i) where
    here : drop j (take i pages) ≡ get_or pages j 0 ∷ drop (j + 1) (take i pages)
    here = rw (drop-cons (take i pages) j 0 (omega (arith, length-take-le i pages some)), get_or-take i pages j 0 h, add-one j) refl

    pub search_hits : get_or pages j 0 ≡ x → from_page table window l pages x i j ≡ Err (Same j i)
    search_hits e = rw (here, eq-eqb (get_or pages j 0) x e) refl

    pub search_misses : (get_or pages j 0 ≡ x → ⊥) → from_page table window l pages x i j ≡ from_page table window l pages x i (j + 1)
    search_misses n = rw (here, ne_eqb (get_or pages j 0) x n, add-one j) refl

  pub search_leaves : (x i j : ℕ) → i < length pages → i ≤ j → from_page table window l pages x i j ≡ search_from table window (take (i + 1) (set pages i x)) (drop (i + 1) l)
  search_leaves x i j k h =
      let none : drop j (take i pages) ≡ [] = drop_of_length-le (take i pages) {i = j} (omega (arith, length-take-le i pages (omega arith))) in
      let more : take (i + 1) (set pages i x) ≡ take i pages ++ (x ∷ []) = rw (add-one i) (take-suc-set pages i x k) in
      rw (none, more) refl

  pub search_ends : (i : ℕ) → length l ≤ i → from_reference table window l pages i ≡ Ok tt
  search_ends i h = rw (drop_of_length-le l {i = i} h) refl

-- the error by which nothing found is told
abbrev err_or : {T E : Type 0} → E → Result T E → E
err_or d (Ok x) = d
err_or d (Err e) = e

pub told : {T E : Type 0} (o : Option T) (d e : E) → Err e ≡ ok_or o d → o ≡ None → e ≡ d
told o d e h n = ap (err_or d) (h ∙ ap (λ x. ok_or x d) n)

-- a search that ended found something
pub not_apart : (r : Search) → ended r ≡ true → r ≡ Ok tt → ⊥
not_apart r h e =
    let z : true ≡ false = sym h ∙ ap ended e in
    no_confusion cc

-- a search that ended promises nothing of the table
pub searched_ended : (table window l pages : List ℕ) (e : Unusable) → search_from table window [] l ≡ Err e → Searched table window l pages (Err e)
searched_ended table window l pages e h = record { answer = sym h; named = λ z. no_confusion cc }

-- ---- it ends before the last reference exactly if one is not fit or a page is named twice

-- some of a list are among others
abbrev any_among : List ℕ → List ℕ → Bool
any_among [] seen = false
any_among (x ∷ l) seen = among x seen || any_among l seen

or_false : (a : Bool) → a || false ≡ a
or_false true = refl
or_false false = refl

or_assoc : (a b c : Bool) → (a || b) || c ≡ a || (b || c)
or_assoc true b c = refl
or_assoc false b c = refl

-- four tests in another order, and with two more
or_four : (a b c d : Bool) → (a || b) || (c || d) ≡ (a || c) || (b || d)
or_four true b c d = refl
or_four false true true d = refl
or_four false true false d = refl
or_four false false c d = refl

or_five : (a f s m t : Bool) → a || (f || ((s || m) || t)) ≡ f || ((a || s) || (m || t))
or_five true true s m t = refl
or_five true false s m t = refl
or_five false true s m t = refl
or_five false false s m t = or_assoc s m t

eqb_swap : (x y : ℕ) → eqb x y ≡ eqb y x
eqb_swap x y = go (eqb x y) (eqb y x) refl refl
  where
    go : (a b : Bool) → eqb x y ≡ a → eqb y x ≡ b → a ≡ b
    go true true p q = refl
    go false false p q = refl
    go true false p q = sym (sym q ∙ eq-eqb y x (sym (eqb-true x y p)))
    go false true p q = sym p ∙ eq-eqb x y (sym (eqb-true y x q))

among_snoc : (y x : ℕ) (seen : List ℕ) → among y (seen ++ (x ∷ [])) ≡ among y seen || eqb y x
among_snoc y x [] = or_false (eqb y x)
among_snoc y x (z ∷ seen) = ap (eqb y z ||◌) (among_snoc y x seen) ∙ sym (or_assoc (eqb y z) (among y seen) (eqb y x))

any_snoc : (l seen : List ℕ) (x : ℕ) → any_among l (seen ++ (x ∷ [])) ≡ any_among l seen || among x l
any_snoc [] seen x = refl
any_snoc (y ∷ l) seen x = rw (among_snoc y x seen, any_snoc l seen x, eqb_swap x y) (or_four (among y seen) (eqb y x) (any_among l seen) (among x l))

any_none : (l : List ℕ) → any_among l [] ≡ false
any_none [] = refl
any_none (x ∷ l) = any_none l

ended_or : (p q : Search) → ended (or_search p q) ≡ ended p || ended q
ended_or (Ok u) q = refl
ended_or (Err e) q = refl

ended_earlier : (x i j : ℕ) (l : List ℕ) → ended (earlier x i j l) ≡ among x l
ended_earlier x i j [] = refl
ended_earlier x i j (y ∷ l) = rw (eqb_swap x y) (go (eqb y x) (earlier x (suc i) j l) (among x l) (ended_earlier x (suc i) j l))
  where
    go : (b : Bool) (p : Search) (c : Bool) → ended p ≡ c → ended (cond b (Err (Same i j)) p) ≡ b || c
    go true p c h = refl
    go false p c h = h

module _ (table window : List ℕ) where
  ended_from : (seen refs : List ℕ) → ended (search_from table window seen refs) ≡ not (all_fit table window refs) || (any_among (pages_of table refs) seen || twice (pages_of table refs))
  ended_from seen [] = refl
  ended_from seen (g ∷ l) = go (fit_receive table window g) (ended_from (seen ++ (page_of table g ∷ [])) l)
    where
      go : (b : Bool)
          → ended (search_from table window (seen ++ (page_of table g ∷ [])) l)
          ≡ not (all_fit table window l) || (any_among (pages_of table l) (seen ++ (page_of table g ∷ [])) || twice (pages_of table l))
          → ended (cond b (or_search (earlier (page_of table g) 0 (length seen) seen) (search_from table window (seen ++ (page_of table g ∷ [])) l)) (Err Unfit))
          ≡ not (b && all_fit table window l) || ((among (page_of table g) seen || any_among (pages_of table l) seen) || (among (page_of table g) (pages_of table l) || twice (pages_of table l)))
      go false h = refl
      go true h =
          ended_or (earlier (page_of table g) 0 (length seen) seen) (search_from table window (seen ++ (page_of table g ∷ [])) l)
          ∙ rw (ended_earlier (page_of table g) 0 (length seen) seen, h, any_snoc (pages_of table l) seen (page_of table g))
          (or_five (among (page_of table g) seen) (not (all_fit table window l)) (any_among (pages_of table l) seen) (among (page_of table g) (pages_of table l)) (twice (pages_of table l)))

  pub ended_bad : (refs : List ℕ) → ended (search_from table window [] refs) ≡ not (all_fit table window refs) || twice (pages_of table refs)
  ended_bad refs = ended_from [] refs ∙ rw (any_none (pages_of table refs)) refl
