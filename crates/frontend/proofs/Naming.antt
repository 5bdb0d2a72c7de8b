-- What is found of the references, as the stages of the call promise it to each other: by the search, or by the one reference that there is.
use mathlib.Core.Path.{◌≡◌, refl, sym, ap, ◌∙◌}
use mathlib.Core.List.{List, [], ◌∷◌}
use mathlib.Core.Bool.{true, false}
use Prim.Native.Nat.{ℕ, ◌+◌, ◌*◌, ◌≤◌, ◌<◌}
use native.Mathlib.Omega.{arith}
use lib.ListN.{length, take}
use lib.Seq.{length-take-le}
use borrow.Author.Tests.{lt-ltb, le-ltb}
use Rattle.std.specs.Prelude.{Option, Some, None, Ok, Err, slice_get, option_to_list, is_err}
use Rattle.words.proofs.Word.{no_confusion}
use Rattle.grant.specs.Lookup.{write_page}
use Rattle.grant.proofs.Grant.{fit_page, receive_transmit, write_fit, write_unfit}
use Rattle.frontend.specs.Pages.{bad_pages}
use Rattle.frontend.specs.Search.{Search, ended}
use Rattle.frontend.specs.Stages.{Searched, PagesTested}
use Rattle.frontend.proofs.Searching.{ended_bad}

module _ (table window refs : List ℕ) (count : ℕ) where
  -- the list is too short
  pub sorted_short : length refs < count → (pages : List ℕ) → PagesTested table window refs count pages true
  unfolding bad_pages
  sorted_short h pages = record { answer = rw (lt-ltb (length refs) count h) refl; named = λ z. no_confusion cc }

  -- it is long enough: by the search
  module _ (enough : count ≤ length refs) (pages : List ℕ) where
    searched : (r : Search) → Searched table window (take count refs) pages r → ended r ≡ bad_pages table window refs count
    unfolding bad_pages
    searched r s = ap ended s.answer ∙ ended_bad table window (take count refs) ∙ sym (rw (le-ltb (length refs) count enough) refl)

    pub sorted_searched : (r : Search) → Searched table window (take count refs) pages r → PagesTested table window refs count pages (is_err r)
    sorted_searched (Ok u) s = record { answer = searched (Ok u) s; named = λ z. rw (length-take-le count refs enough) at s.named refl }
    sorted_searched (Err e) s = record { answer = searched (Err e) s; named = λ z. no_confusion cc }

-- ---- one reference

one_first : (refs : List ℕ) (g : ℕ) → slice_get refs 0 ≡ Some g → (1 ≤ length refs) × (take 1 refs ≡ g ∷ [])
one_first [] g h = no_confusion cc
one_first (x ∷ l) g h = (omega arith, ap (λ (o : Option ℕ). option_to_list o) h)

pub none_first : (refs : List ℕ) → slice_get refs 0 ≡ None → length refs < 1
none_first [] h = omega arith
none_first (x ∷ l) h = no_confusion cc

module _ (table window refs : List ℕ) (g : ℕ) (first : slice_get refs 0 ≡ Some g) where
  some : 1 ≤ length refs
  some = (one_first refs g first).0

  only : take 1 refs ≡ g ∷ []
  only = (one_first refs g first).1

  pub one_used : length (take 1 refs) ≡ 1
  one_used = ap length only

  pub one_unfit : None ≡ write_page table window g → PagesTested table window refs 1 [] true
  unfolding bad_pages
  one_unfit h = record {
    answer = rw (le-ltb (length refs) 1 some, only, write_unfit table window g h) refl;
    named = λ z. no_confusion cc;
  }

  pub one_fit : (p : ℕ) → Some p ≡ write_page table window g → PagesTested table window refs 1 (p ∷ []) false
  unfolding bad_pages
  one_fit p h =
      let (fit, page) = write_fit table window g p h in
      record {
        answer = rw (le-ltb (length refs) 1 some, only, fit) refl;
        named = λ z. rw (only, page) refl;
      }

  pub one_page : (p : ℕ) → Some p ≡ write_page table window g → 4096 * p + 4096 ≤ length window
  one_page p h =
      let (fit, page) = write_fit table window g p h in
      rw page (fit_page table window g (receive_transmit table window g fit))
