-- The frame in the window: its pieces stand in their pages, and still do where words and pages are as they were.
use mathlib.Core.Path.{◌≡◌, refl, sym, ◌∙◌}
use mathlib.Core.List.{List, [], ◌∷◌}
use mathlib.Core.Bool.{true, false}
use Prim.Native.Nat.{ℕ, ◌+◌, ◌*◌, ◌≤◌}
use native.Mathlib.Omega.{arith}
use lib.ListN.{length, take, drop, length-take, length-drop}
use lib.Dec.{eqb}
use borrow.Author.Tests.{eqb-false}
use Rattle.words.proofs.Word.{and_both, or_none}
use Rattle.words.proofs.Lists.{length_zero}
use Rattle.grant.specs.Grant.{page_of, in_range, fit_transmit, fit_receive, page_part, with_page}
use Rattle.grant.proofs.Grant.{fit_page, receive_transmit, receive_range}
use Rattle.grant.proofs.Kept.{same_named, same_fit, same_range, same_front, same_there, page_length, page_here, page_other}
use Rattle.receive.specs.Put.{scatter}
use Rattle.receive.specs.Stages.{AllUsable}
use Rattle.frontend.specs.Pages.{among, twice, all_fit, pages_of}
use Rattle.frontend.specs.RoundTrip.{SameGrants}

piece_short : (frame : List ℕ) → length (take 4096 frame) ≤ 4096
piece_short frame = omega (arith, length-take 4096 frame)

-- ---- pages that are written

pub scatter_length : (pages window frame : List ℕ) → AllUsable (length window) pages → length (scatter window pages frame) ≡ length window
scatter_length [] window frame u = refl
scatter_length (p ∷ l) window frame u =
    let e : length (with_page window p (take 4096 frame)) ≡ length window = page_length window p (take 4096 frame) u.0 (piece_short frame) in
    scatter_length l (with_page window p (take 4096 frame)) (drop 4096 frame) (rw e u.1) ∙ e

-- a page that is not among them stays
pub scatter_other : (pages window frame : List ℕ) (q n : ℕ) → AllUsable (length window) pages → among q pages ≡ false → n ≤ 4096
    → page_part (scatter window pages frame) q 0 n ≡ page_part window q 0 n
scatter_other [] window frame q n u a h = refl
scatter_other (p ∷ l) window frame q n u a h =
    let e : length (with_page window p (take 4096 frame)) ≡ length window = page_length window p (take 4096 frame) u.0 (piece_short frame) in
    let (b, c) = or_none (eqb q p) (among q l) a in
    scatter_other l (with_page window p (take 4096 frame)) (drop 4096 frame) q n (rw e u.1) c h
    ∙ page_other window p (take 4096 frame) u.0 (piece_short frame) q n (λ z. eqb-false q p b (sym z)) h

-- each page holds its piece of the frame
abbrev pub Holds : (table window refs frame : List ℕ) → Type 0
Holds table window [] frame = frame ≡ []
Holds table window (g ∷ l) frame = (page_part window (page_of table g) 0 (length (take 4096 frame)) ≡ take 4096 frame) × Holds table window l (drop 4096 frame)

pub scatter_holds : (table refs window frame : List ℕ) → AllUsable (length window) (pages_of table refs) → twice (pages_of table refs) ≡ false → length frame ≤ 4096 * length refs
    → Holds table (scatter window (pages_of table refs) frame) refs frame
scatter_holds table [] window frame u t h = length_zero frame (omega arith)
scatter_holds table (g ∷ l) window frame u t h =
    let e : length (with_page window (page_of table g) (take 4096 frame)) ≡ length window = page_length window (page_of table g) (take 4096 frame) u.0 (piece_short frame) in
    let (a, b) = or_none (among (page_of table g) (pages_of table l)) (twice (pages_of table l)) t in (
      scatter_other (pages_of table l) (with_page window (page_of table g) (take 4096 frame)) (drop 4096 frame) (page_of table g) (length (take 4096 frame)) (rw e u.1) a (piece_short frame)
          ∙ page_here window (page_of table g) (take 4096 frame) u.0 (piece_short frame),
      scatter_holds table l (with_page window (page_of table g) (take 4096 frame)) (drop 4096 frame) (rw e u.1) b (omega (arith, length-drop 4096 frame)),
    )

-- ---- words and pages as they were

-- references whose grants are fit for transmit and cover their pages
abbrev pub Readable : (table window : List ℕ) → List ℕ → Type 0
Readable table window [] = Unit {0}
Readable table window (g ∷ l) = (fit_transmit table window g ≡ true) × ((n : ℕ) → n ≤ 4096 → in_range table g 0 n ≡ true) × Readable table window l

pub fit_usable : (table window refs : List ℕ) → all_fit table window refs ≡ true → AllUsable (length window) (pages_of table refs)
fit_usable table window [] h = tt
fit_usable table window (g ∷ l) h =
    let (a, b) = and_both (fit_receive table window g) (all_fit table window l) h in
    (fit_page table window g (receive_transmit table window g a), fit_usable table window l b)

module _ (table window table' window' : List ℕ) where
  pub same_holds : (refs frame : List ℕ) → SameGrants table window table' window' refs → Holds table window refs frame → Holds table' window' refs frame
  same_holds [] frame s h = h
  same_holds (g ∷ l) frame s h = (
    rw (same_named table table' g s.0) (same_front window window' (page_of table g) s.1 (length (take 4096 frame)) (piece_short frame) ∙ h.0),
    same_holds l (drop 4096 frame) s.2 h.1,
  )

  -- grants that were fit for receive in a window as long
  pub same_readable : (before refs : List ℕ) → length window ≡ length before → all_fit table before refs ≡ true → SameGrants table window table' window' refs → Readable table' window' refs
  same_readable before [] e h s = tt
  same_readable before (g ∷ l) e h s =
      let (a, b) = and_both (fit_receive table before g) (all_fit table before l) h in
      let f = receive_transmit table before g a in
      let there : 4096 * page_of table g + 4096 ≤ length window' = same_there window window' (page_of table g) s.1 (omega (arith, fit_page table before g f)) in (
        same_fit table table' g s.0 before window' f there,
        (λ n k. same_range table table' g s.0 0 n (receive_range table before g a n k)),
        same_readable before l e b s.2,
      )
