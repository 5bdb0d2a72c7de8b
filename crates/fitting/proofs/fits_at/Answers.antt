-- `fits_at` meets its contract: its tests are the definition's (`fits_tests`).
use Rattle.std.proofs.Common.{◌+◌, refl, ◌∙◌, eq-eqb, ne_eqb, le-leb}
use borrow.Author.Tests.{lt-leb}
use Rattle.fitting.proofs.Fits.{fits_tests, not_finished}
use Rattle.fitting.proofs.fits_at.Goals as goal
use Rattle.fitting.proofs.fits_at.Goals.{then-offset-h, else-offset-h, then-is_count, else-is_count}

pub returns-then-offset-ne0 : goal.returns-then-offset-ne0
returns-then-offset-ne0 c = let a = c.args in
    let tests = fits_tests a.h a.offset a.between c.if-offset-h.value c.if-is_count.value
    (elim c.if-offset-h.branch [
      | then-offset-h w ↦ rw (w.value-is, le-leb (a.offset + a.h.slots) a.between w.if-offset-h.true) w.is_count.ensures
      | else-offset-h w ↦ rw (lt-leb (a.offset + a.h.slots) a.between w.if-offset-h.false) (w.value-is ∙ lt-leb (a.offset + a.h.slots) a.between w.if-offset-h.false)
    ])
    (elim c.if-is_count.branch [
      | then-is_count w ↦ rw (w.value-is, w.if-is_count.true) w.is_status.ensures
      | else-is_count w ↦ rw (w.value-is, w.if-is_count.false) refl
    ]) in
    rw (ne_eqb a.offset 0 c.if-offset-ne0.true) (rw (c.if-is_status.true, ne_eqb a.offset 0 c.if-offset-ne0.true) at tests)

pub returns-else-offset-ne0 : goal.returns-else-offset-ne0
returns-else-offset-ne0 c = let a = c.args in
    let tests = fits_tests a.h a.offset a.between c.if-offset-h.value c.if-is_count.value
    (elim c.if-offset-h.branch [
      | then-offset-h w ↦ rw (w.value-is, le-leb (a.offset + a.h.slots) a.between w.if-offset-h.true) w.is_count.ensures
      | else-offset-h w ↦ rw (lt-leb (a.offset + a.h.slots) a.between w.if-offset-h.false) (w.value-is ∙ lt-leb (a.offset + a.h.slots) a.between w.if-offset-h.false)
    ])
    (elim c.if-is_count.branch [
      | then-is_count w ↦ rw (w.value-is, w.if-is_count.true) w.is_status.ensures
      | else-is_count w ↦ rw (w.value-is, w.if-is_count.false) refl
    ]) in
    rw c.is_finished.ensures (not_finished a.h ∙ (rw (c.if-is_status.true, eq-eqb a.offset 0 c.if-offset-ne0.false) at tests))

pub returns-else-is_status : goal.returns-else-is_status
returns-else-is_status c = let a = c.args in
    let tests = fits_tests a.h a.offset a.between c.if-offset-h.value c.if-is_count.value
    (elim c.if-offset-h.branch [
      | then-offset-h w ↦ rw (w.value-is, le-leb (a.offset + a.h.slots) a.between w.if-offset-h.true) w.is_count.ensures
      | else-offset-h w ↦ rw (lt-leb (a.offset + a.h.slots) a.between w.if-offset-h.false) (w.value-is ∙ lt-leb (a.offset + a.h.slots) a.between w.if-offset-h.false)
    ])
    (elim c.if-is_count.branch [
      | then-is_count w ↦ rw (w.value-is, w.if-is_count.true) w.is_status.ensures
      | else-is_count w ↦ rw (w.value-is, w.if-is_count.false) refl
    ]) in
    c.if-is_status.false ∙ (rw c.if-is_status.false at tests)
