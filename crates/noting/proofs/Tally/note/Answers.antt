-- Each way out is one law of `Noting`; that the record fits bounds its offset and its entry.
use Rattle.std.proofs.Common.{◌≡◌, ℕ, ◌+◌, ◌-◌, ◌%◌, true, false, sym, ◌∙◌, arith, eqb-true}
use Rattle.std.proofs.lemmas.Bool.{eqb-false, not-true, not-false}
use Rattle.ring.specs.Ring.{wsub}
use Rattle.held.proofs.Cover.{unused_none, in_use_some}
use Rattle.held.proofs.Offsets.{offset_is}
use Rattle.fitting.specs.Fits.{fits_at}
use Rattle.fitting.proofs.Fits.{Fitting, fits_split}
use Rattle.noting.proofs.Noting.{note_free, note_held, note_taken, note_unfit}
use Rattle.noting.proofs.Tally.note.Goals as goal
use Rattle.noting.proofs.Tally.note.Goals.{Else-is_free, Else-not-fits_at, then-not-fits_at-via-then-not-fits_at, then-not-fits_at-via-else-not-fits_at+then-holds}

-- the offset that is computed
abbrev offset : (ticket replied : ℕ) → ℕ
offset ticket replied = (ticket + (4294967296 - replied)) % 4294967296

used : (c : Else-is_free) → c.args.h.slots ≡ 0 → ⊥
used c e = omega (arith, e, in_use_some c.args.h (not-false _ (sym c.is_free.ensures ∙ c.if-is_free.false)))

fitting : (c : Else-not-fits_at) → Fitting c.args.h (offset c.args.h.ticket c.args.replied) c.args.between
fitting c = fits_split c.args.h (offset c.args.h.ticket c.args.replied) c.args.between (sym c.fits_at.ensures ∙ c.if-not-fits_at.false)

pub returns-then-is_free-clause-notes : goal.returns-then-is_free-clause-notes
returns-then-is_free-clause-notes c = let a = c.args in
    rw c.or.ensures (note_free a.self a.i a.h a.replied a.between a.index.now (unused_none a.h (not-true _ (sym c.is_free.ensures ∙ c.if-is_free.true))))

pub holds-requires : goal.holds-requires
holds-requires c = let f = fitting (goal.at.holds-requires c).Else-not-fits_at in omega (arith, f.below, c.requires.2)

pub returns-then-not-fits_at-clause-notes : goal.returns-then-not-fits_at-clause-notes
returns-then-not-fits_at-clause-notes c = let a = c.args in
    let o = offset a.h.ticket a.replied in
    let at : o ≡ wsub a.h.ticket a.replied = offset_is a.h.ticket a.replied c.ranges.replied.fits in
    let some = used (goal.at.returns-then-not-fits_at-clause-notes c).Else-is_free in
    elim c.then-not-fits_at.branch [
      | then-not-fits_at-via-then-not-fits_at w ↦ note_unfit a.self a.i a.h a.replied a.between a.index.now some o at (sym c.fits_at.ensures ∙ w.if-not-fits_at.true)
      | then-not-fits_at-via-else-not-fits_at+then-holds w ↦
          note_taken a.self a.i a.h a.replied a.between a.index.now some o at (sym c.fits_at.ensures ∙ w.if-not-fits_at.false)
          (eqb-false _ 0 (not-true _ (sym w.holds.ensures ∙ w.if-holds.true)))
    ]

pub enter-requires : goal.enter-requires
enter-requires c = let f = fitting (goal.at.enter-requires c).Else-not-fits_at in
    (omega (arith, f.below, c.requires.2), omega (arith, f.small), c.requires.1)

pub overflow_add-result : goal.overflow_add-result
overflow_add-result c = record { fits = omega (arith, (fitting (goal.at.overflow_add-result c).Else-not-fits_at).small, c.requires.0) }

pub returns-clause-notes : goal.returns-clause-notes
returns-clause-notes c = let a = c.args in
    let o = offset a.h.ticket a.replied in
    let at : o ≡ wsub a.h.ticket a.replied = offset_is a.h.ticket a.replied c.ranges.replied.fits in
    rw c.enter.ensures
    (note_held a.self a.i a.h a.replied a.between a.index.now (used (goal.at.returns-clause-notes c).Else-is_free) o at (sym c.fits_at.ensures ∙ c.if-not-fits_at.false)
    (eqb-true _ 0 (not-false _ (sym c.holds.ensures ∙ c.if-holds.false))))
