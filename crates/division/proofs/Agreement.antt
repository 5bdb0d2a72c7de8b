-- This is the agreement: whatever the grammar's contract allows is the fast reader's answer, so both readers answer the same. A run
-- has one division, and the rest of it ends in one way.
use mathlib.Core.Path.{◌≡◌, refl, sym, ap, ◌∙◌}
use mathlib.Core.List.{List, [], ◌∷◌, map}
use Rattle.std.specs.Prelude.{Result, Ok, Err}
use Prim.Native.Nat.{ℕ}
use lib.ListN.{length}
use borrow.Author.Tests.{eq-eqb, ne_eqb, le-leb, lt-leb}
use Rattle.words.specs.Word.{splice}
use Rattle.words.proofs.Word.{no_confusion}
use Rattle.netif.specs.Slot.{Slot}
use Rattle.grammar.specs.Grammar.{Begins, BeginsProperly, NoneAtFront}
use Rattle.grammar.proofs.Grammar.{nothing_begins, beginning_iff, misshapen_iff, division_only}
use Rattle.division.specs.Answer.{EndsAs, CutAs, DividedAs}
use Rattle.division.specs.Fast.{ending_of, cuts_of, lengths_of, divided_of, table_of}
use Rattle.division.specs.declared.Ending.{Ending}
use Rattle.division.specs.declared.Ending.TheVariants as ending
use Rattle.division.specs.declared.Cuts.{Cuts}
use Rattle.division.specs.declared.Refused.{Refused}
use Rattle.division.specs.declared.Refused.TheVariants as refused

-- a rest at whose front no packet stands ends in one way
ending_only : (rest : List Slot) (e : Ending) → NoneAtFront rest → EndsAs rest e → e ≡ ending_of rest
unfolding Begins BeginsProperly
ending_only [] ending.Empty n h = refl
ending_only [] ending.Waiting n h = absurd (h.0 refl)
ending_only [] ending.Misshapen n h = absurd (h (nothing_begins.0, nothing_begins.2))
ending_only (s ∷ l) ending.Empty n h = let none : s ∷ l ≡ [] = h in no_confusion cc
ending_only (s ∷ l) ending.Waiting n h = rw ((beginning_iff (s ∷ l)).1 h.1)
ending_only (s ∷ l) ending.Misshapen n h = rw ((misshapen_iff (s ∷ l)).1 (h, n))

-- a run's division is the one that the fast reader gives
pub cut_only : (run : List Slot) (before after : List ℕ) (r : Cuts) → CutAs run before after r → (r ≡ cuts_of run) × (after ≡ splice before 0 (lengths_of run))
unfolding cuts_of lengths_of
cut_only run before after r a =
    let (packets, rest) = division_only run a.packets a.rest a.division in
    let count = a.count ∙ ap length packets in
    let ending = ending_only a.rest r.ending a.division.ends a.ending ∙ ap ending_of rest in
    ((λ i. record { count = count i; ending = ending i }), a.table ∙ ap (λ ps. splice before 0 (map length ps)) packets)

-- and so is the answer for bytes lent as a run
pub divided_only : (bytes before after : List ℕ) (r : Result Cuts Refused) → DividedAs bytes before after r → (r ≡ divided_of bytes) × (after ≡ table_of bytes before)
unfolding divided_of table_of
divided_only bytes before after (Err refused.Uneven) h = rw (ne_eqb _ _ h.0) (refl, h.1)
divided_only bytes before after (Err refused.TooLong) h = rw (eq-eqb _ _ h.0, lt-leb _ _ h.1) (refl, h.2)
divided_only bytes before after (Ok r) h =
    let (answer, table) = cut_only _ before after r h.2 in
    rw (eq-eqb _ _ h.0, le-leb _ _ h.1) (ap Ok answer, table)

-- so both readers answer the same on every run, and leave the same table where they were lent the same
pub readers_agree : (bytes before after after' : List ℕ) (slow fast : Result Cuts Refused)
    → DividedAs bytes before after slow → (fast ≡ divided_of bytes) × (after' ≡ table_of bytes before)
    → (slow ≡ fast) × (after ≡ after')
readers_agree bytes before after after' slow fast h k =
    let (answer, table) = divided_only bytes before after slow h in
    (answer ∙ sym k.0, table ∙ sym k.1)
