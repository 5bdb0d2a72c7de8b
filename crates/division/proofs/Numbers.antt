-- The numbers of rests are those by which demand 3 speaks of a rest: 4 exactly if it is empty, 6 exactly if it is a nonempty proper
-- beginning of a packet, 5 exactly if it begins none.
use mathlib.Core.Path.{refl}
use mathlib.Core.Logic.{⊎_elim, inl}
use mathlib.Core.List.{List}
use Prim.Native.Nat.{ℕ}
use native.Mathlib.Omega.{arith}
use Rattle.netif.specs.Slot.{Slot}
use Rattle.grammar.specs.Grammar.{Begins, BeginsProperly}
use Rattle.grammar.specs.Service.{Ending as Told}
use Rattle.grammar.proofs.Grammar.{nothing_begins}
use Rattle.division.specs.Answer.{EndsAs, number_of}
use Rattle.division.specs.declared.Ending.{Ending}
use Rattle.division.specs.declared.Ending.TheVariants as ending

properly_begins : (l : List Slot) → BeginsProperly l → Begins l
unfolding Begins BeginsProperly
properly_begins l (t, some, p) = (t, p)

pub number_told : (packets : ℕ) (rest : List Slot) (e : Ending) → EndsAs rest e → Told (number_of e) packets packets rest
number_told packets rest ending.Empty h = record {
  none = refl;
  waiting = ((λ z. absurd (omega arith)), (λ w. absurd (w.0 h)));
  empty = ((λ z. h), (λ z. refl));
  halted = (⊎_elim (λ z. absurd (omega arith)) (λ z. absurd (omega arith)), (λ never. absurd (never (rw h (properly_begins _ nothing_begins)))));
}
number_told packets rest ending.Waiting h = record {
  none = refl;
  waiting = ((λ z. h), (λ w. refl));
  empty = ((λ z. absurd (omega arith)), (λ z. absurd (h.0 z)));
  halted = (⊎_elim (λ z. absurd (omega arith)) (λ z. absurd (omega arith)), (λ never. absurd (never (properly_begins rest h.1))));
}
number_told packets rest ending.Misshapen h = record {
  none = refl;
  waiting = ((λ z. absurd (omega arith)), (λ w. absurd (h (properly_begins rest w.1))));
  empty = ((λ z. absurd (omega arith)), (λ z. absurd (h (rw z (properly_begins _ nothing_begins)))));
  halted = ((λ z. h), (λ never. inl refl));
}
