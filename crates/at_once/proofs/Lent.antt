-- What is promised of the two calls from what they left.
use mathlib.Core.Path.{◌≡◌, refl}
use mathlib.Core.Logic.{◌≢◌}
use mathlib.Core.List.{List, [], ◌∷◌}
use Prim.Native.Nat.{ℕ}
use lib.ListN.{get_or}
use borrow.Author.Tests.{eq-eqb, ne_eqb}
use Rattle.netif.specs.Slot.{okay}
use Rattle.held.specs.declared.Held.{Held}
use Rattle.held.specs.Records.{free}
use Rattle.transmit.specs.Words.{TakeLeft, FinishLeft}
use Rattle.interface.specs.Interface.{TakeCallLeaves, FinishCallLeaves}
use Rattle.at_once.specs.Call.{Ring, Finished, Called}

-- the ring as a take left it, and as the finish behind it left it
abbrev pub taken : TakeLeft → Ring
taken o = record { consumed = o.consumed; replied = o.replied; mark = o.mark; page = o.page }

abbrev pub finished : TakeLeft → FinishLeft → Ring
finished o f = record { consumed = o.consumed; replied = f.replied; mark = o.mark; page = f.page }

module _ (grants window frame finish : List ℕ) (before : Ring) {l : List Held} (one : l ≡ free ∷ []) (o : TakeLeft)
    (took : TakeCallLeaves grants window before.consumed before.replied before.mark before.page l frame o) where
  -- a take that is done and its finish, and any other take
  pub called_done : {ticket : ℕ} (f : FinishLeft) → o.returned ≡ 0 → ticket ≡ get_or o.words 10 0
      → FinishCallLeaves o.consumed o.replied o.page o.list ticket okay f
      → Called grants window frame finish before o.returned (finished o f) o.frame o.words f.words
  called_done f done is leaves = record {
    took = taken o;
    list = o.list;
    takes = rw one at took;
    next = rw (eq-eqb o.returned 0 done) (Finished.finishes f.returned f.list (rw is at leaves) refl refl);
  }

  pub called_other : o.returned ≢ 0 → Called grants window frame finish before o.returned (taken o) o.frame o.words finish
  called_other other = record {
    took = taken o;
    list = o.list;
    takes = rw one at took;
    next = rw (ne_eqb o.returned 0 other) (Finished.stays refl refl);
  }
