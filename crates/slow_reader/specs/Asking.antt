-- What the slow reader asks of so many slots: a packet, a proper beginning of one, or nothing where they begin none.
use Rattle.std.specs.Prelude.{Option, Some, None, ◌≡◌, List, true, ℕ, suc, ◌+◌, ◌≤◌, length}
use Rattle.netif.specs.Slot.{Slot}
use Rattle.grammar.specs.Grammar.{within, Packet, Begins, BeginsProperly}
use Rattle.division.specs.Shape.{shaped}
use Rattle.slow_reader.specs.declared.Asked.{Asked}
use Rattle.slow_reader.specs.declared.Asked.TheVariants as asked

-- what some slots are
abbrev pub AskedIs : List Slot → Option Asked → Type 0
AskedIs l (Some asked.Packet) = Packet l
AskedIs l (Some asked.Beginning) = BeginsProperly l
AskedIs l None = Begins l → ⊥

-- the same where only packets of e extras were tried
abbrev pub AskedWith : ℕ → List Slot → Option Asked → Type 0
AskedWith e l (Some a) = AskedIs l (Some a)
AskedWith e l None = (d : ℕ) → within (suc d) e ≡ true → length l ≤ suc d + e → shaped d e l ≡ true → ⊥
