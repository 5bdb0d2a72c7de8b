-- What is left when packets have left.
use Rattle.std.specs.Prelude.{◌≡◌, List, ℕ}
use Rattle.held.specs.declared.Held.{Held}
use Rattle.held.specs.Records.{slots_held}
use Rattle.held.specs.Release.{Released}
use Rattle.transmit.specs.Take.{replies_for}

-- the packets of s have left, behind the counter of replies sent: they had k slots, the list is l, and the ring page that was `before` is `after`
pub record Left (s : Released) (replied : ℕ) (before : List ℕ) (k : ℕ) (l : List Held) (after : List ℕ) : Type 0 where
  pub slots : k ≡ slots_held s.gone
  pub list : l ≡ s.list
  pub page : after ≡ replies_for before replied s.gone
