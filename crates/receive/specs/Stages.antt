-- What the stages of a receive call promise each other.
use Rattle.std.specs.Prelude.{◌≡◌, List, [], ◌∷◌, ℕ, ◌+◌, ◌*◌, ◌≤◌, length, take}
use Rattle.netif.specs.Slot.{Slot}
use Rattle.answer.specs.Verdict.{Verdict, good}
use Rattle.receive.specs.Put.{judge, pages_named}

-- pages that lie within a window of n bytes
abbrev pub AllUsable : ℕ → List ℕ → Type 0
AllUsable n [] = Unit {0}
AllUsable n (p ∷ l) = (4096 * p + 4096 ≤ n) × AllUsable n l

-- requests were judged; if all are fit, the table starts with the pages that they name
pub record Judged (table window : List ℕ) (requests : List Slot) (pages : List ℕ) (r : Verdict) : Type 0 where
  pub verdict : r ≡ judge table window 0 requests
  pub named : r ≡ good → take (length requests) pages ≡ pages_named table requests
