-- What a take is to know of its list.
use Rattle.std.specs.Prelude.{◌≡◌, List, Option, None, Some, is_some, cond, ◌&&◌, ℕ, length, leb, eqb}
use Rattle.held.specs.declared.Held.{Held}
use Rattle.held.specs.Records.{all_free, vacancy}
use Rattle.held.specs.Valid.{most_records, valid}
use Rattle.noting.specs.declared.Tally.{Tally}

-- a list where no slot lies between the counters: with the first record free if it has one
unfoldable pub unheld_tally : List Held → Option Tally
unheld_tally l =
    cond (leb (length l) most_records && all_free l)
    (Some (record { free = cond (eqb (length l) 0) None (Some 0); slots = 0 }))
    None

-- whether the list is valid; and if it is, the first free record's place, or that all are in use
pub record Glanced (consumed replied : ℕ) (l : List Held) (found : Option Tally) : Type 0 where
  pub good : is_some found ≡ valid consumed replied l
  pub place : (s : Tally) → found ≡ Some s → s.free ≡ vacancy l
