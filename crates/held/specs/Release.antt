-- Held packets leave in the order of taking, as far as finished ones reach.
use Rattle.std.specs.Prelude.{List, [], ◌∷◌, cond, ℕ, zero, suc}
use Rattle.ring.specs.Ring.{wadd}
use Rattle.held.specs.declared.Held.{Held}
use Rattle.held.specs.Records.{is_finished, record_at, freed}
use Rattle.held.specs.Valid.{between}

-- the records that leave, in order; the counter of replies sent behind them, and the list with them freed
pub record Released : Type 0 where
  pub gone : List Held
  pub replied : ℕ
  pub list : List Held

abbrev pub nothing : ℕ → List Held → Released
nothing c l = record { gone = []; replied = c; list = l }

abbrev pub firstly : Held → Released → Released
firstly r s = record { gone = r ∷ s.gone; replied = s.replied; list = s.list }

-- as long as the oldest, held at the counter of replies sent, is finished, it leaves and is freed: at most k times
abbrev pub release : (k replied : ℕ) → List Held → Released
release zero c l = nothing c l
release (suc k) c l =
    cond (is_finished (record_at l c))
    (firstly (record_at l c) (release k (wadd c (record_at l c).slots) (freed l c)))
    (nothing c l)

-- all that can leave: no more packets than slots are held
unfoldable pub settle : (consumed replied : ℕ) → List Held → Released
settle consumed replied l = release (between consumed replied) replied l
