-- What was found of the list is what the take is told, and where the take takes a packet its record goes to the first free one's place.
use mathlib.Core.Path.{◌≡◌, refl, sym, ap, ◌∙◌}
use mathlib.Core.List.{List}
use mathlib.Core.Bool.{Bool, true, false, cond}
use Prim.Native.Nat.{ℕ, ◌<◌}
use lib.ListN.{length, set}
use Rattle.std.specs.Prelude.{Option, None, Some, is_some, is_none}
use Rattle.words.proofs.Word.{no_confusion}
use Rattle.held.specs.declared.Held.{Held}
use Rattle.held.specs.Records.{full, first_free, vacancy, added}
use Rattle.held.proofs.Cover.{free_place}
use Rattle.noting.specs.declared.Tally.{Tally}
use Rattle.noting.specs.Survey.{free_in}
use Rattle.glancing.specs.Glance.{Glanced}
use Rattle.transmit.specs.declared.Queue.{Queue}
use Rattle.transmit.specs.Take.{TakeEffect}
use Rattle.transmit.specs.Stages.{Found, Lent}
use Rattle.concluding.specs.declared.Taken.{Taken}
use Rattle.concluding.specs.Taken.{kept_in, Concludes, TakenAs}

none_full : (b : Bool) (n : ℕ) → b ≡ is_none (cond b None (Some n))
none_full true n = refl
none_full false n = refl

vacant : (l : List Held) (found : Option Tally) → is_some found ≡ true → ((s : Tally) → found ≡ Some s → s.free ≡ vacancy l) → free_in found ≡ vacancy l
vacant l None h place = no_confusion cc
vacant l (Some s) h place = place s refl

module _ (q : Queue) (l : List Held) (found : Option Tally) (glanced : Glanced q.consumed q.replied l found) where
  pub found_of : Found q (is_some found) (is_none (free_in found)) l
  unfolding vacancy
  found_of = record { soundness = sym glanced.good; fullness = λ h. none_full (full l) (first_free l) ∙ ap is_none (sym (vacant l found h glanced.place)) }

  module _ (e : TakeEffect) (t : Taken) (ring written : List ℕ) (c : Concludes e q l t ring written) where
    -- nothing is taken
    pub taken_none : t.record ≡ None → TakenAs e t ring written l
    taken_none h = record { report = c.report; queue = c.queue; page = c.page; frame = c.frame; records = ap (kept_in l) (sym h) ∙ c.list }

    module _ (h : Held) (is : t.record ≡ Some h) where
      pub free_here : free_in found ≡ Some (first_free l)
      unfolding vacancy
      free_here = vacant l found (glanced.good ∙ (c.room h is).sound) glanced.place ∙ (rw (c.room h is).fullness)

      pub place_fits : first_free l < length l
      place_fits = (free_place l (c.room h is).fullness).0

      pub taken_one : (k : List Held) → k ≡ set l (first_free l) h → TakenAs e t ring written k
      unfolding added
      taken_one k stored = record { report = c.report; queue = c.queue; page = c.page; frame = c.frame; records = stored ∙ ap (kept_in l) (sym is) ∙ c.list }
