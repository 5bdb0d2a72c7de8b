-- Two ends of runs compared: 1 where they are the same, as the definitions count them.
use Rattle.std.proofs.Common.{◌≡◌, ℕ, refl}
use Rattle.std.specs.Prelude.{Result, Ok, Err}
use Rattle.std.specs.Int.{from_bool}
use Rattle.std.specs.Result.{result_eq}
use Rattle.division.specs.Answer.{number_of}
use Rattle.division.specs.contracts.EndingPartialEq as endings
use Rattle.division.specs.contracts.RefusedPartialEq as refusals
use Rattle.division.specs.declared.Cuts.{Cuts}
use Rattle.division.specs.declared.Ending.{Ending}
use Rattle.division.specs.declared.Ending.TheVariants as ending
use Rattle.division.specs.declared.Refused.{Refused}
use Rattle.division.specs.declared.Refused.TheVariants as refused
use Rattle.tally.specs.Answer.{end_of, same_of, rest_of, uneven_of, too_long_of, alike_of}

-- 1 where two ends are the same, and else 0
abbrev pub same_end : Result Ending Refused → Result Ending Refused → ℕ
same_end a b = from_bool (result_eq endings.TheImpl.eq-value.it refusals.TheImpl.eq-value.it a b)

rests : (a b : Ending) → (same_end (Ok a) (Ok b) ≡ same_of (number_of a) (number_of b)) × (same_end (Ok a) (Ok b) ≡ same_of (number_of b) (number_of a))
rests ending.Empty ending.Empty = (refl, refl)
rests ending.Empty ending.Waiting = (refl, refl)
rests ending.Empty ending.Misshapen = (refl, refl)
rests ending.Waiting ending.Empty = (refl, refl)
rests ending.Waiting ending.Waiting = (refl, refl)
rests ending.Waiting ending.Misshapen = (refl, refl)
rests ending.Misshapen ending.Empty = (refl, refl)
rests ending.Misshapen ending.Waiting = (refl, refl)
rests ending.Misshapen ending.Misshapen = (refl, refl)

pub ends_alike : (a b : Result Cuts Refused) → same_end (end_of a) (end_of b) ≡ alike_of a b
ends_alike (Ok a) (Ok b) = (rests a.ending b.ending).1
ends_alike (Ok a) (Err f) = refl
ends_alike (Err refused.Uneven) (Ok b) = refl
ends_alike (Err refused.Uneven) (Err refused.Uneven) = refl
ends_alike (Err refused.Uneven) (Err refused.TooLong) = refl
ends_alike (Err refused.TooLong) (Ok b) = refl
ends_alike (Err refused.TooLong) (Err refused.Uneven) = refl
ends_alike (Err refused.TooLong) (Err refused.TooLong) = refl

pub ends_rest : (a : Result Cuts Refused) (e : Ending) → same_end (end_of a) (Ok e) ≡ rest_of a e
ends_rest (Ok a) e = (rests a.ending e).0
ends_rest (Err f) e = refl

pub ends_uneven : (a : Result Cuts Refused) → same_end (end_of a) (Err refused.Uneven) ≡ uneven_of a
ends_uneven (Ok a) = refl
ends_uneven (Err refused.Uneven) = refl
ends_uneven (Err refused.TooLong) = refl

pub ends_long : (a : Result Cuts Refused) → same_end (end_of a) (Err refused.TooLong) ≡ too_long_of a
ends_long (Ok a) = refl
ends_long (Err refused.Uneven) = refl
ends_long (Err refused.TooLong) = refl
