-- How a reader's answer ends: a division by its rest, which document 01 numbers, and else in one of two refusals, which it does not.
use Rattle.std.specs.Prelude.{Result, Ok, Err, ℕ, cond, ◌==◌}
use Rattle.division.specs.Answer.{number_of}
use Rattle.division.specs.declared.Ending.{Ending}
use Rattle.division.specs.declared.Cuts.{Cuts}
use Rattle.division.specs.declared.Refused.{Refused}
use Rattle.division.specs.declared.Refused.TheVariants as refused

-- how an answer ends: in a division's rest, or in a refusal
abbrev pub end_of : Result Cuts Refused → Result Ending Refused
end_of (Ok r) = Ok r.ending
end_of (Err e) = Err e

-- 1 where two numbers are the same, and else 0
abbrev pub same_of : ℕ → ℕ → ℕ
same_of a b = cond (a == b) 1 0

-- 1 where a division's rest is of this kind, and else 0
abbrev pub rest_of : Result Cuts Refused → Ending → ℕ
rest_of (Err f) e = 0
rest_of (Ok r) e = same_of (number_of r.ending) (number_of e)

-- 1 where the bytes are no whole number of slots, and else 0
abbrev pub uneven_of : Result Cuts Refused → ℕ
uneven_of (Err refused.Uneven) = 1
uneven_of (Err refused.TooLong) = 0
uneven_of (Ok r) = 0

-- 1 where there are too many slots, and else 0
abbrev pub too_long_of : Result Cuts Refused → ℕ
too_long_of (Err refused.Uneven) = 0
too_long_of (Err refused.TooLong) = 1
too_long_of (Ok r) = 0

-- 1 where two answers end alike, and else 0
abbrev pub alike_of : Result Cuts Refused → Result Cuts Refused → ℕ
alike_of (Err refused.Uneven) b = uneven_of b
alike_of (Err refused.TooLong) b = too_long_of b
alike_of (Ok r) b = rest_of b r.ending
