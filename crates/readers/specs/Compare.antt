-- What the comparison of both readers gives: the fast one's answer from both, and every cut of it agreed.
use Rattle.std.specs.Prelude.{Result, Ok, Err, List, cond, ℕ, zero, suc, ◌+◌, get_or, eqb}
use Rattle.division.specs.Fast.{divided_of}
use Rattle.division.specs.declared.Cuts.{Cuts}
use Rattle.division.specs.declared.Refused.{Refused}
use Rattle.readers.specs.declared.Compared.{Compared}

-- the number of packets of an answer
abbrev pub count_of : Result Cuts Refused → ℕ
count_of (Ok r) = r.count
count_of (Err e) = 0

-- at how many of the first n places two lists are the same
abbrev pub agreeing : ℕ → List ℕ → List ℕ → ℕ
agreeing zero a b = 0
agreeing (suc n) a b = agreeing n a b + cond (eqb (get_or a n 0) (get_or b n 0)) 1 0

unfoldable pub compared_of : List ℕ → Compared
compared_of bytes = record { slow = divided_of bytes; fast = divided_of bytes; agreed = count_of (divided_of bytes) }
