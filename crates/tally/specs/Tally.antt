-- What is counted of the comparisons.
use Rattle.std.specs.Prelude.{◌≡◌, ℕ, ◌+◌, ◌%◌, ◌^◌}
use Rattle.readers.specs.Compare.{count_of}
use Rattle.division.specs.declared.Ending.TheVariants as ending
use Rattle.readers.specs.declared.Compared.{Compared}
use Rattle.tally.specs.Answer.{rest_of, uneven_of, too_long_of, alike_of}
use Rattle.tally.specs.declared.Tally.{Tally}

-- counts of 64 bits wrap
abbrev pub sum_of : ℕ → ℕ → ℕ
sum_of a b = (a + b) % 2 ^ 64

-- nothing counted
pub record Nothing (r : Tally) : Type 0 where
  pub runs : r.runs ≡ 0
  pub slots : r.slots ≡ 0
  pub slow : r.slow ≡ 0
  pub fast : r.fast ≡ 0
  pub agreed : r.agreed ≡ 0
  pub alike : r.alike ≡ 0
  pub empty : r.empty ≡ 0
  pub waiting : r.waiting ≡ 0
  pub misshapen : r.misshapen ≡ 0
  pub uneven : r.uneven ≡ 0
  pub too_long : r.too_long ≡ 0

-- some comparisons and others, together
pub record Together (a b r : Tally) : Type 0 where
  pub runs : r.runs ≡ sum_of a.runs b.runs
  pub slots : r.slots ≡ sum_of a.slots b.slots
  pub slow : r.slow ≡ sum_of a.slow b.slow
  pub fast : r.fast ≡ sum_of a.fast b.fast
  pub agreed : r.agreed ≡ sum_of a.agreed b.agreed
  pub alike : r.alike ≡ sum_of a.alike b.alike
  pub empty : r.empty ≡ sum_of a.empty b.empty
  pub waiting : r.waiting ≡ sum_of a.waiting b.waiting
  pub misshapen : r.misshapen ≡ sum_of a.misshapen b.misshapen
  pub uneven : r.uneven ≡ sum_of a.uneven b.uneven
  pub too_long : r.too_long ≡ sum_of a.too_long b.too_long

-- one comparison; how it ended is the slow reader's word
pub record Counted (slots : ℕ) (compared : Compared) (r : Tally) : Type 0 where
  pub runs : r.runs ≡ 1
  pub whole : r.slots ≡ slots
  pub slow : r.slow ≡ count_of compared.slow
  pub fast : r.fast ≡ count_of compared.fast
  pub agreed : r.agreed ≡ compared.agreed
  pub alike : r.alike ≡ alike_of compared.slow compared.fast
  pub empty : r.empty ≡ rest_of compared.slow ending.Empty
  pub waiting : r.waiting ≡ rest_of compared.slow ending.Waiting
  pub misshapen : r.misshapen ≡ rest_of compared.slow ending.Misshapen
  pub uneven : r.uneven ≡ uneven_of compared.slow
  pub too_long : r.too_long ≡ too_long_of compared.slow

-- both readers agreed on so many runs: as many cuts by each, all of them agreed, and every run ended alike
pub record Agreeing (count : ℕ) (r : Tally) : Type 0 where
  pub runs : r.runs ≡ count
  pub cuts : r.fast ≡ r.slow
  pub agreed : r.agreed ≡ r.slow
  pub alike : r.alike ≡ count
