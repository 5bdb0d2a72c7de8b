-- The numbers that the generator draws.
use Rattle.std.specs.Prelude.{ℕ, ◌+◌, ◌*◌, ◌%◌, ◌^◌}

-- the number drawn after another
abbrev pub drawn_after : ℕ → ℕ
drawn_after x = 48271 * x % 2147483647

-- the first number of a run, by the run's number
abbrev pub first_of : ℕ → ℕ
first_of number = drawn_after (drawn_after ((number + 1) % 2 ^ 32))
