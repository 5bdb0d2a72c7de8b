-- A record that is finished.
use Rattle.std.specs.Prelude.{ℕ}
use Rattle.held.specs.declared.Held.{Held}
use Rattle.held.specs.Records.{ended}

-- finished with a status, its other words as they were
abbrev pub finished_as : (status : ℕ) → Held → Held
finished_as status h = ended h.ticket h.slots h.extras status
