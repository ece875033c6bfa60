-- A run's first use of each static variable (terminfo(5), "Parameterized Strings").
use Rattle.std.specs.Prelude.{ℕ, List, slice_index_or, slice_set}
use Rattle.ti_parm.specs.declared.uses.FirstUse.{FirstUse}
use Rattle.ti_parm.specs.declared.uses.FirstUse.TheVariants.{Unused, ReadFirst, SetFirst}

-- the first use after one more use
abbrev pub further : FirstUse → FirstUse → FirstUse
further Unused now = now
further ReadFirst now = ReadFirst
further SetFirst now = SetFirst

-- the first use of each variable after one more use of one of them
abbrev pub noted : FirstUse → ℕ → List FirstUse → List FirstUse
noted now index uses = slice_set uses index (further (slice_index_or uses index Unused) now)
