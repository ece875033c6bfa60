-- (Serves the code alone.) The test of the order of lines, by the row of the last line and the number of lines about
-- one capability.
use Rattle.std.specs.Prelude.{ℕ, ◌+◌, ◌==◌, ◌&&◌, ◌||◌, nat_le, nat_lt, Bool, false, if◌then◌else◌, Option, None, Some}
use Rattle.ti_rows.specs.declared.rows.Row.{Row}
use Rattle.ti_rows.specs.Names.{order, first_in_order}
use Rattle.ti_rows.specs.Lists.{next, rank}
use Rattle.ti_cert.specs.Strings.{allows}
use Rattle.ti_cert.specs.declared.faults.CertFaultKind.{CertFaultKind}
use Rattle.ti_cert.specs.declared.faults.CertFaultKind.TheVariants.{BadLine, OutOfOrder}
use Rattle.ti_cert.specs.Certificates.{missing_line}

abbrev pub next_within : ℕ → ℕ → Row → Option Row
next_within rows cols row = if allows rows cols row then next rows cols row else None

abbrev pub is_between : ℕ → ℕ → ℕ → Bool
is_between from n to = nat_le from n && nat_lt n to

-- the first line of a required capability from one place and before another
abbrev pub required : ℕ → ℕ → Option Row
required from to =
    if is_between from 4 to then first_in_order 4
    else (if is_between from 14 to then first_in_order 14
    else (if is_between from 36 to then first_in_order 36
    else None))

abbrev pub missing_behind : Option Row → ℕ → ℕ → Option Row
missing_behind None last n = required (last + 1) n
missing_behind (Some next) last n = if nat_lt last n then Some next else required (last + 1) n

-- the first missing line that must come before those of the capability at a place
abbrev pub missing : ℕ → ℕ → Option Row → ℕ → Option Row
missing rows cols None n = required 0 n
missing rows cols (Some last) n = missing_behind (next_within rows cols last) (order last) n

-- the line that must come next among those of the row's capability
abbrev pub expected : ℕ → ℕ → Option Row → Row → Option Row
expected rows cols None row = first_in_order (order row)
expected rows cols (Some last) row =
    if order last == order row then next_within rows cols last else first_in_order (order row)

abbrev pub or_row : Option Row → Row → Row
or_row None row = row
or_row (Some other) row = other

abbrev pub is_late : Option Row → Row → Bool
is_late None row = false
is_late (Some last) row = nat_lt (order row) (order last)

abbrev pub or_missing : Option Row → Option CertFaultKind → Option CertFaultKind
or_missing None fault = fault
or_missing (Some row) fault = Some (missing_line row)

abbrev pub early_fault : ℕ → ℕ → Option Row → ℕ → Row → Option CertFaultKind
early_fault rows cols last count row =
    if rank rows cols row == count then None else Some (missing_line (or_row (expected rows cols last row) row))

-- the fault of a line of this row after this many of its capability
abbrev pub place_fault : ℕ → ℕ → Option Row → ℕ → Row → Option CertFaultKind
place_fault rows cols last count row =
    if allows rows cols row
    then (if is_late last row || nat_lt (rank rows cols row) count then Some OutOfOrder
    else or_missing (missing rows cols last (order row)) (early_fault rows cols last count row))
    else Some BadLine
