-- The rows of a capability have one string.
use Rattle.std.proofs.Common.{◌≡◌, ◌+◌, ℕ, ap}
use Rattle.ti_caps.specs.Entry.{Content, string_at}
use Rattle.ti_rows.specs.declared.rows.Row.{Row}
use Rattle.ti_rows.specs.Names.{order, string_in_order}
use Rattle.ti_conforms.specs.Entries.{string_of}

pub same_string : (entry : Content) (row other : Row) → order row ≡ order other → string_of entry row ≡ string_of entry other
same_string entry row other e = ap (λ (n : ℕ). string_at entry (83 + string_in_order n)) e
