-- (Serves the code alone.) The bytes that an entry sends to lead a terminal out of an unknown state (terminfo(5),
-- "Initialization" and "Line Graphics").
use Rattle.std.specs.Prelude.{ℕ, ◌<◌, ◌≡◌, Bool, true, false, List, [], length, slice_index_or}
use Rattle.ti_caps.specs.Entry.{Content}
use Rattle.ti_rows.specs.declared.rows.Row.{Row}
use Rattle.ti_rows.specs.Lists.{IsInRange}
use Rattle.ti_conforms.specs.Resync.{texts_of}
use Rattle.ti_checker.specs.Certificate.{SendsFor}
use Rattle.ti_checker.specs.Kept.{is_sent, OfAllKept}

-- the bytes that the entry sends for the row, none if it isn't a checked one of a kept capability
pub record IsPart (entry : Content) (kept : ℕ → Bool) (row : Row) (bytes : List ℕ) : Type 0 where
  pub sent : is_sent entry kept row ≡ true → SendsFor entry row bytes
  pub unsent : is_sent entry kept row ≡ false → bytes ≡ []

abbrev pub AreInRange : ℕ → ℕ → List Row → Type 0
AreInRange height width rows = (i : ℕ) (d : Row) → i < length rows → IsInRange height width (slice_index_or rows i d)

-- The bytes that the entry sends for these rows, one after another: the lines of these rows in each table of the kept
-- capabilities.
abbrev pub SendsAll : Content → ℕ → ℕ → (ℕ → Bool) → List Row → List ℕ → Type 0
SendsAll entry height width kept rows text =
    OfAllKept entry height width kept (λ t. text ≡ texts_of t.line_of rows)
