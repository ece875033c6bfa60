-- The strings of a certificate: for each checked capability, those of its parameter lists in ascending order.
use Rattle.std.specs.Prelude.{ℕ, ◌≡◌, ◌⊎◌, ◌&&◌, ◌||◌, nat_le, nat_lt, Bool, true, not, ◌+◌, ◌==◌, if◌then◌else◌, List}
use Rattle.std.specs.Prelude.{[], Option, Some, None, length, slice_index_or}
use Rattle.std.specs.List.{slice_get, sum_by}
use Rattle.ti_rows.specs.declared.rows.Row.{Row}
use Rattle.ti_rows.specs.declared.rows.Row.TheVariants.{Cup, Hpa, Vpa, Cub, Cuf, Cuu, Cud, Ech, Csr}
use Rattle.ti_rows.specs.Names.{order}
use Rattle.ti_rows.specs.Lists.{rank}

pub record Strings : Type 0 where
  pub rows : ℕ
  pub cols : ℕ
  -- one group for each capability, in the byte order of their names
  pub groups : List (List (List ℕ))

-- whether the size allows the parameters
abbrev pub allows : ℕ → ℕ → Row → Bool
allows rows cols (Cup row col) = nat_lt row rows && nat_lt col cols
allows rows cols (Hpa col) = nat_lt col cols
allows rows cols (Vpa row) = nat_lt row rows
allows rows cols (Cub n) = nat_le 1 n && nat_lt n cols
allows rows cols (Cuf n) = nat_le 1 n && nat_lt n cols
allows rows cols (Cuu n) = nat_le 1 n && nat_lt n rows
allows rows cols (Cud n) = nat_le 1 n && nat_lt n rows
allows rows cols (Ech n) = nat_le 1 n && nat_le n cols
allows rows cols (Csr top bottom) = nat_lt top bottom && nat_lt bottom rows
allows rows cols _ = true

-- the strings of the capability at a place
abbrev pub group_at : Strings → ℕ → List (List ℕ)
group_at s n = slice_index_or s.groups n []

-- the string of a row, if there is one
abbrev pub row_string : Strings → Row → Option (List ℕ)
row_string s row =
    if allows s.rows s.cols row then slice_get (group_at s (order row)) (rank s.rows s.cols row) else None

-- (Serves the code alone.) whether the row's capability has strings
abbrev pub has_group : Strings → Row → Bool
has_group s row = not (length (group_at s (order row)) == 0)

-- the number of bytes of all strings together
abbrev pub total : Strings → ℕ
total s = sum_by (λ group. sum_by (λ bytes. length bytes) group) s.groups

-- (Serves the code alone.) one more string, and all others stay
pub record Adds (old new : Strings) (row : Row) (bytes : List ℕ) : Type 0 where
  pub rows_kept : new.rows ≡ old.rows
  pub cols_kept : new.cols ≡ old.cols
  pub only : (other : Row) (found : List ℕ) → row_string new other ≡ Some found
      → (row_string old other ≡ Some found) ⊎ ((other ≡ row) × (found ≡ bytes))
  pub there : row_string new row ≡ Some bytes
  pub kept : (other : Row) (found : List ℕ) → row_string old other ≡ Some found → row_string new other ≡ Some found
  pub later : (other : Row) (found : List ℕ) → row_string old other ≡ Some found → order other ≡ order row
      → nat_lt (rank old.rows old.cols other) (rank old.rows old.cols row) ≡ true
  pub groups : (other : Row) → has_group new other ≡ (order other == order row || has_group old other)
  pub total_is : total new ≡ total old + length bytes
