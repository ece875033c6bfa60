-- The table of terminfo(5)'s capabilities: flags, numbers and strings, each in the order of term(5). Definitions see
-- a capability as its place among all of them, from 0 to 496. The definitions that read the table are never unfolded
-- unless the place is a literal.
use Rattle.std.specs.Prelude.{ℕ, Bool, true, false, ◌+◌, ◌-◌, ◌<◌, ◌≡◌, List, [], ◌++◌, Option, Some, None, ◌==◌}
use Rattle.std.specs.Prelude.{nat_lt, if◌then◌else◌, length, replicate, slice_index_or}
use Rattle.std.specs.Int.{from_be_bytes, w64}
use Rattle.std.specs.List.{before_first, position_from}
use Rattle.std.specs.Cmp.Lexicographic.{slice_cmp}
use Rattle.std.specs.Ordering.{nat_cmp}
use Rattle.std.specs.declared.cmp.Ordering.TheVariants.{Less}
use Rattle.std.specs.Str.{bytes_eq}
use Rattle.ti_caps.specs.declared.types.Kind.{Kind}
use Rattle.ti_caps.specs.declared.types.Kind.TheVariants.{Flag, Number, String}
use Rattle.ti_caps.specs.declared.table.TheConstants.{NAMES, SORTED}

-- the name in a row of the table, without the zeros after it
abbrev pub unpadded : List ℕ → List ℕ
unpadded row = before_first (λ b. b == 0) row

-- a name padded with zeros to 8 bytes
abbrev pub padded : List ℕ → List ℕ
padded name = name ++ replicate (8 - length name) 0

-- the row at a place
unfoldable pub row_at : ℕ → List ℕ
row_at place = slice_index_or NAMES place []

-- the name of the capability at a place
unfoldable pub name_at : ℕ → List ℕ
name_at place = unpadded (row_at place)

-- the place of the capability named by a text
unfoldable pub place_in : List ℕ → Option ℕ
place_in text = position_from (λ row. bytes_eq (unpadded row) text) 0 NAMES

-- the kind of the capability at a place: 44 flags, then 39 numbers, then 414 strings
unfoldable pub kind_of : ℕ → Kind
kind_of place = if nat_lt place 44 then Flag else (if nat_lt place 83 then Number else String)

abbrev pub is_kind : Kind → Kind → Bool
is_kind Flag Flag = true
is_kind Number Number = true
is_kind String String = true
is_kind _ _ = false

-- the number of capabilities of a kind
abbrev pub count_of : Kind → ℕ
count_of Flag = 44
count_of Number = 39
count_of String = 414

-- the place of the first capability of a kind
abbrev pub first_of : Kind → ℕ
first_of Flag = 0
first_of Number = 44
first_of String = 83

-- the position of a capability among those of its kind, which is its place in a compiled entry of term(5)
unfoldable pub position_of : ℕ → ℕ
position_of place = place - first_of (kind_of place)

-- the place of the capability of a kind at a position
unfoldable pub place_from : Kind → ℕ → Option ℕ
place_from kind position = if nat_lt position (count_of kind) then Some (first_of kind + position) else None

-- the place of the capability whose name has this rank in the byte order of names
unfoldable pub place_of_rank : ℕ → ℕ
place_of_rank rank = slice_index_or SORTED rank 0

-- the place of the name with this rank, if there is such a rank
unfoldable pub place_ranked : ℕ → Option ℕ
place_ranked rank = if nat_lt rank 497 then Some (place_of_rank rank) else None

-- the names rise with their ranks, byte by byte
abbrev pub NamesRise : Type 0
NamesRise =
    (low high : ℕ) → low < high → high < 497
    → slice_cmp nat_cmp (name_at (place_of_rank low)) (name_at (place_of_rank high)) ≡ Less

-- each capability's name has a rank
abbrev pub EachHasRank : Type 0
EachHasRank = (place : ℕ) → place < 497 → (rank : ℕ) × (rank < 497) × (place_of_rank rank ≡ place)

-- a name as a number; keys sort as names do
abbrev pub key_of : List ℕ → ℕ
key_of name = from_be_bytes w64 (padded name)

-- the key of the name with this rank
unfoldable pub rank_key : ℕ → ℕ
rank_key rank = from_be_bytes w64 (row_at (place_of_rank rank))
