-- Which capabilities of two entries are listed, as infocmp(1M) says: those that both have with equal values (-c), or
-- those that neither has (-n).
use Rattle.std.specs.Prelude.{ℕ, Bool, true, false, ◌&&◌, ◌==◌, List, [], ◌∷◌, ◌++◌, Option, Some, None, filter, map}
use Rattle.std.specs.List.{flat_map, range_with_len}
use Rattle.std.specs.Str.{bytes_eq}
use Rattle.ti_caps.specs.declared.types.Kind.{Kind}
use Rattle.ti_caps.specs.declared.types.Kind.TheVariants as kinds
use Rattle.ti_caps.specs.declared.value.Value.{Value}
use Rattle.ti_caps.specs.declared.value.Value.TheVariants.{Flag, Number, String}
use Rattle.ti_caps.specs.Entry.{Content, value_at}
use Rattle.ti_caps.specs.Table.{is_kind, kind_of, name_at, place_of_rank}
use Rattle.ti_commands.specs.declared.descriptions.Comparison.{Comparison}
use Rattle.ti_commands.specs.declared.descriptions.Comparison.TheVariants.{Common, Neither}

-- the first `count` capabilities in the order of their names as bytes
unfoldable pub caps_by_name : ℕ → List ℕ
caps_by_name count = map place_of_rank (range_with_len 0 count)

abbrev pub same_value : Value → Value → Bool
same_value Flag Flag = true
same_value (Number m) (Number n) = m == n
same_value (String one) (String other) = bytes_eq one other
same_value _ _ = false

-- whether a capability is listed, if the two entries have these values for it
abbrev pub is_listed : Comparison → Option Value → Option Value → Bool
is_listed Common (Some one) (Some other) = same_value one other
is_listed Neither None None = true
is_listed _ _ _ = false

-- whether the capability at a place is of this kind and listed
abbrev pub is_listed_at : Comparison → Content → Content → Kind → ℕ → Bool
is_listed_at comparison first second kind cap =
    is_kind (kind_of cap) kind && is_listed comparison (value_at first cap) (value_at second cap)

-- the listed ones of a kind among the first `count`
unfoldable pub listed : Comparison → Content → Content → Kind → ℕ → List ℕ
listed comparison first second kind count = filter (is_listed_at comparison first second kind) (caps_by_name count)

abbrev pub name_line : ℕ → List ℕ
name_line cap = name_at cap ++ 10 ∷ []

-- a line for each of the listed ones
abbrev pub kind_lines : Comparison → Content → Content → Kind → List ℕ
kind_lines comparison first second kind = flat_map name_line (listed comparison first second kind 497)

-- flags, numbers and strings, each kind in the order of names
abbrev pub comparison_text : Comparison → Content → Content → List ℕ
comparison_text comparison first second =
    kind_lines comparison first second kinds.Flag
    ++ (kind_lines comparison first second kinds.Number ++ kind_lines comparison first second kinds.String)
