-- A field of a source text, and below it marks under its value, or under the part of it that is at fault.
use Rattle.std.specs.Prelude.{◌≡◌, ◌+◌, ◌-◌, ◌==◌, ◌||◌, ℕ, Bool, false, List, ◌∷◌, [], ◌++◌, Option, Some, None}
use Rattle.std.specs.Prelude.{IfSome}
use Rattle.std.specs.Prelude.{codes, drop, if◌then◌else◌, length, replicate, slice_get, take, Ok}
use Rattle.ti_caps.specs.Table.{name_at}
use Rattle.ti_source.specs.Escapes.{unescaped}
use Rattle.ti_source.specs.Marks.{equals, hash}
use Rattle.ti_blames.specs.Stretches.{IsWithin}
use Rattle.ti_blames.specs.Values.{IsMeaning}
use Rattle.ti_blames.specs.declared.stretches.Stretch.{Stretch}
use Rattle.ti_files.specs.Shown.{shown}

-- words on a line of their own, after four spaces
abbrev pub deeper : List ℕ → List ℕ
deeper words = codes "    " ++ (words ++ 10 ∷ [])

-- a byte behind the name of a capability that begins a value
abbrev pub begins_value : Option ℕ → Bool
begins_value None = false
begins_value (Some b) = (b == equals) || (b == hash)

-- how many bytes of a field about a capability come before its value, `CAP=` or `CAP#`; none where it has no value
unfoldable pub before_value : ℕ → List ℕ → ℕ
before_value cap field =
    if begins_value (slice_get field (length (name_at cap))) then length (name_at cap) + 1 else 0

-- a mark for each of these bytes, as compilers write them: `^~~~`; one for an empty value, under what would come next
abbrev pub marks : ℕ → List ℕ
marks count = 94 ∷ replicate (count - 1) 126

-- the value of a field about a capability; the whole field where it has none
abbrev pub value_in : ℕ → List ℕ → List ℕ
value_in cap field = drop (before_value cap field) field

-- the part of a value that means a stretch of its string
pub record IsFaultyPart (value : List ℕ) (part : Stretch) : Type 0 where
  pub string : List ℕ
  pub means : unescaped value ≡ Ok string
  pub stretch : Stretch
  pub inside : IsWithin string stretch
  pub is : IsMeaning value string stretch part

-- what is known of the part of a value that is at fault: such a part, or nothing, and then the whole value is
abbrev pub IsFaulty : List ℕ → Option Stretch → Type 0
IsFaulty value part = IfSome part (IsFaultyPart value)

-- what stands before the part of a value that is at fault, and that part
abbrev pub front_of : Option Stretch → List ℕ → List ℕ
front_of None value = []
front_of (Some part) value = take part.from value

abbrev pub part_of : Option Stretch → List ℕ → List ℕ
part_of None value = value
part_of (Some part) value = take (part.to - part.from) (drop part.from value)

-- a line, and below it marks under some of its bytes, which come after others
unfoldable pub underlined : List ℕ → List ℕ → List ℕ → List ℕ
underlined line before marked = deeper line ++ deeper (replicate (length before) 32 ++ marks (length marked))

-- a field about a capability, as far as it can be shown, and below it the marks under the part of its value that is at
-- fault
unfoldable pub excerpt : ℕ → Option Stretch → List ℕ → List ℕ
excerpt cap part field =
    underlined (shown field) (shown (take (before_value cap field) field ++ front_of part (value_in cap field)))
    (shown (part_of part (value_in cap field)))
