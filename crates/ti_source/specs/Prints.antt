-- The one text that is printed for an entry, in the form of infocmp(1): the names on a line, and each capability on a
-- line of its own.
use Rattle.std.specs.Prelude.{ℕ, ◌+◌, ◌/◌, ◌%◌, zero, suc, ◌&&◌, ◌||◌, List, [], ◌∷◌, ◌++◌, Option, Some, None}
use Rattle.std.specs.Prelude.{if◌then◌else◌, ◌==◌, nat_le, flat_map, decimal}
use Rattle.ti_caps.specs.declared.types.Kind.{Kind}
use Rattle.ti_caps.specs.declared.types.Kind.TheVariants as kinds
use Rattle.ti_caps.specs.declared.value.Value.{Value}
use Rattle.ti_caps.specs.declared.value.Value.TheVariants.{Flag, Number, String}
use Rattle.ti_caps.specs.Entry.{Content, value_at}
use Rattle.ti_caps.specs.Table.{name_at, kind_of, place_of_rank}
use Rattle.ti_caps.specs.Table.{is_kind}
use Rattle.ti_source.specs.Marks.{tab, line_feed, hash, comma, colon, equals, backslash, caret}

-- the letter after a backslash: E n r t b f s for the bytes 27 10 13 9 8 12 32, and the marks , \ ^ : for themselves
abbrev pub letter_for : ℕ → Option ℕ
letter_for b =
    if b == 27 then Some 69
    else (if b == 10 then Some 110
    else (if b == 13 then Some 114
    else (if b == 9 then Some 116
    else (if b == 8 then Some 98
    else (if b == 12 then Some 102
    else (if b == 32 then Some 115
    else (if (b == comma) || ((b == backslash) || ((b == caret) || (b == colon))) then Some b
    else None)))))))

-- a backslash and three octal digits
abbrev pub octal : ℕ → List ℕ
octal b = backslash ∷ (48 + b / 64) ∷ (48 + b / 8 % 8) ∷ (48 + b % 8) ∷ []

abbrev pub spelled_with : ℕ → Option ℕ → List ℕ
spelled_with b (Some letter) = backslash ∷ letter ∷ []
spelled_with b None = if nat_le 33 b && nat_le b 126 then b ∷ [] else octal b

-- the text of a byte of a string
unfoldable pub spelled : ℕ → List ℕ
spelled b = spelled_with b (letter_for b)

unfoldable pub string_text : List ℕ → List ℕ
string_text bytes = flat_map spelled bytes

-- the text after a name
abbrev pub value_text : Value → List ℕ
value_text Flag = []
value_text (Number n) = hash ∷ decimal n
value_text (String bytes) = equals ∷ string_text bytes

-- a tab, the name, the value, a comma and a line feed
unfoldable pub field_text : ℕ → Value → List ℕ
field_text place value = tab ∷ (name_at place ++ (value_text value ++ comma ∷ line_feed ∷ []))

-- the field of one capability, if the entry has it
abbrev pub place_text : ℕ → Option Value → List ℕ
place_text place None = []
place_text place (Some value) = field_text place value

-- the field of the capability whose name has this rank among all names, if it is of this kind
unfoldable pub rank_text : Content → Kind → ℕ → List ℕ
rank_text entry kind rank =
    if is_kind (kind_of (place_of_rank rank)) kind
    then place_text (place_of_rank rank) (value_at entry (place_of_rank rank))
    else []

-- the fields of a kind whose names have the first n ranks
abbrev pub ranks_text : Content → Kind → ℕ → List ℕ
ranks_text entry kind zero = []
ranks_text entry kind (suc n) = ranks_text entry kind n ++ rank_text entry kind n

-- there are 497 names
unfoldable pub kind_text : Content → Kind → List ℕ
kind_text entry kind = ranks_text entry kind 497

-- the names, and then flags, numbers and strings
unfoldable pub text_of : Content → List ℕ
text_of entry =
    entry.names ++ (comma ∷ line_feed
    ∷ (kind_text entry kinds.Flag ++ (kind_text entry kinds.Number ++ kind_text entry kinds.String)))
