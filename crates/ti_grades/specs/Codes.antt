-- The codes of a parameter string, by how they begin (terminfo(5), "Parameterized Strings").
use Rattle.std.specs.Prelude.{ℕ, ◌==◌, ◌&&◌, ◌||◌, nat_le, not, Bool, false, if◌then◌else◌, List, [], ◌∷◌}
use Rattle.std.specs.List.{list_any}
use Rattle.ti_grades.specs.declared.codes.CodeKind.{CodeKind}
use Rattle.ti_grades.specs.declared.codes.CodeKind.TheVariants.{Reads, Increments, Control}

-- the controls of ASCII
abbrev pub is_control : ℕ → Bool
is_control b = nat_le b 31 || b == 127

-- The string behind each `%` that begins a code. A byte right behind such a `%` belongs to its code, so it begins none.
abbrev pub behind_signs : List ℕ → List (List ℕ)
behind_signs [] = []
behind_signs (b ∷ []) = []
behind_signs (b ∷ c ∷ rest) = if b == 37 then (c ∷ rest) ∷ behind_signs rest else behind_signs (c ∷ rest)

-- the string behind a `%` makes it a code of this kind: the parameter's `p` and digit, the `i` of `%i`, or a control
abbrev pub shows : CodeKind → List ℕ → Bool
shows kind [] = false
shows (Reads digit) (b ∷ []) = false
shows (Reads digit) (b ∷ c ∷ rest) = b == 112 && c == digit
shows Increments (b ∷ rest) = b == 105
shows Control (b ∷ rest) = is_control b

-- the string has a code of this kind
unfoldable pub has_code : CodeKind → List ℕ → Bool
has_code kind string = list_any (shows kind) (behind_signs string)

-- a `%` of the string, which is behind this byte, stands behind another byte than ESC
abbrev pub has_bare_sign : ℕ → List ℕ → Bool
has_bare_sign before [] = false
has_bare_sign before (b ∷ rest) = (b == 37 && not (before == 27)) || has_bare_sign b rest

-- Each `%` stands right behind ESC. ESC % begins the designation of another coding system (ECMA-35 15.4), which a
-- string that isn't expanded sends as it is.
unfoldable pub is_designation : List ℕ → Bool
is_designation string = not (has_bare_sign 0 string)
