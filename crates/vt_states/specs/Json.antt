-- The whole state as the members of a JSON object (RFC 8259), in the order of their names and without a space.
use Rattle.std.specs.Prelude.{ℕ, ◌+◌, ◌==◌, ◌||◌, Bool, List, [], ◌∷◌, ◌++◌, length, codes, if◌then◌else◌, Option, None}
use Rattle.std.specs.Prelude.{Some, zero, suc}
use Rattle.std.specs.Fmt.{decimal}
use Rattle.std.specs.List.{flat_map}
use Rattle.hex.specs.Hex.{encode_lower}
use Rattle.vt_term.specs.Look.{Look}
use Rattle.vt_term.specs.Grid.{Grid}
use Rattle.vt_term.specs.Printed.{style_text, at, run_start, ends_run}
use Rattle.vt_term.specs.Screen.{Screen, State}
use Rattle.vt_states.specs.Styles.{rendition_letters}
use Rattle.vt_states.specs.Lines.{either}

-- in quotes, a backslash precedes each quote and backslash
abbrev pub escaped : ℕ → List ℕ
escaped b = if (b == 34) || (b == 92) then 92 ∷ b ∷ [] else b ∷ []

abbrev pub quoted : List ℕ → List ℕ
quoted text = 34 ∷ (flat_map escaped text ++ 34 ∷ [])

-- a text that needs no backslash, in quotes
abbrev pub plainly_quoted : List ℕ → List ℕ
plainly_quoted text = 34 ∷ (text ++ 34 ∷ [])

abbrev pub truth : Bool → List ℕ
truth b = either b (codes "true") (codes "false")

-- a list of two numbers
abbrev pub pair : ℕ → ℕ → List ℕ
pair a b = 91 ∷ (decimal a ++ 44 ∷ (decimal b ++ 93 ∷ []))

abbrev pub bracketed : List ℕ → List ℕ
bracketed items = 91 ∷ (items ++ 93 ∷ [])

-- items separated by commas, ready for one more
abbrev pub before_next : List ℕ → List ℕ
before_next items = if length items == 0 then [] else items ++ 44 ∷ []

-- the characters of a row
abbrev pub row_item : List Look → List ℕ
row_item line = 34 ∷ (flat_map (λ x. escaped x.byte) line ++ 34 ∷ [])

-- the rows after some items
abbrev pub rows_behind : List ℕ → Grid → List ℕ
rows_behind items [] = items
rows_behind items (line ∷ lines) = rows_behind (before_next items ++ row_item line) lines

-- a run of cells in one row that are shown alike and not plainly: row, first and last column, letters
abbrev pub look_place : ℕ → ℕ → ℕ → List ℕ
look_place row first last =
    codes "[" ++ (decimal row ++ (codes "," ++ (decimal first ++ (codes "," ++ (decimal last ++ codes ",\"")))))

abbrev pub look_item : ℕ → ℕ → ℕ → List ℕ → List ℕ
look_item row first last style = look_place row first last ++ (style ++ codes "\"]")

abbrev pub look_behind : List ℕ → ℕ → ℕ → ℕ → List ℕ → List ℕ
look_behind items row first last style =
    if length style == 0 then items else before_next items ++ look_item row first last style

-- the run that ends in this column, if one does, after some items
abbrev pub run_behind : List ℕ → ℕ → List Look → ℕ → List ℕ
run_behind items row line k =
    if ends_run line k then look_behind items row (run_start line k) k (style_text (at line k)) else items

-- the runs that end before column n, after some items
abbrev pub runs_behind : List ℕ → ℕ → List Look → ℕ → List ℕ
runs_behind items row line zero = items
runs_behind items row line (suc n) = run_behind (runs_behind items row line n) row line n

abbrev pub looks_behind : List ℕ → ℕ → Grid → List ℕ
looks_behind items row [] = items
looks_behind items row (line ∷ lines) = looks_behind (runs_behind items row line (length line)) (row + 1) lines

-- a member and the comma after it
abbrev pub member : List ℕ → List ℕ → List ℕ
member name value = plainly_quoted name ++ 58 ∷ (value ++ 44 ∷ [])

-- a member that is a list of items
abbrev pub list_member : List ℕ → List ℕ → List ℕ
list_member name items = member name (bracketed items)

abbrev pub set_value : Bool → List ℕ
set_value graphic = either graphic (codes "\"graphic\"") (codes "\"plain\"")

unfoldable pub cursor_members : Screen → List ℕ
cursor_members s =
    member (codes "active") (either s.charset.shifted_out (codes "\"g1\"") (codes "\"g0\""))
    ++ member (codes "autowrap") (truth s.autowrap)
    ++ member (codes "cursor") (pair s.row s.col)

unfoldable pub set_members : Screen → List ℕ
set_members s =
    member (codes "g0") (set_value s.charset.g0_graphic) ++ member (codes "g1") (set_value s.charset.g1_graphic)
    ++ member (codes "insert") (truth s.inserting)

unfoldable pub look_members : Screen → List ℕ
look_members s =
    member (codes "looks") (bracketed (looks_behind [] 0 s.grid)) ++ member (codes "margins") (pair s.top s.bottom)

unfoldable pub open_members : State → List ℕ
open_members s =
    member (codes "open") (plainly_quoted (encode_lower s.rest)) ++ member (codes "pending") (truth s.screen.pending)

unfoldable pub rendition_members : Screen → List ℕ
rendition_members s = member (codes "rendition") (plainly_quoted (rendition_letters s.rendition))

abbrev pub size_text : ℕ → ℕ → List ℕ
size_text rows cols = codes "{\"cols\":" ++ (decimal cols ++ (codes ",\"rows\":" ++ (decimal rows ++ codes "}")))

-- the last members
unfoldable pub row_members : Screen → List ℕ
row_members s =
    member (codes "rows") (bracketed (rows_behind [] s.grid)) ++ member (codes "size") (size_text s.rows s.cols)
    ++ (codes "\"visible\":" ++ truth s.visible)

unfoldable pub members : State → List ℕ
members s =
    cursor_members s.screen ++ set_members s.screen ++ look_members s.screen ++ open_members s
    ++ rendition_members s.screen ++ row_members s.screen

-- an object with these members before the state's
abbrev pub object : List ℕ → State → List ℕ
object front s = 123 ∷ (front ++ (members s ++ 125 ∷ []))

-- the first members of the object of a case: its name, and the place where it is stuck, if it is
abbrev pub case_members : List ℕ → Option ℕ → List ℕ
case_members name None = member (codes "name") (quoted name)
case_members name (Some at) = member (codes "name") (quoted name) ++ member (codes "stuck") (decimal at)
