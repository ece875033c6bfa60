-- The whole state as lines of text: the printed screen, and a line for each of its other parts.
use Rattle.std.specs.Prelude.{ℕ, ◌==◌, Bool, List, [], ◌∷◌, ◌++◌, length, codes, if◌then◌else◌}
use Rattle.std.specs.Fmt.{decimal}
use Rattle.hex.specs.Hex.{encode_lower}
use Rattle.vt_term.specs.Printed.{screen_text}
use Rattle.vt_term.specs.Screen.{Screen, State}
use Rattle.vt_states.specs.Styles.{rendition_letters}

-- a name and its value, as one line
abbrev pub line : List ℕ → List ℕ → List ℕ
line name value = name ++ 32 ∷ (value ++ 10 ∷ [])

-- a text, or a dash if it is empty
abbrev pub or_dash : List ℕ → List ℕ
or_dash text = if length text == 0 then codes "-" else text

abbrev pub either : Bool → List ℕ → List ℕ → List ℕ
either chosen yes_word no_word = if chosen then yes_word else no_word

abbrev pub margins_text : ℕ → ℕ → List ℕ
margins_text top bottom = decimal top ++ 32 ∷ decimal bottom

abbrev pub set_word : Bool → List ℕ
set_word graphic = either graphic (codes "graphic") (codes "plain")

abbrev pub active_word : Bool → List ℕ
active_word shifted_out = either shifted_out (codes "g1") (codes "g0")

unfoldable pub place_lines : Screen → List ℕ
place_lines s =
    line (codes "pending") (either s.pending (codes "yes") (codes "no"))
    ++ line (codes "margins") (margins_text s.top s.bottom)

unfoldable pub switch_lines : Screen → List ℕ
switch_lines s =
    line (codes "autowrap") (either s.autowrap (codes "on") (codes "off"))
    ++ line (codes "insert") (either s.inserting (codes "on") (codes "off"))

unfoldable pub rendition_line : Screen → List ℕ
rendition_line s = line (codes "rendition") (or_dash (rendition_letters s.rendition))

unfoldable pub set_lines : Screen → List ℕ
set_lines s =
    line (codes "g0") (set_word s.charset.g0_graphic)
    ++ line (codes "g1") (set_word s.charset.g1_graphic)
    ++ line (codes "active") (active_word s.charset.shifted_out)

-- the screen, the modes, the rendition, the sets, and the open sequence in hexadecimal
abbrev pub state_text : State → List ℕ
state_text s =
    screen_text s.screen ++ place_lines s.screen ++ switch_lines s.screen ++ rendition_line s.screen
    ++ set_lines s.screen ++ line (codes "open") (or_dash (encode_lower s.rest))
