-- The text of an effect: its words in a fixed order, with a space between each two.
use Rattle.std.specs.Prelude.{ℕ, ◌+◌, ◌<◌, ◌==◌, Bool, if◌then◌else◌, List, [], ◌∷◌, ◌++◌, Option, None, Some}
use Rattle.std.specs.Fmt.{decimal}
use Rattle.std.specs.List.{list_all, join_with_byte}
use Rattle.vt_term.specs.Color.{color_number}
use Rattle.vt_effects.specs.declared.effects.Move.{Move}
use Rattle.vt_effects.specs.declared.effects.Move.TheVariants as moves
use Rattle.vt_effects.specs.declared.effects.Erasure.{Erasure}
use Rattle.vt_effects.specs.declared.effects.Erasure.TheVariants as erasures
use Rattle.vt_effects.specs.declared.effects.Scroll.{Scroll}
use Rattle.vt_effects.specs.declared.effects.Scroll.TheVariants as scrolls
use Rattle.vt_effects.specs.declared.effects.Switch.{Switch}
use Rattle.vt_effects.specs.declared.effects.Switch.TheVariants as switches
use Rattle.vt_effects.specs.declared.effects.Ink.{Ink}
use Rattle.vt_effects.specs.declared.effects.Ink.TheVariants as inks
use Rattle.vt_effects.specs.declared.effects.Rendering.{Rendering}
use Rattle.vt_effects.specs.declared.effects.Sets.{Sets}
use Rattle.vt_effects.specs.declared.effects.Region.{Region}
use Rattle.vt_effects.specs.declared.effects.Effect.{Effect}

-- row
abbrev pub row_name : List ℕ
row_name = 114 ∷ 111 ∷ 119 ∷ []

-- col
abbrev pub col_name : List ℕ
col_name = 99 ∷ 111 ∷ 108 ∷ []

-- =k, -k or +k after the name; a coordinate that is kept has no text
abbrev pub move_text : List ℕ → Move → List ℕ
move_text name moves.Kept = []
move_text name (moves.To k) = name ++ 61 ∷ decimal k
move_text name (moves.Back k) = name ++ 45 ∷ decimal k
move_text name (moves.Forward k) = name ++ 43 ∷ decimal k

-- nopend
abbrev pub nopend : List ℕ
nopend = 110 ∷ 111 ∷ 112 ∷ 101 ∷ 110 ∷ 100 ∷ []

abbrev pub pending_text : Bool → List ℕ
pending_text ends = if ends then nopend else []

-- all, tail, head, rest
abbrev pub all_name : List ℕ
all_name = 97 ∷ 108 ∷ 108 ∷ []

abbrev pub tail_name : List ℕ
tail_name = 116 ∷ 97 ∷ 105 ∷ 108 ∷ []

abbrev pub head_name : List ℕ
head_name = 104 ∷ 101 ∷ 97 ∷ 100 ∷ []

abbrev pub rest_name : List ℕ
rest_name = 114 ∷ 101 ∷ 115 ∷ 116 ∷ []

-- next=
abbrev pub next_name : List ℕ
next_name = 110 ∷ 101 ∷ 120 ∷ 116 ∷ 61 ∷ []

abbrev pub erasure_text : Erasure → List ℕ
erasure_text erasures.Nothing = []
erasure_text erasures.Screen = all_name
erasure_text erasures.Tail = tail_name
erasure_text erasures.Head = head_name
erasure_text erasures.Rest = rest_name
erasure_text (erasures.Next n) = next_name ++ decimal n

-- up, down
abbrev pub up_name : List ℕ
up_name = 117 ∷ 112 ∷ []

abbrev pub down_name : List ℕ
down_name = 100 ∷ 111 ∷ 119 ∷ 110 ∷ []

abbrev pub scroll_text : Scroll → List ℕ
scroll_text scrolls.Still = []
scroll_text scrolls.Up = up_name
scroll_text scrolls.Down = down_name

-- a letter if it is on, another if it is off, a dot if it is kept
abbrev pub switch_letter : ℕ → ℕ → Switch → ℕ
switch_letter on off switches.Kept = 46
switch_letter on off switches.On = on
switch_letter on off switches.Off = off

-- 0 to 7, d, or a dot
abbrev pub ink_letter : Ink → ℕ
ink_letter inks.Kept = 46
ink_letter inks.Default = 100
ink_letter (inks.Color c) = 48 + color_number c

abbrev pub is_dot : ℕ → Bool
is_dot b = b == 46

-- letters after a name, unless each of them is a dot
abbrev pub lettered : List ℕ → List ℕ → List ℕ
lettered name letters = if list_all is_dot letters then [] else name ++ letters

-- look:
abbrev pub look_name : List ℕ
look_name = 108 ∷ 111 ∷ 111 ∷ 107 ∷ 58 ∷ []

-- 1 and 0
abbrev pub mark_letter : Switch → ℕ
mark_letter s = switch_letter 49 48 s

abbrev pub look_letters : Rendering → List ℕ
look_letters r =
    mark_letter r.bold ∷ mark_letter r.faint ∷ mark_letter r.underline ∷ mark_letter r.blink ∷ mark_letter r.negative
    ∷ mark_letter r.concealed ∷ []

abbrev pub look_text : Rendering → List ℕ
look_text r = lettered look_name (look_letters r)

-- ink:
abbrev pub ink_name : List ℕ
ink_name = 105 ∷ 110 ∷ 107 ∷ 58 ∷ []

abbrev pub ink_text : Rendering → List ℕ
ink_text r = lettered ink_name (ink_letter r.foreground ∷ ink_letter r.background ∷ [])

-- set:
abbrev pub set_name : List ℕ
set_name = 115 ∷ 101 ∷ 116 ∷ 58 ∷ []

-- 0 for graphic and B for plain; O for shifted out and I for shifted in
abbrev pub set_text : Sets → List ℕ
set_text s = lettered set_name
    (switch_letter 48 66 s.g0_graphic ∷ switch_letter 48 66 s.g1_graphic ∷ switch_letter 79 73 s.shifted_out ∷ [])

-- rows:
abbrev pub rows_name : List ℕ
rows_name = 114 ∷ 111 ∷ 119 ∷ 115 ∷ 58 ∷ []

-- top,bottom
abbrev pub rows_text : Option Region → List ℕ
rows_text None = []
rows_text (Some r) = rows_name ++ (decimal r.top ++ 44 ∷ decimal r.bottom)

-- show, hide
abbrev pub show_name : List ℕ
show_name = 115 ∷ 104 ∷ 111 ∷ 119 ∷ []

abbrev pub hide_name : List ℕ
hide_name = 104 ∷ 105 ∷ 100 ∷ 101 ∷ []

abbrev pub visible_text : Switch → List ℕ
visible_text switches.Kept = []
visible_text switches.On = show_name
visible_text switches.Off = hide_name

-- each kind of word in its place, with an empty text for what is kept
abbrev pub texts : Effect → List (List ℕ)
texts e =
    move_text row_name e.row ∷ move_text col_name e.col ∷ pending_text e.ends_pending ∷ erasure_text e.erasure
    ∷ scroll_text e.scroll ∷ look_text e.rendition ∷ ink_text e.rendition ∷ set_text e.charset
    ∷ rows_text e.margins ∷ visible_text e.visible ∷ []

-- the texts that aren't empty
abbrev pub nonempty : List (List ℕ) → List (List ℕ)
nonempty [] = []
nonempty ([] ∷ ws) = nonempty ws
nonempty ((b ∷ bs) ∷ ws) = (b ∷ bs) ∷ nonempty ws

abbrev pub words : Effect → List (List ℕ)
words e = nonempty (texts e)

-- joined by spaces, or a dash if there are none
abbrev pub joined : List (List ℕ) → List ℕ
joined [] = 45 ∷ []
joined (w ∷ ws) = join_with_byte 32 (w ∷ ws)

unfoldable pub spelled : Effect → List ℕ
spelled e = joined (words e)

-- a number of 16 bits; a relative move is at least by one
abbrev pub IsPlainMove : Move → Type 0
IsPlainMove moves.Kept = Unit {0}
IsPlainMove (moves.To k) = k < 65536
IsPlainMove (moves.Back k) = (0 < k) × (k < 65536)
IsPlainMove (moves.Forward k) = (0 < k) × (k < 65536)

abbrev pub IsPlainErasure : Erasure → Type 0
IsPlainErasure (erasures.Next n) = (0 < n) × (n < 65536)
IsPlainErasure _ = Unit {0}

abbrev pub IsPlainRegion : Option Region → Type 0
IsPlainRegion None = Unit {0}
IsPlainRegion (Some r) = (r.top < 65536) × (r.bottom < 65536)

-- an effect in its one form: nothing moves by zero, and no zero cells are erased
pub record IsPlain (e : Effect) : Type 0 where
  pub row : IsPlainMove e.row
  pub col : IsPlainMove e.col
  pub erasure : IsPlainErasure e.erasure
  pub margins : IsPlainRegion e.margins
