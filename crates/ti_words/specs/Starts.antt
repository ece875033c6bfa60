-- The state of a terminal from which a string is run, in words.
use Rattle.std.specs.Prelude.{ℕ, ◌==◌, ◌&&◌, ◌||◌, Bool, true, false, not, List, [], ◌∷◌, ◌++◌, Option, Some, None}
use Rattle.std.specs.Prelude.{bytes_eq, if◌then◌else◌, codes}
use Rattle.std.specs.Fmt.{decimal}
use Rattle.vt_term.specs.Color.{Color, Black, Red, Green, Yellow, Blue, Magenta, Cyan, White}
use Rattle.vt_term.specs.Look.{Rendition}
use Rattle.vt_term.specs.Screen.{Charset, Settings, reset_screen, settings_of}

-- the words if the condition is true, else none
abbrev pub if_so : Bool → List ℕ → List ℕ
if_so b words = if b then words else []

abbrev pub place_text : ℕ → ℕ → List ℕ
place_text row col = codes "row " ++ (decimal row ++ (codes ", column " ++ decimal col))

abbrev pub cursor_text : ℕ → ℕ → List ℕ
cursor_text row col = codes ", the cursor is at " ++ place_text row col

abbrev pub margins_text : ℕ → ℕ → List ℕ
margins_text top bottom = codes ", the scrolling region is rows " ++ (decimal top ++ (codes " to " ++ decimal bottom))

-- ---- renditions

abbrev pub has_mark : Rendition → Bool
has_mark r = r.bold || (r.faint || (r.underline || (r.blink || (r.negative || r.concealed))))

-- the marks that are on
abbrev pub marks_text : Rendition → List ℕ
marks_text r =
    if_so r.bold (codes " bold") ++ (if_so r.faint (codes " dim") ++ (if_so r.underline (codes " underlined")
    ++ (if_so r.blink (codes " blinking") ++ (if_so r.negative (codes " reverse")
    ++ if_so r.concealed (codes " invisible")))))

abbrev pub color_name : Option Color → List ℕ
color_name None = codes "default"
color_name (Some Black) = codes "black"
color_name (Some Red) = codes "red"
color_name (Some Green) = codes "green"
color_name (Some Yellow) = codes "yellow"
color_name (Some Blue) = codes "blue"
color_name (Some Magenta) = codes "magenta"
color_name (Some Cyan) = codes "cyan"
color_name (Some White) = codes "white"

abbrev pub is_default : Option Color → Bool
is_default None = true
is_default (Some color) = false

abbrev pub has_colors : Rendition → Bool
has_colors r = not (is_default r.foreground && is_default r.background)

-- the colors, if one isn't the default
abbrev pub colors_text : Rendition → List ℕ
colors_text r =
    if_so (has_colors r) (codes " in " ++ (color_name r.foreground ++ (codes " on " ++ color_name r.background)))

unfoldable pub rendition_text : Rendition → List ℕ
rendition_text r = (if has_mark r then marks_text r else codes " plain") ++ colors_text r

abbrev pub shown_text : Rendition → List ℕ
shown_text r = codes ", the rendition is" ++ rendition_text r

unfoldable pub has_look : Rendition → Bool
has_look r = has_mark r || has_colors r

-- ---- character sets

abbrev pub set_name : Bool → List ℕ
set_name is_graphic = if is_graphic then codes "the line drawing set" else codes "the plain set"

abbrev pub active_text : Bool → List ℕ
active_text shifted_out = if shifted_out then codes ", G1 is active" else codes ", G0 is active"

abbrev pub sets_text : Charset → List ℕ
sets_text sets =
    codes ", G0 is " ++ (set_name sets.g0_graphic ++ (codes ", G1 is " ++ (set_name sets.g1_graphic
    ++ active_text sets.shifted_out)))

-- ---- the settings, as far as they differ from others

abbrev pub same_flag : Bool → Bool → Bool
same_flag true b = b
same_flag false b = not b

abbrev pub same_color : Option Color → Option Color → Bool
same_color one other = bytes_eq (color_name one) (color_name other)

abbrev pub same_marks : Rendition → Rendition → Bool
same_marks r s =
    same_flag r.bold s.bold && (same_flag r.faint s.faint && (same_flag r.underline s.underline
    && (same_flag r.blink s.blink && (same_flag r.negative s.negative && same_flag r.concealed s.concealed))))

unfoldable pub same_rendition : Rendition → Rendition → Bool
same_rendition r s =
    same_marks r s && (same_color r.foreground s.foreground && same_color r.background s.background)

abbrev pub same_charset : Charset → Charset → Bool
same_charset c d =
    same_flag c.g0_graphic d.g0_graphic
    && (same_flag c.g1_graphic d.g1_graphic && same_flag c.shifted_out d.shifted_out)

abbrev pub same_region : Settings → Settings → Bool
same_region one other = (one.top == other.top) && (one.bottom == other.bottom)

abbrev pub same_place : Settings → Settings → Bool
same_place one other = (one.row == other.row) && ((one.col == other.col) && same_flag one.pending other.pending)

unfoldable pub same_settings : Settings → Settings → Bool
same_settings one other =
    same_place one other && (same_rendition one.rendition other.rendition && (same_charset one.charset other.charset
    && (same_region one other && same_flag one.visible other.visible)))

-- the settings after a reset on a terminal of this height
abbrev pub at_rest : ℕ → Settings
at_rest height = settings_of (reset_screen height 0)

abbrev pub wrap_text : Bool → List ℕ
wrap_text pending =
    if pending then codes ", and the next character wraps to the next line"
    else codes ", and the next character no longer wraps"

abbrev pub cursor_seen_text : Bool → List ℕ
cursor_seen_text visible = if visible then codes ", the cursor is visible" else codes ", the cursor is hidden"

-- the region, the rendition and the sets of `now`, each if it differs from the one `before` or from the one at rest
abbrev pub region_seen_text : Settings → Settings → Settings → List ℕ
region_seen_text before rest now =
    if_so (not (same_region now before) || not (same_region now rest)) (margins_text now.top now.bottom)

abbrev pub look_seen_text : Rendition → Rendition → Rendition → List ℕ
look_seen_text before rest now =
    if_so (not (same_rendition now before) || not (same_rendition now rest)) (shown_text now)

abbrev pub sets_seen_text : Charset → Charset → Charset → List ℕ
sets_seen_text before rest now =
    if_so (not (same_charset now before) || not (same_charset now rest)) (sets_text now)

-- each setting of `now`, except the cursor's place, that differs from the one `before` or from the one at rest
abbrev pub settings_text : Settings → Settings → Settings → List ℕ
settings_text before rest now =
    if_so (not (same_flag now.pending before.pending) || now.pending) (wrap_text now.pending)
    ++ (region_seen_text before rest now
    ++ (look_seen_text before.rendition rest.rendition now.rendition
    ++ (sets_seen_text before.charset rest.charset now.charset
    ++ if_so (not (same_flag now.visible before.visible) || not now.visible) (cursor_seen_text now.visible))))

-- ---- a start

-- those that aren't as after a reset on a terminal of this height, except the cursor's place
abbrev pub unreset_text : ℕ → Settings → List ℕ
unreset_text height start = settings_text (at_rest height) (at_rest height) start

-- the fill of the cells, the cursor, and the settings that aren't as after a reset on a terminal of this height
abbrev pub start_text : ℕ → Settings → ℕ → List ℕ
start_text height start fill =
    codes "every cell shows '"
    ++ (fill ∷ 39 ∷ (cursor_text start.row start.col ++ unreset_text height start))
