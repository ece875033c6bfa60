-- The part of a sequence that the terminal ignores: all of it if it names no function, or some of its numbers (ECMA-48
-- 5.4, control sequences; 8.3.106 RM, 8.3.117 SGR, 8.3.125 SM; ECMA-35 13.2, escape sequences). `is_ignored` also
-- chooses the notes of `check`, and `ignores` serves the grades of faults.
use Rattle.std.specs.Prelude.{ℕ, ◌==◌, ◌&&◌, ◌||◌, nat_le, not, is_none, Bool, true, false, List, [], ◌∷◌}
use Rattle.std.specs.Prelude.{if◌then◌else◌, min, ◌+◌, ◌-◌, ◌*◌, Option, None, Some}
use Rattle.std.specs.Option.{unwrap_or}
use Rattle.std.specs.List.{list_any}
use Rattle.vt_term.specs.Rendition.{change_of}
use Rattle.vt_term.specs.Function.{Function, ModeKind, Standard, Private, function_of}
use Rattle.vt_term.specs.Function.{Print, LineFeed, CarriageReturn, Backspace, Tab, ShiftOut, ShiftIn, ReverseIndex}
use Rattle.vt_term.specs.Function.{NextLine, CursorUp, CursorDown, CursorForward, CursorBack, CursorColumn, CursorRow}
use Rattle.vt_term.specs.Function.{CursorPosition, EraseLine, EraseDisplay, EraseCells, InsertCells, DeleteCells}
use Rattle.vt_term.specs.Function.{InsertLines, DeleteLines, ScrollUp, ScrollDown, Margins, Designate}
use Rattle.vt_term.specs.Function.{SelectRendition, Modes, Ignored}
use Rattle.vt_states.specs.declared.ignored.Lack.{Lack}
use Rattle.vt_states.specs.declared.ignored.Lack.TheVariants.{Sequence, Number}
use Rattle.vt_states.specs.declared.ignored.Numbers.{Numbers}
use Rattle.vt_states.specs.declared.ignored.Numbers.TheVariants.{Renditions, ModesOf, Parts}

-- ---- a sequence that is whole

abbrev pub is_final : ℕ → Bool
is_final b = nat_le 0x40 b && nat_le b 0x7e

abbrev pub is_escape_final : ℕ → Bool
is_escape_final b = nat_le 0x30 b && nat_le b 0x7e

-- among the bytes after ESC is a final one: of a control sequence after ESC [, else of an escape sequence
abbrev pub has_final : List ℕ → Bool
has_final [] = false
has_final (second ∷ body) = if second == 91 then list_any is_final body else list_any is_escape_final (second ∷ body)

-- a token that begins with ESC and has its final byte; one that ESC, CAN or SUB cut off has none
abbrev pub is_whole_sequence : List ℕ → Bool
is_whole_sequence [] = false
is_whole_sequence (first ∷ behind) = (first == 27) && has_final behind

-- ---- a number that is unknown

-- a number of SGR that is unknown; the default is 0
abbrev pub is_unknown_rendition : Option ℕ → Bool
is_unknown_rendition n = is_none (change_of (unwrap_or n 0))

-- the known modes: insertion (ECMA-48 7.2.10, IRM); autowrap and the cursor's visibility (VT220, DECAWM and DECTCEM)
abbrev pub is_mode : ModeKind → ℕ → Bool
is_mode Standard n = n == 4
is_mode Private n = (n == 7) || (n == 25)

abbrev pub is_unknown_mode : ModeKind → Option ℕ → Bool
is_unknown_mode kind n = not (is_mode kind (unwrap_or n 0))

-- ---- functions that are ignored

-- the function does nothing, or nothing for one of its numbers
abbrev pub ignores : Function → Bool
ignores Ignored = true
ignores (SelectRendition numbers) = list_any is_unknown_rendition numbers
ignores (Modes kind on numbers) = list_any (is_unknown_mode kind) numbers
ignores (Print b) = false
ignores LineFeed = false
ignores CarriageReturn = false
ignores Backspace = false
ignores Tab = false
ignores ShiftOut = false
ignores ShiftIn = false
ignores ReverseIndex = false
ignores NextLine = false
ignores (CursorUp n) = false
ignores (CursorDown n) = false
ignores (CursorForward n) = false
ignores (CursorBack n) = false
ignores (CursorColumn n) = false
ignores (CursorRow n) = false
ignores (CursorPosition row col) = false
ignores (EraseLine extent) = false
ignores (EraseDisplay extent) = false
ignores (EraseCells n) = false
ignores (InsertCells n) = false
ignores (DeleteCells n) = false
ignores (InsertLines n) = false
ignores (DeleteLines n) = false
ignores (ScrollUp n) = false
ignores (ScrollDown n) = false
ignores (Margins first last) = false
ignores (Designate set graphic) = false

abbrev pub is_ignored : List ℕ → Bool
is_ignored token = is_whole_sequence token && ignores (function_of token)

-- ---- what the terminal lacks

-- the first number that is unknown
abbrev pub first_unknown : (Option ℕ → Bool) → List (Option ℕ) → Option ℕ
first_unknown test [] = None
first_unknown test (n ∷ ns) = if test n then Some (unwrap_or n 0) else first_unknown test ns

abbrev pub number_lack : Option ℕ → Option Lack
number_lack None = None
number_lack (Some n) = Some (Number n)

-- the function, or the first number that it lacks; nothing if all of the function has its effect
abbrev pub lack_in : Function → Option Lack
lack_in Ignored = Some Sequence
lack_in (SelectRendition numbers) = number_lack (first_unknown is_unknown_rendition numbers)
lack_in (Modes kind on numbers) = number_lack (first_unknown (is_unknown_mode kind) numbers)
lack_in (Print b) = None
lack_in LineFeed = None
lack_in CarriageReturn = None
lack_in Backspace = None
lack_in Tab = None
lack_in ShiftOut = None
lack_in ShiftIn = None
lack_in ReverseIndex = None
lack_in NextLine = None
lack_in (CursorUp n) = None
lack_in (CursorDown n) = None
lack_in (CursorForward n) = None
lack_in (CursorBack n) = None
lack_in (CursorColumn n) = None
lack_in (CursorRow n) = None
lack_in (CursorPosition row col) = None
lack_in (EraseLine extent) = None
lack_in (EraseDisplay extent) = None
lack_in (EraseCells n) = None
lack_in (InsertCells n) = None
lack_in (DeleteCells n) = None
lack_in (InsertLines n) = None
lack_in (DeleteLines n) = None
lack_in (ScrollUp n) = None
lack_in (ScrollDown n) = None
lack_in (Margins first last) = None
lack_in (Designate set graphic) = None

-- (Serves the code alone.) the numbers that functions lack: of SGR, of modes, and those of ED and EL
abbrev pub is_unknown : Numbers → Option ℕ → Bool
is_unknown Renditions n = is_unknown_rendition n
is_unknown (ModesOf kind) n = is_unknown_mode kind n
is_unknown Parts n = not (nat_le (unwrap_or n 0) 2)

abbrev pub part_lack : Option ℕ → Option Lack
part_lack None = None
part_lack (Some n) = Some Sequence

-- a number with one more digit
abbrev pub with_digit : Option ℕ → ℕ → ℕ
with_digit number digit = min 65535 (10 * unwrap_or number 0 + (digit - 48))

-- the first unknown one of a number that is being read, and those in the bytes
abbrev pub unknown_from : (Option ℕ → Bool) → Option ℕ → List ℕ → Option ℕ
unknown_from test number [] = first_unknown test (number ∷ [])
unknown_from test number (b ∷ bytes) =
    if b == 59 then (if test number then Some (unwrap_or number 0) else unknown_from test None bytes)
    else unknown_from test (Some (with_digit number b)) bytes
