-- The function of each token (ECMA-48 8.3; VT100 user guide for DECSTBM, DECAWM and the character sets).
use Rattle.std.specs.Prelude.{ℕ, ◌-◌, ◌==◌, ◌&&◌, ◌||◌, nat_le, max, true, false, List, [], ◌∷◌, length, take}
use Rattle.std.specs.Prelude.{if◌then◌else◌, Option, None, Some}
use Rattle.std.specs.Option.{unwrap_or}
use Rattle.std.specs.List.{list_all, slice_index}
pub use Rattle.vt_screen.specs.declared.functions.EraseExtent.{EraseExtent}
pub use Rattle.vt_screen.specs.declared.functions.EraseExtent.TheVariants.{ToEnd, FromStart, Whole}
pub use Rattle.vt_screen.specs.declared.functions.CodeElement.{CodeElement}
pub use Rattle.vt_screen.specs.declared.functions.CodeElement.TheVariants.{G0, G1}
pub use Rattle.vt_screen.specs.declared.functions.ModeKind.{ModeKind}
pub use Rattle.vt_screen.specs.declared.functions.ModeKind.TheVariants.{Standard, Private}
pub use Rattle.vt_screen.specs.declared.functions.Function.{Function}
pub use Rattle.vt_screen.specs.declared.functions.Function.TheVariants.{Print, LineFeed, CarriageReturn, Backspace, Tab}
pub use Rattle.vt_screen.specs.declared.functions.Function.TheVariants.{ShiftOut, ShiftIn, ReverseIndex, NextLine}
pub use Rattle.vt_screen.specs.declared.functions.Function.TheVariants.{CursorUp, CursorDown, CursorForward, CursorBack}
pub use Rattle.vt_screen.specs.declared.functions.Function.TheVariants.{CursorColumn, CursorRow, CursorPosition}
pub use Rattle.vt_screen.specs.declared.functions.Function.TheVariants.{EraseLine, EraseDisplay, EraseCells}
pub use Rattle.vt_screen.specs.declared.functions.Function.TheVariants.{InsertCells, DeleteCells, InsertLines}
pub use Rattle.vt_screen.specs.declared.functions.Function.TheVariants.{DeleteLines, ScrollUp, ScrollDown, Margins}
pub use Rattle.vt_screen.specs.declared.functions.Function.TheVariants.{Designate, SelectRendition, Modes, Ignored}
use Rattle.vt_term.specs.Parameters.{numbers, is_numeral}

-- a number whose default is 1, and for which 0 counts as 1
abbrev pub counted : Option ℕ → ℕ
counted None = 1
counted (Some n) = max 1 n

-- a byte outside sequences
abbrev pub single : ℕ → Function
single b = if nat_le 32 b && nat_le b 126 then Print b
    else (if b == 8 then Backspace
    else (if b == 9 then Tab
    else (if b == 10 then LineFeed
    else (if b == 13 then CarriageReturn
    else (if b == 14 then ShiftOut
    else (if b == 15 then ShiftIn
    else Ignored))))))

abbrev pub cursor_position : List (Option ℕ) → Function
cursor_position (row ∷ []) = CursorPosition (counted row) 1
cursor_position (row ∷ col ∷ []) = CursorPosition (counted row) (counted col)
cursor_position _ = Ignored

abbrev pub margins : List (Option ℕ) → Function
margins (first ∷ []) = Margins (unwrap_or first 0) 0
margins (first ∷ last ∷ []) = Margins (unwrap_or first 0) (unwrap_or last 0)
margins _ = Ignored

abbrev pub line_part : ℕ → Function
line_part n =
    if n == 0 then EraseLine ToEnd
    else (if n == 1 then EraseLine FromStart else (if n == 2 then EraseLine Whole else Ignored))

abbrev pub display_part : ℕ → Function
display_part n =
    if n == 0 then EraseDisplay ToEnd
    else (if n == 1 then EraseDisplay FromStart else (if n == 2 then EraseDisplay Whole else Ignored))

-- the functions with one count, by final byte
abbrev pub counting : ℕ → ℕ → Function
counting final n =
    if final == 64 then InsertCells n
    else (if final == 65 then CursorUp n
    else (if final == 66 then CursorDown n
    else (if final == 67 then CursorForward n
    else (if final == 68 then CursorBack n
    else (if final == 71 then CursorColumn n
    else (if final == 76 then InsertLines n
    else (if final == 77 then DeleteLines n
    else (if final == 80 then DeleteCells n
    else (if final == 83 then ScrollUp n
    else (if final == 84 then ScrollDown n
    else (if final == 88 then EraseCells n
    else (if final == 100 then CursorRow n
    else Ignored))))))))))))

-- the functions with one number, by final byte
abbrev pub by_number : ℕ → Option ℕ → Function
by_number final n =
    if final == 74 then display_part (unwrap_or n 0)
    else (if final == 75 then line_part (unwrap_or n 0)
    else counting final (counted n))

abbrev pub of_one_number : ℕ → List (Option ℕ) → Function
of_one_number final (n ∷ []) = by_number final n
of_one_number final _ = Ignored

-- a control sequence with these numbers, by its final byte; one that names no function has no effect
abbrev pub of_numbers : ℕ → List (Option ℕ) → Function
of_numbers final ns =
    if (final == 72) || (final == 102) then cursor_position ns
    else (if final == 114 then margins ns
    else (if final == 109 then SelectRendition ns
    else (if final == 104 then Modes Standard true ns
    else (if final == 108 then Modes Standard false ns
    else of_one_number final ns))))

abbrev pub of_private_numbers : ℕ → List (Option ℕ) → Function
of_private_numbers final ns =
    if final == 104 then Modes Private true ns else (if final == 108 then Modes Private false ns else Ignored)

-- the parameters of a private function: a question mark and numbers
abbrev pub marked : ℕ → List ℕ → Function
marked final [] = Ignored
marked final (b ∷ bytes) =
    if (b == 63) && list_all is_numeral bytes then of_private_numbers final (numbers bytes) else Ignored

-- a control sequence by its final byte and the bytes before it
abbrev pub named : ℕ → List ℕ → Function
named final front = if list_all is_numeral front then of_numbers final (numbers front) else marked final front

-- a control sequence by the bytes after ESC [
abbrev pub sequence : List ℕ → Function
sequence body = named (slice_index body (length body - 1)) (take (length body - 1) body)

-- G0 or G1 becomes the graphic set for 0, the plain one for B (VT100 user guide, "Select character set")
abbrev pub designation : CodeElement → ℕ → Function
designation set final =
    if final == 48 then Designate set true else (if final == 66 then Designate set false else Ignored)

-- an escape sequence with one byte after ESC: IND, NEL and RI (ECMA-48 8.3)
abbrev pub escape_final : ℕ → Function
escape_final final = if final == 68 then LineFeed
    else (if final == 69 then NextLine else (if final == 77 then ReverseIndex else Ignored))

-- an escape sequence by the bytes after ESC
abbrev pub escaped : List ℕ → Function
escaped (final ∷ []) = escape_final final
escaped (set ∷ final ∷ []) =
    if set == 40 then designation G0 final else (if set == 41 then designation G1 final else Ignored)
escaped _ = Ignored

-- a dropped sequence has no function's final byte, and so no effect
abbrev pub function_of : List ℕ → Function
function_of [] = Ignored
function_of (b ∷ []) = single b
function_of (escape ∷ second ∷ body) = if second == 91 then sequence body else escaped (second ∷ body)
