-- A line of a certificate about a checked capability: its name, its parameters, its bytes, and their effect.
use Rattle.std.specs.Prelude.{ℕ, zero, suc, length, ◌<◌, ◌≡◌, List, [], ◌∷◌, ◌++◌, Option, Some}
use Rattle.std.specs.Fmt.{decimal}
use Rattle.std.specs.List.{AllByRecursion}
use Rattle.std.specs.Option.{option_map, option_and_then}
use Rattle.hex.specs.Hex.{IsBytes}
use Rattle.ti_lines.specs.EffectText.{spelled, IsPlain}
use Rattle.ti_lines.specs.EffectReader.{number_at, effect_in}
use Rattle.ti_rows.specs.Names.{name_of}
use Rattle.ti_rows.specs.Params.{params, with_params}
use Rattle.ti_rows.specs.declared.rows.Row.{Row}
use Rattle.ti_lines.specs.Cut.{cut_at}
use Rattle.ti_lines.specs.Hex.{hex_text, hex_in}
use Rattle.ti_lines.specs.declared.row_lines.RowLine.{RowLine}

-- each number in decimal, and a space after it
abbrev pub numbers_text : List ℕ → List ℕ
numbers_text [] = []
numbers_text (n ∷ ns) = decimal n ++ 32 ∷ numbers_text ns

-- the words of a line, with one space between each two
abbrev pub line_text : RowLine → List ℕ
line_text line =
    name_of line.row ++ 32 ∷ (numbers_text (params line.row) ++ (hex_text line.bytes ++ 32 ∷ spelled line.effect))

-- a line that can be written: numbers of 16 bits, bytes, and an effect in its one form
pub record IsLine (line : RowLine) : Type 0 where
  pub numbers : AllByRecursion (λ n. n < 65536) (params line.row)
  pub bytes : IsBytes line.bytes
  pub effect : IsPlain line.effect

-- this is the text of this line
pub record IsTextOf (text : List ℕ) (line : RowLine) : Type 0 where
  pub line_is : IsLine line
  pub spelled : line_text line ≡ text

-- reading: `count` numbers, and the text after the space that follows the last
abbrev pub numbers_before : ℕ → List ℕ → List ℕ → Option (List ℕ × List ℕ)
numbers_before zero done text = Some (done, text)
numbers_before (suc count) done text =
    option_and_then (λ p. option_and_then (λ n. numbers_before count (done ++ n ∷ []) p.1) (number_at p.0))
    (cut_at 32 text)

-- the row whose parameters come first, and the text after them
abbrev pub row_before : Row → List ℕ → Option (Row × List ℕ)
row_before first text =
    option_and_then (λ p. option_map (λ row. (row, p.1)) (with_params first p.0))
    (numbers_before (length (params first)) [] text)

-- the bytes and the effect after a row
abbrev pub line_behind : Row → List ℕ → Option RowLine
line_behind row text =
    option_and_then (λ p. option_and_then (λ effect. option_map
    (λ bytes. record { row = row; bytes = bytes; effect = effect }) (hex_in p.0)) (effect_in p.1)) (cut_at 32 text)

abbrev pub line_of : Row → List ℕ → Option RowLine
line_of first text = option_and_then (λ p. line_behind p.0 p.1) (row_before first text)
