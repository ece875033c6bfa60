-- (Serves the code alone.) How a text is read, word by word. Only the reader's own clauses cite this file.
use Rattle.std.specs.Prelude.{ℕ, ◌+◌, ◌-◌, ◌*◌, ◌==◌, ◌&&◌, nat_le, nat_lt, bytes_eq, Bool, true, if◌then◌else◌, List}
use Rattle.std.specs.Prelude.{[], ◌∷◌, Option, None, Some}
use Rattle.std.specs.Option.{option_map, option_or, option_and_then}
use Rattle.std.specs.List.{list_all, slice_split}
use Rattle.vt_term.specs.Color.{color}
use Rattle.vt_effects.specs.declared.effects.Move.{Move}
use Rattle.vt_effects.specs.declared.effects.Move.TheVariants as moves
use Rattle.vt_effects.specs.declared.effects.Erasure.TheVariants as erasures
use Rattle.vt_effects.specs.declared.effects.Scroll.TheVariants as scrolls
use Rattle.vt_effects.specs.declared.effects.Switch.{Switch}
use Rattle.vt_effects.specs.declared.effects.Switch.TheVariants as switches
use Rattle.vt_effects.specs.declared.effects.Ink.{Ink}
use Rattle.vt_effects.specs.declared.effects.Ink.TheVariants as inks
use Rattle.vt_effects.specs.declared.effects.Rendering.{Rendering}
use Rattle.vt_effects.specs.declared.effects.Sets.{Sets}
use Rattle.vt_effects.specs.declared.effects.Region.{Region}
use Rattle.vt_effects.specs.declared.effects.Effect.{Effect}
use Rattle.vt_effects.specs.Effect.{unchanged}
use Rattle.ti_lines.specs.declared.words.Word.{Word}
use Rattle.ti_lines.specs.declared.words.Word.TheVariants.{Row, Col, EndsPending, Erases, Scrolls, Looks, Inks, Chooses}
use Rattle.ti_lines.specs.declared.words.Word.TheVariants.{Rows, Shows}
use Rattle.ti_lines.specs.declared.words.Marks.{Marks}
use Rattle.ti_lines.specs.declared.words.Found.{Found}
use Rattle.ti_lines.specs.EffectText.{is_dot, row_name, col_name, nopend, all_name, tail_name, head_name, rest_name}
use Rattle.ti_lines.specs.EffectText.{next_name, up_name, down_name, look_name, ink_name, set_name, rows_name}
use Rattle.ti_lines.specs.EffectText.{show_name, hide_name}

-- the rest of `word` after this prefix
abbrev pub behind : List ℕ → List ℕ → Option (List ℕ)
behind [] word = Some word
behind (x ∷ xs) [] = None
behind (x ∷ xs) (b ∷ word) = if b == x then behind xs word else None

abbrev pub is_digit : ℕ → Bool
is_digit b = nat_le 48 b && nat_le b 57

-- a number with one more digit, if it has 16 bits
abbrev pub with_digit : ℕ → ℕ → Option ℕ
with_digit n b = if is_digit b && nat_le (10 * n + (b - 48)) 65535 then Some (10 * n + (b - 48)) else None

abbrev pub digits_from : ℕ → List ℕ → Option ℕ
digits_from n [] = Some n
digits_from n (b ∷ digits) = option_and_then (λ m. digits_from m digits) (with_digit n b)

-- a zero, if no digit follows it
abbrev pub after_zero : List ℕ → Option ℕ
after_zero [] = Some 0
after_zero (b ∷ digits) = None

unfoldable pub number_at : List ℕ → Option ℕ
number_at [] = None
number_at (b ∷ digits) = if b == 48 then after_zero digits else digits_from 0 (b ∷ digits)

abbrev pub positive : Option ℕ → Option ℕ
positive None = None
positive (Some n) = if nat_lt 0 n then Some n else None

abbrev pub signed : ℕ → List ℕ → Option Move
signed sign digits =
    if sign == 61 then option_map (λ k. moves.To k) (number_at digits)
    else (if sign == 45 then option_map (λ k. moves.Back k) (positive (number_at digits))
    else (if sign == 43 then option_map (λ k. moves.Forward k) (positive (number_at digits))
    else None))

abbrev pub all_signed : List ℕ → Option Move
all_signed [] = None
all_signed (sign ∷ digits) = signed sign digits

abbrev pub move_at : List ℕ → List ℕ → Option Move
move_at name word = option_and_then all_signed (behind name word)

abbrev pub next_at : List ℕ → Option ℕ
next_at word = option_and_then (λ digits. positive (number_at digits)) (behind next_name word)

-- the letters after a name, unless each of them is a dot
abbrev pub letters_at : List ℕ → List ℕ → Option (List ℕ)
letters_at name word =
    option_and_then (λ letters. if list_all is_dot letters then None else Some letters) (behind name word)

abbrev pub switch_at : ℕ → ℕ → ℕ → Option Switch
switch_at on off b =
    if b == on then Some switches.On
    else (if b == off then Some switches.Off else (if b == 46 then Some switches.Kept else None))

abbrev pub ink_at : ℕ → Option Ink
ink_at b =
    if nat_le 48 b && nat_le b 55 then Some (inks.Color (color (b - 48)))
    else (if b == 100 then Some inks.Default else (if b == 46 then Some inks.Kept else None))

infixl 10 ◌>>=◌
abbrev pub ◌>>=◌ : {A B : Type 0} → Option A → (A → Option B) → Option B
o >>= f = option_and_then f o

abbrev pub marks_of : List ℕ → Option Marks
marks_of (a ∷ b ∷ c ∷ d ∷ e ∷ f ∷ []) = do
  bold ← switch_at 49 48 a
  faint ← switch_at 49 48 b
  underline ← switch_at 49 48 c
  blink ← switch_at 49 48 d
  negative ← switch_at 49 48 e
  concealed ← switch_at 49 48 f
  Some (record {
    bold = bold;
    faint = faint;
    underline = underline;
    blink = blink;
    negative = negative;
    concealed = concealed;
  })
marks_of _ = None

abbrev pub inks_of : List ℕ → Option (Ink × Ink)
inks_of (a ∷ b ∷ []) = do
  foreground ← ink_at a
  background ← ink_at b
  Some (foreground, background)
inks_of _ = None

abbrev pub sets_of : List ℕ → Option Sets
sets_of (a ∷ b ∷ c ∷ []) = do
  g0 ← switch_at 48 66 a
  g1 ← switch_at 48 66 b
  shift ← switch_at 79 73 c
  Some (record { g0_graphic = g0; g1_graphic = g1; shifted_out = shift })
sets_of _ = None

abbrev pub region_of : List (List ℕ) → Option Region
region_of (t ∷ b ∷ []) = do
  top ← number_at t
  bottom ← number_at b
  Some (record { top = top; bottom = bottom })
region_of _ = None

-- the parts between the bytes `c`
unfoldable pub parts_of : ℕ → List ℕ → List (List ℕ)
parts_of c text = slice_split (λ b. b == c) text

abbrev pub region_at : List ℕ → Option Region
region_at word = option_and_then (λ lines. region_of (parts_of 44 lines)) (behind rows_name word)

-- the words without parts
abbrev pub is_all : List ℕ → List ℕ → Bool
is_all whole word = bytes_eq word whole

abbrev pub fixed_at : List ℕ → Option Word
fixed_at word =
    if is_all nopend word then Some EndsPending
    else (if is_all all_name word then Some (Erases erasures.Screen)
    else (if is_all tail_name word then Some (Erases erasures.Tail)
    else (if is_all head_name word then Some (Erases erasures.Head)
    else (if is_all rest_name word then Some (Erases erasures.Rest)
    else (if is_all up_name word then Some (Scrolls scrolls.Up)
    else (if is_all down_name word then Some (Scrolls scrolls.Down)
    else (if is_all show_name word then Some (Shows switches.On)
    else (if is_all hide_name word then Some (Shows switches.Off)
    else None))))))))

abbrev pub marks_at : List ℕ → Option Marks
marks_at word = option_and_then marks_of (letters_at look_name word)

abbrev pub inks_at : List ℕ → Option (Ink × Ink)
inks_at word = option_and_then inks_of (letters_at ink_name word)

abbrev pub sets_at : List ℕ → Option Sets
sets_at word = option_and_then sets_of (letters_at set_name word)

-- the words that have letters
abbrev pub lettered_at : List ℕ → Option Word
lettered_at word =
    option_or (option_map (λ m. Looks m) (marks_at word))
    (option_or (option_map (λ i. Inks i.0 i.1) (inks_at word))
    (option_map (λ s. Chooses s) (sets_at word)))

-- the words that have numbers
abbrev pub numbered_at : List ℕ → Option Word
numbered_at word =
    option_or (option_map (λ m. Row m) (move_at row_name word))
    (option_or (option_map (λ m. Col m) (move_at col_name word))
    (option_or (option_map (λ n. Erases (erasures.Next n)) (next_at word))
    (option_map (λ r. Rows r) (region_at word))))

unfoldable pub word_at : List ℕ → Option Word
word_at word = option_or (fixed_at word) (option_or (numbered_at word) (lettered_at word))

-- the place of a word among all kinds
abbrev pub rank : Word → ℕ
rank (Row m) = 0
rank (Col m) = 1
rank EndsPending = 2
rank (Erases x) = 3
rank (Scrolls x) = 4
rank (Looks m) = 5
rank (Inks f b) = 6
rank (Chooses s) = 7
rank (Rows r) = 8
rank (Shows s) = 9

abbrev pub with_marks : Marks → Rendering → Rendering
with_marks m r =
    record r {
      bold = m.bold;
      faint = m.faint;
      underline = m.underline;
      blink = m.blink;
      negative = m.negative;
      concealed = m.concealed;
    }

abbrev pub put : Word → Effect → Effect
put (Row m) e = record e { row = m }
put (Col m) e = record e { col = m }
put EndsPending e = record e { ends_pending = true }
put (Erases x) e = record e { erasure = x }
put (Scrolls x) e = record e { scroll = x }
put (Looks m) e = record e { rendition = with_marks m e.rendition }
put (Inks f b) e = record e { rendition = record e.rendition { foreground = f; background = b } }
put (Chooses s) e = record e { charset = s }
put (Rows r) e = record e { margins = Some r }
put (Shows s) e = record e { visible = s }

-- one more word, whose kind must come after those before
abbrev pub put_next : Found → Word → Option Found
put_next found word =
    if nat_le found.next (rank word) then Some (record { effect = put word found.effect; next = rank word + 1 })
    else None

unfoldable pub with_word : Found → List ℕ → Option Found
with_word found word = option_and_then (put_next found) (word_at word)

abbrev pub with_words : Found → List (List ℕ) → Option Found
with_words found [] = Some found
with_words found (w ∷ ws) = option_and_then (λ f. with_words f ws) (with_word found w)

abbrev pub words_of : List ℕ → List (List ℕ)
words_of text = parts_of 32 text

-- the effect found with all words of `text`
unfoldable pub read_behind : Found → List ℕ → Option Found
read_behind found text = with_words found (words_of text)

unfoldable pub effect_in : List ℕ → Option Effect
effect_in text =
    if is_all (45 ∷ []) text then Some unchanged
    else option_map (λ f. f.effect) (read_behind (record { effect = unchanged; next = 0 }) text)
