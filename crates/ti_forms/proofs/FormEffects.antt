-- The effects of the standard's strings, and the character sets that they keep.
use Rattle.std.proofs.Common.{◌≡◌, ℕ, ◌+◌, ◌-◌, ◌<◌, ◌≤◌, ◌==◌, nat_le, nat_lt, max, min, Bool, true, false, if◌then◌else◌, List, [], ◌∷◌, Option, Some, None, refl, sym, ap, ◌∙◌, subst, inl, arith, append-nil}
use Rattle.std.proofs.lemmas.Bool.Decides.{nat_tests}
use Rattle.vt_term.specs.Text.{IsWhole, Splits}
use Rattle.vt_term.specs.Function.{Function, function_of, CursorUp, CursorDown, CursorForward, CursorBack, CursorColumn, CursorRow, CursorPosition, EraseCells}
use Rattle.vt_term.specs.Function as functions
use Rattle.vt_term.proofs.Sequences.{empty_open}
use Rattle.vt_term.proofs.Splits.{one_splitting}
use Rattle.vt_effects.specs.Basic.{placed_at}
use Rattle.vt_effects.specs.Effect.{unchanged}
use Rattle.vt_effects.specs.Record.{IsRecordOf, back_by, extended, forward_by, if_some, margins_set, net, record_of, with_col, with_row}
use Rattle.vt_effects.specs.declared.effects.Effect.{Effect}
use Rattle.vt_effects.specs.declared.effects.Erasure.TheVariants as erasures
use Rattle.vt_effects.specs.declared.effects.Move.{Move}
use Rattle.vt_effects.specs.declared.effects.Move.TheVariants as moves
use Rattle.vt_effects.specs.declared.starts.Start.{Start}
use Rattle.ti_rows.specs.Asked.{start_of, calm, room_left, room_right, room_above, room_below, at_col, at_row}
use Rattle.ti_rows.specs.Lists.{IsInRange}
use Rattle.ti_rows.specs.declared.rows.Row.{Row}
use Rattle.ti_rows.specs.declared.rows.Row.TheVariants.{Cup, Hpa, Vpa, Cub, Cuf, Cuu, Cud, Ech, Csr}
use Rattle.ti_conforms.specs.Charsets.{joined, reach_of, makes_g0_graphic, makes_g1_graphic, shifts_out, some_make}
use Rattle.ti_conforms.specs.declared.reach.Reach.{Reach}
use Rattle.ti_forms.specs.Forms.{HasForm, ToPlace, ToColumn, ToLine, Left, Right, Upward, Downward, Erasing, Bounding}
use Rattle.ti_forms.specs.Forms.{IsOfForm, bounded_by, by_cols, by_rows, standard_bytes, standard_effect, with_number, with_numbers}
use Rattle.ti_forms.proofs.Sequences.{number_function, number_token, numbers_function, numbers_token}

-- the text is one token with this function, which turns no mark of the character sets on
record IsNamed (text : List ℕ) (f : Function) : Type 0 where
  whole : IsWhole text
  names : function_of text ≡ f
  keeps_g0 : makes_g0_graphic f ≡ false
  keeps_g1 : makes_g1_graphic f ≡ false
  keeps_shift : shifts_out f ≡ false

splits_one : (text : List ℕ) (f : Function) → IsNamed text f → Splits text (text ∷ []) []
splits_one text f n = ([], sym (append-nil text), inl n.whole, (refl, empty_open))

one_recorded : (rows cols : ℕ) (start : Start) (token : List ℕ) (f : Function) (e : Effect) → function_of token ≡ f → extended rows cols start f unchanged ≡ Some e → record_of rows cols start (token ∷ []) ≡ Some e
one_recorded rows cols start token f e h k = rw (h, k) refl

recorded : (rows cols : ℕ) (start : Start) (text : List ℕ) (f : Function) (effect : Effect) → IsNamed text f → extended rows cols start f unchanged ≡ Some effect → IsRecordOf rows cols start text (Some effect)
recorded rows cols start text f effect n e = record {
  tokens = text ∷ [];
  splits = splits_one text f n;
  is = sym (one_recorded rows cols start text f effect n.names e);
}

at_least_one : (n : ℕ) → 1 ≤ n → max 1 n ≡ n
at_least_one n h = omega (arith, h)

above : (n : ℕ) → max 1 (n + 1) ≡ n + 1
above n = omega arith

number_named : (n last : ℕ) (f : Function) → n ≤ 501 → 64 ≤ last → last ≤ 126 → function_of (with_number n last) ≡ f → makes_g0_graphic f ≡ false → makes_g1_graphic f ≡ false → shifts_out f ≡ false → IsNamed (with_number n last) f
number_named n last f h low high e a b c = record { whole = number_token n last h (low, high); names = e; keeps_g0 = a; keeps_g1 = b; keeps_shift = c }

numbers_named : (m n last : ℕ) (f : Function) → m ≤ 501 → n ≤ 501 → 64 ≤ last → last ≤ 126 → function_of (with_numbers m n last) ≡ f → makes_g0_graphic f ≡ false → makes_g1_graphic f ≡ false → shifts_out f ≡ false → IsNamed (with_numbers m n last) f
numbers_named m n last f h k low high e a b c = record { whole = numbers_token m n last h k (low, high); names = e; keeps_g0 = a; keeps_g1 = b; keeps_shift = c }

named_H : (line column : ℕ) → line ≤ 500 → column ≤ 500 → IsNamed (with_numbers (line + 1) (column + 1) 72) (CursorPosition (line + 1) (column + 1))
named_H line column h k = numbers_named (line + 1) (column + 1) 72 (CursorPosition (line + 1) (column + 1)) (omega (arith, h)) (omega (arith, k)) (omega arith) (omega arith)
    (numbers_function (line + 1) (column + 1) 72 (omega (arith, h)) (omega (arith, k))
    ∙ ap (λ (m : ℕ). CursorPosition m (max 1 (column + 1))) (above line) ∙ ap (λ (n : ℕ). CursorPosition (line + 1) n) (above column))
    refl refl refl

named_r : (top bottom : ℕ) → top ≤ 500 → bottom ≤ 500 → IsNamed (with_numbers (top + 1) (bottom + 1) 114) (functions.Margins (top + 1) (bottom + 1))
named_r top bottom h k = numbers_named (top + 1) (bottom + 1) 114 (functions.Margins (top + 1) (bottom + 1)) (omega (arith, h)) (omega (arith, k)) (omega arith) (omega arith)
    (numbers_function (top + 1) (bottom + 1) 114 (omega (arith, h)) (omega (arith, k))) refl refl refl

named_G : (column : ℕ) → column ≤ 500 → IsNamed (with_number (column + 1) 71) (CursorColumn (column + 1))
named_G column h = number_named (column + 1) 71 (CursorColumn (column + 1)) (omega (arith, h)) (omega arith) (omega arith)
    (number_function (column + 1) 71 (omega (arith, h)) ∙ ap (λ (n : ℕ). CursorColumn n) (above column)) refl refl refl

named_d : (line : ℕ) → line ≤ 500 → IsNamed (with_number (line + 1) 100) (CursorRow (line + 1))
named_d line h = number_named (line + 1) 100 (CursorRow (line + 1)) (omega (arith, h)) (omega arith) (omega arith)
    (number_function (line + 1) 100 (omega (arith, h)) ∙ ap (λ (n : ℕ). CursorRow n) (above line)) refl refl refl

named_A : (n : ℕ) → n ≤ 500 → IsNamed (with_number n 65) (CursorUp (max 1 n))
named_A n h = number_named n 65 (CursorUp (max 1 n)) (omega (arith, h)) (omega arith) (omega arith) (number_function n 65 (omega (arith, h))) refl refl refl

named_B : (n : ℕ) → n ≤ 500 → IsNamed (with_number n 66) (CursorDown (max 1 n))
named_B n h = number_named n 66 (CursorDown (max 1 n)) (omega (arith, h)) (omega arith) (omega arith) (number_function n 66 (omega (arith, h))) refl refl refl

named_C : (n : ℕ) → n ≤ 500 → IsNamed (with_number n 67) (CursorForward (max 1 n))
named_C n h = number_named n 67 (CursorForward (max 1 n)) (omega (arith, h)) (omega arith) (omega arith) (number_function n 67 (omega (arith, h))) refl refl refl

named_D : (n : ℕ) → n ≤ 500 → IsNamed (with_number n 68) (CursorBack (max 1 n))
named_D n h = number_named n 68 (CursorBack (max 1 n)) (omega (arith, h)) (omega arith) (omega arith) (number_function n 68 (omega (arith, h))) refl refl refl

named_X : (n : ℕ) → n ≤ 500 → IsNamed (with_number n 88) (EraseCells (max 1 n))
named_X n h = number_named n 88 (EraseCells (max 1 n)) (omega (arith, h)) (omega arith) (omega arith) (number_function n 88 (omega (arith, h))) refl refl refl

-- the row's bytes have a function that keeps the sets
abbrev Keeps : Row → Type 0
Keeps row = (f : Function) × IsNamed (standard_bytes row) f

form_named : (row : Row) → HasForm row → Keeps row
form_named row (ToPlace line column e h k) = subst (λ (r : Row). Keeps r) (sym e) (CursorPosition (line + 1) (column + 1), named_H line column h k)
form_named row (ToColumn column e h) = subst (λ (r : Row). Keeps r) (sym e) (CursorColumn (column + 1), named_G column h)
form_named row (ToLine line e h) = subst (λ (r : Row). Keeps r) (sym e) (CursorRow (line + 1), named_d line h)
form_named row (Left n e g h) = subst (λ (r : Row). Keeps r) (sym e) (CursorBack (max 1 n), named_D n h)
form_named row (Right n e g h) = subst (λ (r : Row). Keeps r) (sym e) (CursorForward (max 1 n), named_C n h)
form_named row (Upward n e g h) = subst (λ (r : Row). Keeps r) (sym e) (CursorUp (max 1 n), named_A n h)
form_named row (Downward n e g h) = subst (λ (r : Row). Keeps r) (sym e) (CursorDown (max 1 n), named_B n h)
form_named row (Erasing n e g h) = subst (λ (r : Row). Keeps r) (sym e) (EraseCells (max 1 n), named_X n h)
form_named row (Bounding top bottom e h k) = subst (λ (r : Row). Keeps r) (sym e) (functions.Margins (top + 1) (bottom + 1), named_r top bottom h k)

-- ---- the effect of each function

if_true : {A : Type 0} (b : Bool) (x y : A) → b ≡ true → (if b then x else y) ≡ x
if_true b x y e = rw e refl

if_false : {A : Type 0} (b : Bool) (x y : A) → b ≡ false → (if b then x else y) ≡ y
if_false b x y e = rw e refl

le_true : (a b : ℕ) → a ≤ b → nat_le a b ≡ true
le_true a b h = grind (arith, nat_tests)

lt_true : (a b : ℕ) → a < b → nat_lt a b ≡ true
lt_true a b h = grind (arith, nat_tests)

lt_false : (a b : ℕ) → b ≤ a → nat_lt a b ≡ false
lt_false a b h = grind (arith, nat_tests)

eq_false : (a b : ℕ) → a < b → (a == b) ≡ false
eq_false a b h = grind (arith, nat_tests)

gt_false : (a b : ℕ) → b < a → (a == b) ≡ false
gt_false a b h = grind (arith, nat_tests)

-- a place on the screen stays in range
place_held : (row rows : ℕ) → row < rows → min (row + 1 - 1) (rows - 1) ≡ row
place_held row rows h = omega (arith, h)

net_back : (n : ℕ) → 1 ≤ n → net 0 n ≡ moves.Back n
net_back n h =
    if_false (0 == n) moves.Kept (if nat_lt n 0 then moves.Forward (0 - n) else moves.Back (n - 0)) (eq_false 0 n (omega (arith, h)))
    ∙ if_false (nat_lt n 0) (moves.Forward (0 - n)) (moves.Back (n - 0)) (lt_false n 0 (omega arith))
    ∙ (let z : n - 0 ≡ n = omega arith in ap (λ (k : ℕ). moves.Back k) z)

net_forward : (n : ℕ) → 1 ≤ n → net n 0 ≡ moves.Forward n
net_forward n h =
    if_false (n == 0) moves.Kept (if nat_lt 0 n then moves.Forward (n - 0) else moves.Back (0 - n)) (gt_false n 0 (omega (arith, h)))
    ∙ if_true (nat_lt 0 n) (moves.Forward (n - 0)) (moves.Back (0 - n)) (lt_true 0 n (omega (arith, h)))
    ∙ (let z : n - 0 ≡ n = omega arith in ap (λ (k : ℕ). moves.Forward k) z)

back_so : (n high : ℕ) → 1 ≤ n → back_by n n high moves.Kept ≡ Some (moves.Back n)
back_so n high h =
    if_true (nat_le n n) (Some (net 0 n)) (if nat_lt high n then Some (moves.To 0) else None) (le_true n n (omega arith))
    ∙ ap (λ (m : Move). Some m) (net_back n h)

forward_so : (n low size : ℕ) → 1 ≤ n → n < size → forward_by n low (size - 1 - n) (size - 1) moves.Kept ≡ Some (moves.Forward n)
forward_so n low size h k =
    if_true (nat_le (size - 1 - n + n) (size - 1)) (Some (net n 0)) (if nat_lt (size - 1) (low + n) then Some (moves.To (size - 1)) else None) (le_true (size - 1 - n + n) (size - 1) (omega (arith, k)))
    ∙ ap (λ (m : Move). Some m) (net_forward n h)

moved_left : (rows cols n : ℕ) → 1 ≤ n → extended rows cols (room_left n (calm rows cols)) (CursorBack (max 1 n)) unchanged ≡ Some (by_cols (moves.Back n))
moved_left rows cols n h =
    ap (λ (k : ℕ). extended rows cols (room_left n (calm rows cols)) (CursorBack k) unchanged) (at_least_one n h)
    ∙ ap (λ (m : Option Move). if_some (with_col unchanged) m) (back_so n (cols - 1) h)

moved_right : (rows cols n : ℕ) → 1 ≤ n → n < cols → extended rows cols (room_right n (calm rows cols)) (CursorForward (max 1 n)) unchanged ≡ Some (by_cols (moves.Forward n))
moved_right rows cols n h k =
    ap (λ (m : ℕ). extended rows cols (room_right n (calm rows cols)) (CursorForward m) unchanged) (at_least_one n h)
    ∙ ap (λ (m : Option Move). if_some (with_col unchanged) m) (forward_so n 0 cols h k)

moved_up : (rows cols n : ℕ) → 1 ≤ n → extended rows cols (room_above n (calm rows cols)) (CursorUp (max 1 n)) unchanged ≡ Some (by_rows (moves.Back n))
moved_up rows cols n h =
    ap (λ (k : ℕ). extended rows cols (room_above n (calm rows cols)) (CursorUp k) unchanged) (at_least_one n h)
    ∙ ap (λ (m : Option Move). if_some (with_row unchanged) m) (back_so n (rows - 1) h)

moved_down : (rows cols n : ℕ) → 1 ≤ n → n < rows → extended rows cols (room_below n (calm rows cols)) (CursorDown (max 1 n)) unchanged ≡ Some (by_rows (moves.Forward n))
moved_down rows cols n h k =
    ap (λ (m : ℕ). extended rows cols (room_below n (calm rows cols)) (CursorDown m) unchanged) (at_least_one n h)
    ∙ ap (λ (m : Option Move). if_some (with_row unchanged) m) (forward_so n 0 rows h k)

erased : (rows cols n : ℕ) (start : Start) → 1 ≤ n → n ≤ cols → extended rows cols start (EraseCells (max 1 n)) unchanged ≡ Some (record unchanged { erasure = erasures.Next n })
erased rows cols n start h k =
    ap (λ (m : ℕ). extended rows cols start (EraseCells m) unchanged) (at_least_one n h)
    ∙ (let z : min n cols ≡ n = omega (arith, k) in ap (λ (m : ℕ). Some (record unchanged { erasure = erasures.Next m })) z)

placed : (rows cols row col : ℕ) (start : Start) → row < rows → col < cols → extended rows cols start (CursorPosition (row + 1) (col + 1)) unchanged ≡ Some (placed_at row col)
placed rows cols row col start h k =
    ap (λ (r : ℕ). Some (with_col (with_row unchanged (moves.To r)) (moves.To (min (col + 1 - 1) (cols - 1))))) (place_held row rows h)
    ∙ ap (λ (c : ℕ). Some (with_col (with_row unchanged (moves.To row)) (moves.To c))) (place_held col cols k)

set_so : (rows first last top bottom : ℕ) → first - 1 ≡ top → (if last == 0 then rows - 1 else min (last - 1) (rows - 1)) ≡ bottom → nat_lt top bottom ≡ true → margins_set rows first last unchanged ≡ bounded_by top bottom
set_so rows first last top bottom e f t =
    ap (λ (a : ℕ). if nat_lt a (if last == 0 then rows - 1 else min (last - 1) (rows - 1)) then bounded_by a (if last == 0 then rows - 1 else min (last - 1) (rows - 1)) else unchanged) e
    ∙ ap (λ (b : ℕ). if nat_lt top b then bounded_by top b else unchanged) f
    ∙ if_true (nat_lt top bottom) (bounded_by top bottom) unchanged t

bounded : (rows cols top bottom : ℕ) (start : Start) → top < bottom → bottom < rows → extended rows cols start (functions.Margins (top + 1) (bottom + 1)) unchanged ≡ Some (bounded_by top bottom)
bounded rows cols top bottom start h k = ap (λ (e : Effect). Some e) (set_so rows (top + 1) (bottom + 1) top bottom (omega arith)
    (if_false (bottom + 1 == 0) (rows - 1) (min (bottom + 1 - 1) (rows - 1)) (gt_false (bottom + 1) 0 (omega arith)) ∙ place_held bottom rows k) (lt_true top bottom h))

-- ---- each row

-- the row's bytes have the row's effect, if the size allows the row
abbrev Recorded : ℕ → ℕ → Row → Type 0
Recorded rows cols row = IsInRange rows cols row → IsRecordOf rows cols (start_of rows cols row) (standard_bytes row) (Some (standard_effect row))

form_recorded : (rows cols : ℕ) (row : Row) → HasForm row → Recorded rows cols row
form_recorded rows cols row (ToPlace line column e h k) = subst (λ (r : Row). Recorded rows cols r) (sym e)
    (λ r. recorded rows cols (start_of rows cols (Cup line column)) _ _ _ (named_H line column h k) (placed rows cols line column (start_of rows cols (Cup line column)) r.0 r.1))
form_recorded rows cols row (ToColumn column e h) = subst (λ (r : Row). Recorded rows cols r) (sym e)
    (λ r. recorded rows cols (start_of rows cols (Hpa column)) _ _ _ (named_G column h) (ap (λ (c : ℕ). Some (at_col c)) (place_held column cols r)))
form_recorded rows cols row (ToLine line e h) = subst (λ (r : Row). Recorded rows cols r) (sym e)
    (λ r. recorded rows cols (start_of rows cols (Vpa line)) _ _ _ (named_d line h) (ap (λ (l : ℕ). Some (at_row l)) (place_held line rows r)))
form_recorded rows cols row (Left n e g h) = subst (λ (r : Row). Recorded rows cols r) (sym e)
    (λ r. recorded rows cols (start_of rows cols (Cub n)) _ _ _ (named_D n h) (moved_left rows cols n r.0))
form_recorded rows cols row (Right n e g h) = subst (λ (r : Row). Recorded rows cols r) (sym e)
    (λ r. recorded rows cols (start_of rows cols (Cuf n)) _ _ _ (named_C n h) (moved_right rows cols n r.0 r.1))
form_recorded rows cols row (Upward n e g h) = subst (λ (r : Row). Recorded rows cols r) (sym e)
    (λ r. recorded rows cols (start_of rows cols (Cuu n)) _ _ _ (named_A n h) (moved_up rows cols n r.0))
form_recorded rows cols row (Downward n e g h) = subst (λ (r : Row). Recorded rows cols r) (sym e)
    (λ r. recorded rows cols (start_of rows cols (Cud n)) _ _ _ (named_B n h) (moved_down rows cols n r.0 r.1))
form_recorded rows cols row (Erasing n e g h) = subst (λ (r : Row). Recorded rows cols r) (sym e)
    (λ r. recorded rows cols (start_of rows cols (Ech n)) _ _ _ (named_X n h) (erased rows cols n (start_of rows cols (Ech n)) r.0 r.1))
form_recorded rows cols row (Bounding top bottom e h k) = subst (λ (r : Row). Recorded rows cols r) (sym e)
    (λ r. recorded rows cols (start_of rows cols (Csr top bottom)) _ _ _ (named_r top bottom h k) (bounded rows cols top bottom (start_of rows cols (Csr top bottom)) r.0 r.1))

-- bytes that are the row's standard ones have the row's standard effect
pub form_has_effect : (rows cols : ℕ) (row : Row) (bytes : List ℕ) (effect : Effect) → HasForm row → IsInRange rows cols row → bytes ≡ standard_bytes row → effect ≡ standard_effect row → IsRecordOf rows cols (start_of rows cols row) bytes (Some effect)
form_has_effect rows cols row bytes effect h r e f =
    subst (λ (b : List ℕ). IsRecordOf rows cols (start_of rows cols row) b (Some effect)) (sym e)
    (subst (λ (x : Effect). IsRecordOf rows cols (start_of rows cols row) (standard_bytes row) (Some x)) (sym f) (form_recorded rows cols row h r))

-- ---- the character sets

joined_with_none : (a b c : Bool) → joined (record { g0_graphic = a; g1_graphic = b; shifted_out = c }) (reach_of []) ≡ record { g0_graphic = a; g1_graphic = b; shifted_out = c }
joined_with_none true true true = refl
joined_with_none true true false = refl
joined_with_none true false true = refl
joined_with_none true false false = refl
joined_with_none false true true = refl
joined_with_none false true false = refl
joined_with_none false false true = refl
joined_with_none false false false = refl

marks_none : (mark : Function → Bool) (text : List ℕ) (f : Function) → function_of text ≡ f → mark f ≡ false → some_make mark (text ∷ []) ≡ false
marks_none mark text f e h = if_false (mark (function_of text)) true false (ap (λ (g : Function). mark g) e ∙ h)

abbrev reach_with : Bool → Bool → Bool → Reach
reach_with a b c = record { g0_graphic = a; g1_graphic = b; shifted_out = c }

-- the marks that the function turns on: none
keeps_sets : (text : List ℕ) (f : Function) → IsNamed text f → reach_of (text ∷ []) ≡ reach_of []
keeps_sets text f n =
    ap (λ (a : Bool). reach_with a (some_make makes_g1_graphic (text ∷ [])) (some_make shifts_out (text ∷ []))) (marks_none makes_g0_graphic text f n.names n.keeps_g0)
    ∙ ap (λ (b : Bool). reach_with false b (some_make shifts_out (text ∷ []))) (marks_none makes_g1_graphic text f n.names n.keeps_g1)
    ∙ ap (λ (c : Bool). reach_with false false c) (marks_none shifts_out text f n.names n.keeps_shift)

standard_splits : (row : Row) (bytes : List ℕ) → IsOfForm row bytes → Splits bytes (standard_bytes row ∷ []) []
standard_splits row bytes o =
    let n = form_named row o.has in
    subst (λ (text : List ℕ). Splits text (standard_bytes row ∷ []) []) (sym o.bytes_are) (splits_one (standard_bytes row) n.0 n.1)

pub form_is_whole : (row : Row) (bytes : List ℕ) → IsOfForm row bytes → (tokens : List (List ℕ)) × Splits bytes tokens []
form_is_whole row bytes o = (standard_bytes row ∷ [], standard_splits row bytes o)

pub form_learned : (row : Row) (bytes : List ℕ) (tokens : List (List ℕ)) (reach : Reach) → IsOfForm row bytes → Splits bytes tokens [] → reach ≡ joined reach (reach_of tokens)
form_learned row bytes tokens reach o s =
    let n = form_named row o.has in
    sym (joined_with_none reach.g0_graphic reach.g1_graphic reach.shifted_out)
    ∙ ap (λ (more : Reach). joined reach more) (sym (keeps_sets (standard_bytes row) n.0 n.1))
    ∙ ap (λ (all : List (List ℕ)). joined reach (reach_of all)) (sym (one_splitting bytes (standard_bytes row ∷ []) tokens [] [] (standard_splits row bytes o) s).0)
