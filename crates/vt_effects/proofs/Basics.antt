-- The records of the most basic strings.
use Rattle.std.proofs.Common.{◌≡◌, ℕ, ◌+◌, ◌-◌, ◌<◌, min, List, [], ◌∷◌, Some, refl, sym, ap, ◌∙◌, inl, inr, arith, append-nil}
use Rattle.vt_term.specs.Size.{IsSize}
use Rattle.vt_term.specs.Text.{Splits, IsWhole}
use Rattle.vt_term.specs.Function.{Function, CursorPosition, function_of}
use Rattle.vt_term.proofs.Splits.{one_splitting}
use Rattle.vt_term.proofs.Sequences.{empty_open}
use Rattle.vt_effects.specs.declared.effects.Move.TheVariants as moves
use Rattle.vt_effects.specs.declared.effects.Effect.{Effect}
use Rattle.vt_effects.specs.declared.starts.Start.{Start}
use Rattle.vt_effects.specs.Effect.{unchanged}
use Rattle.vt_effects.specs.Record.{record_of, extended, with_row, with_col}
use Rattle.vt_term.specs.Moves.{cursor_to}
use Rattle.vt_effects.specs.Basic.{HasRecord, home_text, clear_text, el_text, sgr0_text, placed_at, cleared, tail_erased, made_plain}
use Rattle.vt_term.proofs.Moves.{move_function, move_token}

unfoldable pub erase : List ℕ
erase = 27 ∷ 91 ∷ 50 ∷ 74 ∷ []

pub home_token : IsWhole home_text
home_token = inr (inl (record { parameters = []; intermediates = []; final = 72; spelled = refl; each_parameter = tt; each_intermediate = tt; ends = (omega arith, omega arith); short = omega arith }))

pub el_token : IsWhole el_text
el_token = inr (inl (record { parameters = []; intermediates = []; final = 75; spelled = refl; each_parameter = tt; each_intermediate = tt; ends = (omega arith, omega arith); short = omega arith }))

pub sgr0_token : IsWhole sgr0_text
sgr0_token = inr (inl (record { parameters = []; intermediates = []; final = 109; spelled = refl; each_parameter = tt; each_intermediate = tt; ends = (omega arith, omega arith); short = omega arith }))

pub erase_token : IsWhole erase
unfolding erase
erase_token = inr (inl (record { parameters = 50 ∷ []; intermediates = []; final = 74; spelled = refl; each_parameter = ((omega arith, omega arith), tt); each_intermediate = tt; ends = (omega arith, omega arith); short = omega arith }))

-- a text of one token, and of two
pub one_token : (token : List ℕ) → IsWhole token → Splits token (token ∷ []) []
one_token token w = ([], sym (append-nil token), inl w, (refl, empty_open))

pub clear_splits : Splits clear_text (home_text ∷ erase ∷ []) []
unfolding erase
clear_splits = (erase, refl, inl home_token, ([], refl, inl erase_token, (refl, empty_open)))

of_splitting : (rows cols : ℕ) (start : Start) (text : List ℕ) (ts : List (List ℕ)) (e : Effect) → Splits text ts [] → record_of rows cols start ts ≡ Some e → HasRecord rows cols start text e
of_splitting rows cols start text ts e s h tokens splits = ap (λ (us : List (List ℕ)). record_of rows cols start us) (one_splitting text ts tokens [] [] s splits).0 ∙ h

-- a place on the screen stays in range
place_held : (row rows : ℕ) → row < rows → min (row + 1 - 1) (rows - 1) ≡ row
place_held row rows h = omega arith

placed : (rows cols : ℕ) (start : Start) (row col : ℕ) → row < rows → col < cols → extended rows cols start (CursorPosition (row + 1) (col + 1)) unchanged ≡ Some (placed_at row col)
placed rows cols start row col h k =
    ap (λ (r : ℕ). Some (with_col (with_row unchanged (moves.To r)) (moves.To (min (col + 1 - 1) (cols - 1))))) (place_held row rows h)
    ∙ ap (λ (c : ℕ). Some (with_col (with_row unchanged (moves.To row)) (moves.To c))) (place_held col cols k)

named : (rows cols : ℕ) (start : Start) (token : List ℕ) (f : Function) (e : Effect) → function_of token ≡ f → extended rows cols start f unchanged ≡ Some e → record_of rows cols start (token ∷ []) ≡ Some e
named rows cols start token f e h k = rw (h, k) refl

pub cup_record : (rows cols row col : ℕ) (start : Start) → IsSize rows cols → row < rows → col < cols → HasRecord rows cols start (cursor_to row col) (placed_at row col)
cup_record rows cols row col start z h k = of_splitting rows cols start (cursor_to row col) (cursor_to row col ∷ []) (placed_at row col)
    (one_token (cursor_to row col) (move_token row col (omega (arith, z.1)) (omega (arith, z.3))))
    (named rows cols start (cursor_to row col) (CursorPosition (row + 1) (col + 1)) (placed_at row col) (move_function row col (omega (arith, z.1)) (omega (arith, z.3))) (placed rows cols start row col h k))

home_function : function_of home_text ≡ CursorPosition (0 + 1) (0 + 1)
home_function = refl

home_placed : (rows cols : ℕ) (start : Start) → IsSize rows cols → record_of rows cols start (home_text ∷ []) ≡ Some (placed_at 0 0)
home_placed rows cols start z = named rows cols start home_text (CursorPosition (0 + 1) (0 + 1)) (placed_at 0 0) home_function (placed rows cols start 0 0 (omega (arith, z.0)) (omega (arith, z.2)))

pub home_record : (rows cols : ℕ) (start : Start) → IsSize rows cols → HasRecord rows cols start home_text (placed_at 0 0)
home_record rows cols start z = of_splitting rows cols start home_text (home_text ∷ []) (placed_at 0 0) (one_token home_text home_token) (home_placed rows cols start z)

pub el_record : (rows cols : ℕ) (start : Start) → HasRecord rows cols start el_text tail_erased
el_record rows cols start = of_splitting rows cols start el_text (el_text ∷ []) tail_erased (one_token el_text el_token) refl

pub sgr0_record : (rows cols : ℕ) (start : Start) → HasRecord rows cols start sgr0_text made_plain
sgr0_record rows cols start = of_splitting rows cols start sgr0_text (sgr0_text ∷ []) made_plain (one_token sgr0_text sgr0_token) refl

-- the tokens after the first
then_named : (rows cols : ℕ) (start : Start) (token next : List ℕ) (e f : Effect) → extended rows cols start (function_of token) unchanged ≡ Some e → extended rows cols start (function_of next) e ≡ Some f → record_of rows cols start (token ∷ next ∷ []) ≡ Some f
then_named rows cols start token next e f h k = rw (h, k) refl

erase_after : (rows cols : ℕ) (start : Start) → extended rows cols start (function_of erase) (placed_at 0 0) ≡ Some cleared
unfolding erase
erase_after rows cols start = refl

pub clear_record : (rows cols : ℕ) (start : Start) → IsSize rows cols → HasRecord rows cols start clear_text cleared
clear_record rows cols start z = of_splitting rows cols start clear_text (home_text ∷ erase ∷ []) cleared clear_splits
    (then_named rows cols start home_text erase (placed_at 0 0) cleared (placed rows cols start 0 0 (omega (arith, z.0)) (omega (arith, z.2))) (erase_after rows cols start))
