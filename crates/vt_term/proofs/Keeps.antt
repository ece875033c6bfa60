-- Each step keeps the screen's size and its invariant.
use Rattle.std.proofs.Common.{Option, ◌-◌, ◌==◌, ◌≡◌, ℕ, Bool, true, false, List, [], ◌∷◌, length, take, refl, arith, if◌then◌else◌, nat_le, ◌&&◌, ◌||◌}
use Rattle.std.proofs.lemmas.Bool.Decides.{nat_tests}
use Rattle.std.specs.Option.{unwrap_or}
use Rattle.std.specs.List.{list_all, slice_index}
use Rattle.vt_screen.specs.Look.{IsPrinted}
use Rattle.vt_term.specs.Parameters.{numbers, is_numeral}
use Rattle.vt_screen.specs.Screen.{Screen, IsScreen}
use Rattle.vt_screen.specs.Step.{CanAct}
use Rattle.vt_screen.specs.declared.functions.Function.{Function}
use Rattle.vt_screen.specs.declared.functions.Function.TheVariants.{Print, LineFeed, CarriageReturn, Backspace, Tab, ShiftOut, ShiftIn, ReverseIndex, NextLine, CursorUp, CursorDown, CursorForward, CursorBack, CursorColumn, CursorRow, EraseCells, InsertCells, DeleteCells, InsertLines, DeleteLines, ScrollUp, ScrollDown, Designate, SelectRendition, Modes, Ignored}
use Rattle.vt_screen.proofs.Keeps.{Kept, kept_again, same_kept, act_kept}
use Rattle.vt_term.specs.Function.{CodeElement, G0, G1, Standard, Private, counted, single, cursor_position, margins, display_part, line_part, counting, by_number, of_one_number, of_numbers, of_private_numbers, marked, named, sequence, designation, escaped, function_of}
use Rattle.vt_term.specs.Step.{step, steps}

either_acts : (b : Bool) (f g : Function) → (b ≡ true → CanAct f) → CanAct g → CanAct (if b then f else g)
either_acts true f g h k = h refl
either_acts false f g h k = k

printable : (b : ℕ) → (nat_le 32 b && nat_le b 126) ≡ true → IsPrinted b
printable b e = (grind (arith, nat_tests), grind (arith, nat_tests))

single_acts : (b : ℕ) → CanAct (single b)
single_acts b = either_acts (nat_le 32 b && nat_le b 126) (Print b) _ (printable b)
    (either_acts (b == 8) Backspace _ (λ e. tt) (either_acts (b == 9) Tab _ (λ e. tt) (either_acts (b == 10) LineFeed _ (λ e. tt) (either_acts (b == 13) CarriageReturn _ (λ e. tt)
    (either_acts (b == 14) ShiftOut _ (λ e. tt) (either_acts (b == 15) ShiftIn Ignored (λ e. tt) tt))))))

cursor_position_acts : (ns : List (Option ℕ)) → CanAct (cursor_position ns)
cursor_position_acts [] = tt
cursor_position_acts (r ∷ []) = tt
cursor_position_acts (r ∷ c ∷ []) = tt
cursor_position_acts (r ∷ c ∷ n ∷ ns) = tt

margins_acts : (ns : List (Option ℕ)) → CanAct (margins ns)
margins_acts [] = tt
margins_acts (r ∷ []) = tt
margins_acts (r ∷ c ∷ []) = tt
margins_acts (r ∷ c ∷ n ∷ ns) = tt

part_acts : (n : ℕ) (a b c : Function) → CanAct a → CanAct b → CanAct c → CanAct (if n == 0 then a else (if n == 1 then b else (if n == 2 then c else Ignored)))
part_acts n a b c p q r = either_acts (n == 0) a _ (λ e. p) (either_acts (n == 1) b _ (λ e. q) (either_acts (n == 2) c Ignored (λ e. r) tt))

counting_acts : (f n : ℕ) → CanAct (counting f n)
counting_acts f n = either_acts (f == 64) (InsertCells n) _ (λ e. tt) (either_acts (f == 65) (CursorUp n) _ (λ e. tt) (either_acts (f == 66) (CursorDown n) _ (λ e. tt)
    (either_acts (f == 67) (CursorForward n) _ (λ e. tt) (either_acts (f == 68) (CursorBack n) _ (λ e. tt) (either_acts (f == 71) (CursorColumn n) _ (λ e. tt)
    (either_acts (f == 76) (InsertLines n) _ (λ e. tt) (either_acts (f == 77) (DeleteLines n) _ (λ e. tt) (either_acts (f == 80) (DeleteCells n) _ (λ e. tt)
    (either_acts (f == 83) (ScrollUp n) _ (λ e. tt) (either_acts (f == 84) (ScrollDown n) _ (λ e. tt) (either_acts (f == 88) (EraseCells n) _ (λ e. tt)
    (either_acts (f == 100) (CursorRow n) Ignored (λ e. tt) tt))))))))))))

by_number_acts : (f : ℕ) (n : Option ℕ) → CanAct (by_number f n)
by_number_acts f n = either_acts (f == 74) (display_part (unwrap_or n 0)) _ (λ e. part_acts (unwrap_or n 0) _ _ _ tt tt tt)
    (either_acts (f == 75) (line_part (unwrap_or n 0)) _ (λ e. part_acts (unwrap_or n 0) _ _ _ tt tt tt) (counting_acts f (counted n)))

of_one_number_acts : (f : ℕ) (ns : List (Option ℕ)) → CanAct (of_one_number f ns)
of_one_number_acts f [] = tt
of_one_number_acts f (n ∷ []) = by_number_acts f n
of_one_number_acts f (n ∷ m ∷ ns) = tt

pub of_numbers_acts : (f : ℕ) (ns : List (Option ℕ)) → CanAct (of_numbers f ns)
of_numbers_acts f ns = either_acts ((f == 72) || (f == 102)) (cursor_position ns) _ (λ e. cursor_position_acts ns) (either_acts (f == 114) (margins ns) _ (λ e. margins_acts ns)
    (either_acts (f == 109) (SelectRendition ns) _ (λ e. tt) (either_acts (f == 104) (Modes Standard true ns) _ (λ e. tt) (either_acts (f == 108) (Modes Standard false ns) _ (λ e. tt) (of_one_number_acts f ns)))))

pub of_private_acts : (f : ℕ) (ns : List (Option ℕ)) → CanAct (of_private_numbers f ns)
of_private_acts f ns = either_acts (f == 104) (Modes Private true ns) _ (λ e. tt) (either_acts (f == 108) (Modes Private false ns) Ignored (λ e. tt) tt)

marked_acts : (f : ℕ) (front : List ℕ) → CanAct (marked f front)
marked_acts f [] = tt
marked_acts f (b ∷ bytes) = either_acts ((b == 63) && list_all is_numeral bytes) (of_private_numbers f (numbers bytes)) Ignored (λ e. of_private_acts f (numbers bytes)) tt

named_acts : (f : ℕ) (front : List ℕ) → CanAct (named f front)
named_acts f front = either_acts (list_all is_numeral front) (of_numbers f (numbers front)) (marked f front) (λ e. of_numbers_acts f (numbers front)) (marked_acts f front)

designation_acts : (g : CodeElement) (f : ℕ) → CanAct (designation g f)
designation_acts g f = either_acts (f == 48) (Designate g true) _ (λ e. tt) (either_acts (f == 66) (Designate g false) Ignored (λ e. tt) tt)

escaped_acts : (bytes : List ℕ) → CanAct (escaped bytes)
escaped_acts [] = tt
escaped_acts (f ∷ []) = either_acts (f == 68) LineFeed _ (λ e. tt) (either_acts (f == 69) NextLine _ (λ e. tt) (either_acts (f == 77) ReverseIndex Ignored (λ e. tt) tt))
escaped_acts (s ∷ f ∷ []) = either_acts (s == 40) (designation G0 f) _ (λ e. designation_acts G0 f) (either_acts (s == 41) (designation G1 f) Ignored (λ e. designation_acts G1 f) tt)
escaped_acts (s ∷ f ∷ b ∷ bytes) = tt

pub token_acts : (token : List ℕ) → CanAct (function_of token)
token_acts [] = tt
token_acts (b ∷ []) = single_acts b
token_acts (e ∷ i ∷ body) = either_acts (i == 91) (sequence body) (escaped (i ∷ body)) (λ p. named_acts (slice_index body (length body - 1)) (take (length body - 1) body)) (escaped_acts (i ∷ body))

pub step_kept : (token : List ℕ) (s : Screen) → IsScreen s → Kept s (step token s)
step_kept token s h = act_kept (function_of token) s (token_acts token) h

pub steps_kept : (ts : List (List ℕ)) (s : Screen) → IsScreen s → Kept s (steps ts s)
steps_kept [] s h = same_kept s h
steps_kept (t ∷ ts) s h =
    let k : Kept s (step t s) = step_kept t s h in
    kept_again s (step t s) (steps (t ∷ ts) s) k (steps_kept ts (step t s) k.screen)
