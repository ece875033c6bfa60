-- Numbers read from the left, and functions by how many they take.
use Rattle.std.proofs.Common.{◌≡◌, ℕ, ◌+◌, ◌<◌, ◌≤◌, ◌==◌, ◌||◌, not, nat_le, Bool, true, false, List, [], ◌∷◌, ◌++◌, length, if◌then◌else◌, Option, None, Some, refl, sym, ap, ◌∙◌, arith, append_assoc, map}
use Rattle.std.specs.List.{count_by}
use Rattle.std.specs.Option.{unwrap_or}
use Rattle.std.proofs.lemmas.Bool.{eqb-true, ne_eqb}
use Rattle.std.proofs.lemmas.Bool.Decides.{nat_tests}
use Rattle.std.proofs.lemmas.List.{append-nil, length-map}
use Rattle.std.proofs.lemmas.List.Recursion.{is_count_by}
use Rattle.vt_term.specs.Parameters.{pieces, onto_first, number_of, numbers}
use Rattle.vt_term.specs.Function.{cursor_position, margins, of_one_number, by_number, counting, counted, display_part, line_part, EraseDisplay, EraseLine, Ignored, ToEnd, FromStart, Whole}
use Rattle.vt_term.proofs.Decimals.{IsPiece, piece_more, pieces_piece, numbers_last, number_of_more}
use Rattle.vt_states.specs.Ignored.{first_unknown, unknown_from, with_digit, lack_in, part_lack, is_unknown}
use Rattle.vt_states.specs.declared.ignored.Lack.TheVariants.{Sequence}
use Rattle.vt_states.specs.declared.ignored.Numbers.TheVariants.{Parts}

from_piece : (test : Option ℕ → Bool) (ds bytes : List ℕ) → IsPiece ds → unknown_from test (number_of ds) bytes ≡ first_unknown test (numbers (ds ++ bytes))
from_piece test ds [] h = ap (first_unknown test) (sym (numbers_last ds h)) ∙ ap (λ (l : List ℕ). first_unknown test (numbers l)) (sym (append-nil ds))
from_piece test ds (b ∷ bytes) h = by_semicolon (b == 59) refl (from_piece test [] bytes tt) (λ e. from_piece test (ds ++ b ∷ []) bytes (piece_more ds b h e))
  where
    by_semicolon : (c : Bool) → (b == 59) ≡ c → unknown_from test None bytes ≡ first_unknown test (numbers bytes)
        → ((b == 59) ≡ false → unknown_from test (number_of (ds ++ b ∷ [])) bytes ≡ first_unknown test (numbers ((ds ++ b ∷ []) ++ bytes)))
        → (if c then (if test (number_of ds) then Some (unwrap_or (number_of ds) 0) else unknown_from test None bytes) else unknown_from test (Some (with_digit (number_of ds) b)) bytes)
        ≡ first_unknown test (numbers (ds ++ b ∷ bytes))
    by_semicolon true e next longer =
        ap (λ (u : Option ℕ). if test (number_of ds) then Some (unwrap_or (number_of ds) 0) else u) next
        ∙ ap (λ (l : List (List ℕ)). first_unknown test (map number_of l)) (sym (pieces_piece ds bytes h)) ∙ ap (λ (c : ℕ). first_unknown test (numbers (ds ++ c ∷ bytes))) (sym (eqb-true b 59 e))
    by_semicolon false e next longer =
        ap (λ (n : Option ℕ). unknown_from test n bytes) (sym (number_of_more ds b)) ∙ longer e
        ∙ ap (λ (l : List ℕ). first_unknown test (numbers l)) (append_assoc ds (b ∷ []) bytes)

pub from_nothing : (test : Option ℕ → Bool) (bytes : List ℕ) → unknown_from test None bytes ≡ first_unknown test (numbers bytes)
from_nothing test bytes = from_piece test [] bytes tt

semicolons : List ℕ → ℕ
semicolons [] = 0
semicolons (b ∷ bytes) = if b == 59 then 1 + semicolons bytes else semicolons bytes

semicolons_counted : (bytes : List ℕ) → semicolons bytes ≡ count_by (λ b. b == 59) bytes
unfolding semicolons
semicolons_counted bytes = is_count_by semicolons (λ b. b == 59) refl (λ b more. refl) bytes

-- one number more than semicolons
longer_piece : (b : ℕ) (ps : List (List ℕ)) → 0 < length ps → length (onto_first b ps) ≡ length ps
longer_piece b [] some = absurd (omega arith)
longer_piece b (p ∷ ps) some = refl

pieces_counted : (bytes : List ℕ) → length (pieces bytes) ≡ 1 + semicolons bytes
unfolding semicolons
pieces_counted [] = refl
pieces_counted (b ∷ bytes) = by_semicolon (b == 59) (pieces_counted bytes)
  where
    by_semicolon : (c : Bool) → length (pieces bytes) ≡ 1 + semicolons bytes → length (if c then [] ∷ pieces bytes else onto_first b (pieces bytes)) ≡ 1 + (if c then 1 + semicolons bytes else semicolons bytes)
    by_semicolon true n = omega (arith, n)
    by_semicolon false n = omega (arith, n, longer_piece b (pieces bytes) (omega (arith, n)))

pub numbers_counted : (bytes : List ℕ) → length (numbers bytes) ≡ 1 + count_by (λ b. b == 59) bytes
numbers_counted bytes = length-map {B = Option ℕ} (pieces bytes) number_of ∙ pieces_counted bytes ∙ ap (λ (n : ℕ). 1 + n) (semicolons_counted bytes)

-- CUP and DECSTBM take one number or two
pub place_lacks : (ns : List (Option ℕ)) → 2 < length ns → Some Sequence ≡ lack_in (cursor_position ns)
place_lacks [] h = absurd (omega arith)
place_lacks (a ∷ []) h = absurd (omega arith)
place_lacks (a ∷ b ∷ []) h = absurd (omega arith)
place_lacks (a ∷ b ∷ c ∷ ns) h = refl

pub place_fits : (ns : List (Option ℕ)) → 1 ≤ length ns → length ns ≤ 2 → None ≡ lack_in (cursor_position ns)
place_fits [] h k = absurd (omega arith)
place_fits (a ∷ []) h k = refl
place_fits (a ∷ b ∷ []) h k = refl
place_fits (a ∷ b ∷ c ∷ ns) h k = absurd (omega arith)

pub margins_lack : (ns : List (Option ℕ)) → 2 < length ns → Some Sequence ≡ lack_in (margins ns)
margins_lack [] h = absurd (omega arith)
margins_lack (a ∷ []) h = absurd (omega arith)
margins_lack (a ∷ b ∷ []) h = absurd (omega arith)
margins_lack (a ∷ b ∷ c ∷ ns) h = refl

pub margins_fit : (ns : List (Option ℕ)) → 1 ≤ length ns → length ns ≤ 2 → None ≡ lack_in (margins ns)
margins_fit [] h k = absurd (omega arith)
margins_fit (a ∷ []) h k = refl
margins_fit (a ∷ b ∷ []) h k = refl
margins_fit (a ∷ b ∷ c ∷ ns) h k = absurd (omega arith)

-- the others take one
pub one_lacks : (final : ℕ) (ns : List (Option ℕ)) → 1 < length ns → Some Sequence ≡ lack_in (of_one_number final ns)
one_lacks final [] h = absurd (omega arith)
one_lacks final (a ∷ []) h = absurd (omega arith)
one_lacks final (a ∷ b ∷ ns) h = refl

piece_of : (bytes : List ℕ) → semicolons bytes ≡ 0 → IsPiece bytes
unfolding semicolons
piece_of [] none = tt
piece_of (b ∷ bytes) none = by_semicolon (b == 59) refl (λ n. piece_of bytes n) none
  where
    by_semicolon : (c : Bool) → (b == 59) ≡ c → (semicolons bytes ≡ 0 → IsPiece bytes) → (if c then 1 + semicolons bytes else semicolons bytes) ≡ 0 → ((b == 59) ≡ false) × IsPiece bytes
    by_semicolon true e more n = absurd (omega (arith, n))
    by_semicolon false e more n = (e, more n)

pub one_number : (bytes : List ℕ) → count_by (λ b. b == 59) bytes ≡ 0 → numbers bytes ≡ number_of bytes ∷ []
one_number bytes none = numbers_last bytes (piece_of bytes (semicolons_counted bytes ∙ none))

-- ED and EL have the numbers 0 to 2
third : (m : ℕ) → (if m == 0 then None else (if m == 1 then None else (if m == 2 then None else Some Sequence))) ≡ part_lack (if not (nat_le m 2) then Some m else None)
third m = by_size (nat_le m 2) refl
  where
    by_size : (c : Bool) → nat_le m 2 ≡ c → (if m == 0 then None else (if m == 1 then None else (if m == 2 then None else Some Sequence))) ≡ part_lack (if not c then Some m else None)
    by_size true e = small (m == 0) (m == 1) (m == 2) refl refl refl
      where
        small : (x y z : Bool) → (m == 0) ≡ x → (m == 1) ≡ y → (m == 2) ≡ z → (if x then None else (if y then None else (if z then None else Some Sequence))) ≡ None
        small true y z p q r = refl
        small false true z p q r = refl
        small false false true p q r = refl
        small false false false p q r = absurd (let low : m ≤ 2 = grind (arith, nat_tests) in let far : ⊥ = grind (arith, nat_tests) in far)
    by_size false e =
        let far : 2 < m = grind (arith, nat_tests) in
        rw (ne_eqb m 0 (λ k. omega (arith, far, k)), ne_eqb m 1 (λ k. omega (arith, far, k)), ne_eqb m 2 (λ k. omega (arith, far, k))) refl

of_display : (m : ℕ) → lack_in (display_part m) ≡ (if m == 0 then None else (if m == 1 then None else (if m == 2 then None else Some Sequence)))
of_display m = by_tests (m == 0) (m == 1) (m == 2)
  where
    by_tests : (x y z : Bool) → lack_in (if x then EraseDisplay ToEnd else (if y then EraseDisplay FromStart else (if z then EraseDisplay Whole else Ignored))) ≡ (if x then None else (if y then None else (if z then None else Some Sequence)))
    by_tests true y z = refl
    by_tests false true z = refl
    by_tests false false true = refl
    by_tests false false false = refl

of_line : (m : ℕ) → lack_in (line_part m) ≡ (if m == 0 then None else (if m == 1 then None else (if m == 2 then None else Some Sequence)))
of_line m = by_tests (m == 0) (m == 1) (m == 2)
  where
    by_tests : (x y z : Bool) → lack_in (if x then EraseLine ToEnd else (if y then EraseLine FromStart else (if z then EraseLine Whole else Ignored))) ≡ (if x then None else (if y then None else (if z then None else Some Sequence)))
    by_tests true y z = refl
    by_tests false true z = refl
    by_tests false false true = refl
    by_tests false false false = refl

pub by_part : (final : ℕ) (n : Option ℕ) → ((final == 74) || (final == 75)) ≡ true → part_lack (first_unknown (is_unknown Parts) (n ∷ [])) ≡ lack_in (by_number final n)
by_part final n h = by_final (final == 74) (final == 75) h
  where
    by_final : (x y : Bool) → (x || y) ≡ true → part_lack (first_unknown (is_unknown Parts) (n ∷ [])) ≡ lack_in (if x then display_part (unwrap_or n 0) else (if y then line_part (unwrap_or n 0) else counting final (counted n)))
    by_final true y e = sym (of_display (unwrap_or n 0) ∙ third (unwrap_or n 0))
    by_final false true e = sym (of_line (unwrap_or n 0) ∙ third (unwrap_or n 0))
    by_final false false e = absurd (cc)

pub by_count : (final : ℕ) (n : Option ℕ) → ((final == 74) || (final == 75)) ≡ false → lack_in (counting final (counted n)) ≡ lack_in (by_number final n)
by_count final n h = by_final (final == 74) (final == 75) h
  where
    by_final : (x y : Bool) → (x || y) ≡ false → lack_in (counting final (counted n)) ≡ lack_in (if x then display_part (unwrap_or n 0) else (if y then line_part (unwrap_or n 0) else counting final (counted n)))
    by_final true y e = absurd (cc)
    by_final false true e = absurd (cc)
    by_final false false e = refl
