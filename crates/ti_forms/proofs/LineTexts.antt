-- The text of the line about a row with a standard string, part by part.
use Rattle.std.proofs.Common.{◌≡◌, ℕ, zero, suc, ◌+◌, ◌/◌, ◌%◌, ◌==◌, ◌<◌, ◌≤◌, ◌^◌, true, List, [], ◌∷◌, ◌++◌, Some, refl, sym, ap, ◌∙◌, subst, arith, append_assoc, append-nil, length, length-append, lit<}
use Rattle.std.specs.Prelude.{slice_index}
use Rattle.std.specs.Fmt.{decimal}
use Rattle.std.specs.List.{AllByRecursion}
use Rattle.std.proofs.lemmas.Bool.{agree_below_at, eqb-true}
use Rattle.std.proofs.lemmas.Fmt.{decimal_digit, decimal_step, length-decimal-le}
use Rattle.hex.proofs.HexLemmas.{length-encode_with}
use Rattle.hex.specs.Hex.{IsBytes, encode_lower, encode_with, lower_digits}
use Rattle.vt_term.specs.Text.{IsParameter}
use Rattle.vt_term.proofs.Decimals.{all_append}
use Rattle.vt_term.proofs.Moves.{spells}
use Rattle.vt_term.proofs.Sequences.{all_weaker}
use Rattle.ti_rows.specs.Names.{name_in_order}
use Rattle.ti_rows.specs.declared.rows.Row.{Row}
use Rattle.ti_rows.specs.declared.rows.Row.TheVariants.{Cup, Hpa, Vpa, Cub, Cuf, Cuu, Cud, Ech, Csr}
use Rattle.ti_lines.specs.EffectText.{spelled}
use Rattle.ti_lines.specs.RowLines.{IsLine, IsTextOf, line_text}
use Rattle.ti_lines.specs.declared.row_lines.RowLine.{RowLine}
use Rattle.ti_lines.proofs.LinesRead.{one_line}
use Rattle.ti_forms.specs.Forms.{HasForm, ToPlace, ToColumn, ToLine, Left, Right, Upward, Downward, Erasing, Bounding}
use Rattle.vt_effects.specs.declared.effects.Effect.{Effect}
use Rattle.ti_forms.specs.Forms.{IsStandardLine, IsWholeForm, standard_effect, standard_line, with_number, with_numbers}

-- ---- hexadecimal digits

pub encode_append : (xs ys : List ℕ) → encode_lower (xs ++ ys) ≡ encode_lower xs ++ encode_lower ys
unfolding encode_with
encode_append [] ys = refl
encode_append (x ∷ xs) ys = ap (λ (l : List ℕ). slice_index lower_digits (x / 16) ∷ slice_index lower_digits (x % 16) ∷ l) (encode_append xs ys)

high_digit : (d : ℕ) → d < 10 → slice_index lower_digits ((48 + d) / 16) ≡ 51
high_digit d h = eqb-true _ 51 (agree_below_at (λ n. slice_index lower_digits ((48 + n) / 16) == 51) (λ _. true) 10 d refl h)

low_digit : (d : ℕ) → d < 10 → slice_index lower_digits ((48 + d) % 16) ≡ 48 + d
low_digit d h = eqb-true _ (48 + d) (agree_below_at (λ n. slice_index lower_digits ((48 + n) % 16) == 48 + n) (λ _. true) 10 d refl h)

-- the code of a digit
digit_code : (d : ℕ) → d < 10 → encode_lower (decimal d) ≡ 51 ∷ (48 + d) ∷ []
unfolding encode_with
digit_code d h = ap encode_lower (decimal_digit d h) ∙ ap (λ (n : ℕ). n ∷ slice_index lower_digits ((48 + d) % 16) ∷ []) (high_digit d h) ∙ ap (λ (n : ℕ). 51 ∷ n ∷ []) (low_digit d h)

pub code_pushed : (d pushed : ℕ) (front middle text : List ℕ) → d < 10 → pushed ≡ 48 + d → middle ≡ front ++ 51 ∷ [] → text ≡ middle ++ pushed ∷ [] → text ≡ front ++ encode_lower (decimal d)
code_pushed d pushed front middle text h p e f =
    f ∙ ap (λ (n : ℕ). middle ++ n ∷ []) p ∙ ap (λ (l : List ℕ). l ++ (48 + d) ∷ []) e ∙ append_assoc front (51 ∷ []) ((48 + d) ∷ []) ∙ ap (λ (l : List ℕ). front ++ l) (sym (digit_code d h))

small : (n : ℕ) → n < 1000 → n < 2 ^ 64
small n h = omega (arith, h, lit< {m = 1000} {n = 2 ^ 64} tt)

pub codes_join : (n : ℕ) (front middle text : List ℕ) → 10 ≤ n → n < 1000 → middle ≡ front ++ encode_lower (decimal (n / 10)) → text ≡ middle ++ encode_lower (decimal (n % 10)) → text ≡ front ++ encode_lower (decimal n)
codes_join n front middle text h k e f =
    f ∙ ap (λ (l : List ℕ). l ++ encode_lower (decimal (n % 10))) e ∙ append_assoc front (encode_lower (decimal (n / 10))) (encode_lower (decimal (n % 10)))
    ∙ ap (λ (l : List ℕ). front ++ l)
    (sym (encode_append (decimal (n / 10)) (decimal (n % 10))) ∙ ap (λ (l : List ℕ). encode_lower (decimal (n / 10) ++ l)) (decimal_digit (n % 10) (omega arith)) ∙ ap encode_lower (sym (decimal_step n h (small n k))))

-- ---- five words, one after another

pub five_words : (t a b c d e t1 t2 t3 t4 t5 : List ℕ) → t1 ≡ t ++ a → t2 ≡ t1 ++ b → t3 ≡ t2 ++ c → t4 ≡ t3 ++ d → t5 ≡ t4 ++ e → t5 ≡ t ++ (a ++ (b ++ (c ++ (d ++ e))))
five_words t a b c d e t1 t2 t3 t4 t5 p q r s u =
    u ∙ ap (λ (l : List ℕ). l ++ e) (s ∙ ap (λ (l : List ℕ). l ++ d) (r ∙ ap (λ (l : List ℕ). l ++ c) (q ∙ ap (λ (l : List ℕ). l ++ b) p)))
    ∙ append_assoc (((t ++ a) ++ b) ++ c) d e ∙ append_assoc ((t ++ a) ++ b) c (d ++ e) ∙ append_assoc (t ++ a) b (c ++ (d ++ e)) ∙ append_assoc t a (b ++ (c ++ (d ++ e)))

pub three_words : (t a b c t1 t2 t3 : List ℕ) → t1 ≡ t ++ a → t2 ≡ t1 ++ b → t3 ≡ t2 ++ c → t3 ≡ t ++ (a ++ (b ++ c))
three_words t a b c t1 t2 t3 p q r =
    r ∙ ap (λ (l : List ℕ). l ++ c) (q ∙ ap (λ (l : List ℕ). l ++ b) p) ∙ append_assoc (t ++ a) b c ∙ append_assoc t a (b ++ c)

-- the first words, the bytes and the last words, one after another
from_none : (t t1 t2 none a b c : List ℕ) → none ≡ [] → t1 ≡ none ++ a → t2 ≡ t1 ++ b → t ≡ t2 ++ c → t ≡ a ++ (b ++ c)
from_none t t1 t2 none a b c n p q r = three_words none a b c t1 t2 t p q r ∙ ap (λ (l : List ℕ). l ++ (a ++ (b ++ c))) n

-- ---- the bytes in hexadecimal

number_coded : (n last : ℕ) (code : List ℕ) → encode_lower (last ∷ []) ≡ code → encode_lower (with_number n last) ≡ (49 ∷ 98 ∷ 53 ∷ 98 ∷ []) ++ (encode_lower (decimal n) ++ code)
unfolding encode_with
number_coded n last code e =
    ap (λ (l : List ℕ). 49 ∷ 98 ∷ 53 ∷ 98 ∷ l) (encode_append (decimal n) (last ∷ []) ∙ ap (λ (l : List ℕ). encode_lower (decimal n) ++ l) e)

numbers_coded : (m n last : ℕ) (code : List ℕ) → encode_lower (last ∷ []) ≡ code → encode_lower (with_numbers m n last) ≡ (49 ∷ 98 ∷ 53 ∷ 98 ∷ []) ++ (encode_lower (decimal m) ++ ((51 ∷ 98 ∷ []) ++ (encode_lower (decimal n) ++ code)))
unfolding encode_with
numbers_coded m n last code e =
    ap (λ (l : List ℕ). 49 ∷ 98 ∷ 53 ∷ 98 ∷ l) (encode_append (decimal m) (59 ∷ (decimal n ++ last ∷ []))
    ∙ ap (λ (l : List ℕ). encode_lower (decimal m) ++ (51 ∷ 98 ∷ l)) (encode_append (decimal n) (last ∷ []) ∙ ap (λ (l : List ℕ). encode_lower (decimal n) ++ l) e))

-- ---- the whole lines

whole_cup : (row col : ℕ) → line_text (standard_line (Cup row col)) ≡ ((99 ∷ 117 ∷ 112 ∷ 32 ∷ []) ++ (decimal row ++ ((32 ∷ []) ++ (decimal col ++ (32 ∷ []))))) ++ (encode_lower (with_numbers (row + 1) (col + 1) 72) ++ ((32 ∷ 114 ∷ 111 ∷ 119 ∷ 61 ∷ []) ++ (decimal row ++ ((32 ∷ 99 ∷ 111 ∷ 108 ∷ 61 ∷ []) ++ (decimal col ++ (32 ∷ 110 ∷ 111 ∷ 112 ∷ 101 ∷ 110 ∷ 100 ∷ []))))))
unfolding name_in_order spelled
whole_cup row col = refl

pub cup_spelled : (row col : ℕ) (t t1 t2 none : List ℕ) → none ≡ [] → t1 ≡ none ++ ((99 ∷ 117 ∷ 112 ∷ 32 ∷ []) ++ (decimal row ++ ((32 ∷ []) ++ (decimal col ++ (32 ∷ []))))) → t2 ≡ t1 ++ ((49 ∷ 98 ∷ 53 ∷ 98 ∷ []) ++ (encode_lower (decimal (row + 1)) ++ ((51 ∷ 98 ∷ []) ++ (encode_lower (decimal (col + 1)) ++ (52 ∷ 56 ∷ []))))) → t ≡ t2 ++ ((32 ∷ 114 ∷ 111 ∷ 119 ∷ 61 ∷ []) ++ (decimal row ++ ((32 ∷ 99 ∷ 111 ∷ 108 ∷ 61 ∷ []) ++ (decimal col ++ (32 ∷ 110 ∷ 111 ∷ 112 ∷ 101 ∷ 110 ∷ 100 ∷ []))))) → t ≡ line_text (standard_line (Cup row col))
unfolding encode_with
cup_spelled row col t t1 t2 none n e f g =
    from_none t t1 t2 none ((99 ∷ 117 ∷ 112 ∷ 32 ∷ []) ++ (decimal row ++ ((32 ∷ []) ++ (decimal col ++ (32 ∷ []))))) ((49 ∷ 98 ∷ 53 ∷ 98 ∷ []) ++ (encode_lower (decimal (row + 1)) ++ ((51 ∷ 98 ∷ []) ++ (encode_lower (decimal (col + 1)) ++ (52 ∷ 56 ∷ []))))) ((32 ∷ 114 ∷ 111 ∷ 119 ∷ 61 ∷ []) ++ (decimal row ++ ((32 ∷ 99 ∷ 111 ∷ 108 ∷ 61 ∷ []) ++ (decimal col ++ (32 ∷ 110 ∷ 111 ∷ 112 ∷ 101 ∷ 110 ∷ 100 ∷ []))))) n e f g
    ∙ ap (λ (l : List ℕ). ((99 ∷ 117 ∷ 112 ∷ 32 ∷ []) ++ (decimal row ++ ((32 ∷ []) ++ (decimal col ++ (32 ∷ []))))) ++ (l ++ ((32 ∷ 114 ∷ 111 ∷ 119 ∷ 61 ∷ []) ++ (decimal row ++ ((32 ∷ 99 ∷ 111 ∷ 108 ∷ 61 ∷ []) ++ (decimal col ++ (32 ∷ 110 ∷ 111 ∷ 112 ∷ 101 ∷ 110 ∷ 100 ∷ []))))))) (sym (numbers_coded (row + 1) (col + 1) 72 (52 ∷ 56 ∷ []) refl))
    ∙ sym (whole_cup row col)

-- the line with this text for each 0
csr_with : ℕ → ℕ → List ℕ → List ℕ
csr_with top bottom z = ((99 ∷ 115 ∷ 114 ∷ 32 ∷ []) ++ (decimal top ++ ((32 ∷ []) ++ (decimal bottom ++ (32 ∷ []))))) ++ (encode_lower (with_numbers (top + 1) (bottom + 1) 114) ++ (32 ∷ 114 ∷ 111 ∷ 119 ∷ 61 ∷ (z ++ (32 ∷ 99 ∷ 111 ∷ 108 ∷ 61 ∷ (z ++ (32 ∷ 110 ∷ 111 ∷ 112 ∷ 101 ∷ 110 ∷ 100 ∷ 32 ∷ 114 ∷ 111 ∷ 119 ∷ 115 ∷ 58 ∷ (decimal top ++ (44 ∷ decimal bottom))))))))

csr_zeros : (top bottom : ℕ) → line_text (standard_line (Csr top bottom)) ≡ csr_with top bottom (decimal 0)
unfolding name_in_order spelled csr_with
csr_zeros top bottom = refl

csr_written : (top bottom : ℕ) → csr_with top bottom (48 ∷ []) ≡ ((99 ∷ 115 ∷ 114 ∷ 32 ∷ []) ++ (decimal top ++ ((32 ∷ []) ++ (decimal bottom ++ (32 ∷ []))))) ++ (encode_lower (with_numbers (top + 1) (bottom + 1) 114) ++ ((32 ∷ 114 ∷ 111 ∷ 119 ∷ 61 ∷ 48 ∷ 32 ∷ 99 ∷ 111 ∷ 108 ∷ 61 ∷ 48 ∷ 32 ∷ 110 ∷ 111 ∷ 112 ∷ 101 ∷ 110 ∷ 100 ∷ 32 ∷ 114 ∷ 111 ∷ 119 ∷ 115 ∷ 58 ∷ []) ++ (decimal top ++ ((44 ∷ []) ++ (decimal bottom)))))
unfolding csr_with
csr_written top bottom = refl

whole_csr : (top bottom : ℕ) → line_text (standard_line (Csr top bottom)) ≡ ((99 ∷ 115 ∷ 114 ∷ 32 ∷ []) ++ (decimal top ++ ((32 ∷ []) ++ (decimal bottom ++ (32 ∷ []))))) ++ (encode_lower (with_numbers (top + 1) (bottom + 1) 114) ++ ((32 ∷ 114 ∷ 111 ∷ 119 ∷ 61 ∷ 48 ∷ 32 ∷ 99 ∷ 111 ∷ 108 ∷ 61 ∷ 48 ∷ 32 ∷ 110 ∷ 111 ∷ 112 ∷ 101 ∷ 110 ∷ 100 ∷ 32 ∷ 114 ∷ 111 ∷ 119 ∷ 115 ∷ 58 ∷ []) ++ (decimal top ++ ((44 ∷ []) ++ (decimal bottom)))))
whole_csr top bottom = csr_zeros top bottom ∙ ap (λ (z : List ℕ). csr_with top bottom z) (decimal_digit 0 (omega arith)) ∙ csr_written top bottom

pub csr_spelled : (top bottom : ℕ) (t t1 t2 none : List ℕ) → none ≡ [] → t1 ≡ none ++ ((99 ∷ 115 ∷ 114 ∷ 32 ∷ []) ++ (decimal top ++ ((32 ∷ []) ++ (decimal bottom ++ (32 ∷ []))))) → t2 ≡ t1 ++ ((49 ∷ 98 ∷ 53 ∷ 98 ∷ []) ++ (encode_lower (decimal (top + 1)) ++ ((51 ∷ 98 ∷ []) ++ (encode_lower (decimal (bottom + 1)) ++ (55 ∷ 50 ∷ []))))) → t ≡ t2 ++ ((32 ∷ 114 ∷ 111 ∷ 119 ∷ 61 ∷ 48 ∷ 32 ∷ 99 ∷ 111 ∷ 108 ∷ 61 ∷ 48 ∷ 32 ∷ 110 ∷ 111 ∷ 112 ∷ 101 ∷ 110 ∷ 100 ∷ 32 ∷ 114 ∷ 111 ∷ 119 ∷ 115 ∷ 58 ∷ []) ++ (decimal top ++ ((44 ∷ []) ++ (decimal bottom ++ [])))) → t ≡ line_text (standard_line (Csr top bottom))
unfolding encode_with
csr_spelled top bottom t t1 t2 none n e f g =
    from_none t t1 t2 none ((99 ∷ 115 ∷ 114 ∷ 32 ∷ []) ++ (decimal top ++ ((32 ∷ []) ++ (decimal bottom ++ (32 ∷ []))))) ((49 ∷ 98 ∷ 53 ∷ 98 ∷ []) ++ (encode_lower (decimal (top + 1)) ++ ((51 ∷ 98 ∷ []) ++ (encode_lower (decimal (bottom + 1)) ++ (55 ∷ 50 ∷ []))))) ((32 ∷ 114 ∷ 111 ∷ 119 ∷ 61 ∷ 48 ∷ 32 ∷ 99 ∷ 111 ∷ 108 ∷ 61 ∷ 48 ∷ 32 ∷ 110 ∷ 111 ∷ 112 ∷ 101 ∷ 110 ∷ 100 ∷ 32 ∷ 114 ∷ 111 ∷ 119 ∷ 115 ∷ 58 ∷ []) ++ (decimal top ++ ((44 ∷ []) ++ (decimal bottom ++ [])))) n e f g
    ∙ ap (λ (l : List ℕ). ((99 ∷ 115 ∷ 114 ∷ 32 ∷ []) ++ (decimal top ++ ((32 ∷ []) ++ (decimal bottom ++ (32 ∷ []))))) ++ (((49 ∷ 98 ∷ 53 ∷ 98 ∷ []) ++ (encode_lower (decimal (top + 1)) ++ ((51 ∷ 98 ∷ []) ++ (encode_lower (decimal (bottom + 1)) ++ (55 ∷ 50 ∷ []))))) ++ ((32 ∷ 114 ∷ 111 ∷ 119 ∷ 61 ∷ 48 ∷ 32 ∷ 99 ∷ 111 ∷ 108 ∷ 61 ∷ 48 ∷ 32 ∷ 110 ∷ 111 ∷ 112 ∷ 101 ∷ 110 ∷ 100 ∷ 32 ∷ 114 ∷ 111 ∷ 119 ∷ 115 ∷ 58 ∷ []) ++ (decimal top ++ ((44 ∷ []) ++ l))))) (append-nil (decimal bottom))
    ∙ ap (λ (l : List ℕ). ((99 ∷ 115 ∷ 114 ∷ 32 ∷ []) ++ (decimal top ++ ((32 ∷ []) ++ (decimal bottom ++ (32 ∷ []))))) ++ (l ++ ((32 ∷ 114 ∷ 111 ∷ 119 ∷ 61 ∷ 48 ∷ 32 ∷ 99 ∷ 111 ∷ 108 ∷ 61 ∷ 48 ∷ 32 ∷ 110 ∷ 111 ∷ 112 ∷ 101 ∷ 110 ∷ 100 ∷ 32 ∷ 114 ∷ 111 ∷ 119 ∷ 115 ∷ 58 ∷ []) ++ (decimal top ++ ((44 ∷ []) ++ (decimal bottom)))))) (sym (numbers_coded (top + 1) (bottom + 1) 114 (55 ∷ 50 ∷ []) refl))
    ∙ sym (whole_csr top bottom)

whole_hpa : (n : ℕ) → line_text (standard_line (Hpa n)) ≡ ((104 ∷ 112 ∷ 97 ∷ 32 ∷ []) ++ (decimal n ++ (32 ∷ []))) ++ (encode_lower (with_number (n + 1) 71) ++ ((32 ∷ 99 ∷ 111 ∷ 108 ∷ 61 ∷ []) ++ (decimal n ++ (32 ∷ 110 ∷ 111 ∷ 112 ∷ 101 ∷ 110 ∷ 100 ∷ []))))
unfolding name_in_order spelled
whole_hpa n = refl

pub hpa_spelled : (n : ℕ) (t t1 t2 none : List ℕ) → none ≡ [] → t1 ≡ none ++ ((104 ∷ 112 ∷ 97 ∷ 32 ∷ []) ++ (decimal n ++ (32 ∷ []))) → t2 ≡ t1 ++ ((49 ∷ 98 ∷ 53 ∷ 98 ∷ []) ++ (encode_lower (decimal (n + 1)) ++ (52 ∷ 55 ∷ []))) → t ≡ t2 ++ ((32 ∷ 99 ∷ 111 ∷ 108 ∷ 61 ∷ []) ++ (decimal n ++ (32 ∷ 110 ∷ 111 ∷ 112 ∷ 101 ∷ 110 ∷ 100 ∷ []))) → t ≡ line_text (standard_line (Hpa n))
unfolding encode_with
hpa_spelled n t t1 t2 none z e f g =
    from_none t t1 t2 none ((104 ∷ 112 ∷ 97 ∷ 32 ∷ []) ++ (decimal n ++ (32 ∷ []))) ((49 ∷ 98 ∷ 53 ∷ 98 ∷ []) ++ (encode_lower (decimal (n + 1)) ++ (52 ∷ 55 ∷ []))) ((32 ∷ 99 ∷ 111 ∷ 108 ∷ 61 ∷ []) ++ (decimal n ++ (32 ∷ 110 ∷ 111 ∷ 112 ∷ 101 ∷ 110 ∷ 100 ∷ []))) z e f g
    ∙ ap (λ (l : List ℕ). ((104 ∷ 112 ∷ 97 ∷ 32 ∷ []) ++ (decimal n ++ (32 ∷ []))) ++ (l ++ ((32 ∷ 99 ∷ 111 ∷ 108 ∷ 61 ∷ []) ++ (decimal n ++ (32 ∷ 110 ∷ 111 ∷ 112 ∷ 101 ∷ 110 ∷ 100 ∷ []))))) (sym (number_coded (n + 1) 71 (52 ∷ 55 ∷ []) refl))
    ∙ sym (whole_hpa n)

whole_vpa : (n : ℕ) → line_text (standard_line (Vpa n)) ≡ ((118 ∷ 112 ∷ 97 ∷ 32 ∷ []) ++ (decimal n ++ (32 ∷ []))) ++ (encode_lower (with_number (n + 1) 100) ++ ((32 ∷ 114 ∷ 111 ∷ 119 ∷ 61 ∷ []) ++ (decimal n ++ (32 ∷ 110 ∷ 111 ∷ 112 ∷ 101 ∷ 110 ∷ 100 ∷ []))))
unfolding name_in_order spelled
whole_vpa n = refl

pub vpa_spelled : (n : ℕ) (t t1 t2 none : List ℕ) → none ≡ [] → t1 ≡ none ++ ((118 ∷ 112 ∷ 97 ∷ 32 ∷ []) ++ (decimal n ++ (32 ∷ []))) → t2 ≡ t1 ++ ((49 ∷ 98 ∷ 53 ∷ 98 ∷ []) ++ (encode_lower (decimal (n + 1)) ++ (54 ∷ 52 ∷ []))) → t ≡ t2 ++ ((32 ∷ 114 ∷ 111 ∷ 119 ∷ 61 ∷ []) ++ (decimal n ++ (32 ∷ 110 ∷ 111 ∷ 112 ∷ 101 ∷ 110 ∷ 100 ∷ []))) → t ≡ line_text (standard_line (Vpa n))
unfolding encode_with
vpa_spelled n t t1 t2 none z e f g =
    from_none t t1 t2 none ((118 ∷ 112 ∷ 97 ∷ 32 ∷ []) ++ (decimal n ++ (32 ∷ []))) ((49 ∷ 98 ∷ 53 ∷ 98 ∷ []) ++ (encode_lower (decimal (n + 1)) ++ (54 ∷ 52 ∷ []))) ((32 ∷ 114 ∷ 111 ∷ 119 ∷ 61 ∷ []) ++ (decimal n ++ (32 ∷ 110 ∷ 111 ∷ 112 ∷ 101 ∷ 110 ∷ 100 ∷ []))) z e f g
    ∙ ap (λ (l : List ℕ). ((118 ∷ 112 ∷ 97 ∷ 32 ∷ []) ++ (decimal n ++ (32 ∷ []))) ++ (l ++ ((32 ∷ 114 ∷ 111 ∷ 119 ∷ 61 ∷ []) ++ (decimal n ++ (32 ∷ 110 ∷ 111 ∷ 112 ∷ 101 ∷ 110 ∷ 100 ∷ []))))) (sym (number_coded (n + 1) 100 (54 ∷ 52 ∷ []) refl))
    ∙ sym (whole_vpa n)

whole_cub : (n : ℕ) → line_text (standard_line (Cub n)) ≡ ((99 ∷ 117 ∷ 98 ∷ 32 ∷ []) ++ (decimal n ++ (32 ∷ []))) ++ (encode_lower (with_number n 68) ++ ((32 ∷ 99 ∷ 111 ∷ 108 ∷ 45 ∷ []) ++ (decimal n ++ (32 ∷ 110 ∷ 111 ∷ 112 ∷ 101 ∷ 110 ∷ 100 ∷ []))))
unfolding name_in_order spelled
whole_cub n = refl

pub cub_spelled : (n : ℕ) (t t1 t2 none : List ℕ) → none ≡ [] → t1 ≡ none ++ ((99 ∷ 117 ∷ 98 ∷ 32 ∷ []) ++ (decimal n ++ (32 ∷ []))) → t2 ≡ t1 ++ ((49 ∷ 98 ∷ 53 ∷ 98 ∷ []) ++ (encode_lower (decimal n) ++ (52 ∷ 52 ∷ []))) → t ≡ t2 ++ ((32 ∷ 99 ∷ 111 ∷ 108 ∷ 45 ∷ []) ++ (decimal n ++ (32 ∷ 110 ∷ 111 ∷ 112 ∷ 101 ∷ 110 ∷ 100 ∷ []))) → t ≡ line_text (standard_line (Cub n))
unfolding encode_with
cub_spelled n t t1 t2 none z e f g =
    from_none t t1 t2 none ((99 ∷ 117 ∷ 98 ∷ 32 ∷ []) ++ (decimal n ++ (32 ∷ []))) ((49 ∷ 98 ∷ 53 ∷ 98 ∷ []) ++ (encode_lower (decimal n) ++ (52 ∷ 52 ∷ []))) ((32 ∷ 99 ∷ 111 ∷ 108 ∷ 45 ∷ []) ++ (decimal n ++ (32 ∷ 110 ∷ 111 ∷ 112 ∷ 101 ∷ 110 ∷ 100 ∷ []))) z e f g
    ∙ ap (λ (l : List ℕ). ((99 ∷ 117 ∷ 98 ∷ 32 ∷ []) ++ (decimal n ++ (32 ∷ []))) ++ (l ++ ((32 ∷ 99 ∷ 111 ∷ 108 ∷ 45 ∷ []) ++ (decimal n ++ (32 ∷ 110 ∷ 111 ∷ 112 ∷ 101 ∷ 110 ∷ 100 ∷ []))))) (sym (number_coded n 68 (52 ∷ 52 ∷ []) refl))
    ∙ sym (whole_cub n)

whole_cuf : (n : ℕ) → line_text (standard_line (Cuf n)) ≡ ((99 ∷ 117 ∷ 102 ∷ 32 ∷ []) ++ (decimal n ++ (32 ∷ []))) ++ (encode_lower (with_number n 67) ++ ((32 ∷ 99 ∷ 111 ∷ 108 ∷ 43 ∷ []) ++ (decimal n ++ (32 ∷ 110 ∷ 111 ∷ 112 ∷ 101 ∷ 110 ∷ 100 ∷ []))))
unfolding name_in_order spelled
whole_cuf n = refl

pub cuf_spelled : (n : ℕ) (t t1 t2 none : List ℕ) → none ≡ [] → t1 ≡ none ++ ((99 ∷ 117 ∷ 102 ∷ 32 ∷ []) ++ (decimal n ++ (32 ∷ []))) → t2 ≡ t1 ++ ((49 ∷ 98 ∷ 53 ∷ 98 ∷ []) ++ (encode_lower (decimal n) ++ (52 ∷ 51 ∷ []))) → t ≡ t2 ++ ((32 ∷ 99 ∷ 111 ∷ 108 ∷ 43 ∷ []) ++ (decimal n ++ (32 ∷ 110 ∷ 111 ∷ 112 ∷ 101 ∷ 110 ∷ 100 ∷ []))) → t ≡ line_text (standard_line (Cuf n))
unfolding encode_with
cuf_spelled n t t1 t2 none z e f g =
    from_none t t1 t2 none ((99 ∷ 117 ∷ 102 ∷ 32 ∷ []) ++ (decimal n ++ (32 ∷ []))) ((49 ∷ 98 ∷ 53 ∷ 98 ∷ []) ++ (encode_lower (decimal n) ++ (52 ∷ 51 ∷ []))) ((32 ∷ 99 ∷ 111 ∷ 108 ∷ 43 ∷ []) ++ (decimal n ++ (32 ∷ 110 ∷ 111 ∷ 112 ∷ 101 ∷ 110 ∷ 100 ∷ []))) z e f g
    ∙ ap (λ (l : List ℕ). ((99 ∷ 117 ∷ 102 ∷ 32 ∷ []) ++ (decimal n ++ (32 ∷ []))) ++ (l ++ ((32 ∷ 99 ∷ 111 ∷ 108 ∷ 43 ∷ []) ++ (decimal n ++ (32 ∷ 110 ∷ 111 ∷ 112 ∷ 101 ∷ 110 ∷ 100 ∷ []))))) (sym (number_coded n 67 (52 ∷ 51 ∷ []) refl))
    ∙ sym (whole_cuf n)

whole_cuu : (n : ℕ) → line_text (standard_line (Cuu n)) ≡ ((99 ∷ 117 ∷ 117 ∷ 32 ∷ []) ++ (decimal n ++ (32 ∷ []))) ++ (encode_lower (with_number n 65) ++ ((32 ∷ 114 ∷ 111 ∷ 119 ∷ 45 ∷ []) ++ (decimal n ++ (32 ∷ 110 ∷ 111 ∷ 112 ∷ 101 ∷ 110 ∷ 100 ∷ []))))
unfolding name_in_order spelled
whole_cuu n = refl

pub cuu_spelled : (n : ℕ) (t t1 t2 none : List ℕ) → none ≡ [] → t1 ≡ none ++ ((99 ∷ 117 ∷ 117 ∷ 32 ∷ []) ++ (decimal n ++ (32 ∷ []))) → t2 ≡ t1 ++ ((49 ∷ 98 ∷ 53 ∷ 98 ∷ []) ++ (encode_lower (decimal n) ++ (52 ∷ 49 ∷ []))) → t ≡ t2 ++ ((32 ∷ 114 ∷ 111 ∷ 119 ∷ 45 ∷ []) ++ (decimal n ++ (32 ∷ 110 ∷ 111 ∷ 112 ∷ 101 ∷ 110 ∷ 100 ∷ []))) → t ≡ line_text (standard_line (Cuu n))
unfolding encode_with
cuu_spelled n t t1 t2 none z e f g =
    from_none t t1 t2 none ((99 ∷ 117 ∷ 117 ∷ 32 ∷ []) ++ (decimal n ++ (32 ∷ []))) ((49 ∷ 98 ∷ 53 ∷ 98 ∷ []) ++ (encode_lower (decimal n) ++ (52 ∷ 49 ∷ []))) ((32 ∷ 114 ∷ 111 ∷ 119 ∷ 45 ∷ []) ++ (decimal n ++ (32 ∷ 110 ∷ 111 ∷ 112 ∷ 101 ∷ 110 ∷ 100 ∷ []))) z e f g
    ∙ ap (λ (l : List ℕ). ((99 ∷ 117 ∷ 117 ∷ 32 ∷ []) ++ (decimal n ++ (32 ∷ []))) ++ (l ++ ((32 ∷ 114 ∷ 111 ∷ 119 ∷ 45 ∷ []) ++ (decimal n ++ (32 ∷ 110 ∷ 111 ∷ 112 ∷ 101 ∷ 110 ∷ 100 ∷ []))))) (sym (number_coded n 65 (52 ∷ 49 ∷ []) refl))
    ∙ sym (whole_cuu n)

whole_cud : (n : ℕ) → line_text (standard_line (Cud n)) ≡ ((99 ∷ 117 ∷ 100 ∷ 32 ∷ []) ++ (decimal n ++ (32 ∷ []))) ++ (encode_lower (with_number n 66) ++ ((32 ∷ 114 ∷ 111 ∷ 119 ∷ 43 ∷ []) ++ (decimal n ++ (32 ∷ 110 ∷ 111 ∷ 112 ∷ 101 ∷ 110 ∷ 100 ∷ []))))
unfolding name_in_order spelled
whole_cud n = refl

pub cud_spelled : (n : ℕ) (t t1 t2 none : List ℕ) → none ≡ [] → t1 ≡ none ++ ((99 ∷ 117 ∷ 100 ∷ 32 ∷ []) ++ (decimal n ++ (32 ∷ []))) → t2 ≡ t1 ++ ((49 ∷ 98 ∷ 53 ∷ 98 ∷ []) ++ (encode_lower (decimal n) ++ (52 ∷ 50 ∷ []))) → t ≡ t2 ++ ((32 ∷ 114 ∷ 111 ∷ 119 ∷ 43 ∷ []) ++ (decimal n ++ (32 ∷ 110 ∷ 111 ∷ 112 ∷ 101 ∷ 110 ∷ 100 ∷ []))) → t ≡ line_text (standard_line (Cud n))
unfolding encode_with
cud_spelled n t t1 t2 none z e f g =
    from_none t t1 t2 none ((99 ∷ 117 ∷ 100 ∷ 32 ∷ []) ++ (decimal n ++ (32 ∷ []))) ((49 ∷ 98 ∷ 53 ∷ 98 ∷ []) ++ (encode_lower (decimal n) ++ (52 ∷ 50 ∷ []))) ((32 ∷ 114 ∷ 111 ∷ 119 ∷ 43 ∷ []) ++ (decimal n ++ (32 ∷ 110 ∷ 111 ∷ 112 ∷ 101 ∷ 110 ∷ 100 ∷ []))) z e f g
    ∙ ap (λ (l : List ℕ). ((99 ∷ 117 ∷ 100 ∷ 32 ∷ []) ++ (decimal n ++ (32 ∷ []))) ++ (l ++ ((32 ∷ 114 ∷ 111 ∷ 119 ∷ 43 ∷ []) ++ (decimal n ++ (32 ∷ 110 ∷ 111 ∷ 112 ∷ 101 ∷ 110 ∷ 100 ∷ []))))) (sym (number_coded n 66 (52 ∷ 50 ∷ []) refl))
    ∙ sym (whole_cud n)

whole_ech : (n : ℕ) → line_text (standard_line (Ech n)) ≡ ((101 ∷ 99 ∷ 104 ∷ 32 ∷ []) ++ (decimal n ++ (32 ∷ []))) ++ (encode_lower (with_number n 88) ++ ((32 ∷ 110 ∷ 101 ∷ 120 ∷ 116 ∷ 61 ∷ []) ++ decimal n))
unfolding name_in_order spelled
whole_ech n = refl

pub ech_spelled : (n : ℕ) (t t1 t2 none : List ℕ) → none ≡ [] → t1 ≡ none ++ ((101 ∷ 99 ∷ 104 ∷ 32 ∷ []) ++ (decimal n ++ (32 ∷ []))) → t2 ≡ t1 ++ ((49 ∷ 98 ∷ 53 ∷ 98 ∷ []) ++ (encode_lower (decimal n) ++ (53 ∷ 56 ∷ []))) → t ≡ t2 ++ ((32 ∷ 110 ∷ 101 ∷ 120 ∷ 116 ∷ 61 ∷ []) ++ (decimal n ++ [])) → t ≡ line_text (standard_line (Ech n))
unfolding encode_with
ech_spelled n t t1 t2 none z e f g =
    from_none t t1 t2 none ((101 ∷ 99 ∷ 104 ∷ 32 ∷ []) ++ (decimal n ++ (32 ∷ []))) ((49 ∷ 98 ∷ 53 ∷ 98 ∷ []) ++ (encode_lower (decimal n) ++ (53 ∷ 56 ∷ []))) ((32 ∷ 110 ∷ 101 ∷ 120 ∷ 116 ∷ 61 ∷ []) ++ (decimal n ++ [])) z e f g
    ∙ ap (λ (l : List ℕ). ((101 ∷ 99 ∷ 104 ∷ 32 ∷ []) ++ (decimal n ++ (32 ∷ []))) ++ (((49 ∷ 98 ∷ 53 ∷ 98 ∷ []) ++ (encode_lower (decimal n) ++ (53 ∷ 56 ∷ []))) ++ ((32 ∷ 110 ∷ 101 ∷ 120 ∷ 116 ∷ 61 ∷ []) ++ l))) (append-nil (decimal n))
    ∙ ap (λ (l : List ℕ). ((101 ∷ 99 ∷ 104 ∷ 32 ∷ []) ++ (decimal n ++ (32 ∷ []))) ++ (l ++ ((32 ∷ 110 ∷ 101 ∷ 120 ∷ 116 ∷ 61 ∷ []) ++ decimal n))) (sym (number_coded n 88 (53 ∷ 56 ∷ []) refl))
    ∙ sym (whole_ech n)

-- the text of the line about a row that is this one
pub standard_text : (row same : Row) (text : List ℕ) → row ≡ same → text ≡ line_text (standard_line same) → text ≡ line_text (standard_line row)
standard_text row same text e f = subst (λ (r : Row). text ≡ line_text (standard_line r)) (sym e) f

-- the line that a writer is given, if it is that of a standard string
pub written_line : (row : Row) (bytes : List ℕ) (effect : Effect) (text : List ℕ) → IsStandardLine row text → IsWholeForm row bytes effect → text ≡ line_text (record { row = row; bytes = bytes; effect = effect })
written_line row bytes effect text m w =
    m.text_is
    ∙ ap (λ (b : List ℕ). line_text (record { row = row; bytes = b; effect = standard_effect row })) (sym w.form.bytes_are)
    ∙ ap (λ (e : Effect). line_text (record { row = row; bytes = bytes; effect = e })) (sym w.effect_is)

-- ---- the line can be written, and a text has no other

is_bytes : (xs : List ℕ) → AllByRecursion (λ b. b < 256) xs → IsBytes xs
is_bytes [] h i = omega arith
is_bytes (x ∷ xs) h zero = h.0
is_bytes (x ∷ xs) h (suc i) = is_bytes xs h.1 i

number_bytes : (n : ℕ) → n ≤ 501 → AllByRecursion (λ b. b < 256) (decimal n)
number_bytes n h = all_weaker IsParameter (λ b. b < 256) (λ b p. let q = p.1 in omega (arith, q)) (decimal n) (spells n (omega (arith, h, lit< {m = 502} {n = 2 ^ 64} tt))).parameters

one_bytes : (n last : ℕ) → n ≤ 501 → last < 256 → AllByRecursion (λ b. b < 256) (with_number n last)
one_bytes n last h l = (omega arith, (omega arith, all_append (λ b. b < 256) (decimal n) (last ∷ []) (number_bytes n h) (l, tt)))

two_bytes : (m n last : ℕ) → m ≤ 501 → n ≤ 501 → last < 256 → AllByRecursion (λ b. b < 256) (with_numbers m n last)
two_bytes m n last h k l = (
  omega arith,
  (
    omega arith,
    all_append (λ b. b < 256) (decimal m) (59 ∷ (decimal n ++ last ∷ [])) (number_bytes m h)
        (omega arith, all_append (λ b. b < 256) (decimal n) (last ∷ []) (number_bytes n k) (l, tt)),
  ),
)

abbrev CanBeWritten : Row → Type 0
CanBeWritten row = IsLine (standard_line row)

can_be_written : (row : Row) → HasForm row → CanBeWritten row
can_be_written row (ToPlace line column e h k) = subst (λ (r : Row). CanBeWritten r) (sym e) (record {
  numbers = (omega (arith, h), (omega (arith, k), tt));
  bytes = is_bytes (with_numbers (line + 1) (column + 1) 72) (two_bytes (line + 1) (column + 1) 72 (omega (arith, h)) (omega (arith, k)) (omega arith));
  effect = record { row = omega (arith, h); col = omega (arith, k); erasure = tt; margins = tt };
})
can_be_written row (Bounding top bottom e h k) = subst (λ (r : Row). CanBeWritten r) (sym e) (record {
  numbers = (omega (arith, h), (omega (arith, k), tt));
  bytes = is_bytes (with_numbers (top + 1) (bottom + 1) 114) (two_bytes (top + 1) (bottom + 1) 114 (omega (arith, h)) (omega (arith, k)) (omega arith));
  effect = record { row = omega arith; col = omega arith; erasure = tt; margins = (omega (arith, h), omega (arith, k)) };
})
can_be_written row (ToColumn n e h) = subst (λ (r : Row). CanBeWritten r) (sym e) (record {
  numbers = (omega (arith, h), tt);
  bytes = is_bytes (with_number (n + 1) 71) (one_bytes (n + 1) 71 (omega (arith, h)) (omega arith));
  effect = record { row = tt; col = omega (arith, h); erasure = tt; margins = tt };
})
can_be_written row (ToLine n e h) = subst (λ (r : Row). CanBeWritten r) (sym e) (record {
  numbers = (omega (arith, h), tt);
  bytes = is_bytes (with_number (n + 1) 100) (one_bytes (n + 1) 100 (omega (arith, h)) (omega arith));
  effect = record { row = omega (arith, h); col = tt; erasure = tt; margins = tt };
})
can_be_written row (Left n e g h) = subst (λ (r : Row). CanBeWritten r) (sym e) (record {
  numbers = (omega (arith, h), tt);
  bytes = is_bytes (with_number n 68) (one_bytes n 68 (omega (arith, h)) (omega arith));
  effect = record { row = tt; col = (g, omega (arith, h)); erasure = tt; margins = tt };
})
can_be_written row (Right n e g h) = subst (λ (r : Row). CanBeWritten r) (sym e) (record {
  numbers = (omega (arith, h), tt);
  bytes = is_bytes (with_number n 67) (one_bytes n 67 (omega (arith, h)) (omega arith));
  effect = record { row = tt; col = (g, omega (arith, h)); erasure = tt; margins = tt };
})
can_be_written row (Upward n e g h) = subst (λ (r : Row). CanBeWritten r) (sym e) (record {
  numbers = (omega (arith, h), tt);
  bytes = is_bytes (with_number n 65) (one_bytes n 65 (omega (arith, h)) (omega arith));
  effect = record { row = (g, omega (arith, h)); col = tt; erasure = tt; margins = tt };
})
can_be_written row (Downward n e g h) = subst (λ (r : Row). CanBeWritten r) (sym e) (record {
  numbers = (omega (arith, h), tt);
  bytes = is_bytes (with_number n 66) (one_bytes n 66 (omega (arith, h)) (omega arith));
  effect = record { row = (g, omega (arith, h)); col = tt; erasure = tt; margins = tt };
})
can_be_written row (Erasing n e g h) = subst (λ (r : Row). CanBeWritten r) (sym e) (record {
  numbers = (omega (arith, h), tt);
  bytes = is_bytes (with_number n 88) (one_bytes n 88 (omega (arith, h)) (omega arith));
  effect = record { row = tt; col = tt; erasure = (g, omega (arith, h)); margins = tt };
})

pub is_text_of : (row : Row) (text : List ℕ) (line : RowLine) → IsStandardLine row text → line ≡ standard_line row → IsTextOf text line
is_text_of row text line m e = subst (λ (l : RowLine). IsTextOf text l) (sym e) (record { line_is = can_be_written row m.has; spelled = sym m.text_is })

pub no_other : (row : Row) (text : List ℕ) (line other : RowLine) → IsStandardLine row text → line ≡ standard_line row → IsTextOf text other → Some line ≡ Some other
no_other row text line other m e o = ap (λ (l : RowLine). Some l) (one_line text line other (is_text_of row text line m e) o)

-- ---- the length of the line

three : (n : ℕ) → n ≤ 501 → length (decimal n) ≤ 3
three n h = length-decimal-le 3 n (omega arith) (omega (arith, h)) (omega (arith, h, lit< {m = 502} {n = 2 ^ 64} tt))

-- the line of a sequence with one number
one_short : (text name middle behind : List ℕ) (n m last : ℕ) → n ≤ 500 → m ≤ 501 → length name ≤ 4 → length middle ≤ 6 → length behind ≤ 10 → text ≡ (name ++ (decimal n ++ (32 ∷ []))) ++ (encode_lower (with_number m last) ++ (middle ++ behind)) → length text ≤ 64
one_short text name middle behind n m last hn hm a b d e =
    let whole : length text ≡ length ((name ++ (decimal n ++ (32 ∷ []))) ++ (encode_lower (with_number m last) ++ (middle ++ behind))) = ap (λ (l : List ℕ). length l) e in
    let p = length-append (name ++ (decimal n ++ (32 ∷ []))) (encode_lower (with_number m last) ++ (middle ++ behind)) in
    let q = length-append name (decimal n ++ (32 ∷ [])) in
    let r = length-append (decimal n) (32 ∷ []) in
    let s = length-append (encode_lower (with_number m last)) (middle ++ behind) in
    let t = length-append middle behind in
    let u = length-encode_with lower_digits (with_number m last) in
    let v = length-append (decimal m) (last ∷ []) in
    omega (arith, whole, p, q, r, s, t, u, v, a, b, d, three n (omega (arith, hn)), three m hm)

-- the line of a sequence with two numbers
two_short : (text name middle behind : List ℕ) (k n last : ℕ) → k ≤ 500 → n ≤ 500 → length name ≤ 4 → length middle + length behind ≤ 32 → text ≡ (name ++ (decimal k ++ ((32 ∷ []) ++ (decimal n ++ (32 ∷ []))))) ++ (encode_lower (with_numbers (k + 1) (n + 1) last) ++ (middle ++ behind)) → length text ≤ 64
two_short text name middle behind k n last hk hn a b e =
    let whole : length text ≡ length ((name ++ (decimal k ++ ((32 ∷ []) ++ (decimal n ++ (32 ∷ []))))) ++ (encode_lower (with_numbers (k + 1) (n + 1) last) ++ (middle ++ behind))) = ap (λ (l : List ℕ). length l) e in
    let p = length-append (name ++ (decimal k ++ ((32 ∷ []) ++ (decimal n ++ (32 ∷ []))))) (encode_lower (with_numbers (k + 1) (n + 1) last) ++ (middle ++ behind)) in
    let q = length-append name (decimal k ++ ((32 ∷ []) ++ (decimal n ++ (32 ∷ [])))) in
    let r = length-append (decimal k) ((32 ∷ []) ++ (decimal n ++ (32 ∷ []))) in
    let w = length-append (decimal n) (32 ∷ []) in
    let s = length-append (encode_lower (with_numbers (k + 1) (n + 1) last)) (middle ++ behind) in
    let t = length-append middle behind in
    let u = length-encode_with lower_digits (with_numbers (k + 1) (n + 1) last) in
    let v = length-append (decimal (k + 1)) (59 ∷ (decimal (n + 1) ++ last ∷ [])) in
    let x = length-append (decimal (n + 1)) (last ∷ []) in
    omega (arith, whole, p, q, r, w, s, t, u, v, x, a, b, three k (omega (arith, hk)), three n (omega (arith, hn)), three (k + 1) (omega (arith, hk)), three (n + 1) (omega (arith, hn)))

-- a number and a word behind it
behind_short : (n : ℕ) (word : List ℕ) → n ≤ 500 → length word ≤ 7 → length (decimal n ++ word) ≤ 10
behind_short n word h a = let l = length-append (decimal n) word in omega (arith, l, a, three n (omega (arith, h)))

abbrev IsShortLine : Row → Type 0
IsShortLine row = length (line_text (standard_line row)) ≤ 64

-- no line about a row with a standard string is longer than this
pub line_short : (row : Row) → HasForm row → IsShortLine row
line_short row (ToPlace k n e h g) = subst (λ (r : Row). IsShortLine r) (sym e)
    (two_short _ (99 ∷ 117 ∷ 112 ∷ 32 ∷ []) (32 ∷ 114 ∷ 111 ∷ 119 ∷ 61 ∷ []) (decimal k ++ ((32 ∷ 99 ∷ 111 ∷ 108 ∷ 61 ∷ []) ++ (decimal n ++ (32 ∷ 110 ∷ 111 ∷ 112 ∷ 101 ∷ 110 ∷ 100 ∷ [])))) k n 72 h g (omega arith)
    (omega (arith, length-append (decimal k) ((32 ∷ 99 ∷ 111 ∷ 108 ∷ 61 ∷ []) ++ (decimal n ++ (32 ∷ 110 ∷ 111 ∷ 112 ∷ 101 ∷ 110 ∷ 100 ∷ []))), length-append (decimal n) (32 ∷ 110 ∷ 111 ∷ 112 ∷ 101 ∷ 110 ∷ 100 ∷ []), three k (omega (arith, h)), three n (omega (arith, g))))
    (whole_cup k n))
line_short row (Bounding k n e h g) = subst (λ (r : Row). IsShortLine r) (sym e)
    (two_short _ (99 ∷ 115 ∷ 114 ∷ 32 ∷ []) (32 ∷ 114 ∷ 111 ∷ 119 ∷ 61 ∷ 48 ∷ 32 ∷ 99 ∷ 111 ∷ 108 ∷ 61 ∷ 48 ∷ 32 ∷ 110 ∷ 111 ∷ 112 ∷ 101 ∷ 110 ∷ 100 ∷ 32 ∷ 114 ∷ 111 ∷ 119 ∷ 115 ∷ 58 ∷ []) (decimal k ++ ((44 ∷ []) ++ (decimal n))) k n 114 h g (omega arith)
    (omega (arith, length-append (decimal k) ((44 ∷ []) ++ (decimal n)), three k (omega (arith, h)), three n (omega (arith, g))))
    (whole_csr k n))
line_short row (ToColumn n e h) = subst (λ (r : Row). IsShortLine r) (sym e) (one_short _ (104 ∷ 112 ∷ 97 ∷ 32 ∷ []) (32 ∷ 99 ∷ 111 ∷ 108 ∷ 61 ∷ []) (decimal n ++ (32 ∷ 110 ∷ 111 ∷ 112 ∷ 101 ∷ 110 ∷ 100 ∷ [])) n (n + 1) 71 h (omega (arith, h)) (omega arith) (omega arith) (behind_short n _ h (omega arith)) (whole_hpa n))
line_short row (ToLine n e h) = subst (λ (r : Row). IsShortLine r) (sym e) (one_short _ (118 ∷ 112 ∷ 97 ∷ 32 ∷ []) (32 ∷ 114 ∷ 111 ∷ 119 ∷ 61 ∷ []) (decimal n ++ (32 ∷ 110 ∷ 111 ∷ 112 ∷ 101 ∷ 110 ∷ 100 ∷ [])) n (n + 1) 100 h (omega (arith, h)) (omega arith) (omega arith) (behind_short n _ h (omega arith)) (whole_vpa n))
line_short row (Left n e g h) = subst (λ (r : Row). IsShortLine r) (sym e) (one_short _ (99 ∷ 117 ∷ 98 ∷ 32 ∷ []) (32 ∷ 99 ∷ 111 ∷ 108 ∷ 45 ∷ []) (decimal n ++ (32 ∷ 110 ∷ 111 ∷ 112 ∷ 101 ∷ 110 ∷ 100 ∷ [])) n n 68 h (omega (arith, h)) (omega arith) (omega arith) (behind_short n _ h (omega arith)) (whole_cub n))
line_short row (Right n e g h) = subst (λ (r : Row). IsShortLine r) (sym e) (one_short _ (99 ∷ 117 ∷ 102 ∷ 32 ∷ []) (32 ∷ 99 ∷ 111 ∷ 108 ∷ 43 ∷ []) (decimal n ++ (32 ∷ 110 ∷ 111 ∷ 112 ∷ 101 ∷ 110 ∷ 100 ∷ [])) n n 67 h (omega (arith, h)) (omega arith) (omega arith) (behind_short n _ h (omega arith)) (whole_cuf n))
line_short row (Upward n e g h) = subst (λ (r : Row). IsShortLine r) (sym e) (one_short _ (99 ∷ 117 ∷ 117 ∷ 32 ∷ []) (32 ∷ 114 ∷ 111 ∷ 119 ∷ 45 ∷ []) (decimal n ++ (32 ∷ 110 ∷ 111 ∷ 112 ∷ 101 ∷ 110 ∷ 100 ∷ [])) n n 65 h (omega (arith, h)) (omega arith) (omega arith) (behind_short n _ h (omega arith)) (whole_cuu n))
line_short row (Downward n e g h) = subst (λ (r : Row). IsShortLine r) (sym e) (one_short _ (99 ∷ 117 ∷ 100 ∷ 32 ∷ []) (32 ∷ 114 ∷ 111 ∷ 119 ∷ 43 ∷ []) (decimal n ++ (32 ∷ 110 ∷ 111 ∷ 112 ∷ 101 ∷ 110 ∷ 100 ∷ [])) n n 66 h (omega (arith, h)) (omega arith) (omega arith) (behind_short n _ h (omega arith)) (whole_cud n))
line_short row (Erasing n e g h) = subst (λ (r : Row). IsShortLine r) (sym e) (one_short _ (101 ∷ 99 ∷ 104 ∷ 32 ∷ []) (32 ∷ 110 ∷ 101 ∷ 120 ∷ 116 ∷ 61 ∷ []) (decimal n) n n 88 h (omega (arith, h)) (omega arith) (omega arith) (let l = three n (omega (arith, h)) in omega (arith, l)) (whole_ech n))
