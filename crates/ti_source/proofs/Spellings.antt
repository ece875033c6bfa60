-- Reading a printed string.
use Rattle.std.proofs.Common.{◌≡◌, ℕ, ◌+◌, ◌*◌, ◌-◌, ◌/◌, ◌%◌, ◌<◌, ◌≤◌, Bool, true, false, not, ◌&&◌, ◌||◌, List, [], ◌∷◌, ◌++◌, length, Option, Some, None, refl, sym, ap, ◌∙◌, subst, arith, append_assoc}
use Rattle.std.specs.Prelude.{if◌then◌else◌, ◌==◌, nat_le, option_map}
use Rattle.std.specs.List.{list_all, AllByRecursion}
use Rattle.std.proofs.Math.Seq.{drop-append_seam}
use Rattle.std.proofs.lemmas.Bool.{and_parts, or_parts, eqb-true, leb-true}
use Rattle.std.proofs.lemmas.Bool.Decides.{nat_tests}
use Rattle.std.proofs.lemmas.List.Folds.{list_all-append}
use Rattle.ti_caps.specs.declared.fits.Opener.TheVariants.{Nothing, Backslash, Caret}
use Rattle.ti_caps.specs.Fits.{opener_after}
use Rattle.ti_source.specs.Escapes.{stored, plain, letter_value, letter_from, letter_piece, third_at, second_at, escape_at, control_at, piece_at, is_octal, put_first, decoding_of}
use Rattle.ti_source.specs.Layout.{Cut, onto_cut, cut_from}
use Rattle.ti_source.specs.Prints.{octal, spelled_with, spelled, string_text}
use Rattle.ti_source.proofs.Decodings.{goes_on, none_left}

pub choose : {A : Type 0} (P : A → Type 0) (t : Bool) (x y : A) → (t ≡ true → P x) → (t ≡ false → P y) → P (if t then x else y)
choose P true x y p q = p refl
choose P false x y p q = q refl

pub both_true : (a b : Bool) → a ≡ true → b ≡ true → (a && b) ≡ true
both_true a b e f = ap (λ t. t && b) e ∙ f

-- neither a line feed nor a carriage return
abbrev pub is_inline : ℕ → Bool
is_inline b = not (b == 10) && not (b == 13)

-- bytes prepended to the first field
abbrev pub onto_all : List ℕ → Cut → Cut
onto_all [] cut = cut
onto_all (b ∷ rest) cut = onto_cut b (onto_all rest cut)

-- no comma among these bytes ends a field, and no backslash or caret is left open after them
abbrev pub Passes : List ℕ → Type 0
Passes xs = (rest : List ℕ) → cut_from Nothing (xs ++ rest) ≡ onto_all xs (cut_from Nothing rest)

onto_append : (xs ys : List ℕ) (cut : Cut) → onto_all (xs ++ ys) cut ≡ onto_all xs (onto_all ys cut)
onto_append [] ys cut = refl
onto_append (b ∷ xs) ys cut = ap (onto_cut b) (onto_append xs ys cut)

pub passes_both : (xs ys : List ℕ) → Passes xs → Passes ys → Passes (xs ++ ys)
passes_both xs ys p q rest =
    ap (cut_from Nothing) (append_assoc xs ys rest) ∙ (p (ys ++ rest) ∙ (ap (onto_all xs) (q rest) ∙ sym (onto_append xs ys (cut_from Nothing rest))))

-- a byte without a meaning for the cut
unfoldable pub is_mute : ℕ → Bool
is_mute b = not (b == 44) && (not (b == 92) && not (b == 94))

not_true : (t : Bool) → not t ≡ true → t ≡ false
not_true true e = cc
not_true false e = refl

nothing_open : (b : ℕ) → (b == 92) ≡ false → (b == 94) ≡ false → opener_after Nothing b ≡ Nothing
nothing_open b e f = ap (λ t. if t then Backslash else (if b == 94 then Caret else Nothing)) e ∙ ap (λ t. if t then Caret else Nothing) f

pub mute_passes : (b : ℕ) → is_mute b ≡ true → Passes (b ∷ [])
unfolding is_mute
mute_passes b e rest =
    let comma = and_parts (not (b == 44)) (not (b == 92) && not (b == 94)) e in
    let open_two = and_parts (not (b == 92)) (not (b == 94)) comma.1 in
    ap (λ t. if t then record { ended = [] ∷ (cut_from Nothing rest).ended; last = (cut_from Nothing rest).last } else onto_cut b (cut_from (opener_after Nothing b) rest)) (not_true (b == 44) comma.0)
    ∙ ap (λ o. onto_cut b (cut_from o rest)) (nothing_open b (not_true (b == 92) open_two.0) (not_true (b == 94) open_two.1))

-- a printed byte, as the reader sees it
pub record IsSpelling (b : ℕ) (xs : List ℕ) : Type 0 where
  pub inside : list_all is_inline xs ≡ true
  pub passes : Passes xs
  pub piece : (rest : List ℕ) → piece_at (xs ++ rest) ≡ Some (record { byte = b; used = length xs; odd = false })

pair_spells : (b letter : ℕ) → is_inline letter ≡ true → is_octal letter ≡ false → letter_value letter ≡ Some b → stored b ≡ b → IsSpelling b (92 ∷ letter ∷ [])
unfolding piece_at escape_at letter_piece
pair_spells b letter inline octal value store = record {
  inside = ap (λ t. t && true) inline;
  passes = λ rest. refl;
  piece = λ rest.
      ap (λ t. if t then Some (second_at (letter - 48) rest) else Some (letter_piece letter)) octal
      ∙ (ap (λ v. Some (letter_from letter v)) value ∙ ap (λ x. Some (record { byte = x; used = 2; odd = false })) store);
}

not_zero : (b : ℕ) → 0 < b → stored b ≡ b
not_zero b low = let e : (b == 0) ≡ false = grind (arith, nat_tests) in ap (λ t. if t then 128 else b) e

mute_inline : (b : ℕ) → 33 ≤ b → is_inline b ≡ true
mute_inline b low = grind (arith, nat_tests)

plain_spells : (b : ℕ) → 33 ≤ b → (b == 44) ≡ false → (b == 92) ≡ false → (b == 94) ≡ false → IsSpelling b (b ∷ [])
unfolding piece_at is_mute
plain_spells b low comma back caret = record {
  inside = ap (λ t. t && true) (mute_inline b low);
  passes = mute_passes b (both_true (not (b == 44)) (not (b == 92) && not (b == 94)) (ap not comma) (both_true (not (b == 92)) (not (b == 94)) (ap not back) (ap not caret)));
  piece = λ rest.
      ap (λ t. if t then escape_at rest else (if b == 94 then control_at rest else Some (plain b 1))) back
      ∙ (ap (λ t. if t then control_at rest else Some (plain b 1)) caret ∙ ap (λ x. Some (record { byte = x; used = 1; odd = false })) (not_zero b (omega arith)));
}

octal_digit : (k : ℕ) → k < 8 → is_octal (48 + k) ≡ true
octal_digit k h = grind (arith, nat_tests)

octal_mute : (k : ℕ) → k < 8 → is_mute (48 + k) ≡ true
unfolding is_mute
octal_mute k h = grind (arith, nat_tests)

at_most : (n most : ℕ) → n ≤ most → nat_le n most ≡ true
at_most n most h = grind (arith, nat_tests)

third_reads : (value z b : ℕ) (rest : List ℕ) → z < 8 → value * 8 + z ≡ b → 0 < b → b < 256 → third_at value ((48 + z) ∷ rest) ≡ record { byte = b; used = 4; odd = false }
third_reads value z b rest h e low high =
    let back : value * 8 + (48 + z - 48) ≡ b = omega (arith, e) in
    let fits : value * 8 + (48 + z - 48) ≤ 255 = omega (arith, e) in
    ap (λ t. if t then plain (value * 8 + (48 + z - 48)) 4 else plain value 3) (both_true (is_octal (48 + z)) (nat_le (value * 8 + (48 + z - 48)) 255) (octal_digit z h) (at_most _ 255 fits))
    ∙ (ap (λ k. plain k 4) back ∙ ap (λ x. record { byte = x; used = 4; odd = false }) (not_zero b low))

second_reads : (value y z b : ℕ) (rest : List ℕ) → y < 8 → z < 8 → (value * 8 + y) * 8 + z ≡ b → 0 < b → b < 256 → second_at value ((48 + y) ∷ (48 + z) ∷ rest) ≡ record { byte = b; used = 4; odd = false }
second_reads value y z b rest hy hz e low high =
    let back : 48 + y - 48 ≡ y = omega arith in
    ap (λ t. if t then third_at (value * 8 + (48 + y - 48)) ((48 + z) ∷ rest) else plain value 2) (octal_digit y hy)
    ∙ (ap (λ k. third_at (value * 8 + k) ((48 + z) ∷ rest)) back ∙ third_reads (value * 8 + y) z b rest hz e low high)

octal_reads : (x y z b : ℕ) (rest : List ℕ) → x < 8 → y < 8 → z < 8 → (x * 8 + y) * 8 + z ≡ b → 0 < b → b < 256 → piece_at (92 ∷ (48 + x) ∷ (48 + y) ∷ (48 + z) ∷ rest) ≡ Some (record { byte = b; used = 4; odd = false })
unfolding piece_at escape_at
octal_reads x y z b rest hx hy hz e low high =
    let back : 48 + x - 48 ≡ x = omega arith in
    ap (λ t. if t then Some (second_at (48 + x - 48) ((48 + y) ∷ (48 + z) ∷ rest)) else Some (letter_piece (48 + x))) (octal_digit x hx)
    ∙ (ap (λ k. Some (second_at k ((48 + y) ∷ (48 + z) ∷ rest))) back ∙ ap Some (second_reads x y z b rest hy hz e low high))

octal_inline : (k : ℕ) → is_inline (48 + k) ≡ true
octal_inline k = grind (arith, nat_tests)

octal_spells : (b : ℕ) → 0 < b → b < 256 → IsSpelling b (octal b)
octal_spells b low high =
    let x : b / 64 < 8 = omega arith in
    let y : b / 8 % 8 < 8 = omega arith in
    let z : b % 8 < 8 = omega arith in
    let e : (b / 64 * 8 + b / 8 % 8) * 8 + b % 8 ≡ b = omega arith in
    record {
      inside =
          both_true (is_inline (48 + b / 64)) (is_inline (48 + b / 8 % 8) && (is_inline (48 + b % 8) && true)) (octal_inline (b / 64))
          (both_true (is_inline (48 + b / 8 % 8)) (is_inline (48 + b % 8) && true) (octal_inline (b / 8 % 8)) (ap (λ t. t && true) (octal_inline (b % 8))));
      passes =
          passes_both (92 ∷ (48 + b / 64) ∷ []) ((48 + b / 8 % 8) ∷ (48 + b % 8) ∷ []) (λ rest. refl)
          (passes_both ((48 + b / 8 % 8) ∷ []) ((48 + b % 8) ∷ []) (mute_passes (48 + b / 8 % 8) (octal_mute (b / 8 % 8) y)) (mute_passes (48 + b % 8) (octal_mute (b % 8) z)));
      piece = λ rest. octal_reads (b / 64) (b / 8 % 8) (b % 8) b rest x y z e low high;
    }

-- a byte with a letter of its own
own_letter : (b k letter : ℕ) (other : Option ℕ) → IsSpelling k (92 ∷ letter ∷ []) → ((b == k) ≡ false → IsSpelling b (spelled_with b other)) → IsSpelling b (spelled_with b (if b == k then Some letter else other))
own_letter b k letter other h next =
    choose (λ o. IsSpelling b (spelled_with b o)) (b == k) (Some letter) other (λ e. subst (λ x. IsSpelling x (92 ∷ letter ∷ [])) (sym (eqb-true b k e)) h) next

either_test : {P : Type 0} (s t : Bool) → (s || t) ≡ true → (s ≡ true → P) → (t ≡ true → P) → P
either_test true t e p q = p refl
either_test false t e p q = q e

mark_spells : (b : ℕ) → ((b == 44) || ((b == 92) || ((b == 94) || (b == 58)))) ≡ true → IsSpelling b (92 ∷ b ∷ [])
mark_spells b e =
    let at : (k : ℕ) → IsSpelling k (92 ∷ k ∷ []) → (b == k) ≡ true → IsSpelling b (92 ∷ b ∷ []) = λ k h f. subst (λ x. IsSpelling x (92 ∷ x ∷ [])) (sym (eqb-true b k f)) h in
    either_test (b == 44) ((b == 92) || ((b == 94) || (b == 58))) e (at 44 (pair_spells 44 44 refl refl refl refl))
    (λ f. either_test (b == 92) ((b == 94) || (b == 58)) f (at 92 (pair_spells 92 92 refl refl refl refl))
    (λ g. either_test (b == 94) (b == 58) g (at 94 (pair_spells 94 94 refl refl refl refl)) (at 58 (pair_spells 58 58 refl refl refl refl))))

bare_spells : (b : ℕ) → 0 < b → b < 256 → ((b == 44) || ((b == 92) || ((b == 94) || (b == 58)))) ≡ false → IsSpelling b (spelled_with b None)
bare_spells b low high e =
    let comma = or_parts (b == 44) ((b == 92) || ((b == 94) || (b == 58))) e in
    let back = or_parts (b == 92) ((b == 94) || (b == 58)) comma.1 in
    let caret = or_parts (b == 94) (b == 58) back.1 in
    choose (IsSpelling b) (nat_le 33 b && nat_le b 126) (b ∷ []) (octal b)
    (λ f. plain_spells b (leb-true 33 b (and_parts (nat_le 33 b) (nat_le b 126) f).0) comma.0 back.0 caret.0) (λ _. octal_spells b low high)

-- each printed byte is read as that byte, whatever follows it
pub spelled_spells : (b : ℕ) → 0 < b → b < 256 → IsSpelling b (spelled b)
unfolding spelled
spelled_spells b low high =
    own_letter b 27 69 _ (pair_spells 27 69 refl refl refl refl)
    (λ _. own_letter b 10 110 _ (pair_spells 10 110 refl refl refl refl)
    (λ _. own_letter b 13 114 _ (pair_spells 13 114 refl refl refl refl)
    (λ _. own_letter b 9 116 _ (pair_spells 9 116 refl refl refl refl)
    (λ _. own_letter b 8 98 _ (pair_spells 8 98 refl refl refl refl)
    (λ _. own_letter b 12 102 _ (pair_spells 12 102 refl refl refl refl)
    (λ _. own_letter b 32 115 _ (pair_spells 32 115 refl refl refl refl)
    (λ _. choose (λ o. IsSpelling b (spelled_with b o)) ((b == 44) || ((b == 92) || ((b == 94) || (b == 58)))) (Some b) None (mark_spells b) (bare_spells b low high))))))))

abbrev pub StringByte : ℕ → Type 0
StringByte b = (0 < b) × (b < 256)

-- a printed string, as the reader sees it
pub record IsStringText (bytes xs : List ℕ) : Type 0 where
  pub inside : list_all is_inline xs ≡ true
  pub passes : Passes xs
  pub decoding : decoding_of xs ≡ Some (record { bytes = bytes; odd = 0 })

one_more_byte : (b : ℕ) (bytes xs ys : List ℕ) → IsSpelling b xs → IsStringText bytes ys → IsStringText (b ∷ bytes) (xs ++ ys)
one_more_byte b bytes xs ys h t = record {
  inside = list_all-append is_inline xs ys ∙ both_true (list_all is_inline xs) (list_all is_inline ys) h.inside t.inside;
  passes = passes_both xs ys h.passes t.passes;
  decoding =
      goes_on (xs ++ ys) (record { byte = b; used = length xs; odd = false }) (h.piece ys)
      ∙ (ap (λ rest. option_map (put_first (record { byte = b; used = length xs; odd = false })) (decoding_of rest)) (drop-append_seam xs ys)
      ∙ ap (option_map (put_first (record { byte = b; used = length xs; odd = false }))) t.decoding);
}

pub string_reads : (bytes : List ℕ) → AllByRecursion StringByte bytes → IsStringText bytes (string_text bytes)
unfolding string_text
string_reads [] h = record { inside = refl; passes = λ rest. refl; decoding = none_left [] refl }
string_reads (b ∷ bytes) h = one_more_byte b bytes (spelled b) (string_text bytes) (spelled_spells b h.0.0 h.0.1) (string_reads bytes h.1)
