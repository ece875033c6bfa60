-- Decoding a value piece by piece.
use Rattle.std.proofs.Common.{◌≡◌, ℕ, ◌+◌, ◌*◌, ◌-◌, ◌<◌, ◌≤◌, ◌&&◌, subst, zero, suc, Bool, true, false, List, [], ◌∷◌, ◌++◌, length, drop, Option, Some, None, refl, sym, ap, ◌∙◌, arith, append_assoc, append-nil}
use Rattle.std.specs.Prelude.{option_map, option_and_then, if◌then◌else◌, ◌==◌, nat_le}
use Rattle.std.proofs.lemmas.Option.{none-some}
use Rattle.std.specs.Int.{from_bool}
use Rattle.ti_source.specs.declared.escapes.Piece.{Piece}
use Rattle.ti_source.specs.Escapes.{Decoding, empty_decoding, put_first, plain, letter_from, letter_value, letter_piece, third_at, second_at, escape_at, control_at, control_of, piece_at, decoding_from, decoding_of, is_octal}

-- an earlier decoding, followed by the rest
abbrev pub put_before : List ℕ → ℕ → Decoding → Decoding
put_before bytes odd rest = record { bytes = bytes ++ rest.bytes; odd = odd + rest.odd }

-- a piece takes at least one byte, and at most n
pub record Within (n : ℕ) (piece : Piece) : Type 0 where
  pub some : 0 < piece.used
  pub room : piece.used ≤ n

-- a property of both branches holds of the choice
pub either_way : {A : Type 0} (P : A → Type 0) (t : Bool) (x y : A) → P x → P y → P (if t then x else y)
either_way P true x y p q = p
either_way P false x y p q = q

-- the bytes that a piece takes
reaches : (n used byte : ℕ) (odd : Bool) → 0 < used → used ≤ n → Within n (record { byte = byte; used = used; odd = odd })
reaches n used byte odd p q = record { some = p; room = q }

farther : (m n : ℕ) (piece : Piece) → m ≤ n → Within m piece → Within n piece
farther m n piece h w = record { some = w.some; room = omega (arith, w.room) }

within_plain : (n byte used : ℕ) → 0 < used → used ≤ n → Within n (plain byte used)
within_plain n byte used p q = reaches n used _ false p q

within_third : (value : ℕ) (rest : List ℕ) → Within (length rest + 3) (third_at value rest)
within_third value [] = within_plain _ value 3 (omega arith) (omega arith)
within_third value (c ∷ rest) =
    either_way (Within (length (c ∷ rest) + 3)) (is_octal c && nat_le (value * 8 + (c - 48)) 255) (plain (value * 8 + (c - 48)) 4) (plain value 3)
    (within_plain _ (value * 8 + (c - 48)) 4 (omega arith) (omega arith)) (within_plain _ value 3 (omega arith) (omega arith))

within_second : (value : ℕ) (rest : List ℕ) → Within (length rest + 2) (second_at value rest)
within_second value [] = within_plain _ value 2 (omega arith) (omega arith)
within_second value (c ∷ rest) =
    either_way (Within (length (c ∷ rest) + 2)) (is_octal c) (third_at (value * 8 + (c - 48)) rest) (plain value 2)
    (farther _ _ _ (omega arith) (within_third (value * 8 + (c - 48)) rest)) (within_plain _ value 2 (omega arith) (omega arith))

within_letter : (letter : ℕ) (value : Option ℕ) → Within 2 (letter_from letter value)
within_letter letter None = reaches 2 2 _ true (omega arith) (omega arith)
within_letter letter (Some v) = within_plain 2 v 2 (omega arith) (omega arith)

-- a property of a piece, if there is one
abbrev pub IfPiece : ℕ → Option Piece → Type 0
IfPiece n None = Unit {0}
IfPiece n (Some piece) = Within n piece

within_escape : (rest : List ℕ) → IfPiece (length rest + 1) (escape_at rest)
unfolding escape_at letter_piece
within_escape [] = tt
within_escape (b ∷ rest) =
    either_way (IfPiece (length (b ∷ rest) + 1)) (is_octal b) (Some (second_at (b - 48) rest)) (Some (letter_piece b))
    (farther _ _ _ (omega arith) (within_second (b - 48) rest)) (farther _ _ _ (omega arith) (within_letter b (letter_value b)))

within_control : (rest : List ℕ) → IfPiece (length rest + 1) (control_at rest)
unfolding control_at
within_control [] = tt
within_control (b ∷ rest) =
    either_way (IfPiece (length (b ∷ rest) + 1)) (b == 44) None (Some (plain (control_of b) 2)) tt (within_plain _ (control_of b) 2 (omega arith) (omega arith))

farther_if : (m n : ℕ) (found : Option Piece) → m ≤ n → IfPiece m found → IfPiece n found
farther_if m n None h w = tt
farther_if m n (Some piece) h w = farther m n piece h w

pub within_piece : (text : List ℕ) → IfPiece (length text) (piece_at text)
unfolding piece_at
within_piece [] = tt
within_piece (b ∷ rest) =
    either_way (IfPiece (length (b ∷ rest))) (b == 92) (escape_at rest) (if b == 94 then control_at rest else Some (plain b 1))
    (farther_if _ _ _ (omega arith) (within_escape rest))
    (either_way (IfPiece (length (b ∷ rest))) (b == 94) (control_at rest) (Some (plain b 1))
    (farther_if _ _ _ (omega arith) (within_control rest)) (within_plain _ b 1 (omega arith) (omega arith)))

-- the piece found is in the text
pub piece_within : (text : List ℕ) (piece : Piece) → piece_at text ≡ Some piece → Within (length text) piece
piece_within text piece e = subst (IfPiece (length text)) e (within_piece text)

skips : (n : ℕ) (text : List ℕ) → decoding_from n text ≡ decoding_from 0 (drop n text)
unfolding decoding_from
skips zero text = refl
skips (suc n) [] = refl
skips (suc n) (b ∷ rest) = skips n rest

-- a text that begins with a piece
one_piece : (b : ℕ) (rest : List ℕ) (piece : Piece) → piece_at (b ∷ rest) ≡ Some piece → decoding_of (b ∷ rest) ≡ option_map (put_first piece) (decoding_from (piece.used - 1) rest)
unfolding decoding_from
one_piece b rest piece e = ap (option_and_then (λ piece. option_map (put_first piece) (decoding_from (piece.used - 1) rest))) e

behind_first : (b : ℕ) (rest : List ℕ) (n : ℕ) → 0 < n → drop (n - 1) rest ≡ drop n (b ∷ rest)
behind_first b rest zero h = absurd (omega arith)
behind_first b rest (suc n) h = ap (λ k. drop k rest) (omega arith)

pub goes_on : (text : List ℕ) (piece : Piece) → piece_at text ≡ Some piece → decoding_of text ≡ option_map (put_first piece) (decoding_of (drop piece.used text))
unfolding piece_at
goes_on [] piece e = absurd (none-some piece e)
goes_on (b ∷ rest) piece e = one_piece b rest piece e ∙ ap (option_map (put_first piece)) (skips (piece.used - 1) rest ∙ ap (decoding_from 0) (behind_first b rest piece.used (piece_within (b ∷ rest) piece e).some))

-- an escape without an end
pub stops : (text : List ℕ) → 0 < length text → piece_at text ≡ None → decoding_of text ≡ None
unfolding decoding_from
stops [] h e = absurd (omega arith)
stops (b ∷ rest) h e = ap (option_and_then (λ piece. option_map (put_first piece) (decoding_from (piece.used - 1) rest))) e

pub none_left : (text : List ℕ) → length text ≡ 0 → decoding_of text ≡ Some empty_decoding
unfolding decoding_from
none_left [] h = refl
none_left (b ∷ rest) h = absurd (omega arith)

abbrev pub made : List ℕ → ℕ → Option Decoding
made bytes odd = Some (record { bytes = bytes; odd = odd })

regroup : (bytes : List ℕ) (odd : ℕ) (piece : Piece) (rest : Option Decoding) → option_map (put_before bytes odd) (option_map (put_first piece) rest) ≡ option_map (put_before (bytes ++ piece.byte ∷ []) (odd + from_bool piece.odd)) rest
regroup bytes odd piece None = refl
regroup bytes odd piece (Some d) =
    let count : odd + (from_bool piece.odd + d.odd) ≡ (odd + from_bool piece.odd) + d.odd = omega arith in
    ap (λ xs. made xs (odd + (from_bool piece.odd + d.odd))) (sym (append_assoc bytes (piece.byte ∷ []) d.bytes)) ∙ ap (made ((bytes ++ piece.byte ∷ []) ++ d.bytes)) count

-- one more piece is decoded
pub piece_more : (bytes text whole : List ℕ) (odd : ℕ) (piece : Piece) → option_map (put_before bytes odd) (decoding_of text) ≡ decoding_of whole → piece_at text ≡ Some piece → option_map (put_before (bytes ++ piece.byte ∷ []) (odd + from_bool piece.odd)) (decoding_of (drop piece.used text)) ≡ decoding_of whole
piece_more bytes text whole odd piece so_far e =
    sym (ap (option_map (put_before bytes odd)) (goes_on text piece e) ∙ regroup bytes odd piece (decoding_of (drop piece.used text))) ∙ so_far

-- an escape has no end
pub piece_fails : (bytes text whole : List ℕ) (odd : ℕ) → option_map (put_before bytes odd) (decoding_of text) ≡ decoding_of whole → 0 < length text → piece_at text ≡ None → None ≡ decoding_of whole
piece_fails bytes text whole odd so_far h e = sym (ap (option_map (put_before bytes odd)) (stops text h e)) ∙ so_far

-- everything is decoded
pub piece_last : (bytes text whole : List ℕ) (odd : ℕ) → option_map (put_before bytes odd) (decoding_of text) ≡ decoding_of whole → length text ≡ 0 → made bytes odd ≡ decoding_of whole
piece_last bytes text whole odd so_far h =
    let count : odd ≡ odd + 0 = omega arith in
    ap (λ xs. made xs odd) (sym (append-nil bytes)) ∙ ap (made (bytes ++ [])) count ∙ sym (ap (option_map (put_before bytes odd)) (none_left text h)) ∙ so_far

pub odd_bound : (odd : Bool) → from_bool odd ≤ 1
odd_bound true = omega arith
odd_bound false = omega arith
