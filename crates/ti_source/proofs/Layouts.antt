-- Cutting texts.
use Rattle.std.proofs.Common.{◌≡◌, ℕ, ◌+◌, ◌-◌, ◌<◌, zero, suc, Bool, true, false, ◌&&◌, List, [], ◌∷◌, ◌++◌, length, reverse, take, drop, get_or, Option, Some, None, refl, sym, ap, ◌∙◌, subst, arith}
use Rattle.std.specs.Prelude.{if◌then◌else◌, ◌==◌, option_map}
use Rattle.std.proofs.lemmas.List.{take_more, take_all, drop_all, reverse-append, reverse-reverse}
use Rattle.std.proofs.lemmas.Option.{none-some}
use Rattle.ti_caps.specs.declared.fits.Opener.{Opener}
use Rattle.ti_caps.specs.Fits.{opener_after}
use Rattle.ti_caps.specs.declared.fits.Opener.TheVariants.{Nothing}
use Rattle.ti_source.specs.Layout.{onto_line, begins_feed, lines_of, is_white, skip_white, trim_end, ends_field, put_field, onto_cut, cut_from, cut_of}
use Rattle.ti_source.specs.Scan.{without_return, feed_in, comma_from, comma_in}

-- a nonempty list is all but its last element, followed by that
pub front_and_last : (xs : List ℕ) → 0 < length xs → xs ≡ take (length xs - 1) xs ++ get_or xs (length xs - 1) 0 ∷ []
front_and_last xs h =
    let e : length xs ≡ length xs - 1 + 1 = omega arith in
    sym (take_all (length xs) xs (omega arith)) ∙ (ap (λ n. take n xs) e ∙ take_more xs (length xs - 1) 0 (omega arith))

-- a function applied after a choice is applied in both branches
pub pushed : {A B : Type 0} (f : A → B) (t : Bool) (x y : A) → f (if t then x else y) ≡ (if t then f x else f y)
pushed f true x y = refl
pushed f false x y = refl

-- the carriage return at the end of a line
without_last : (front : List ℕ) (b : ℕ) → without_return (front ++ b ∷ []) ≡ (if b == 13 then front else front ++ b ∷ [])
without_last [] b = refl
without_last (a ∷ []) b = pushed (λ xs. a ∷ xs) (b == 13) [] (b ∷ [])
without_last (a ∷ c ∷ front) b = ap (λ xs. a ∷ xs) (without_last (c ∷ front) b) ∙ pushed (λ xs. a ∷ xs) (b == 13) (c ∷ front) (c ∷ front ++ b ∷ [])

pub returned : (line : List ℕ) → 0 < length line → (get_or line (length line - 1) 0 == 13) ≡ true → take (length line - 1) line ≡ without_return line
returned line h e =
    let front = take (length line - 1) line in
    let last = get_or line (length line - 1) 0 in
    sym (ap without_return (front_and_last line h) ∙ (without_last front last ∙ ap (λ t. if t then front else front ++ last ∷ []) e))

pub not_returned : (line : List ℕ) → 0 < length line → (get_or line (length line - 1) 0 == 13) ≡ false → line ≡ without_return line
not_returned line h e =
    let front = take (length line - 1) line in
    let last = get_or line (length line - 1) 0 in
    front_and_last line h ∙ sym (ap without_return (front_and_last line h) ∙ (without_last front last ∙ ap (λ t. if t then front else front ++ last ∷ []) e))

pub empty_line : (line : List ℕ) → length line < 1 → line ≡ without_return line
empty_line [] h = refl
empty_line (b ∷ rest) h = absurd (omega arith)

-- white space at the end
trim_last : (front : List ℕ) (b : ℕ) → trim_end (front ++ b ∷ []) ≡ (if is_white b then trim_end front else front ++ b ∷ [])
unfolding trim_end
trim_last front b =
    ap (λ xs. reverse (skip_white xs)) (reverse-append front (b ∷ []))
    ∙ (pushed reverse (is_white b) (skip_white (reverse front)) (b ∷ reverse front) ∙ ap (λ xs. if is_white b then reverse (skip_white (reverse front)) else xs) (ap reverse (sym (reverse-append front (b ∷ []))) ∙ reverse-reverse (front ++ b ∷ [])))

pub trimmed : (bytes : List ℕ) → 0 < length bytes → is_white (get_or bytes (length bytes - 1) 0) ≡ true → trim_end (take (length bytes - 1) bytes) ≡ trim_end bytes
trimmed bytes h e =
    let front = take (length bytes - 1) bytes in
    let last = get_or bytes (length bytes - 1) 0 in
    sym (ap trim_end (front_and_last bytes h) ∙ (trim_last front last ∙ ap (λ t. if t then trim_end front else front ++ last ∷ []) e))

pub not_trimmed : (bytes : List ℕ) → 0 < length bytes → is_white (get_or bytes (length bytes - 1) 0) ≡ false → bytes ≡ trim_end bytes
not_trimmed bytes h e =
    let front = take (length bytes - 1) bytes in
    let last = get_or bytes (length bytes - 1) 0 in
    front_and_last bytes h ∙ sym (ap trim_end (front_and_last bytes h) ∙ (trim_last front last ∙ ap (λ t. if t then trim_end front else front ++ last ∷ []) e))

pub empty_trimmed : (bytes : List ℕ) → length bytes < 1 → bytes ≡ trim_end bytes
unfolding trim_end
empty_trimmed [] h = refl
empty_trimmed (b ∷ rest) h = absurd (omega arith)

-- whether a line feed is at the start, by its place
at_front : Option ℕ → Bool
at_front None = false
at_front (Some zero) = true
at_front (Some (suc k)) = false

not_at_front : (o : Option ℕ) → at_front (option_map suc o) ≡ false
unfolding at_front
not_at_front None = refl
not_at_front (Some k) = refl

feed_test : (t : Bool) (o : Option ℕ) → at_front (if t then Some 0 else option_map suc o) ≡ t
unfolding at_front
feed_test true o = refl
feed_test false o = not_at_front o

feed_first : (text : List ℕ) → begins_feed text ≡ at_front (feed_in text)
unfolding at_front
feed_first [] = refl
feed_first (b ∷ rest) = sym (feed_test (b == 10) (feed_in rest))

-- a nonempty text as one line
abbrev whole_line : List ℕ → List (List ℕ)
whole_line [] = []
whole_line (b ∷ rest) = (b ∷ rest) ∷ []

-- the lines of a text, by the place of its first line feed
abbrev pub LinesAt : List ℕ → Option ℕ → Type 0
LinesAt text None = lines_of text ≡ whole_line text
LinesAt text (Some at) = lines_of text ≡ without_return (take at text) ∷ lines_of (drop (suc at) text)

onto_whole : (b : ℕ) (rest : List ℕ) → onto_line b (whole_line rest) ≡ (b ∷ rest) ∷ []
onto_whole b [] = refl
onto_whole b (c ∷ rest) = refl

-- the choice at a byte that isn't a line feed
not_feed : (b : ℕ) (rest : List ℕ) → (b == 10) ≡ false → lines_of (b ∷ rest) ≡ (if (b == 13) && begins_feed rest then lines_of rest else onto_line b (lines_of rest))
not_feed b rest e = ap (λ t. if t then [] ∷ lines_of rest else (if (b == 13) && begins_feed rest then lines_of rest else onto_line b (lines_of rest))) e

and_false : (t : Bool) → (t && false) ≡ false
and_false true = refl
and_false false = refl

and_true : (t : Bool) → (t && true) ≡ t
and_true true = refl
and_true false = refl

-- no carriage return is dropped
pub kept : (b : ℕ) (rest : List ℕ) → (b == 10) ≡ false → begins_feed rest ≡ false → lines_of (b ∷ rest) ≡ onto_line b (lines_of rest)
kept b rest e f =
    not_feed b rest e ∙ (ap (λ t. if (b == 13) && t then lines_of rest else onto_line b (lines_of rest)) f ∙ ap (λ t. if t then lines_of rest else onto_line b (lines_of rest)) (and_false (b == 13)))

-- a carriage return before a line feed
dropped : (t : Bool) (b : ℕ) (lines : List (List ℕ)) → (if t then [] ∷ lines else onto_line b ([] ∷ lines)) ≡ (if t then [] else b ∷ []) ∷ lines
dropped true b lines = refl
dropped false b lines = refl

at_feed : (b : ℕ) (rest : List ℕ) → (b == 10) ≡ false → begins_feed rest ≡ true → lines_of rest ≡ [] ∷ lines_of (drop 1 rest) → lines_of (b ∷ rest) ≡ (if b == 13 then [] else b ∷ []) ∷ lines_of (drop 1 rest)
at_feed b rest e f g =
    not_feed b rest e
    ∙ (ap (λ t. if (b == 13) && t then lines_of rest else onto_line b (lines_of rest)) f
    ∙ (ap (λ t. if t then lines_of rest else onto_line b (lines_of rest)) (and_true (b == 13))
    ∙ (ap (λ ls. if b == 13 then ls else onto_line b ls) g ∙ dropped (b == 13) b (lines_of (drop 1 rest)))))

-- one more byte before the first line feed of the rest
feed_step : (b : ℕ) (rest : List ℕ) (t : Bool) → (b == 10) ≡ t → (end : Option ℕ) → feed_in rest ≡ end → LinesAt rest end → LinesAt (b ∷ rest) (if t then Some 0 else option_map suc end)
unfolding at_front
feed_step b rest true e end f h = ap (λ t. if t then [] ∷ lines_of rest else (if (b == 13) && begins_feed rest then lines_of rest else onto_line b (lines_of rest))) e
feed_step b rest false e None f h = kept b rest e (feed_first rest ∙ ap at_front f) ∙ (ap (onto_line b) h ∙ onto_whole b rest)
feed_step b rest false e (Some zero) f h = at_feed b rest e (feed_first rest ∙ ap at_front f) h
feed_step b [] false e (Some (suc at)) f h = absurd (none-some (suc at) f)
feed_step b (c ∷ rest) false e (Some (suc at)) f h = kept b (c ∷ rest) e (feed_first (c ∷ rest) ∙ ap at_front f) ∙ ap (onto_line b) h

pub lines_at : (text : List ℕ) → LinesAt text (feed_in text)
lines_at [] = refl
lines_at (b ∷ rest) = feed_step b rest (b == 10) refl (feed_in rest) refl (lines_at rest)

-- the first line of a text with a line feed
pub line_cut : (text : List ℕ) (at : ℕ) → feed_in text ≡ Some at → lines_of text ≡ without_return (take at text) ∷ lines_of (drop (at + 1) text)
line_cut text at e = let n : suc at ≡ at + 1 = omega arith in subst (λ k. lines_of text ≡ without_return (take at text) ∷ lines_of (drop k text)) n (subst (LinesAt text) e (lines_at text))

last_line : (text : List ℕ) → 0 < length text → whole_line text ≡ text ∷ []
last_line [] h = absurd (omega arith)
last_line (b ∷ rest) h = refl

-- a text without a line feed is one line
pub line_whole : (text : List ℕ) → 0 < length text → feed_in text ≡ None → lines_of text ≡ text ∷ []
line_whole text h e = subst (LinesAt text) e (lines_at text) ∙ last_line text h

-- the fields of a line, by the place of its first comma
abbrev FieldsAt : Opener → List ℕ → Option ℕ → Type 0
FieldsAt opener line None = cut_from opener line ≡ record { ended = []; last = line }
FieldsAt opener line (Some at) = cut_from opener line ≡ put_field (take at line) (cut_from Nothing (drop (suc at) line))

comma_step : (opener : Opener) (b : ℕ) (rest : List ℕ) (t : Bool) → ends_field opener b ≡ t → (end : Option ℕ) → FieldsAt (opener_after opener b) rest end → FieldsAt opener (b ∷ rest) (if t then Some 0 else option_map suc end)
comma_step opener b rest true e end h = ap (λ t. if t then put_field [] (cut_from Nothing rest) else onto_cut b (cut_from (opener_after opener b) rest)) e
comma_step opener b rest false e None h = ap (λ t. if t then put_field [] (cut_from Nothing rest) else onto_cut b (cut_from (opener_after opener b) rest)) e ∙ ap (onto_cut b) h
comma_step opener b rest false e (Some at) h = ap (λ t. if t then put_field [] (cut_from Nothing rest) else onto_cut b (cut_from (opener_after opener b) rest)) e ∙ ap (onto_cut b) h

fields_at : (opener : Opener) (line : List ℕ) → FieldsAt opener line (comma_from opener line)
fields_at opener [] = refl
fields_at opener (b ∷ rest) = comma_step opener b rest (ends_field opener b) refl (comma_from (opener_after opener b) rest) (fields_at (opener_after opener b) rest)

-- the first field of a line with a comma
pub field_cut : (line : List ℕ) (at : ℕ) → comma_in line ≡ Some at → cut_of line ≡ put_field (take at line) (cut_of (drop (at + 1) line))
unfolding comma_in cut_of
field_cut line at e = let n : suc at ≡ at + 1 = omega arith in subst (λ k. cut_from Nothing line ≡ put_field (take at line) (cut_from Nothing (drop k line))) n (subst (FieldsAt Nothing line) e (fields_at Nothing line))

-- a line without a comma
pub field_whole : (line : List ℕ) → comma_in line ≡ None → cut_of line ≡ record { ended = []; last = line }
unfolding comma_in cut_of
field_whole line e = subst (FieldsAt Nothing line) e (fields_at Nothing line)

-- a text without a line feed, cut at its end
pub line_alone : (text : List ℕ) → 0 < length text → feed_in text ≡ None → lines_of text ≡ take (length text) text ∷ lines_of (drop (length text) text)
line_alone text h e =
    line_whole text h e ∙ (ap (λ xs. xs ∷ []) (sym (take_all (length text) text (omega arith))) ∙ ap (λ xs. take (length text) text ∷ lines_of xs) (sym (drop_all (length text) text (omega arith))))
