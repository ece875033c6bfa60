-- The bytes that a file is read as, and the rest of a file.
use Rattle.std.proofs.Common.{◌≡◌, ◌≤◌, ◌<◌, ◌∙◌, ℕ, Bool, true, false, List, [], ◌∷◌, ◌++◌, Option, Some, None, length, drop, refl, sym, ap, subst, arith, rules}
use Rattle.std.proofs.lemmas.List.{append-nil, length-append}
use Rattle.std.specs.Fmt.{option_append}
use Rattle.std.proofs.Math.Dec.{leb}
use Rattle.std.proofs.lemmas.Bool.{and_parts, leb-true, leb-false, lt-leb, not-true}
use Rattle.std.specs.Prelude.{◌&&◌, not, option_map, unwrap_or, if◌then◌else◌}
use Rattle.ti_files.specs.Contents.{IsLeft, longest_file}
use Rattle.ti_files.specs.Fronts.{IsFront}
use Rattle.ti_sources.proofs.Readings.{lines_counted, lines_joined}
use Rattle.ti_sources.specs.Joins.{all_of, before, continues, joined_from, joined_lines, joined_text, none_continues, with_blank}
use Rattle.ti_source.specs.Layout.{lines_of, skip_white}
use Rattle.ti_files.specs.Wrapped.{is_certificate, is_compiled, is_source, is_wrapped, read_as}

-- ---- what the bytes of a file are read as

-- lines of which none continues stay when they are joined
joined_stay : (line : List ℕ) (lines : List (List ℕ)) → none_continues (line ∷ lines) ≡ true → joined_lines (line ∷ lines) ≡ line ∷ lines
joined_stay line [] e = refl
joined_stay line (next ∷ behind) e =
    let parts = and_parts (not (continues line next)) (none_continues (next ∷ behind)) e in
    let apart : continues line next ≡ false = not-true (continues line next) parts.0 in
    ap (λ (t : Bool). all_of (if t then with_blank (joined_from (line ++ skip_white next) behind) else before line (joined_from next behind))) apart
    ∙ ap (λ (l : List (List ℕ)). line ∷ l) (joined_stay next behind parts.1)

all_stay : (lines : List (List ℕ)) → none_continues lines ≡ true → joined_lines lines ≡ lines
all_stay [] e = refl
all_stay (line ∷ lines) e = joined_stay line lines e

read_if : (bytes : List ℕ) (b : Bool) → is_wrapped bytes ≡ b → read_as bytes ≡ (if b then joined_text bytes else bytes)
unfolding read_as
read_if bytes b e = ap (λ (t : Bool). if t then joined_text bytes else bytes) e

-- what isn't taken as a source stays
no_source : (bytes : List ℕ) → is_source bytes ≡ false → read_as bytes ≡ bytes
no_source bytes e = read_if bytes false (ap (λ (t : Bool). t && not (none_continues (lines_of bytes))) e)

pub compiled_stays : (bytes : List ℕ) → is_compiled bytes ≡ true → read_as bytes ≡ bytes
compiled_stays bytes e = no_source bytes (grind (rules, e))

pub certificate_stays : (bytes : List ℕ) → is_certificate bytes ≡ true → read_as bytes ≡ bytes
certificate_stays bytes e = no_source bytes (grind (rules, e))

source_if : (bytes : List ℕ) (b : Bool) → none_continues (lines_of bytes) ≡ b → is_source bytes ≡ true → lines_of (read_as bytes) ≡ joined_lines (lines_of bytes)
source_if bytes true none e =
    let stays : read_as bytes ≡ bytes = read_if bytes false (ap (λ (t : Bool). t && not (none_continues (lines_of bytes))) e ∙ ap not none) in
    ap lines_of stays ∙ sym (all_stay (lines_of bytes) none)
source_if bytes false some e =
    let joins : read_as bytes ≡ joined_text bytes = read_if bytes true (ap (λ (t : Bool). t && not (none_continues (lines_of bytes))) e ∙ ap not some) in
    ap lines_of joins ∙ lines_joined bytes

pub source_joined : (bytes : List ℕ) → is_source bytes ≡ true → lines_of (read_as bytes) ≡ joined_lines (lines_of bytes)
source_joined bytes e = source_if bytes (none_continues (lines_of bytes)) refl e

lines_if : (bytes : List ℕ) (b : Bool) → is_wrapped bytes ≡ b → length (lines_of (read_as bytes)) ≡ length (lines_of bytes)
lines_if bytes true e = ap (λ (t : List ℕ). length (lines_of t)) (read_if bytes true e) ∙ lines_counted bytes
lines_if bytes false e = ap (λ (t : List ℕ). length (lines_of t)) (read_if bytes false e)

pub lines_stay : (bytes : List ℕ) → length (lines_of (read_as bytes)) ≡ length (lines_of bytes)
lines_stay bytes = lines_if bytes (is_wrapped bytes) refl

-- ---- what is left of a file

-- a file that is longer than a source may be is read as it is
long_stays : (bytes : List ℕ) → leb (length bytes) longest_file ≡ false → read_as bytes ≡ bytes
long_stays bytes e = no_source bytes (grind (rules, e))

read_cases : (front rest : List ℕ) (b : Bool) → leb (length front) longest_file ≡ b → (length front ≤ longest_file → rest ≡ []) → read_as front ++ rest ≡ read_as (front ++ rest)
read_cases front rest true e h =
    let none : rest ≡ [] = h (leb-true (length front) longest_file e) in
    subst (λ (r : List ℕ). read_as front ++ r ≡ read_as (front ++ r)) (sym none) (append-nil (read_as front) ∙ ap read_as (sym (append-nil front)))
read_cases front rest false e h =
    let long : longest_file < length front = leb-false (length front) longest_file e in
    let longer : longest_file < length (front ++ rest) = omega (arith, long, length-append front rest) in
    ap (λ (t : List ℕ). t ++ rest) (long_stays front e) ∙ sym (long_stays (front ++ rest) (lt-leb (length (front ++ rest)) longest_file longer))

-- the first bytes are read as the whole file is, and then comes the rest
read_front : (front rest : List ℕ) → (length front ≤ longest_file → rest ≡ []) → read_as front ++ rest ≡ read_as (front ++ rest)
read_front front rest h = read_cases front rest (leb (length front) longest_file) refl h

none_some : {A : Type 0} (bytes : List ℕ) → None ≡ Some bytes → A
none_some bytes e = cc

some_same : (left bytes : List ℕ) → Some left ≡ Some bytes → left ≡ bytes
some_same left bytes e = ap (λ (o : Option (List ℕ)). unwrap_or o left) e

-- what is left of a file behind its first bytes, which were read so
wrapped_left : (held left after : Option (List ℕ)) (front text : List ℕ) → IsLeft held left → IsFront left after longest_file front → text ≡ read_as front → IsLeft (option_map read_as held) (option_append (Some text) after)
wrapped_left None left after front text h f e = tt
wrapped_left (Some bytes) None after front text h f e = none_some bytes h
wrapped_left (Some bytes) (Some left) None front text h f e = absurd f.read
wrapped_left (Some bytes) (Some left) (Some rest) front text h f e =
    let whole : front ++ rest ≡ bytes = sym f.read ∙ some_same left bytes h in
    ap (λ (t : List ℕ). Some (t ++ rest)) e ∙ ap Some (read_front front rest f.whole ∙ ap read_as whole)

-- the same, where the text is what a cursor at its start has left
pub chained_left : (held left after shown : Option (List ℕ)) (front text now : List ℕ) (at : ℕ) → shown ≡ option_append (option_map (drop at) (Some now)) after → at ≡ 0 → now ≡ text → IsLeft held left → IsFront left after longest_file front → text ≡ read_as front → IsLeft (option_map read_as held) shown
chained_left held left after shown front text now at s a n h f e =
    let begun : option_append (option_map (drop at) (Some now)) after ≡ option_append (Some text) after = ap (λ (k : ℕ). option_append (option_map (drop k) (Some now)) after) a ∙ ap (λ (t : List ℕ). option_append (Some t) after) n in
    subst (λ (o : Option (List ℕ)). IsLeft (option_map read_as held) o) (sym (s ∙ begun)) (wrapped_left held left after front text h f e)
