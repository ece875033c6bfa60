-- Each word is read as it is written, and in no other form.
use Rattle.std.proofs.Common.{◌≡◌, ℕ, ◌<◌, true, false, List, [], ◌∷◌, ◌++◌, length, Option, Some, None, refl, sym, ap, ◌∙◌, subst, arith}
use Rattle.std.specs.Prelude.{if◌then◌else◌, ◌==◌}
use Rattle.std.specs.Option.{option_map, option_or, option_and_then}
use Rattle.std.specs.Fmt.{decimal}
use Rattle.std.specs.List.{list_all, join_with_byte}
use Rattle.std.proofs.lemmas.Bool.{cond-false}
use Rattle.std.proofs.lemmas.Option.{option_and_then_some, same_Some}
use Rattle.std.proofs.lemmas.Slice.Eq.{bytes_eq-Decides}
use Rattle.vt_effects.specs.declared.effects.Move.{Move}
use Rattle.vt_effects.specs.declared.effects.Move.TheVariants as moves
use Rattle.vt_effects.specs.declared.effects.Erasure.TheVariants as erasures
use Rattle.vt_effects.specs.declared.effects.Scroll.TheVariants as scrolls
use Rattle.vt_effects.specs.declared.effects.Switch.TheVariants as switches
use Rattle.vt_effects.specs.declared.effects.Ink.{Ink}
use Rattle.vt_effects.specs.declared.effects.Sets.{Sets}
use Rattle.vt_effects.specs.declared.effects.Region.{Region}
use Rattle.ti_lines.specs.declared.words.Word.{Word}
use Rattle.ti_lines.specs.declared.words.Word.TheVariants.{Row, Col, EndsPending, Erases, Scrolls, Looks, Inks, Chooses, Rows, Shows}
use Rattle.ti_lines.specs.declared.words.Marks.{Marks}
use Rattle.ti_lines.specs.EffectText.{row_name, col_name, nopend, all_name, tail_name, head_name, rest_name, next_name, up_name, down_name, look_name, ink_name, set_name, rows_name, show_name, hide_name, move_text, erasure_text, scroll_text, visible_text, set_text, rows_text, lettered, ink_letter, is_dot, IsPlainMove, IsPlainErasure, IsPlainRegion}
use Rattle.ti_lines.specs.EffectReader.{behind, number_at, positive, all_signed, move_at, next_at, letters_at, marks_of, inks_of, sets_of, marks_at, inks_at, sets_at, parts_of, region_of, region_at, is_all, fixed_at, numbered_at, lettered_at, word_at}
use Rattle.ti_lines.proofs.TextCuts.{parts_joined, some_part, split_front, split_whole}
use Rattle.ti_lines.proofs.Digits.{number_reads, number_written, positive_reads, positive_written, decimal_lacks}
use Rattle.ti_lines.proofs.Glyphs.{branch, mapped, either, equal, behind_written, letters_written, is_lettered, mark_letters, set_letters, marks_written, inks_written, sets_written, marks_read, inks_read, sets_read}

abbrev pub word_text : Word → List ℕ
word_text (Row m) = move_text row_name m
word_text (Col m) = move_text col_name m
word_text EndsPending = nopend
word_text (Erases x) = erasure_text x
word_text (Scrolls s) = scroll_text s
word_text (Looks m) = lettered look_name (mark_letters m)
word_text (Inks f b) = lettered ink_name (ink_letter f ∷ ink_letter b ∷ [])
word_text (Chooses s) = set_text s
word_text (Rows r) = rows_text (Some r)
word_text (Shows s) = visible_text s

abbrev pub IsPlainWord : Word → Type 0
IsPlainWord (Row m) = IsPlainMove m
IsPlainWord (Col m) = IsPlainMove m
IsPlainWord EndsPending = Unit {0}
IsPlainWord (Erases x) = IsPlainErasure x
IsPlainWord (Scrolls s) = Unit {0}
IsPlainWord (Looks m) = Unit {0}
IsPlainWord (Inks f b) = Unit {0}
IsPlainWord (Chooses s) = Unit {0}
IsPlainWord (Rows r) = IsPlainRegion (Some r)
IsPlainWord (Shows s) = Unit {0}

-- a text of the word `x`, which isn't empty
pub record IsWord (w : List ℕ) (x : Word) : Type 0 where
  pub text : w ≡ word_text x
  pub plain : IsPlainWord x
  pub some : 0 < length w

-- each word that is read is written so
pub all_written : (whole word : List ℕ) → is_all whole word ≡ true → word ≡ whole
all_written whole word h = (bytes_eq-Decides word whole).0 h

-- a word without parts
whole_word : (whole word : List ℕ) (x z : Word) → is_all whole word ≡ true → Some x ≡ Some z → IsWord whole x → IsWord word z
whole_word whole word x z t e w = subst (λ (y : Word). IsWord word y) (same_Some x z e) (subst (λ (l : List ℕ). IsWord l x) (sym (all_written whole word t)) w)

fixed_written : (w : List ℕ) (z : Word) → fixed_at w ≡ Some z → IsWord w z
fixed_written w z h =
    branch (IsWord w z) (is_all nopend w) _ _ z (λ t e. whole_word nopend w EndsPending z t e (record { text = refl; plain = tt; some = omega arith })) (λ h.
    branch (IsWord w z) (is_all all_name w) _ _ z (λ t e. whole_word all_name w (Erases erasures.Screen) z t e (record { text = refl; plain = tt; some = omega arith })) (λ h.
    branch (IsWord w z) (is_all tail_name w) _ _ z (λ t e. whole_word tail_name w (Erases erasures.Tail) z t e (record { text = refl; plain = tt; some = omega arith })) (λ h.
    branch (IsWord w z) (is_all head_name w) _ _ z (λ t e. whole_word head_name w (Erases erasures.Head) z t e (record { text = refl; plain = tt; some = omega arith })) (λ h.
    branch (IsWord w z) (is_all rest_name w) _ _ z (λ t e. whole_word rest_name w (Erases erasures.Rest) z t e (record { text = refl; plain = tt; some = omega arith })) (λ h.
    branch (IsWord w z) (is_all up_name w) _ _ z (λ t e. whole_word up_name w (Scrolls scrolls.Up) z t e (record { text = refl; plain = tt; some = omega arith })) (λ h.
    branch (IsWord w z) (is_all down_name w) _ _ z (λ t e. whole_word down_name w (Scrolls scrolls.Down) z t e (record { text = refl; plain = tt; some = omega arith })) (λ h.
    branch (IsWord w z) (is_all show_name w) _ _ z (λ t e. whole_word show_name w (Shows switches.On) z t e (record { text = refl; plain = tt; some = omega arith })) (λ h.
    branch (IsWord w z) (is_all hide_name w) _ _ z (λ t e. whole_word hide_name w (Shows switches.Off) z t e (record { text = refl; plain = tt; some = omega arith })) (λ h. absurd (cc)) h) h) h) h) h) h) h) h) h

-- a move after its name
record IsMove (name rest : List ℕ) (m : Move) : Type 0 where
  text : name ++ rest ≡ move_text name m
  plain : IsPlainMove m

signed_written : (name rest : List ℕ) (m : Move) → all_signed rest ≡ Some m → IsMove name rest m
signed_written name [] m h = absurd (cc)
signed_written name (sign ∷ digits) m h =
    branch (IsMove name (sign ∷ digits) m) (sign == 61) _ _ m
    (λ t h. mapped (IsMove name (sign ∷ digits) m) (λ k. moves.To k) (number_at digits) m (λ k e f.
    let n = number_written digits k e in
    subst (IsMove name (sign ∷ digits)) f (record { text = ap (λ (b : ℕ). name ++ b ∷ digits) (equal sign 61 t) ∙ ap (λ (l : List ℕ). name ++ 61 ∷ l) n.text; plain = n.small })) h)
    (λ h. branch (IsMove name (sign ∷ digits) m) (sign == 45) _ _ m
    (λ t h. mapped (IsMove name (sign ∷ digits) m) (λ k. moves.Back k) (positive (number_at digits)) m (λ k e f.
    let n = positive_written digits k e in
    subst (IsMove name (sign ∷ digits)) f (record { text = ap (λ (b : ℕ). name ++ b ∷ digits) (equal sign 45 t) ∙ ap (λ (l : List ℕ). name ++ 45 ∷ l) n.0.text; plain = (n.1, n.0.small) })) h)
    (λ h. branch (IsMove name (sign ∷ digits) m) (sign == 43) _ _ m
    (λ t h. mapped (IsMove name (sign ∷ digits) m) (λ k. moves.Forward k) (positive (number_at digits)) m (λ k e f.
    let n = positive_written digits k e in
    subst (IsMove name (sign ∷ digits)) f (record { text = ap (λ (b : ℕ). name ++ b ∷ digits) (equal sign 43 t) ∙ ap (λ (l : List ℕ). name ++ 43 ∷ l) n.0.text; plain = (n.1, n.0.small) })) h)
    (λ h. absurd (cc)) h) h) h

row_written : (w : List ℕ) (m : Move) → move_at row_name w ≡ Some m → IsWord w (Row m)
row_written w m h = option_and_then_some all_signed (behind row_name w) m h (λ rest e f.
    let front = behind_written row_name w rest e in
    let is = signed_written row_name rest m f in
    record { text = front ∙ is.text; plain = is.plain; some = omega (arith, ap length front) })

col_written : (w : List ℕ) (m : Move) → move_at col_name w ≡ Some m → IsWord w (Col m)
col_written w m h = option_and_then_some all_signed (behind col_name w) m h (λ rest e f.
    let front = behind_written col_name w rest e in
    let is = signed_written col_name rest m f in
    record { text = front ∙ is.text; plain = is.plain; some = omega (arith, ap length front) })

next_written : (w : List ℕ) (n : ℕ) → next_at w ≡ Some n → IsWord w (Erases (erasures.Next n))
next_written w n h = option_and_then_some (λ digits. positive (number_at digits)) (behind next_name w) n h (λ digits e f.
    let front = behind_written next_name w digits e in
    let is = positive_written digits n f in
    record { text = front ∙ ap (λ (l : List ℕ). next_name ++ l) is.0.text; plain = (is.1, is.0.small); some = omega (arith, ap length front) })

more_parts : (t b : List ℕ) (parts : List (List ℕ)) → 0 < length parts → region_of (t ∷ b ∷ parts) ≡ None
more_parts t b [] h = absurd (omega (arith, h))
more_parts t b (p ∷ parts) h = refl

pub three_parts : (t b more : List ℕ) → region_of (t ∷ b ∷ parts_of 44 more) ≡ None
three_parts t b more = more_parts t b (parts_of 44 more) (some_part 44 more)

record IsPair (lines : List ℕ) (r : Region) : Type 0 where
  text : lines ≡ decimal r.top ++ 44 ∷ decimal r.bottom
  top : r.top < 65536
  bottom : r.bottom < 65536

pair_written : (lines : List ℕ) (parts : List (List ℕ)) (r : Region) → join_with_byte 44 parts ≡ lines → region_of parts ≡ Some r → IsPair lines r
pair_written lines [] r j h = absurd (cc)
pair_written lines (t ∷ []) r j h = absurd (cc)
pair_written lines (t ∷ b ∷ c ∷ more) r j h = absurd (cc)
pair_written lines (t ∷ b ∷ []) r j h =
    option_and_then_some _ (number_at t) r h (λ top e h. option_and_then_some _ (number_at b) r h (λ bottom f h.
    let m = number_written t top e in
    let n = number_written b bottom f in
    subst (IsPair lines) (same_Some _ r h) (record { text = sym j ∙ ap (λ (l : List ℕ). l ++ 44 ∷ b) m.text ∙ ap (λ (l : List ℕ). decimal top ++ 44 ∷ l) n.text; top = m.small; bottom = n.small })))

region_written : (w : List ℕ) (r : Region) → region_at w ≡ Some r → IsWord w (Rows r)
region_written w r h = option_and_then_some (λ lines. region_of (parts_of 44 lines)) (behind rows_name w) r h (λ lines e f.
    let front = behind_written rows_name w lines e in
    let is = pair_written lines (parts_of 44 lines) r (parts_joined 44 lines) f in
    record { text = front ∙ ap (λ (l : List ℕ). rows_name ++ l) is.text; plain = (is.top, is.bottom); some = omega (arith, ap length front) })

numbered_written : (w : List ℕ) (z : Word) → numbered_at w ≡ Some z → IsWord w z
numbered_written w z h =
    either (IsWord w z) (option_map (λ m. Row m) (move_at row_name w)) _ z (λ h. mapped (IsWord w z) (λ m. Row m) (move_at row_name w) z (λ m e f. subst (IsWord w) f (row_written w m e)) h)
    (λ h. either (IsWord w z) (option_map (λ m. Col m) (move_at col_name w)) _ z (λ h. mapped (IsWord w z) (λ m. Col m) (move_at col_name w) z (λ m e f. subst (IsWord w) f (col_written w m e)) h)
    (λ h. either (IsWord w z) (option_map (λ n. Erases (erasures.Next n)) (next_at w)) _ z (λ h. mapped (IsWord w z) (λ n. Erases (erasures.Next n)) (next_at w) z (λ n e f. subst (IsWord w) f (next_written w n e)) h)
    (λ h. mapped (IsWord w z) (λ r. Rows r) (region_at w) z (λ r e f. subst (IsWord w) f (region_written w r e)) h) h) h) h

look_written : (w : List ℕ) (m : Marks) → marks_at w ≡ Some m → IsWord w (Looks m)
look_written w m h = option_and_then_some marks_of (letters_at look_name w) m h (λ letters e f.
    let is = letters_written look_name w letters e in
    record { text = is_lettered look_name w letters is ∙ ap (lettered look_name) (marks_written letters m f); plain = tt; some = omega (arith, ap length is.whole) })

ink_written : (w : List ℕ) (i : Ink × Ink) → inks_at w ≡ Some i → IsWord w (Inks i.0 i.1)
ink_written w i h = option_and_then_some inks_of (letters_at ink_name w) i h (λ letters e f.
    let is = letters_written ink_name w letters e in
    record { text = is_lettered ink_name w letters is ∙ ap (lettered ink_name) (inks_written letters i f); plain = tt; some = omega (arith, ap length is.whole) })

set_written : (w : List ℕ) (s : Sets) → sets_at w ≡ Some s → IsWord w (Chooses s)
set_written w s h = option_and_then_some sets_of (letters_at set_name w) s h (λ letters e f.
    let is = letters_written set_name w letters e in
    record { text = is_lettered set_name w letters is ∙ ap (lettered set_name) (sets_written letters s f); plain = tt; some = omega (arith, ap length is.whole) })

lettered_written : (w : List ℕ) (z : Word) → lettered_at w ≡ Some z → IsWord w z
lettered_written w z h =
    either (IsWord w z) (option_map (λ m. Looks m) (marks_at w)) _ z (λ h. mapped (IsWord w z) (λ m. Looks m) (marks_at w) z (λ m e f. subst (IsWord w) f (look_written w m e)) h)
    (λ h. either (IsWord w z) (option_map (λ i. Inks i.0 i.1) (inks_at w)) _ z (λ h. mapped (IsWord w z) (λ i. Inks i.0 i.1) (inks_at w) z (λ i e f. subst (IsWord w) f (ink_written w i e)) h)
    (λ h. mapped (IsWord w z) (λ s. Chooses s) (sets_at w) z (λ s e f. subst (IsWord w) f (set_written w s e)) h) h) h

pub word_written : (w : List ℕ) (z : Word) → word_at w ≡ Some z → IsWord w z
unfolding word_at
word_written w z h =
    either (IsWord w z) (fixed_at w) _ z (fixed_written w z) (λ h. either (IsWord w z) (numbered_at w) _ z (numbered_written w z) (lettered_written w z) h) h

-- a text that is read as the word `x`, which isn't empty
pub record IsRead (t : List ℕ) (x : Word) : Type 0 where
  pub read : word_at t ≡ Some x
  pub some : 0 < length t

-- a number after a name, and two that are not 0
to_read : (b : Move → Word) (k : ℕ) → k < 65536 → option_or (option_or (option_map b (option_map (λ n. moves.To n) (number_at (decimal k)))) None) None ≡ Some (b (moves.To k))
to_read b k h = ap (λ (o : Option ℕ). option_or (option_or (option_map b (option_map (λ n. moves.To n) o)) None) None) (number_reads k h)

back_read : (b : Move → Word) (k : ℕ) → 0 < k → k < 65536 → option_or (option_or (option_map b (option_map (λ n. moves.Back n) (positive (number_at (decimal k))))) None) None ≡ Some (b (moves.Back k))
back_read b k some h = ap (λ (o : Option ℕ). option_or (option_or (option_map b (option_map (λ n. moves.Back n) o)) None) None) (positive_reads k some h)

forward_read : (b : Move → Word) (k : ℕ) → 0 < k → k < 65536 → option_or (option_or (option_map b (option_map (λ n. moves.Forward n) (positive (number_at (decimal k))))) None) None ≡ Some (b (moves.Forward k))
forward_read b k some h = ap (λ (o : Option ℕ). option_or (option_or (option_map b (option_map (λ n. moves.Forward n) o)) None) None) (positive_reads k some h)

-- a word without parts
pub fixed_read : (t : List ℕ) (x : Word) → fixed_at t ≡ Some x → 0 < length t → IsRead t x
unfolding word_at
fixed_read t x h some = record { read = ap (λ (o : Option Word). option_or o (option_or (numbered_at t) (lettered_at t))) h; some = some }

pub row_to : (k : ℕ) → k < 65536 → IsRead (move_text row_name (moves.To k)) (Row (moves.To k))
unfolding word_at
row_to k h = record { read = to_read (λ m. Row m) k h; some = omega arith }

pub row_back : (k : ℕ) → 0 < k → k < 65536 → IsRead (move_text row_name (moves.Back k)) (Row (moves.Back k))
unfolding word_at
row_back k some h = record { read = back_read (λ m. Row m) k some h; some = omega arith }

pub row_forward : (k : ℕ) → 0 < k → k < 65536 → IsRead (move_text row_name (moves.Forward k)) (Row (moves.Forward k))
unfolding word_at
row_forward k some h = record { read = forward_read (λ m. Row m) k some h; some = omega arith }

pub col_to : (k : ℕ) → k < 65536 → IsRead (move_text col_name (moves.To k)) (Col (moves.To k))
unfolding word_at
col_to k h = record { read = to_read (λ m. Col m) k h; some = omega arith }

pub col_back : (k : ℕ) → 0 < k → k < 65536 → IsRead (move_text col_name (moves.Back k)) (Col (moves.Back k))
unfolding word_at
col_back k some h = record { read = back_read (λ m. Col m) k some h; some = omega arith }

pub col_forward : (k : ℕ) → 0 < k → k < 65536 → IsRead (move_text col_name (moves.Forward k)) (Col (moves.Forward k))
unfolding word_at
col_forward k some h = record { read = forward_read (λ m. Col m) k some h; some = omega arith }

pub next_read : (n : ℕ) → 0 < n → n < 65536 → IsRead (next_name ++ decimal n) (Erases (erasures.Next n))
unfolding word_at
next_read n some h = record {
  read = ap (λ (o : Option ℕ). option_or (option_or (option_map (λ n. Erases (erasures.Next n)) o) None) None) (positive_reads n some h);
  some = omega arith;
}

-- two numbers and a comma
pair_read : (t b : ℕ) → t < 65536 → b < 65536 → region_of (parts_of 44 (decimal t ++ 44 ∷ decimal b)) ≡ Some (record { top = t; bottom = b })
pair_read t b h k =
    ap region_of (split_front 44 (decimal t) (decimal b) (decimal_lacks 44 t (omega arith) h) ∙ ap (λ (l : List (List ℕ)). decimal t ∷ l) (split_whole 44 (decimal b) (decimal_lacks 44 b (omega arith) k)))
    ∙ (ap (option_and_then (λ (top : ℕ). option_and_then (λ (bottom : ℕ). Some (record { top = top; bottom = bottom })) (number_at (decimal b)))) (number_reads t h)
    ∙ ap (option_and_then (λ (bottom : ℕ). Some (record { top = t; bottom = bottom }))) (number_reads b k))

pub region_read : (r : Region) → IsPlainRegion (Some r) → IsRead (rows_text (Some r)) (Rows r)
unfolding word_at
region_read r h = record {
  read = ap (λ (o : Option Region). option_or (option_map (λ r. Rows r) o) None) (pair_read r.top r.bottom h.0 h.1);
  some = omega arith;
}

-- letters, not each of them a dot
record SomeLetters (name letters : List ℕ) : Type 0 where
  text : lettered name letters ≡ name ++ letters
  found : (if list_all is_dot letters then None else Some letters) ≡ Some letters

some_letters : (name letters : List ℕ) → list_all is_dot letters ≡ false → SomeLetters name letters
some_letters name letters h = record { text = cond-false (list_all is_dot letters) [] (name ++ letters) h; found = cond-false (list_all is_dot letters) None (Some letters) h }

pub look_read : (m : Marks) → list_all is_dot (mark_letters m) ≡ false → IsRead (lettered look_name (mark_letters m)) (Looks m)
unfolding word_at
look_read m h = let s = some_letters look_name (mark_letters m) h in record {
  read = ap word_at s.text ∙ ap (λ (o : Option (List ℕ)). option_or (option_map (λ m. Looks m) (option_and_then marks_of o)) None) s.found
      ∙ ap (λ (o : Option Marks). option_or (option_map (λ m. Looks m) o) None) (marks_read m);
  some = omega (arith, ap length s.text);
}

pub ink_read : (f b : Ink) → list_all is_dot (ink_letter f ∷ ink_letter b ∷ []) ≡ false → IsRead (lettered ink_name (ink_letter f ∷ ink_letter b ∷ [])) (Inks f b)
unfolding word_at
ink_read f b h = let s = some_letters ink_name (ink_letter f ∷ ink_letter b ∷ []) h in record {
  read = ap word_at s.text ∙ ap (λ (o : Option (List ℕ)). option_or (option_map (λ (i : Ink × Ink). Inks i.0 i.1) (option_and_then inks_of o)) None) s.found
      ∙ ap (λ (o : Option (Ink × Ink)). option_or (option_map (λ (i : Ink × Ink). Inks i.0 i.1) o) None) (inks_read f b);
  some = omega (arith, ap length s.text);
}

pub set_read : (s : Sets) → list_all is_dot (set_letters s) ≡ false → IsRead (set_text s) (Chooses s)
unfolding word_at
set_read x h = let s = some_letters set_name (set_letters x) h in record {
  read = ap word_at s.text ∙ ap (λ (o : Option (List ℕ)). option_map (λ s. Chooses s) (option_and_then sets_of o)) s.found
      ∙ ap (option_map (λ s. Chooses s)) (sets_read x);
  some = omega (arith, ap length s.text);
}
