-- Letters are read as they are written.
use Rattle.std.proofs.Common.{◌≡◌, ℕ, ◌+◌, ◌-◌, ◌≤◌, Bool, true, false, ◌&&◌, List, [], ◌∷◌, ◌++◌, length, Option, Some, None, MatchOption, Bor, nat_eq, take, drop, refl, sym, ap, ◌∙◌, arith}
use Rattle.std.specs.Prelude.{if◌then◌else◌, ◌==◌, nat_le}
use Rattle.std.specs.Option.{option_map, option_or, option_and_then}
use Rattle.std.specs.List.{list_all}
use Rattle.std.specs.Cmp.Lexicographic.{pointwise}
use Rattle.std.proofs.lemmas.Bool.{and_parts, cond-true, cond-false}
use Rattle.std.proofs.lemmas.Bool.Decides.{nat_tests}
use Rattle.std.proofs.lemmas.Option.{option_and_then_some, same_Some}
use Rattle.vt_term.specs.Color.{color}
use Rattle.ti_rows.proofs.Readers.{number_back}
use Rattle.vt_term.specs.Color.{Black, Red, Green, Yellow, Blue, Magenta, Cyan, White}
use Rattle.vt_effects.specs.declared.effects.Switch.{Switch}
use Rattle.vt_effects.specs.declared.effects.Switch.TheVariants as switches
use Rattle.vt_effects.specs.declared.effects.Ink.{Ink}
use Rattle.vt_effects.specs.declared.effects.Ink.TheVariants as inks
use Rattle.vt_effects.specs.declared.effects.Sets.{Sets}
use Rattle.ti_lines.specs.declared.words.Marks.{Marks}
use Rattle.ti_lines.specs.EffectText.{switch_letter, ink_letter, mark_letter, is_dot, lettered}
use Rattle.ti_lines.specs.EffectReader.{behind, letters_at, switch_at, ink_at, marks_of, inks_of, sets_of}

-- a choice that gives something, by its branches
pub branch : {A : Type 0} (P : Type 0) (c : Bool) (a b : Option A) (z : A) → (c ≡ true → a ≡ Some z → P) → (b ≡ Some z → P) → (if c then a else b) ≡ Some z → P
branch P true a b z f g h = f refl h
branch P false a b z f g h = g h

pub mapped : {A B : Type 0} (P : Type 0) (f : A → B) (o : Option A) (z : B) → ((y : A) → o ≡ Some y → f y ≡ z → P) → option_map f o ≡ Some z → P
mapped P f None z k h = absurd (cc)
mapped P f (Some y) z k h = k y refl (same_Some (f y) z h)

pub either : {A : Type 0} (P : Type 0) (o r : Option A) (z : A) → (o ≡ Some z → P) → (r ≡ Some z → P) → option_or o r ≡ Some z → P
either P None r z f g h = g h
either P (Some y) r z f g h = f h

pub equal : (a b : ℕ) → (a == b) ≡ true → a ≡ b
equal a b h = grind (arith, nat_tests)

by_first : (front word : List ℕ) (t : Bool) → behind front word ≡ (if pointwise nat_eq (take (length front) word) front then Some (drop (length front) word) else None)
    → (if t then behind front word else None) ≡ (if t && pointwise nat_eq (take (length front) word) front then Some (drop (length front) word) else None)
by_first front word true h = h
by_first front word false h = refl

-- std's `strip_prefix` is `behind`
behind_is : (front word : List ℕ) → behind front word ≡ (if pointwise nat_eq (take (length front) word) front then Some (drop (length front) word) else None)
behind_is [] word = refl
behind_is (x ∷ xs) [] = refl
behind_is (x ∷ xs) (b ∷ word) = by_first xs word (b == x) (behind_is xs word)

pub stripped : (front word : List ℕ) (r : Option (Bor (List ℕ))) → MatchOption r (pointwise nat_eq (take (length front) word) front ≡ false) (λ x. (pointwise nat_eq (take (length front) word) front ≡ true) × (x.now ≡ drop (length front) word) × (length x.now + length front ≡ length word)) → option_map (λ x. x.now) r ≡ behind front word
stripped front word None h = sym (behind_is front word ∙ cond-false (pointwise nat_eq (take (length front) word) front) (Some (drop (length front) word)) None h)
stripped front word (Some x) h = sym (behind_is front word ∙ cond-true (pointwise nat_eq (take (length front) word) front) (Some (drop (length front) word)) None h.0 ∙ ap (λ (l : List ℕ). Some l) (sym h.1))

pub behind_written : (front word rest : List ℕ) → behind front word ≡ Some rest → word ≡ front ++ rest
behind_written [] word rest h = same_Some word rest h
behind_written (x ∷ xs) [] rest h = absurd (cc)
behind_written (x ∷ xs) (b ∷ word) rest h =
    branch ((b ∷ word) ≡ (x ∷ xs) ++ rest) (b == x) (behind xs word) None rest
    (λ t k. ap (λ (y : ℕ). y ∷ word) (equal b x t) ∙ ap (λ (l : List ℕ). x ∷ l) (behind_written xs word rest k)) (λ k. absurd (cc)) h

pub record IsLettered (name word letters : List ℕ) : Type 0 where
  pub whole : word ≡ name ++ letters
  pub some : list_all is_dot letters ≡ false

pub letters_written : (name word letters : List ℕ) → letters_at name word ≡ Some letters → IsLettered name word letters
letters_written name word letters h =
    option_and_then_some (λ l. if list_all is_dot l then None else Some l) (behind name word) letters h (λ l e f. by_dots l (list_all is_dot l) refl e f)
  where
    by_dots : (l : List ℕ) (t : Bool) → list_all is_dot l ≡ t → behind name word ≡ Some l → (if t then None else Some l) ≡ Some letters → IsLettered name word letters
    by_dots l true d e f = absurd (cc)
    by_dots l false d e f =
        let s : l ≡ letters = same_Some l letters f in
        record { whole = behind_written name word l e ∙ ap (λ (x : List ℕ). name ++ x) s; some = ap (list_all is_dot) (sym s) ∙ d }

-- a word with letters is its name and these letters
pub is_lettered : (name word letters : List ℕ) → IsLettered name word letters → word ≡ lettered name letters
is_lettered name word letters w = w.whole ∙ sym (cond-false (list_all is_dot letters) [] (name ++ letters) w.some)

pub switch_written : (on off b : ℕ) (s : Switch) → switch_at on off b ≡ Some s → b ≡ switch_letter on off s
switch_written on off b s h =
    branch (b ≡ switch_letter on off s) (b == on) (Some switches.On) (if b == off then Some switches.Off else (if b == 46 then Some switches.Kept else None)) s
    (λ t e. equal b on t ∙ ap (switch_letter on off) (same_Some switches.On s e))
    (λ h. branch (b ≡ switch_letter on off s) (b == off) (Some switches.Off) (if b == 46 then Some switches.Kept else None) s
    (λ t e. equal b off t ∙ ap (switch_letter on off) (same_Some switches.Off s e))
    (λ h. branch (b ≡ switch_letter on off s) (b == 46) (Some switches.Kept) None s
    (λ t e. equal b 46 t ∙ ap (switch_letter on off) (same_Some switches.Kept s e)) (λ e. absurd (cc)) h) h) h

color_written : (b : ℕ) → (nat_le 48 b && nat_le b 55) ≡ true → b ≡ ink_letter (inks.Color (color (b - 48)))
color_written b t =
    let p = and_parts (nat_le 48 b) (nat_le b 55) t in
    let low : 48 ≤ b = grind (arith, nat_tests) in
    let high : b ≤ 55 = grind (arith, nat_tests) in
    let e : b ≡ 48 + (b - 48) = omega arith in
    e ∙ ap (λ (n : ℕ). 48 + n) (sym (number_back (b - 48) (omega arith)))

pub ink_written : (b : ℕ) (i : Ink) → ink_at b ≡ Some i → b ≡ ink_letter i
ink_written b i h =
    branch (b ≡ ink_letter i) (nat_le 48 b && nat_le b 55) (Some (inks.Color (color (b - 48)))) (if b == 100 then Some inks.Default else (if b == 46 then Some inks.Kept else None)) i
    (λ t e. color_written b t ∙ ap ink_letter (same_Some (inks.Color (color (b - 48))) i e))
    (λ h. branch (b ≡ ink_letter i) (b == 100) (Some inks.Default) (if b == 46 then Some inks.Kept else None) i
    (λ t e. equal b 100 t ∙ ap ink_letter (same_Some inks.Default i e))
    (λ h. branch (b ≡ ink_letter i) (b == 46) (Some inks.Kept) None i
    (λ t e. equal b 46 t ∙ ap ink_letter (same_Some inks.Kept i e)) (λ e. absurd (cc)) h) h) h

abbrev pub mark_letters : Marks → List ℕ
mark_letters m = mark_letter m.bold ∷ mark_letter m.faint ∷ mark_letter m.underline ∷ mark_letter m.blink ∷ mark_letter m.negative ∷ mark_letter m.concealed ∷ []

abbrev pub set_letters : Sets → List ℕ
set_letters s = switch_letter 48 66 s.g0_graphic ∷ switch_letter 48 66 s.g1_graphic ∷ switch_letter 79 73 s.shifted_out ∷ []

-- the letters of marks are read as they are written
pub marks_written : (letters : List ℕ) (m : Marks) → marks_of letters ≡ Some m → letters ≡ mark_letters m
marks_written [] m h = absurd (cc)
marks_written (a ∷ []) m h = absurd (cc)
marks_written (a ∷ b ∷ []) m h = absurd (cc)
marks_written (a ∷ b ∷ c ∷ []) m h = absurd (cc)
marks_written (a ∷ b ∷ c ∷ d ∷ []) m h = absurd (cc)
marks_written (a ∷ b ∷ c ∷ d ∷ e ∷ []) m h = absurd (cc)
marks_written (a ∷ b ∷ c ∷ d ∷ e ∷ f ∷ g ∷ more) m h = absurd (cc)
marks_written (a ∷ b ∷ c ∷ d ∷ e ∷ f ∷ []) m h =
    option_and_then_some _ (switch_at 49 48 a) m h (λ s1 e1 h.
    option_and_then_some _ (switch_at 49 48 b) m h (λ s2 e2 h.
    option_and_then_some _ (switch_at 49 48 c) m h (λ s3 e3 h.
    option_and_then_some _ (switch_at 49 48 d) m h (λ s4 e4 h.
    option_and_then_some _ (switch_at 49 48 e) m h (λ s5 e5 h.
    option_and_then_some _ (switch_at 49 48 f) m h (λ s6 e6 h.
    rw (switch_written 49 48 a s1 e1, switch_written 49 48 b s2 e2, switch_written 49 48 c s3 e3, switch_written 49 48 d s4 e4, switch_written 49 48 e s5 e5, switch_written 49 48 f s6 e6)
    (ap mark_letters (same_Some _ m h))))))))

pub inks_written : (letters : List ℕ) (i : Ink × Ink) → inks_of letters ≡ Some i → letters ≡ ink_letter i.0 ∷ ink_letter i.1 ∷ []
inks_written [] i h = absurd (cc)
inks_written (a ∷ []) i h = absurd (cc)
inks_written (a ∷ b ∷ c ∷ more) i h = absurd (cc)
inks_written (a ∷ b ∷ []) i h =
    option_and_then_some _ (ink_at a) i h (λ f e1 h. option_and_then_some _ (ink_at b) i h (λ g e2 h.
    rw (ink_written a f e1, ink_written b g e2) (ap (λ (p : Ink × Ink). ink_letter p.0 ∷ ink_letter p.1 ∷ []) (same_Some (f, g) i h))))

pub sets_written : (letters : List ℕ) (s : Sets) → sets_of letters ≡ Some s → letters ≡ set_letters s
sets_written [] s h = absurd (cc)
sets_written (a ∷ []) s h = absurd (cc)
sets_written (a ∷ b ∷ []) s h = absurd (cc)
sets_written (a ∷ b ∷ c ∷ d ∷ more) s h = absurd (cc)
sets_written (a ∷ b ∷ c ∷ []) s h =
    option_and_then_some _ (switch_at 48 66 a) s h (λ g0 e1 h. option_and_then_some _ (switch_at 48 66 b) s h (λ g1 e2 h. option_and_then_some _ (switch_at 79 73 c) s h (λ o e3 h.
    rw (switch_written 48 66 a g0 e1, switch_written 48 66 b g1 e2, switch_written 79 73 c o e3) (ap set_letters (same_Some _ s h)))))

-- a mark is read from its letter
mark_reads : (s : Switch) → switch_at 49 48 (switch_letter 49 48 s) ≡ Some s
mark_reads switches.Kept = refl
mark_reads switches.On = refl
mark_reads switches.Off = refl

set_reads : (s : Switch) → switch_at 48 66 (switch_letter 48 66 s) ≡ Some s
set_reads switches.Kept = refl
set_reads switches.On = refl
set_reads switches.Off = refl

shift_reads : (s : Switch) → switch_at 79 73 (switch_letter 79 73 s) ≡ Some s
shift_reads switches.Kept = refl
shift_reads switches.On = refl
shift_reads switches.Off = refl

ink_reads : (i : Ink) → ink_at (ink_letter i) ≡ Some i
ink_reads inks.Kept = refl
ink_reads inks.Default = refl
ink_reads (inks.Color Black) = refl
ink_reads (inks.Color Red) = refl
ink_reads (inks.Color Green) = refl
ink_reads (inks.Color Yellow) = refl
ink_reads (inks.Color Blue) = refl
ink_reads (inks.Color Magenta) = refl
ink_reads (inks.Color Cyan) = refl
ink_reads (inks.Color White) = refl

-- `option_and_then` of a known value
goes_on : {A B : Type 0} (f : A → Option B) (o : Option A) (x : A) (r : Option B) → o ≡ Some x → f x ≡ r → option_and_then f o ≡ r
goes_on f o x r e h = ap (option_and_then f) e ∙ h

pub marks_read : (m : Marks) → marks_of (mark_letters m) ≡ Some m
marks_read m =
    goes_on _ _ m.bold _ (mark_reads m.bold) (goes_on _ _ m.faint _ (mark_reads m.faint) (goes_on _ _ m.underline _ (mark_reads m.underline)
    (goes_on _ _ m.blink _ (mark_reads m.blink) (goes_on _ _ m.negative _ (mark_reads m.negative) (goes_on _ _ m.concealed _ (mark_reads m.concealed) refl)))))

pub inks_read : (f b : Ink) → inks_of (ink_letter f ∷ ink_letter b ∷ []) ≡ Some (f, b)
inks_read f b = goes_on _ _ f _ (ink_reads f) (goes_on _ _ b _ (ink_reads b) refl)

pub sets_read : (s : Sets) → sets_of (set_letters s) ≡ Some s
sets_read s = goes_on _ _ s.g0_graphic _ (set_reads s.g0_graphic) (goes_on _ _ s.g1_graphic _ (set_reads s.g1_graphic) (goes_on _ _ s.shifted_out _ (shift_reads s.shifted_out) refl))
