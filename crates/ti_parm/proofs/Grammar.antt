-- Reading a code and spelling it are inverse to each other.
use Rattle.std.proofs.Common.{◌≡◌, ◌≢◌, ◌⊎◌, inl, inr, ◌≤◌, ◌-◌, ◌+◌, ◌*◌, ◌==◌, ◌&&◌, ℕ, pos, Bool, true, false, cond, zero, suc, List, [], ◌∷◌, ◌++◌, Result, Ok, Err, IfOk, Option, Some, None, nat_le, refl, ap, sym, ◌∙◌, append_assoc, arith}
use Rattle.ti_parm.specs.declared.code.Action.TheVariants.{Push, Set, Get}
use Rattle.ti_parm.specs.declared.code.Code.{Code}
use Rattle.ti_parm.specs.declared.code.Code.TheVariants.{Act as ActCode}
use Rattle.ti_parm.specs.declared.code.Variable.{Variable}
use Rattle.ti_parm.specs.declared.fault.ParmFault.{ParmFault}
use Rattle.ti_parm.specs.declared.fault.ParmFault.TheVariants.{BadCode}
use Rattle.ti_parm.specs.declared.formats.Conversion.{Conversion}
use Rattle.ti_parm.specs.declared.formats.Flags.{Flags}
use Rattle.ti_parm.specs.declared.formats.Format.{Format}
use Rattle.ti_parm.specs.Codes.{Read, as_code, behind_digits, behind_flags, behind_precision, character_code, code_at, conversion, conversion_code, finished, flags_on, format_code, is_digit, is_flag, no_flags, number_code, number_on, parameter_code, percent_code, precision_at, read_conversion, read_format, read_number, read_short, read_variable, short_code, variable, variable_code, with_flag}
use Rattle.ti_parm.specs.Spellings.{AreDigits, AreFlags, IsBare, IsCode, IsFormat, IsPrecision, IsWidth, bare, character, format, get, literal, made, number, parameter, set, short, within, without}

-- the text is empty, or its first byte isn't a flag
abbrev pub NoFlag : List ℕ → Type 0
NoFlag [] = Unit {0}
NoFlag (b ∷ rest) = is_flag b ≡ false

abbrev pub NoDigit : List ℕ → Type 0
NoDigit [] = Unit {0}
NoDigit (b ∷ rest) = is_digit b ≡ false

at_true : {A : Type 0} (d : Bool) (x y : A) → d ≡ true → cond d x y ≡ x
at_true true x y e = refl
at_true false x y e = cc

at_false : {A : Type 0} (d : Bool) (x y : A) → d ≡ false → cond d x y ≡ y
at_false true x y e = cc
at_false false x y e = refl

-- reading a code that was spelled

flags_on-all : (f : Flags) (flags rest : List ℕ) → AreFlags flags → NoFlag rest → flags_on f (flags ++ rest) ≡ flags_on f flags
flags_on-all f [] [] p q = refl
flags_on-all f [] (b ∷ rest) p q = at_false (is_flag b) _ _ q
flags_on-all f (b ∷ flags) rest p q =
    at_true (is_flag b) (flags_on (with_flag b f) (flags ++ rest)) f p.0
    ∙ flags_on-all (with_flag b f) flags rest p.1 q
    ∙ sym (at_true (is_flag b) (flags_on (with_flag b f) flags) f p.0)

behind_flags-all : (flags rest : List ℕ) → AreFlags flags → NoFlag rest → behind_flags (flags ++ rest) ≡ rest
behind_flags-all [] [] p q = refl
behind_flags-all [] (b ∷ rest) p q = at_false (is_flag b) _ _ q
behind_flags-all (b ∷ flags) rest p q = at_true (is_flag b) (behind_flags (flags ++ rest)) (b ∷ flags ++ rest) p.0 ∙ behind_flags-all flags rest p.1 q

number_on-all : (n : ℕ) (digits rest : List ℕ) → AreDigits digits → NoDigit rest → number_on n (digits ++ rest) ≡ number_on n digits
number_on-all n [] [] p q = refl
number_on-all n [] (b ∷ rest) p q = at_false (is_digit b) _ _ q
number_on-all n (b ∷ digits) rest p q =
    at_true (is_digit b) (number_on (10 * n + (b - 48)) (digits ++ rest)) n p.0
    ∙ number_on-all (10 * n + (b - 48)) digits rest p.1 q
    ∙ sym (at_true (is_digit b) (number_on (10 * n + (b - 48)) digits) n p.0)

behind_digits-all : (digits rest : List ℕ) → AreDigits digits → NoDigit rest → behind_digits (digits ++ rest) ≡ rest
behind_digits-all [] [] p q = refl
behind_digits-all [] (b ∷ rest) p q = at_false (is_digit b) _ _ q
behind_digits-all (b ∷ digits) rest p q = at_true (is_digit b) (behind_digits (digits ++ rest)) (b ∷ digits ++ rest) p.0 ∙ behind_digits-all digits rest p.1 q

-- the letter that ends a format
data IsLast : ℕ → Type 0 where
  ends_d : IsLast 100
  ends_o : IsLast 111
  ends_x : IsLast 120
  ends_capital : IsLast 88
  ends_s : IsLast 115

equal : (b k : ℕ) → (b == k) ≡ true → b ≡ k
equal b k e = grind (arith, e)

one-of : {A : Type 0} (b k : ℕ) (v : A) (u : Option A) (w : A) → cond (b == k) (Some v) u ≡ Some w → (b ≡ k) ⊎ (u ≡ Some w)
one-of b k v u w = along (b == k) refl
  where
    along : (t : Bool) → (b == k) ≡ t → cond t (Some v) u ≡ Some w → (b ≡ k) ⊎ (u ≡ Some w)
    along true p e = inl (equal b k p)
    along false p e = inr e

last-at : (b k : ℕ) → b ≡ k → IsLast k → IsLast b
last-at b k e h = rw e h

none-of : {A : Type 0} {w : A} → ◌≡◌ {A = Option A} None (Some w) → ⊥
none-of e = cc

is_last : (b : ℕ) (kind : Conversion) → conversion b ≡ Some kind → IsLast b
is_last b kind e = elim (one-of b 100 _ _ kind e) [
  | inl p ↦ last-at b 100 p ends_d
  | inr e1 ↦ elim (one-of b 111 _ _ kind e1) [
    | inl p ↦ last-at b 111 p ends_o
    | inr e2 ↦ elim (one-of b 120 _ _ kind e2) [
      | inl p ↦ last-at b 120 p ends_x
      | inr e3 ↦ elim (one-of b 88 _ _ kind e3) [
        | inl p ↦ last-at b 88 p ends_capital
        | inr e4 ↦ elim (one-of b 115 _ _ kind e4) [
          | inl p ↦ last-at b 115 p ends_s
          | inr e5 ↦ absurd (none-of e5)
        ]
      ]
    ]
  ]
]

last-no_flag : (b : ℕ) → IsLast b → is_flag b ≡ false
last-no_flag _ ends_d = refl
last-no_flag _ ends_o = refl
last-no_flag _ ends_x = refl
last-no_flag _ ends_capital = refl
last-no_flag _ ends_s = refl

last-no_digit : (b : ℕ) → IsLast b → is_digit b ≡ false
last-no_digit _ ends_d = refl
last-no_digit _ ends_o = refl
last-no_digit _ ends_x = refl
last-no_digit _ ends_capital = refl
last-no_digit _ ends_s = refl

last-no_point : (b : ℕ) → IsLast b → (b == 46) ≡ false
last-no_point _ ends_d = refl
last-no_point _ ends_o = refl
last-no_point _ ends_x = refl
last-no_point _ ends_capital = refl
last-no_point _ ends_s = refl

digit-no_flag : (b : ℕ) → is_digit b ≡ true → b ≢ 48 → is_flag b ≡ false
digit-no_flag b p q = grind (arith, p, q)

no_flag-point : (point : List ℕ) (precision : Option ℕ) (last : ℕ) (more : List ℕ) → IsPrecision point precision → IsLast last → NoFlag (point ++ last ∷ more)
no_flag-point _ _ last more without h = last-no_flag last h
no_flag-point _ _ last more (within digits p) h = refl

no_flag-width : (width rest : List ℕ) → IsWidth width → NoFlag rest → NoFlag (width ++ rest)
no_flag-width [] rest w h = h
no_flag-width (b ∷ width) rest w h = digit-no_flag b w.0 w.1

no_digit-point : (point : List ℕ) (precision : Option ℕ) (last : ℕ) (more : List ℕ) → IsPrecision point precision → IsLast last → NoDigit (point ++ last ∷ more)
no_digit-point _ _ last more without h = last-no_digit last h
no_digit-point _ _ last more (within digits p) h = refl

width-digits : (width : List ℕ) → IsWidth width → AreDigits width
width-digits [] w = tt
width-digits (b ∷ width) w = (w.0, w.2)

precision_at-read : (point : List ℕ) (precision : Option ℕ) (last : ℕ) (more : List ℕ) → IsPrecision point precision → IsLast last → precision_at (point ++ last ∷ more) ≡ precision
precision_at-read _ _ last more without h = at_false (last == 46) _ _ (last-no_point last h)
precision_at-read _ _ last more (within digits p) h = ap Some (number_on-all 0 digits (last ∷ more) p (last-no_digit last h))

behind_precision-read : (point : List ℕ) (precision : Option ℕ) (last : ℕ) (more : List ℕ) → IsPrecision point precision → IsLast last → behind_precision (point ++ last ∷ more) ≡ last ∷ more
behind_precision-read _ _ last more without h = at_false (last == 46) _ _ (last-no_point last h)
behind_precision-read _ _ last more (within digits p) h = behind_digits-all digits (last ∷ more) p (last-no_digit last h)

format-pieces : (text behind point : List ℕ) (f : Flags) (w : ℕ) (p : Option ℕ) (rest : List ℕ) → flags_on no_flags text ≡ f → behind_flags text ≡ behind → number_on 0 behind ≡ w → behind_digits behind ≡ point → precision_at point ≡ p → behind_precision point ≡ rest → format_code text ≡ conversion_code f w p rest
format-pieces text behind point f w p rest e1 e2 e3 e4 e5 e6 = rw (← e1, ← e6, ← e5, ← e4, ← e3, ← e2) refl

joined : (a b c : List ℕ) (l : ℕ) (more : List ℕ) → (a ++ (b ++ (c ++ l ∷ []))) ++ more ≡ a ++ (b ++ (c ++ l ∷ more))
joined a b c l more =
    append_assoc a (b ++ (c ++ l ∷ [])) more
    ∙ ap (λ t. a ++ t) (append_assoc b (c ++ l ∷ []) more)
    ∙ ap (λ t. a ++ (b ++ t)) (append_assoc c (l ∷ []) more)

format-read : (text : List ℕ) (f : Format) → IsFormat text f → (more : List ℕ) → format_code (text ++ more) ≡ Ok (as_code f, more)
format-read _ _ (made flags width point precision last kind f fs w p c m) more =
    let final = is_last last kind c in
    let tail : List ℕ = point ++ last ∷ more in
    let no_flag : NoFlag (width ++ tail) = no_flag-width width tail w (no_flag-point point precision last more p final) in
    let no_digit : NoDigit tail = no_digit-point point precision last more p final in
    ap format_code (joined flags width point last more)
    ∙ format-pieces (flags ++ (width ++ tail)) (width ++ tail) tail (flags_on no_flags flags) (number_on 0 width) precision (last ∷ more)
    (flags_on-all no_flags flags (width ++ tail) fs no_flag) (behind_flags-all flags (width ++ tail) fs no_flag)
    (number_on-all 0 width tail (width-digits width w) no_digit) (behind_digits-all width tail (width-digits width w) no_digit)
    (precision_at-read point precision last more p final) (behind_precision-read point precision last more p final)
    ∙ ap (λ k. read_conversion (flags_on no_flags flags) (number_on 0 width) precision k more) c
    ∙ ap (λ m. read_format m more) m

-- a byte that opens a format without `:`
data Opens : ℕ → Type 0 where
  letter : (b : ℕ) → IsLast b → Opens b
  full_stop : Opens 46
  figure : (b : ℕ) → 48 ≤ b → b ≤ 57 → Opens b
  hash : Opens 35
  space : Opens 32

percent-last : (b : ℕ) (rest : List ℕ) → IsLast b → percent_code (b ∷ rest) ≡ format_code (b ∷ rest)
percent-last _ rest ends_d = refl
percent-last _ rest ends_o = refl
percent-last _ rest ends_x = refl
percent-last _ rest ends_capital = refl
percent-last _ rest ends_s = refl

data IsFigure : ℕ → Type 0 where
  figure_0 : IsFigure 48
  figure_1 : IsFigure 49
  figure_2 : IsFigure 50
  figure_3 : IsFigure 51
  figure_4 : IsFigure 52
  figure_5 : IsFigure 53
  figure_6 : IsFigure 54
  figure_7 : IsFigure 55
  figure_8 : IsFigure 56
  figure_9 : IsFigure 57

figure-at : (k : ℕ) → k ≤ 9 → IsFigure (48 + k)
figure-at zero h = figure_0
figure-at (suc zero) h = figure_1
figure-at (suc (suc zero)) h = figure_2
figure-at (suc (suc (suc zero))) h = figure_3
figure-at (suc (suc (suc (suc zero)))) h = figure_4
figure-at (suc (suc (suc (suc (suc zero))))) h = figure_5
figure-at (suc (suc (suc (suc (suc (suc zero)))))) h = figure_6
figure-at (suc (suc (suc (suc (suc (suc (suc zero))))))) h = figure_7
figure-at (suc (suc (suc (suc (suc (suc (suc (suc zero)))))))) h = figure_8
figure-at (suc (suc (suc (suc (suc (suc (suc (suc (suc zero))))))))) h = figure_9
figure-at (suc (suc (suc (suc (suc (suc (suc (suc (suc (suc k)))))))))) h = absurd (omega arith)

figure-is : (b k : ℕ) → 48 + k ≡ b → IsFigure (48 + k) → IsFigure b
figure-is b k e h = rw e at h

percent-figure : (b : ℕ) (rest : List ℕ) → IsFigure b → percent_code (b ∷ rest) ≡ format_code (b ∷ rest)
percent-figure _ rest figure_0 = refl
percent-figure _ rest figure_1 = refl
percent-figure _ rest figure_2 = refl
percent-figure _ rest figure_3 = refl
percent-figure _ rest figure_4 = refl
percent-figure _ rest figure_5 = refl
percent-figure _ rest figure_6 = refl
percent-figure _ rest figure_7 = refl
percent-figure _ rest figure_8 = refl
percent-figure _ rest figure_9 = refl

percent-digit : (b : ℕ) (rest : List ℕ) → 48 ≤ b → b ≤ 57 → percent_code (b ∷ rest) ≡ format_code (b ∷ rest)
percent-digit b rest p q = percent-figure b rest (figure-is b (b - 48) (omega arith) (figure-at (b - 48) (omega arith)))

percent-opens : (b : ℕ) (rest : List ℕ) → Opens b → percent_code (b ∷ rest) ≡ format_code (b ∷ rest)
percent-opens _ rest (letter b h) = percent-last b rest h
percent-opens _ rest full_stop = refl
percent-opens _ rest (figure b p q) = percent-digit b rest p q
percent-opens _ rest hash = refl
percent-opens _ rest space = refl

-- a flag that is neither `-` nor `+`
flag-opens : (b : ℕ) → is_flag b ≡ true → b ≢ 45 → b ≢ 43 → Opens b
flag-opens b p q r = elim (three b p q r) [
  | inl e ↦ rw e hash
  | inr rest ↦ elim rest [
    | inl e ↦ rw e (figure 48 (omega arith) (omega arith))
    | inr e ↦ rw e space
  ]
]
  where
    three : (b : ℕ) → is_flag b ≡ true → b ≢ 45 → b ≢ 43 → (b ≡ 35) ⊎ ((b ≡ 48) ⊎ (b ≡ 32))
    three b p q r = grind (arith, p, q, r)

digit-opens : (b : ℕ) → is_digit b ≡ true → Opens b
digit-opens b p = figure b (grind (arith, p)) (grind (arith, p))

-- the first byte of a format
format-opens : (text : List ℕ) (f : Format) (more : List ℕ) → IsFormat text f → IsBare text → percent_code (text ++ more) ≡ format_code (text ++ more)
format-opens _ _ more (made (b ∷ flags) width point precision l kind f fs w p c m) h = percent-opens b ((flags ++ (width ++ (point ++ l ∷ []))) ++ more) (flag-opens b fs.0 h.0 h.1)
format-opens _ _ more (made [] (b ∷ width) point precision l kind f fs w p c m) h = percent-opens b ((width ++ (point ++ l ∷ [])) ++ more) (digit-opens b w.0)
format-opens _ _ more (made [] [] _ precision l kind f fs w without c m) h = percent-opens l more (letter l (is_last l kind c))
format-opens _ _ more (made [] [] _ precision l kind f fs w (within digits p) c m) h = percent-opens 46 ((digits ++ l ∷ []) ++ more) full_stop

-- the codes of two bytes aren't the start of longer ones
percent-none : (b : ℕ) (rest : List ℕ) → (b == 112) ≡ false → (b == 80) ≡ false → (b == 103) ≡ false → (b == 39) ≡ false → (b == 123) ≡ false → (b == 58) ≡ false → percent_code (b ∷ rest) ≡ read_short (short_code b) b rest
percent-none b rest h1 h2 h3 h4 h5 h6 =
    at_false (b == 112) _ _ h1 ∙ at_false (b == 80) _ _ h2 ∙ at_false (b == 103) _ _ h3 ∙ at_false (b == 39) _ _ h4 ∙ at_false (b == 123) _ _ h5 ∙ at_false (b == 58) _ _ h6

other-code : (b k : ℕ) (code : Code) → short_code b ≡ Some code → short_code k ≡ None → (b == k) ≡ false
other-code b k code p q = along (b == k) refl
  where
    clash : (b k : ℕ) → b ≡ k → short_code b ≡ Some code → short_code k ≡ None → ⊥
    clash b k e p q = let r : short_code k ≡ Some code = ap short_code (sym e) ∙ p in none-of (sym q ∙ r)

    along : (t : Bool) → (b == k) ≡ t → t ≡ false
    along true e = absurd (clash b k (equal b k e) p q)
    along false e = refl

short-read : (b : ℕ) (code : Code) (rest : List ℕ) → short_code b ≡ Some code → percent_code (b ∷ rest) ≡ Ok (code, rest)
short-read b code rest e =
    percent-none b rest (other-code b 112 code e refl) (other-code b 80 code e refl) (other-code b 103 code e refl) (other-code b 39 code e refl) (other-code b 123 code e refl) (other-code b 58 code e refl)
    ∙ ap (λ o. read_short o b rest) e

both-true : (a b : Bool) → a ≡ true → b ≡ true → (a && b) ≡ true
both-true true true p q = refl
both-true true false p q = q
both-true false b p q = p

le-true : (n m : ℕ) → n ≤ m → nat_le n m ≡ true
le-true n m h = grind (arith, h)

number-read : (b : ℕ) (digits more : List ℕ) → AreDigits (b ∷ digits) → number_on 0 (b ∷ digits) ≤ 2147483647 → number_code (b ∷ (digits ++ 125 ∷ []) ++ more) ≡ Ok (ActCode (Push (pos (number_on 0 (b ∷ digits)))), more)
number-read b digits more ds small =
    let tail : List ℕ = 125 ∷ more in
    let whole : (digits ++ 125 ∷ []) ++ more ≡ digits ++ tail = append_assoc digits (125 ∷ []) more in
    let value : number_on 0 (b ∷ (digits ++ tail)) ≡ number_on 0 (b ∷ digits) = number_on-all 0 (b ∷ digits) tail ds refl in
    let behind : behind_digits (b ∷ (digits ++ tail)) ≡ tail = behind_digits-all (b ∷ digits) tail ds refl in
    ap (λ t. number_code (b ∷ t)) whole
    ∙ at_true (is_digit b) (read_number (number_on 0 (b ∷ (digits ++ tail))) (behind_digits (b ∷ (digits ++ tail)))) (Err BadCode) ds.0
    ∙ ap (λ n. read_number n (behind_digits (b ∷ (digits ++ tail)))) value
    ∙ ap (read_number (number_on 0 (b ∷ digits))) behind
    ∙ at_true (nat_le (number_on 0 (b ∷ digits)) 2147483647) _ (Err BadCode) (le-true _ _ small)

pub code-read : (front : List ℕ) (code : Code) → IsCode front code → (more : List ℕ) → code_at (front ++ more) ≡ Ok (code, more)
unfolding code_at
code-read _ _ (literal b h) more = grind (arith, h)
code-read _ _ (short b code h) more = short-read b code more h
code-read _ _ (parameter b p q) more = at_true (nat_le 49 b && nat_le b 57) _ (Err BadCode) (both-true _ _ (le-true 49 b p) (le-true b 57 q))
code-read _ _ (set b v h) more = ap (λ o. read_variable Set o more) h
code-read _ _ (get b v h) more = ap (λ o. read_variable Get o more) h
code-read _ _ (character b) more = refl
code-read _ _ (number b digits ds small) more = number-read b digits more ds small
code-read _ _ (format text f h) more = format-read text f h more
code-read _ _ (bare text f h begins) more = format-opens text f more h begins ∙ format-read text f h more

-- spelling a code that was read

when : {A : Type 0} (P : A → Type 0) (b : Bool) (x y : Result A ParmFault) → (b ≡ true → IfOk x P) → (b ≡ false → IfOk y P) → IfOk (cond b x y) P
when P true x y p q = p refl
when P false x y p q = q refl

digits-split : (text : List ℕ) → (digits : List ℕ) × AreDigits digits × (text ≡ digits ++ behind_digits text) × NoDigit (behind_digits text)
digits-split [] = ([], tt, refl, tt)
digits-split (b ∷ rest) = along (digits-split rest) (is_digit b) refl
  where
    along : ((digits : List ℕ) × AreDigits digits × (rest ≡ digits ++ behind_digits rest) × NoDigit (behind_digits rest)) → (t : Bool) → is_digit b ≡ t → (digits : List ℕ) × AreDigits digits × (b ∷ rest ≡ digits ++ cond t (behind_digits rest) (b ∷ rest)) × NoDigit (cond t (behind_digits rest) (b ∷ rest))
    along r true e = (b ∷ r.0, (e, r.1), ap (λ t. b ∷ t) r.2, r.3)
    along r false e = ([], tt, refl, e)

flags-split : (text : List ℕ) → (flags : List ℕ) × AreFlags flags × (text ≡ flags ++ behind_flags text) × NoFlag (behind_flags text)
flags-split [] = ([], tt, refl, tt)
flags-split (b ∷ rest) = along (flags-split rest) (is_flag b) refl
  where
    along : ((flags : List ℕ) × AreFlags flags × (rest ≡ flags ++ behind_flags rest) × NoFlag (behind_flags rest)) → (t : Bool) → is_flag b ≡ t → (flags : List ℕ) × AreFlags flags × (b ∷ rest ≡ flags ++ cond t (behind_flags rest) (b ∷ rest)) × NoFlag (cond t (behind_flags rest) (b ∷ rest))
    along r true e = (b ∷ r.0, (e, r.1), ap (λ t. b ∷ t) r.2, r.3)
    along r false e = ([], tt, refl, e)

number-split : (text digits : List ℕ) → AreDigits digits → text ≡ digits ++ behind_digits text → NoDigit (behind_digits text) → number_on 0 text ≡ number_on 0 digits
number-split text digits ds e last = ap (number_on 0) e ∙ number_on-all 0 digits (behind_digits text) ds last

precision-split : (text : List ℕ) → (point : List ℕ) × IsPrecision point (precision_at text) × (text ≡ point ++ behind_precision text)
precision-split [] = ([], without, refl)
precision-split (b ∷ rest) = along (b == 46) refl
  where
    with_digits : (digits : List ℕ) (n : ℕ) → AreDigits digits → n ≡ number_on 0 digits → IsPrecision (46 ∷ digits) (Some n)
    with_digits digits n ds e = rw e (within digits ds)

    along : (t : Bool) → (b == 46) ≡ t → (point : List ℕ) × IsPrecision point (cond t (Some (number_on 0 rest)) None) × (b ∷ rest ≡ point ++ cond t (behind_digits rest) (b ∷ rest))
    along true e =
        let r = digits-split rest in
        (46 ∷ r.0, with_digits r.0 (number_on 0 rest) r.1 (number-split rest r.0 r.1 r.2 r.3), ap (λ k. k ∷ rest) (equal b 46 e) ∙ ap (λ t. 46 ∷ t) r.2)
    along false e = ([], without, refl)

flag-zero : (b : ℕ) → is_flag b ≡ false → b ≢ 48
flag-zero b p q = grind (arith, p, q)

width-split : (width rest : List ℕ) → AreDigits width → NoFlag (width ++ rest) → IsWidth width
width-split [] rest ds h = tt
width-split (b ∷ width) rest ds h = (ds.0, flag-zero b h, ds.1)

-- the text of a format that was read
abbrev IsReadFormat : List ℕ → Code × List ℕ → Type 0
IsReadFormat text x = (front : List ℕ) × (f : Format) × (text ≡ front ++ x.1) × IsFormat front f × (x.0 ≡ as_code f)

no_flag-same : (a b : List ℕ) → a ≡ b → NoFlag a → NoFlag b
no_flag-same a b e h = rw e at h

four : (a b c d e : List ℕ) (t : List ℕ) (l : ℕ) (more : List ℕ) → t ≡ a ++ b → b ≡ c ++ d → d ≡ e ++ (l ∷ more) → t ≡ (a ++ (c ++ (e ++ l ∷ []))) ++ more
four a b c d e t l more p q r = p ∙ ap (λ x. a ++ x) (q ∙ ap (λ x. c ++ x) r) ∙ sym (joined a c e l more)

format-written : (text : List ℕ) → IfOk (format_code text) (IsReadFormat text)
format-written text = along (behind_precision point) refl
  where
    digits : List ℕ
    digits = behind_flags text

    point : List ℕ
    point = behind_digits digits

    fs : (flags : List ℕ) × AreFlags flags × (text ≡ flags ++ digits) × NoFlag digits
    fs = flags-split text

    ds : (width : List ℕ) × AreDigits width × (digits ≡ width ++ point) × NoDigit point
    ds = digits-split digits

    ps : (dot : List ℕ) × IsPrecision dot (precision_at point) × (point ≡ dot ++ behind_precision point)
    ps = precision-split point

    w : IsWidth ds.0
    w = width-split ds.0 point ds.1 (no_flag-same digits (ds.0 ++ point) ds.2 fs.3)

    finish : (l : ℕ) (more : List ℕ) (kind : Conversion) (o : Option Format) → behind_precision point ≡ l ∷ more → conversion l ≡ Some kind → finished (flags_on no_flags text) (number_on 0 digits) (precision_at point) kind ≡ o → IfOk (read_format o more) (IsReadFormat text)
    finish l more kind None b c m = tt
    finish l more kind (Some f) b c m =
        let flags_same : flags_on no_flags text ≡ flags_on no_flags fs.0 = ap (flags_on no_flags) fs.2 ∙ flags_on-all no_flags fs.0 digits fs.1 fs.3 in
        let width_same : number_on 0 digits ≡ number_on 0 ds.0 = number-split digits ds.0 ds.1 ds.2 ds.3 in
        let fit : finished (flags_on no_flags fs.0) (number_on 0 ds.0) (precision_at point) kind ≡ Some f =
        ap (λ x. finished x (number_on 0 ds.0) (precision_at point) kind) (sym flags_same)
        ∙ ap (λ x. finished (flags_on no_flags text) x (precision_at point) kind) (sym width_same) ∙ m in
        (fs.0 ++ (ds.0 ++ (ps.0 ++ l ∷ [])), f, four fs.0 digits ds.0 point ps.0 text l more fs.2 ds.2 (ps.2 ∙ ap (λ x. ps.0 ++ x) b), made fs.0 ds.0 ps.0 (precision_at point) l kind f fs.1 w ps.1 c fit, refl)

    kinds : (l : ℕ) (more : List ℕ) (o : Option Conversion) → behind_precision point ≡ l ∷ more → conversion l ≡ o → IfOk (read_conversion (flags_on no_flags text) (number_on 0 digits) (precision_at point) o more) (IsReadFormat text)
    kinds l more None b c = tt
    kinds l more (Some kind) b c = finish l more kind _ b c refl

    along : (rest : List ℕ) → behind_precision point ≡ rest → IfOk (conversion_code (flags_on no_flags text) (number_on 0 digits) (precision_at point) rest) (IsReadFormat text)
    along [] b = tt
    along (l ∷ more) b = kinds l more (conversion l) b refl

-- the text of a code that was read
abbrev pub IsRead : List ℕ → Code × List ℕ → Type 0
IsRead text x = (front : List ℕ) × (text ≡ front ++ x.1) × IsCode front x.0

as_written : (front : List ℕ) (code : Code) (f : Format) → code ≡ as_code f → IsCode front (as_code f) → IsCode front code
as_written front code f e h = rw e h

with_colon : (text : List ℕ) (r : Read) → IfOk r (IsReadFormat text) → IfOk r (IsRead (37 ∷ 58 ∷ text))
with_colon text (Ok x) h = (37 ∷ 58 ∷ h.0, ap (λ t. 37 ∷ 58 ∷ t) h.2, as_written (37 ∷ 58 ∷ h.0) x.0 h.1 h.4 (format h.0 h.1 h.3))
with_colon text (Err e) h = tt

abbrev BeginsBare : List ℕ → Type 0
BeginsBare [] = ⊥
BeginsBare (b ∷ rest) = (b ≢ 45) × (b ≢ 43)

bare-front : (front : List ℕ) (f : Format) (rest : List ℕ) → IsFormat front f → BeginsBare (front ++ rest) → IsBare front
bare-front _ _ rest (made (b ∷ flags) width point precision l kind f fs w p c m) h = h
bare-front _ _ rest (made [] (b ∷ width) point precision l kind f fs w p c m) h = h
bare-front _ _ rest (made [] [] _ precision l kind f fs w without c m) h = h
bare-front _ _ rest (made [] [] _ precision l kind f fs w (within digits p) c m) h = h

begins-same : (a b : List ℕ) → a ≡ b → BeginsBare a → BeginsBare b
begins-same a b e h = rw e at h

without_colon : (text : List ℕ) (r : Read) → BeginsBare text → IfOk r (IsReadFormat text) → IfOk r (IsRead (37 ∷ text))
without_colon text (Ok x) begins h = (37 ∷ h.0, ap (λ t. 37 ∷ t) h.2, as_written (37 ∷ h.0) x.0 h.1 h.4 (bare h.0 h.1 h.3 (bare-front h.0 h.1 x.1 h.3 (begins-same text (h.0 ++ x.1) h.2 begins))))
without_colon text (Err e) begins h = tt

parameter-written : (text : List ℕ) → IfOk (parameter_code text) (IsRead (37 ∷ 112 ∷ text))
parameter-written [] = tt
parameter-written (b ∷ rest) = when (IsRead (37 ∷ 112 ∷ b ∷ rest)) (nat_le 49 b && nat_le b 57) _ _ (λ e. (37 ∷ 112 ∷ b ∷ [], refl, parameter b (grind (arith, e)) (grind (arith, e)))) (λ e. tt)

set-written : (text : List ℕ) → IfOk (variable_code Set text) (IsRead (37 ∷ 80 ∷ text))
set-written [] = tt
set-written (b ∷ rest) = along (variable b) refl
  where
    along : (v : Option Variable) → variable b ≡ v → IfOk (read_variable Set v rest) (IsRead (37 ∷ 80 ∷ b ∷ rest))
    along None e = tt
    along (Some v) e = (37 ∷ 80 ∷ b ∷ [], refl, set b v e)

get-written : (text : List ℕ) → IfOk (variable_code Get text) (IsRead (37 ∷ 103 ∷ text))
get-written [] = tt
get-written (b ∷ rest) = along (variable b) refl
  where
    along : (v : Option Variable) → variable b ≡ v → IfOk (read_variable Get v rest) (IsRead (37 ∷ 103 ∷ b ∷ rest))
    along None e = tt
    along (Some v) e = (37 ∷ 103 ∷ b ∷ [], refl, get b v e)

character-written : (text : List ℕ) → IfOk (character_code text) (IsRead (37 ∷ 39 ∷ text))
character-written [] = tt
character-written (b ∷ []) = tt
character-written (b ∷ c ∷ rest) = when (IsRead (37 ∷ 39 ∷ b ∷ c ∷ rest)) (c == 39) _ _ (λ e. (37 ∷ 39 ∷ b ∷ 39 ∷ [], ap (λ k. 37 ∷ 39 ∷ b ∷ k ∷ rest) (equal c 39 e), character b)) (λ e. tt)

small-number : (n c : ℕ) → (c == 125 && nat_le n 2147483647) ≡ true → (c ≡ 125) × (n ≤ 2147483647)
small-number n c e = (grind (arith, e), grind (arith, e))

number-code : (b : ℕ) (digits : List ℕ) (n : ℕ) → AreDigits (b ∷ digits) → n ≡ number_on 0 (b ∷ digits) → n ≤ 2147483647 → IsCode (37 ∷ 123 ∷ b ∷ digits ++ 125 ∷ []) (ActCode (Push (pos n)))
number-code b digits n ds e h = rw e (number b digits ds (rw e at h))

number-written : (text : List ℕ) → IfOk (number_code text) (IsRead (37 ∷ 123 ∷ text))
number-written [] = tt
number-written (b ∷ rest) = when (IsRead (37 ∷ 123 ∷ b ∷ rest)) (is_digit b) _ _ (λ e. along e (digits-split rest) (behind_digits rest) refl) (λ e. tt)
  where
    along : is_digit b ≡ true → ((digits : List ℕ) × AreDigits digits × (rest ≡ digits ++ behind_digits rest) × NoDigit (behind_digits rest)) → (tail : List ℕ) → behind_digits rest ≡ tail → IfOk (read_number (number_on 0 (b ∷ rest)) (behind_digits (b ∷ rest))) (IsRead (37 ∷ 123 ∷ b ∷ rest))
    along e r [] t = rw (at_true (is_digit b) (behind_digits rest) (b ∷ rest) e ∙ t) tt
    along e r (c ∷ more) t = rw (at_true (is_digit b) (behind_digits rest) (b ∷ rest) e ∙ t) (when (IsRead (37 ∷ 123 ∷ b ∷ rest)) (c == 125 && nat_le (number_on 0 (b ∷ rest)) 2147483647) _ _ (λ h.
        let s = small-number (number_on 0 (b ∷ rest)) c h in
        let value : number_on 0 (b ∷ rest) ≡ number_on 0 (b ∷ r.0) = ap (λ x. number_on 0 (b ∷ x)) r.2 ∙ number_on-all 0 (b ∷ r.0) (behind_digits rest) (e, r.1) r.3 in
        (37 ∷ 123 ∷ b ∷ r.0 ++ 125 ∷ [], ap (λ x. 37 ∷ 123 ∷ b ∷ x) (r.2 ∙ ap (λ x. r.0 ++ x) (t ∙ ap (λ k. k ∷ more) s.0) ∙ sym (append_assoc r.0 (125 ∷ []) more)), number-code b r.0 (number_on 0 (b ∷ rest)) (e, r.1) value s.1)) (λ h. tt))

not_minus : (b : ℕ) → short_code b ≡ None → b ≢ 45
not_minus b e p = let q : short_code 45 ≡ None = ap short_code (sym p) ∙ e in none-of (sym q)

not_plus : (b : ℕ) → short_code b ≡ None → b ≢ 43
not_plus b e p = let q : short_code 43 ≡ None = ap short_code (sym p) ∙ e in none-of (sym q)

short-written : (b : ℕ) (rest : List ℕ) (o : Option Code) → short_code b ≡ o → IfOk (read_short o b rest) (IsRead (37 ∷ b ∷ rest))
short-written b rest (Some code) e = (37 ∷ b ∷ [], refl, short b code e)
short-written b rest None e = without_colon (b ∷ rest) (format_code (b ∷ rest)) (not_minus b e, not_plus b e) (format-written (b ∷ rest))

percent-written : (text : List ℕ) → IfOk (percent_code text) (IsRead (37 ∷ text))
percent-written [] = tt
percent-written (b ∷ rest) =
    when (IsRead (37 ∷ b ∷ rest)) (b == 112) _ _ (λ e. rw (equal b 112 e) (parameter-written rest)) (λ _.
    when (IsRead (37 ∷ b ∷ rest)) (b == 80) _ _ (λ e. rw (equal b 80 e) (set-written rest)) (λ _.
    when (IsRead (37 ∷ b ∷ rest)) (b == 103) _ _ (λ e. rw (equal b 103 e) (get-written rest)) (λ _.
    when (IsRead (37 ∷ b ∷ rest)) (b == 39) _ _ (λ e. rw (equal b 39 e) (character-written rest)) (λ _.
    when (IsRead (37 ∷ b ∷ rest)) (b == 123) _ _ (λ e. rw (equal b 123 e) (number-written rest)) (λ _.
    when (IsRead (37 ∷ b ∷ rest)) (b == 58) _ _ (λ e. rw (equal b 58 e) (with_colon rest (format_code rest) (format-written rest))) (λ _.
    short-written b rest (short_code b) refl))))))

not_equal : (b k : ℕ) → (b == k) ≡ false → b ≢ k
not_equal b k e p = grind (arith, e, p)

pub code-written : (text : List ℕ) → IfOk (code_at text) (IsRead text)
unfolding code_at
code-written [] = tt
code-written (b ∷ rest) = when (IsRead (b ∷ rest)) (b == 37) _ _ (λ e. rw (equal b 37 e) (percent-written rest)) (λ e. (b ∷ [], refl, literal b (not_equal b 37 e)))
