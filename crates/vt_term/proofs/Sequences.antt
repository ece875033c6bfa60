-- Which bytes are tokens, and which are prefixes of tokens.
use Rattle.std.proofs.Common.{◌≡◌, ℕ, ◌+◌, ◌-◌, ◌<◌, ◌≤◌, ◌⊎◌, List, [], ◌∷◌, ◌++◌, length, refl, sym, ap, subst, ◌∙◌, inl, inr, arith, append_assoc, length-append, get_or, suc, zero}
use Rattle.std.proofs.lemmas.List.{same_from_push, get_or-append-add}
use Rattle.std.specs.List.{AllByRecursion}
use Rattle.vt_term.proofs.Decimals.{all_append}
use Rattle.vt_screen.specs.Look.{IsPrinted}
use Rattle.vt_term.specs.Text.{IsControl, IsParameter, IsIntermediate, IsFinal, IsEscapeFinal, IsIntroducer, IsControlSequence, IsEscapeSequence, IsSequence, IsOpen, IsSingle, Cuts, IsCutBy, IsWhole, IsToken}

pub all_weaker : (P Q : ℕ → Type 0) → ((b : ℕ) → P b → Q b) → (xs : List ℕ) → AllByRecursion P xs → AllByRecursion Q xs
all_weaker P Q w [] h = tt
all_weaker P Q w (x ∷ xs) h = (w x h.0, all_weaker P Q w xs h.1)

all_at : (P : ℕ → Type 0) (xs : List ℕ) (k : ℕ) → k < length xs → AllByRecursion P xs → P (get_or xs k 0)
all_at P [] k lt h = absurd (omega arith)
all_at P (x ∷ xs) zero lt h = h.0
all_at P (x ∷ xs) (suc k) lt h = all_at P xs k (omega arith) h.1

pub all_last : (P : ℕ → Type 0) (xs : List ℕ) (y : ℕ) → AllByRecursion P (xs ++ y ∷ []) → P y
all_last P [] y h = h.0
all_last P (x ∷ xs) y h = all_last P xs y h.1

nothing_behind : (xs ys : List ℕ) → xs ++ ys ≡ [] → ys ≡ []
nothing_behind [] ys e = e
nothing_behind (x ∷ xs) ys e = cc

-- the bytes after ESC [ of a sequence that has no final byte yet
pub record IsBody (body : List ℕ) : Type 0 where
  pub parameters : List ℕ
  pub intermediates : List ℕ
  pub spelled : body ≡ parameters ++ intermediates
  pub each_parameter : AllByRecursion IsParameter parameters
  pub each_intermediate : AllByRecursion IsIntermediate intermediates

front_but_last : (xs more is : List ℕ) (f : ℕ) → 0 < length more → AllByRecursion IsIntermediate is → xs ++ more ≡ is ++ f ∷ [] → AllByRecursion IsIntermediate xs
front_but_last [] more is f some h e = tt
front_but_last (x ∷ xs) more [] f some h e =
    let none : more ≡ [] = nothing_behind xs more (cc) in absurd (omega (arith, ap length none))
front_but_last (x ∷ xs) more (i ∷ is) f some h e =
    let same : i ≡ x = cc in (subst IsIntermediate same h.0, front_but_last xs more is f some h.1 (cc))

body_front : (xs more ps is : List ℕ) (f : ℕ) → 0 < length more → AllByRecursion IsParameter ps → AllByRecursion IsIntermediate is
    → xs ++ more ≡ ps ++ (is ++ f ∷ []) → IsBody xs
body_front xs more [] is f some hp hi e = record {
  parameters = [];
  intermediates = xs;
  spelled = refl;
  each_parameter = tt;
  each_intermediate = front_but_last xs more is f some hi e;
}
body_front [] more (p ∷ ps) is f some hp hi e = record { parameters = []; intermediates = []; spelled = refl; each_parameter = tt; each_intermediate = tt }
body_front (x ∷ xs) more (p ∷ ps) is f some hp hi e =
    let same : p ≡ x = cc in
    let b : IsBody xs = body_front xs more ps is f some hp.1 hi (cc) in
    record {
      parameters = x ∷ b.parameters;
      intermediates = b.intermediates;
      spelled = ap (λ (l : List ℕ). x ∷ l) b.spelled;
      each_parameter = (subst IsParameter same hp.0, b.each_parameter);
      each_intermediate = b.each_intermediate;
    }

all_middle : (P : ℕ → Type 0) (xs : List ℕ) (y : ℕ) (zs : List ℕ) → AllByRecursion P (xs ++ y ∷ zs) → P y
all_middle P [] y zs h = h.0
all_middle P (x ∷ xs) y zs h = all_middle P xs y zs h.1

pub control_escape : (b : ℕ) (bytes : List ℕ) → IsControlSequence (b ∷ bytes) → b ≡ 27
control_escape b bytes h = let e : b ∷ bytes ≡ 27 ∷ 91 ∷ (h.parameters ++ (h.intermediates ++ h.final ∷ [])) = h.spelled in cc

pub control_second : (b d : ℕ) (bytes : List ℕ) → IsControlSequence (b ∷ d ∷ bytes) → d ≡ 91
control_second b d bytes h = let e : b ∷ d ∷ bytes ≡ 27 ∷ 91 ∷ (h.parameters ++ (h.intermediates ++ h.final ∷ [])) = h.spelled in cc

control_long : (b : ℕ) → IsControlSequence (b ∷ []) → ⊥
control_long b h = let e : b ∷ [] ≡ 27 ∷ 91 ∷ (h.parameters ++ (h.intermediates ++ h.final ∷ [])) = h.spelled in cc

-- the bytes after ESC
behind_escape : (b : ℕ) (bytes is : List ℕ) (f : ℕ) → b ∷ bytes ≡ 27 ∷ (is ++ f ∷ []) → bytes ≡ is ++ f ∷ []
behind_escape b bytes is f e = cc

escape_escape : (b : ℕ) (bytes : List ℕ) → IsEscapeSequence (b ∷ bytes) → b ≡ 27
escape_escape b bytes h = let e : b ∷ bytes ≡ 27 ∷ (h.intermediates ++ h.final ∷ []) = h.spelled in cc

escape_long : (b : ℕ) → IsEscapeSequence (b ∷ []) → ⊥
escape_long b h = none h.intermediates h.final (behind_escape b [] h.intermediates h.final h.spelled)
  where
    none : (is : List ℕ) (f : ℕ) → [] ≡ is ++ f ∷ [] → ⊥
    none [] f e = cc
    none (i ∷ is) f e = cc

not_bracket : (y : ℕ) (bytes is : List ℕ) (f : ℕ) → AllByRecursion IsIntermediate is → (is ≡ [] → IsIntroducer f → ⊥) → y ∷ bytes ≡ is ++ f ∷ [] → y ≡ 91 → ⊥
not_bracket y bytes [] f hi n e b = let same : f ≡ y = cc in n refl (inr (inr (inl (same ∙ b))))
not_bracket y bytes (i ∷ is) f hi n e b = let same : i ≡ y = cc in omega (arith, same, b, hi.0.1)

-- a control sequence isn't an escape sequence
pub escape_second : (x y : ℕ) (bytes : List ℕ) → IsEscapeSequence (x ∷ y ∷ bytes) → y ≡ 91 → ⊥
escape_second x y bytes h = not_bracket y bytes h.intermediates h.final h.each_intermediate h.introduces_nothing (behind_escape x (y ∷ bytes) h.intermediates h.final h.spelled)

-- a prefix of two bytes or more of a control sequence
pub record IsInside (first second : ℕ) (bytes : List ℕ) : Type 0 where
  pub escape : first ≡ 27
  pub introducer : second ≡ 91
  pub body : IsBody bytes
  pub short : length bytes ≤ 253

pub inside : (x y : ℕ) (bytes : List ℕ) → y ≡ 91 → IsOpen (x ∷ y ∷ bytes) → IsInside x y bytes
inside x y bytes bracket h = elim h.whole [
  | inl w ↦ (let e : x ∷ y ∷ (bytes ++ h.more) ≡ 27 ∷ 91 ∷ (w.parameters ++ (w.intermediates ++ w.final ∷ [])) = w.spelled in
      record {
        escape = cc;
        introducer = bracket;
        body = body_front bytes h.more w.parameters w.intermediates w.final h.some w.each_parameter w.each_intermediate (cc);
        short = omega (arith, w.short, h.some, length-append bytes h.more);
      })
  | inr w ↦ absurd (escape_second x y (bytes ++ h.more) w bracket)
]

-- a prefix of two bytes or more of an escape sequence
pub record IsStem (first second : ℕ) (bytes : List ℕ) : Type 0 where
  pub escape : first ≡ 27
  pub each : AllByRecursion IsIntermediate (second ∷ bytes)
  pub short : length bytes ≤ 253

pub stem : (x y : ℕ) (bytes : List ℕ) → (y ≡ 91 → ⊥) → IsOpen (x ∷ y ∷ bytes) → IsStem x y bytes
stem x y bytes other h = elim h.whole [
  | inl w ↦ absurd (other (control_second x y (bytes ++ h.more) w))
  | inr w ↦ record {
    escape = escape_escape x (y ∷ (bytes ++ h.more)) w;
    each = front_but_last (y ∷ bytes) h.more w.intermediates w.final h.some w.each_intermediate (behind_escape x (y ∷ (bytes ++ h.more)) w.intermediates w.final w.spelled);
    short = omega (arith, w.short, h.some, length-append bytes h.more);
  }
]

-- a body ends in an intermediate byte, or is all parameters
pub kind_of_last : (xs : List ℕ) (b : ℕ) (ps is : List ℕ) → AllByRecursion IsParameter ps → AllByRecursion IsIntermediate is → xs ++ b ∷ [] ≡ ps ++ is
    → IsIntermediate b ⊎ (IsParameter b × AllByRecursion IsParameter xs)
kind_of_last xs b [] is hp hi e = inl (all_last IsIntermediate xs b (subst (AllByRecursion IsIntermediate) (sym e) hi))
kind_of_last [] b (p ∷ ps) is hp hi e = let same : p ≡ b = cc in inr (subst IsParameter same hp.0, tt)
kind_of_last (x ∷ xs) b (p ∷ ps) is hp hi e =
    let same : p ≡ x = cc in
    elim (kind_of_last xs b ps is hp.1 hi (cc)) [ inl i ↦ inl i | inr k ↦ inr (k.0, (subst IsParameter same hp.0, k.1)) ]

pub only_parameters : (x y : ℕ) (ps is : List ℕ) → AllByRecursion IsParameter ps → AllByRecursion IsIntermediate is
    → (IsIntermediate (get_or (x ∷ y ∷ (ps ++ is)) (length (x ∷ y ∷ (ps ++ is)) - 1) 0) → ⊥) → AllByRecursion IsParameter (ps ++ is)
only_parameters x y ps [] hp hi other = all_append IsParameter ps [] hp tt
only_parameters x y ps (i ∷ is) hp hi other =
    let e : length (x ∷ y ∷ (ps ++ i ∷ is)) - 1 ≡ suc (suc (length ps + length is)) = omega (arith, length-append ps (i ∷ is)) in
    let h : IsIntermediate (get_or (i ∷ is) (length is) 0) = all_at IsIntermediate (i ∷ is) (length is) (omega arith) hi in
    absurd (other (subst (λ (k : ℕ). IsIntermediate (get_or (x ∷ y ∷ (ps ++ i ∷ is)) k 0)) (sym e)
    (subst IsIntermediate (sym (get_or-append-add ps (i ∷ is) (length is) 0)) h)))

pub last_parameter : (x y : ℕ) (body : List ℕ) → y ≡ 91 → AllByRecursion IsParameter body → IsIntermediate (get_or (x ∷ y ∷ body) (length (x ∷ y ∷ body) - 1) 0) → ⊥
last_parameter x y [] e h i = absurd (omega (arith, e, i.1))
last_parameter x y (b ∷ bs) e h i =
    let p : IsParameter (get_or (b ∷ bs) (length bs) 0) = all_at IsParameter (b ∷ bs) (length bs) (omega arith) h in
    let k : length (x ∷ y ∷ b ∷ bs) - 1 ≡ suc (suc (length bs)) = omega arith in
    let j : IsIntermediate (get_or (b ∷ bs) (length bs) 0) = subst (λ (n : ℕ). IsIntermediate (get_or (x ∷ y ∷ b ∷ bs) n 0)) k i in
    absurd (omega (arith, p.0, j.1))

-- a body and a final byte are a control sequence
pub made_whole : (x y : ℕ) (body ps is : List ℕ) (f : ℕ) → x ≡ 27 → y ≡ 91 → body ≡ ps ++ is → AllByRecursion IsParameter ps → AllByRecursion IsIntermediate is → IsFinal f → length body ≤ 253
    → IsControlSequence (x ∷ y ∷ (body ++ f ∷ []))
made_whole x y body ps is f ex ey e hp hi hf short = record {
  parameters = ps;
  intermediates = is;
  final = f;
  spelled = let same : body ++ f ∷ [] ≡ ps ++ (is ++ f ∷ []) = ap (λ (l : List ℕ). l ++ f ∷ []) e ∙ append_assoc ps is (f ∷ []) in cc;
  each_parameter = hp;
  each_intermediate = hi;
  ends = hf;
  short = omega (arith, short, length-append body (f ∷ []));
}

-- intermediate bytes and a final byte are an escape sequence
pub made_escape : (x : ℕ) (is : List ℕ) (f : ℕ) → x ≡ 27 → AllByRecursion IsIntermediate is → IsEscapeFinal f → (is ≡ [] → IsIntroducer f → ⊥) → length is ≤ 254 → IsEscapeSequence (x ∷ (is ++ f ∷ []))
made_escape x is f e hi hf n short = record {
  intermediates = is;
  final = f;
  spelled = ap (λ (y : ℕ). y ∷ (is ++ f ∷ [])) e;
  each_intermediate = hi;
  ends = hf;
  introduces_nothing = n;
  short = omega (arith, short, length-append is (f ∷ []));
}

final_72 : IsFinal 72
final_72 = (omega arith, omega arith)

-- one more byte that leaves a sequence open
pub made_open : (x y b : ℕ) (body ps is : List ℕ) → x ≡ 27 → y ≡ 91 → body ++ b ∷ [] ≡ ps ++ is → AllByRecursion IsParameter ps → AllByRecursion IsIntermediate is → length body + 1 ≤ 253
    → IsOpen (x ∷ y ∷ (body ++ b ∷ []))
made_open x y b body ps is ex ey e hp hi short = record {
  more = 72 ∷ [];
  some = omega arith;
  whole = inl (made_whole x y (body ++ b ∷ []) ps is 72 ex ey e hp hi final_72 (omega (arith, short, length-append body (b ∷ []))));
}

zero_introduces : IsIntroducer 48 → ⊥
zero_introduces h = elim h [ inl a ↦ omega (arith, a) | inr a ↦ elim a [ inl c ↦ omega (arith, c) | inr c ↦ elim c [ inl d ↦ omega (arith, d) | inr d ↦ omega (arith, d.0) ] ] ]

pub stem_open : (x : ℕ) (is : List ℕ) → x ≡ 27 → AllByRecursion IsIntermediate is → length is ≤ 254 → IsOpen (x ∷ is)
stem_open x is e hi short = record {
  more = 48 ∷ [];
  some = omega arith;
  whole = inr (made_escape x is 48 e hi (omega arith, omega arith) (λ p. zero_introduces) short);
}

pub escape_open : (b : ℕ) → b ≡ 27 → IsOpen (b ∷ [])
escape_open b e = stem_open b [] e tt (omega arith)

pub empty_open : IsOpen []
empty_open = record { more = 27 ∷ 48 ∷ []; some = omega arith; whole = inr (made_escape 27 [] 48 refl tt (omega arith, omega arith) (λ p. zero_introduces) (omega arith)) }

pub introducer_open : (x b : ℕ) → x ≡ 27 → b ≡ 91 → IsOpen (x ∷ b ∷ [])
introducer_open x b e k = record {
  more = 72 ∷ [];
  some = omega arith;
  whole = inl (made_whole x b [] [] [] 72 e k refl tt tt final_72 (omega arith));
}

pub sequence_escape : (b : ℕ) (bytes : List ℕ) → IsSequence (b ∷ bytes) → b ≡ 27
sequence_escape b bytes h = elim h [ inl c ↦ control_escape b bytes c | inr e ↦ escape_escape b bytes e ]

pub sequence_long : (b : ℕ) → IsSequence (b ∷ []) → ⊥
sequence_long b h = elim h [ inl c ↦ control_long b c | inr e ↦ escape_long b e ]

pub open_escape : (b : ℕ) (bytes : List ℕ) → IsOpen (b ∷ bytes) → b ≡ 27
open_escape b bytes h = sequence_escape b (bytes ++ h.more) h.whole

pub single_escape : (b : ℕ) → b ≡ 27 → IsPrinted b ⊎ IsControl b → ⊥
single_escape b e h = elim h [ inl p ↦ omega (arith, e, p.0) | inr c ↦ elim c [ inl k ↦ k.1 e | inr k ↦ omega (arith, e, k) ] ]

pub control_final : (x y : ℕ) (body : List ℕ) (b : ℕ) → IsControlSequence (x ∷ y ∷ (body ++ b ∷ [])) → IsFinal b
control_final x y body b h =
    let e : x ∷ y ∷ (body ++ b ∷ []) ≡ 27 ∷ 91 ∷ (h.parameters ++ (h.intermediates ++ h.final ∷ [])) = h.spelled in
    let d : body ++ b ∷ [] ≡ (h.parameters ++ h.intermediates) ++ h.final ∷ [] = (let c : body ++ b ∷ [] ≡ h.parameters ++ (h.intermediates ++ h.final ∷ []) = cc in c ∙ sym (append_assoc h.parameters h.intermediates (h.final ∷ []))) in
    subst IsFinal (sym (same_from_push body (h.parameters ++ h.intermediates) b h.final d).1) h.ends

pub escape_final : (x : ℕ) (bytes : List ℕ) (b : ℕ) → IsEscapeSequence (x ∷ (bytes ++ b ∷ [])) → IsEscapeFinal b × (bytes ≡ [] → IsIntroducer b → ⊥)
escape_final x bytes b h =
    let d : bytes ++ b ∷ [] ≡ h.intermediates ++ h.final ∷ [] = behind_escape x (bytes ++ b ∷ []) h.intermediates h.final h.spelled in
    let same = same_from_push bytes h.intermediates b h.final d in
    (subst IsEscapeFinal (sym same.1) h.ends, λ none i. h.introduces_nothing (sym same.0 ∙ none) (subst IsIntroducer same.1 i))

-- if one final byte follows middle bytes, nothing follows it
one_end : (limit : ℕ) (front : List ℕ) (f : ℕ) (behind middle : List ℕ) (g : ℕ) → AllByRecursion (λ b. b < limit) middle → limit ≤ f → front ++ f ∷ behind ≡ middle ++ g ∷ [] → behind ≡ []
one_end limit [] f behind [] g h k e = cc
one_end limit [] f behind (m ∷ ms) g h k e = let same : f ≡ m = cc in absurd (omega (arith, same, h.0))
one_end limit (x ∷ xs) f behind [] g h k e =
    let none : f ∷ behind ≡ [] = nothing_behind xs (f ∷ behind) (cc) in cc
one_end limit (x ∷ xs) f behind (m ∷ ms) g h k e = one_end limit xs f behind ms g h.1 k (cc)

pub middle : (ps is : List ℕ) → AllByRecursion IsParameter ps → AllByRecursion IsIntermediate is → AllByRecursion (λ b. b < 64) (ps ++ is)
middle ps is hp hi = all_append (λ b. b < 64) ps is (all_weaker IsParameter (λ b. b < 64) (λ b h. omega (arith, h.1)) ps hp) (all_weaker IsIntermediate (λ b. b < 64) (λ b h. omega (arith, h.1)) is hi)

-- no sequence is a proper prefix of another
control_ends : (bytes more : List ℕ) → IsControlSequence bytes → IsControlSequence (bytes ++ more) → more ≡ []
control_ends bytes more h k =
    let e : bytes ++ more ≡ 27 ∷ 91 ∷ (k.parameters ++ (k.intermediates ++ k.final ∷ [])) = k.spelled in
    let d : bytes ++ more ≡ 27 ∷ 91 ∷ (h.parameters ++ (h.intermediates ++ h.final ∷ [])) ++ more = ap (λ (l : List ℕ). l ++ more) h.spelled in
    let a : 27 ∷ 91 ∷ (h.parameters ++ (h.intermediates ++ h.final ∷ [])) ++ more ≡ 27 ∷ 91 ∷ ((h.parameters ++ h.intermediates) ++ h.final ∷ more)
    = ap (λ (l : List ℕ). 27 ∷ 91 ∷ l) (append_assoc h.parameters (h.intermediates ++ h.final ∷ []) more ∙ ap (λ (l : List ℕ). h.parameters ++ l) (append_assoc h.intermediates (h.final ∷ []) more) ∙ sym (append_assoc h.parameters h.intermediates (h.final ∷ more))) in
    let b : k.parameters ++ (k.intermediates ++ k.final ∷ []) ≡ (k.parameters ++ k.intermediates) ++ k.final ∷ [] = sym (append_assoc k.parameters k.intermediates (k.final ∷ [])) in
    one_end 64 (h.parameters ++ h.intermediates) h.final more (k.parameters ++ k.intermediates) k.final
    (middle _ _ k.each_parameter k.each_intermediate) (omega (arith, h.ends.0)) (cc)

escape_ends : (bytes more : List ℕ) → IsEscapeSequence bytes → IsEscapeSequence (bytes ++ more) → more ≡ []
escape_ends bytes more h k =
    let e : bytes ++ more ≡ 27 ∷ (k.intermediates ++ k.final ∷ []) = k.spelled in
    let d : bytes ++ more ≡ 27 ∷ (h.intermediates ++ h.final ∷ []) ++ more = ap (λ (l : List ℕ). l ++ more) h.spelled in
    let a : (h.intermediates ++ h.final ∷ []) ++ more ≡ h.intermediates ++ h.final ∷ more = append_assoc h.intermediates (h.final ∷ []) more in
    one_end 48 h.intermediates h.final more k.intermediates k.final
    (all_weaker IsIntermediate (λ b. b < 48) (λ b h. omega (arith, h.1)) k.intermediates k.each_intermediate) (omega (arith, h.ends.0)) (cc)

sequence_ends : (x y : ℕ) (bytes more : List ℕ) → IsSequence (x ∷ y ∷ bytes) → IsSequence (x ∷ y ∷ (bytes ++ more)) → more ≡ []
sequence_ends x y bytes more h k = elim h [
  | inl c ↦ elim k [ inl d ↦ control_ends (x ∷ y ∷ bytes) more c d | inr e ↦ absurd (escape_second x y (bytes ++ more) e (control_second x y bytes c)) ]
  | inr e ↦ elim k [ inl d ↦ absurd (escape_second x y bytes e (control_second x y (bytes ++ more) d)) | inr f ↦ escape_ends (x ∷ y ∷ bytes) more e f ]
]

-- a token that is whole is not empty
whole_some : (t : List ℕ) → IsWhole t → 0 < length t
whole_some [] h = elim h [
  | inl s ↦ absurd s
  | inr q ↦ elim q [
    | inl c ↦ (let e : [] ≡ 27 ∷ 91 ∷ (c.parameters ++ (c.intermediates ++ c.final ∷ [])) = c.spelled in absurd (cc))
    | inr c ↦ (let e : [] ≡ 27 ∷ (c.intermediates ++ c.final ∷ []) = c.spelled in absurd (cc))
  ]
]
whole_some (x ∷ xs) h = omega arith

-- no whole token is a proper prefix of another
whole_ends : (t more : List ℕ) → IsWhole t → IsWhole (t ++ more) → more ≡ []
whole_ends [] more h k = absurd (omega (arith, whole_some [] h))
whole_ends (b ∷ []) [] h k = refl
whole_ends (b ∷ []) (c ∷ more) h k = elim h [
  | inl s ↦ elim k [ inl t ↦ absurd t | inr q ↦ absurd (single_escape b (sequence_escape b (c ∷ more) q) s) ]
  | inr q ↦ absurd (sequence_long b q)
]
whole_ends (b ∷ d ∷ bytes) more h k = elim h [ inl s ↦ absurd s | inr q ↦ elim k [ inl t ↦ absurd t | inr r ↦ sequence_ends b d bytes more q r ] ]

-- no whole token is a prefix of an open sequence
whole_not_open : (t more : List ℕ) → IsWhole t → IsOpen (t ++ more) → ⊥
whole_not_open t more h k =
    let w : IsSequence (t ++ (more ++ k.more)) = subst IsSequence (append_assoc t more k.more) k.whole in
    let none : more ++ k.more ≡ [] = whole_ends t (more ++ k.more) h (inr w) in
    omega (arith, k.some, ap length (nothing_behind more k.more none))

-- after its first byte a sequence has no controls
sequence_tail : (x : ℕ) (xs : List ℕ) → IsSequence (x ∷ xs) → AllByRecursion (λ b. 32 ≤ b) xs
sequence_tail x xs h = elim h [
  | inl c ↦ (let e : x ∷ xs ≡ 27 ∷ 91 ∷ (c.parameters ++ (c.intermediates ++ c.final ∷ [])) = c.spelled in
      let same : xs ≡ 91 ∷ (c.parameters ++ (c.intermediates ++ c.final ∷ [])) = cc in
      subst (AllByRecursion (λ b. 32 ≤ b)) (sym same) (
        omega arith,
        all_append (λ b. 32 ≤ b) c.parameters (c.intermediates ++ c.final ∷ [])
            (all_weaker IsParameter (λ b. 32 ≤ b) (λ b h. omega (arith, h.0)) c.parameters c.each_parameter)
            (all_append (λ b. 32 ≤ b) c.intermediates (c.final ∷ []) (all_weaker IsIntermediate (λ b. 32 ≤ b) (λ b h. omega (arith, h.0)) c.intermediates c.each_intermediate) (omega (arith, c.ends.0), tt)),
      ))
  | inr c ↦ subst (AllByRecursion (λ b. 32 ≤ b)) (sym (behind_escape x xs c.intermediates c.final c.spelled))
      (all_append (λ b. 32 ≤ b) c.intermediates (c.final ∷ []) (all_weaker IsIntermediate (λ b. 32 ≤ b) (λ b h. omega (arith, h.0)) c.intermediates c.each_intermediate) (omega (arith, c.ends.0), tt))
]

cut_low : (b : ℕ) → Cuts b → b < 32
cut_low b h = elim h [ inl e ↦ omega (arith, e) | inr o ↦ elim o [ inl e ↦ omega (arith, e) | inr e ↦ omega (arith, e) ] ]

no_cut_inside : (t u : List ℕ) → 0 < length t → IsCutBy u → IsSequence (t ++ u) → ⊥
no_cut_inside [] u some cut h = absurd (omega arith)
no_cut_inside (x ∷ xs) [] some cut h = cut
no_cut_inside (x ∷ xs) (b ∷ u) some cut h = omega (arith, cut_low b cut, all_middle (λ b. 32 ≤ b) xs b u (sequence_tail x (xs ++ b ∷ u) h))

cut_more : (u v : List ℕ) → IsCutBy u → IsCutBy (u ++ v)
cut_more [] v h = absurd h
cut_more (b ∷ u) v h = h

pub no_cut_open : (t u : List ℕ) → 0 < length t → IsCutBy u → IsOpen (t ++ u) → ⊥
no_cut_open t u some cut o = no_cut_inside t (u ++ o.more) some (cut_more u o.more cut) (subst IsSequence (append_assoc t u o.more) o.whole)

single_short : (t : List ℕ) (y : ℕ) (ys : List ℕ) → 0 < length t → IsSingle (t ++ y ∷ ys) → ⊥
single_short [] y ys some s = absurd (omega arith)
single_short (x ∷ []) y ys some s = s
single_short (x ∷ z ∷ xs) y ys some s = s

-- no token is a proper prefix of another, nor a prefix of an open sequence
pub token_ends : (t x after : List ℕ) → IsToken t (x ++ after) → IsToken (t ++ x) after → x ≡ []
token_ends t [] after h k = refl
token_ends t (y ∷ ys) after h k = elim h [
  | inl w ↦ elim k [ inl v ↦ whole_ends t (y ∷ ys) w v | inr d ↦ absurd (whole_not_open t (y ∷ ys) w d.fits) ]
  | inr d ↦ absurd (elim k [
    | inl v ↦ elim v [ inl s ↦ single_short t y ys d.some s | inr q ↦ no_cut_inside t (y ∷ ys) d.some d.cut q ]
    | inr e ↦ no_cut_open t (y ∷ ys) d.some d.cut e.fits
  ])
]

pub token_not_open : (t more : List ℕ) → IsToken t more → IsOpen (t ++ more) → ⊥
token_not_open t more h k = elim h [ inl w ↦ whole_not_open t more w k | inr d ↦ no_cut_open t more d.some d.cut k ]

-- a token stays a token if more follows
pub token_stays : (t behind more : List ℕ) → IsToken t behind → IsToken t (behind ++ more)
token_stays t behind more h = elim h [ inl w ↦ inl w | inr d ↦ inr (record { some = d.some; fits = d.fits; cut = cut_more behind more d.cut }) ]

-- a token stays a token if less follows, but at least one byte
pub token_before : (t : List ℕ) (b : ℕ) (behind more : List ℕ) → IsToken t (b ∷ (behind ++ more)) → IsToken t (b ∷ behind)
token_before t b behind more h = elim h [ inl w ↦ inl w | inr d ↦ inr (record { some = d.some; fits = d.fits; cut = d.cut }) ]

-- a prefix of an open sequence is open
pub open_front : (xs ys : List ℕ) → IsOpen (xs ++ ys) → IsOpen xs
open_front xs ys h = record { more = ys ++ h.more; some = omega (arith, h.some, length-append ys h.more); whole = subst IsSequence (append_assoc xs ys h.more) h.whole }

-- a proper prefix of a token is open
pub token_front : (xs ys behind : List ℕ) → 0 < length ys → IsToken (xs ++ ys) behind → IsOpen xs
token_front [] ys behind h k = empty_open
token_front (x ∷ xs) ys behind h k = elim k [
  | inl w ↦ elim w [ inl s ↦ front_of_single x xs ys h s | inr q ↦ record { more = ys; some = h; whole = q } ]
  | inr d ↦ open_front (x ∷ xs) ys d.fits
]
  where
    front_of_single : (x : ℕ) (xs ys : List ℕ) → 0 < length ys → IsSingle (x ∷ (xs ++ ys)) → IsOpen (x ∷ xs)
    front_of_single x [] [] h s = absurd (omega arith)
    front_of_single x [] (y ∷ ys) h s = absurd s
    front_of_single x (z ∷ xs) ys h s = absurd s
