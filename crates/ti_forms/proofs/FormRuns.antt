-- The runs of the standard's strings with numbers, part by part.
use Rattle.std.proofs.Common.{◌≡◌, ◌<◌, ◌≤◌, ◌+◌, ◌-◌, ◌==◌, ◌&&◌, ◌^◌, ℕ, pos, Bool, true, false, cond, List, [], ◌∷◌, ◌++◌, length, Result, Ok, None, refl, sym, ap, ◌∙◌, arith, append-nil, append_assoc, lit<, get_or, subst}
use Rattle.std.specs.Prelude.{replicate, ◌+ℤ◌}
use Rattle.std.specs.Prelude.{◌≢◌}
use Rattle.std.specs.Fmt.{decimal}
use Rattle.std.specs.List.{AllByRecursion}
use Rattle.std.proofs.lemmas.Fmt.{decimal_nonempty}
use Rattle.std.proofs.lemmas.List.{get_or-replicate}
use Rattle.vt_term.specs.Text.{IsParameter}
use Rattle.vt_term.proofs.Moves.{spells}
use Rattle.ti_parm.specs.declared.code.Action.TheVariants.{Literal, Parameter, Increment, Show}
use Rattle.ti_parm.specs.declared.formats.Format.{Format}
use Rattle.ti_parm.specs.declared.formats.Conversion.TheVariants.{Decimal}
use Rattle.ti_parm.specs.declared.fault.ParmFault.{ParmFault}
use Rattle.ti_parm.specs.declared.uses.FirstUse.TheVariants.{Unused, ReadFirst}
use Rattle.ti_parm.specs.Fault.{◌>>=◌}
use Rattle.ti_parm.specs.Codes.{code_at, format_of, no_flags}
use Rattle.ti_parm.specs.Operators.{fitting}
use Rattle.ti_parm.specs.Formats.{digits_shown, laid_out, magnitude, number_shown, padded}
use Rattle.ti_parm.specs.Syntax.{Act, Parts, Done, Next, ahead_in, syntax}
use Rattle.ti_parm.specs.Value.{Value, Number, nine, zeros}
use Rattle.ti_parm.specs.Meaning.{State, act, meaning, run, run_part, sent, start_of, ReadsUnset}
use Rattle.ti_parm.specs.Delays.{HasNoOpening, strip}
use Rattle.ti_parm.proofs.FormatFacts.{shown-by}
use Rattle.ti_parm.proofs.Strips.{strip-undelayed}
use Rattle.ti_forms.specs.Forms.{number_string, place_string, places_string, with_number, with_numbers}

-- %d
plain : Format
plain = format_of no_flags 0 None Decimal

literal : ℕ → Parts → Parts
literal b parts = Next (Act (Literal b)) parts

-- the parts of a string
pub number_parts : ℕ → Parts
number_parts last = literal 27 (literal 91 (Next (Act (Parameter 0)) (Next (Act (Show plain)) (literal last Done))))

pub place_parts : ℕ → Parts
place_parts last =
    literal 27 (literal 91 (Next (Act Increment) (Next (Act (Parameter 0)) (Next (Act (Show plain)) (literal last Done)))))

pub places_parts : ℕ → Parts
places_parts last = literal 27 (literal 91 (Next (Act Increment) (Next (Act (Parameter 0)) (Next (Act (Show plain))
    (literal 59 (Next (Act (Parameter 1)) (Next (Act (Show plain)) (literal last Done))))))))

pub has_A : syntax (number_string 65) ≡ Ok (number_parts 65)
unfolding syntax ahead_in code_at plain literal number_parts
has_A = refl

pub has_B : syntax (number_string 66) ≡ Ok (number_parts 66)
unfolding syntax ahead_in code_at plain literal number_parts
has_B = refl

pub has_C : syntax (number_string 67) ≡ Ok (number_parts 67)
unfolding syntax ahead_in code_at plain literal number_parts
has_C = refl

pub has_D : syntax (number_string 68) ≡ Ok (number_parts 68)
unfolding syntax ahead_in code_at plain literal number_parts
has_D = refl

pub has_X : syntax (number_string 88) ≡ Ok (number_parts 88)
unfolding syntax ahead_in code_at plain literal number_parts
has_X = refl

pub has_G : syntax (place_string 71) ≡ Ok (place_parts 71)
unfolding syntax ahead_in code_at plain literal place_parts
has_G = refl

pub has_d : syntax (place_string 100) ≡ Ok (place_parts 100)
unfolding syntax ahead_in code_at plain literal place_parts
has_d = refl

pub has_H : syntax (places_string 72) ≡ Ok (places_parts 72)
unfolding syntax ahead_in code_at plain literal places_parts
has_H = refl

pub has_r : syntax (places_string 114) ≡ Ok (places_parts 114)
unfolding syntax ahead_in code_at plain literal places_parts
has_r = refl

-- a state of its run
pub at : ℕ → ℕ → List Value → List ℕ → State
at m n stack output = record {
  params = Number (pos m) ∷ Number (pos n) ∷ replicate 7 (Number (pos 0));
  dynamics = zeros;
  statics = zeros;
  first_uses = replicate 26 Unused;
  stack = stack;
  output = output;
}

run_literal : (b : ℕ) (parts : Parts) (m n : ℕ) (stack : List Value) (output : List ℕ) → run (literal b parts) (at m n stack output) ≡ run parts (at m n stack (output ++ b ∷ []))
unfolding run run_part act at literal
run_literal b parts m n stack output = refl

run_first : (parts : Parts) (m n : ℕ) (stack : List Value) (output : List ℕ) → run (Next (Act (Parameter 0)) parts) (at m n stack output) ≡ run parts (at m n (Number (pos m) ∷ stack) output)
unfolding run run_part act at
run_first parts m n stack output = refl

run_second : (parts : Parts) (m n : ℕ) (stack : List Value) (output : List ℕ) → run (Next (Act (Parameter 1)) parts) (at m n stack output) ≡ run parts (at m n (Number (pos n) ∷ stack) output)
unfolding run run_part act at
run_second parts m n stack output = refl

fits : (n : ℕ) → n < 65536 → fitting (pos n +ℤ pos 1) ≡ Ok (pos (n + 1))
fits n h = grind (arith, h)

run_increment : (parts : Parts) (m n : ℕ) (stack : List Value) (output : List ℕ) → m < 65536 → n < 65536 → run (Next (Act Increment) parts) (at m n stack output) ≡ run parts (at (m + 1) (n + 1) stack output)
unfolding run run_part act at
run_increment parts m n stack output h k = rw (fits m h, fits n k) refl

and_false : (b : Bool) → (b && false) ≡ false
and_false true = refl
and_false false = refl

digits_alone : (n : ℕ) → decimal n ≡ digits_shown plain (magnitude Decimal (pos n))
unfolding plain
digits_alone n = sym (ap (λ (b : Bool). cond b [] (decimal n)) (and_false (n == 0)))

padded_alone : (text : List ℕ) → padded plain [] 0 text ≡ text
unfolding plain
padded_alone text =
    let none : 0 - (0 + 0 + length text) ≡ 0 = omega arith in
    ap (λ (room : ℕ). laid_out room [] 0 text 0) none ∙ append-nil text

shows : (n : ℕ) → n < 65537 → number_shown plain (pos n) ≡ decimal n
unfolding plain
shows n h =
    let some : 0 < length (decimal n) = decimal_nonempty n (omega (arith, h, lit< {m = 65537} {n = 2 ^ 64} tt)) in
    sym (shown-by plain (pos n) [] 0 (decimal n) (digits_alone n) (omega (arith, some)) refl) ∙ padded_alone (decimal n)

run_show : (parts : Parts) (m n k : ℕ) (stack : List Value) (output : List ℕ) → k < 65537 → run (Next (Act (Show plain)) parts) (at m n (Number (pos k) ∷ stack) output) ≡ run parts (at m n stack (output ++ decimal k))
unfolding run run_part act at plain
run_show parts m n k stack output h = ap (λ (text : List ℕ). run parts (at m n stack (output ++ text))) (shows k h)

-- the bytes written, one part after another
written : ℕ → ℕ → ℕ → List ℕ
written m n last = ((((([] ++ 27 ∷ []) ++ 91 ∷ []) ++ decimal m) ++ 59 ∷ []) ++ decimal n) ++ last ∷ []

written_so : (m n last : ℕ) → written m n last ≡ with_numbers m n last
unfolding written
written_so m n last =
    append_assoc (((27 ∷ 91 ∷ decimal m) ++ 59 ∷ [])) (decimal n) (last ∷ [])
    ∙ append_assoc (27 ∷ 91 ∷ decimal m) (59 ∷ []) (decimal n ++ last ∷ [])

run_number : (last n : ℕ) → n < 65536 → run (number_parts last) (at n 0 [] []) ≡ Ok (at n 0 [] (with_number n last))
unfolding number_parts
run_number last n h =
    run_literal 27 _ n 0 [] []
    ∙ run_literal 91 _ n 0 [] (27 ∷ [])
    ∙ run_first _ n 0 [] (27 ∷ 91 ∷ [])
    ∙ run_show _ n 0 n [] (27 ∷ 91 ∷ []) (omega (arith, h))
    ∙ run_literal last _ n 0 [] (27 ∷ 91 ∷ decimal n)
    ∙ (unfold run in refl)

run_place : (last n : ℕ) → n < 65536 → run (place_parts last) (at n 0 [] []) ≡ Ok (at (n + 1) (0 + 1) [] (with_number (n + 1) last))
unfolding place_parts
run_place last n h =
    run_literal 27 _ n 0 [] []
    ∙ run_literal 91 _ n 0 [] (27 ∷ [])
    ∙ run_increment _ n 0 [] (27 ∷ 91 ∷ []) h (omega arith)
    ∙ run_first _ (n + 1) (0 + 1) [] (27 ∷ 91 ∷ [])
    ∙ run_show _ (n + 1) (0 + 1) (n + 1) [] (27 ∷ 91 ∷ []) (omega (arith, h))
    ∙ run_literal last _ (n + 1) (0 + 1) [] (27 ∷ 91 ∷ decimal (n + 1))
    ∙ (unfold run in refl)

run_places : (last m n : ℕ) → m < 65536 → n < 65536 → run (places_parts last) (at m n [] []) ≡ Ok (at (m + 1) (n + 1) [] (written (m + 1) (n + 1) last))
unfolding places_parts written
run_places last m n h k =
    run_literal 27 _ m n [] []
    ∙ run_literal 91 _ m n [] (27 ∷ [])
    ∙ run_increment _ m n [] (27 ∷ 91 ∷ []) h k
    ∙ run_first _ (m + 1) (n + 1) [] (27 ∷ 91 ∷ [])
    ∙ run_show _ (m + 1) (n + 1) (m + 1) [] (27 ∷ 91 ∷ []) (omega (arith, h))
    ∙ run_literal 59 _ (m + 1) (n + 1) [] (27 ∷ 91 ∷ decimal (m + 1))
    ∙ run_second _ (m + 1) (n + 1) [] ((27 ∷ 91 ∷ decimal (m + 1)) ++ 59 ∷ [])
    ∙ run_show _ (m + 1) (n + 1) (n + 1) [] ((27 ∷ 91 ∷ decimal (m + 1)) ++ 59 ∷ []) (omega (arith, k))
    ∙ run_literal last _ (m + 1) (n + 1) [] (((27 ∷ 91 ∷ decimal (m + 1)) ++ 59 ∷ []) ++ decimal (n + 1))
    ∙ (unfold run in refl)

begins_one : (n : ℕ) → start_of (Number (pos n) ∷ []) zeros ≡ at n 0 [] []
unfolding at nine
begins_one n = refl

begins_two : (m n : ℕ) → start_of (Number (pos m) ∷ Number (pos n) ∷ []) zeros ≡ at m n [] []
unfolding at nine
begins_two m n = refl

-- a string with these parts, run from the start
run_means : (string : List ℕ) (parts : Parts) (values : List Value) (before : State) (r : Result State ParmFault) → syntax string ≡ Ok parts → start_of values zeros ≡ before → run parts before ≡ r → meaning string values zeros ≡ r
unfolding meaning
run_means string parts values before r p b e =
    ap (λ (found : Result Parts ParmFault). found >>= λ all. run all (start_of values zeros)) p
    ∙ ap (λ (s : State). run parts s) b
    ∙ e

-- no byte of it begins a delay
no_opening : (text : List ℕ) → AllByRecursion (λ b. b ≢ 36) text → HasNoOpening text
no_opening [] h = tt
no_opening (b ∷ []) h = tt
no_opening (b ∷ c ∷ rest) h = ((λ e f. h.0 e), no_opening (c ∷ rest) h.1)

all_join : (P : ℕ → Type 0) (xs ys : List ℕ) → AllByRecursion P xs → AllByRecursion P ys → AllByRecursion P (xs ++ ys)
all_join P [] ys h k = k
all_join P (x ∷ xs) ys h k = (h.0, all_join P xs ys h.1 k)

not_dollar : (xs : List ℕ) → AllByRecursion IsParameter xs → AllByRecursion (λ b. b ≢ 36) xs
not_dollar [] h = tt
not_dollar (x ∷ xs) h = (let low : 0x30 ≤ x = h.0.0 in λ e. omega (arith, low, e), not_dollar xs h.1)

not_dollars : (n : ℕ) → n < 65537 → AllByRecursion (λ b. b ≢ 36) (decimal n)
not_dollars n h = not_dollar (decimal n) (spells n (omega (arith, h, lit< {m = 65537} {n = 2 ^ 64} tt))).parameters

number_undelayed : (n last : ℕ) → n < 65537 → last ≢ 36 → HasNoOpening (with_number n last)
number_undelayed n last h l = no_opening (with_number n last)
    ((λ e. cc), ((λ e. cc), all_join (λ b. b ≢ 36) (decimal n) (last ∷ []) (not_dollars n h) (l, tt)))

numbers_undelayed : (m n last : ℕ) → m < 65537 → n < 65537 → last ≢ 36 → HasNoOpening (with_numbers m n last)
numbers_undelayed m n last h k l = no_opening (with_numbers m n last) (
  (λ e. cc),
  (
    (λ e. cc),
    all_join (λ b. b ≢ 36) (decimal m) (59 ∷ (decimal n ++ last ∷ [])) (not_dollars m h)
        ((λ e. cc), all_join (λ b. b ≢ 36) (decimal n) (last ∷ []) (not_dollars n k) (l, tt)),
  ),
)

-- the string's run ends with these bytes, which hold no delay
pub record Ends (string : List ℕ) (values : List Value) (bytes : List ℕ) : Type 0 where
  pub first : ℕ
  pub second : ℕ
  pub means : meaning string values zeros ≡ Ok (at first second [] bytes)
  pub undelayed : HasNoOpening bytes

pub number_ends : (last n : ℕ) → syntax (number_string last) ≡ Ok (number_parts last) → n < 65536 → last ≢ 36 → Ends (number_string last) (Number (pos n) ∷ []) (with_number n last)
number_ends last n p h l = record {
  first = n;
  second = 0;
  means = run_means (number_string last) (number_parts last) (Number (pos n) ∷ []) (at n 0 [] []) (Ok (at n 0 [] (with_number n last))) p (begins_one n) (run_number last n h);
  undelayed = number_undelayed n last (omega (arith, h)) l;
}

pub place_ends : (last n : ℕ) → syntax (place_string last) ≡ Ok (place_parts last) → n < 65536 → last ≢ 36 → Ends (place_string last) (Number (pos n) ∷ []) (with_number (n + 1) last)
place_ends last n p h l = record {
  first = n + 1;
  second = 0 + 1;
  means = run_means (place_string last) (place_parts last) (Number (pos n) ∷ []) (at n 0 [] []) (Ok (at (n + 1) (0 + 1) [] (with_number (n + 1) last))) p (begins_one n) (run_place last n h);
  undelayed = number_undelayed (n + 1) last (omega (arith, h)) l;
}

pub places_ends : (last m n : ℕ) → syntax (places_string last) ≡ Ok (places_parts last) → m < 65536 → n < 65536 → last ≢ 36 → Ends (places_string last) (Number (pos m) ∷ Number (pos n) ∷ []) (with_numbers (m + 1) (n + 1) last)
places_ends last m n p h k l = record {
  first = m + 1;
  second = n + 1;
  means = run_means (places_string last) (places_parts last) (Number (pos m) ∷ Number (pos n) ∷ []) (at m n [] []) (Ok (at (m + 1) (n + 1) [] (with_numbers (m + 1) (n + 1) last))) p (begins_two m n) (run_places last m n h k ∙ ap (λ (text : List ℕ). Ok (at (m + 1) (n + 1) [] text)) (written_so (m + 1) (n + 1) last));
  undelayed = numbers_undelayed (m + 1) (n + 1) last (omega (arith, h)) (omega (arith, k)) l;
}

output_of : (m n : ℕ) (bytes : List ℕ) → (at m n [] bytes).output ≡ bytes
unfolding at
output_of m n bytes = refl

pub ends_sent : (string : List ℕ) (values : List Value) (bytes : List ℕ) → Ends string values bytes → sent string values ≡ Ok bytes
ends_sent string values bytes e =
    ap (λ (r : Result State ParmFault). r >>= λ end. Ok (strip end.output)) e.means
    ∙ ap (λ (text : List ℕ). Ok (strip text)) (output_of e.first e.second bytes)
    ∙ ap (λ (text : List ℕ). Ok text) (strip-undelayed bytes e.undelayed)

unused : (k : ℕ) → k < 26 → get_or (replicate 26 Unused) k ReadFirst ≡ ReadFirst → ⊥
unused k h e = let other : get_or (replicate 26 Unused) k ReadFirst ≡ Unused = get_or-replicate 26 k Unused ReadFirst h in cc

reads_none : (m n : ℕ) (bytes : List ℕ) → ReadsUnset (at m n [] bytes) → ⊥
unfolding at
reads_none m n bytes (i, below, reads) = unused i below reads

at_end : (end last : State) (r : Result State ParmFault) → r ≡ Ok end → r ≡ Ok last → end ≡ last
at_end end last r e f = cc

pub ends_unread : (string : List ℕ) (values : List Value) (bytes : List ℕ) (end : State) → Ends string values bytes → meaning string values zeros ≡ Ok end → ReadsUnset end → ⊥
ends_unread string values bytes end e m reads =
    reads_none e.first e.second bytes (subst (λ (s : State). ReadsUnset s) (at_end end (at e.first e.second [] bytes) (meaning string values zeros) m e.means) reads)
