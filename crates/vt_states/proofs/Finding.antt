-- The kinds found in a text are those of its tokens.
use Rattle.std.proofs.Common.{◌≡◌, ℕ, ◌+◌, ◌-◌, ◌<◌, ◌≤◌, ◌==◌, ◌&&◌, ◌||◌, nat_le, Bool, true, false, List, [], ◌∷◌, ◌++◌, length, map, take, if◌then◌else◌, Option, None, Some, refl, sym, ap, subst, ◌∙◌, arith, append_assoc, inl, inr, length-append, get_or, drop, length-drop, zero, suc}
use Rattle.std.specs.List.{AllByRecursion, filter, list_any, slice_index}
use Rattle.memchr.specs.Find.{is_byte, NoneBefore, Nowhere, Passes}
use Rattle.std.proofs.lemmas.Bool.{false_from_ne_true, and_from, ne_eqb, le-leb, lt-leb, cases_eq}
use Rattle.std.specs.Option.{unwrap_or}
use Rattle.std.proofs.lemmas.Bool.Decides.{nat_tests}
use Rattle.std.proofs.lemmas.List.{append-nil, drop_all, drop_more, get_or_at, get_or-drop, take_at}
use Rattle.vt_term.specs.Text.{IsIntermediate, IsParameter, IsFinal, IsEscapeFinal, IsIntroducer, IsSingle, IsOpen, IsCutBy, IsToken, Splits}
use Rattle.vt_term.specs.Function.{Function, SelectRendition, Modes, Ignored, function_of, named, sequence, escaped}
use Rattle.vt_term.proofs.Sequences.{inside, stem, open_escape, single_escape}
use Rattle.vt_term.proofs.Readers.{sequence_push}
use Rattle.vt_states.specs.Recordings.{at, is_between}
use Rattle.vt_states.specs.Ignored.{is_final, is_escape_final, is_whole_sequence, ignores, is_ignored, lack_in, number_lack, first_unknown, is_unknown_rendition, is_unknown_mode}
use Rattle.vt_states.specs.Kinds.{control_kind, kind_of, kinds, spelled, Counts, Count, CountsIgnored}
use Rattle.vt_states.proofs.Counting.{nothing_counted}
use Rattle.vt_states.specs.Sequences.{inside_length, control_kinds, kinds_of_control, kinds_behind_introducer, escape_kinds, kinds_of_escape, kinds_of_others, kinds_behind, found_kinds}
use Rattle.vt_states.specs.declared.ignored.Lack.{Lack}

-- ---- bytes within a sequence

abbrev IsWithin : ℕ → ℕ → Type 0
IsWithin high b = is_between 32 high b ≡ true

within : (high b : ℕ) → 32 ≤ b → b ≤ high → IsWithin high b
within high b lo hi = and_from _ _ (le-leb 32 b lo) (le-leb b high hi)

both : (P : ℕ → Type 0) (xs ys : List ℕ) → AllByRecursion P xs → AllByRecursion P ys → AllByRecursion P (xs ++ ys)
both P [] ys h k = k
both P (x ∷ xs) ys h k = (h.0, both P xs ys h.1 k)

each : (P Q : ℕ → Type 0) → ((b : ℕ) → P b → Q b) → (xs : List ℕ) → AllByRecursion P xs → AllByRecursion Q xs
each P Q w [] h = tt
each P Q w (x ∷ xs) h = (w x h.0, each P Q w xs h.1)

parameters_within : (ps is : List ℕ) → AllByRecursion IsParameter ps → AllByRecursion IsIntermediate is → AllByRecursion (IsWithin 63) (ps ++ is)
parameters_within ps is hp hi = both (IsWithin 63) ps is (each IsParameter (IsWithin 63) (λ b h. within 63 b (omega (arith, h.0)) h.1) ps hp) (each IsIntermediate (IsWithin 63) (λ b h. within 63 b h.0 (omega (arith, h.1))) is hi)

intermediates_within : (is : List ℕ) → AllByRecursion IsIntermediate is → AllByRecursion (IsWithin 47) is
intermediates_within is h = each IsIntermediate (IsWithin 47) (λ b k. within 47 b k.0 k.1) is h

low_bound : (high b : ℕ) → IsWithin high b → 32 ≤ b
low_bound high b h = by_test (nat_le 32 b) refl h
  where
    by_test : (c : Bool) → nat_le 32 b ≡ c → (c && nat_le b high) ≡ true → 32 ≤ b
    by_test true e k = grind (arith, nat_tests)
    by_test false e k = absurd (cc)

outside_low : (high b : ℕ) → b < 32 → is_between 32 high b ≡ false
outside_low high b lt = ap (λ (c : Bool). c && nat_le b high) (lt-leb 32 b lt)

outside_high : (high b : ℕ) → high < b → is_between 32 high b ≡ false
outside_high high b lt = ap (λ (c : Bool). nat_le 32 b && c) (lt-leb b high lt) ∙ and_false (nat_le 32 b)
  where
    and_false : (c : Bool) → (c && false) ≡ false
    and_false true = refl
    and_false false = refl

inside_all : (high : ℕ) (xs behind : List ℕ) → AllByRecursion (IsWithin high) xs → inside_length high (xs ++ behind) ≡ length xs + inside_length high behind
inside_all high [] behind h = omega arith
inside_all high (x ∷ xs) behind h = ap (λ (c : Bool). if c then 1 + inside_length high (xs ++ behind) else 0) h.0 ∙ (let n : 1 + inside_length high (xs ++ behind) ≡ length (x ∷ xs) + inside_length high behind = omega (arith, inside_all high xs behind h.1) in n)

inside_ends : (high b : ℕ) (more : List ℕ) → is_between 32 high b ≡ false → inside_length high (b ∷ more) ≡ 0
inside_ends high b more e = ap (λ (c : Bool). if c then 1 + inside_length high more else 0) e

at_behind : (xs behind : List ℕ) → at (xs ++ behind) (length xs) ≡ at behind 0
at_behind [] behind = refl
at_behind (x ∷ xs) behind = at_behind xs behind

-- ---- bytes that aren't ESC

abbrev IsOther : ℕ → Type 0
IsOther b = (b == 27) ≡ false

skipped : (xs behind : List ℕ) → AllByRecursion IsOther xs → found_kinds (xs ++ behind) ≡ found_kinds behind
skipped [] behind h = refl
skipped (x ∷ xs) behind h = ap (λ (c : Bool). if c then kinds_behind (xs ++ behind) ++ found_kinds (xs ++ behind) else found_kinds (xs ++ behind)) h.0 ∙ skipped xs behind h.1

higher : (b : ℕ) → 32 ≤ b → IsOther b
higher b lo = ne_eqb b 27 (λ e. omega (arith, e, lo))

within_others : (high : ℕ) (xs : List ℕ) → AllByRecursion (IsWithin high) xs → AllByRecursion IsOther xs
within_others high xs h = each (IsWithin high) IsOther (λ b k. higher b (low_bound high b k)) xs h

-- ---- what is lacking of a function that is ignored

has_lack : Option Lack → Bool
has_lack None = false
has_lack (Some l) = true

any_unknown : (test : Option ℕ → Bool) (ns : List (Option ℕ)) → list_any test ns ≡ has_lack (number_lack (first_unknown test ns))
unfolding has_lack
any_unknown test [] = refl
any_unknown test (n ∷ ns) = by_test (test n) (any_unknown test ns)
  where
    by_test : (c : Bool) → list_any test ns ≡ has_lack (number_lack (first_unknown test ns)) → (c || list_any test ns) ≡ has_lack (number_lack (if c then Some (unwrap_or n 0) else first_unknown test ns))
    by_test true more = refl
    by_test false more = more

ignores_lack : (g : Function) → ignores g ≡ has_lack (lack_in g)
unfolding has_lack
ignores_lack Ignored = refl
ignores_lack (SelectRendition ns) = any_unknown is_unknown_rendition ns
ignores_lack (Modes kind on ns) = any_unknown (is_unknown_mode kind) ns
ignores_lack g = refl

-- ---- the kinds of one token

abbrev own : List ℕ → List (List ℕ)
own t = if is_ignored t then kind_of t ∷ [] else []

kinds_first : (t : List ℕ) (ts : List (List ℕ)) → own t ++ kinds ts ≡ kinds (t ∷ ts)
kinds_first t ts = by_test (is_ignored t)
  where
    by_test : (c : Bool) → (if c then kind_of t ∷ [] else []) ++ kinds ts ≡ map kind_of (if c then t ∷ filter is_ignored ts else filter is_ignored ts)
    by_test true = refl
    by_test false = refl

control_own : (lack : Option Lack) (front : List ℕ) (f : ℕ) → control_kinds lack front f ≡ (if has_lack lack then control_kind lack front f ∷ [] else [])
unfolding has_lack
control_own None front f = refl
control_own (Some l) front f = refl

escape_own : (lack : Option Lack) (behind : List ℕ) → escape_kinds lack behind ≡ (if has_lack lack then (27 ∷ behind) ∷ [] else [])
unfolding has_lack
escape_own None behind = refl
escape_own (Some l) behind = refl

last_found : (p : ℕ → Bool) (xs : List ℕ) (f : ℕ) → p f ≡ true → list_any p (xs ++ f ∷ []) ≡ true
last_found p [] f e = ap (λ (c : Bool). c || false) e
last_found p (x ∷ xs) f e = ap (λ (c : Bool). p x || c) (last_found p xs f e) ∙ or_true (p x)
  where
    or_true : (c : Bool) → (c || true) ≡ true
    or_true true = refl
    or_true false = refl

-- ---- a whole control sequence

-- what the terminal lacks of a token decides on its kinds
own_by : (t : List ℕ) (lack : Option Lack) → is_whole_sequence t ≡ true → lack_in (function_of t) ≡ lack → own t ≡ (if has_lack lack then spelled lack t ∷ [] else [])
own_by t lack w e =
    let i : is_ignored t ≡ has_lack lack = ap (λ (c : Bool). c && ignores (function_of t)) w ∙ ignores_lack (function_of t) ∙ ap has_lack e in
    ap (λ (c : Bool). if c then kind_of t ∷ [] else []) i ∙ ap (λ (l : Option Lack). if has_lack lack then spelled l t ∷ [] else []) e

control_spelled : (lack : Option Lack) (front : List ℕ) (f : ℕ) → spelled lack (27 ∷ 91 ∷ (front ++ f ∷ [])) ≡ control_kind lack front f
control_spelled lack front f =
    let n : length (front ++ f ∷ []) - 1 ≡ length front = omega (arith, length-append front (f ∷ [])) in
    let l : slice_index (front ++ f ∷ []) (length (front ++ f ∷ []) - 1) ≡ f = get_or_at front f [] 0 _ (sym n) in
    let t : take (length (front ++ f ∷ []) - 1) (front ++ f ∷ []) ≡ front = take_at front (f ∷ []) _ (sym n) in
    rw (l, t) refl

control_kinds_own : (front : List ℕ) (f : ℕ) → is_final f ≡ true → kinds_of_control front f ≡ own (27 ∷ 91 ∷ (front ++ f ∷ []))
control_kinds_own front f e =
    let lack : Option Lack = lack_in (named f front) in
    ap (λ (c : Bool). if c then control_kinds (lack_in (named f front)) front f else []) e ∙ control_own (lack_in (named f front)) front f
    ∙ ap (λ (k : List ℕ). if has_lack (lack_in (named f front)) then k ∷ [] else []) (sym (control_spelled (lack_in (named f front)) front f))
    ∙ sym (own_by (27 ∷ 91 ∷ (front ++ f ∷ [])) (lack_in (named f front)) (last_found is_final front f e) (ap lack_in (sequence_push front f)))

final_is : (f : ℕ) → IsFinal f → is_final f ≡ true
final_is f h = and_from _ _ (le-leb 64 f h.0) (le-leb f 126 h.1)

-- the bytes behind ESC [
behind_introducer : (front : List ℕ) (f : ℕ) (behind : List ℕ) → AllByRecursion (IsWithin 63) front → is_between 32 63 f ≡ false → kinds_behind_introducer (front ++ f ∷ behind) ≡ kinds_of_control front f
behind_introducer front f behind h e =
    let n : inside_length 63 (front ++ f ∷ behind) ≡ length front = omega (arith, inside_all 63 front (f ∷ behind) h, inside_ends 63 f behind e) in
    rw (n, at_behind front (f ∷ behind), take_at front (f ∷ behind) (length front) refl) refl

control_found : (front : List ℕ) (f : ℕ) (behind : List ℕ) → AllByRecursion (IsWithin 63) front → IsFinal f → found_kinds ((27 ∷ 91 ∷ (front ++ f ∷ [])) ++ behind) ≡ own (27 ∷ 91 ∷ (front ++ f ∷ [])) ++ found_kinds behind
control_found front f behind h e =
    let joined : (front ++ f ∷ []) ++ behind ≡ front ++ f ∷ behind = append_assoc front (f ∷ []) behind in
    let first : kinds_behind_introducer ((front ++ f ∷ []) ++ behind) ≡ own (27 ∷ 91 ∷ (front ++ f ∷ [])) =
    ap kinds_behind_introducer joined ∙ behind_introducer front f behind h (outside_high 63 f (omega (arith, e.0))) ∙ control_kinds_own front f (final_is f e) in
    let others : AllByRecursion IsOther (front ++ f ∷ []) = both IsOther front (f ∷ []) (within_others 63 front h) (higher f (omega (arith, e.0)), tt) in
    ap (λ (l : List (List ℕ)). l ++ found_kinds ((front ++ f ∷ []) ++ behind)) first ∙ ap (λ (l : List (List ℕ)). own (27 ∷ 91 ∷ (front ++ f ∷ [])) ++ l) (skipped (front ++ f ∷ []) behind others)

-- ---- a whole escape sequence

-- the bytes are no control sequence
abbrev NoBracket : List ℕ → Type 0
NoBracket [] = Unit {0}
NoBracket (second ∷ body) = (second == 91) ≡ false

others_behind : (front : List ℕ) (f : ℕ) (behind : List ℕ) → AllByRecursion (IsWithin 47) front → is_between 32 47 f ≡ false → kinds_of_others (front ++ f ∷ behind) ≡ kinds_of_escape front f
others_behind front f behind h e =
    let n : inside_length 47 (front ++ f ∷ behind) ≡ length front = omega (arith, inside_all 47 front (f ∷ behind) h, inside_ends 47 f behind e) in
    rw (n, at_behind front (f ∷ behind), take_at front (f ∷ behind) (length front) refl) refl

no_bracket : (bytes : List ℕ) → 0 < length bytes → NoBracket bytes → kinds_behind bytes ≡ kinds_of_others bytes
no_bracket [] some h = absurd (omega arith)
no_bracket (second ∷ body) some h = ap (λ (c : Bool). if c then kinds_behind_introducer body else kinds_of_others (second ∷ body)) h

bracket_front : (xs ys : List ℕ) → 0 < length xs → NoBracket xs → NoBracket (xs ++ ys)
bracket_front [] ys some h = absurd (omega arith)
bracket_front (x ∷ xs) ys some h = h

-- a token of ESC and such bytes
escape_token : (bytes : List ℕ) (lack : Option Lack) → 0 < length bytes → NoBracket bytes → list_any is_escape_final bytes ≡ true → lack_in (escaped bytes) ≡ lack
    → own (27 ∷ bytes) ≡ (if has_lack lack then (27 ∷ bytes) ∷ [] else [])
escape_token [] lack some h f e = absurd (omega arith)
escape_token (second ∷ body) lack some h f e =
    let w : is_whole_sequence (27 ∷ second ∷ body) ≡ true = ap (λ (c : Bool). if c then list_any is_final body else list_any is_escape_final (second ∷ body)) h ∙ f in
    let g : lack_in (function_of (27 ∷ second ∷ body)) ≡ lack = ap (λ (c : Bool). lack_in (if c then sequence body else escaped (second ∷ body))) h ∙ e in
    own_by (27 ∷ second ∷ body) lack w g
    ∙ ap (λ (c : Bool). if has_lack lack then (if c then control_kind lack (take (length body - 1) body) (slice_index body (length body - 1)) else 27 ∷ second ∷ body) ∷ [] else []) h

escape_kinds_own : (front : List ℕ) (f : ℕ) → is_escape_final f ≡ true → NoBracket (front ++ f ∷ []) → kinds_of_escape front f ≡ own (27 ∷ (front ++ f ∷ []))
escape_kinds_own front f e h =
    ap (λ (c : Bool). if c then escape_kinds (lack_in (escaped (front ++ f ∷ []))) (front ++ f ∷ []) else []) e ∙ escape_own (lack_in (escaped (front ++ f ∷ []))) (front ++ f ∷ [])
    ∙ sym (escape_token (front ++ f ∷ []) (lack_in (escaped (front ++ f ∷ []))) (omega (arith, length-append front (f ∷ []))) h (last_found is_escape_final front f e) refl)

escape_found : (front : List ℕ) (f : ℕ) (behind : List ℕ) → AllByRecursion IsIntermediate front → IsEscapeFinal f → (front ≡ [] → IsIntroducer f → ⊥) → found_kinds ((27 ∷ (front ++ f ∷ [])) ++ behind) ≡ own (27 ∷ (front ++ f ∷ [])) ++ found_kinds behind
escape_found front f behind i e n =
    let h : AllByRecursion (IsWithin 47) front = intermediates_within front i in
    let joined : (front ++ f ∷ []) ++ behind ≡ front ++ f ∷ behind = append_assoc front (f ∷ []) behind in
    let nb : NoBracket (front ++ f ∷ []) = not_introduced front f i n in
    let some : 0 < length (front ++ f ∷ []) = omega (arith, length-append front (f ∷ [])) in
    let final : is_escape_final f ≡ true = and_from _ _ (le-leb 48 f e.0) (le-leb f 126 e.1) in
    let first : kinds_behind ((front ++ f ∷ []) ++ behind) ≡ own (27 ∷ (front ++ f ∷ [])) =
    no_bracket ((front ++ f ∷ []) ++ behind) (omega (arith, some, length-append (front ++ f ∷ []) behind)) (bracket_front (front ++ f ∷ []) behind some nb)
    ∙ ap kinds_of_others joined ∙ others_behind front f behind h (outside_high 47 f (omega (arith, e.0))) ∙ escape_kinds_own front f final nb in
    let others : AllByRecursion IsOther (front ++ f ∷ []) = both IsOther front (f ∷ []) (within_others 47 front h) (higher f (omega (arith, e.0)), tt) in
    ap (λ (l : List (List ℕ)). l ++ found_kinds ((front ++ f ∷ []) ++ behind)) first ∙ ap (λ (l : List (List ℕ)). own (27 ∷ (front ++ f ∷ [])) ++ l) (skipped (front ++ f ∷ []) behind others)
  where
    not_introduced : (is : List ℕ) (f : ℕ) → AllByRecursion IsIntermediate is → (is ≡ [] → IsIntroducer f → ⊥) → NoBracket (is ++ f ∷ [])
    not_introduced [] f i n = ne_eqb f 91 (λ e. n refl (inr (inr (inl e))))
    not_introduced (x ∷ is) f i n = ne_eqb x 91 (λ e. omega (arith, e, i.0.1))

-- ---- a sequence that isn't whole, before bytes that end none

no_finals : (p : ℕ → Bool) (xs : List ℕ) → AllByRecursion (λ b. p b ≡ false) xs → list_any p xs ≡ false
no_finals p [] h = refl
no_finals p (x ∷ xs) h = ap (λ (c : Bool). c || list_any p xs) h.0 ∙ no_finals p xs h.1

high_bound : (high b : ℕ) → IsWithin high b → b ≤ high
high_bound high b h = by_test (nat_le 32 b) (nat_le b high) refl h
  where
    by_test : (c d : Bool) → nat_le b high ≡ d → (c && d) ≡ true → b ≤ high
    by_test true true e k = grind (arith, nat_tests)
    by_test true false e k = absurd (cc)
    by_test false d e k = absurd (cc)

no_final : (b : ℕ) → b < 64 → is_final b ≡ false
no_final b lt = ap (λ (c : Bool). c && nat_le b 126) (lt-leb 64 b lt)

no_escape_final : (b : ℕ) → b < 48 → is_escape_final b ≡ false
no_escape_final b lt = ap (λ (c : Bool). c && nat_le b 126) (lt-leb 48 b lt)

stopped : (high : ℕ) (behind : List ℕ) → at behind 0 < 32 → inside_length high behind ≡ 0
stopped high [] lt = refl
stopped high (b ∷ behind) lt = inside_ends high b behind (outside_low high b lt)

record Unfinished (t behind : List ℕ) : Type 0 where
  none : own t ≡ []
  found : found_kinds (t ++ behind) ≡ found_kinds behind

not_whole : (t : List ℕ) → is_whole_sequence t ≡ false → own t ≡ []
not_whole t e = ap (λ (c : Bool). if c && ignores (function_of t) then kind_of t ∷ [] else []) e

alone : (behind : List ℕ) → at behind 0 < 32 → kinds_behind behind ≡ []
alone [] lt = refl
alone (b ∷ behind) lt =
    no_bracket (b ∷ behind) (omega arith) (ne_eqb b 91 (λ e. omega (arith, e, lt)))
    ∙ rw (stopped 47 (b ∷ behind) lt) (ap (λ (c : Bool). if c then escape_kinds (lack_in (escaped (b ∷ []))) (b ∷ []) else []) (no_escape_final b (omega (arith, lt))))

open_control : (bytes behind : List ℕ) → AllByRecursion (IsWithin 63) bytes → at behind 0 < 32 → Unfinished (27 ∷ 91 ∷ bytes) behind
open_control bytes behind h lt =
    let n : inside_length 63 (bytes ++ behind) ≡ length bytes = omega (arith, inside_all 63 bytes behind h, stopped 63 behind lt) in
    let none : kinds_behind_introducer (bytes ++ behind) ≡ [] = rw (n, at_behind bytes behind) (ap (λ (c : Bool). if c then control_kinds (lack_in (named (at behind 0) (take (length bytes) (bytes ++ behind)))) (take (length bytes) (bytes ++ behind)) (at behind 0) else []) (no_final (at behind 0) (omega (arith, lt)))) in
    record {
      none = not_whole (27 ∷ 91 ∷ bytes) (no_finals is_final bytes (each (IsWithin 63) (λ b. is_final b ≡ false) (λ b k. no_final b (omega (arith, high_bound 63 b k))) bytes h));
      found = ap (λ (l : List (List ℕ)). l ++ found_kinds (bytes ++ behind)) none ∙ skipped bytes behind (within_others 63 bytes h);
    }

open_stem : (y : ℕ) (bytes behind : List ℕ) → AllByRecursion IsIntermediate (y ∷ bytes) → at behind 0 < 32 → Unfinished (27 ∷ y ∷ bytes) behind
open_stem y bytes behind i lt =
    let h : AllByRecursion (IsWithin 47) (y ∷ bytes) = intermediates_within (y ∷ bytes) i in
    let other : (y == 91) ≡ false = ne_eqb y 91 (λ e. omega (arith, e, i.0.1)) in
    let n : inside_length 47 ((y ∷ bytes) ++ behind) ≡ length (y ∷ bytes) = omega (arith, inside_all 47 (y ∷ bytes) behind h, stopped 47 behind lt) in
    let none : kinds_of_others ((y ∷ bytes) ++ behind) ≡ [] = rw (n, at_behind (y ∷ bytes) behind) (ap (λ (c : Bool). if c then escape_kinds (lack_in (escaped (take (length (y ∷ bytes)) ((y ∷ bytes) ++ behind) ++ at behind 0 ∷ []))) (take (length (y ∷ bytes)) ((y ∷ bytes) ++ behind) ++ at behind 0 ∷ []) else []) (no_escape_final (at behind 0) (omega (arith, lt)))) in
    record {
      none = not_whole (27 ∷ y ∷ bytes) (ap (λ (c : Bool). if c then list_any is_final bytes else list_any is_escape_final (y ∷ bytes)) other
          ∙ no_finals is_escape_final (y ∷ bytes) (each (IsWithin 47) (λ b. is_escape_final b ≡ false) (λ b k. no_escape_final b (omega (arith, high_bound 47 b k))) (y ∷ bytes) h));
      found = ap (λ (l : List (List ℕ)). l ++ found_kinds ((y ∷ bytes) ++ behind)) (no_bracket ((y ∷ bytes) ++ behind) (omega arith) other ∙ none) ∙ skipped (y ∷ bytes) behind (within_others 47 (y ∷ bytes) h);
    }

unfinished : (t behind : List ℕ) → IsOpen t → 0 < length t → at behind 0 < 32 → Unfinished t behind
unfinished [] behind o some lt = absurd (omega arith)
unfinished (x ∷ []) behind o some lt =
    subst (λ (b : ℕ). Unfinished (b ∷ []) behind) (sym (open_escape x [] o)) (record { none = refl; found = ap (λ (l : List (List ℕ)). l ++ found_kinds behind) (alone behind lt) })
unfinished (x ∷ y ∷ bytes) behind o some lt = elim (cases_eq y 91) [
  | inl e ↦ (let s = inside x y bytes e o in
      let w : AllByRecursion (IsWithin 63) bytes = subst (λ (l : List ℕ). AllByRecursion (IsWithin 63) l) (sym s.body.spelled) (parameters_within s.body.parameters s.body.intermediates s.body.each_parameter s.body.each_intermediate) in
      subst (λ (b : ℕ). Unfinished (b ∷ y ∷ bytes) behind) (sym s.escape) (subst (λ (b : ℕ). Unfinished (27 ∷ b ∷ bytes) behind) (sym e) (open_control bytes behind w lt)))
  | inr e ↦ (let s = stem x y bytes e o in subst (λ (b : ℕ). Unfinished (b ∷ y ∷ bytes) behind) (sym s.escape) (open_stem y bytes behind s.each lt))
]

-- ---- all tokens of a text

token_found : (t behind : List ℕ) → IsToken t behind → found_kinds (t ++ behind) ≡ own t ++ found_kinds behind
token_found t behind h = elim h [
  | inl w ↦ elim w [
    | inl s ↦ single_found t s
    | inr s ↦ elim s [
      | inl c ↦ (let front : List ℕ = c.parameters ++ c.intermediates in
          let e : t ≡ 27 ∷ 91 ∷ ((c.parameters ++ c.intermediates) ++ c.final ∷ []) = c.spelled ∙ ap (λ (l : List ℕ). 27 ∷ 91 ∷ l) (sym (append_assoc c.parameters c.intermediates (c.final ∷ []))) in
          subst (λ (l : List ℕ). found_kinds (l ++ behind) ≡ own l ++ found_kinds behind) (sym e) (control_found (c.parameters ++ c.intermediates) c.final behind (parameters_within c.parameters c.intermediates c.each_parameter c.each_intermediate) c.ends))
      | inr c ↦ subst (λ (l : List ℕ). found_kinds (l ++ behind) ≡ own l ++ found_kinds behind) (sym c.spelled) (escape_found c.intermediates c.final behind c.each_intermediate c.ends c.introduces_nothing)
    ]
  ]
  | inr d ↦ (let u : Unfinished t behind = unfinished t behind d.fits d.some (cut_low behind d.cut) in u.found ∙ ap (λ (l : List (List ℕ)). l ++ found_kinds behind) (sym u.none))
]
  where
    single_found : (t : List ℕ) → IsSingle t → found_kinds (t ++ behind) ≡ own t ++ found_kinds behind
    single_found [] s = absurd s
    single_found (b ∷ []) s =
        let other : (b == 27) ≡ false = ne_eqb b 27 (λ e. single_escape b e s) in
        skipped (b ∷ []) behind (other, tt) ∙ ap (λ (l : List (List ℕ)). l ++ found_kinds behind) (sym (not_whole (b ∷ []) (ap (λ (c : Bool). c && false) other)))
    single_found (b ∷ c ∷ bytes) s = absurd s

    cut_low : (behind : List ℕ) → IsCutBy behind → at behind 0 < 32
    cut_low [] c = absurd c
    cut_low (b ∷ behind) c = elim c [ inl e ↦ omega (arith, e) | inr e ↦ elim e [ inl f ↦ omega (arith, f) | inr f ↦ omega (arith, f) ] ]

rest_found : (rest : List ℕ) → IsOpen rest → found_kinds rest ≡ []
rest_found [] o = refl
rest_found (x ∷ rest) o = ap found_kinds (sym (nothing_more (x ∷ rest))) ∙ (unfinished (x ∷ rest) [] o (omega arith) (omega arith)).found
  where
    nothing_more : (xs : List ℕ) → xs ++ [] ≡ xs
    nothing_more [] = refl
    nothing_more (x ∷ xs) = ap (λ (l : List ℕ). x ∷ l) (nothing_more xs)

pub kinds_found : (text : List ℕ) (ts : List (List ℕ)) (rest : List ℕ) → Splits text ts rest → found_kinds text ≡ kinds ts
kinds_found text [] rest s = ap found_kinds s.0 ∙ rest_found rest (subst IsOpen refl s.1)
kinds_found text (t ∷ ts) rest s = ap found_kinds s.1 ∙ token_found t s.0 s.2 ∙ ap (λ (l : List (List ℕ)). own t ++ l) (kinds_found s.0 ts rest s.3) ∙ kinds_first t ts

-- ---- the count so far

pub record CountedTo (text : List ℕ) (place : ℕ) (counts : Counts) : Type 0 where
  pub came : List (List ℕ)
  pub count : Count came counts
  pub left : came ++ found_kinds (drop place text) ≡ found_kinds text
  pub few : length came ≤ place

pub none_counted : (text : List ℕ) → CountedTo text 0 (record { told = []; others = 0 })
none_counted text = record { came = []; count = nothing_counted; left = refl; few = omega arith }

pub other_passed : (text : List ℕ) (place : ℕ) (counts : Counts) → CountedTo text place counts → place < length text → (get_or text place 0 == 27) ≡ false → CountedTo text (place + 1) counts
other_passed text place counts h lt e = record {
  came = h.came;
  count = h.count;
  left = ap (λ (l : List (List ℕ)). h.came ++ l) (sym (ap found_kinds (drop_more text place 0 lt) ∙ skipped (get_or text place 0 ∷ []) (drop (place + 1) text) (e, tt))) ∙ h.left;
  few = omega (arith, h.few);
}

few_control : (lack : Option Lack) (front : List ℕ) (f : ℕ) → length (control_kinds lack front f) ≤ 1
few_control None front f = omega arith
few_control (Some l) front f = omega arith

few_escape : (lack : Option Lack) (behind : List ℕ) → length (escape_kinds lack behind) ≤ 1
few_escape None behind = omega arith
few_escape (Some l) behind = omega arith

few_if : (c : Bool) (ks : List (List ℕ)) → length ks ≤ 1 → length (if c then ks else []) ≤ 1
few_if true ks h = h
few_if false ks h = omega arith

few_behind : (bytes : List ℕ) → length (kinds_behind bytes) ≤ 1
few_behind [] = omega arith
few_behind (second ∷ body) = by_second (second == 91)
  where
    by_second : (c : Bool) → length (if c then kinds_behind_introducer body else kinds_of_others (second ∷ body)) ≤ 1
    by_second true = few_if (is_final (at body (inside_length 63 body))) _ (few_control _ _ _)
    by_second false = few_if (is_escape_final (at (second ∷ body) (inside_length 47 (second ∷ body)))) _ (few_escape _ _)

pub sequence_passed : (text : List ℕ) (place : ℕ) (behind : List ℕ) (counts new : Counts) → (h : CountedTo text place counts) → place < length text → (get_or text place 0 == 27) ≡ true → behind ≡ drop (place + 1) text
    → Count (h.came ++ kinds_behind behind) new → CountedTo text (place + 1) new
sequence_passed text place behind counts new h lt e b k = record {
  came = h.came ++ kinds_behind behind;
  count = k;
  left = append_assoc h.came (kinds_behind behind) (found_kinds (drop (place + 1) text))
      ∙ ap (λ (l : List (List ℕ)). h.came ++ l) (ap (λ (l : List ℕ). kinds_behind l ++ found_kinds (drop (place + 1) text)) b
      ∙ sym (ap found_kinds (drop_more text place 0 lt) ∙ ap (λ (c : Bool). if c then kinds_behind (drop (place + 1) text) ++ found_kinds (drop (place + 1) text) else found_kinds (drop (place + 1) text)) e))
      ∙ h.left;
  few = omega (arith, h.few, few_behind behind, length-append h.came (kinds_behind behind));
}

pub all_counted : (text : List ℕ) (place : ℕ) (counts : Counts) → CountedTo text place counts → length text ≤ place → (tokens : List (List ℕ)) (rest : List ℕ) → Splits text tokens rest → CountsIgnored tokens counts
all_counted text place counts h end tokens rest s =
    let none : found_kinds (drop place text) ≡ [] = ap found_kinds (drop_all place text end) in
    let came : h.came ≡ kinds tokens = sym (append-nil h.came) ∙ ap (λ (l : List (List ℕ)). h.came ++ l) (sym none) ∙ h.left ∙ kinds_found text tokens rest s in
    subst (λ (l : List (List ℕ)). Count l counts) came h.count

-- bytes that a search for ESC has passed
left_passed : (text : List ℕ) (place n : ℕ) → place + n ≤ length text → ((k : ℕ) → k < n → (get_or text (place + k) 0 == 27) ≡ false) → found_kinds (drop (place + n) text) ≡ found_kinds (drop place text)
left_passed text place zero le others = ap (λ (m : ℕ). found_kinds (drop m text)) (let e : place + 0 ≡ place = omega arith in e)
left_passed text place (suc n) le others =
    ap (λ (m : ℕ). found_kinds (drop m text)) (let e : place + suc n ≡ (place + n) + 1 = omega arith in e)
    ∙ sym (ap found_kinds (drop_more text (place + n) 0 (omega (arith, le))) ∙ skipped (get_or text (place + n) 0 ∷ []) (drop ((place + n) + 1) text) (others n (omega arith), tt))
    ∙ left_passed text place n (omega (arith, le)) (λ k lt. others k (omega (arith, lt)))

no_escape : (text hay : List ℕ) (place k : ℕ) → hay ≡ drop place text → ((get_or hay k 0 == 27) ≡ true → ⊥) → (get_or text (place + k) 0 == 27) ≡ false
no_escape text hay place k e n = subst (λ (b : ℕ). (b == 27) ≡ false) (ap (λ (l : List ℕ). get_or l k 0) e ∙ get_or-drop place text k 0) (false_from_ne_true (get_or hay k 0 == 27) n)

pub escape_passed : (text hay behind : List ℕ) (place k : ℕ) (counts new : Counts) → (h : CountedTo text place counts) → place ≤ length text → hay ≡ drop place text → NoneBefore (Passes (is_byte 27) hay) 0 (length hay) k → Passes (is_byte 27) hay k
    → behind ≡ drop (place + k + 1) text → Count (h.came ++ kinds_behind behind) new → CountedTo text (place + k + 1) new
escape_passed text hay behind place k counts new h w e first here b counted =
    let there : place + k < length text = omega (arith, first.high, ap length e, length-drop place text, w) in
    let passed = left_passed text place k (omega (arith, there)) (λ j lt. no_escape text hay place j e (first.before j (omega arith) lt)) in
    sequence_passed text (place + k) behind counts new (record { came = h.came; count = h.count; left = ap (λ (l : List (List ℕ)). h.came ++ l) passed ∙ h.left; few = omega (arith, h.few) }) there
    (subst (λ (x : ℕ). (x == 27) ≡ true) (ap (λ (l : List ℕ). get_or l k 0) e ∙ get_or-drop place text k 0) here) b counted

pub none_left : (text hay : List ℕ) (place : ℕ) (counts : Counts) → CountedTo text place counts → place ≤ length text → hay ≡ drop place text → Nowhere (Passes (is_byte 27) hay) 0 (length hay) → (tokens : List (List ℕ)) (rest : List ℕ) → Splits text tokens rest → CountsIgnored tokens counts
none_left text hay place counts h w e nowhere =
    let n : length hay ≡ length text - place = omega (arith, ap length e, length-drop place text) in
    let passed = left_passed text place (length hay) (omega (arith, n, w)) (λ j lt. no_escape text hay place j e (nowhere j (omega arith) lt)) in
    all_counted text (place + length hay) counts (record { came = h.came; count = h.count; left = ap (λ (l : List (List ℕ)). h.came ++ l) passed ∙ h.left; few = omega (arith, h.few) }) (omega (arith, n, w))
