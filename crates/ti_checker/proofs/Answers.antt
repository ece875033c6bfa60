-- Whole sequences differ from all other tokens.
use Rattle.std.proofs.Common.{◌≡◌, ℕ, ◌<◌, ◌==◌, ◌||◌, Bool, true, false, List, [], ◌∷◌, ◌++◌, if◌then◌else◌, refl, ap, ◌∙◌, inl, inr, arith}
use Rattle.std.specs.List.{AllByRecursion, list_any}
use Rattle.std.proofs.lemmas.Bool.{and_from, and_left, and_right, eq-eqb, ne_eqb, le-leb, lt-leb, cases_eq}
use Rattle.vt_term.proofs.Sequences.{inside, stem, middle}
use Rattle.vt_term.specs.Text.{IsIntermediate, IsFinal, IsEscapeFinal, IsIntroducer, IsControlSequence, IsEscapeSequence, IsSequence, IsSingle, IsOpen, IsDropped}
use Rattle.vt_states.specs.Ignored.{is_final, is_escape_final, has_final, is_whole_sequence}

or_right : (a b : Bool) → b ≡ true → (a || b) ≡ true
or_right true b h = refl
or_right false b h = h

or_left : (a b : Bool) → a ≡ true → (a || b) ≡ true
or_left true b h = refl
or_left false b h = cc

or_none : (a b : Bool) → a ≡ false → b ≡ false → (a || b) ≡ false
or_none true b h k = cc
or_none false b h k = k

any_behind : (p : ℕ → Bool) (xs ys : List ℕ) → list_any p ys ≡ true → list_any p (xs ++ ys) ≡ true
any_behind p [] ys h = h
any_behind p (x ∷ xs) ys h = or_right (p x) (list_any p (xs ++ ys)) (any_behind p xs ys h)

none_of : (p : ℕ → Bool) (P : ℕ → Type 0) → ((b : ℕ) → P b → p b ≡ false) → (xs : List ℕ) → AllByRecursion P xs → list_any p xs ≡ false
none_of p P w [] h = refl
none_of p P w (x ∷ xs) h = or_none (p x) (list_any p xs) (w x h.0) (none_of p P w xs h.1)

ended : (f : ℕ) → IsFinal f → list_any is_final (f ∷ []) ≡ true
ended f h = or_left (is_final f) false (and_from _ _ (le-leb 64 f h.0) (le-leb f 126 h.1))

escape_ended : (f : ℕ) → IsEscapeFinal f → list_any is_escape_final (f ∷ []) ≡ true
escape_ended f h = or_left (is_escape_final f) false (and_from _ _ (le-leb 48 f h.0) (le-leb f 126 h.1))

other_second : (second : ℕ) (body : List ℕ) → (second ≡ 91 → ⊥) → has_final (second ∷ body) ≡ list_any is_escape_final (second ∷ body)
other_second second body h = ap (λ (t : Bool). if t then list_any is_final body else list_any is_escape_final (second ∷ body)) (ne_eqb second 91 h)

bracket_second : (second : ℕ) (body : List ℕ) → second ≡ 91 → has_final (second ∷ body) ≡ list_any is_final body
bracket_second second body e = ap (λ (t : Bool). if t then list_any is_final body else list_any is_escape_final (second ∷ body)) (eq-eqb second 91 e)

control_whole : (token : List ℕ) → IsControlSequence token → is_whole_sequence token ≡ true
control_whole token h = ap is_whole_sequence h.spelled ∙ any_behind is_final h.parameters (h.intermediates ++ h.final ∷ []) (any_behind is_final h.intermediates (h.final ∷ []) (ended h.final h.ends))

escape_body : (is : List ℕ) (f : ℕ) → AllByRecursion IsIntermediate is → IsEscapeFinal f → (is ≡ [] → IsIntroducer f → ⊥) → has_final (is ++ f ∷ []) ≡ true
escape_body [] f each ends n = other_second f [] (λ e. n refl (inr (inr (inl e)))) ∙ escape_ended f ends
escape_body (i ∷ is) f each ends n = other_second i (is ++ f ∷ []) (λ e. omega (arith, e, each.0.1)) ∙ any_behind is_escape_final (i ∷ is) (f ∷ []) (escape_ended f ends)

escape_whole : (token : List ℕ) → IsEscapeSequence token → is_whole_sequence token ≡ true
escape_whole token h = ap is_whole_sequence h.spelled ∙ escape_body h.intermediates h.final h.each_intermediate h.ends h.introduces_nothing

pub sequence_whole : (token : List ℕ) → IsSequence token → is_whole_sequence token ≡ true
sequence_whole token h = elim h [ inl c ↦ control_whole token c | inr e ↦ escape_whole token e ]

pub single_not_whole : (token : List ℕ) → IsSingle token → is_whole_sequence token ≡ false
single_not_whole [] h = absurd h
single_not_whole (b ∷ []) h = and_right (b == 27) false refl
single_not_whole (b ∷ c ∷ bytes) h = absurd h

open_body : (x y : ℕ) (bytes : List ℕ) → IsOpen (x ∷ y ∷ bytes) → has_final (y ∷ bytes) ≡ false
open_body x y bytes h = elim (cases_eq y 91) [
  | inl e ↦ (let i = inside x y bytes e h in
      bracket_second y bytes e ∙ (ap (list_any is_final) i.body.spelled
      ∙ none_of is_final (λ b. b < 64) (λ b low. and_left _ _ (lt-leb 64 b low)) (i.body.parameters ++ i.body.intermediates) (middle i.body.parameters i.body.intermediates i.body.each_parameter i.body.each_intermediate)))
  | inr n ↦ (let s = stem x y bytes n h in
      other_second y bytes n ∙ none_of is_escape_final IsIntermediate (λ b low. and_left _ _ (lt-leb 48 b (omega (arith, low.1)))) (y ∷ bytes) s.each)
]

pub dropped_not_whole : (token behind : List ℕ) → IsDropped token behind → is_whole_sequence token ≡ false
dropped_not_whole [] behind h = refl
dropped_not_whole (b ∷ []) behind h = and_right (b == 27) false refl
dropped_not_whole (b ∷ c ∷ bytes) behind h = and_right (b == 27) (has_final (c ∷ bytes)) (open_body b c bytes h.fits)
