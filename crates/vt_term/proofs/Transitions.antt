-- The effect of a byte after an open sequence.
use Rattle.std.proofs.Common.{◌≡◌, ◌≢◌, refl, ℕ, ◌+◌, ◌-◌, ◌≤◌, Bool, true, false, List, [], ◌∷◌, ◌++◌, length, sym, ap, subst, ◌∙◌, inl, inr, arith, append_assoc, length-append, get_or, suc, nat_lt}
use Rattle.std.proofs.lemmas.Bool.Decides.{nat_tests}
use Rattle.std.proofs.lemmas.List.{append-nil}
use Rattle.std.specs.List.{AllByRecursion}
use Rattle.vt_term.specs.declared.parser.Transition.{Transition}
use Rattle.vt_term.specs.declared.parser.Transition.TheVariants.{Opens, Ends, Restarts, Cancels, Fails}
use Rattle.vt_term.proofs.Decimals.{all_append}
use Rattle.vt_term.specs.Text.{IsParameter, IsIntermediate, IsFinal, IsEscapeFinal, IsIntroducer, IsOpen, IsWhole, Cuts}
use Rattle.vt_term.specs.ParserStates.{last_byte}
use Rattle.vt_term.specs.Fault.{IsTransition, IsOutsideTransition, IsIntroducerTransition, IsEscapeTransition, IsInsideTransition}
use Rattle.vt_term.proofs.Sequences.{IsBody, IsInside, inside, IsStem, stem, kind_of_last, only_parameters, last_parameter, made_whole, made_escape, made_open, stem_open, all_last, empty_open, escape_open, introducer_open, control_second, escape_second, sequence_long, open_escape, control_final, escape_final}
use Rattle.vt_term.proofs.Splits.{fails}

outside_low : (b : ℕ) → IsWhole (b ∷ []) → 128 ≤ b → ⊥
outside_low b h high = elim h [
  | inl s ↦ elim s [ inl p ↦ omega (arith, p.1) | inr c ↦ elim c [ inl k ↦ omega (arith, k.0) | inr k ↦ omega (arith, k) ] ]
  | inr q ↦ sequence_long b q
]

pub transition_outside_holds : (b : ℕ) (transition : Transition) → IsOutsideTransition b transition → IsTransition [] b transition
transition_outside_holds b Opens h = escape_open b h
transition_outside_holds b Ends h = inl h
transition_outside_holds b Restarts h = absurd h
transition_outside_holds b Cancels h = absurd h
transition_outside_holds b Fails h = fails [] b empty_open (λ o. omega (arith, open_escape b [] o)) (λ w. outside_low b w h) (λ some. absurd (omega arith))

second_of : (x b : ℕ) → IsWhole (x ∷ b ∷ []) → (b ≢ 91) → IsEscapeFinal b × (IsIntroducer b → ⊥)
second_of x b h other = elim h [
  | inl s ↦ absurd s
  | inr q ↦ elim q [
    | inl c ↦ absurd (other (control_second x b [] c))
    | inr e ↦ ((escape_final x [] b e).0, (escape_final x [] b e).1 refl)
  ]
]

pub transition_introducer_holds : (bytes : List ℕ) (b : ℕ) (transition : Transition) → IsOpen bytes → length bytes ≡ 1 → (Cuts b → ⊥) → IsIntroducerTransition b transition → IsTransition bytes b transition
transition_introducer_holds [] b transition o one goes h = absurd (omega (arith, one))
transition_introducer_holds (x ∷ y ∷ zs) b transition o one goes h = absurd (omega (arith, one))
transition_introducer_holds (x ∷ []) b Opens o one goes h = elim h [
  | inl e ↦ introducer_open x b (open_escape x [] o) e
  | inr i ↦ stem_open x (b ∷ []) (open_escape x [] o) (i, tt) (omega arith)
]
transition_introducer_holds (x ∷ []) b Ends o one goes h = inr (inr (made_escape x [] b (open_escape x [] o) tt h.0 (λ none i. h.1 i) (omega arith)))
transition_introducer_holds (x ∷ []) b Restarts o one goes h = absurd h
transition_introducer_holds (x ∷ []) b Cancels o one goes h = absurd h
transition_introducer_holds (x ∷ []) b Fails o one goes h = fails (x ∷ []) b o
    (λ k. h.1 ((stem x b [] h.0 k).each.0))
    (λ w. (let e = second_of x b w h.0 in e.1 (h.2 e.0)))
    (λ some. goes)

fails_escape : (x y b : ℕ) (body : List ℕ) → (y ≡ 91 → ⊥) → (IsEscapeFinal b → ⊥) → IsWhole (x ∷ y ∷ (body ++ b ∷ [])) → ⊥
fails_escape x y b body other final w = elim w [
  | inl s ↦ s
  | inr q ↦ elim q [
    | inl c ↦ other (control_second x y (body ++ b ∷ []) c)
    | inr e ↦ final (escape_final x (y ∷ body) b e).0
  ]
]

fits_stem : (x y b : ℕ) (body : List ℕ) (room : Bool) (transition : Transition) → IsOpen (x ∷ y ∷ body) → (y ≡ 91 → ⊥) → (room ≡ true → length body + 1 ≤ 253) → (length body + 1 ≤ 253 → room ≡ true) → (Cuts b → ⊥)
    → IsEscapeTransition b room transition → IsTransition (x ∷ y ∷ body) b transition
fits_stem x y b body room Opens o other has needs goes f = let h : IsStem x y body = stem x y body other o in
    stem_open x (y ∷ (body ++ b ∷ [])) h.escape (h.each.0, all_append IsIntermediate body (b ∷ []) h.each.1 (f.1, tt)) (omega (arith, has f.0, length-append body (b ∷ [])))
fits_stem x y b body room Ends o other has needs goes f = let h : IsStem x y body = stem x y body other o in
    inr (inr (made_escape x (y ∷ body) b h.escape h.each f (λ none. absurd (cc)) (omega (arith, h.short))))
fits_stem x y b body room Restarts o other has needs goes f = absurd f
fits_stem x y b body room Cancels o other has needs goes f = absurd f
fits_stem x y b body room Fails o other has needs goes f = fails (x ∷ y ∷ body) b o
    (λ k. (let h : IsStem x y (body ++ b ∷ []) = stem x y (body ++ b ∷ []) other k in
    let g : room ≡ true = needs (omega (arith, h.short, length-append body (b ∷ []))) in
    f.1 g (all_last IsIntermediate body b h.each.1)))
    (fails_escape x y b body other f.0) (λ some. goes)

fails_inside : (x y b : ℕ) (body : List ℕ) → IsInside x y body → (IsIntermediate b → ⊥) → (IsParameter b → IsIntermediate (get_or (x ∷ y ∷ body) (length (x ∷ y ∷ body) - 1) 0)) → IsBody (body ++ b ∷ []) → ⊥
fails_inside x y b body h other late k = elim (kind_of_last body b k.parameters k.intermediates k.each_parameter k.each_intermediate k.spelled) [
  | inl i ↦ other i
  | inr p ↦ last_parameter x y body h.introducer p.1 (late p.0)
]

all_parameters : (x y : ℕ) (body : List ℕ) → IsBody body → (IsIntermediate (get_or (x ∷ y ∷ body) (length (x ∷ y ∷ body) - 1) 0) → ⊥) → AllByRecursion IsParameter body
all_parameters x y body h other = subst (AllByRecursion IsParameter) (sym h.spelled) (only_parameters x y h.parameters h.intermediates h.each_parameter h.each_intermediate
    (subst (λ (l : List ℕ). IsIntermediate (get_or (x ∷ y ∷ l) (length (x ∷ y ∷ l) - 1) 0) → ⊥) h.spelled other))

not_final : (x y b : ℕ) (body : List ℕ) → y ≡ 91 → (IsFinal b → ⊥) → IsWhole (x ∷ y ∷ (body ++ b ∷ [])) → ⊥
not_final x y b body bracket final w = elim w [
  | inl s ↦ s
  | inr q ↦ elim q [ inl c ↦ final (control_final x y body b c) | inr e ↦ escape_second x y (body ++ b ∷ []) e bracket ]
]

fits_body : (x y b : ℕ) (body : List ℕ) (closed room : Bool) (transition : Transition) → (closed ≡ true → IsIntermediate (last_byte (x ∷ y ∷ body))) → (closed ≡ false → IsIntermediate (last_byte (x ∷ y ∷ body)) → ⊥) → IsOpen (x ∷ y ∷ body) → IsInside x y body → (room ≡ true → length body + 1 ≤ 253) → (length body + 1 ≤ 253 → room ≡ true) → (Cuts b → ⊥)
    → IsInsideTransition closed b room transition → IsTransition (x ∷ y ∷ body) b transition
fits_body x y b body closed room Ends late goes_on o h has needs goes f = inr (inl (made_whole x y body h.body.parameters h.body.intermediates b h.escape h.introducer h.body.spelled h.body.each_parameter h.body.each_intermediate f h.short))
fits_body x y b body closed room Opens late goes_on o h has needs goes f = elim f.1 [
  | inl i ↦ made_open x y b body h.body.parameters (h.body.intermediates ++ b ∷ []) h.escape h.introducer
      (ap (λ (l : List ℕ). l ++ b ∷ []) h.body.spelled ∙ append_assoc h.body.parameters h.body.intermediates (b ∷ []))
      h.body.each_parameter (all_append IsIntermediate h.body.intermediates (b ∷ []) h.body.each_intermediate (i, tt)) (has f.0)
  | inr p ↦ made_open x y b body (body ++ b ∷ []) [] h.escape h.introducer (sym (append-nil (body ++ b ∷ [])))
      (all_append IsParameter body (b ∷ []) (all_parameters x y body h.body (goes_on p.1)) (p.0, tt)) tt (has f.0)
]
fits_body x y b body closed room Restarts late goes_on o h has needs goes f = absurd f
fits_body x y b body closed room Cancels late goes_on o h has needs goes f = absurd f
fits_body x y b body closed room Fails late goes_on o h has needs goes f = fails (x ∷ y ∷ body) b o
    (λ o. (let k : IsInside x y (body ++ b ∷ []) = inside x y (body ++ b ∷ []) h.introducer o in
    let g : room ≡ true = needs (omega (arith, k.short, length-append body (b ∷ []))) in
    fails_inside x y b body h (f.1 g).0 (λ p. late ((f.1 g).1 p)) k.body))
    (not_final x y b body h.introducer f.0) (λ some. goes)

room_is : (room : Bool) (n : ℕ) → room ≡ nat_lt (suc (suc n) + 1) 256 → room ≡ true → n + 1 ≤ 253
room_is room n e k = grind (arith, nat_tests)

room_for : (room : Bool) (n : ℕ) → room ≡ nat_lt (suc (suc n) + 1) 256 → n + 1 ≤ 253 → room ≡ true
room_for room n e k = grind (arith, nat_tests)

pub transition_inside_holds : (bytes : List ℕ) (b : ℕ) (closed room : Bool) (transition : Transition) → (closed ≡ true → IsIntermediate (last_byte bytes)) → (closed ≡ false → IsIntermediate (last_byte bytes) → ⊥)
    → IsOpen bytes → 2 ≤ length bytes → get_or bytes 1 0 ≡ 91 → room ≡ nat_lt (length bytes + 1) 256 → (Cuts b → ⊥) → IsInsideTransition closed b room transition → IsTransition bytes b transition
transition_inside_holds [] b closed room transition late goes_on o two second e goes h = absurd (omega arith)
transition_inside_holds (x ∷ []) b closed room transition late goes_on o two second e goes h = absurd (omega arith)
transition_inside_holds (x ∷ y ∷ body) b closed room transition late goes_on o two second e goes h =
    fits_body x y b body closed room transition late goes_on o (inside x y body second o) (room_is room (length body) e) (room_for room (length body) e) goes h

pub transition_escape_holds : (bytes : List ℕ) (b : ℕ) (room : Bool) (transition : Transition) → IsOpen bytes → 2 ≤ length bytes → (get_or bytes 1 0 ≡ 91 → ⊥) → room ≡ nat_lt (length bytes + 1) 256 → (Cuts b → ⊥)
    → IsEscapeTransition b room transition → IsTransition bytes b transition
transition_escape_holds [] b room transition o two second e goes h = absurd (omega arith)
transition_escape_holds (x ∷ []) b room transition o two second e goes h = absurd (omega arith)
transition_escape_holds (x ∷ y ∷ body) b room transition o two second e goes h = fits_stem x y b body room transition o second (room_is room (length body) e) (room_for room (length body) e) goes h
