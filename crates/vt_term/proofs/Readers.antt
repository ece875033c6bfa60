-- The parser's reading of a byte.
use Rattle.std.proofs.Common.{◌≡◌, ◌≢◌, ℕ, ◌+◌, ◌-◌, ◌<◌, ◌≤◌, ◌==◌, ◌&&◌, ◌⊎◌, Bool, true, false, List, [], ◌∷◌, ◌++◌, length, take, refl, sym, ap, subst, ◌∙◌, inl, inr, arith, length-append, get_or, Option, None, Some, nat_lt}
use Rattle.std.proofs.lemmas.Bool.Decides.{nat_tests}
use Rattle.std.proofs.lemmas.List.{take_at, get_or_at}
use Rattle.std.specs.List.{list_all, slice_index}
use Rattle.vt_term.specs.declared.parser.Transition.{Transition}
use Rattle.vt_term.specs.declared.parser.ParserState.{ParserState}
use Rattle.vt_term.specs.declared.parser.ParserState.TheVariants.{Outside, Escape, DesignatesG0, DesignatesG1, Intermediate, Introduced, Parameters, PrivateParameters, OtherParameters, Closed}
use Rattle.vt_term.specs.Parameters.{numbers, is_numeral}
use Rattle.vt_term.specs.Text.{IsIntermediate, IsOpen, IsWhole, Cuts}
use Rattle.vt_term.specs.Fault.{IsTransition, IsEscapeTransition, IsInsideTransition}
use Rattle.vt_term.specs.Function.{G0, G1, Function, Ignored, designation, escape_final, escaped, of_numbers, of_private_numbers, marked, named, sequence, function_of}
use Rattle.vt_term.specs.ParserStates.{last_byte, is_marked, ChoosesNothing, IsNumbered, IsPrivate, NamesNothing, IsAt, IsTold}
use Rattle.vt_term.proofs.Sequences.{introducer_open, open_escape}
use Rattle.vt_term.proofs.Sequences.{token_not_open}
use Rattle.vt_term.proofs.Transitions.{transition_inside_holds, transition_escape_holds}

pub last_push : (xs : List ℕ) (b : ℕ) → last_byte (xs ++ b ∷ []) ≡ b
last_push xs b =
    let n : length (xs ++ b ∷ []) - 1 ≡ length xs = omega (arith, length-append xs (b ∷ [])) in
    get_or_at xs b [] 0 _ (sym n)

-- a sequence isn't empty once part of it was read
pub some_read : (stage : ParserState) (ns : List (Option ℕ)) (bytes : List ℕ) → IsAt stage ns bytes → stage ≢ Outside → 0 < length bytes
some_read Outside ns bytes h n = absurd (n refl)
some_read Escape ns bytes h n = omega (arith, ap length h)
some_read DesignatesG0 ns bytes h n = omega (arith, ap length h)
some_read DesignatesG1 ns bytes h n = omega (arith, ap length h)
some_read Intermediate ns bytes h n = omega (arith, ap length h.spelled)
some_read Introduced ns bytes h n = omega (arith, ap length h.0)
some_read Parameters ns bytes h n = omega (arith, ap length h.spelled)
some_read PrivateParameters ns bytes h n = omega (arith, ap length h.spelled)
some_read OtherParameters ns bytes h n = omega (arith, ap length h.0.spelled)
some_read Closed ns bytes h n = omega (arith, ap length h.0.spelled)

-- the effect of a byte in an escape sequence, and in a control sequence
pub transition_in_escape : (bytes more : List ℕ) (second b : ℕ) (room : Bool) (transition : Transition) → bytes ≡ 27 ∷ second ∷ more → second ≢ 91 → IsOpen bytes → room ≡ nat_lt (length bytes + 1) 256 → (Cuts b → ⊥)
    → IsEscapeTransition b room transition → IsTransition bytes b transition
transition_in_escape bytes more second b room transition e other o r goes h =
    transition_escape_holds bytes b room transition o (omega (arith, ap length e)) (λ k. other (sym (ap (λ (l : List ℕ). get_or l 1 0) e) ∙ k)) r goes h

pub transition_in_control : (bytes more : List ℕ) (b : ℕ) (closed room : Bool) (transition : Transition) → bytes ≡ 27 ∷ 91 ∷ more → (closed ≡ true → IsIntermediate (last_byte bytes)) → (closed ≡ false → IsIntermediate (last_byte bytes) → ⊥)
    → IsOpen bytes → room ≡ nat_lt (length bytes + 1) 256 → (Cuts b → ⊥) → IsInsideTransition closed b room transition → IsTransition bytes b transition
transition_in_control bytes more b closed room transition e late goes_on o r goes h =
    transition_inside_holds bytes b closed room transition late goes_on o (omega (arith, ap length e)) (ap (λ (l : List ℕ). get_or l 1 0) e) r goes h

pub record IsStemmed (bytes : List ℕ) : Type 0 where
  pub second : ℕ
  pub more : List ℕ
  pub spelled : bytes ≡ 27 ∷ second ∷ more
  pub no_introducer : second ≢ 91

pub stemmed : (stage : ParserState) (ns : List (Option ℕ)) (bytes : List ℕ) → (stage ≡ DesignatesG0) ⊎ (stage ≡ DesignatesG1) ⊎ (stage ≡ Intermediate) → IsAt stage ns bytes → IsStemmed bytes
stemmed stage ns bytes e h = elim e [
  | inl e ↦ record { second = 40; more = []; spelled = subst (λ (s : ParserState). IsAt s ns bytes) e h; no_introducer = λ k. omega (arith, k) }
  | inr e ↦ elim e [
    | inl e ↦ record { second = 41; more = []; spelled = subst (λ (s : ParserState). IsAt s ns bytes) e h; no_introducer = λ k. omega (arith, k) }
    | inr e ↦ (let n : ChoosesNothing bytes = subst (λ (s : ParserState). IsAt s ns bytes) e h in record { second = n.second; more = n.more; spelled = n.spelled; no_introducer = n.no_introducer })
  ]
]

-- ESC [ and bytes that don't end in an intermediate byte
pub record IsParted (bytes : List ℕ) : Type 0 where
  pub more : List ℕ
  pub spelled : bytes ≡ 27 ∷ 91 ∷ more
  pub goes_on : IsIntermediate (last_byte bytes) → ⊥

pub parted : (stage : ParserState) (ns : List (Option ℕ)) (bytes : List ℕ) → (stage ≡ Introduced) ⊎ (stage ≡ Parameters) ⊎ (stage ≡ PrivateParameters) ⊎ (stage ≡ OtherParameters) → IsAt stage ns bytes → IsParted bytes
parted stage ns bytes e h = elim e [
  | inl e ↦ (let k : (bytes ≡ 27 ∷ 91 ∷ []) × (ns ≡ None ∷ []) = subst (λ (s : ParserState). IsAt s ns bytes) e h in
      record { more = []; spelled = k.0; goes_on = λ i. (let j : IsIntermediate 91 = subst (λ (l : List ℕ). IsIntermediate (last_byte l)) k.0 i in omega (arith, j.1)) })
  | inr e ↦ elim e [
    | inl e ↦ (let k : IsNumbered ns bytes = subst (λ (s : ParserState). IsAt s ns bytes) e h in record { more = k.front; spelled = k.spelled; goes_on = k.goes_on })
    | inr e ↦ elim e [
      | inl e ↦ (let k : IsPrivate ns bytes = subst (λ (s : ParserState). IsAt s ns bytes) e h in record { more = 63 ∷ k.front; spelled = k.spelled; goes_on = k.goes_on })
      | inr e ↦ (let k : NamesNothing bytes × (IsIntermediate (last_byte bytes) → ⊥) = subst (λ (s : ParserState). IsAt s ns bytes) e h in record { more = k.0.front; spelled = k.0.spelled; goes_on = k.1 })
    ]
  ]
]

-- whole control sequences by their parts
pub sequence_push : (front : List ℕ) (b : ℕ) → sequence (front ++ b ∷ []) ≡ named b front
sequence_push front b =
    let n : length (front ++ b ∷ []) - 1 ≡ length front = omega (arith, length-append front (b ∷ [])) in
    let l : slice_index (front ++ b ∷ []) (length (front ++ b ∷ []) - 1) ≡ b = get_or_at front b [] 0 _ (sym n) in
    let f : take (length (front ++ b ∷ []) - 1) (front ++ b ∷ []) ≡ front = take_at front (b ∷ []) _ (sym n) in
    rw (l, f) refl

-- the bytes with one more are a token with this function
abbrev pub EndsAs : List ℕ → ℕ → Function → Type 0
EndsAs begun b f = f ≡ function_of (begun ++ b ∷ [])

from_spelled : (begun spelled : List ℕ) (b : ℕ) (f : Function) → begun ≡ spelled → EndsAs spelled b f → EndsAs begun b f
from_spelled begun spelled b f e h = subst (λ (l : List ℕ). EndsAs l b f) (sym e) h

not_91 : (b : ℕ) → b ≢ 91 → (b == 91) ≡ false
not_91 b n = grind (arith, nat_tests)

not_introducer : (b : ℕ) → IsWhole (27 ∷ b ∷ []) → b ≢ 91
not_introducer b w e = token_not_open (27 ∷ 91 ∷ []) [] (inl (subst (λ (n : ℕ). IsWhole (27 ∷ n ∷ [])) e w)) (introducer_open 27 91 refl refl)

pub ended_escape : (begun : List ℕ) (b : ℕ) → begun ≡ 27 ∷ [] → IsWhole (begun ++ b ∷ []) → EndsAs begun b (escape_final b)
ended_escape begun b e w =
    from_spelled begun (27 ∷ []) b (escape_final b) e (rw (not_91 b (not_introducer b (subst (λ (l : List ℕ). IsWhole (l ++ b ∷ [])) e w))) refl)

pub ended_g0 : (begun : List ℕ) (b : ℕ) → begun ≡ 27 ∷ 40 ∷ [] → EndsAs begun b (designation G0 b)
ended_g0 begun b e = from_spelled begun (27 ∷ 40 ∷ []) b (designation G0 b) e refl

pub ended_g1 : (begun : List ℕ) (b : ℕ) → begun ≡ 27 ∷ 41 ∷ [] → EndsAs begun b (designation G1 b)
ended_g1 begun b e = from_spelled begun (27 ∷ 41 ∷ []) b (designation G1 b) e refl

not_equal : (n k : ℕ) → n ≢ k → (n == k) ≡ false
not_equal n k h = grind (arith, nat_tests)

escaped_more : (second b : ℕ) (more : List ℕ) → (more ≡ [] → (second ≢ 40) × (second ≢ 41)) → escaped (second ∷ (more ++ b ∷ [])) ≡ Ignored
escaped_more second b [] h = rw (not_equal second 40 (h refl).0, not_equal second 41 (h refl).1) refl
escaped_more second b (m ∷ []) h = refl
escaped_more second b (m ∷ n ∷ more) h = refl

pub ended_nothing : (begun : List ℕ) (b : ℕ) → ChoosesNothing begun → EndsAs begun b Ignored
ended_nothing begun b h = from_spelled begun (27 ∷ h.second ∷ h.more) b Ignored h.spelled (rw (not_91 h.second h.no_introducer) (sym (escaped_more h.second b h.more h.no_set)))

pub ended_introduced : (begun : List ℕ) (ns : List (Option ℕ)) (b : ℕ) → begun ≡ 27 ∷ 91 ∷ [] → ns ≡ None ∷ [] → EndsAs begun b (of_numbers b ns)
ended_introduced begun ns b e n = from_spelled begun (27 ∷ 91 ∷ []) b (of_numbers b ns) e (ap (λ (l : List (Option ℕ)). of_numbers b l) n)

pub ended_numbers : (begun : List ℕ) (ns : List (Option ℕ)) (b : ℕ) → IsNumbered ns begun → EndsAs begun b (of_numbers b ns)
ended_numbers begun ns b h = from_spelled begun (27 ∷ 91 ∷ h.front) b (of_numbers b ns) h.spelled
    (ap (λ (l : List (Option ℕ)). of_numbers b l) h.read ∙ sym (sequence_push h.front b ∙ rw (h.numeral) refl))

pub ended_private : (begun : List ℕ) (ns : List (Option ℕ)) (b : ℕ) → IsPrivate ns begun → EndsAs begun b (of_private_numbers b ns)
ended_private begun ns b h = from_spelled begun (27 ∷ 91 ∷ 63 ∷ h.front) b (of_private_numbers b ns) h.spelled
    (ap (λ (l : List (Option ℕ)). of_private_numbers b l) h.read ∙ sym (sequence_push (63 ∷ h.front) b ∙ rw (h.numeral) refl))

marked_nothing : (b : ℕ) (front : List ℕ) → is_marked front ≡ false → marked b front ≡ Ignored
marked_nothing b [] h = refl
marked_nothing b (c ∷ front) h = rw h refl

pub ended_unnamed : (begun : List ℕ) (b : ℕ) → NamesNothing begun → EndsAs begun b Ignored
ended_unnamed begun b h = from_spelled begun (27 ∷ 91 ∷ h.front) b Ignored h.spelled
    (sym (sequence_push h.front b ∙ rw (h.plain) (marked_nothing b h.front h.marked)))

pub ended_ignored : (stage : ParserState) (begun : List ℕ) (ns : List (Option ℕ)) (b : ℕ) → (stage ≡ Intermediate) ⊎ (stage ≡ OtherParameters) ⊎ (stage ≡ Closed) → IsAt stage ns begun → EndsAs begun b Ignored
ended_ignored stage begun ns b e h = elim e [
  | inl e ↦ ended_nothing begun b (subst (λ (s : ParserState). IsAt s ns begun) e h)
  | inr e ↦ elim e [
    | inl e ↦ (let k : NamesNothing begun × (IsIntermediate (last_byte begun) → ⊥) = subst (λ (s : ParserState). IsAt s ns begun) e h in ended_unnamed begun b k.0)
    | inr e ↦ (let k : NamesNothing begun × IsIntermediate (last_byte begun) = subst (λ (s : ParserState). IsAt s ns begun) e h in ended_unnamed begun b k.0)
  ]
]

-- the parts kept of a token determine its function
pub told : (stage : ParserState) (ns : List (Option ℕ)) (bytes seen : List ℕ) (f : Function) → IsTold (Some stage) ns bytes → seen ≡ bytes
    → ((begun : List ℕ) → IsAt stage ns begun → IsWhole (begun ++ last_byte seen ∷ []) → EndsAs begun (last_byte seen) f) → f ≡ function_of bytes
told stage ns bytes seen f t e h =
    let b : last_byte seen ≡ t.1 = ap last_byte (e ∙ t.2) ∙ last_push t.0 t.1 in
    let whole : t.0 ++ last_byte seen ∷ [] ≡ bytes = ap (λ (x : ℕ). t.0 ++ x ∷ []) b ∙ sym t.2 in
    h t.0 t.3 (subst IsWhole (sym whole) t.4) ∙ ap function_of whole

-- one more byte
pub list_all_push : (front : List ℕ) (b : ℕ) (c : Bool) → is_numeral b ≡ c → list_all is_numeral front ≡ true → list_all is_numeral (front ++ b ∷ []) ≡ c
list_all_push [] b c e h = grind (arith, e)
list_all_push (d ∷ front) b c e h = behind_true (is_numeral d) (list_all is_numeral front) (list_all is_numeral (front ++ b ∷ [])) c h (λ k. list_all_push front b c e k)
  where
    behind_true : (x y z c : Bool) → (x && y) ≡ true → (y ≡ true → z ≡ c) → (x && z) ≡ c
    behind_true true y z c h f = f h
    behind_true false y z c h f = absurd (cc)

list_all_kept : (front : List ℕ) (b : ℕ) → list_all is_numeral front ≡ false → list_all is_numeral (front ++ b ∷ []) ≡ false
list_all_kept [] b h = absurd (cc)
list_all_kept (d ∷ front) b h = kept (is_numeral d) (list_all is_numeral front) (list_all is_numeral (front ++ b ∷ [])) h (λ k. list_all_kept front b k)
  where
    kept : (x y z : Bool) → (x && y) ≡ false → (y ≡ false → z ≡ false) → (x && z) ≡ false
    kept true y z h f = f h
    kept false y z h f = refl

-- the last byte is this one
late_push : (xs : List ℕ) (b : ℕ) → (IsIntermediate b → ⊥) → IsIntermediate (last_byte (xs ++ b ∷ [])) → ⊥
late_push xs b n i = n (subst IsIntermediate (last_push xs b) i)

numeral_high : (b : ℕ) → is_numeral b ≡ true → IsIntermediate b → ⊥
numeral_high b h i = absurd (high b h i.0 i.1)
  where
    high : (b : ℕ) → is_numeral b ≡ true → 32 ≤ b → b ≤ 47 → ⊥
    high b h l k = grind (arith, nat_tests)

push_spelled : (begun spelled : List ℕ) (b : ℕ) → begun ≡ spelled → begun ++ b ∷ [] ≡ spelled ++ b ∷ []
push_spelled begun spelled b e = ap (λ (l : List ℕ). l ++ b ∷ []) e

pub behind_outside : (begun : List ℕ) (b : ℕ) → begun ≡ [] → IsOpen (begun ++ b ∷ []) → begun ++ b ∷ [] ≡ 27 ∷ []
behind_outside begun b e o = push_spelled begun [] b e ∙ ap (λ (n : ℕ). n ∷ []) (open_escape b [] (subst IsOpen (push_spelled begun [] b e) o))

pub behind_stem : (stage : ParserState) (ns : List (Option ℕ)) (begun : List ℕ) (b : ℕ) → (stage ≡ DesignatesG0) ⊎ (stage ≡ DesignatesG1) ⊎ (stage ≡ Intermediate) → IsAt stage ns begun → ChoosesNothing (begun ++ b ∷ [])
behind_stem stage ns begun b e h = let s : IsStemmed begun = stemmed stage ns begun e h in record {
  second = s.second;
  more = s.more ++ b ∷ [];
  spelled = push_spelled begun (27 ∷ s.second ∷ s.more) b s.spelled;
  no_introducer = s.no_introducer;
  no_set = λ none. absurd (let n : length (s.more ++ b ∷ []) ≡ 0 = ap length none in omega (arith, n, length-append s.more (b ∷ [])));
}

pub behind_mark : (begun : List ℕ) (ns : List (Option ℕ)) (b : ℕ) → begun ≡ 27 ∷ 91 ∷ [] → ns ≡ None ∷ [] → b ≡ 63 → IsPrivate ns (begun ++ b ∷ [])
behind_mark begun ns b e n k = record {
  front = [];
  spelled = push_spelled begun (27 ∷ 91 ∷ []) b e ∙ ap (λ (x : ℕ). 27 ∷ 91 ∷ x ∷ []) k;
  numeral = refl;
  read = n;
  goes_on = late_push begun b (λ i. omega (arith, i.1, k));
}

unnumbered : (begun front : List ℕ) (b : ℕ) → begun ≡ 27 ∷ 91 ∷ front → 0 < length front → list_all is_numeral front ≡ true → is_numeral b ≡ false → NamesNothing (begun ++ b ∷ [])
unnumbered begun [] b e some h k = absurd (omega arith)
unnumbered begun (c ∷ front) b e some h k = record {
  front = c ∷ (front ++ b ∷ []);
  spelled = push_spelled begun (27 ∷ 91 ∷ c ∷ front) b e;
  plain = list_all_push (c ∷ front) b false k h;
  marked = unmarked c (list_all is_numeral front) (list_all is_numeral (front ++ b ∷ [])) h;
}
  where
    unmarked : (c : ℕ) (x y : Bool) → (is_numeral c && x) ≡ true → ((c == 63) && y) ≡ false
    unmarked c x y h = grind (arith, nat_tests)

-- the stage after numbers
pub more_numbers : (stage : ParserState) (old new : List (Option ℕ)) (begun : List ℕ) (b : ℕ) → IsNumbered old begun → (is_numeral b ≡ true → stage ≡ Parameters)
    → (is_numeral b ≡ true → (front : List ℕ) → old ≡ numbers front → new ≡ numbers (front ++ b ∷ [])) → (is_numeral b ≡ false → NamesNothing (begun ++ b ∷ []) → IsAt stage new (begun ++ b ∷ [])) → IsAt stage new (begun ++ b ∷ [])
more_numbers stage old new begun b h at more other = by_test (is_numeral b) refl
  where
    by_test : (c : Bool) → is_numeral b ≡ c → IsAt stage new (begun ++ b ∷ [])
    by_test true e = subst (λ (s : ParserState). IsAt s new (begun ++ b ∷ [])) (sym (at e)) (record {
      front = h.front ++ b ∷ [];
      spelled = push_spelled begun (27 ∷ 91 ∷ h.front) b h.spelled;
      some = omega (arith, length-append h.front (b ∷ []));
      numeral = list_all_push h.front b true e h.numeral;
      read = more e h.front h.read;
      goes_on = late_push begun b (numeral_high b e);
    })
    by_test false e = other e (unnumbered begun h.front b h.spelled h.some h.numeral e)

unmarked : (begun : List ℕ) (b : ℕ) → begun ≡ 27 ∷ 91 ∷ [] → (b ≡ 63 → ⊥) → is_numeral b ≡ false → NamesNothing (begun ++ b ∷ [])
unmarked begun b e n k = record {
  front = b ∷ [];
  spelled = push_spelled begun (27 ∷ 91 ∷ []) b e;
  plain = list_all_push [] b false k refl;
  marked = rw (not_equal b 63 n) refl;
}

pub first_number : (stage : ParserState) (old new : List (Option ℕ)) (begun : List ℕ) (b : ℕ) → begun ≡ 27 ∷ 91 ∷ [] → old ≡ None ∷ [] → (b ≡ 63 → ⊥) → (is_numeral b ≡ true → stage ≡ Parameters)
    → (is_numeral b ≡ true → (front : List ℕ) → old ≡ numbers front → new ≡ numbers (front ++ b ∷ [])) → (is_numeral b ≡ false → NamesNothing (begun ++ b ∷ []) → IsAt stage new (begun ++ b ∷ [])) → IsAt stage new (begun ++ b ∷ [])
first_number stage old new begun b s n mark at more other = by_test (is_numeral b) refl
  where
    by_test : (c : Bool) → is_numeral b ≡ c → IsAt stage new (begun ++ b ∷ [])
    by_test true e = subst (λ (s : ParserState). IsAt s new (begun ++ b ∷ [])) (sym (at e)) (record {
      front = b ∷ [];
      spelled = push_spelled begun (27 ∷ 91 ∷ []) b s;
      some = omega arith;
      numeral = list_all_push [] b true e refl;
      read = more e [] n;
      goes_on = late_push begun b (numeral_high b e);
    })
    by_test false e = other e (unmarked begun b s mark e)

unprivate : (begun front : List ℕ) (b : ℕ) → begun ≡ 27 ∷ 91 ∷ 63 ∷ front → list_all is_numeral front ≡ true → is_numeral b ≡ false → NamesNothing (begun ++ b ∷ [])
unprivate begun front b e h k = record {
  front = 63 ∷ (front ++ b ∷ []);
  spelled = push_spelled begun (27 ∷ 91 ∷ 63 ∷ front) b e;
  plain = refl;
  marked = list_all_push front b false k h;
}

pub more_private : (stage : ParserState) (old new : List (Option ℕ)) (begun : List ℕ) (b : ℕ) → IsPrivate old begun → (is_numeral b ≡ true → stage ≡ PrivateParameters)
    → (is_numeral b ≡ true → (front : List ℕ) → old ≡ numbers front → new ≡ numbers (front ++ b ∷ [])) → (is_numeral b ≡ false → NamesNothing (begun ++ b ∷ []) → IsAt stage new (begun ++ b ∷ [])) → IsAt stage new (begun ++ b ∷ [])
more_private stage old new begun b h at more other = by_test (is_numeral b) refl
  where
    by_test : (c : Bool) → is_numeral b ≡ c → IsAt stage new (begun ++ b ∷ [])
    by_test true e = subst (λ (s : ParserState). IsAt s new (begun ++ b ∷ [])) (sym (at e)) (record {
      front = h.front ++ b ∷ [];
      spelled = push_spelled begun (27 ∷ 91 ∷ 63 ∷ h.front) b h.spelled;
      numeral = list_all_push h.front b true e h.numeral;
      read = more e h.front h.read;
      goes_on = late_push begun b (numeral_high b e);
    })
    by_test false e = other e (unprivate begun h.front b h.spelled h.numeral e)

still_unnamed : (begun : List ℕ) (b : ℕ) → NamesNothing begun → NamesNothing (begun ++ b ∷ [])
still_unnamed begun b h = record {
  front = h.front ++ b ∷ [];
  spelled = push_spelled begun (27 ∷ 91 ∷ h.front) b h.spelled;
  plain = list_all_kept h.front b h.plain;
  marked = marked_kept h.front b h.plain h.marked;
}
  where
    kept : (x y z : Bool) → (x && y) ≡ false → (y ≡ false → z ≡ false) → (x && z) ≡ false
    kept true y z h f = f h
    kept false y z h f = refl

    marked_kept : (front : List ℕ) (b : ℕ) → list_all is_numeral front ≡ false → is_marked front ≡ false → is_marked (front ++ b ∷ []) ≡ false
    marked_kept [] b p h = absurd (cc)
    marked_kept (c ∷ front) b p h = kept (c == 63) (list_all is_numeral front) (list_all is_numeral (front ++ b ∷ [])) h (λ k. list_all_kept front b k)

pub more_unnamed : (stage : ParserState) (ns : List (Option ℕ)) (begun : List ℕ) (b : ℕ) → (stage ≡ OtherParameters) ⊎ (stage ≡ Closed) → IsAt stage ns begun → NamesNothing (begun ++ b ∷ [])
more_unnamed stage ns begun b e h = elim e [
  | inl e ↦ (let k : NamesNothing begun × (IsIntermediate (last_byte begun) → ⊥) = subst (λ (s : ParserState). IsAt s ns begun) e h in still_unnamed begun b k.0)
  | inr e ↦ (let k : NamesNothing begun × IsIntermediate (last_byte begun) = subst (λ (s : ParserState). IsAt s ns begun) e h in still_unnamed begun b k.0)
]
