-- A file of cases answered line by line.
use Rattle.std.proofs.Common.{◌≡◌, ℕ, ◌+◌, ◌<◌, ◌≤◌, ◌==◌, List, [], ◌∷◌, ◌++◌, length, take, drop, get_or, refl, sym, ap, ◌∙◌, arith, append_assoc, length-append, Some}
use Rattle.std.specs.List.{AllByRecursion, flat_map, position}
use Rattle.std.proofs.lemmas.List.{append-nil, take-append-drop, drop_more}
use Rattle.std.proofs.lemmas.List.Quantifiers.{position-Some}
use Rattle.std.proofs.lemmas.Bool.{eqb-true}
use Rattle.vt_states.specs.Cases.{Answers, AreAnswers, EachAnswers, IsCase, ended}

-- the lines before the rest, counted by `number`, and their answers
pub record Answered (rows cols : ℕ) (file rest : List ℕ) (number : ℕ) (text : List ℕ) : Type 0 where
  pub lines : List (List ℕ)
  pub answers : List (List ℕ)
  pub read : file ≡ flat_map ended lines ++ rest
  pub written : text ≡ flat_map ended answers
  pub each : EachAnswers rows cols lines answers
  pub cases : AllByRecursion IsCase lines
  pub count : number ≡ length lines
  pub few : number + length rest ≤ length file

pub none_answered : (rows cols : ℕ) (file : List ℕ) → Answered rows cols file file 0 []
none_answered rows cols file = record { lines = []; answers = []; read = refl; written = refl; each = tt; cases = tt; count = refl; few = omega arith }

each_more : (rows cols : ℕ) (lines answers : List (List ℕ)) (line answer : List ℕ) → EachAnswers rows cols lines answers → Answers rows cols line answer → EachAnswers rows cols (lines ++ line ∷ []) (answers ++ answer ∷ [])
each_more rows cols [] [] line answer h a = (a, tt)
each_more rows cols [] (x ∷ answers) line answer h a = absurd h
each_more rows cols (l ∷ lines) [] line answer h a = absurd h
each_more rows cols (l ∷ lines) (x ∷ answers) line answer h a = (h.0, each_more rows cols lines answers line answer h.1 a)

ended_more : (lines : List (List ℕ)) (line : List ℕ) → flat_map ended (lines ++ line ∷ []) ≡ flat_map ended lines ++ ended line
ended_more [] line = append-nil (ended line)
ended_more (l ∷ lines) line = ap (λ (t : List ℕ). ended l ++ t) (ended_more lines line) ∙ sym (append_assoc (ended l) (flat_map ended lines) (ended line))

-- an answered line is a case
answered_cases : (rows cols : ℕ) (lines answers : List (List ℕ)) → EachAnswers rows cols lines answers → AllByRecursion IsCase lines
answered_cases rows cols [] [] h = tt
answered_cases rows cols [] (x ∷ answers) h = absurd h
answered_cases rows cols (l ∷ lines) [] h = absurd h
answered_cases rows cols (l ∷ lines) (x ∷ answers) h = ((h.0.fed, h.0.given), answered_cases rows cols lines answers h.1)

pub one_answered : (rows cols : ℕ) (file rest : List ℕ) (number : ℕ) (text line behind answer more : List ℕ) → Answered rows cols file rest number text → rest ≡ ended line ++ behind → Answers rows cols line answer → more ≡ text ++ ended answer → Answered rows cols file behind (number + 1) more
one_answered rows cols file rest number text line behind answer more h e a w = record {
  lines = h.lines ++ line ∷ [];
  answers = h.answers ++ answer ∷ [];
  read = h.read ∙ ap (λ (t : List ℕ). flat_map ended h.lines ++ t) e ∙ sym (append_assoc (flat_map ended h.lines) (ended line) behind) ∙ ap (λ (t : List ℕ). t ++ behind) (sym (ended_more h.lines line));
  written = w ∙ ap (λ (t : List ℕ). t ++ ended answer) h.written ∙ sym (ended_more h.answers answer);
  each = each_more rows cols h.lines h.answers line answer h.each a;
  cases = answered_cases rows cols (h.lines ++ line ∷ []) (h.answers ++ answer ∷ []) (each_more rows cols h.lines h.answers line answer h.each a);
  count = omega (arith, h.count, length-append h.lines (line ∷ []));
  few = omega (arith, h.few, ap length e, length-append (ended line) behind, length-append line (10 ∷ []));
}

pub all_answered : (rows cols : ℕ) (file rest : List ℕ) (number : ℕ) (text : List ℕ) → Answered rows cols file rest number text → rest ≡ [] → AreAnswers rows cols file text
all_answered rows cols file rest number text h e = record {
  lines = h.lines;
  answers = h.answers;
  read = h.read ∙ ap (λ (t : List ℕ). flat_map ended h.lines ++ t) e ∙ append-nil (flat_map ended h.lines);
  written = h.written;
  each = h.each;
}

-- a line up to its LF
cut_there : (xs : List ℕ) (k : ℕ) → k < length xs → get_or xs k 0 ≡ 10 → xs ≡ ended (take k xs) ++ drop (k + 1) xs
cut_there xs k lt e =
    sym (take-append-drop k xs) ∙ ap (λ (l : List ℕ). take k xs ++ l) (drop_more xs k 0 lt ∙ ap (λ (b : ℕ). b ∷ drop (k + 1) xs) e)
    ∙ sym (append_assoc (take k xs) (10 ∷ []) (drop (k + 1) xs))

pub next_answered : (rows cols : ℕ) (file rest : List ℕ) (number : ℕ) (text : List ℕ) (k : ℕ) (behind more : List ℕ) → Answered rows cols file rest number text → position (λ (b : ℕ). b == 10) rest ≡ Some k → behind ≡ drop (k + 1) rest
    → ((answer : List ℕ) × (more ≡ text ++ ended answer) × Answers rows cols (take k rest) answer) → Answered rows cols file behind (number + 1) more
next_answered rows cols file rest number text k behind more h p b a =
    let found = position-Some (λ (x : ℕ). x == 10) rest k 0 p in
    one_answered rows cols file rest number text (take k rest) behind a.0 more h (cut_there rest k found.0 (eqb-true (get_or rest k 0) 10 found.1) ∙ ap (λ (t : List ℕ). ended (take k rest) ++ t) (sym b)) a.2 a.1
