-- A text judged line by line.
use Rattle.std.proofs.Common.{◌≡◌, ℕ, zero, suc, ◌+◌, ◌-◌, ◌<◌, ◌≤◌, Bool, true, false, if◌then◌else◌, List, [], ◌∷◌, ◌++◌, Option, None, Some, Result, Ok, Err, length, take, drop, refl, ap, ◌∙◌, arith}
use Rattle.std.specs.Option.{option_map}
use Rattle.std.proofs.lemmas.Bool.Decides.{nat_tests}
use Rattle.ti_lines.specs.Text.{Cut, IsText, is_feed, cut_of, with_line, onto_cut, line_end, is_long}
use Rattle.ti_lines.specs.Judgements.{Rules, fault_at, AtLine, Passes, Fails, TooLong, JudgedLines, JudgedCut, JudgedFrom}
use Rattle.ti_lines.specs.declared.judgements.LineFault.{LineFault}
use Rattle.ti_lines.proofs.Ends.{none_moved}

-- how a text is cut

no_feed : (b : ℕ) (o : Option ℕ) (t : Bool) → (if t then Some 0 else option_map suc o) ≡ None → (t ≡ false) × (o ≡ None)
no_feed b o true h = cc
no_feed b o false h = (refl, none_moved o h)

pub cut_alone : (text : List ℕ) → line_end text ≡ None → cut_of text ≡ record { lines = []; last = text }
cut_alone [] h = refl
cut_alone (b ∷ text) h =
    let p = no_feed b (line_end text) (is_feed b) h in
    ap (λ t. if t then with_line [] (cut_of text) else onto_cut b (cut_of text).lines (cut_of text).last) p.0
    ∙ ap (λ (c : Cut). onto_cut b c.lines c.last) (cut_alone text p.1)

pub cut_line : (line more : List ℕ) → line_end line ≡ None → cut_of (line ++ 10 ∷ more) ≡ with_line line (cut_of more)
cut_line [] more h = refl
cut_line (b ∷ line) more h =
    let p = no_feed b (line_end line) (is_feed b) h in
    ap (λ t. if t then with_line [] (cut_of (line ++ 10 ∷ more)) else onto_cut b (cut_of (line ++ 10 ∷ more)).lines (cut_of (line ++ 10 ∷ more)).last) p.0
    ∙ ap (λ (c : Cut). onto_cut b c.lines c.last) (cut_line line more p.1)

-- a text whose first line ends here
pub record Begins (text : List ℕ) (n : ℕ) : Type 0 where
  pub parts : text ≡ take n text ++ 10 ∷ drop (suc n) text
  pub line : line_end (take n text) ≡ None
  pub within : n < length text

feed_is : (b : ℕ) → is_feed b ≡ true → b ≡ 10
feed_is b e = grind (arith, nat_tests, e)

begins_step : (b : ℕ) (text : List ℕ) (n : ℕ) (o : Option ℕ) (t : Bool) → is_feed b ≡ t → (if t then Some 0 else option_map suc o) ≡ Some n → ((k : ℕ) → o ≡ Some k → Begins text k) → Begins (b ∷ text) n
begins_step b text zero o true e h deeper = record { parts = ap (λ (c : ℕ). c ∷ text) (feed_is b e); line = refl; within = omega arith }
begins_step b text (suc n) o true e h deeper = cc
begins_step b text n None false e h deeper = cc
begins_step b text zero (Some k) false e h deeper = cc
begins_step b text (suc n) (Some k) false e h deeper =
    let same : k ≡ n = cc in
    let d : Begins text n = deeper n (ap (λ (m : ℕ). Some m) same) in
    record {
      parts = ap (λ (l : List ℕ). b ∷ l) d.parts;
      line = ap (λ t. if t then Some 0 else option_map suc (line_end (take n text))) e ∙ ap (option_map suc) d.line;
      within = omega (arith, d.within);
    }

pub begins : (text : List ℕ) (n : ℕ) → line_end text ≡ Some n → Begins text n
begins [] n h = cc
begins (b ∷ text) n h = begins_step b text n (line_end text) (is_feed b) refl h (begins text)

-- a line that doesn't end within the limit, whatever follows
abbrev LongCut : ℕ → List (List ℕ) → List ℕ → Type 0
LongCut budget [] last = 0 < length last
LongCut budget (line ∷ lines) last = budget ≤ length line

long_onto : (budget b : ℕ) (lines : List (List ℕ)) (last : List ℕ) → LongCut budget lines last → LongCut (suc budget) (onto_cut b lines last).lines (onto_cut b lines last).last
long_onto budget b [] last h = omega arith
long_onto budget b (line ∷ lines) last h = omega (arith, h)

long_zero : (b : ℕ) (lines : List (List ℕ)) (last : List ℕ) → LongCut 0 (onto_cut b lines last).lines (onto_cut b lines last).last
long_zero b [] last = omega arith
long_zero b (line ∷ lines) last = omega arith

long_now : (b : ℕ) (c : Cut) (t : Bool) → LongCut 0 (if t then with_line [] c else onto_cut b c.lines c.last).lines (if t then with_line [] c else onto_cut b c.lines c.last).last
long_now b c true = omega arith
long_now b c false = long_zero b c.lines c.last

long_later : (budget b : ℕ) (text : List ℕ) (c : Cut) (t : Bool) → (if t then false else is_long budget text) ≡ true → (is_long budget text ≡ true → LongCut budget c.lines c.last)
    → LongCut (suc budget) (if t then with_line [] c else onto_cut b c.lines c.last).lines (if t then with_line [] c else onto_cut b c.lines c.last).last
long_later budget b text c true h deeper = cc
long_later budget b text c false h deeper = long_onto budget b c.lines c.last (deeper h)

pub long_cut : (budget : ℕ) (text back : List ℕ) → is_long budget text ≡ true → LongCut budget (cut_of (text ++ back)).lines (cut_of (text ++ back)).last
long_cut budget [] back h = cc
long_cut zero (b ∷ text) back h = long_now b (cut_of (text ++ back)) (is_feed b)
long_cut (suc budget) (b ∷ text) back h = long_later budget b text (cut_of (text ++ back)) (is_feed b) h (long_cut budget text back)

-- how it is judged

judge_passes : {T F : Type 0} (rules : Rules T F) (budget number : ℕ) (t u : T) (line more : List ℕ) (c : Cut) (answer : Result T (LineFault F)) → c ≡ with_line line (cut_of more) → length line < budget → rules.line t line (Ok u)
    → JudgedFrom rules (budget - (length line + 1)) (number + 1) u more answer → JudgedCut rules budget number t c answer
unfolding JudgedFrom JudgedLines
judge_passes rules budget number t u line more c answer e lt is later = rw e (Passes lt u is later)

pub judge_step : {T F : Type 0} (rules : Rules T F) (budget number : ℕ) (t u : T) (line more : List ℕ) (answer : Result T (LineFault F)) → line_end line ≡ None → length line < budget → rules.line t line (Ok u)
    → JudgedFrom rules (budget - (length line + 1)) (number + 1) u more answer → JudgedFrom rules budget number t (line ++ 10 ∷ more) answer
unfolding JudgedFrom
judge_step rules budget number t u line more answer h lt is later = judge_passes rules budget number t u line more (cut_of (line ++ 10 ∷ more)) answer (cut_line line more h) lt is later

judge_fails : {T F : Type 0} (rules : Rules T F) (budget number : ℕ) (t : T) (kind : F) (line more : List ℕ) (c : Cut) → c ≡ with_line line (cut_of more) → length line < budget → rules.line t line (Err kind)
    → JudgedCut rules budget number t c (Err (fault_at number kind))
unfolding JudgedLines
judge_fails rules budget number t kind line more c e lt is = rw e (Fails lt kind refl is)

pub judge_fault : {T F : Type 0} (rules : Rules T F) (budget number : ℕ) (t : T) (kind : F) (line more : List ℕ) → line_end line ≡ None → length line < budget → rules.line t line (Err kind)
    → JudgedFrom rules budget number t (line ++ 10 ∷ more) (Err (fault_at number kind))
unfolding JudgedFrom
judge_fault rules budget number t kind line more h lt is = judge_fails rules budget number t kind line more (cut_of (line ++ 10 ∷ more)) (cut_line line more h) lt is

pub judge_end : {T F : Type 0} (rules : Rules T F) (budget number : ℕ) (t : T) (answer : Result T (LineFault F)) → AtLine number (rules.end t) answer → JudgedFrom rules budget number t [] answer
unfolding JudgedFrom JudgedLines
judge_end rules budget number t answer h = h

last_bad : {T F : Type 0} (rules : Rules T F) (budget number : ℕ) (t : T) (last : List ℕ) → 0 < length last → JudgedLines rules budget number t [] last (Err (fault_at number rules.no_line))
unfolding JudgedLines
last_bad rules budget number t [] lt = absurd (omega arith)
last_bad rules budget number t (b ∷ last) lt = refl

unended_cut : {T F : Type 0} (rules : Rules T F) (budget number : ℕ) (t : T) (text : List ℕ) (c : Cut) → c ≡ record { lines = []; last = text } → 0 < length text → JudgedCut rules budget number t c (Err (fault_at number rules.no_line))
unended_cut rules budget number t text c e lt = rw e (last_bad rules budget number t text lt)

pub judge_unended : {T F : Type 0} (rules : Rules T F) (budget number : ℕ) (t : T) (text : List ℕ) → line_end text ≡ None → 0 < length text → JudgedFrom rules budget number t text (Err (fault_at number rules.no_line))
unfolding JudgedFrom
judge_unended rules budget number t text h lt = unended_cut rules budget number t text (cut_of text) (cut_alone text h) lt

long_bad : {T F : Type 0} (rules : Rules T F) (budget number : ℕ) (t : T) (lines : List (List ℕ)) (last : List ℕ) → LongCut budget lines last → JudgedLines rules budget number t lines last (Err (fault_at number rules.no_line))
unfolding JudgedLines
long_bad rules budget number t [] [] h = absurd (omega (arith, h))
long_bad rules budget number t [] (b ∷ last) h = refl
long_bad rules budget number t (line ∷ lines) last h = TooLong h refl

pub judge_long : {T F : Type 0} (rules : Rules T F) (budget number : ℕ) (t : T) (text back : List ℕ) → is_long budget text ≡ true → JudgedFrom rules budget number t (text ++ back) (Err (fault_at number rules.no_line))
unfolding JudgedFrom
judge_long rules budget number t text back h = long_bad rules budget number t (cut_of (text ++ back)).lines (cut_of (text ++ back)).last (long_cut budget text back h)

-- `cut_of` as a relation

fed : (b : ℕ) (last : List ℕ) → is_feed b ≡ false → line_end last ≡ None → line_end (b ∷ last) ≡ None
fed b last e h = ap (λ t. if t then Some 0 else option_map suc (line_end last)) e ∙ ap (option_map suc) h

text_onto : (b : ℕ) (text : List ℕ) (lines : List (List ℕ)) (last : List ℕ) → is_feed b ≡ false → IsText lines last text → IsText (onto_cut b lines last).lines (onto_cut b lines last).last (b ∷ text)
text_onto b text [] last e h = (ap (λ (l : List ℕ). b ∷ l) h.0, fed b last e h.1)
text_onto b text (line ∷ lines) last e h = (h.0, ap (λ (l : List ℕ). b ∷ l) h.1, fed b line e h.2, h.3)

text_step : (b : ℕ) (text : List ℕ) (c : Cut) (t : Bool) → is_feed b ≡ t → IsText c.lines c.last text
    → IsText (if t then with_line [] c else onto_cut b c.lines c.last).lines (if t then with_line [] c else onto_cut b c.lines c.last).last (b ∷ text)
text_step b text c true e h = (text, ap (λ (d : ℕ). d ∷ text) (feed_is b e), refl, h)
text_step b text c false e h = text_onto b text c.lines c.last e h

pub text_is : (text : List ℕ) → IsText (cut_of text).lines (cut_of text).last text
text_is [] = (refl, refl)
text_is (b ∷ text) = text_step b text (cut_of text) (is_feed b) refl (text_is text)

pub text_only : (lines : List (List ℕ)) (last text : List ℕ) → IsText lines last text → cut_of text ≡ record { lines = lines; last = last }
text_only [] last text h = let none : line_end text ≡ None = ap line_end h.0 ∙ h.1 in cut_alone text none ∙ ap (λ (l : List ℕ). record { lines = []; last = l }) h.0
text_only (line ∷ lines) last text h = ap cut_of h.1 ∙ (cut_line line h.0 h.2 ∙ ap (with_line line) (text_only lines last h.0 h.3))
