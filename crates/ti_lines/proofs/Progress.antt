-- Judging line after line: the state between two lines, and the end.
use Rattle.std.proofs.Common.{◌≡◌, ℕ, suc, ◌+◌, ◌-◌, ◌<◌, ◌≤◌, inl, inr, List, [], ◌∷◌, ◌++◌, None, Some, Result, Ok, Err, IfErr, length, take, drop, refl, sym, ap, subst, ◌∙◌, arith, append_assoc, length-append, length-take}
use Rattle.std.proofs.lemmas.List.{append-nil, length-drop}
use Rattle.ti_lines.specs.Reader.{AtEnd, Gave, Rose}
use Rattle.ti_lines.specs.Text.{Cut, cut_of, line_end}
use Rattle.ti_lines.specs.Lines.{Reading, Takes, Refills, NotAtAll, InPieces, IsNext, HaltsBy}
use Rattle.ti_lines.specs.Judgements.{Rules, fault_at, AtLine, JudgedFrom, Judged, FailsBy, Gives, Outcome, Whole, Early, Cuts, LastCall, Reports, Closes, halted, Progress}
use Rattle.ti_lines.specs.declared.judgements.LineFault.{LineFault}
use Rattle.ti_lines.specs.declared.lines.Next.{Next}
use Rattle.ti_lines.specs.declared.lines.Next.TheVariants.{Line, End, Unended, Long}
use Rattle.ti_lines.specs.declared.lines.Halt.{Halt}
use Rattle.ti_lines.specs.declared.lines.Halt.TheVariants.{ReadFailed, NoMemory}
use Rattle.ti_lines.proofs.Gaves.{gave_nothing, gave_joins, rose_later}
use Rattle.ti_lines.proofs.Texts.{cut_alone, cut_line, Begins, begins, judge_step, judge_fault, judge_end, judge_unended, judge_long}

pub progress_start : {R T F : Type 0} (rules : Rules T F) (limit : ℕ) (t : T) (left : R → List ℕ → Type 0) (failures : R → ℕ) (r : R) → Progress rules limit t left failures r r (record { unread = []; budget = limit }) 1 t
unfolding Judged
progress_start rules limit t left failures r = record {
  passed = [];
  gave = gave_nothing left failures r;
  budget = omega arith;
  bound = omega arith;
  few = omega arith;
  last = record { before = []; piece = []; parts = refl; few = omega arith; open_line = omega arith };
  lines = λ text. omega arith;
  rest = λ text answer h. h;
}

-- the last call, if more was taken
call_further : {R T F : Type 0} (rules : Rules T F) (limit : ℕ) (start : T) (left : R → List ℕ → Type 0) (failures : R → ℕ) (old a : R) (r : Reading) (number : ℕ) (t : T) (bytes : List ℕ)
    (p : Progress rules limit start left failures old a r number t) → Refills r.unread bytes → LastCall (p.passed ++ (r.unread ++ bytes)) number
call_further rules limit start left failures old a r number t bytes p (NotAtAll none) =
    subst (λ (l : List ℕ). LastCall (p.passed ++ l) number) (sym (ap (λ (l : List ℕ). r.unread ++ l) none ∙ append-nil r.unread)) p.last
call_further rules limit start left failures old a r number t bytes p (InPieces before piece parts few unended) =
    let alone : length (cut_of (r.unread ++ before)).lines ≡ 0 = ap (λ (c : Cut). length c.lines) (cut_alone (r.unread ++ before) unended) in
    record {
      before = p.passed ++ (r.unread ++ before);
      piece = piece;
      parts = ap (λ (l : List ℕ). p.passed ++ l) (ap (λ (l : List ℕ). r.unread ++ l) parts ∙ sym (append_assoc r.unread before piece)) ∙ sym (append_assoc p.passed (r.unread ++ before) piece);
      few = few;
      open_line = omega (arith, p.lines (r.unread ++ before), alone);
    }

later_line : (given : List ℕ) (number : ℕ) → LastCall given number → LastCall given (number + 1)
later_line given number c = record { before = c.before; piece = c.piece; parts = c.parts; few = c.few; open_line = omega (arith, c.open_line) }

-- the fault is in the line that is being read
called_last : {X F : Type 0} (answer : Result X (LineFault F)) (given : List ℕ) (number : ℕ) → LastCall given number → IfErr answer (λ e. e.line ≡ number) → IfErr answer (λ e. LastCall given e.line)
called_last (Ok x) given number c same = tt
called_last (Err e) given number c same = subst (λ (n : ℕ). LastCall given n) (sym same) c

pub progress_takes : {R T F : Type 0} (rules : Rules T F) (limit : ℕ) (start : T) (left : R → List ℕ → Type 0) (failures : R → ℕ) (old a b : R) (r s : Reading) (number : ℕ) (t : T)
    → Progress rules limit start left failures old a r number t → Takes left failures r a s b → Progress rules limit start left failures old b s number t
progress_takes {R} rules limit start left failures old a b r s number t p q =
    let P : List ℕ → Type 0 = Gave left failures old b in
    let e : (p.passed ++ r.unread) ++ q.bytes ≡ p.passed ++ s.unread = append_assoc p.passed r.unread q.bytes ∙ ap (λ (l : List ℕ). p.passed ++ l) (sym q.unread) in
    record {
      passed = p.passed;
      gave = subst P e (gave_joins left failures old a b (p.passed ++ r.unread) q.bytes p.gave q.gave);
      budget = omega (arith, p.budget, q.budget);
      bound = q.bound;
      few = p.few;
      last = subst (λ (l : List ℕ). LastCall (p.passed ++ l) number) (sym q.unread) (call_further rules limit start left failures old a r number t q.bytes p q.refills);
      lines = p.lines;
      rest = λ text answer h. p.rest text answer (subst (λ (n : ℕ). JudgedFrom rules n number t text answer) q.budget h);
    }

-- one more line
pub progress_line : {R T F : Type 0} (rules : Rules T F) (limit : ℕ) (start : T) (left : R → List ℕ → Type 0) (failures : R → ℕ) (old a : R) (r : Reading) (number : ℕ) (t u : T) (n : ℕ)
    → Progress rules limit start left failures old a r number t → line_end r.unread ≡ Some n → n < r.budget → rules.line t (take n r.unread) (Ok u)
    → Progress rules limit start left failures old a (record { unread = drop (n + 1) r.unread; budget = r.budget - (n + 1) }) (number + 1) u
progress_line {R} rules limit start left failures old a r number t u n p h lt is =
    let b : Begins r.unread n = begins r.unread n h in
    let size : length (take n r.unread) ≡ n = omega (arith, length-take n r.unread, b.within) in
    let next : suc n ≡ n + 1 = omega arith in
    let joined : (text : List ℕ) → (p.passed ++ (take n r.unread ++ 10 ∷ [])) ++ text ≡ p.passed ++ (take n r.unread ++ 10 ∷ text) =
    λ text. append_assoc p.passed (take n r.unread ++ 10 ∷ []) text ∙ ap (λ (l : List ℕ). p.passed ++ l) (append_assoc (take n r.unread) (10 ∷ []) text) in
    let whole : p.passed ++ r.unread ≡ (p.passed ++ (take n r.unread ++ 10 ∷ [])) ++ drop (n + 1) r.unread =
    ap (λ (l : List ℕ). p.passed ++ l) (b.parts ∙ ap (λ k. take n r.unread ++ 10 ∷ drop k r.unread) next) ∙ sym (joined (drop (n + 1) r.unread)) in
    let G : List ℕ → Type 0 = Gave left failures old a in
    let long : length (p.passed ++ (take n r.unread ++ 10 ∷ [])) ≡ length p.passed + (n + 1) =
    length-append p.passed (take n r.unread ++ 10 ∷ []) ∙ (let m : length (take n r.unread ++ 10 ∷ []) ≡ n + 1 = omega (arith, length-append (take n r.unread) (10 ∷ []), size) in ap (λ k. length p.passed + k) m) in
    record {
      passed = p.passed ++ (take n r.unread ++ 10 ∷ []);
      gave = subst G whole p.gave;
      budget = omega (arith, p.budget, long, lt);
      bound = omega (arith, p.bound, length-drop (n + 1) r.unread, lt);
      few = omega (arith, p.few, long);
      last = subst (λ (l : List ℕ). LastCall l (number + 1)) whole (later_line (p.passed ++ r.unread) number p.last);
      lines = λ text.
          let e : length (cut_of ((p.passed ++ (take n r.unread ++ 10 ∷ [])) ++ text)).lines + 1 ≡ number + length (cut_of (take n r.unread ++ 10 ∷ text)).lines =
          ap (λ l. length (cut_of l).lines + 1) (joined text) ∙ p.lines (take n r.unread ++ 10 ∷ text) in
          let f : length (cut_of (take n r.unread ++ 10 ∷ text)).lines ≡ suc (length (cut_of text).lines) = ap (λ (c : Cut). length c.lines) (cut_line (take n r.unread) text b.line) in
          omega (arith, e, f);
      rest = λ text answer h.
          let small : length (take n r.unread) < r.budget = omega (arith, size, lt) in
          let Q : List ℕ → Type 0 = λ l. Judged rules limit start l answer in
          let N : ℕ → Type 0 = λ k. JudgedFrom rules (r.budget - (k + 1)) (number + 1) u text answer in
          subst Q (sym (joined text)) (p.rest (take n r.unread ++ 10 ∷ text) answer (judge_step rules r.budget number t u (take n r.unread) text answer b.line small is (subst N (sym size) h)));
    }

-- a fault of the text left here is a fault of the whole text
pub fault_passes : {T F : Type 0} (rules : Rules T F) (e : LineFault F) (Now All : Result T (LineFault F) → Type 0) → (Now (Err e) → All (Err e)) → FailsBy rules e Now → FailsBy rules e All
fault_passes rules e Now All f (inl h) = inl (f h)
fault_passes rules e Now All f (inr h) = inr h

gives_passes : {X T F : Type 0} (rules : Rules T F) (new : T) (answer : Result X (LineFault F)) (Now All : Result T (LineFault F) → Type 0) → ((a : Result T (LineFault F)) → Now a → All a) → Gives rules new answer Now → Gives rules new answer All
gives_passes rules new (Ok x) Now All f h = f (Ok new) h
gives_passes rules new (Err e) Now All f h = fault_passes rules e Now All (f (Err e)) h

few_given : {R T F : Type 0} (rules : Rules T F) (limit : ℕ) (start : T) (left : R → List ℕ → Type 0) (failures : R → ℕ) (old a : R) (r : Reading) (number : ℕ) (t : T) (p : Progress rules limit start left failures old a r number t) → length (p.passed ++ r.unread) ≤ limit + 1
few_given rules limit start left failures old a r number t p = omega (arith, length-append p.passed r.unread, p.budget, p.bound)

-- the text left here is judged as a part of the whole
whole_from : {R T F : Type 0} (rules : Rules T F) (limit : ℕ) (start : T) (left : R → List ℕ → Type 0) (failures : R → ℕ) (old a : R) (r : Reading) (number : ℕ) (t : T) (p : Progress rules limit start left failures old a r number t) (back : List ℕ) (answer : Result T (LineFault F))
    → JudgedFrom rules r.budget number t (r.unread ++ back) answer → Judged rules limit start ((p.passed ++ r.unread) ++ back) answer
whole_from rules limit start left failures old a r number t p back answer h =
    let Q : List ℕ → Type 0 = λ l. Judged rules limit start l answer in
    subst Q (sym (append_assoc p.passed r.unread back)) (p.rest (r.unread ++ back) answer h)

-- the next line wasn't found
pub exit_halted : {R X T F : Type 0} (rules : Rules T F) (limit : ℕ) (start new : T) (left : R → List ℕ → Type 0) (failures : R → ℕ) (old b a : R) (r : Reading) (number : ℕ) (t : T) (h : Halt)
    → Progress rules limit start left failures old a r number t → failures old ≤ failures b → HaltsBy (failures b) (failures a) h → line_end r.unread ≡ None → Reports {X = X} rules limit start new left failures old a (Err (halted rules number h))
exit_halted rules limit start new left failures old b a r number t NoMemory p le h none =
    record { given = p.passed ++ r.unread; gave = p.gave; few = few_given rules limit start left failures old a r number t p; last = p.last; outcome = Early (λ back. inr refl) }
exit_halted rules limit start new left failures old b a r number t ReadFailed p le h none =
    let alone : length (cut_of r.unread).lines ≡ 0 = ap (λ (c : Cut). length c.lines) (cut_alone r.unread none) in
    let line : number ≡ length (cut_of (p.passed ++ r.unread)).lines + 1 = omega (arith, p.lines r.unread, alone) in
    record {
      given = p.passed ++ r.unread;
      gave = p.gave;
      few = few_given rules limit start left failures old a r number t p;
      last = p.last;
      outcome = Cuts (fault_at number rules.read_failed) refl refl line (rose_later (failures old) (failures b) (failures a) le h);
    }

-- a line has a fault
pub exit_line : {R X T F : Type 0} (rules : Rules T F) (limit : ℕ) (start new : T) (left : R → List ℕ → Type 0) (failures : R → ℕ) (old a : R) (r : Reading) (number : ℕ) (t : T) (n : ℕ) (e : LineFault F)
    → Progress rules limit start left failures old a r number t → line_end r.unread ≡ Some n → n < r.budget → FailsBy rules e (AtLine number (rules.line t (take n r.unread))) → e.line ≡ number → Reports {X = X} rules limit start new left failures old a (Err e)
exit_line {R} {X} {T} {F} rules limit start new left failures old a r number t n e p h lt fails same =
    let b : Begins r.unread n = begins r.unread n h in
    let size : length (take n r.unread) ≡ n = omega (arith, length-take n r.unread, b.within) in
    let small : length (take n r.unread) < r.budget = omega (arith, size, lt) in
    record {
      given = p.passed ++ r.unread;
      gave = p.gave;
      few = few_given rules limit start left failures old a r number t p;
      last = subst (λ (n : ℕ). LastCall (p.passed ++ r.unread) n) (sym same) p.last;
      outcome = Early (λ back.
          let parts : r.unread ++ back ≡ take n r.unread ++ 10 ∷ (drop (suc n) r.unread ++ back) = ap (λ (l : List ℕ). l ++ back) b.parts ∙ append_assoc (take n r.unread) (10 ∷ drop (suc n) r.unread) back in
          let Q : List ℕ → Type 0 = λ l. JudgedFrom rules r.budget number t l (Err e) in
          let K : ℕ → Type 0 = λ k. JudgedFrom rules r.budget number t (take n r.unread ++ 10 ∷ (drop (suc n) r.unread ++ back)) (Err (fault_at k e.kind)) in
          fault_passes rules e (AtLine number (rules.line t (take n r.unread))) (Judged rules limit start ((p.passed ++ r.unread) ++ back))
          (λ is. whole_from rules limit start left failures old a r number t p back (Err e) (subst Q (sym parts)
          (subst K (sym is.0) (judge_fault rules r.budget number t e.kind (take n r.unread) (drop (suc n) r.unread ++ back) b.line small is.1))))
          fails);
    }

-- the text that was read up to here is the one that was given
given_so_far : {R X T F : Type 0} (rules : Rules T F) (limit : ℕ) (start new : T) (left : R → List ℕ → Type 0) (failures : R → ℕ) (old a : R) (r : Reading) (number : ℕ) (t : T) (answer : Result X (LineFault F)) (p : Progress rules limit start left failures old a r number t)
    → IfErr answer (λ e. e.line ≡ number) → Outcome rules limit start new (AtEnd left a) (Rose (failures old) (failures a)) (p.passed ++ r.unread) answer → Reports rules limit start new left failures old a answer
given_so_far rules limit start new left failures old a r number t answer p same outcome = record {
  given = p.passed ++ r.unread;
  gave = p.gave;
  few = few_given rules limit start left failures old a r number t p;
  last = called_last answer (p.passed ++ r.unread) number p.last same;
  outcome = outcome;
}

-- there is no line
pub exit_closed : {R X T F : Type 0} (rules : Rules T F) (limit : ℕ) (start new : T) (left : R → List ℕ → Type 0) (failures : R → ℕ) (old a : R) (r : Reading) (number : ℕ) (t : T) (next : Next) (answer : Result X (LineFault F))
    → Progress rules limit start left failures old a r number t → IsNext left r a next → ((n : ℕ) → next ≡ Line n → ⊥) → Closes rules next number t new answer → IfErr answer (λ e. e.line ≡ number) → Reports rules limit start new left failures old a answer
exit_closed rules limit start new left failures old a r number t (Line n) answer p is not_line closes same = absurd (not_line n refl)
exit_closed {R} {X} {T} {F} rules limit start new left failures old a r number t End answer p is not_line closes same =
    let ends : (x : Result T (LineFault F)) → AtLine number (rules.end t) x → Judged rules limit start (p.passed ++ r.unread) x =
    λ x h. let Q : List ℕ → Type 0 = λ l. JudgedFrom rules r.budget number t l x in p.rest r.unread x (subst Q (sym is.0) (judge_end rules r.budget number t x h)) in
    given_so_far rules limit start new left failures old a r number t answer p same (Whole is.1 (gives_passes rules new answer (AtLine number (rules.end t)) (Judged rules limit start (p.passed ++ r.unread)) ends closes))
exit_closed rules limit start new left failures old a r number t Unended answer p is not_line closes same =
    given_so_far rules limit start new left failures old a r number t answer p same (Whole is.2 (rw closes (inl (p.rest r.unread (Err (fault_at number rules.no_line)) (judge_unended rules r.budget number t r.unread is.1 is.0)))))
exit_closed rules limit start new left failures old a r number t Long answer p is not_line closes same =
    given_so_far rules limit start new left failures old a r number t answer p same (Early (λ back. rw closes (inl (whole_from rules limit start left failures old a r number t p back (Err (fault_at number rules.no_line)) (judge_long rules r.budget number t r.unread back is)))))
