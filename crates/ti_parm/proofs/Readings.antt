-- A run doesn't depend on static variables that it doesn't read before it sets them.
use Rattle.std.proofs.Common.{◌≡◌, ◌⊎◌, inl, inr, ℕ, zero, suc, ℤ, pos, Bool, true, false, cond, List, [], ◌∷◌, ◌++◌, Result, Ok, Err, IfOk, length, set, get_or, replicate, refl, ap, sym, ◌∙◌, arith}
use Rattle.std.proofs.lemmas.List.{length-set}
use Rattle.ti_parm.specs.declared.code.Action.{Action}
use Rattle.ti_parm.specs.declared.code.Action.TheVariants.{Literal, Push, Parameter, Set, Get, Operate, Change, Length, Increment, Character, Show}
use Rattle.ti_parm.specs.declared.code.Variable.{Variable}
use Rattle.ti_parm.specs.declared.code.Variable.TheVariants.{Dynamic, Static}
use Rattle.ti_parm.specs.declared.fault.ParmFault.{ParmFault}
use Rattle.ti_parm.specs.declared.uses.FirstUse.{FirstUse}
use Rattle.ti_parm.specs.declared.uses.FirstUse.TheVariants.{Unused, ReadFirst, SetFirst}
use Rattle.ti_parm.specs.Delays.{strip}
use Rattle.ti_parm.specs.Fault.{◌>>=◌}
use Rattle.ti_parm.specs.Formats.{shown}
use Rattle.ti_parm.specs.Meaning.{State, Agree, act, character, choose, meaning, run, run_otherwise, run_part, sent_with, set as set_variable, start_of}
use Rattle.ti_parm.specs.Operators.{binary, is_true, pop_number, text_length, unary}
use Rattle.ti_parm.specs.Syntax.{Act, Conditional, Done, Else, ElseIf, Next, Nothing, Otherwise, Part, Parts, syntax}
use Rattle.ti_parm.specs.Uses.{further, noted}
use Rattle.ti_parm.specs.Value.{Number, Value, Values}

-- the first use of each variable after one more use

noted-keeps : (now : FirstUse) (uses : List FirstUse) (index i : ℕ) → get_or uses i Unused ≡ ReadFirst → get_or (noted now index uses) i Unused ≡ ReadFirst
noted-keeps now [] index i h = h
noted-keeps now (u ∷ uses) zero zero h = ap (λ x. further x now) h
noted-keeps now (u ∷ uses) zero (suc i) h = h
noted-keeps now (u ∷ uses) (suc index) zero h = h
noted-keeps now (u ∷ uses) (suc index) (suc i) h = noted-keeps now uses index i h

was_set : (u : FirstUse) → further u ReadFirst ≡ SetFirst → u ≡ SetFirst
was_set Unused h = cc
was_set ReadFirst h = cc
was_set SetFirst h = refl

set-before : (uses : List FirstUse) (index i : ℕ) → get_or (noted ReadFirst index uses) i Unused ≡ SetFirst → get_or uses i Unused ≡ SetFirst
set-before [] index i h = h
set-before (u ∷ uses) zero zero h = was_set u h
set-before (u ∷ uses) zero (suc i) h = h
set-before (u ∷ uses) (suc index) zero h = h
set-before (u ∷ uses) (suc index) (suc i) h = set-before uses index i h

-- a variable that is set has one value in both runs after that, and the others keep theirs
set-equal : (E : Type 0) (a b : List ℤ) (uses : List FirstUse) (index i : ℕ) (n : ℤ) → length a ≡ length b
    → (E ⊎ (get_or uses i Unused ≡ SetFirst) → get_or a i (pos 0) ≡ get_or b i (pos 0))
    → E ⊎ (get_or (noted SetFirst index uses) i Unused ≡ SetFirst) → get_or (set a index n) i (pos 0) ≡ get_or (set b index n) i (pos 0)
set-equal E [] [] uses index i n long same h = refl
set-equal E [] (y ∷ b) uses index i n long same h = absurd (omega arith)
set-equal E (x ∷ a) [] uses index i n long same h = absurd (omega arith)
set-equal E (x ∷ a) (y ∷ b) uses zero zero n long same h = refl
set-equal E (x ∷ a) (y ∷ b) [] zero (suc i) n long same h = same h
set-equal E (x ∷ a) (y ∷ b) (u ∷ uses) zero (suc i) n long same h = same h
set-equal E (x ∷ a) (y ∷ b) [] (suc index) zero n long same h = same h
set-equal E (x ∷ a) (y ∷ b) (u ∷ uses) (suc index) zero n long same h = same h
set-equal E (x ∷ a) (y ∷ b) [] (suc index) (suc i) n long same h = set-equal E a b [] index i n (omega arith) same h
set-equal E (x ∷ a) (y ∷ b) (u ∷ uses) (suc index) (suc i) n long same h = set-equal E a b uses index i n (omega arith) same h

first-equal : (E : Type 0) (x y : ℤ) (u : FirstUse) → (E ⊎ (u ≡ SetFirst) → x ≡ y) → (further u ReadFirst ≡ ReadFirst → E) → x ≡ y
first-equal E x y Unused same read = same (inl (read refl))
first-equal E x y ReadFirst same read = same (inl (read refl))
first-equal E x y SetFirst same read = same (inr refl)

-- a variable that is read was set before, or counts as read first
read-equal : (E : Type 0) (a b : List ℤ) (uses : List FirstUse) (index : ℕ) → length a ≡ length b → length a ≡ length uses
    → (E ⊎ (get_or uses index Unused ≡ SetFirst) → get_or a index (pos 0) ≡ get_or b index (pos 0))
    → (get_or (noted ReadFirst index uses) index Unused ≡ ReadFirst → E) → get_or a index (pos 0) ≡ get_or b index (pos 0)
read-equal E [] [] uses index p q same read = refl
read-equal E [] (y ∷ b) uses index p q same read = absurd (omega arith)
read-equal E (x ∷ a) [] uses index p q same read = absurd (omega arith)
read-equal E (x ∷ a) (y ∷ b) [] index p q same read = absurd (omega arith)
read-equal E (x ∷ a) (y ∷ b) (u ∷ uses) zero p q same read = first-equal E x y u same read
read-equal E (x ∷ a) (y ∷ b) (u ∷ uses) (suc index) p q same read = read-equal E a b uses index (omega arith) (omega arith) same read

-- a variable read first stays so

abbrev Keeps : State → State → Type 0
Keeps s t = (i : ℕ) → get_or s.first_uses i Unused ≡ ReadFirst → get_or t.first_uses i Unused ≡ ReadFirst

bind-keeps : (s : State) (r : Result State ParmFault) (f : State → Result State ParmFault) → IfOk r (Keeps s) → ((m : State) → IfOk (f m) (Keeps m)) → IfOk (r >>= f) (Keeps s)
bind-keeps s (Err e) f p q = tt
bind-keeps s (Ok m) f p q = along (f m) (q m)
  where
    along : (x : Result State ParmFault) → IfOk x (Keeps m) → IfOk x (Keeps s)
    along (Ok t) h = λ i e. h i (p i e)
    along (Err e) h = tt

stack-keeps : (s : State) (r : Result Values ParmFault) → IfOk (r >>= λ stack. Ok (record s { stack = stack })) (Keeps s)
stack-keeps s (Ok stack) = λ i e. e
stack-keeps s (Err e) = tt

writing-keeps : (s : State) (r : Result (List ℕ × Values) ParmFault) → IfOk (r >>= λ x. Ok (record s { stack = x.1; output = s.output ++ x.0 })) (Keeps s)
writing-keeps s (Ok x) = λ i e. e
writing-keeps s (Err e) = tt

set-keeps : (variable : Variable) (s : State) (r : Result (ℤ × Values) ParmFault) → IfOk (r >>= λ x. Ok (set_variable variable x.0 (record s { stack = x.1 }))) (Keeps s)
set-keeps (Dynamic index) s (Ok x) = λ i e. e
set-keeps (Static index) s (Ok x) = λ i e. noted-keeps SetFirst s.first_uses index i e
set-keeps variable s (Err e) = tt

increment-keeps : (s : State) (f g : Result Value ParmFault) (h : Value → Value → List Value) → IfOk (f >>= λ a. g >>= λ b. Ok (record s { params = h a b })) (Keeps s)
increment-keeps s (Ok a) (Ok b) h = λ i e. e
increment-keeps s (Ok a) (Err e) h = tt
increment-keeps s (Err e) g h = tt

act-keeps : (action : Action) (s : State) → IfOk (act action s) (Keeps s)
unfolding act
act-keeps (Literal b) s = λ i e. e
act-keeps (Push n) s = λ i e. e
act-keeps (Parameter index) s = λ i e. e
act-keeps (Set variable) s = set-keeps variable s (pop_number s.stack)
act-keeps (Get (Dynamic index)) s = λ i e. e
act-keeps (Get (Static index)) s = λ i e. noted-keeps ReadFirst s.first_uses index i e
act-keeps (Operate operator) s = stack-keeps s (binary operator s.stack)
act-keeps (Change turn) s = stack-keeps s (unary turn s.stack)
act-keeps Length s = stack-keeps s (text_length s.stack)
act-keeps Increment s = increment-keeps s _ _ _
act-keeps Character s = writing-keeps s (character s.stack)
act-keeps (Show format) s = writing-keeps s (shown format s.stack)

abbrev tested : State → Result (ℤ × Values) ParmFault → Result (Bool × State) ParmFault
tested s r = r >>= λ x. Ok (is_true x.0, record s { stack = x.1 })

choose-keeps : (s : State) (f g : State → Result State ParmFault) → ((m : State) → IfOk (f m) (Keeps m)) → ((m : State) → IfOk (g m) (Keeps m)) → IfOk (choose f g s) (Keeps s)
choose-keeps s f g p q = along (pop_number s.stack)
  where
    either : (b : Bool) (t : State) → IfOk (cond b (f t) (g t)) (Keeps t)
    either true t = p t
    either false t = q t

    along : (r : Result (ℤ × Values) ParmFault) → IfOk (tested s r >>= λ x. cond x.0 (f x.1) (g x.1)) (Keeps s)
    along (Ok x) = either (is_true x.0) (record s { stack = x.1 })
    along (Err e) = tt

mutual
  unfolding run

  run_part-keeps : (part : Part) (s : State) → IfOk (run_part part s) (Keeps s)
  run_part-keeps (Act action) s = act-keeps action s
  run_part-keeps (Conditional condition chosen otherwise) s =
      bind-keeps s (run condition s) (choose (run chosen) (run_otherwise otherwise)) (run-keeps condition s)
      (λ m. choose-keeps m (run chosen) (run_otherwise otherwise) (run-keeps chosen) (run_otherwise-keeps otherwise))

  run-keeps : (parts : Parts) (s : State) → IfOk (run parts s) (Keeps s)
  run-keeps Done s = λ i e. e
  run-keeps (Next part parts) s = bind-keeps s (run_part part s) (run parts) (run_part-keeps part s) (run-keeps parts)

  run_otherwise-keeps : (otherwise : Otherwise) (s : State) → IfOk (run_otherwise otherwise s) (Keeps s)
  run_otherwise-keeps Nothing s = λ i e. e
  run_otherwise-keeps (Else parts) s = run-keeps parts s
  run_otherwise-keeps (ElseIf condition chosen otherwise) s =
      bind-keeps s (run condition s) (choose (run chosen) (run_otherwise otherwise)) (run-keeps condition s)
      (λ m. choose-keeps m (run chosen) (run_otherwise otherwise) (run-keeps chosen) (run_otherwise-keeps otherwise))

-- a run with other static variables goes the same way

abbrev with_statics : List ℤ → State → State
with_statics b s = record s { statics = b }

-- the variables that the whole run reads first, and those that it has set so far, are equal
record Equals (all : List FirstUse) (s : State) (b : List ℤ) : Type 0 where
  pub long : length s.statics ≡ length b
  pub noted : length s.statics ≡ length s.first_uses
  pub same : (i : ℕ) → (get_or all i Unused ≡ ReadFirst) ⊎ (get_or s.first_uses i Unused ≡ SetFirst) → get_or s.statics i (pos 0) ≡ get_or b i (pos 0)

abbrev Leads : List FirstUse → State → Type 0
Leads all t = (i : ℕ) → get_or t.first_uses i Unused ≡ ReadFirst → get_or all i Unused ≡ ReadFirst

-- if one run ends without a fault, so does the other, and their states differ in static variables only
abbrev Follows : List FirstUse → Result State ParmFault → Result State ParmFault → Type 0
Follows all (Ok t) r = Leads all t → (b : List ℤ) × (r ≡ Ok (with_statics b t)) × Equals all t b
Follows all (Err e) r = Unit {0}

bind-follows : (all : List FirstUse) (r q : Result State ParmFault) (f : State → Result State ParmFault) → Follows all r q → ((m : State) → IfOk (f m) (Keeps m)) → ((m : State) (b : List ℤ) → Equals all m b → Follows all (f m) (f (with_statics b m))) → Follows all (r >>= f) (q >>= f)
bind-follows all (Err e) q f first keeps on = tt
bind-follows all (Ok m) q f first keeps on = along (f m) (keeps m) (on m)
  where
    along : (x : Result State ParmFault) → IfOk x (Keeps m) → ((b : List ℤ) → Equals all m b → Follows all x (f (with_statics b m))) → Follows all x (q >>= f)
    along (Err e) k h = tt
    along (Ok t) k h = λ leads.
        let before = first (λ i e. leads i (k i e)) in
        let behind = h before.0 before.2 leads in
        (behind.0, ap (λ r. r >>= f) before.1 ∙ behind.1, behind.2)

stack-follows : (all : List FirstUse) (s : State) (b : List ℤ) (r : Result Values ParmFault) → Equals all s b → Follows all (r >>= λ stack. Ok (record s { stack = stack })) (r >>= λ stack. Ok (record (with_statics b s) { stack = stack }))
stack-follows all s b (Ok stack) h = λ leads. (b, refl, record { long = h.long; noted = h.noted; same = h.same })
stack-follows all s b (Err e) h = tt

writing-follows : (all : List FirstUse) (s : State) (b : List ℤ) (r : Result (List ℕ × Values) ParmFault) → Equals all s b → Follows all (r >>= λ x. Ok (record s { stack = x.1; output = s.output ++ x.0 })) (r >>= λ x. Ok (record (with_statics b s) { stack = x.1; output = s.output ++ x.0 }))
writing-follows all s b (Ok x) h = λ leads. (b, refl, record { long = h.long; noted = h.noted; same = h.same })
writing-follows all s b (Err e) h = tt

increment-follows : (all : List FirstUse) (s : State) (c : List ℤ) (f g : Result Value ParmFault) (h : Value → Value → List Value) → Equals all s c → Follows all (f >>= λ a. g >>= λ b. Ok (record s { params = h a b })) (f >>= λ a. g >>= λ b. Ok (record (with_statics c s) { params = h a b }))
increment-follows all s c (Ok a) (Ok b) h e = λ leads. (c, refl, record { long = e.long; noted = e.noted; same = e.same })
increment-follows all s c (Ok a) (Err x) h e = tt
increment-follows all s c (Err x) g h e = tt

set-follows : (all : List FirstUse) (variable : Variable) (s : State) (b : List ℤ) (r : Result (ℤ × Values) ParmFault) → Equals all s b → Follows all (r >>= λ x. Ok (set_variable variable x.0 (record s { stack = x.1 }))) (r >>= λ x. Ok (set_variable variable x.0 (record (with_statics b s) { stack = x.1 })))
set-follows all (Dynamic index) s b (Ok x) h = λ leads. (b, refl, record { long = h.long; noted = h.noted; same = h.same })
set-follows all (Static index) s b (Ok x) h = λ leads. (
  set b index x.0,
  refl,
  record {
    long = length-set s.statics index x.0 ∙ h.long ∙ sym (length-set b index x.0);
    noted = length-set s.statics index x.0 ∙ h.noted ∙ sym (length-set s.first_uses index (further (get_or s.first_uses index Unused) SetFirst));
    same = λ i. set-equal (get_or all i Unused ≡ ReadFirst) s.statics b s.first_uses index i x.0 h.long (h.same i);
  },
)
set-follows all variable s b (Err e) h = tt

get-follows : (all : List FirstUse) (variable : Variable) (s : State) (b : List ℤ) → Equals all s b → Follows all (act (Get variable) s) (act (Get variable) (with_statics b s))
unfolding act
get-follows all (Dynamic index) s b h = λ leads. (b, refl, record { long = h.long; noted = h.noted; same = h.same })
get-follows all (Static index) s b h = λ leads.
    let equal : get_or s.statics index (pos 0) ≡ get_or b index (pos 0) = read-equal (get_or all index Unused ≡ ReadFirst) s.statics b s.first_uses index h.long h.noted (h.same index) (leads index) in (
      b,
      ap (λ n. Ok (record (with_statics b s) { stack = Number n ∷ s.stack; first_uses = noted ReadFirst index s.first_uses })) (sym equal),
      record {
        long = h.long;
        noted = h.noted ∙ sym (length-set s.first_uses index (further (get_or s.first_uses index Unused) ReadFirst));
        same = λ i e. h.same i (elim e [ inl p ↦ inl p | inr p ↦ inr (set-before s.first_uses index i p) ]);
      },
    )

act-follows : (all : List FirstUse) (action : Action) (s : State) (b : List ℤ) → Equals all s b → Follows all (act action s) (act action (with_statics b s))
unfolding act
act-follows all (Literal x) s b h = λ leads. (b, refl, record { long = h.long; noted = h.noted; same = h.same })
act-follows all (Push n) s b h = λ leads. (b, refl, record { long = h.long; noted = h.noted; same = h.same })
act-follows all (Parameter index) s b h = λ leads. (b, refl, record { long = h.long; noted = h.noted; same = h.same })
act-follows all (Set variable) s b h = set-follows all variable s b (pop_number s.stack) h
act-follows all (Get variable) s b h = get-follows all variable s b h
act-follows all (Operate operator) s b h = stack-follows all s b (binary operator s.stack) h
act-follows all (Change turn) s b h = stack-follows all s b (unary turn s.stack) h
act-follows all Length s b h = stack-follows all s b (text_length s.stack) h
act-follows all Increment s b h = increment-follows all s b _ _ _ h
act-follows all Character s b h = writing-follows all s b (character s.stack) h
act-follows all (Show format) s b h = writing-follows all s b (shown format s.stack) h

abbrev Steers : List FirstUse → (State → Result State ParmFault) → Type 0
Steers all f = (s : State) (b : List ℤ) → Equals all s b → Follows all (f s) (f (with_statics b s))

choose-follows : (all : List FirstUse) (f g : State → Result State ParmFault) → Steers all f → Steers all g → Steers all (choose f g)
choose-follows all f g p q s b h = along (pop_number s.stack)
  where
    either : (d : Bool) (t : State) → Equals all t b → Follows all (cond d (f t) (g t)) (cond d (f (with_statics b t)) (g (with_statics b t)))
    either true t e = p t b e
    either false t e = q t b e

    along : (r : Result (ℤ × Values) ParmFault) → Follows all (tested s r >>= λ x. cond x.0 (f x.1) (g x.1)) (tested (with_statics b s) r >>= λ x. cond x.0 (f x.1) (g x.1))
    along (Ok x) = either (is_true x.0) (record s { stack = x.1 }) (record { long = h.long; noted = h.noted; same = h.same })
    along (Err e) = tt

mutual
  unfolding run

  run_part-follows : (all : List FirstUse) (part : Part) → Steers all (run_part part)
  run_part-follows all (Act action) s b h = act-follows all action s b h
  run_part-follows all (Conditional condition chosen otherwise) s b h =
      bind-follows all (run condition s) (run condition (with_statics b s)) (choose (run chosen) (run_otherwise otherwise)) (run-follows all condition s b h)
      (λ m. choose-keeps m (run chosen) (run_otherwise otherwise) (run-keeps chosen) (run_otherwise-keeps otherwise))
      (choose-follows all (run chosen) (run_otherwise otherwise) (run-follows all chosen) (run_otherwise-follows all otherwise))

  run-follows : (all : List FirstUse) (parts : Parts) → Steers all (run parts)
  run-follows all Done s b h = λ leads. (b, refl, h)
  run-follows all (Next part parts) s b h = bind-follows all (run_part part s) (run_part part (with_statics b s)) (run parts) (run_part-follows all part s b h) (run-keeps parts) (run-follows all parts)

  run_otherwise-follows : (all : List FirstUse) (otherwise : Otherwise) → Steers all (run_otherwise otherwise)
  run_otherwise-follows all Nothing s b h = λ leads. (b, refl, h)
  run_otherwise-follows all (Else parts) s b h = run-follows all parts s b h
  run_otherwise-follows all (ElseIf condition chosen otherwise) s b h =
      bind-follows all (run condition s) (run condition (with_statics b s)) (choose (run chosen) (run_otherwise otherwise)) (run-follows all condition s b h)
      (λ m. choose-keeps m (run chosen) (run_otherwise otherwise) (run-keeps chosen) (run_otherwise-keeps otherwise))
      (choose-follows all (run chosen) (run_otherwise otherwise) (run-follows all chosen) (run_otherwise-follows all otherwise))

unused : (n i : ℕ) → get_or (replicate n Unused) i Unused ≡ Unused
unused zero i = refl
unused (suc n) zero = refl
unused (suc n) (suc i) = unused n i

not_set : {u : FirstUse} → u ≡ Unused → u ≡ SetFirst → ⊥
not_set p q = cc

at_start : (given : List Value) (a b : List ℤ) (all : List FirstUse) → length a ≡ 26 → length b ≡ 26 → ((i : ℕ) → get_or all i Unused ≡ ReadFirst → get_or a i (pos 0) ≡ get_or b i (pos 0)) → Equals all (start_of given a) b
at_start given a b all p q agree = record {
  long = p ∙ sym q;
  noted = p;
  same = λ i e. elim e [ inl h ↦ agree i h | inr h ↦ absurd (not_set (unused 26 i) h) ];
}

along : (given : List Value) (a b : List ℤ) (end : State) (tree : Result Parts ParmFault) → length a ≡ 26 → length b ≡ 26 → Agree end a b → (tree >>= λ parts. run parts (start_of given a)) ≡ Ok end → ((tree >>= λ parts. run parts (start_of given b)) >>= λ t. Ok (strip t.output)) ≡ Ok (strip end.output)
along given a b end (Err e) p q agree ends = cc
along given a b end (Ok parts) p q agree ends =
    let follows : Follows end.first_uses (Ok end) (run parts (start_of given b)) =
    rw ends at (run-follows end.first_uses parts (start_of given a) b (at_start given a b end.first_uses p q agree)) in
    let other = follows (λ i h. h) in
    ap (λ r. r >>= λ t. Ok (strip t.output)) other.1

pub sent-same : (string : List ℕ) (given : List Value) (a b : List ℤ) (end : State) → length a ≡ 26 → length b ≡ 26 → Agree end a b → meaning string given a ≡ Ok end → sent_with string given b ≡ Ok (strip end.output)
unfolding meaning
sent-same string given a b end p q agree ends = along given a b end (syntax string) p q agree ends
