-- Reading a tree and spelling it are inverse to each other.
use Rattle.std.proofs.Common.{◌≡◌, ◌<◌, ℕ, zero, suc, ℤ, Bool, true, false, cond, ◌==◌, List, [], ◌∷◌, ◌++◌, length, Result, Ok, Err, IfOk, Option, Some, None, refl, ap, sym, ◌∙◌, append_assoc, append-nil, arith}
use Rattle.ti_parm.specs.declared.code.Action.{Action}
use Rattle.ti_parm.specs.declared.code.Action.TheVariants.{Literal, Operate, Change, Length, Increment, Character}
use Rattle.ti_parm.specs.declared.code.Operator.{Operator}
use Rattle.ti_parm.specs.declared.code.Operator.TheVariants.{Add, Subtract, Multiply, Divide, Remainder, BitAnd, BitOr, BitXor, Equal, Greater, Less, Both, Either}
use Rattle.ti_parm.specs.declared.code.Unary.TheVariants.{Not, Complement}
use Rattle.ti_parm.specs.declared.code.Code.{Code}
use Rattle.ti_parm.specs.declared.code.Code.TheVariants.{Act as ActCode, If as IfCode, Of as MarkCode}
use Rattle.ti_parm.specs.declared.code.Mark.{Mark}
use Rattle.ti_parm.specs.declared.code.Mark.TheVariants.{Then as ThenMark, Else as ElseMark, End as EndMark}
use Rattle.ti_parm.specs.declared.fault.ParmFault.{ParmFault}
use Rattle.ti_parm.specs.declared.fault.ParmFault.TheVariants.{BadNest, BadCode}
use Rattle.ti_parm.specs.Codes.{Read, code_at, short_code}
use Rattle.ti_parm.specs.Fault.{◌>>=◌}
use Rattle.ti_parm.specs.Meaning.{State, run, start_of}
use Rattle.ti_parm.specs.Spellings.{IsAnswer, IsCode, IsOtherwise, IsPart, Spells, act, conditional as written_conditional, else_if as written_else_if, end, next, nothing, otherwise, runs, short, unread}
use Rattle.ti_parm.specs.Syntax.{Act, Ahead, Behind, Breaks, Closes, Conditional, Done, Ends, Next, Otherwise, Part, Parts, Rest, ahead, ahead_in, before, broken, closed, conditional, else_if, read_before, rest_of, syntax, whole}
use Rattle.ti_parm.specs.Value.{Value}
use Rattle.ti_parm.proofs.Grammar.{IsRead, code-read, code-written}
use Rattle.ti_parm.proofs.Trees.{ahead-code, ahead-nothing}

-- reading a tree that was spelled

abbrev join : Parts → Parts → Parts
join Done q = q
join (Next part parts) q = Next part (join parts q)

join-Done : (parts : Parts) → join parts Done ≡ parts
join-Done Done = refl
join-Done (Next part parts) = ap (Next part) (join-Done parts)

abbrev with_parts : Parts → Ahead → Ahead
with_parts parts a = record { parts = join parts a.parts; behind = a.behind }

some-code : (text : List ℕ) (x : Code × List ℕ) → code_at text ≡ Ok x → 0 < length text
unfolding code_at
some-code [] x e = cc
some-code (b ∷ rest) x e = omega arith

ahead-of : (front : List ℕ) (code : Code) → IsCode front code → (more : List ℕ) → ahead (front ++ more) ≡ before code (ahead more)
ahead-of front code h more = let e = code-read front code h more in ahead-code (front ++ more) more code (some-code (front ++ more) (code, more) e) e

abbrev mark_byte : Mark → ℕ
mark_byte ThenMark = 116
mark_byte ElseMark = 101
mark_byte EndMark = 59

mark-code : (mark : Mark) → short_code (mark_byte mark) ≡ Some (MarkCode mark)
mark-code ThenMark = refl
mark-code ElseMark = refl
mark-code EndMark = refl

ahead-mark : (mark : Mark) (more : List ℕ) → ahead (37 ∷ mark_byte mark ∷ more) ≡ record { parts = Done; behind = Closes mark (ahead more).parts (ahead more).behind }
ahead-mark mark more = ahead-of (37 ∷ mark_byte mark ∷ []) (MarkCode mark) (short (mark_byte mark) (MarkCode mark) (mark-code mark)) more

ahead-If : (more : List ℕ) → ahead (37 ∷ 63 ∷ more) ≡ conditional (ahead more).parts (ahead more).behind
ahead-If more = ahead-of (37 ∷ 63 ∷ []) IfCode (short 63 IfCode refl) more

-- the rest of a conditional, read after its chosen parts
abbrev IsRestAt : List ℕ → Otherwise → List ℕ → Type 0
IsRestAt text other more = (b : Behind) × (ahead text ≡ record { parts = Done; behind = b }) × (rest_of b ≡ Ok (record { otherwise = other; parts = (ahead more).parts; behind = (ahead more).behind }))

-- parts closed by a mark
before-mark : (text : List ℕ) (parts : Parts) (mark : Mark) (more : List ℕ) → ahead (text ++ (37 ∷ mark_byte mark ∷ more)) ≡ with_parts parts (ahead (37 ∷ mark_byte mark ∷ more)) → ahead (text ++ (37 ∷ mark_byte mark ∷ more)) ≡ record { parts = parts; behind = Closes mark (ahead more).parts (ahead more).behind }
before-mark text parts mark more e = e ∙ ap (with_parts parts) (ahead-mark mark more) ∙ ap (λ p. record { parts = p; behind = Closes mark (ahead more).parts (ahead more).behind }) (join-Done parts)

abbrev closing : Parts → Ahead → Behind
closing chosen a = Closes ThenMark (join chosen a.parts) a.behind

-- a condition, `%t`, chosen parts and the rest
branch : (c d o more : List ℕ) (condition chosen : Parts) (other : Otherwise) → ((m : List ℕ) → ahead (c ++ m) ≡ with_parts condition (ahead m)) → ((m : List ℕ) → ahead (d ++ m) ≡ with_parts chosen (ahead m)) → IsRestAt (o ++ more) other more
    → (b : Behind) × (ahead (c ++ (37 ∷ 116 ∷ (d ++ (o ++ more)))) ≡ record { parts = condition; behind = Closes ThenMark chosen b }) × (rest_of b ≡ Ok (record { otherwise = other; parts = (ahead more).parts; behind = (ahead more).behind }))
branch c d o more condition chosen other p q r =
    let chose : ahead (d ++ (o ++ more)) ≡ record { parts = chosen; behind = r.0 } = q (o ++ more) ∙ ap (with_parts chosen) r.1 ∙ ap (λ x. record { parts = x; behind = r.0 }) (join-Done chosen) in
    (r.0, before-mark c condition ThenMark (d ++ (o ++ more)) (p (37 ∷ 116 ∷ (d ++ (o ++ more)))) ∙ ap (λ a. record { parts = condition; behind = Closes ThenMark a.parts a.behind }) chose, r.2)

else-mark : (text : List ℕ) (a : Ahead) → ahead text ≡ a → ahead (37 ∷ 101 ∷ text) ≡ record { parts = Done; behind = Closes ElseMark a.parts a.behind }
else-mark text a e = ahead-mark ElseMark text ∙ ap (λ x. record { parts = Done; behind = Closes ElseMark x.parts x.behind }) e

cut-three : (c d o more : List ℕ) → (c ++ (37 ∷ 116 ∷ d ++ o)) ++ more ≡ c ++ (37 ∷ 116 ∷ (d ++ (o ++ more)))
cut-three c d o more = append_assoc c (37 ∷ 116 ∷ d ++ o) more ∙ ap (λ x. c ++ (37 ∷ 116 ∷ x)) (append_assoc d o more)

mutual
  part-read : (text : List ℕ) (part : Part) → IsPart text part → (more : List ℕ) → ahead (text ++ more) ≡ record { parts = Next part (ahead more).parts; behind = (ahead more).behind }
  part-read _ _ (act text action h) more = ahead-of text (ActCode action) h more
  part-read _ _ (written_conditional c d o condition chosen other hc hd ho) more =
      let b = branch c d o more condition chosen other (parts-read c condition hc) (parts-read d chosen hd) (otherwise-read o other ho more) in
      ap (λ x. ahead (37 ∷ 63 ∷ x)) (cut-three c d o more)
      ∙ ahead-If (c ++ (37 ∷ 116 ∷ (d ++ (o ++ more))))
      ∙ ap (λ a. conditional a.parts a.behind) b.1
      ∙ ap (closed condition chosen) b.2

  parts-read : (text : List ℕ) (parts : Parts) → Spells text parts → (more : List ℕ) → ahead (text ++ more) ≡ with_parts parts (ahead more)
  parts-read _ _ nothing more = refl
  parts-read _ _ (next first rest part parts p ps) more =
      ap ahead (append_assoc first rest more)
      ∙ part-read first part p (rest ++ more)
      ∙ ap (λ a. record { parts = Next part a.parts; behind = a.behind }) (parts-read rest parts ps more)

  otherwise-read : (text : List ℕ) (other : Otherwise) → IsOtherwise text other → (more : List ℕ) → IsRestAt (text ++ more) other more
  otherwise-read _ _ end more = (Closes EndMark (ahead more).parts (ahead more).behind, ahead-mark EndMark more, refl)
  otherwise-read _ _ (otherwise text parts h) more = (
    Closes ElseMark parts (Closes EndMark (ahead more).parts (ahead more).behind),
    ap (λ x. ahead (37 ∷ 101 ∷ x)) (append_assoc text (37 ∷ 59 ∷ []) more) ∙ else-mark (text ++ (37 ∷ 59 ∷ more)) _ (before-mark text parts EndMark more (parts-read text parts h (37 ∷ 59 ∷ more))),
    refl,
  )
  otherwise-read _ _ (written_else_if c d o condition chosen other hc hd ho) more =
      let b = branch c d o more condition chosen other (parts-read c condition hc) (parts-read d chosen hd) (otherwise-read o other ho more) in (
        Closes ElseMark condition (Closes ThenMark chosen b.0),
        ap (λ x. ahead (37 ∷ 101 ∷ x)) (cut-three c d o more) ∙ else-mark (c ++ (37 ∷ 116 ∷ (d ++ (o ++ more)))) _ b.1,
        ap (λ r. r >>= λ x. Ok (else_if condition chosen x)) b.2,
      )

pub syntax-read : (string : List ℕ) (parts : Parts) → Spells string parts → syntax string ≡ Ok parts
unfolding syntax
syntax-read string parts h =
    let all : ahead string ≡ record { parts = parts; behind = Ends } =
    ap ahead (sym (append-nil string)) ∙ parts-read string parts h [] ∙ ap (with_parts parts) (ahead-nothing [] refl) ∙ ap (λ p. record { parts = p; behind = Ends }) (join-Done parts) in
    ap (λ a. whole a.parts a.behind) all

-- spelling a tree that was read

-- the text ahead spells this tree; after a fault any text may follow
data Trails : List ℕ → Behind → Type 0 where
  ended : Trails [] Ends
  faulty : (text : List ℕ) (fault : ParmFault) → Trails text (Breaks fault)
  closes : (mark : Mark) (text rest : List ℕ) (parts : Parts) (b : Behind) → Spells text parts → Trails rest b → Trails (37 ∷ mark_byte mark ∷ (text ++ rest)) (Closes mark parts b)

abbrev Shown : List ℕ → Ahead → Type 0
Shown text a = (front : List ℕ) × (back : List ℕ) × (text ≡ front ++ back) × Spells front a.parts × Trails back a.behind

shown-broken : (text : List ℕ) (fault : ParmFault) → Shown text (broken fault)
shown-broken text fault = ([], text, refl, nothing, faulty text fault)

none-of : {A : Type 0} {w : A} → ◌≡◌ {A = Option A} None (Some w) → ⊥
none-of e = cc

some-same : {A : Type 0} {v w : A} → Some v ≡ Some w → v ≡ w
some-same e = cc

equal : (b k : ℕ) → (b == k) ≡ true → b ≡ k
equal b k e = grind (arith, e)

-- the second byte of an operator's code
abbrev operator_byte : Operator → ℕ
operator_byte Add = 43
operator_byte Subtract = 45
operator_byte Multiply = 42
operator_byte Divide = 47
operator_byte Remainder = 109
operator_byte BitAnd = 38
operator_byte BitOr = 124
operator_byte BitXor = 94
operator_byte Equal = 61
operator_byte Greater = 62
operator_byte Less = 60
operator_byte Both = 65
operator_byte Either = 79

abbrev action_byte : Action → ℕ
action_byte (Literal b) = 37
action_byte (Operate operator) = operator_byte operator
action_byte (Change Not) = 33
action_byte (Change Complement) = 126
action_byte Length = 108
action_byte Increment = 105
action_byte Character = 99
action_byte _ = 0

abbrev short_byte : Code → ℕ
short_byte (ActCode action) = action_byte action
short_byte IfCode = 63
short_byte (MarkCode mark) = mark_byte mark

back-at : (b k : ℕ) (v : Code) (u : Option Code) (w : Code) → short_byte v ≡ k → (u ≡ Some w → b ≡ short_byte w) → cond (b == k) (Some v) u ≡ Some w → b ≡ short_byte w
back-at b k v u w s further = along (b == k) refl
  where
    along : (t : Bool) → (b == k) ≡ t → cond t (Some v) u ≡ Some w → b ≡ short_byte w
    along true p e = equal b k p ∙ sym s ∙ ap short_byte (some-same e)
    along false p e = further e

short-back : (b : ℕ) (w : Code) → short_code b ≡ Some w → b ≡ short_byte w
short-back b w =
    back-at b 37 _ _ w refl (back-at b 99 _ _ w refl (back-at b 108 _ _ w refl (back-at b 43 _ _ w refl (back-at b 45 _ _ w refl (back-at b 42 _ _ w refl
    (back-at b 47 _ _ w refl (back-at b 109 _ _ w refl (back-at b 38 _ _ w refl (back-at b 124 _ _ w refl (back-at b 94 _ _ w refl (back-at b 61 _ _ w refl
    (back-at b 62 _ _ w refl (back-at b 60 _ _ w refl (back-at b 65 _ _ w refl (back-at b 79 _ _ w refl (back-at b 33 _ _ w refl (back-at b 126 _ _ w refl
    (back-at b 105 _ _ w refl (back-at b 63 _ _ w refl (back-at b 116 _ _ w refl (back-at b 101 _ _ w refl (back-at b 59 _ _ w refl
    (λ e. absurd (none-of e))))))))))))))))))))))))

If-bytes : (front : List ℕ) → IsCode front IfCode → front ≡ 37 ∷ 63 ∷ []
If-bytes _ (short b _ h) = ap (λ k. 37 ∷ k ∷ []) (short-back b IfCode h)

mark-bytes : (front : List ℕ) (mark : Mark) → IsCode front (MarkCode mark) → front ≡ 37 ∷ mark_byte mark ∷ []
mark-bytes _ mark (short b _ h) = ap (λ k. 37 ∷ k ∷ []) (short-back b (MarkCode mark) h)

-- the spelling of the rest of a conditional
abbrev IsRestOf : List ℕ → Rest → Type 0
IsRestOf text r = (o : List ℕ) × (f : List ℕ) × (k : List ℕ) × (text ≡ o ++ (f ++ k)) × IsOtherwise o r.otherwise × Spells f r.parts × Trails k r.behind

glue : (f c d o g k : List ℕ) → d ≡ o ++ (g ++ k) → 37 ∷ 101 ∷ (f ++ (37 ∷ 116 ∷ (c ++ d))) ≡ (37 ∷ 101 ∷ f ++ (37 ∷ 116 ∷ c ++ o)) ++ (g ++ k)
glue f c d o g k e =
    ap (λ x. 37 ∷ 101 ∷ (f ++ (37 ∷ 116 ∷ (c ++ x)))) e
    ∙ ap (λ x. 37 ∷ 101 ∷ (f ++ (37 ∷ 116 ∷ x))) (sym (append_assoc c o (g ++ k)))
    ∙ ap (λ x. 37 ∷ 101 ∷ x) (sym (append_assoc f (37 ∷ 116 ∷ c ++ o) (g ++ k)))

further : (f c d : List ℕ) (first chosen : Parts) (m : Result Rest ParmFault) → Spells f first → Spells c chosen → IfOk m (IsRestOf d) → IfOk (m >>= λ r. Ok (else_if first chosen r)) (IsRestOf (37 ∷ 101 ∷ (f ++ (37 ∷ 116 ∷ (c ++ d)))))
further f c d first chosen (Err e) p q h = tt
further f c d first chosen (Ok r) p q h = (37 ∷ 101 ∷ f ++ (37 ∷ 116 ∷ c ++ h.0), h.1, h.2, glue f c d h.0 h.1 h.2 h.3, written_else_if f c h.0 first chosen r.otherwise p q h.4, h.5, h.6)

rest-shown : (text : List ℕ) (b : Behind) → Trails text b → IfOk (rest_of b) (IsRestOf text)
rest-shown _ _ ended = tt
rest-shown _ _ (faulty text fault) = tt
rest-shown _ _ (closes EndMark f k parts b p t) = (37 ∷ 59 ∷ [], f, k, refl, end, p, t)
rest-shown _ _ (closes ThenMark f k parts b p t) = tt
rest-shown _ _ (closes ElseMark f _ first _ p ended) = tt
rest-shown _ _ (closes ElseMark f _ first _ p (faulty text fault)) = tt
rest-shown _ _ (closes ElseMark f _ first _ p (closes EndMark g k parts b q t)) = (37 ∷ 101 ∷ f ++ (37 ∷ 59 ∷ []), g, k, ap (λ x. 37 ∷ 101 ∷ x) (sym (append_assoc f (37 ∷ 59 ∷ []) (g ++ k))), otherwise f first p, q, t)
rest-shown _ _ (closes ElseMark f _ first _ p (closes ThenMark c d chosen b q t)) = further f c d first chosen (rest_of b) p q (rest-shown d b t)
rest-shown _ _ (closes ElseMark f _ first _ p (closes ElseMark g k parts b q t)) = tt

shown-closed : (c d k : List ℕ) (condition chosen : Parts) (m : Result Rest ParmFault) → Spells c condition → Spells d chosen → IfOk m (IsRestOf k) → Shown (37 ∷ 63 ∷ (c ++ (37 ∷ 116 ∷ (d ++ k)))) (closed condition chosen m)
shown-closed c d k condition chosen (Err e) p q h = shown-broken (37 ∷ 63 ∷ (c ++ (37 ∷ 116 ∷ (d ++ k)))) e
shown-closed c d k condition chosen (Ok r) p q h =
    let first : List ℕ = 37 ∷ 63 ∷ c ++ (37 ∷ 116 ∷ d ++ h.0) in
    let cut : 37 ∷ 63 ∷ (c ++ (37 ∷ 116 ∷ (d ++ k))) ≡ (first ++ h.1) ++ h.2 =
    ap (λ x. 37 ∷ 63 ∷ (c ++ (37 ∷ 116 ∷ (d ++ x)))) h.3
    ∙ ap (λ x. 37 ∷ 63 ∷ (c ++ (37 ∷ 116 ∷ x))) (sym (append_assoc d h.0 (h.1 ++ h.2)))
    ∙ ap (λ x. 37 ∷ 63 ∷ x) (sym (append_assoc c (37 ∷ 116 ∷ d ++ h.0) (h.1 ++ h.2)))
    ∙ sym (append_assoc first h.1 h.2) in
    (first ++ h.1, h.2, cut, next first h.1 (Conditional condition chosen r.otherwise) r.parts (written_conditional c d h.0 condition chosen r.otherwise p q h.4) h.5, h.6)

shown-conditional : (c k : List ℕ) (condition : Parts) (b : Behind) → Spells c condition → Trails k b → Shown (37 ∷ 63 ∷ (c ++ k)) (conditional condition b)
shown-conditional c _ condition _ p ended = shown-broken (37 ∷ 63 ∷ (c ++ [])) BadNest
shown-conditional c _ condition _ p (faulty text fault) = shown-broken (37 ∷ 63 ∷ (c ++ text)) fault
shown-conditional c _ condition _ p (closes ThenMark d k chosen b q t) = shown-closed c d k condition chosen (rest_of b) p q (rest-shown k b t)
shown-conditional c _ condition _ p (closes ElseMark d k parts b q t) = shown-broken (37 ∷ 63 ∷ (c ++ (37 ∷ 101 ∷ (d ++ k)))) BadNest
shown-conditional c _ condition _ p (closes EndMark d k parts b q t) = shown-broken (37 ∷ 63 ∷ (c ++ (37 ∷ 59 ∷ (d ++ k)))) BadNest

shown-at : (a : Ahead) (t u : List ℕ) → t ≡ u → Shown u a → Shown t a
shown-at a t u e h = rw e h

shown-before : (text front rest : List ℕ) (code : Code) (a : Ahead) → text ≡ front ++ rest → IsCode front code → Shown rest a → Shown text (before code a)
shown-before text front rest (ActCode action) a e h s = (front ++ s.0, s.1, e ∙ ap (λ x. front ++ x) s.2 ∙ sym (append_assoc front s.0 s.1), next front s.0 (Act action) a.parts (act front action h) s.3, s.4)
shown-before text front rest IfCode a e h s =
    shown-at (conditional a.parts a.behind) text (37 ∷ 63 ∷ (s.0 ++ s.1)) (e ∙ ap (λ x. x ++ rest) (If-bytes front h) ∙ ap (λ x. 37 ∷ 63 ∷ x) s.2) (shown-conditional s.0 s.1 a.parts a.behind s.3 s.4)
shown-before text front rest (MarkCode mark) a e h s =
    ([], 37 ∷ mark_byte mark ∷ (s.0 ++ s.1), e ∙ ap (λ x. x ++ rest) (mark-bytes front mark h) ∙ ap (λ x. 37 ∷ mark_byte mark ∷ x) s.2, nothing, closes mark s.0 s.1 a.parts a.behind s.3 s.4)

shown-read : (text : List ℕ) (ahead_of : List ℕ → Ahead) (r : Read) → IfOk r (IsRead text) → ((t : List ℕ) → Shown t (ahead_of t)) → Shown text (read_before ahead_of r)
shown-read text ahead_of (Err fault) h s = shown-broken text fault
shown-read text ahead_of (Ok x) h s = shown-before text h.0 x.1 x.0 (ahead_of x.1) h.1 h.2 (s x.1)

shown-in : (n : ℕ) (text : List ℕ) → Shown text (ahead_in n text)
unfolding ahead_in
shown-in n [] = ([], [], refl, nothing, ended)
shown-in zero (b ∷ text) = shown-broken (b ∷ text) BadCode
shown-in (suc n) (b ∷ text) = shown-read (b ∷ text) (ahead_in n) (code_at (b ∷ text)) (code-written (b ∷ text)) (shown-in n)

at_end : (string front back : List ℕ) (parts tree : Parts) (b : Behind) → string ≡ front ++ back → Spells front parts → Trails back b → whole parts b ≡ Ok tree → Spells string tree
at_end string front _ parts tree _ e h ended w =
    let same : parts ≡ tree = cc in
    rw (e ∙ append-nil front, ← same) h
at_end string front _ parts tree _ e h (faulty text fault) w = cc
at_end string front _ parts tree _ e h (closes mark text rest more b p t) w = cc

pub syntax-written : (string : List ℕ) (parts : Parts) → syntax string ≡ Ok parts → Spells string parts
unfolding syntax
syntax-written string parts e = let s = shown-in (length string) string in at_end string s.0 s.1 (ahead string).parts parts (ahead string).behind s.2 s.3 s.4 e

-- one answer

answer-of : (string : List ℕ) (given : List Value) (statics : List ℤ) (r : Result Parts ParmFault) → syntax string ≡ r → IsAnswer string given statics (r >>= λ parts. run parts (start_of given statics))
answer-of string given statics (Ok parts) e = runs parts (syntax-written string parts e)
answer-of string given statics (Err fault) e = unread fault (λ parts h. let p = syntax-read string parts h in not_both e p) e
  where
    not_both : {r : Result Parts ParmFault} {parts : Parts} → r ≡ Err fault → r ≡ Ok parts → ⊥
    not_both p q = cc

pub has-answer : (string : List ℕ) (given : List Value) (statics : List ℤ) → IsAnswer string given statics (syntax string >>= λ parts. run parts (start_of given statics))
has-answer string given statics = answer-of string given statics (syntax string) refl

pub one-answer : (string : List ℕ) (given : List Value) (statics : List ℤ) (answer : Result State ParmFault) → IsAnswer string given statics answer → answer ≡ (syntax string >>= λ parts. run parts (start_of given statics))
one-answer string given statics _ (runs parts h) = ap (λ r. r >>= λ p. run p (start_of given statics)) (sym (syntax-read string parts h))
one-answer string given statics _ (unread fault none e) = ap (λ r. r >>= λ p. run p (start_of given statics)) (sym e)
