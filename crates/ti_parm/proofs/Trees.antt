-- The tree from a code on, and the tree after it.
use Rattle.std.proofs.Common.{◌≡◌, ◌≢◌, ℕ, zero, suc, ◌<◌, ◌≤◌, List, [], ◌∷◌, length, Result, Ok, Err, IfOk, refl, sym, ◌∙◌, ap, arith}
use Rattle.std.proofs.lemmas.Result.{IfOk-at_ok}
use Rattle.ti_parm.specs.declared.code.Action.TheVariants.{Literal}
use Rattle.ti_parm.specs.declared.code.Code.{Code}
use Rattle.ti_parm.specs.declared.code.Code.TheVariants.{Act as ActCode}
use Rattle.ti_parm.specs.declared.fault.ParmFault.{ParmFault}
use Rattle.ti_parm.specs.Codes.{code_at}
use Rattle.ti_parm.specs.Syntax.{Act, Ahead, Ends, IsPlain, Next, Done, Parts, ahead, ahead_in, before, broken, read_before}
use Rattle.ti_parm.proofs.Codes.{IsWithin, code_at-shorter}

ahead_in-suc : (n b : ℕ) (text : List ℕ) → ahead_in (suc n) (b ∷ text) ≡ read_before (ahead_in n) (code_at (b ∷ text))
unfolding ahead_in
ahead_in-suc n b text = refl

read_before-same : (f g : List ℕ → Ahead) (n : ℕ) (r : Result (Code × List ℕ) ParmFault) → IfOk r (IsWithin n) → ((text : List ℕ) → length text ≤ n → f text ≡ g text) → read_before f r ≡ read_before g r
read_before-same f g n (Ok x) h same = ap (before x.0) (same x.1 h)
read_before-same f g n (Err e) h same = refl

-- every sufficiently large bound gives the same tree
ahead_in-enough : (n m : ℕ) (text : List ℕ) → length text ≤ n → length text ≤ m → ahead_in n text ≡ ahead_in m text
ahead_in-enough n m [] p q = unfold ahead_in in refl
ahead_in-enough zero m (b ∷ text) p q = absurd (omega arith)
ahead_in-enough (suc n) zero (b ∷ text) p q = absurd (omega arith)
ahead_in-enough (suc n) (suc m) (b ∷ text) p q =
    ahead_in-suc n b text
    ∙ read_before-same (ahead_in n) (ahead_in m) (length text) _ (code_at-shorter b text) (λ x h. ahead_in-enough n m x (omega arith) (omega arith))
    ∙ sym (ahead_in-suc m b text)

pub ahead-nothing : (text : List ℕ) → length text ≡ 0 → ahead text ≡ record { parts = Done; behind = Ends }
unfolding ahead_in
ahead-nothing [] h = refl
ahead-nothing (b ∷ text) h = absurd (omega arith)

pub ahead-code : (text rest : List ℕ) (code : Code) → 0 < length text → code_at text ≡ Ok (code, rest) → ahead text ≡ before code (ahead rest)
ahead-code [] rest code some e = absurd (omega arith)
ahead-code (b ∷ text) rest code some e =
    let within : length rest ≤ length text = IfOk-at_ok (IsWithin (length text)) e (code_at-shorter b text) in
    ahead_in-suc (length text) b text
    ∙ ap (read_before (ahead_in (length text))) e
    ∙ ap (before code) (ahead_in-enough (length text) (length rest) rest within (omega arith))

pub ahead-fault : (text : List ℕ) (fault : ParmFault) → 0 < length text → code_at text ≡ Err fault → ahead text ≡ broken fault
ahead-fault [] fault some e = absurd (omega arith)
ahead-fault (b ∷ text) fault some e = ahead_in-suc (length text) b text ∙ ap (read_before (ahead_in (length text))) e

-- a text without codes: each byte writes itself
unfoldable pub literals : List ℕ → Parts
literals [] = Done
literals (b ∷ text) = Next (Act (Literal b)) (literals text)

literal-at : (b : ℕ) (text : List ℕ) → (b ≢ 37) → code_at (b ∷ text) ≡ Ok (ActCode (Literal b), text)
unfolding code_at
literal-at b text p = grind arith

pub ahead-plain : (text : List ℕ) → IsPlain text → ahead text ≡ record { parts = literals text; behind = Ends }
unfolding literals
ahead-plain [] plain = ahead-nothing [] refl
ahead-plain (b ∷ text) plain = ahead-code (b ∷ text) text (ActCode (Literal b)) (omega arith) (literal-at b text plain.0) ∙ ap (before (ActCode (Literal b))) (ahead-plain text plain.1)
