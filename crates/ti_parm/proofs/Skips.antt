-- Skipping parts that aren't run.
use Rattle.std.proofs.Common.{◌≡◌, ◌<◌, ◌≤◌, ◌+◌, List, length, Ok, arith, ℕ, zero, suc, Bool, true, false, Some, None, refl, sym, ◌∙◌, ap}
use Rattle.ti_parm.specs.declared.code.Code.{Code}
use Rattle.ti_parm.specs.declared.code.Code.TheVariants.{Act as ActCode, If, Of}
use Rattle.ti_parm.specs.declared.code.Mark.TheVariants.{Then as ThenMark, Else as ElseMark, End as EndMark}
use Rattle.ti_parm.specs.Codes.{code_at}
use Rattle.ti_parm.specs.Skips.{depth_behind, past}
use Rattle.ti_parm.specs.Syntax.{Ahead, Behind, HasEnd, Parts, Rest, ahead, before}
use Rattle.ti_parm.proofs.Judgements.{HasEnd-code}
use Rattle.ti_parm.proofs.Trees.{ahead-code, ahead-nothing}
use Rattle.ti_parm.proofs.Rests.{IsConditional, IsRest, conditional-is, elses, ends, goes_on, is_conditional}

past-rest : (to_else : Bool) (depth : ℕ) (b : Behind) (r : Rest) → IsRest b r → past to_else (suc depth) b ≡ past to_else depth r.behind
past-rest true depth _ _ (ends parts behind) = refl
past-rest false depth _ _ (ends parts behind) = refl
past-rest true depth _ _ (elses first parts behind) = refl
past-rest false depth _ _ (elses first parts behind) = refl
past-rest true depth _ _ (goes_on first chosen behind r d) = past-rest true depth behind r d
past-rest false depth _ _ (goes_on first chosen behind r d) = past-rest false depth behind r d

past-conditional : (to_else : Bool) (depth : ℕ) (condition : Parts) (b : Behind) (a : Ahead) → IsConditional condition b a → past to_else (suc depth) b ≡ past to_else depth a.behind
past-conditional to_else depth condition _ _ (is_conditional chosen behind r d) = past-rest to_else depth behind r d

-- the skipping goes on after a code
pub past-on : (code : Code) (a : Ahead) (depth further : ℕ) (to_else : Bool) → HasEnd (before code a).behind → depth_behind code depth to_else ≡ Some further → past to_else depth (before code a).behind ≡ past to_else further a.behind
past-on (ActCode action) a depth further to_else h e = let same : depth ≡ further = cc in ap (λ d. past to_else d a.behind) same
past-on If a depth further to_else h e =
    let same : suc depth ≡ further = cc in
    sym (past-conditional to_else depth a.parts a.behind _ (conditional-is a.parts a.behind h)) ∙ ap (λ d. past to_else d a.behind) same
past-on (Of ThenMark) a depth further to_else h e = let same : depth ≡ further = cc in ap (λ d. past to_else d a.behind) same
past-on (Of ElseMark) a zero further true h e = cc
past-on (Of ElseMark) a zero further false h e = let same : zero ≡ further = cc in ap (λ d. past false d a.behind) same
past-on (Of ElseMark) a (suc depth) further true h e = let same : suc depth ≡ further = cc in ap (λ d. past true d a.behind) same
past-on (Of ElseMark) a (suc depth) further false h e = let same : suc depth ≡ further = cc in ap (λ d. past false d a.behind) same
past-on (Of EndMark) a zero further to_else h e = cc
past-on (Of EndMark) a (suc depth) further to_else h e = let same : depth ≡ further = cc in ap (λ d. past to_else d a.behind) same

-- the skipping ends after a code
pub past-end : (code : Code) (a : Ahead) (depth : ℕ) (to_else : Bool) → depth_behind code depth to_else ≡ None → past to_else depth (before code a).behind ≡ a
past-end (ActCode action) a depth to_else e = cc
past-end If a depth to_else e = cc
past-end (Of ThenMark) a depth to_else e = cc
past-end (Of ElseMark) a zero true e = refl
past-end (Of ElseMark) a zero false e = cc
past-end (Of ElseMark) a (suc depth) to_else e = cc
past-end (Of EndMark) a zero to_else e = refl
past-end (Of EndMark) a (suc depth) to_else e = cc

-- the skipping goes on after a code, in terms of texts
pub skip-on : (text rest : List ℕ) (code : Code) (depth further : ℕ) (to_else : Bool) → 0 < length text → code_at text ≡ Ok (code, rest) → HasEnd (ahead text).behind → depth_behind code depth to_else ≡ Some further → past to_else depth (ahead text).behind ≡ past to_else further (ahead rest).behind
skip-on text rest code depth further to_else some e h p =
    ap (λ a. past to_else depth a.behind) (ahead-code text rest code some e)
    ∙ past-on code (ahead rest) depth further to_else (HasEnd-code text rest code some e h) p

pub skip-end : (text rest : List ℕ) (code : Code) (depth : ℕ) (to_else : Bool) → 0 < length text → code_at text ≡ Ok (code, rest) → depth_behind code depth to_else ≡ None → past to_else depth (ahead text).behind ≡ ahead rest
skip-end text rest code depth to_else some e p =
    ap (λ a. past to_else depth a.behind) (ahead-code text rest code some e)
    ∙ past-end code (ahead rest) depth to_else p

pub skip-nothing : (text : List ℕ) (depth : ℕ) (to_else : Bool) → length text ≡ 0 → past to_else depth (ahead text).behind ≡ ahead text
skip-nothing text depth to_else none =
    ap (λ a. past to_else depth a.behind) (ahead-nothing text none) ∙ sym (ahead-nothing text none)

pub depth_behind-le : (code : Code) (depth further : ℕ) (to_else : Bool) → depth_behind code depth to_else ≡ Some further → further ≤ depth + 1
depth_behind-le (ActCode action) depth further to_else e = let same : depth ≡ further = cc in omega arith
depth_behind-le If depth further to_else e = let same : suc depth ≡ further = cc in omega arith
depth_behind-le (Of ThenMark) depth further to_else e = let same : depth ≡ further = cc in omega arith
depth_behind-le (Of ElseMark) zero further true e = cc
depth_behind-le (Of ElseMark) zero further false e = let same : zero ≡ further = cc in omega arith
depth_behind-le (Of ElseMark) (suc depth) further to_else e = let same : suc depth ≡ further = cc in omega arith
depth_behind-le (Of EndMark) zero further to_else e = cc
depth_behind-le (Of EndMark) (suc depth) further to_else e = let same : depth ≡ further = cc in omega arith
