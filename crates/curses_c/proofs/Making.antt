-- Calls one after another.
use Rattle.std.proofs.Common.{◌≡◌, ℕ, ◌+◌, ◌<◌, true, false, List, [], ◌∷◌, length, drop, refl, sym, subst, get_or, inl, inr, arith, ℤ}
use Rattle.std.specs.Prelude.{None, Result, Ok}
use Rattle.std.proofs.Math.Seq.{drop-length}
use Rattle.std.proofs.lemmas.List.{drop_more}
use Rattle.cur_scripts.specs.declared.calls.Call.{Call}
use Rattle.cur_play.specs.declared.answers.Answer.{Answer}
use Rattle.cur_play.specs.declared.answers.Answer.TheVariants.{Done}
use Rattle.cur_scripts.specs.Texts.{FailsBy, only_call, script_of}
use Rattle.cur_scripts.specs.declared.faults.ScriptFault.{ScriptFault}
use Rattle.cur_scripts.specs.declared.faults.ScriptFaultKind.{ScriptFaultKind}
use Rattle.cur_scripts.specs.declared.faults.ScriptFaultKind.TheVariants.{BadLine, TooLong, NoMemory}
use Rattle.curses_c.specs.Codes.{script_code}
use Rattle.curses_c.specs.Held.{Makes, MakesUpTo, Plays, Says, SaysRead, Then, fault_line, is_done, noting}
use Rattle.curses_c.specs.declared.held.Held.{Held}

-- the first calls were done and led here: whatever the calls from this place on make, all calls make
abbrev pub Leads : Held → List Call → ℕ → Held → Type 0
Leads h calls i now = (n : ℕ) (a : Answer) (k : Held) → MakesUpTo now (drop i calls) n a k → MakesUpTo h calls (i + n) a k

then_true : (answer a : Answer) (n more : ℕ) (mid k : Held) (R : ℕ → Type 0) → is_done answer ≡ true → n ≡ more + 1 → R more → Then (is_done answer) answer n a mid k R
then_true answer a n more mid k R e f r = subst (λ b. Then b answer n a mid k R) (sym e) (more, f, r)

then_false : (answer : Answer) (mid : Held) (R : ℕ → Type 0) → is_done answer ≡ false → Then (is_done answer) answer 0 answer mid mid R
then_false answer mid R e = subst (λ b. Then b answer 0 answer mid mid R) (sym e) (refl, refl, refl)

from_there : (calls : List Call) (i : ℕ) (call : Call) (now : Held) (n : ℕ) (a : Answer) (k : Held) → i < length calls → call ≡ get_or calls i call → MakesUpTo now (call ∷ drop (i + 1) calls) n a k → MakesUpTo now (drop i calls) n a k
from_there calls i call now n a k lt e m =
    let is : drop i calls ≡ call ∷ drop (i + 1) calls = subst (λ x. drop i calls ≡ x ∷ drop (i + 1) calls) (sym e) (drop_more calls i call lt) in
    subst (λ l. MakesUpTo now l n a k) (sym is) m

pub leads_on : (h : Held) (calls : List Call) (i : ℕ) (call : Call) (now next : Held) (answer : Answer) → i < length calls → call ≡ get_or calls i call → Leads h calls i now → Makes now call answer next → is_done answer ≡ true
    → Leads h calls (i + 1) next
leads_on h calls i call now next answer lt e leads makes done n a k rest =
    let sum : i + (n + 1) ≡ (i + 1) + n = omega arith in
    subst (λ m. MakesUpTo h calls m a k) sum (leads (n + 1) a k (from_there calls i call now (n + 1) a k lt e (answer, next, makes, then_true answer a (n + 1) n next k _ done refl rest)))

pub leads_out : (h : Held) (calls : List Call) (i : ℕ) (call : Call) (now next : Held) (answer : Answer) → i < length calls → call ≡ get_or calls i call → Leads h calls i now → Makes now call answer next → is_done answer ≡ false
    → MakesUpTo h calls i answer next
leads_out h calls i call now next answer lt e leads makes stops =
    let sum : i + 0 ≡ i = omega arith in
    subst (λ m. MakesUpTo h calls m answer next) sum (leads 0 answer next (from_there calls i call now 0 answer next lt e (answer, next, makes, then_false answer next _ stops)))

pub leads_whole : (h : Held) (calls : List Call) (i : ℕ) (now : Held) → i ≡ length calls → Leads h calls i now → MakesUpTo h calls i Done now
leads_whole h calls i now e leads =
    let sum : i + 0 ≡ i = omega arith in
    let none : drop i calls ≡ [] = subst (λ n. drop n calls ≡ []) (sym e) (drop-length calls) in
    subst (λ m. MakesUpTo h calls m Done now) sum (leads 0 Done now (subst (λ l. MakesUpTo now l 0 Done now) (sym none) (refl, refl, refl)))

-- a text that lists these calls
pub listed : (text : List ℕ) (calls : List Call) (h k : Held) (code : ℤ) → script_of text ≡ Ok calls → Plays text calls h code k → Says text h code k
listed text calls h k code e plays = inl (subst (λ (r : Result (List Call) ScriptFault). SaysRead text r h code k) (sym e) plays)

-- a text that can't be read
pub said : (text : List ℕ) (kind : ScriptFaultKind) (line : ℕ) (fault : ScriptFault) (h k : Held) (code : ℤ) → fault.kind ≡ kind → fault.line ≡ line → FailsBy kind fault (script_of text) → only_call text ≡ None
    → k ≡ noting (fault_line kind line) h → code ≡ script_code kind → Says text h code k
said text BadLine line fault h k code ek el fails none noted e = inl (subst (λ (r : Result (List Call) ScriptFault). SaysRead text r h code k) (sym fails) (subst (λ n. k ≡ noting n h) (sym el) noted, subst (λ x. code ≡ script_code x) (sym ek) e))
said text TooLong line fault h k code ek el fails none noted e = inl (subst (λ (r : Result (List Call) ScriptFault). SaysRead text r h code k) (sym fails) (subst (λ n. k ≡ noting n h) (sym el) noted, subst (λ x. code ≡ script_code x) (sym ek) e))
said text NoMemory line fault h k code ek el fails none noted e = inr (none, noted, e)
