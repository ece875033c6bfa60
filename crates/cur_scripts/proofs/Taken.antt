-- A call that was taken, as the calls of a line and as a single call.
use Rattle.std.proofs.Common.{◌≡◌, Bool, false, length, if◌then◌else◌, ℕ, List, [], ◌∷◌, ◌++◌, Option, None, Some, Result, Ok, Err, sym, ap, ◌∙◌}
use Rattle.std.specs.Prelude.{nat_lt, option_map}
use Rattle.std.specs.Option.{option_to_list}
use Rattle.std.proofs.lemmas.Option.{same_Some}
use Rattle.cur_scripts.specs.declared.calls.Call.{Call}
use Rattle.cur_scripts.specs.declared.faults.ScriptFaultKind.{ScriptFaultKind}
use Rattle.cur_scripts.specs.Cuts.{cut_at, ◌>>=◌}
use Rattle.cur_scripts.specs.Table.{call_of}
use Rattle.cur_scripts.specs.Takers.{HandsOn}
use Rattle.cur_scripts.specs.Texts.{is_skipped, line_calls, only_call, only_line}

handed : (before : List Call) (room : Bool) (call : Option Call) (after : List Call) (result : Result (Unit {0}) ScriptFaultKind) (done : Unit {0}) → result ≡ Ok done → HandsOn before room call after result → option_map (λ c. before ++ c ∷ []) call ≡ Some after
unfolding HandsOn
handed before room call after (Ok done) d e h = h
handed before room call after (Err kind) d e h = absurd (cc)

mapped : (before after : List Call) (call : Option Call) → option_map (λ c. before ++ c ∷ []) call ≡ Some after → option_map (λ more. before ++ more) (option_map (λ c. c ∷ []) call) ≡ Some after
mapped before after None e = e
mapped before after (Some call) e = e

-- a line's call, after the calls before it
pub as_line : (line : List ℕ) (before : List Call) (room : Bool) (after : List Call) (result : Result (Unit {0}) ScriptFaultKind) (done : Unit {0}) → is_skipped line ≡ false → result ≡ Ok done → HandsOn before room (call_of line) after result → option_map (λ more. before ++ more) (line_calls line) ≡ Some after
as_line line before room after result done read e h =
    ap (λ (t : Bool). option_map (λ more. before ++ more) (if t then Some [] else option_map (λ call. call ∷ []) (call_of line))) read
    ∙ mapped before after (call_of line) (handed before room (call_of line) after result done e h)

abbrev first_of : List Call → Option Call
first_of [] = None
first_of (call ∷ calls) = Some call

only : (call single : Option Call) → option_map (λ c. [] ++ c ∷ []) call ≡ Some (option_to_list single) → single ≡ call
only None single e = absurd (cc)
only (Some call) None e = let none = same_Some (call ∷ []) [] e in absurd (cc)
only (Some call) (Some single) e = sym (ap first_of (same_Some (call ∷ []) (single ∷ []) e))

-- a single call, with none before it
pub as_single : (call single : Option Call) (room : Bool) (result : Result (Unit {0}) ScriptFaultKind) (done : Unit {0}) → result ≡ Ok done → HandsOn [] room call (option_to_list single) result → single ≡ call
as_single call single room result done e h = only call single (handed [] room call (option_to_list single) result done e h)

-- the call of a text that is one line
pub alone : (text line : List ℕ) → nat_lt 1048576 (length text) ≡ false → only_line text (cut_at 10 text) ≡ Some line → is_skipped line ≡ false → only_call text ≡ call_of line
alone text line short is read =
    ap (λ (t : Bool). if t then None else (only_line text (cut_at 10 text) >>= λ line. if is_skipped line then None else call_of line)) short
    ∙ (ap (λ (o : Option (List ℕ)). o >>= λ line. if is_skipped line then None else call_of line) is
    ∙ ap (λ (t : Bool). if t then None else call_of line) read)
