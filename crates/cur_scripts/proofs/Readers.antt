-- A script is read line by line.
use Rattle.std.proofs.Common.{◌≡◌, ℕ, ◌+◌, Bool, true, false, if◌then◌else◌, List, [], ◌∷◌, ◌++◌, length, Option, None, Some, Result, Ok, Err, refl, sym, subst, ap, ◌∙◌, append_assoc}
use Rattle.std.specs.Prelude.{IfSome, nat_lt, option_map}
use Rattle.std.proofs.lemmas.Option.{same_Some, none-some}
use Rattle.cur_scripts.specs.declared.calls.Call.{Call}
use Rattle.cur_scripts.specs.declared.faults.ScriptFaultKind.TheVariants.{TooLong}
use Rattle.cur_scripts.specs.declared.faults.ScriptFault.{ScriptFault}
use Rattle.cur_scripts.specs.Cuts.{cut_at, lines_of, ◌>>=◌}
use Rattle.cur_scripts.specs.Table.{call_of}
use Rattle.cur_scripts.specs.Texts.{is_skipped, line_calls, fault_at, behind, joined, calls_of, only_call, only_line, script_of}
use Rattle.cur_scripts.proofs.CutFacts.{part_alone, part_first}

abbrev Read : Type 0
Read = Result (List Call) ScriptFault

behind_twice : (calls more : List Call) (read : Read) → behind calls (behind more read) ≡ behind (calls ++ more) read
behind_twice calls more (Ok rest) = ap Ok (sym (append_assoc calls more rest))
behind_twice calls more (Err fault) = refl

line_taken : (number : ℕ) (calls new : List Call) (o : Option (List Call)) (read : Read) → option_map (λ more. calls ++ more) o ≡ Some new → behind calls (joined number o read) ≡ behind new read
line_taken number calls new None read e = absurd (none-some new e)
line_taken number calls new (Some more) read e = behind_twice calls more read ∙ ap (λ xs. behind xs read) (same_Some (calls ++ more) new e)

-- one more line
pub taken : (number : ℕ) (line : List ℕ) (lines : List (List ℕ)) (calls new : List Call) (whole : Read) → option_map (λ more. calls ++ more) (line_calls line) ≡ Some new
    → behind calls (calls_of number (line ∷ lines)) ≡ whole → behind new (calls_of (number + 1) lines) ≡ whole
taken number line lines calls new whole e h = sym (line_taken number calls new (line_calls line) (calls_of (number + 1) lines) e) ∙ h

-- a line that is a call, before lines without calls
one_read : (line : List ℕ) (lines : List (List ℕ)) (skipped : Bool) (o : Option Call) → is_skipped line ≡ skipped → call_of line ≡ o → calls_of 2 lines ≡ Ok [] → IfSome (if skipped then None else o) (λ call. calls_of 1 (line ∷ lines) ≡ Ok (call ∷ []))
one_read line lines true o e f h = tt
one_read line lines false None e f h = tt
one_read line lines false (Some call) e f h =
    ap (λ b. joined 1 (if b then Some [] else option_map (λ call. call ∷ []) (call_of line)) (calls_of 2 lines)) e
    ∙ (ap (λ o. joined 1 (option_map (λ call. call ∷ []) o) (calls_of 2 lines)) f ∙ ap (behind (call ∷ [])) h)

abbrev Reads : Option (List ℕ) → List (List ℕ) → Type 0
Reads o lines = IfSome (o >>= λ line. if is_skipped line then None else call_of line) (λ call. calls_of 1 lines ≡ Ok (call ∷ []))

only_reads : (text : List ℕ) (o : Option (List ℕ × List ℕ)) → cut_at 10 text ≡ o → Reads (only_line text o) (lines_of text)
only_reads text None e = subst (Reads (Some text)) (sym (part_alone 10 text e)) (one_read text [] (is_skipped text) (call_of text) refl refl refl)
only_reads text (Some (line, [])) e = subst (Reads (Some line)) (sym (part_first 10 text line [] e)) (one_read line ([] ∷ []) (is_skipped line) (call_of line) refl refl refl)
only_reads text (Some (line, b ∷ rest)) e = tt

in_time : (long : Bool) (o : Option Call) (fault : ScriptFault) (read : Read) → IfSome o (λ call. read ≡ Ok (call ∷ [])) → IfSome (if long then None else o) (λ call. (if long then Err fault else read) ≡ Ok (call ∷ []))
in_time true o fault read h = tt
in_time false o fault read h = h

-- a text that is just one call
pub only_script : (text : List ℕ) → IfSome (only_call text) (λ call. script_of text ≡ Ok (call ∷ []))
unfolding script_of
only_script text =
    in_time (nat_lt 1048576 (length text)) (only_line text (cut_at 10 text) >>= λ line. if is_skipped line then None else call_of line) (fault_at 0 TooLong) (calls_of 1 (lines_of text)) (only_reads text (cut_at 10 text) refl)
