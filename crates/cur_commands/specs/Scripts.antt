-- The refusal of a text that is no script.
use Rattle.std.specs.Prelude.{◌≡◌, List, ℕ, ◌++◌, Err, codes}
use Rattle.std.specs.Fmt.{decimal}
use Rattle.ti_files.specs.declared.failure.Failure.{Failure}
use Rattle.ti_files.specs.declared.failure.Failure.TheVariants.{Refused, NoMemory}
use Rattle.ti_files.specs.declared.failure.CommandRefusal.TheVariants.{Verdict}
use Rattle.cur_scripts.specs.Texts.{script_of}
use Rattle.cur_scripts.specs.declared.faults.ScriptFault.{ScriptFault}
use Rattle.cur_scripts.specs.declared.faults.ScriptFaultKind.{ScriptFaultKind}
use Rattle.cur_scripts.specs.declared.faults.ScriptFaultKind.TheVariants as kinds

abbrev pub kind_name : ScriptFaultKind → List ℕ
kind_name kinds.BadLine = codes "BadLine"
kind_name kinds.TooLong = codes "TooLong"
kind_name kinds.NoMemory = codes "NoMemory"

-- `line N: KIND`
abbrev pub fault_text : ScriptFault → List ℕ
fault_text fault = codes "line " ++ (decimal fault.line ++ (codes ": " ++ kind_name fault.kind))

-- the text is no script, as these words say
pub record IsNoScript (text words : List ℕ) : Type 0 where
  pub fault : ScriptFault
  pub refused : script_of text ≡ Err fault
  pub told : words ≡ fault_text fault

abbrev pub IsScriptFailure : List ℕ → Failure → Type 0
IsScriptFailure text (Refused (Verdict words)) = IsNoScript text words.items
IsScriptFailure text NoMemory = Unit {0}
IsScriptFailure text _ = ⊥
