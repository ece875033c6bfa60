-- Strings that send nothing, and the tokens of those that send bytes.
use Rattle.std.proofs.Common.{◌≡◌, ◌≢◌, ℕ, List, Option, Some, None, Ok, Err, refl, subst}
use Rattle.ti_conforms.specs.Sends.{IsUnsent, Sends}
use Rattle.ti_conforms.specs.declared.sends.SendFault.{SendFault}
use Rattle.ti_conforms.specs.declared.sends.SendFault.TheVariants.{Fault, StaticRead, NoMemory}
use Rattle.ti_parm.specs.declared.fault.ParmFault.{ParmFault}
use Rattle.ti_rows.specs.declared.rows.Row.{Row}
use Rattle.ti_grades.specs.FaultRuns.{AreTokensOf, AreWhole, NotWhole, SendsNoTokens, Unexpanded}
use Rattle.vt_term.specs.Fault.{TellsFault}
use Rattle.vt_term.specs.declared.tokenizer.TokenFault.{TokenFault}
use Rattle.vt_term.specs.declared.tokenizer.TokenFaultKind.TheVariants as kinds

pub unsent_sends_nothing : (string : List ℕ) (row : Row) (why : SendFault) → why ≢ NoMemory → IsUnsent string row why → (bytes : List ℕ) → Sends string row bytes → ⊥
unsent_sends_nothing string row (Fault fault) known unsent bytes s =
    let never : Err fault ≡ Ok bytes = rw unsent at s.sends in absurd cc
unsent_sends_nothing string row StaticRead known unsent bytes s = s.sets_first unsent.end unsent.runs unsent.reads
unsent_sends_nothing string row NoMemory known unsent bytes s = known refl

pub unexpanded : (string : List ℕ) (row : Row) (why : SendFault) (fault : ParmFault) → why ≡ Fault fault → IsUnsent string row why → SendsNoTokens string row
unexpanded string row why fault is unsent = Unexpanded fault (subst (λ (w : SendFault). IsUnsent string row w) is unsent)

pub sent_tokens : (string : List ℕ) (row : Row) (bytes : List ℕ) (found : Option (List (List ℕ))) → Sends string row bytes → AreWhole bytes found → AreTokensOf string row found
sent_tokens string row bytes (Some tokens) sent whole = record { bytes = bytes; sends = sent; splits = whole }
sent_tokens string row bytes None sent fault = NotWhole bytes sent fault

pub unwhole : (bytes : List ℕ) (fault : TokenFault) → TellsFault bytes fault → fault.kind ≢ kinds.NoMemory → AreWhole bytes None
unwhole bytes fault told claims = record { fault = fault; told = told; claims = claims }
