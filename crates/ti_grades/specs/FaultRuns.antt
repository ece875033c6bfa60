-- The row of the table that a fault is about, what the entry's string sends for it, and the effect of that.
use Rattle.std.specs.Prelude.{◌≡◌, ◌≢◌, ℕ, List, [], ◌∷◌, Option, Some, None, Err, option_and_then, option_map}
use Rattle.ti_caps.specs.Entry.{Content}
use Rattle.ti_caps.specs.Table.{name_at}
use Rattle.ti_checker.specs.declared.causes.No.{No}
use Rattle.ti_checker.specs.Notes.{SendsTokens}
use Rattle.ti_conforms.specs.Entries.{string_of}
use Rattle.ti_conforms.specs.Sends.{ReadsStatic, Sends, values}
use Rattle.ti_grades.specs.declared.effects.Runs.{Runs}
use Rattle.ti_parm.specs.Meaning.{meaning}
use Rattle.ti_parm.specs.Value.{zeros}
use Rattle.ti_parm.specs.declared.fault.ParmFault.{ParmFault}
use Rattle.ti_rows.specs.Asked.{start_of}
use Rattle.ti_rows.specs.Names.{name_of}
use Rattle.ti_rows.specs.Params.{with_params}
use Rattle.ti_rows.specs.declared.rows.Row.{Row}
use Rattle.ti_rows.specs.declared.rows.Row.TheVariants.{Smcup, Rmcup}
use Rattle.vt_effects.specs.Record.{record_of}
use Rattle.vt_effects.specs.declared.effects.Effect.{Effect}
use Rattle.vt_term.specs.Fault.{TellsFault}
use Rattle.vt_term.specs.Text.{Splits}
use Rattle.vt_term.specs.declared.tokenizer.TokenFault.{TokenFault}
use Rattle.vt_term.specs.declared.tokenizer.TokenFaultKind.TheVariants as kinds

-- the row of a name's capability that comes first, if there is one
abbrev pub IsNamed : List ℕ → Option Row → Type 0
IsNamed name (Some row) = name_of row ≡ name
IsNamed name None = (row : Row) → name_of row ≢ name

-- the row of the refusal's capability with its parameters, if it is about a row
pub record IsRowFor (refusal : No) (row : Option Row) : Type 0 where
  pub first : Option Row
  pub named : IsNamed (name_at refusal.cap) first
  pub given : row ≡ option_and_then (λ it. with_params it refusal.params.items) first

-- the bytes that a string sends for a row; none if it sends nothing
abbrev pub IsSentBy : List ℕ → Row → Option (List ℕ) → Type 0
IsSentBy string row (Some bytes) = Sends string row bytes
IsSentBy string row None = (bytes : List ℕ) → Sends string row bytes → ⊥

-- without a row, or without a string, nothing is sent
abbrev pub IsSentFor : Option Row → Option (List ℕ) → Option (List ℕ) → Type 0
IsSentFor None string sent = sent ≡ None
IsSentFor (Some row) None sent = sent ≡ None
IsSentFor (Some row) (Some string) sent = IsSentBy string row sent

-- the bytes have a fault, so that they aren't whole tokens
pub record HasTokenFault (bytes : List ℕ) : Type 0 where
  pub fault : TokenFault
  pub told : TellsFault bytes fault
  pub claims : fault.kind ≢ kinds.NoMemory

-- the tokens of these bytes, if they are whole tokens
abbrev pub AreWhole : List ℕ → Option (List (List ℕ)) → Type 0
AreWhole bytes (Some tokens) = Splits bytes tokens []
AreWhole bytes None = HasTokenFault bytes

-- the string sends no whole tokens for the row: it can't be expanded, or reads a static variable first, or sends bytes
-- that aren't whole tokens
pub data SendsNoTokens (string : List ℕ) (row : Row) : Type 0 where
  Unexpanded : (fault : ParmFault) → meaning string (values row) zeros ≡ Err fault → SendsNoTokens string row
  Unset : ReadsStatic string row → SendsNoTokens string row
  NotWhole : (bytes : List ℕ) → Sends string row bytes → HasTokenFault bytes → SendsNoTokens string row

-- the tokens that a string sends for a row, if it sends whole ones
abbrev pub AreTokensOf : List ℕ → Row → Option (List (List ℕ)) → Type 0
AreTokensOf string row (Some tokens) = SendsTokens string row tokens
AreTokensOf string row None = SendsNoTokens string row

-- the effect of these tokens from the starts of the row, if they have a record
abbrev pub effect_of : ℕ → ℕ → Row → Option (List (List ℕ)) → Option Effect
effect_of rows cols row tokens = option_and_then (λ them. record_of rows cols (start_of rows cols row) them) tokens

-- the effect of what a string sends for a row, if there is one
pub record HasEffect (rows cols : ℕ) (string : List ℕ) (row : Row) (effect : Option Effect) : Type 0 where
  pub tokens : Option (List (List ℕ))
  pub sent : AreTokensOf string row tokens
  pub is : effect ≡ effect_of rows cols row tokens

-- without a row, or without a string, there is no effect
abbrev pub IsEffectFor : ℕ → ℕ → Option Row → Option (List ℕ) → Option Effect → Type 0
IsEffectFor rows cols None string effect = effect ≡ None
IsEffectFor rows cols (Some row) None effect = effect ≡ None
IsEffectFor rows cols (Some row) (Some string) effect = HasEffect rows cols string row effect

-- the string with a `%i` in front of it, by which it counts lines and columns from 1
abbrev pub incremented : List ℕ → List ℕ
incremented string = 37 ∷ 105 ∷ string

-- the effects that decide a grade: of what the entry's string sends for the row, also if it counts from 1, and of its
-- `smcup` and `rmcup`
pub record AreRuns (rows cols : ℕ) (entry : Content) (row : Option Row) (string : Option (List ℕ)) (runs : Runs)
    : Type 0 where
  pub own : IsEffectFor rows cols row string runs.own
  pub counted : IsEffectFor rows cols row (option_map incremented string) runs.counted
  pub enters : IsEffectFor rows cols (Some Smcup) (string_of entry Smcup) runs.enters
  pub leaves : IsEffectFor rows cols (Some Rmcup) (string_of entry Rmcup) runs.leaves
