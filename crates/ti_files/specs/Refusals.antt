-- The words of a refusal: its kind, and the place or name that some kinds have after it.
use Rattle.std.specs.Prelude.{ℕ, List, ◌++◌, codes}
use Rattle.std.specs.Fmt.{decimal}
use Rattle.ti_files.specs.declared.failure.CommandRefusal.{CommandRefusal}
use Rattle.ti_files.specs.declared.failure.CommandRefusal.TheVariants as refusals
use Rattle.ti_compiled.specs.declared.types.PackFault.{PackFault}
use Rattle.ti_compiled.specs.declared.types.PackFault.TheVariants as packs
use Rattle.ti_parm.specs.declared.fault.ParmFault.{ParmFault}
use Rattle.ti_parm.specs.declared.fault.ParmFault.TheVariants as parms
use Rattle.ti_resolve.specs.declared.faults.ResolveFault.{ResolveFault}
use Rattle.ti_resolve.specs.declared.faults.ResolveFault.TheVariants as resolves
use Rattle.ti_source.specs.declared.escapes.EscapeFault.{EscapeFault}
use Rattle.ti_source.specs.declared.escapes.EscapeFault.TheVariants as escapes
use Rattle.ti_source.specs.declared.types.FaultKind.{FaultKind}
use Rattle.ti_source.specs.declared.types.FaultKind.TheVariants as sources
use Rattle.vt_term.specs.declared.tokenizer.TokenFaultKind.{TokenFaultKind}
use Rattle.vt_term.specs.declared.tokenizer.TokenFaultKind.TheVariants as tokens

abbrev pub escape_name : EscapeFault → List ℕ
escape_name escapes.BadEscape = codes "BadEscape"
escape_name escapes.TooLong = codes "TooLong"
escape_name escapes.NoMemory = codes "NoMemory"

abbrev pub parm_name : ParmFault → List ℕ
parm_name parms.Underflow = codes "Underflow"
parm_name parms.BadNest = codes "BadNest"
parm_name parms.BadCode = codes "BadCode"
parm_name parms.Overflow = codes "Overflow"
parm_name parms.BadChar = codes "BadChar"
parm_name parms.WrongKind = codes "WrongKind"
parm_name parms.NoMemory = codes "NoMemory"

-- the kind and the place
abbrev pub token_text : TokenFaultKind → ℕ → List ℕ
token_text tokens.Unfinished at = codes "Unfinished " ++ decimal at
token_text tokens.Stuck at = codes "Stuck " ++ decimal at
token_text tokens.NoMemory at = codes "NoMemory"

abbrev pub source_name : FaultKind → List ℕ
source_name sources.NoName = codes "NoName"
source_name sources.WrongKind = codes "WrongKind"
source_name sources.BadNumber = codes "BadNumber"
source_name sources.NumberRange = codes "NumberRange"
source_name sources.OpenField = codes "OpenField"
source_name sources.BadEscape = codes "BadEscape"
source_name sources.TooLong = codes "TooLong"
source_name sources.NoMemory = codes "NoMemory"

-- the kind and the name that can't be resolved
abbrev pub resolve_text : ResolveFault → List ℕ
resolve_text (resolves.NoSuchEntry name) = codes "NoSuchEntry " ++ name
resolve_text (resolves.Cycle name) = codes "Cycle " ++ name
resolve_text resolves.NoMemory = codes "NoMemory"
resolve_text (resolves.TooMany name) = codes "TooMany " ++ name

abbrev pub pack_name : PackFault → List ℕ
pack_name packs.Short = codes "Short"
pack_name packs.BadMagic = codes "BadMagic"
pack_name packs.BadCount = codes "BadCount"
pack_name packs.BadFlag = codes "BadFlag"
pack_name packs.BadNumber = codes "BadNumber"
pack_name packs.BadOffset = codes "BadOffset"
pack_name packs.NoNul = codes "NoNul"
pack_name packs.TooLarge = codes "TooLarge"
pack_name packs.NoMemory = codes "NoMemory"
pack_name packs.BadNames = codes "BadNames"

-- the words after `refused: `
abbrev pub refusal_text_of : CommandRefusal → List ℕ
refusal_text_of refusals.Size = codes "BadSize"
refusal_text_of (refusals.Escape fault) = escape_name fault
refusal_text_of (refusals.Parm fault) = parm_name fault
refusal_text_of (refusals.Token fault) = token_text fault.kind fault.at
refusal_text_of (refusals.Stuck fault) = codes "Stuck " ++ decimal fault.at
refusal_text_of (refusals.Source fault) =
    codes "line " ++ (decimal fault.line ++ (codes ": " ++ source_name fault.kind))
refusal_text_of (refusals.Resolve fault) = resolve_text fault
refusal_text_of (refusals.Pack fault) = pack_name fault
refusal_text_of (refusals.Verdict words) = words.items
