-- Laws of effects in their one form and of their texts.
use Rattle.std.specs.Prelude.{◌≡◌, ◌<◌, ℕ, List, Some}
use Rattle.vt_term.specs.Size.{IsSize}
use Rattle.vt_effects.specs.declared.effects.Effect.{Effect}
use Rattle.vt_effects.specs.declared.starts.Start.{Start}
use Rattle.vt_effects.specs.Compose.{composed}
use Rattle.vt_effects.specs.Record.{record_of}
use Rattle.ti_lines.specs.EffectText.{spelled, IsPlain}

-- no two plain effects have one text
abbrev pub OneText : Type 0
OneText = (d e : Effect) → IsPlain d → IsPlain e → spelled d ≡ spelled e → d ≡ e

-- the composition of two plain effects is plain
abbrev pub ComposedPlain : Type 0
ComposedPlain = (a b c : Effect) → IsPlain a → IsPlain b → composed a b ≡ Some c → IsPlain c

-- the record of tokens is plain, from every start whose rows and columns have 16 bits
abbrev pub RecordedPlain : Type 0
RecordedPlain =
    (rows cols : ℕ) (start : Start) (tokens : List (List ℕ)) (e : Effect) → IsSize rows cols → start.row_min < 65536
    → start.col_min < 65536 →
    record_of rows cols start tokens ≡ Some e → IsPlain e
