-- (Serves the code alone.) Skipping parts that aren't run.
use Rattle.std.specs.Prelude.{ℕ, zero, suc, Bool, true, false, Option, Some, None}
use Rattle.ti_parm.specs.declared.code.Code.{Code}
use Rattle.ti_parm.specs.declared.code.Code.TheVariants.{Act, If, Of}
use Rattle.ti_parm.specs.declared.code.Mark.TheVariants.{Then, Else, End}
use Rattle.ti_parm.specs.Syntax.{Ahead, Behind, Ends, Breaks, Closes, Done}

-- the number of open conditionals after a code, None if the skipping ends there
abbrev pub depth_behind : Code → ℕ → Bool → Option ℕ
depth_behind (Act action) depth to_else = Some depth
depth_behind If depth to_else = Some (suc depth)
depth_behind (Of Then) depth to_else = Some depth
depth_behind (Of Else) zero true = None
depth_behind (Of Else) zero false = Some zero
depth_behind (Of Else) (suc depth) to_else = Some (suc depth)
depth_behind (Of End) zero to_else = None
depth_behind (Of End) (suc depth) to_else = Some depth

-- the codes ahead of the `%;` of the conditional with `depth` others open inside it or, if wanted, ahead of its first
-- `%e`
abbrev pub past : Bool → ℕ → Behind → Ahead
past to_else depth Ends = record { parts = Done; behind = Ends }
past to_else depth (Breaks fault) = record { parts = Done; behind = Breaks fault }
past to_else depth (Closes Then parts behind) = past to_else depth behind
past true zero (Closes Else parts behind) = record { parts = parts; behind = behind }
past false zero (Closes Else parts behind) = past false zero behind
past to_else (suc depth) (Closes Else parts behind) = past to_else (suc depth) behind
past to_else zero (Closes End parts behind) = record { parts = parts; behind = behind }
past to_else (suc depth) (Closes End parts behind) = past to_else depth behind
