use Rattle.std.proofs.Common.{◌≡◌, take}
use Rattle.std.specs.Prelude.{map}
use Rattle.ti_sources.specs.LinedTexts.{line_behind}
use Rattle.ti_sources.proofs.lined_texts.lines_behind.Given as goal

-- the fields before this one have their lines
abbrev pub invariant-loop-field : goal.invariant-loop-field
invariant-loop-field l = l.own.items ≡ map (line_behind l.before) (take l.field-index l.fields)
