use Rattle.std.proofs.Common.{◌≡◌, ◌≤◌, ◌+◌, ◌++◌, length}
use Rattle.std.specs.Prelude.{map}
use Rattle.ti_sources.specs.LinedTexts.{numbered, numbers_of}
use Rattle.ti_source.specs.Layout.{lines_of}
use Rattle.ti_source.specs.Lines.{blocks_from}
use Rattle.ti_sources.proofs.lined_texts.numbers_of.Given as goal

-- the entries before this line have their lines
abbrev pub invariant-loop-line : goal.invariant-loop-line
invariant-loop-line l = record {
  before : l.before + length l.rest ≤ length l.text;
  all : map (λ own. own.items) l.all.items ++ map numbered (blocks_from (l.before + 1) (lines_of l.rest)).entries ≡ numbers_of l.text;
}

abbrev pub decreases-loop-line : goal.decreases-loop-line
decreases-loop-line l = length l.rest
