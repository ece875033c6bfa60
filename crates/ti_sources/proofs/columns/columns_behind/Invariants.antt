use Rattle.std.proofs.Common.{◌≡◌, ◌+◌, length}
use Rattle.ti_sources.specs.Columns.{first_columns}
use Rattle.ti_source.specs.Layout.{cut_of}
use Rattle.ti_sources.proofs.columns.columns_behind.Given as goal

-- the fields that are left say what all of them say
abbrev pub invariant-loop-part : goal.invariant-loop-part
invariant-loop-part l = record {
  same : first_columns l.cap l.passed (cut_of l.left).ended ≡ first_columns l.cap l.before (cut_of l.rest).ended;
  place : l.passed + length l.left ≡ l.before + length l.rest;
}

abbrev pub decreases-loop-part : goal.decreases-loop-part
decreases-loop-part l = length l.left
