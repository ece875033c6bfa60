use Rattle.std.proofs.Common.{◌≡◌, ◌≤◌, ◌+◌, ◌++◌, length}
use Rattle.std.specs.Prelude.{map}
use Rattle.ti_source.specs.Apart.{alone, stretches_from}
use Rattle.ti_source.specs.Layout.{lines_of}
use Rattle.ti_source.proofs.apart.entries_of.Given as goal

abbrev pub invariant-loop-line : goal.invariant-loop-line
invariant-loop-line l = record {
  number : l.number + length l.rest ≤ length l.text + 1;
  raws : l.apart.raws.items ++ map (λ s. (alone s).raw) (stretches_from l.number (lines_of l.rest)).entries ≡ map (λ s. (alone s).raw) (stretches_from 1 (lines_of l.text)).entries;
  faults : l.apart.faults.items ++ map (λ s. (alone s).fault) (stretches_from l.number (lines_of l.rest)).entries ≡ map (λ s. (alone s).fault) (stretches_from 1 (lines_of l.text)).entries;
}

abbrev pub decreases-loop-line : goal.decreases-loop-line
decreases-loop-line l = length l.rest
