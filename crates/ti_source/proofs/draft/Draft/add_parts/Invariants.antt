use Rattle.std.proofs.Common.{◌≡◌, length}
use Rattle.ti_source.specs.Fields.{add_cut}
use Rattle.ti_source.specs.Layout.{cut_of}
use Rattle.ti_source.proofs.draft.Draft.add_parts.Given as goal

abbrev pub invariant-loop-part : goal.invariant-loop-part
invariant-loop-part l = add_cut l.line l.self (cut_of l.rest) ≡ add_cut l.line l.fn.self (cut_of l.text)

abbrev pub decreases-loop-part : goal.decreases-loop-part
decreases-loop-part l = length l.rest
