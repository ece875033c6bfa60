use Rattle.std.proofs.Common.{◌≡◌, replicate}
use Rattle.ti_source.specs.declared.types.NoteKind.TheVariants.{OddEscape}
use Rattle.ti_source.specs.Fields.{note, with_notes}
use Rattle.ti_source.proofs.draft.Draft.add_odd.Given as goal

abbrev pub invariant-loop : goal.invariant-loop
invariant-loop l = l.self ≡ with_notes l.fn.self (replicate l.counter (note l.line OddEscape))
