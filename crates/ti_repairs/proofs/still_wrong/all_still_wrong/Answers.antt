use Rattle.std.proofs.Common.{◌≤◌, List, sym, subst, length}
use Rattle.std.specs.Prelude.{IfOk}
use Rattle.std.specs.List.{AllByRecursion}
use Rattle.ti_repairs.specs.Notes.{AreStillWrong}
use Rattle.ti_source.specs.Raw.{IsRaw}
use Rattle.ti_source.specs.declared.types.RawEntry.{RawEntry}
use Rattle.ti_repairs.proofs.still_wrong.all_still_wrong.Goals as goal

pub all_lines-requires-clause-fit : goal.all_lines-requires-clause-fit
all_lines-requires-clause-fit c = subst (λ (raws : List RawEntry). AllByRecursion IsRaw raws) (sym c.in_ok-index.ensures) c.requires.fit

pub all_lines-requires-clause-there : goal.all_lines-requires-clause-there
all_lines-requires-clause-there c = subst (λ (raws : List RawEntry). c.args.count ≤ length raws) (sym c.in_ok-index.ensures) c.requires.there

pub returns : goal.returns
returns c = subst (λ (raws : List RawEntry). IfOk c.all_lines.result (λ text. AreStillWrong raws c.args.size.rows c.args.size.cols c.args.count text.items)) c.in_ok-index.ensures c.all_lines.ensures
