use Rattle.std.proofs.Common.{◌<◌, List, sym, subst, length}
use Rattle.std.specs.Prelude.{IfOk}
use Rattle.std.specs.List.{AllByRecursion}
use Rattle.ti_repairs.specs.Notes.{IsStillWrong}
use Rattle.ti_source.specs.Raw.{IsRaw}
use Rattle.ti_source.specs.declared.types.RawEntry.{RawEntry}
use Rattle.ti_repairs.proofs.still_wrong.still_wrong.Goals as goal

pub wrong_at-requires-clause-fit : goal.wrong_at-requires-clause-fit
wrong_at-requires-clause-fit c = subst (λ (raws : List RawEntry). AllByRecursion IsRaw raws) (sym c.in_ok-index.ensures) c.requires.fit

pub wrong_at-requires-clause-there : goal.wrong_at-requires-clause-there
wrong_at-requires-clause-there c = subst (λ (raws : List RawEntry). c.args.place < length raws) (sym c.in_ok-index.ensures) c.requires.there

pub returns : goal.returns
returns c = subst (λ (raws : List RawEntry). IfOk c.wrong_at.result (IsStillWrong raws c.args.size.rows c.args.size.cols c.args.place)) c.in_ok-index.ensures c.wrong_at.ensures
