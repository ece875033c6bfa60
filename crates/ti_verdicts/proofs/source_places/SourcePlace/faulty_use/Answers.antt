use Rattle.std.proofs.Common.{◌<◌, IfOk, List, length, subst, sym}
use Rattle.std.specs.Prelude.{IfNone, IfSome, IsOk}
use Rattle.ti_resolve.specs.FaultyUses.{IsFaultyUse}
use Rattle.ti_resolve.specs.Walk.{walk_at}
use Rattle.ti_source.specs.declared.types.RawEntry.{RawEntry}
use Rattle.ti_verdicts.proofs.source_places.SourcePlace.faulty_use.Goals as goal

-- the index is that of the entries
pub faulty_use-requires : goal.faulty_use-requires
faulty_use-requires c = subst (λ (raws : List RawEntry). c.args.self.now.place < length raws) (sym c.args.self.now.same_raws) c.args.self.now.there

pub returns-clause-none : goal.returns-clause-none
returns-clause-none c =
    subst (λ (raws : List RawEntry). IfOk c.faulty_use.result (λ found. IfNone found (IsOk (walk_at raws c.args.self.now.place)))) c.args.self.now.same_raws c.faulty_use.ensures.none

pub returns-clause-found : goal.returns-clause-found
returns-clause-found c =
    subst (λ (raws : List RawEntry). IfOk c.faulty_use.result (λ found. IfSome found (IsFaultyUse raws c.args.self.now.place))) c.args.self.now.same_raws c.faulty_use.ensures.found
