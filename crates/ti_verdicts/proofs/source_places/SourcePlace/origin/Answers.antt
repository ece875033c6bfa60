use Rattle.std.proofs.Common.{◌<◌, IfOk, List, length, subst, sym}
use Rattle.ti_resolve.specs.Origins.{IsOriginAt}
use Rattle.ti_source.specs.declared.types.RawEntry.{RawEntry}
use Rattle.ti_verdicts.proofs.source_places.SourcePlace.origin.Goals as goal

-- the index is that of the entries
pub origin_by-requires : goal.origin_by-requires
origin_by-requires c = subst (λ (raws : List RawEntry). c.args.self.now.place < length raws) (sym c.args.self.now.same_raws) c.args.self.now.there

pub returns : goal.returns
returns c =
    subst (λ (raws : List RawEntry). IfOk c.origin_by.result (λ found. IsOriginAt raws c.args.self.now.place c.args.cap found)) c.args.self.now.same_raws c.origin_by.ensures
