use Rattle.std.proofs.Common.{◌∙◌, ◌<◌, ap, arith, inl, length, refl, subst, sym}
use Rattle.std.specs.Prelude.{String, string_bytes}
use Rattle.std.specs.List.{AllByRecursion}
use Rattle.std.specs.declared.alloc.Global.{Global}
use Rattle.std.proofs.lemmas.Result.{err_from_is_err_and}
use Rattle.ti_commands.specs.Further.{together_in}
use Rattle.ti_source.specs.Raw.{IsRaw}
use Rattle.ti_commands.proofs.FurtherFacts.{fails_next, reached_next, reached_none}
use Rattle.ti_commands.proofs.further.put_each.Goals as goal

pub loop-path-init : goal.loop-path-init
loop-path-init g c = record {
  reached = reached_none (g.F.Files.holds c.args.files.now) c.args.own.items (together_in c.in_ok-put.put) c.in_ok-put.ensures.raws c.in_ok-put.ensures.files c.in_ok-put.ensures.counts;
  fit = subst (AllByRecursion IsRaw) (sym c.in_ok-put.ensures.raws) c.requires;
  kept = refl;
}

-- the file at the next path has its entries behind those so far
pub loop-path-preserved : goal.loop-path-preserved
loop-path-preserved g c =
    let here : c.loop-path.path-index < length c.args.paths.now = omega arith in
    record {
      reached = reached_next (g.F.Files.holds c.args.files.now) (g.F.Files.holds c.loop-path.files) c.args.own.items c.args.paths.now c.loop-path.path-index c.path-item.result c.as_str.result.now (together_in c.loop-path.put) (together_in c.add_further.new.put)
          here c.loop-path.invariant.kept (c.as_str.ensures.value ∙ ap (λ (p : String Global). string_bytes p) c.path-item.is) c.loop-path.invariant.reached c.in_ok-add_further.ensures.added;
      fit = c.in_ok-add_further.ensures.fits;
      kept = c.add_further.ensures.kept ∙ c.loop-path.invariant.kept;
    }

-- the first file that fails is behind those that have entries
pub returns-in_err-add_further-clause-failure : goal.returns-in_err-add_further-clause-failure
returns-in_err-add_further-clause-failure g c =
    let here : c.loop-path.path-index < length c.args.paths.now = omega arith in
    let p = err_from_is_err_and c.from_residual-in_err-add_further.result c.from_residual-in_err-add_further.ensures.1 in
    rw (p.1, p.2) (inl (fails_next (g.F.Files.holds c.args.files.now) (g.F.Files.holds c.loop-path.files) c.args.own.items c.args.paths.now c.loop-path.path-index c.path-item.result c.as_str.result.now (together_in c.loop-path.put) _
    here c.loop-path.invariant.kept (c.as_str.ensures.value ∙ ap (λ (q : String Global). string_bytes q) c.path-item.is) c.loop-path.invariant.reached c.in_err-add_further.ensures.failure))
