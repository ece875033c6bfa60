use Rattle.std.proofs.Common.{◌∙◌, ◌<◌, ap, arith, inl, length, refl}
use Rattle.std.specs.Prelude.{String, string_bytes}
use Rattle.std.specs.declared.alloc.Global.{Global}
use Rattle.std.proofs.lemmas.Result.{err_from_is_err_and}
use Rattle.ti_commands.proofs.FurtherFacts.{held_next, held_none, reading_next}
use Rattle.ti_commands.proofs.further.files_at.Goals as goal

pub loop-path-init : goal.loop-path-init
loop-path-init g c = record {
  held = held_none (g.F.Files.holds c.args.files.now) c.new-further.result.items c.new-further.ensures.items;
  kept = refl;
}

-- the file at the next path is behind those so far
pub loop-path-preserved : goal.loop-path-preserved
loop-path-preserved g c =
    let here : c.loop-path.path-index < length c.args.paths.now = omega arith in
    record {
      held = held_next (g.F.Files.holds c.args.files.now) (g.F.Files.holds c.loop-path.files) c.args.paths.now c.loop-path.path-index c.path-item.result c.as_str.result.now c.loop-path.further.items c.push.new.self.items c.in_ok-file.file
          here c.loop-path.invariant.kept (c.as_str.ensures.value ∙ ap (λ (p : String Global). string_bytes p) c.path-item.is) c.in_ok-push.ensures.items c.loop-path.invariant.held (record { named = c.in_ok-file.ensures.named; whole = c.in_ok-file.ensures.whole; short = c.in_ok-file.ensures.short });
      kept = c.read_further.ensures.kept ∙ c.loop-path.invariant.kept;
    }

-- the file that can't be read is one of these
pub returns-in_err-file-clause-failure : goal.returns-in_err-file-clause-failure
returns-in_err-file-clause-failure g c =
    let here : c.loop-path.path-index < length c.args.paths.now = omega arith in
    let p = err_from_is_err_and c.from_residual.result c.from_residual.ensures.1 in
    rw (p.1, p.2) (inl (reading_next c.args.paths.now c.loop-path.path-index c.path-item.result c.as_str.result.now _
    here (c.as_str.ensures.value ∙ ap (λ (q : String Global). string_bytes q) c.path-item.is) c.in_err-file.ensures.failure))
