use Rattle.std.proofs.Common.{List, Option, Some, ap, inl, inr, refl, rules, subst, sym, ℕ}
use Rattle.std.proofs.lemmas.Result.{err_from_is_err_and}
use Rattle.ti_commands.specs.Sources.{IsSourced, together_of}
use Rattle.ti_files.specs.Contents.{Held}
use Rattle.ti_fixes.specs.Files.{sheets}
use Rattle.ti_repairs.proofs.Facts.{delivers_so, several_paths}
use Rattle.ti_repairs.specs.Delivery.{DeliversTo, IsTarget}
use Rattle.ti_repairs.specs.declared.weights.Terms.{Terms}
use Rattle.ti_repairs.specs.Entries.{IsRepairedSource}
use Rattle.ti_repairs.proofs.entries.fix_entry.Goals as goal
use Rattle.ti_sources.specs.declared.files.FurtherFile.{FurtherFile}

pub returns-in_err-_entry-clause-failure : goal.returns-in_err-_entry-clause-failure
returns-in_err-_entry-clause-failure g c =
    let p = err_from_is_err_and c.from_residual-in_err-_entry.result c.from_residual-in_err-_entry.ensures.1 in
    rw (p.1, p.2) (inl (inr (inl (record { sized = (c.in_ok-size.size.rows, c.in_ok-size.size.cols, c.in_ok-size.ensures.size); lacks = c.in_err-_entry.ensures.failure }))))

-- there are further files, and no folder
pub returns-in_err-target-clause-failure : goal.returns-in_err-target-clause-failure
returns-in_err-target-clause-failure g c =
    let p = err_from_is_err_and c.from_residual-in_err-target.result c.from_residual-in_err-target.ensures.1 in
    let gives : IsSourced (g.F.Files.holds c.args.files.now) c.args.words.now.entry.now c.in_ok-_entry.field-0.entry (Some c.in-Some.source) = search rules in
    rw (p.1, p.2) (inr (inr (record {
      sized = (c.in_ok-size.size.rows, c.in_ok-size.size.cols, c.in_ok-size.ensures.size);
      several = several_paths (g.F.Files.holds c.args.files.now) gives.stands.own (together_of c.in-Some.source) c.as_slice.result.now c.as_slice.ensures.value c.in_err-target.ensures.failure.0 gives.stands.together;
      printed = c.in_err-target.ensures.failure.1;
      entry = c.in_ok-_entry.field-0.entry;
      source = c.in-Some.source;
      gives = gives;
      tells = c.in_err-target.ensures.failure.2;
    })))

pub returns-clause-reply : goal.returns-clause-reply
returns-clause-reply g c =
    let source = c.in-Some.source in
    let terms : Terms = record { size = c.in_ok-size.size; is_standard = c.args.is_standard } in
    let gives : IsSourced (g.F.Files.holds c.args.files.now) c.args.words.now.entry.now c.in_ok-_entry.field-0.entry (Some c.in-Some.source) = search rules in
    record {
      height = c.in_ok-size.size.rows;
      width = c.in_ok-size.size.cols;
      given = c.in_ok-size.ensures.size;
      terms = terms;
      terms_are = record { rows_are = refl; cols_are = refl; standard_is = refl };
      entry = c.in_ok-_entry.field-0.entry;
      source = source;
      gives = gives;
      news = sheets c.in_ok-repaired.repaired.files.items;
      wrong = c.in_ok-repaired.ensures.wrong;
      repaired = subst (λ (notes : List ℕ). IsRepairedSource c.in-Some.source terms (sheets c.in_ok-repaired.repaired.files.items) notes c.in_ok-repaired.ensures.wrong)
          (ap (λ v. v.items) (sym c.in_ok-delivered.ensures.noted)) c.in_ok-repaired.ensures.repaired;
      ended = c.in_ok-repaired.repaired.ended;
      ends = c.in_ok-repaired.ensures.ends;
      delivers = delivers_so source.further.items c.args.words.now.out c.in_ok-target.target (sheets c.in_ok-repaired.repaired.files.items) c.in_ok-repaired.repaired.ended (g.F.Files.holds c.args.files.now) (g.F.Files.holds c.delivered.new.files) c.in_ok-delivered.field-0
          (subst (λ (files : List FurtherFile). IsTarget files c.args.words.now.out c.in_ok-target.target) c.as_slice.ensures.value c.in_ok-target.ensures.target)
          (subst (λ (h : Held). DeliversTo c.in_ok-target.target (sheets c.in_ok-repaired.repaired.files.items) c.in_ok-repaired.repaired.ended h (g.F.Files.holds c.delivered.new.files) c.in_ok-delivered.field-0) c.in_ok-_entry.ensures.kept c.in_ok-delivered.ensures.delivers);
    }
