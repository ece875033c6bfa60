use Rattle.std.proofs.Common.{List, ap, inr, refl, subst, sym, ℕ}
use Rattle.std.proofs.lemmas.Result.{err_from_is_err_and}
use Rattle.ti_commands.specs.Further.{together_in}
use Rattle.ti_files.specs.Contents.{Held}
use Rattle.ti_fixes.specs.Files.{sheets}
use Rattle.ti_repairs.proofs.Facts.{delivers_so, several_paths}
use Rattle.ti_repairs.specs.Delivery.{DeliversTo, IsTarget}
use Rattle.ti_repairs.specs.declared.weights.Terms.{Terms}
use Rattle.ti_repairs.specs.Repairs.{IsReady}
use Rattle.ti_repairs.proofs.surveys.fix_survey.Goals as goal
use Rattle.ti_sources.specs.declared.files.FurtherFile.{FurtherFile}

-- there are further files, and no folder
pub returns-in_err-target-clause-failure : goal.returns-in_err-target-clause-failure
returns-in_err-target-clause-failure g c =
    let p = err_from_is_err_and c.from_residual-in_err-target.result c.from_residual-in_err-target.ensures.1 in
    rw (p.1, p.2) (inr (inr (record {
      sized = (c.in_ok-size.size.rows, c.in_ok-size.size.cols, c.in_ok-size.ensures.size);
      several = several_paths (g.F.Files.holds c.args.files.now) c.in_ok-text.ensures.stands.own (together_in c.in_ok-text.field-0.all) c.as_slice.result.now c.as_slice.ensures.value c.in_err-target.ensures.failure.0 c.in_ok-text.ensures.stands.together;
      printed = c.in_err-target.ensures.failure.1;
      tells = c.in_err-target.ensures.failure.2;
    })))

pub returns-clause-reply : goal.returns-clause-reply
returns-clause-reply g c =
    let terms : Terms = record { size = c.in_ok-size.size; is_standard = c.args.words.now.is_standard } in
    record {
      height = c.in_ok-size.size.rows;
      width = c.in_ok-size.size.cols;
      given = c.in_ok-size.ensures.size;
      terms = terms;
      terms_are = record { rows_are = refl; cols_are = refl; standard_is = refl };
      text = c.in_ok-text.field-0.text.items;
      count = c.in_ok-text.field-0.count;
      all = together_in c.in_ok-text.field-0.all;
      stands = c.in_ok-text.ensures.stands;
      olds = sheets c.in_ok-texts.texts.files.items;
      files_are = c.in_ok-texts.ensures.sheets;
      news = sheets c.in_ok-repaired.repaired.files.items;
      ended = c.in_ok-repaired.repaired.ended;
      ready = subst (λ (notes : List ℕ). IsReady (sheets c.in_ok-texts.texts.files.items) terms c.in_ok-text.field-0.count c.args.words.now.is_strict (sheets c.in_ok-repaired.repaired.files.items) notes c.in_ok-repaired.repaired.ended)
          (ap (λ v. v.items) (sym c.in_ok-delivered.ensures.noted)) c.in_ok-repaired.ensures;
      delivers = delivers_so c.in_ok-text.field-0.all.files.items c.args.words.now.out c.in_ok-target.target (sheets c.in_ok-repaired.repaired.files.items) c.in_ok-repaired.repaired.ended (g.F.Files.holds c.args.files.now) (g.F.Files.holds c.delivered.new.files) c.in_ok-delivered.field-0
          (subst (λ (files : List FurtherFile). IsTarget files c.args.words.now.out c.in_ok-target.target) c.as_slice.ensures.value c.in_ok-target.ensures.target)
          (subst (λ (h : Held). DeliversTo c.in_ok-target.target (sheets c.in_ok-repaired.repaired.files.items) c.in_ok-repaired.repaired.ended h (g.F.Files.holds c.delivered.new.files) c.in_ok-delivered.field-0) c.in_ok-text.ensures.kept c.in_ok-delivered.ensures.delivers);
    }
