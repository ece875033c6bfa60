use Rattle.std.proofs.Common.{◌∙◌, ℕ, List, Bor, ap, map, subst}
use Rattle.ti_files.specs.Words.{texts_of}
use Rattle.ti_surveys.specs.Lines.{AreLines}
use Rattle.ti_surveys.specs.Places.{places_text}
use Rattle.ti_surveys.specs.Strict.{EndsStrictly}
use Rattle.ti_surveys.specs.Surveys.{EndsPaths}
use Rattle.ti_surveys.specs.Told.{told_of}
use Rattle.ti_verdicts.specs.Locations.{placed_in}
use Rattle.ti_sources.specs.LinedFiles.{file_text}
use Rattle.ti_verdicts.specs.declared.answers.Answer.{Answer}
use Rattle.ti_verdicts.specs.declared.locations.PlacedFault.{PlacedFault}
use Rattle.ti_reports.specs.Surveys.{Reports, ReportsLack, ReportsUnread}
use Rattle.ti_reports.proofs.surveys.survey_reports.Goals as goal

-- the reports on the paths, as the words ask for them
pub returns-clause-reply : goal.returns-clause-reply
returns-clause-reply g c =
    let said = c.in_ok-said.field-0.said in
    record {
      height = c.in_ok-size.size.rows;
      width = c.in_ok-size.size.cols;
      given = c.in_ok-size.ensures.size;
      holds = record {
        told = told_of said;
        failed = c.in_ok-said.field-0.failure;
        ends = subst
            (λ (paths : List (Bor (List ℕ))).
            EndsPaths (AreLines (Reports (g.P.Form.wanted c.args.survey.now.form.now) (g.P.Form.prints c.args.survey.now.form.now) c.in_ok-size.size.rows c.in_ok-size.size.cols c.args.survey.now.words.now.lists_all (map file_text c.args.survey.now.originals.now)) (ReportsLack (g.P.Form.wanted c.args.survey.now.form.now) (g.P.Form.prints c.args.survey.now.form.now) c.in_ok-size.size.rows c.in_ok-size.size.cols)) (ReportsUnread (g.P.Form.wanted c.args.survey.now.form.now) (g.P.Form.prints c.args.survey.now.form.now) c.in_ok-size.size.rows c.in_ok-size.size.cols)
            (g.F.Files.holds c.args.files.now) (texts_of paths) (told_of said) c.in_ok-said.field-0.failure c.survey_paths.new.remarks)
            c.as_slice-paths.ensures.value c.in_ok-said.ensures.told;
        strictly = subst (λ (answered : List Answer). EndsStrictly c.args.survey.now.words.now.is_strict answered c.in_ok-said.field-0.failure c.in_ok-failure.failure) c.as_slice-2.ensures.value c.in_ok-failure.ensures;
        places = c.in_ok-notes.ensures ∙ ap (λ (faults : List PlacedFault). places_text (map placed_in faults)) c.as_slice.ensures.value;
        heard = c.in_ok-said.ensures.heard;
        no_text = c.new.ensures.items;
      };
    }
