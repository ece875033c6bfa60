use Rattle.std.proofs.Common.{◌∙◌, ℕ, List, Bor, ap, map, subst}
use Rattle.ti_files.specs.Words.{texts_of}
use Rattle.ti_surveys.specs.Answers.{IsRefused, SaysBy, SaysNothing}
use Rattle.ti_verdicts.specs.Counts.{answers_line}
use Rattle.ti_surveys.specs.Lines.{AreLines}
use Rattle.ti_surveys.specs.Surveys.{EndsPaths, HasNotes}
use Rattle.ti_surveys.specs.Strict.{EndsStrictly}
use Rattle.ti_surveys.specs.Told.{told_of}
use Rattle.ti_verdicts.specs.Locations.{placed_in}
use Rattle.ti_sources.specs.LinedFiles.{file_text}
use Rattle.ti_verdicts.specs.declared.answers.Answer.{Answer}
use Rattle.ti_verdicts.specs.declared.locations.PlacedFault.{PlacedFault}
use Rattle.ti_surveys.proofs.surveys.survey_files.Goals as goal

-- the certifier's answers, as the words ask, and then the counts
pub returns-clause-reply : goal.returns-clause-reply
returns-clause-reply g c =
    let said = c.in_ok-surveyed.surveyed.said in
    record {
      height = c.in_ok-size.size.rows;
      width = c.in_ok-size.size.cols;
      given = c.in_ok-size.ensures.size;
      told = told_of said;
      failed = c.in_ok-surveyed.surveyed.failure;
      ends = subst
          (λ (paths : List (Bor (List ℕ))).
          EndsPaths
          (AreLines (SaysBy c.args.survey.now.words.now.lists_all c.args.survey.now.words.now.names_parts (map file_text c.args.survey.now.originals.now) (g.C.Certifier.certifies c.args.survey.now.certifier.now) (g.C.Certifier.refuses c.args.survey.now.certifier.now) c.in_ok-size.size.rows c.in_ok-size.size.cols) IsRefused) SaysNothing
          (g.F.Files.holds c.args.files.now) (texts_of paths) (told_of said) c.in_ok-surveyed.surveyed.failure c.survey_paths.new.remarks)
          c.as_slice-paths.ensures.value c.in_ok-surveyed.ensures.told;
      strictly = subst (λ (answered : List Answer). EndsStrictly c.args.survey.now.words.now.is_strict answered c.in_ok-surveyed.surveyed.failure c.in_ok-failure.failure) c.as_slice-5.ensures.value c.in_ok-failure.ensures;
      places = subst (λ (faults : List PlacedFault). HasNotes (map placed_in faults) c.in_ok-notes.notes.items) c.as_slice-2.ensures.value c.in_ok-notes.ensures;
      heard = c.in_ok-surveyed.ensures.heard;
      counts = c.in_ok-text.ensures ∙ ap answers_line c.as_slice-4.ensures.value;
    }
