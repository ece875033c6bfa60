use Rattle.std.proofs.Common.{List, Bor, subst, sym, ℕ}
use Rattle.std.proofs.lemmas.Result.{err_from_is_err_and}
use Rattle.ti_files.specs.Contents.{Held}
use Rattle.ti_commands.specs.Further.{AreHeld}
use Rattle.ti_files.specs.Words.{texts_of}
use Rattle.ti_sources.specs.declared.files.FurtherFile.{FurtherFile}
use Rattle.ti_surveys.specs.Lines.{AreLines}
use Rattle.ti_surveys.specs.Surveys.{AreNamed, HasLines}
use Rattle.ti_surveys.specs.Told.{IsToldOrLeft, told_of}
use Rattle.ti_surveys.proofs.ApartFacts.{beside_apart, beside_unread}
use Rattle.ti_surveys.proofs.HeardFacts.{hears_ended}
use Rattle.ti_surveys.proofs.surveys.survey_paths.Goals as goal

-- a file of `--with` can't be read
pub returns-in_err-further-clause-failure : goal.returns-in_err-further-clause-failure
returns-in_err-further-clause-failure g c =
    let p = err_from_is_err_and c.from_residual.result c.from_residual.ensures.1 in
    rw (p.1, p.2) (beside_unread (g.F.Files.holds c.args.files.now) _ c.in_err-further.ensures.failure)

-- a file of `--with` hides its entries
pub returns-in_err-said-clause-failure : goal.returns-in_err-said-clause-failure
returns-in_err-said-clause-failure g c =
    let p = err_from_is_err_and c.from_residual-in_err-said.result c.from_residual-in_err-said.ensures.1 in
    rw (p.1, p.2) (beside_apart (g.F.Files.holds c.args.files.now) c.as_slice.result.now _
    (subst (λ (others : List FurtherFile). AreHeld (g.F.Files.holds c.args.files.now) (g.F.Files.holds c.args.files.now).with_paths others) (sym c.as_slice.ensures.value) c.in_ok-further.ensures.held)
    c.in_err-said.ensures.failure)

-- the paths that have no lines are named
pub returns-clause-told : goal.returns-clause-told
returns-clause-told g c =
    let said = c.in_ok-said.field-0 in
    record {
      others = c.in_ok-further.further.items;
      beside = c.in_ok-further.ensures.held;
      unread = texts_of said.unread.items;
      each = subst (λ (others : List FurtherFile). IsToldOrLeft (HasLines (AreLines (g.S.Speaker.says c.args.speaker.now) (g.S.Speaker.refuses c.args.speaker.now) others) (g.F.Files.holds c.args.files.now)) (g.S.Speaker.leaves c.args.speaker.now) (texts_of c.args.paths.now) (told_of said.said) (texts_of said.unread.items)) c.as_slice.ensures.value
          (subst (λ (held : Held). IsToldOrLeft (HasLines (AreLines (g.S.Speaker.says c.args.speaker.now) (g.S.Speaker.refuses c.args.speaker.now) c.as_slice.result.now) held) (g.S.Speaker.leaves c.args.speaker.now) (texts_of c.args.paths.now) (told_of said.said) (texts_of said.unread.items)) c.further_files.ensures.kept c.in_ok-said.ensures.told);
      named = subst (λ (paths : List (Bor (List ℕ))). AreNamed (texts_of paths) c.in_ok-failure.failure c.named.new.remarks) c.as_slice-2.ensures.value c.in_ok-failure.ensures;
    }

-- the report at the end changes nothing that was heard
pub returns-clause-heard : goal.returns-clause-heard
returns-clause-heard g c =
    hears_ended g.W.Watcher.heard g.W.Watcher.has_failed c.args.watcher.now c.paths_said-parted.new.watcher c.ends.new.self c.in_ok-said.field-0.said.lines.items c.ends.ensures.heard c.ends.ensures.failed c.in_ok-said.ensures.heard
