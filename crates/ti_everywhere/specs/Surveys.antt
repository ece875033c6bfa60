-- The answer of `survey --every-size`, by the contents of its files.
use Rattle.std.specs.Prelude.{◌≡◌, Bool, List, [], Option, ℕ}
use Rattle.ti_files.specs.Contents.{Held}
use Rattle.ti_files.specs.declared.failure.Failure.{Failure}
use Rattle.ti_files.specs.declared.failure.Reply.{Reply}
use Rattle.ti_everywhere.specs.Lines.{Refuses, Says}
use Rattle.ti_surveys.specs.Answers.{SaysNothing}
use Rattle.ti_surveys.specs.Lines.{AreLines}
use Rattle.ti_surveys.specs.Strict.{EndsStrictly}
use Rattle.ti_surveys.specs.Surveys.{EndsPaths}
use Rattle.ti_surveys.specs.Told.{Told}

-- Each entry of each path has its line, which is heard. The reply fails if a path can't be read, or, if it is strict,
-- if some answer isn't yes.
pub record IsSurveyed (held : Held) (paths : List (List ℕ)) (is_strict : Bool) (remarks : List (List ℕ))
    (AreHeard : List ℕ → Type 0) (reply : Reply) : Type 0 where
  pub told : Told
  pub failed : Option Failure
  pub ends : EndsPaths
      (AreLines (λ path stands name entry own. Says entry own) (λ path stands name refusal own. Refuses own))
      SaysNothing held paths told failed remarks
  pub strictly : EndsStrictly is_strict told.answers failed reply.failure
  pub heard : AreHeard told.lines
  pub no_text : reply.text.items ≡ []
