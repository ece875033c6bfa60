-- The answer of `check --every-size`, by the contents of its files.
use Rattle.std.specs.Prelude.{◌≡◌, ◌⊎◌, ℕ, List, Option, None, Some}
use Rattle.ti_caps.specs.Entry.{Content}
use Rattle.ti_checker.specs.declared.causes.No.{No}
use Rattle.ti_commands.specs.Findings.{LacksEntry}
use Rattle.ti_commands.specs.Replies.{GivesEntry}
use Rattle.ti_files.specs.Contents.{Held}
use Rattle.ti_files.specs.declared.failure.Failure.{Failure}
use Rattle.ti_files.specs.declared.failure.Failure.TheVariants.{NoMemory}
use Rattle.ti_files.specs.declared.failure.Reply.{Reply}
use Rattle.ti_sizes.specs.Answers.{IsNoAt, IsRightWhereTried}
use Rattle.ti_sizes.specs.EverySize.{IsRightAtEverySize}
use Rattle.ti_verdicts.specs.Refusals.{IsVerdict, TellsNo}

-- How the answer about an entry ends: it doesn't fail if the entry is right at every size. Else it fails with a refusal
-- of the entry at some size, or with a doubt, which says only that the entry is right at the sizes that were tried.
pub data EndsFor (entry : Content) (failed : Option Failure) : Type 0 where
  Right : IsRightAtEverySize entry → failed ≡ None → EndsFor entry failed
  Wrong : (rows cols : ℕ) (refusal : No) (told : Failure) → IsNoAt entry rows cols refusal → TellsNo refusal told
      → failed ≡ Some told → EndsFor entry failed
  InDoubt : (words : List ℕ) (told : Failure) → IsRightWhereTried entry → IsVerdict words told
      → failed ≡ Some told → EndsFor entry failed

-- the word gives an entry, and the reply ends as is true of it
pub record IsChecked (held : Held) (word : List ℕ) (reply : Reply) : Type 0 where
  pub entry : Content
  pub gives : GivesEntry held word entry
  pub ends : EndsFor entry reply.failure

-- the word gives no entry; memory can run out at any time
abbrev pub FailsToCheck : Held → List ℕ → Failure → Type 0
FailsToCheck held word failure = LacksEntry held word failure ⊎ (failure ≡ NoMemory)
