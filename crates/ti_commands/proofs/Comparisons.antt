-- The reply to a comparison, whose second file is read after the first.
use Rattle.std.proofs.Common.{◌≡◌, ◌∙◌, [], List, None, subst, ℕ}
use Rattle.ti_caps.specs.Entry.{Content}
use Rattle.ti_files.specs.Contents.{Held}
use Rattle.ti_commands.specs.Listings.{comparison_text}
use Rattle.ti_commands.specs.Replies.{GivesEntry, IsCompared}
use Rattle.ti_commands.specs.declared.descriptions.Comparison.{Comparison}
use Rattle.ti_files.specs.declared.failure.Reply.{Reply}

pub compared : (before between : Held) (first second : List ℕ) (comparison : Comparison) (one other : Content) (text : List ℕ) (reply : Reply) → GivesEntry before first one → between ≡ before → GivesEntry between second other → text ≡ comparison_text comparison one other → reply.notes.items ≡ [] → reply.text.items ≡ text → reply.failure ≡ None → IsCompared before first second comparison reply
compared before between first second comparison one other text reply a kept b t notes says done = record {
  one = one;
  other = other;
  gives_one = a;
  gives_other = subst (λ (held : Held). GivesEntry held second other) kept b;
  lists = record { no_notes = notes; says = says ∙ t; done = done };
}
