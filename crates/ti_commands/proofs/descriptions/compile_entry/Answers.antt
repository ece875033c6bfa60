use Rattle.std.proofs.Common.{subst}
use Rattle.ti_files.specs.Contents.{Held}
use Rattle.ti_commands.specs.Replies.{Outcome}
use Rattle.ti_commands.proofs.descriptions.compile_entry.Goals as goal

pub returns-clause-reply : goal.returns-clause-reply
returns-clause-reply g c =
    let found = c.in_ok-text.field-0 in
    record {
      entry = found.entry;
      finds = c.in_ok-text.ensures.found;
      no_text = c.new.ensures.items;
      outcome = subst (λ (held : Held). Outcome found.entry c.args.out held (g.F.Files.holds c.stored.new.files) c.in_ok-failure.failure) c.find_entry.ensures.kept c.in_ok-failure.ensures.outcome;
    }
