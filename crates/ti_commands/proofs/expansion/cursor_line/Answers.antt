use Rattle.std.specs.String.{string_bytes}
use Rattle.ti_commands.proofs.Expansions.{cursor_shown}
use Rattle.ti_commands.proofs.expansion.cursor_line.Goals as goal

pub returns : goal.returns
returns c =
    cursor_shown (λ s. string_bytes s) c.args.size.rows c.args.size.cols c.args.sent.now c.in_ok-terminal.terminal c.feed-whole.new.self c.feed-whole.result c.cursor-row.result.0 c.cursor-row.result.1 c.place_line.result
    c.in_ok-terminal.ensures c.requires c.feed-whole.ensures.ok c.feed-whole.ensures.stuck c.cursor-row.ensures.row c.cursor-row.ensures.col c.place_line.ensures
