use Rattle.cur_commands.proofs.Endings.{taken_ok}
use Rattle.cur_commands.proofs.shows.screen_after.Goals as goal

pub unwrap-requires : goal.unwrap-requires
unwrap-requires c = taken_ok c.in_ok-terminal.terminal c.feed.new.self c.args.bytes.now c.feed.result c.args.size.rows c.args.size.cols c.in_ok-terminal.ensures c.requires c.feed.ensures.stuck
