use Rattle.std.proofs.Common.{rules, SFits, w32}
use Rattle.curses_c.specs.Capabilities.{content}
use Rattle.curses_c.proofs.Told.{told_as}
use Rattle.curses_c.proofs.capabilities.ticurses_raw_string.Goals as goal

pub returns-in-Ok-ask : goal.returns-in-Ok-ask
returns-in-Ok-ask c =
    let fits : SFits w32 c.deliver_string.result = search rules in
    told_as c.args.entry.now c.args.name.now c.args.cap.now c.in-Ok.place (content c.in-Ok-ask.asked) c.args.room.now c.deliver_string.new.room c.deliver_string.new.needed c.deliver_string.result
    fits c.in-Ok.ensures.found c.in-Ok-ask.ensures.holds c.deliver_string.ensures
