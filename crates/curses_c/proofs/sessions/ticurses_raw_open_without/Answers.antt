use Rattle.std.proofs.Common.{rules, SFits, w32}
use Rattle.curses_c.specs.Sessions.{IsOpenedLess, LacksLess}
use Rattle.curses_c.proofs.Openings.{taken_as}
use Rattle.curses_c.proofs.sessions.ticurses_raw_open_without.Goals as goal

pub returns : goal.returns
returns c =
    let a = c.args in
    let fits : SFits w32 c.hold.result = search rules in
    taken_as (λ b. b.value) c.open_less.result (IsOpenedLess a.entry.now a.name.now a.rows a.cols) (LacksLess a.entry.now a.name.now a.rows a.cols) a.handle.now.slot.held c.hold.new.handle.slot.held c.hold.result fits
    c.open_less.ensures.opened c.open_less.ensures.unopened c.hold.ensures
