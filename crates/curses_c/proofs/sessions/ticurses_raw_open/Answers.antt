use Rattle.std.proofs.Common.{rules, SFits, w32}
use Rattle.curses_c.specs.Sessions.{IsOpened, IsUnopened}
use Rattle.curses_c.proofs.Openings.{taken_as}
use Rattle.curses_c.proofs.sessions.ticurses_raw_open.Goals as goal

pub returns : goal.returns
returns c =
    let a = c.args in
    let fits : SFits w32 c.hold.result = search rules in
    taken_as (λ b. b.value) c.open.result (IsOpened a.entry.now a.name.now a.rows a.cols a.certificate.now) (IsUnopened a.entry.now a.name.now a.rows a.cols a.certificate.now) a.handle.now.slot.held c.hold.new.handle.slot.held c.hold.result fits
    c.open.ensures.opened c.open.ensures.unopened c.hold.ensures
