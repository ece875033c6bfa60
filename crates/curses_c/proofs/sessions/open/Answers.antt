use Rattle.std.proofs.Common.{◌∙◌, ap}
use Rattle.curses_c.proofs.Openings.{opened}
use Rattle.curses_c.proofs.sessions.open.Goals as goal

pub returns-clause-opened : goal.returns-clause-opened
returns-clause-opened c =
    let s = c.in_ok-described.described in
    let h = c.in_ok-open.field-0.value in
    opened c.args.subject.now.bytes.now c.args.subject.now.name.now c.args.subject.now.rows c.args.subject.now.cols c.args.certificate.now s.entry s.size.rows s.size.cols c.in_ok-checked.checked h
    c.in_ok-described.ensures.given c.in_ok-described.ensures.rows c.in_ok-described.ensures.cols c.in_ok-checked.ensures.shown c.in_ok-checked.ensures.accepted
    c.in_ok-open.ensures.certificate c.in_ok-open.ensures.begun (ap (λ (v : _). v.items) c.in_ok-open.ensures.left_out ∙ c.new.ensures.items)
