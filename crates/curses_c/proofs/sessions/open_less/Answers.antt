use Rattle.std.proofs.Common.{◌∙◌, ap}
use Rattle.curses_c.specs.LeftOut.{left_text}
use Rattle.curses_c.proofs.Openings.{opened_less, unopened_less}
use Rattle.curses_c.proofs.sessions.open_less.Goals as goal

pub returns-clause-opened : goal.returns-clause-opened
returns-clause-opened c =
    let s = c.in_ok-described.described in
    let h = c.in_ok-open.field-0.value in
    opened_less c.args.subject.now.bytes.now c.args.subject.now.name.now c.args.subject.now.rows c.args.subject.now.cols s.entry s.size.rows s.size.cols c.in_ok-checked.field-0 h
    c.in_ok-described.ensures.given c.in_ok-described.ensures.rows c.in_ok-described.ensures.cols c.in_ok-checked.ensures.less
    c.in_ok-open.ensures.certificate c.in_ok-open.ensures.begun (ap (λ (v : _). v.items) c.in_ok-open.ensures.left_out ∙ (c.in_ok-lines.ensures ∙ ap left_text c.as_slice.ensures.value))

pub returns-in_err-checked-clause-unopened : goal.returns-in_err-checked-clause-unopened
returns-in_err-checked-clause-unopened c =
    let s = c.in_ok-described.described in
    unopened_less c.args.subject.now.bytes.now c.args.subject.now.name.now c.args.subject.now.rows c.args.subject.now.cols s.entry s.size.rows s.size.cols c.in_err-checked.field-0.0 c.from_residual-in_err-checked.result
    c.in_ok-described.ensures.given c.in_ok-described.ensures.rows c.in_ok-described.ensures.cols c.in_err-checked.ensures.refused c.from_residual-in_err-checked.ensures.1
