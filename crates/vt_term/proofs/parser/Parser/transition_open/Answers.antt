use Rattle.std.proofs.Common.{ℕ, ◌+◌, ap, length, nat_lt}
use Rattle.vt_term.proofs.Transitions.{transition_introducer_holds}
use Rattle.vt_term.proofs.Readers.{transition_in_escape, transition_in_control, stemmed, parted}
use Rattle.vt_term.proofs.parser.Parser.transition_open.Goals as goal

pub returns-in-Escape : goal.returns-in-Escape
returns-in-Escape c =
    let at = rw c.in-Escape.is at c.self.invariant.at in
    rw (← c.self.view_is) (transition_introducer_holds c.self.inside.open_bytes.bytes c.args.byte c.transition_introducer.result c.self.invariant.fits (ap length at) c.requires.goes_on c.transition_introducer.ensures)

pub returns-in-DesignatesG0 : goal.returns-in-DesignatesG0
returns-in-DesignatesG0 c =
    let s = stemmed c.self.inside.stage c.self.inside.numbers.items c.self.inside.open_bytes.bytes c.in-DesignatesG0.is c.self.invariant.at in
    rw (← c.self.view_is) (transition_in_escape c.self.inside.open_bytes.bytes s.more s.second c.args.byte _ c.transition_escape.result s.spelled s.no_introducer c.self.invariant.fits
    (ap (λ (n : ℕ). nat_lt (n + 1) 256) c.self.invariant.counted) c.requires.goes_on c.transition_escape.ensures)

pub returns-in-Closed : goal.returns-in-Closed
returns-in-Closed c =
    let at = rw c.in-Closed.is at c.self.invariant.at in
    rw (← c.self.view_is) (transition_in_control c.self.inside.open_bytes.bytes at.0.front c.args.byte _ _ c.transition_inside.result at.0.spelled (λ e. at.1) (λ e. absurd (cc)) c.self.invariant.fits
    (ap (λ (n : ℕ). nat_lt (n + 1) 256) c.self.invariant.counted) c.requires.goes_on c.transition_inside.ensures)

pub returns-in-Introduced : goal.returns-in-Introduced
returns-in-Introduced c =
    let p = parted c.self.inside.stage c.self.inside.numbers.items c.self.inside.open_bytes.bytes c.in-Introduced.is c.self.invariant.at in
    rw (← c.self.view_is) (transition_in_control c.self.inside.open_bytes.bytes p.more c.args.byte _ _ c.transition_inside-in-Introduced.result p.spelled (λ e. absurd (cc)) (λ e. p.goes_on) c.self.invariant.fits
    (ap (λ (n : ℕ). nat_lt (n + 1) 256) c.self.invariant.counted) c.requires.goes_on c.transition_inside-in-Introduced.ensures)
