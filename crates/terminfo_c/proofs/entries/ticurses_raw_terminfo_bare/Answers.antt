use Rattle.std.proofs.Common.{inl, refl}
use Rattle.terminfo_c.proofs.entries.ticurses_raw_terminfo_bare.Goals as goal

pub returns-in-Ok : goal.returns-in-Ok
returns-in-Ok c = inl (c.in-Ok.held.value, c.in-Ok.ensures, c.put.ensures, refl)
