use Rattle.vt_effects.proofs.Stability.{fits_in}
use Rattle.vt_effects.proofs.application.apply.Goals as goal

pub after_move-requires : goal.after_move-requires
after_move-requires c = rw (c.settings-now.ensures, c.scroll.ensures, c.erase.ensures) (fits_in c.args.effect.now c.args.terminal.now.screen c.size.ensures.state.screen c.requires).row_from

pub after_move-requires-2 : goal.after_move-requires-2
after_move-requires-2 c = rw (c.settings-now.ensures, c.scroll.ensures, c.erase.ensures) (fits_in c.args.effect.now c.args.terminal.now.screen c.size.ensures.state.screen c.requires).col_from

pub set-requires-clause-row_within : goal.set-requires-clause-row_within
set-requires-clause-row_within c = rw (c.after_move.ensures, c.settings-now.ensures, c.scroll.ensures, c.erase.ensures) (fits_in c.args.effect.now c.args.terminal.now.screen c.size.ensures.state.screen c.requires).row

pub set-requires-clause-col_within : goal.set-requires-clause-col_within
set-requires-clause-col_within c = rw (c.after_move-2.ensures, c.settings-now.ensures, c.scroll.ensures, c.erase.ensures) (fits_in c.args.effect.now c.args.terminal.now.screen c.size.ensures.state.screen c.requires).col

pub set-requires-clause-region : goal.set-requires-clause-region
set-requires-clause-region c = rw (c.after_margins-region.ensures.top, c.after_margins-region.ensures.bottom, c.settings-now.ensures, c.scroll.ensures, c.erase.ensures) (fits_in c.args.effect.now c.args.terminal.now.screen c.size.ensures.state.screen c.requires).region

pub set-requires-clause-bottom_within : goal.set-requires-clause-bottom_within
set-requires-clause-bottom_within c = rw (c.after_margins-region.ensures.bottom, c.settings-now.ensures, c.scroll.ensures, c.erase.ensures) (fits_in c.args.effect.now c.args.terminal.now.screen c.size.ensures.state.screen c.requires).bottom
