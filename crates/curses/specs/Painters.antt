-- The painter, and the wire on which its bytes are sent.
pub use Rattle.cur_steps.specs.declared.beliefs.Belief.{Belief}
pub use Rattle.cur_steps.specs.declared.beliefs.Mode.{Mode}
pub use Rattle.cur_steps.specs.declared.beliefs.Mode.TheVariants as modes
pub use Rattle.cur_steps.specs.declared.inks.Ink.{Ink}
pub use Rattle.cur_paint.specs.declared.updates.Cursor.{Cursor}
pub use Rattle.cur_paint.specs.declared.updates.Knowledge.{Knowledge}
pub use Rattle.cur_paint.specs.declared.updates.Status.{Status}
pub use Rattle.cur_paint.specs.declared.updates.Status.TheVariants as statuses
pub use Rattle.cur_paint.specs.Rests
pub use Rattle.cur_paint.specs.Update
pub use Rattle.cur_update.specs.Inks
pub use Rattle.cur_update.specs.Painters
pub use Rattle.cur_steps.specs.Wire
