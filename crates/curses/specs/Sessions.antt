-- Sessions: the effect of a call, and the bytes that a run of calls sends.
pub use Rattle.cur_play.specs.Log
pub use Rattle.cur_play.specs.Scenes
pub use Rattle.cur_play.specs.Steps
