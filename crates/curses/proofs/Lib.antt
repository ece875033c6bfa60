-- Lemmas about the words of specs/.
pub use Rattle.cur_drawing.proofs.ByPlace
pub use Rattle.cur_windows.proofs.Additions
