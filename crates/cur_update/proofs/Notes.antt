-- For the cells of a line, whether each is printed like an ink with the character of a text.
use Rattle.std.proofs.Common.{◌≡◌, ◌+◌, ◌<◌, ℕ, Bool, false, List, length, slice_index_or, slice_set, subst}
use Rattle.cur_drawing.specs.Cells.{Content, space}
use Rattle.cur_screens.specs.VirtualScreen.{Screen}
use Rattle.cur_steps.specs.Inks.{same}
use Rattle.cur_steps.specs.declared.inks.Ink.{Ink}
use Rattle.cur_steps.proofs.StretchFacts.{one_more}
use Rattle.cur_update.specs.Inks.{printed_cell}
use Rattle.cur_update.specs.declared.inks.Means.{Means}

-- it is noted of the first n cells
abbrev pub AreNoted : Means → Screen → List Content → Ink → List ℕ → ℕ → List Bool → Type 0
AreNoted m v line ink text n shown = (k : ℕ) → k < n → slice_index_or shown k false ≡ same (printed_cell m v (slice_index_or line k space)) (record ink { byte = slice_index_or text k 0 })

-- and of the next one
pub note_more : (m : Means) (v : Screen) (line : List Content) (ink : Ink) (text : List ℕ) (shown : List Bool) (n : ℕ) (cell : Content) (one : Bool) → n < length shown → AreNoted m v line ink text n shown → cell ≡ slice_index_or line n space
    → one ≡ same (printed_cell m v cell) (record ink { byte = slice_index_or text n 0 }) → AreNoted m v line ink text (n + 1) (slice_set shown n one)
note_more m v line ink text shown n cell one lt before here is =
    one_more (λ (k : ℕ) (a : Bool). a ≡ same (printed_cell m v (slice_index_or line k space)) (record ink { byte = slice_index_or text k 0 })) shown n one false lt before
    (subst (λ (x : Content). one ≡ same (printed_cell m v x) (record ink { byte = slice_index_or text n 0 })) here is)
