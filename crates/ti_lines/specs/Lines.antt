-- A reader of lines: the bytes that it has taken and not passed yet.
use Rattle.std.specs.Prelude.{ℕ, ◌+◌, ◌<◌, ◌≤◌, ◌≡◌, ◌==◌, nat_lt, if◌then◌else◌, true, List, [], ◌++◌, None, Some}
use Rattle.std.specs.Prelude.{length}
use Rattle.ti_lines.specs.Reader.{AtEnd, Gave, Rose, piece_limit}
use Rattle.ti_lines.specs.Text.{line_end, is_long}
use Rattle.ti_lines.specs.declared.lines.Next.{Next}
use Rattle.ti_lines.specs.declared.lines.Next.TheVariants.{Line, End, Unended, Long}
use Rattle.ti_lines.specs.declared.lines.Halt.{Halt}
use Rattle.ti_lines.specs.declared.lines.Halt.TheVariants.{ReadFailed, NoMemory}

pub record Reading : Type 0 where
  -- taken, and not passed yet
  pub unread : List ℕ
  -- how many more bytes may be passed
  pub budget : ℕ

-- Either nothing more was taken, or the last call returned a piece of these bytes, before which no line was complete.
pub data Refills (unread bytes : List ℕ) : Type 0 where
  NotAtAll : bytes ≡ [] → Refills unread bytes
  InPieces : (before piece : List ℕ) → bytes ≡ before ++ piece → length piece ≤ piece_limit
      → line_end (unread ++ before) ≡ None → Refills unread bytes

-- more bytes were taken, and none passed
pub record Takes {R : Type 0} (left : R → List ℕ → Type 0) (failures : R → ℕ) (old : Reading) (reader : R)
    (new : Reading) (after : R) : Type 0 where
  pub bytes : List ℕ
  pub gave : Gave left failures reader after bytes
  pub unread : new.unread ≡ old.unread ++ bytes
  pub budget : new.budget ≡ old.budget
  pub bound : length new.unread ≤ new.budget + 1
  pub refills : Refills old.unread bytes

-- each answer about what comes next is true
abbrev pub IsNext : {R : Type 0} → (R → List ℕ → Type 0) → Reading → R → Next → Type 0
IsNext left r reader (Line n) = (line_end r.unread ≡ Some n) × (n < r.budget)
IsNext left r reader End = (r.unread ≡ []) × AtEnd left reader
IsNext left r reader Unended = (0 < length r.unread) × (line_end r.unread ≡ None) × AtEnd left reader
IsNext left r reader Long = is_long r.budget r.unread ≡ true

abbrev pub HaltsBy : ℕ → ℕ → Halt → Type 0
HaltsBy old new ReadFailed = Rose old new
HaltsBy old new NoMemory = Unit {0}

-- a line whose LF is at the place `at`, if that is within the budget; else it is too long
abbrev pub next_line : ℕ → ℕ → Next
next_line at budget = if nat_lt at budget then Line at else Long

-- the text ends after `count` bytes without LF
abbrev pub next_end : ℕ → Next
next_end count = if count == 0 then End else Unended
