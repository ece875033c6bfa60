-- The answers of the calls on sessions, and their effects on a handle.
use Rattle.std.specs.Prelude.{ℕ, ℤ, pos, ◌≡◌, ◌⊎◌, List, [], ◌∷◌, ◌++◌, Option, Some, None, Result, Ok, Err, take}
use Rattle.std.specs.Prelude.{drop, length}
use Rattle.ti_caps.specs.Entry.{Content}
use Rattle.ti_cert.specs.Table.{CheckedTable, certified}
use Rattle.ti_cert.specs.Texts.{IsTableOf}
use Rattle.ti_checker.specs.Owned.{IsOwnTable}
use Rattle.cur_play.specs.Log.{most}
use Rattle.curses_c.specs.Codes.{failure_code}
use Rattle.ti_without.specs.declared.without.Without.{Without}
use Rattle.curses_c.specs.Entries.{Gives, IsLess, IsShown, IsUncertified, IsUnleft, IsUnshown, Lacks}
use Rattle.curses_c.specs.declared.codes.Failure.{Failure}
use Rattle.curses_c.specs.declared.codes.Failure.TheVariants.{NoMemory}
use Rattle.curses_c.specs.Held.{Hands, IsBegun}
use Rattle.curses_c.specs.LeftOut.{left_text}
use Rattle.curses_c.specs.Verdicts.{Fills}
use Rattle.curses_c.specs.declared.held.Held.{Held}

-- a call on an open handle does this; a closed one stays closed, and the answer is this one
abbrev pub Answers : {A : Type 0} → A → (Held → A → Held → Type 0) → Option Held → A → Option Held → Type 0
Answers none R (Some h) answer (Some k) = R h answer k
Answers none R (Some h) answer None = ⊥
Answers none R None answer (Some k) = ⊥
Answers none R None answer None = answer ≡ none

-- a number that is read of an open handle, which stays as it is; 0 for a closed one
abbrev pub Counts : (Held → ℕ) → Option Held → ℕ → Option Held → Type 0
Counts count old n new = Answers 0 (λ h m k. (k ≡ h) × (m ≡ count h)) old n new

-- the most bytes that a refresh by `doupdate` sends if it comes next
abbrev pub most_of : Held → ℕ
most_of h =
    most (certified h.session.painter.checked) h.session.painter.session.status h.session.screen.clearok
    h.session.painter.shown h.session.screen

-- the answer of a closed handle
abbrev pub closed : ℤ
closed = pos 20

-- the strings of the entry's own certificate if none was given; else those of the given one
abbrev pub IsTableFor : Content → ℕ → ℕ → List ℕ → CheckedTable → Type 0
IsTableFor entry rows cols [] checked = IsOwnTable entry rows cols checked
IsTableFor entry rows cols (b ∷ certificate) checked = IsTableOf rows cols (b ∷ certificate) checked

-- a whole entry's session that has sent nothing
pub record IsOpened (bytes name : List ℕ) (rows cols : ℕ) (certificate : List ℕ) (h : Held) : Type 0 where
  pub entry : Content
  pub gives : Gives bytes name entry
  pub shown : IsShown entry rows cols h.session.painter.checked
  pub accepted : IsTableFor entry rows cols certificate h.session.painter.checked
  pub begun : IsBegun h
  pub whole : h.left_out.items ≡ []

-- the entry has no certificate, if none was given; else the given one isn't its own
abbrev pub LacksChecked : Content → ℕ → ℕ → List ℕ → Failure → Type 0
LacksChecked entry rows cols [] e = IsUncertified entry rows cols e
LacksChecked entry rows cols (b ∷ certificate) e = IsUnshown entry rows cols (b ∷ certificate) e

-- the entry is there, but has no certificate, or memory ran out
pub record IsUnopenedEntry (bytes name : List ℕ) (rows cols : ℕ) (certificate : List ℕ) (e : Failure) : Type 0 where
  pub entry : Content
  pub gives : Gives bytes name entry
  pub unopened : LacksChecked entry rows cols certificate e ⊎ (e ≡ NoMemory)

abbrev pub IsUnopened : List ℕ → List ℕ → ℕ → ℕ → List ℕ → Failure → Type 0
IsUnopened bytes name rows cols certificate e =
    Lacks bytes name rows cols e ⊎ IsUnopenedEntry bytes name rows cols certificate e

-- a session that satisfies the first relation is held, or there is a failure that satisfies the second, and the handle
-- is as it was
abbrev pub Takes : (Held → Type 0) → (Failure → Type 0) → Option Held → ℤ → Option Held → Type 0
Takes Opened Unopened old code new =
    ((h : Held) × Opened h × (new ≡ Some h) × (code ≡ pos 0))
    ⊎ ((e : Failure) × Unopened e × (new ≡ old) × (code ≡ failure_code e))

-- what was opened is held; if that failed, the handle is as it was
abbrev pub Holds : {B : Type 0} → (B → Held) → Result B Failure → Option Held → ℤ → Option Held → Type 0
Holds content (Ok b) old code new = (new ≡ Some (content b)) × (code ≡ pos 0)
Holds content (Err e) old code new = (new ≡ old) × (code ≡ failure_code e)

-- the handle is open for the entry, or there is a failure
abbrev pub Opens : List ℕ → List ℕ → ℕ → ℕ → List ℕ → Option Held → ℤ → Option Held → Type 0
Opens bytes name rows cols certificate =
    Takes (IsOpened bytes name rows cols certificate) (IsUnopened bytes name rows cols certificate)

-- a session of an entry without the strings that are at fault: it has sent nothing, and tells which these are
pub record IsOpenedLess (bytes name : List ℕ) (rows cols : ℕ) (h : Held) : Type 0 where
  pub entry : Content
  pub gives : Gives bytes name entry
  pub less : Without
  pub is_less : IsLess entry rows cols less
  pub strings : h.session.painter.checked ≡ less.checked
  pub told : h.left_out.items ≡ left_text less.left_out.items
  pub begun : IsBegun h

-- the entry is there, but not all of its strings at fault can be left out, or memory ran out
pub record IsUnopenedLess (bytes name : List ℕ) (rows cols : ℕ) (e : Failure) : Type 0 where
  pub entry : Content
  pub gives : Gives bytes name entry
  pub unleft : IsUnleft entry rows cols e ⊎ (e ≡ NoMemory)

abbrev pub LacksLess : List ℕ → List ℕ → ℕ → ℕ → Failure → Type 0
LacksLess bytes name rows cols e = Lacks bytes name rows cols e ⊎ IsUnopenedLess bytes name rows cols e

-- the handle is open for the entry without the strings that are at fault, or there is a failure
abbrev pub OpensLess : List ℕ → List ℕ → ℕ → ℕ → Option Held → ℤ → Option Held → Type 0
OpensLess bytes name rows cols = Takes (IsOpenedLess bytes name rows cols) (LacksLess bytes name rows cols)

-- an open handle's text is delivered, and the handle stays as it is
abbrev pub TellsHeld : (Held → List ℕ) → Option Held → Option Held → List ℕ → List ℕ → ℕ → ℤ → Type 0
TellsHeld text (Some h) k old new needed code =
    (k ≡ Some h) × (needed ≡ length (text h)) × Fills (text h) old new code
TellsHeld text None k old new needed code = (k ≡ None) × (needed ≡ 0) × (new ≡ old) × (code ≡ closed)

-- the first bytes that wait are moved to the start of the caller's room, and the rest of the room stays; all of it
-- stays for a closed handle
abbrev pub Fetches : Option Held → List ℕ → ℕ × List ℕ → Option Held → Type 0
Fetches old room fetched new =
    Answers (0, room) (λ h answer k. Hands h room answer.0 k
    × (answer.1 ≡ take answer.0 h.outbox.waiting ++ drop answer.0 room)) old fetched new
