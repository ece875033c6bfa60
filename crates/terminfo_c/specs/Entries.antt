-- The entry of a compiled file, and the handle that is opened with it.
use Rattle.std.specs.Prelude.{ℤ, pos, ℕ, ◌≡◌, ◌⊎◌, List, [], ◌∷◌, Option, Some, Ok, Err}
use Rattle.ti_caps.specs.Entry.{Content, bare_entry}
use Rattle.ti_compiled.specs.Contents.{FailsBy, fit_of, read_of}
use Rattle.ti_compiled.specs.declared.types.PackFault.{PackFault}
use Rattle.ti_parm.specs.Value.{zeros}
use Rattle.terminfo_c.specs.Codes.{file_code}
use Rattle.terminfo_c.specs.declared.held.Held.{Held}

-- the entry of a compiled file
abbrev pub Gives : List ℕ → Content → Type 0
Gives file entry = (packed : Content) × (read_of file ≡ Ok packed) × (fit_of packed ≡ Ok entry)

-- the file's first fault, or that of its contents, or memory ran out
abbrev pub Lacks : List ℕ → PackFault → Type 0
Lacks file fault =
    (read_of file ≡ Err fault) ⊎ ((packed : Content) × (read_of file ≡ Ok packed) × FailsBy fault (fit_of packed))

-- nothing was expanded yet: all static variables are 0
pub record IsFresh (content : Content) (h : Held) : Type 0 where
  pub entry : h.entry ≡ content
  pub statics : h.statics ≡ zeros
  pub output : h.output.items ≡ []

-- the entry of the file, of which nothing was expanded
abbrev pub IsOpened : List ℕ → Held → Type 0
IsOpened file h = (entry : Content) × Gives file entry × IsFresh entry h

-- the handle is open for the file's entry, or the number is that of a fault and the handle is as it was
abbrev pub Opens : List ℕ → Option Held → ℤ → Option Held → Type 0
Opens file old code new =
    ((h : Held) × IsOpened file h × (new ≡ Some h) × (code ≡ pos 0))
    ⊎ ((fault : PackFault) × Lacks file fault × (new ≡ old) × (code ≡ file_code fault))

-- "unknown"
abbrev pub unknown : List ℕ
unknown = 117 ∷ 110 ∷ 107 ∷ 110 ∷ 111 ∷ 119 ∷ 110 ∷ []

-- the handle is open for an entry without capabilities, or there was no memory and the handle is as it was
abbrev pub OpensBare : Option Held → ℤ → Option Held → Type 0
OpensBare old code new =
    ((h : Held) × IsFresh (bare_entry unknown) h × (new ≡ Some h) × (code ≡ pos 0))
    ⊎ ((new ≡ old) × (code ≡ pos 12))
