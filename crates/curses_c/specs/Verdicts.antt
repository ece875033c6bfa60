-- The answers of the calls on certificates.
use Rattle.std.specs.Prelude.{ℕ, ℤ, pos, nat_lt, ◌≡◌, ◌≢◌, ◌⊎◌, Bool, true, false, List, [], ◌++◌, length, drop, Result}
use Rattle.std.specs.Prelude.{Err, Ok}
use Rattle.ti_caps.specs.Entry.{Content}
use Rattle.ti_cert.specs.Table.{CheckedTable}
use Rattle.ti_cert.specs.Texts.{IsTableOf}
use Rattle.ti_checker.specs.No.{IsNo}
use Rattle.ti_checker.specs.declared.causes.Cause.TheVariants as causes
use Rattle.ti_checker.specs.declared.causes.No.{No}
use Rattle.ti_verdicts.specs.Refusals.{no_text}
use Rattle.curses_c.specs.Codes.{failure_code}
use Rattle.curses_c.specs.Entries.{Gives, IsCertified, IsShown, IsUncertified, IsUnshown, Lacks}
use Rattle.curses_c.specs.declared.codes.Failure.{Failure}
use Rattle.curses_c.specs.declared.codes.Failure.TheVariants.{NoMemory}

-- the text is the certificate of the entry that the bytes give
pub record Certifies (bytes name : List ℕ) (rows cols : ℕ) (text : List ℕ) : Type 0 where
  pub entry : Content
  pub gives : Gives bytes name entry
  pub certified : IsCertified entry rows cols text

-- the size or the entry is lacking, or the entry is refused
pub record DeniesEntry (bytes name : List ℕ) (rows cols : ℕ) (e : Failure) : Type 0 where
  pub entry : Content
  pub gives : Gives bytes name entry
  pub refused : IsUncertified entry rows cols e

abbrev pub Denies : List ℕ → List ℕ → ℕ → ℕ → Failure → Type 0
Denies bytes name rows cols e = Lacks bytes name rows cols e ⊎ DeniesEntry bytes name rows cols e

-- a refusal that is true of the entry, other than for memory, and its words
pub record IsReason (entry : Content) (rows cols : ℕ) (words : List ℕ) : Type 0 where
  pub refusal : No
  pub is : IsNo entry rows cols refusal
  pub claims : refusal.cause ≢ causes.NoMemory
  pub says : words ≡ no_text refusal

-- there are no words exactly if the entry has a certificate
pub record Reasons (bytes name : List ℕ) (rows cols : ℕ) (words : List ℕ) : Type 0 where
  pub entry : Content
  pub gives : Gives bytes name entry
  pub reason : ((words ≡ []) × ((text : List ℕ) × IsCertified entry rows cols text)) ⊎ IsReason entry rows cols words

-- the size or the entry is lacking, or memory ran out
abbrev pub LacksReason : List ℕ → List ℕ → ℕ → ℕ → Failure → Type 0
LacksReason bytes name rows cols e = Lacks bytes name rows cols e ⊎ (e ≡ NoMemory)

-- nothing is written if the text is too long; else the rest of the room stays
abbrev pub FillsBy : Bool → List ℕ → List ℕ → List ℕ → ℤ → Type 0
FillsBy true text old new code = (new ≡ old) × (code ≡ pos 25)
FillsBy false text old new code = (new ≡ text ++ drop (length text) old) × (code ≡ pos 0)

abbrev pub Fills : List ℕ → List ℕ → List ℕ → ℤ → Type 0
Fills text old new code = FillsBy (nat_lt (length old) (length text)) text old new code

abbrev pub Delivers : {V : Type 0} → (V → List ℕ) → Result V Failure → List ℕ → List ℕ → ℕ → ℤ → Type 0
Delivers items (Ok text) old new needed code = (needed ≡ length (items text)) × Fills (items text) old new code
Delivers items (Err e) old new needed code = (needed ≡ 0) × (new ≡ old) × (code ≡ failure_code e)

-- a text that satisfies the first relation is delivered, or there is a failure that satisfies the second
abbrev pub Answers : (List ℕ → Type 0) → (Failure → Type 0) → List ℕ → List ℕ → ℕ → ℤ → Type 0
Answers Some Fails old new needed code =
    ((text : List ℕ) × Some text × (needed ≡ length text) × Fills text old new code)
    ⊎ ((e : Failure) × Fails e × (needed ≡ 0) × (new ≡ old) × (code ≡ failure_code e))

-- the entry conforms, and the certificate's strings are exactly those that it sends
pub record IsVerified (bytes name : List ℕ) (rows cols : ℕ) (certificate : List ℕ) : Type 0 where
  pub entry : Content
  pub gives : Gives bytes name entry
  pub checked : CheckedTable
  pub shown : IsShown entry rows cols checked
  pub accepted : IsTableOf rows cols certificate checked

-- the size or the entry is lacking, or the certificate isn't one of the entry
pub record IsUnverifiedEntry (bytes name : List ℕ) (rows cols : ℕ) (certificate : List ℕ) (e : Failure) : Type 0 where
  pub entry : Content
  pub gives : Gives bytes name entry
  pub unshown : IsUnshown entry rows cols certificate e

abbrev pub IsUnverified : List ℕ → List ℕ → ℕ → ℕ → List ℕ → Failure → Type 0
IsUnverified bytes name rows cols certificate e =
    Lacks bytes name rows cols e ⊎ IsUnverifiedEntry bytes name rows cols certificate e

abbrev pub Verifies : List ℕ → List ℕ → ℕ → ℕ → List ℕ → ℤ → Type 0
Verifies bytes name rows cols certificate code = (IsVerified bytes name rows cols certificate × (code ≡ pos 0))
    ⊎ ((e : Failure) × IsUnverified bytes name rows cols certificate e × (code ≡ failure_code e))
