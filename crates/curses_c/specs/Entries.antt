-- The entry that a program's bytes give, a certificate of it, and the strings that the certificate shows.
use Rattle.std.specs.Prelude.{ℕ, ◌≡◌, ◌≢◌, ◌⊎◌, All, List, [], ◌∷◌, Ok, Err}
use Rattle.vt_term.specs.Size.{IsSize}
use Rattle.ti_caps.specs.Entry.{Content, string_at}
use Rattle.ti_cert.specs.Table.{CheckedTable, table_of}
use Rattle.ti_checker.specs.Certificate.{IsCertificateOf}
use Rattle.ti_checker.specs.No.{IsNo}
use Rattle.ti_checker.specs.declared.causes.Cause.TheVariants as causes
use Rattle.ti_checker.specs.declared.causes.No.{No}
use Rattle.ti_cert.specs.Disagreements.{IsAgreeRefused}
use Rattle.ti_cert.specs.Texts.{IsCertRefused}
use Rattle.ti_cert.specs.declared.faults.AgreeFault.TheVariants as agrees
use Rattle.ti_cert.specs.declared.faults.CertFaultKind.TheVariants as certs
use Rattle.ti_cert.specs.declared.faults.VerifyFault.{VerifyFault}
use Rattle.ti_cert.specs.declared.faults.VerifyFault.TheVariants.{Cert, Agree}
use Rattle.ti_compiled.specs.Contents as compiled
use Rattle.ti_compiled.specs.Contents.{fit_of, read_of}
use Rattle.ti_compiled.specs.declared.types.PackFault.{PackFault}
use Rattle.ti_compiled.specs.declared.types.PackFault.TheVariants as packs
use Rattle.ti_conforms.specs.Conforms.{Conforms}
use Rattle.ti_conforms.specs.Entries.{EntryAgrees, acsc}
use Rattle.ti_resolve.specs.Resolved.{IsResolved}
use Rattle.ti_resolve.specs.Walk as walk
use Rattle.ti_resolve.specs.Walk.{walk_of}
use Rattle.ti_resolve.specs.declared.faults.ResolveFault.{ResolveFault}
use Rattle.ti_resolve.specs.declared.faults.ResolveFault.TheVariants as walks
use Rattle.ti_source.specs.Source as source
use Rattle.ti_source.specs.Source.{source_of}
use Rattle.ti_source.specs.declared.types.FaultKind.TheVariants as sources
use Rattle.ti_source.specs.declared.types.SourceFault.{SourceFault}
use Rattle.ti_source.specs.declared.types.RawEntry.{RawEntry}
use Rattle.ti_without.specs.Without.{IsEnd, IsFound, IsNeeded, IsWhole}
use Rattle.ti_without.specs.declared.without.Without.{Without}
use Rattle.curses_c.specs.declared.codes.Failure.{Failure}
use Rattle.curses_c.specs.declared.codes.Failure.TheVariants.{NoMemory, BadSize, BadEntry, BadCertificate}
use Rattle.curses_c.specs.declared.codes.Failure.TheVariants.{NoCertificate}

-- the entry of a compiled file
abbrev pub GivesPacked : List ℕ → Content → Type 0
GivesPacked bytes entry = (packed : Content) × (read_of bytes ≡ Ok packed) × (fit_of packed ≡ Ok entry)

-- the entry of a name in a source text
abbrev pub GivesNamed : List ℕ → List ℕ → Content → Type 0
GivesNamed text name entry = (raws : List RawEntry) × (source_of text ≡ Ok raws) × IsResolved raws name entry

-- without a name the bytes are a compiled file
abbrev pub Gives : List ℕ → List ℕ → Content → Type 0
Gives bytes [] entry = GivesPacked bytes entry
Gives bytes (b ∷ name) entry = GivesNamed bytes (b ∷ name) entry

-- the failure for a fault: `NoMemory` if the fault is `memory`, its kind's word for that, else `other`
abbrev pub IsOf : {A : Type 0} → A → Failure → A → Failure → Type 0
IsOf memory other fault e = ((fault ≡ memory) × (e ≡ NoMemory)) ⊎ ((fault ≢ memory) × (e ≡ other))

-- the bytes are no compiled file, or one whose values fit no entry
abbrev pub LacksPacked : List ℕ → Failure → Type 0
LacksPacked bytes e = ((fault : PackFault) × (read_of bytes ≡ Err fault) × (e ≡ BadEntry))
    ⊎ ((packed : Content) × (read_of bytes ≡ Ok packed)
    × ((fault : PackFault) × compiled.FailsBy fault (fit_of packed) × IsOf packs.NoMemory BadEntry fault e))

-- the text has a fault, or doesn't yield the entry of the name
abbrev pub LacksNamed : List ℕ → List ℕ → Failure → Type 0
LacksNamed text name e =
    ((fault : SourceFault) × source.FailsBy fault.kind fault (source_of text)
    × IsOf sources.NoMemory BadEntry fault.kind e)
    ⊎ ((raws : List RawEntry) × (source_of text ≡ Ok raws)
    × ((fault : ResolveFault) × walk.FailsBy fault (walk_of raws name) × IsOf walks.NoMemory BadEntry fault e))

abbrev pub LacksEntry : List ℕ → List ℕ → Failure → Type 0
LacksEntry bytes [] e = LacksPacked bytes e
LacksEntry bytes (b ∷ name) e = LacksNamed bytes (b ∷ name) e

-- the size comes first, then the entry
abbrev pub Lacks : List ℕ → List ℕ → ℕ → ℕ → Failure → Type 0
Lacks bytes name rows cols e = ((e ≡ BadSize) × (IsSize rows cols → ⊥)) ⊎ (IsSize rows cols × LacksEntry bytes name e)

-- the entry conforms, and these are exactly the strings that it sends
pub record IsShown (entry : Content) (height width : ℕ) (checked : CheckedTable) : Type 0 where
  pub conforms : Conforms entry height width
  pub rows : checked.known.strings.rows ≡ height
  pub cols : checked.known.strings.cols ≡ width
  pub sends : EntryAgrees height width entry (table_of checked).line_of
  pub partners : checked.acsc ≡ string_at entry acsc

-- the failure for a refusal to verify
abbrev pub IsOfVerify : VerifyFault → Failure → Type 0
IsOfVerify (Cert fault) e = IsOf certs.NoMemory BadCertificate fault.kind e
IsOfVerify (Agree fault) e = IsOf agrees.NoMemory BadCertificate fault e

-- the certificate has this fault, or it isn't the entry's, as the fault says
pub record IsUnshown (entry : Content) (rows cols : ℕ) (certificate : List ℕ) (e : Failure) : Type 0 where
  pub fault : VerifyFault
  pub of_text : IsCertRefused rows cols certificate ⊥ fault
  pub of_entry : IsAgreeRefused rows cols certificate entry fault
  pub failure : IsOfVerify fault e

-- the text is the certificate of the entry, which conforms
pub record IsCertified (entry : Content) (rows cols : ℕ) (text : List ℕ) : Type 0 where
  pub conforms : Conforms entry rows cols
  pub certificate : IsCertificateOf entry rows cols text

-- there is a no that is true of the entry, the first that applies
abbrev pub IsUncertified : Content → ℕ → ℕ → Failure → Type 0
IsUncertified entry rows cols e =
    (refusal : No) × IsNo entry rows cols refusal × IsOf causes.NoMemory NoCertificate refusal.cause e

-- the checked strings of the entry without those left out: each of these went in a round, and none can come back
pub record IsLess (entry : Content) (rows cols : ℕ) (less : Without) : Type 0 where
  pub found : IsFound entry rows cols less
  pub needed : All (IsNeeded entry rows cols less.left_out.items) less.left_out.items
  pub whole : IsWhole entry rows cols less.left_out.items

-- not all strings at fault can be left out: the no is that of the entry without what was left out by then
abbrev pub IsUnleft : Content → ℕ → ℕ → Failure → Type 0
IsUnleft entry rows cols e =
    (refusal : No) × IsEnd entry rows cols refusal × IsOf causes.NoMemory NoCertificate refusal.cause e
