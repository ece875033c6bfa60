-- Sessions on entries: the capabilities that one goes without, and the numbers of its bound.
use Rattle.std.specs.Prelude.{ℕ, ◌≡◌, Bool, true, false, All, IsPermutation, IsSorted, List, [], Option, Some, None}
use Rattle.std.specs.Prelude.{length, map}
use Rattle.std.specs.Cmp.Lexicographic.{slice_cmp}
use Rattle.std.specs.Ordering.{nat_cmp}
use Rattle.ti_caps.specs.Entry.{Content}
use Rattle.ti_caps.specs.Table.{name_at}
use Rattle.ti_cert.specs.Table.{CheckedTable, certified, table_of}
use Rattle.ti_conforms.specs.Certified.{cell_limit}
use Rattle.ti_conforms.specs.Table.{resync}
use Rattle.ti_faults.specs.AllFaults.{HasCertificate}
use Rattle.ti_without.specs.Without.{IsCertified, IsClosed, IsFound, IsNeeded, IsWhole}
use Rattle.ti_openings.specs.declared.bounds.Bound.{Bound}
use Rattle.ti_without.specs.declared.left_out.LeftOut.{LeftOut}
use Rattle.ti_without.specs.declared.without.Without.{Without}
use denote.Ref.{Bor}

-- texts, wherever each is kept
abbrev pub texts_of : List (Bor (List ℕ)) → List (List ℕ)
texts_of told = map (λ text. text.now) told

-- the names of the capabilities that are left out, in the order in which they were
abbrev pub names_of : List LeftOut → List (List ℕ)
names_of left = map (λ l. name_at l.cap) left

-- these names, in the order of the alphabet
pub record AreNames (left : List LeftOut) (names : List (List ℕ)) : Type 0 where
  pub all : IsPermutation (names_of left) names
  pub in_order : IsSorted (slice_cmp nat_cmp) names

-- A session on the entry goes without the capabilities of these names: none where the entry has a certificate; else
-- what `certify_without` leaves out of it.
pub data Opens (entry : Content) (rows cols : ℕ) (names : List (List ℕ)) : Type 0 where
  Whole : HasCertificate entry rows cols → names ≡ [] → Opens entry rows cols names
  Less : (without : Without) → IsFound entry rows cols without
      → All (IsNeeded entry rows cols without.left_out.items) without.left_out.items
      → IsWhole entry rows cols without.left_out.items → AreNames without.left_out.items names
      → Opens entry rows cols names

-- the names, if there is a session
abbrev pub OpensIf : Content → ℕ → ℕ → Option (List (List ℕ)) → Type 0
OpensIf entry rows cols (Some names) = Opens entry rows cols names
OpensIf entry rows cols None = IsClosed entry rows cols

-- there is a session on the entry: it has a certificate, or rounds lead to one of the entry without some strings
pub data CanOpen (entry : Content) (rows cols : ℕ) : Type 0 where
  HasOne : HasCertificate entry rows cols → CanOpen entry rows cols
  FindsOne : (without : Without) → IsFound entry rows cols without → CanOpen entry rows cols

abbrev pub OpensAs : Bool → Content → ℕ → ℕ → Type 0
OpensAs true entry rows cols = CanOpen entry rows cols
OpensAs false entry rows cols = IsClosed entry rows cols

-- the numbers of the bound of a session on the whole entry: the most bytes of a cell, and the length of the way out of
-- an unknown state
pub record IsBound (entry : Content) (rows cols : ℕ) (bound : Bound) : Type 0 where
  pub checked : CheckedTable
  pub has : IsCertified entry rows cols checked
  pub limit : bound.cell_limit ≡ cell_limit (certified checked)
  pub way_out : bound.way_out ≡ length (resync (table_of checked))
