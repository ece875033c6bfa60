-- An entry with all that it uses: each use is replaced by the fields of the entry that it names, and of several
-- fields about one capability the first decides (terminfo(5), "Similar Terminals").
use Rattle.std.specs.Prelude.{ℕ, ◌≡◌, ◌<◌, List, [], ◌∷◌, ◌++◌, Some}
use Rattle.ti_caps.specs.Entry.{Content, IsEntry, value_at}
use Rattle.ti_source.specs.declared.types.Field.{Field}
use Rattle.ti_source.specs.declared.types.RawEntry.{RawEntry}
use Rattle.ti_resolve.specs.Uses.{place_named, fields_at, names_at, uses_in, own_in, first_about, value_given}

-- these uses, one after another, expand to the entries at these places: for each, the used entry, and then the
-- expansion of its own uses
pub data Expands (raws : List RawEntry) : List (List ℕ) → List ℕ → Type 0 where
  no_use : Expands raws [] []
  one_use : (name : List ℕ) (names : List (List ℕ)) (place : ℕ) (inner rest : List ℕ)
      → place_named raws name ≡ Some place → Expands raws (uses_in (fields_at raws place)) inner
      → Expands raws names rest → Expands raws (name ∷ names) ((place ∷ inner) ++ rest)

-- the places of an entry and of all that it uses, in their order
pub record IsWhole (raws : List RawEntry) (place : ℕ) (places : List ℕ) : Type 0 where
  pub used : List ℕ
  pub expands : Expands raws (uses_in (fields_at raws place)) used
  pub whole : places ≡ place ∷ used

-- all fields of the entries at these places, without the uses
abbrev pub own_of_all : List RawEntry → List ℕ → List Field
own_of_all raws [] = []
own_of_all raws (place ∷ places) = own_in (fields_at raws place) ++ own_of_all raws places

-- the entry at a place, with all that it uses
pub record IsResolvedAt (raws : List RawEntry) (root : ℕ) (entry : Content) : Type 0 where
  pub places : List ℕ
  pub whole : IsWhole raws root places
  pub names : entry.names ≡ names_at raws root
  pub values : (place : ℕ) → place < 497
      → value_at entry place ≡ value_given (first_about place (own_of_all raws places))

-- the resolved entry with a name: the first that has the name
pub record IsResolved (raws : List RawEntry) (name : List ℕ) (entry : Content) : Type 0 where
  pub root : ℕ
  pub found : place_named raws name ≡ Some root
  pub there : IsResolvedAt raws root entry

-- uses expand to at most one list of entries
abbrev pub ExpandsOnce : Type 0
ExpandsOnce =
    (raws : List RawEntry) (names : List (List ℕ)) (one other : List ℕ) → Expands raws names one
    → Expands raws names other → one ≡ other

-- the resolved entry at a place is unique
abbrev pub ResolvedAtOnce : Type 0
ResolvedAtOnce =
    (raws : List RawEntry) (root : ℕ) (one other : Content) → IsEntry one → IsEntry other → IsResolvedAt raws root one
    → IsResolvedAt raws root other → one ≡ other

-- the resolved entry with a name is unique
abbrev pub ResolvedOnce : Type 0
ResolvedOnce =
    (raws : List RawEntry) (name : List ℕ) (one other : Content) → IsEntry one → IsEntry other
    → IsResolved raws name one → IsResolved raws name other → one ≡ other
