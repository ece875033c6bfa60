-- Files that are stored at once where only one can be.
use Rattle.std.proofs.Common.{◌≡◌, ◌≢◌, ◌≤◌, ◌<◌, ◌∙◌, ℕ, List, [], ◌∷◌, Result, Ok, Err, arith, get_or, length, refl, subst}
use Rattle.std.specs.Prelude.{OnOk, string_bytes}
use Rattle.ti_files.specs.Contents.{AreBytesOf, AreStored, Held, IsNoneOf, StoredAll}
use Rattle.ti_files.specs.declared.files.NewFile.{NewFile}

pub stored_none : (held : Held) (files : List NewFile) → length files < 1 → StoredAll held held files
unfolding AreStored
stored_none held [] l = record { there = tt; others = λ other none. refl; with_kept = refl }
stored_none held (file ∷ files) l = absurd (omega (arith, l))

stored_alone : (before after : Held) (file : NewFile) (path bytes : List ℕ) → path ≡ string_bytes file.path → bytes ≡ file.bytes.items → AreBytesOf (after.at path) bytes → ((other : List ℕ) → other ≢ path → after.at other ≡ before.at other) → after.with_paths ≡ before.with_paths → StoredAll before after (file ∷ [])
unfolding AreStored IsNoneOf
stored_alone before after file path bytes p b there others kept = record {
  there = (subst (λ (l : List ℕ). AreBytesOf (after.at l) file.bytes.items) p (subst (λ (l : List ℕ). AreBytesOf (after.at path) l) b there), tt);
  others = λ other none. others other (λ same. none.0 (same ∙ p));
  with_kept = kept;
}

stored_first : (before after : Held) (files : List NewFile) (file : NewFile) (path bytes : List ℕ) → 1 ≤ length files → length files < 2 → file ≡ get_or files 0 file → path ≡ string_bytes file.path → bytes ≡ file.bytes.items → AreBytesOf (after.at path) bytes → ((other : List ℕ) → other ≢ path → after.at other ≡ before.at other) → after.with_paths ≡ before.with_paths → StoredAll before after files
stored_first before after [] file path bytes some few here p b there others kept = absurd (omega (arith, some))
stored_first before after (only ∷ []) file path bytes some few here p b there others kept =
    subst (λ (f : NewFile). StoredAll before after (f ∷ [])) here (stored_alone before after file path bytes p b there others kept)
stored_first before after (only ∷ (second ∷ files)) file path bytes some few here p b there others kept = absurd (omega (arith, few))

pub stored_one : {T E : Type 0} (result : Result T E) (before after : Held) (files : List NewFile) (file : NewFile) (path bytes : List ℕ) → 1 ≤ length files → length files < 2 → file ≡ get_or files 0 file → path ≡ string_bytes file.path → bytes ≡ file.bytes.items → OnOk result (AreBytesOf (after.at path) bytes) → OnOk result ((other : List ℕ) → other ≢ path → after.at other ≡ before.at other) → OnOk result (after.with_paths ≡ before.with_paths) → OnOk result (StoredAll before after files)
stored_one (Ok done) before after files file path bytes some few here p b there others kept = stored_first before after files file path bytes some few here p b there others kept
stored_one (Err fault) before after files file path bytes some few here p b there others kept = tt
