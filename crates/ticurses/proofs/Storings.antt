-- Several files that are stored, of which nothing is known.
use Rattle.std.proofs.Common.{List, [], ◌∷◌, Result, Ok, Err, refl}
use Rattle.std.specs.Prelude.{OnOk}
use Rattle.ti_files.specs.Contents.{AreStored, StoredAll, nothing_held}
use Rattle.ti_files.specs.declared.files.NewFile.{NewFile}

are_stored : (files : List NewFile) → AreStored nothing_held files
unfolding AreStored
are_stored [] = tt
are_stored (file ∷ files) = (tt, are_stored files)

pub all_unknown : (files : List NewFile) → StoredAll nothing_held nothing_held files
all_unknown files = record { there = are_stored files; others = λ other none. refl; with_kept = refl }

pub stored_unknown : {T E : Type 0} (result : Result T E) (files : List NewFile) → OnOk result (StoredAll nothing_held nothing_held files)
stored_unknown (Ok done) files = all_unknown files
stored_unknown (Err fault) files = tt
