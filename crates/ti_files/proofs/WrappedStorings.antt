-- Several files that are stored at once.
use Rattle.std.proofs.Common.{◌≡◌, ◌∙◌, ◌<◌, ◌+◌, ℕ, List, [], ◌∷◌, ◌++◌, Option, Some, None, Result, Ok, Err, ap, get_or, length, refl, sym, subst, take}
use Rattle.std.specs.Prelude.{OnOk, option_map, string_bytes}
use Rattle.std.proofs.lemmas.List.{take_more}
use Rattle.ti_files.specs.Contents.{AreBytesOf, AreStored, Held, StoredAll}
use Rattle.ti_files.specs.declared.files.NewFile.{NewFile}
use Rattle.ti_files.specs.Wrapped.{AreReadSo, held_beside, joined_held, read_as}

-- ---- files that are read as just their bytes

pub read_so_none : (files : List NewFile) → AreReadSo (take 0 files)
unfolding AreReadSo
read_so_none files = tt

read_so_end : (files : List NewFile) (file : NewFile) → AreReadSo files → read_as file.bytes.items ≡ file.bytes.items → AreReadSo (files ++ file ∷ [])
unfolding AreReadSo
read_so_end [] file h so = (so, tt)
read_so_end (first ∷ files) file h so = (h.0, read_so_end files file h.1 so)

pub read_so_next : (files : List NewFile) (i : ℕ) (file : NewFile) → i < length files → file ≡ get_or files i file → AreReadSo (take i files) → read_as file.bytes.items ≡ file.bytes.items → AreReadSo (take (i + 1) files)
read_so_next files i file lt here h so =
    subst (λ (l : List NewFile). AreReadSo l) (sym (take_more files i file lt))
    (subst (λ (f : NewFile). AreReadSo (take i files ++ f ∷ [])) here (read_so_end (take i files) file h so))

-- ---- a path holds what was stored there, however it is read

bytes_joined : (known : Option (List ℕ)) (bytes : List ℕ) → AreBytesOf known bytes → read_as bytes ≡ bytes → AreBytesOf (option_map read_as known) bytes
bytes_joined None bytes h so = tt
bytes_joined (Some held) bytes h so = sym so ∙ ap read_as h

are_joined : (held : Held) (files : List NewFile) → AreStored held files → AreReadSo files → AreStored (joined_held held) files
unfolding AreStored AreReadSo
are_joined held [] h so = tt
are_joined held (file ∷ files) h so = (bytes_joined (held.at (string_bytes file.path)) file.bytes.items h.0 so.0, are_joined held files h.1 so.1)

stored_so : (before after : Held) (files : List NewFile) → StoredAll before after files → AreReadSo files → StoredAll (joined_held before) (joined_held after) files
stored_so before after files h so = record {
  there = are_joined after files h.there so;
  others = λ other none. ap (λ (known : Option (List ℕ)). option_map read_as known) (h.others other none);
  with_kept = h.with_kept;
}

pub stored_joined : {T E : Type 0} (result : Result T E) (before after : Held) (files : List NewFile) → OnOk result (StoredAll before after files) → AreReadSo files → OnOk result (StoredAll (joined_held before) (joined_held after) files)
stored_joined (Ok done) before after files h so = stored_so before after files h so
stored_joined (Err fault) before after files h so = tt

-- ---- the paths of --with don't matter

are_beside : (paths : List (List ℕ)) (held : Held) (files : List NewFile) → AreStored held files → AreStored (held_beside paths held) files
unfolding AreStored
are_beside paths held [] h = tt
are_beside paths held (file ∷ files) h = (h.0, are_beside paths held files h.1)

pub stored_beside : {T E : Type 0} (result : Result T E) (paths : List (List ℕ)) (before after : Held) (files : List NewFile) → OnOk result (StoredAll before after files) → OnOk result (StoredAll (held_beside paths before) (held_beside paths after) files)
stored_beside (Ok done) paths before after files h = record { there = are_beside paths after files h.there; others = h.others; with_kept = refl }
stored_beside (Err fault) paths before after files h = tt
