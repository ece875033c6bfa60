-- Files that are stored where others were read before.
use Rattle.std.proofs.Common.{◌≡◌, ℕ, List, [], ◌∷◌, Option, Some, None, Result, Ok, Err, Bool, true, ap, refl, subst, sym}
use Rattle.std.proofs.lemmas.Bool.{and_parts}
use Rattle.std.specs.Prelude.{OnOk, string_bytes}
use Rattle.ti_files.specs.Contents.{AreBytesOf, AreStored, Held, StoredAll}
use Rattle.ti_files.specs.declared.files.NewFile.{NewFile}
use Rattle.ticurses.specs.Originals.{are_unread, bytes_read, held_before, is_unread, or_held}
use Rattle.ticurses.specs.declared.originals.Original.{Original}

-- where nothing was read, what is held stays
bytes_unread : (read held : Option (List ℕ)) (bytes : List ℕ) → is_unread read ≡ true → AreBytesOf held bytes → AreBytesOf (or_held read held) bytes
bytes_unread None held bytes u h = h
bytes_unread (Some read) held bytes u h = cc

stored_unread : (originals : List Original) (after : Held) (files : List NewFile) → are_unread originals files ≡ true → AreStored after files → AreStored (held_before originals after) files
unfolding AreStored
stored_unread originals after [] u h = tt
stored_unread originals after (file ∷ files) u h =
    let parts = and_parts (is_unread (bytes_read originals (string_bytes file.path))) (are_unread originals files) u in
    (bytes_unread (bytes_read originals (string_bytes file.path)) (after.at (string_bytes file.path)) file.bytes.items parts.0 h.0, stored_unread originals after files parts.1 h.1)

pub stored_before : {T E : Type 0} (result : Result T E) (originals : List Original) (before after : Held) (files : List NewFile) → are_unread originals files ≡ true
    → OnOk result (StoredAll before after files) → OnOk result (StoredAll (held_before originals before) (held_before originals after) files)
stored_before (Ok done) originals before after files u h = record {
  there = stored_unread originals after files u h.there;
  others = λ other none. ap (or_held (bytes_read originals other)) (h.others other none);
  with_kept = refl;
}
stored_before (Err fault) originals before after files u h = tt
