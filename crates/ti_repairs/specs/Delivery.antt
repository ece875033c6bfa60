-- The end of a reply of `--fix`: a text that is printed or stored, or several that are stored.
use Rattle.std.specs.Prelude.{ℕ, ◌≡◌, ◌≢◌, ◌⊎◌, ◌<◌, List, [], ◌∷◌, ◌++◌, Option, Some, None, filter, length}
use Rattle.std.specs.Prelude.{slice_index}
use Rattle.std.specs.Prelude.{string_bytes}
use Rattle.std.specs.List.{AllZip}
use Rattle.ti_files.specs.Contents.{Held, StoredAll}
use Rattle.ti_files.specs.declared.failure.Failure.{Failure}
use Rattle.ti_files.specs.declared.failure.Failure.TheVariants.{File, NoMemory}
use Rattle.ti_files.specs.declared.failure.Reply.{Reply}
use Rattle.ti_files.specs.declared.files.NewFile.{NewFile}
use Rattle.ti_fixes.specs.Files.{Sheet}
use Rattle.ti_repairs.specs.declared.delivery.Target.{Target}
use Rattle.ti_repairs.specs.declared.delivery.Target.TheVariants.{Text, Folder}
use Rattle.ti_sources.specs.declared.files.FurtherFile.{FurtherFile}
use Rattle.ti_verdicts.specs.Checks.{StoresText}
use denote.Ref.{Bor}

-- the end of a reply after texts were stored, or weren't
abbrev pub ends_as : Option Failure → Option Failure → Option Failure
ends_as ended None = ended
ends_as ended (Some fault) = Some fault

-- the text goes to the path, or else to standard output
abbrev pub HandsOver : List ℕ → Option Failure → Option (Bor (List ℕ)) → Held → Held → Reply → Type 0
HandsOver text ended None before after reply =
    (reply.text.items ≡ text) × (after ≡ before) × (reply.failure ≡ ended)
HandsOver text ended (Some path) before after reply =
    (stored : Option Failure) × StoresText text path.now before after stored × (reply.text.items ≡ [])
    × (reply.failure ≡ ends_as ended stored)

-- the bytes of the first file
abbrev pub own_bytes : List Sheet → List ℕ
own_bytes [] = []
own_bytes (own ∷ others) = own.bytes

-- ---- several files

-- the path has no slash
abbrev pub HasNoSlash : List ℕ → Type 0
HasNoSlash path = (i : ℕ) → i < length path → slice_index path i ≢ 47

-- the name of the file at a path: what is behind its last slash
pub record IsFileName (path name : List ℕ) : Type 0 where
  pub plain : HasNoSlash name
  pub ends : (path ≡ name) ⊎ ((folder : List ℕ) × (path ≡ folder ++ 47 ∷ name))

-- the file under its own name in the folder
pub record IsPlaced (folder : List ℕ) (sheet : Sheet) (new : NewFile) : Type 0 where
  pub name : List ℕ
  pub named : IsFileName sheet.path name
  pub path : string_bytes new.path ≡ folder ++ 47 ∷ name
  pub bytes : new.bytes.items ≡ sheet.bytes

-- the files of which a field was given another string
abbrev pub changed_ones : List Sheet → List Sheet
changed_ones sheets = filter (λ (sheet : Sheet). sheet.is_changed) sheets

-- all files of a folder are stored; or it fails, and all files are as before
abbrev pub StoresAll : List NewFile → List ℕ → Held → Held → Option Failure → Type 0
StoresAll news folder before after None = StoredAll before after news
StoresAll news folder before after (Some (File told)) = (string_bytes told ≡ folder) × (after ≡ before)
StoresAll news folder before after (Some NoMemory) = after ≡ before
StoresAll news folder before after (Some _) = ⊥

-- each changed file is stored in the folder under its own name, or none of them
pub record StoresChanged (sheets : List Sheet) (ended : Option Failure) (folder : List ℕ) (before after : Held)
    (reply : Reply) : Type 0 where
  pub news : List NewFile
  pub are : AllZip (IsPlaced folder) (changed_ones sheets) news
  pub stored : Option Failure
  pub stores : StoresAll news folder before after stored
  pub silent : reply.text.items ≡ []
  pub ends : reply.failure ≡ ends_as ended stored

-- ---- one file, or several

-- a source alone is printed, or stored at the path; with files of `--with`, the changed ones are stored in the folder
abbrev pub Delivers : List FurtherFile → List Sheet → Option Failure → Option (Bor (List ℕ)) → Held → Held → Reply
    → Type 0
Delivers [] sheets ended out before after reply = HandsOver (own_bytes sheets) ended out before after reply
Delivers (file ∷ files) sheets ended None before after reply = ⊥
Delivers (file ∷ files) sheets ended (Some folder) before after reply =
    StoresChanged sheets ended folder.now before after reply

-- (Serves the code alone.) where the texts go
abbrev pub IsTarget : List FurtherFile → Option (Bor (List ℕ)) → Target → Type 0
IsTarget [] out target = target ≡ Text out
IsTarget (file ∷ files) None target = ⊥
IsTarget (file ∷ files) (Some folder) target = target ≡ Folder folder

abbrev pub DeliversTo : Target → List Sheet → Option Failure → Held → Held → Reply → Type 0
DeliversTo (Text out) sheets ended before after reply = HandsOver (own_bytes sheets) ended out before after reply
DeliversTo (Folder folder) sheets ended before after reply = StoresChanged sheets ended folder.now before after reply
