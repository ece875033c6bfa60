-- Files under their own names in a folder.
use Rattle.std.proofs.Common.{◌≡◌, ◌∙◌, ◌<◌, ◌+◌, ◌∷◌, ◌++◌, ℕ, Bool, true, false, List, [], None, ap, append-nil, cond, drop, get_or, inl, inr, length, lit<, refl, subst, sym, take}
use Rattle.std.specs.List.{AllZip}
use Rattle.std.specs.Str.Pattern.{RFindsChar, SplitsAroundMatch}
use Rattle.std.proofs.lemmas.List.{take-append-drop}
use Rattle.std.proofs.lemmas.List.Elements.{filter-append}
use Rattle.std.proofs.lemmas.Str.Pattern.{NoCharPasses-char, drop_at_char}
use Rattle.ti_files.specs.declared.files.NewFile.{NewFile}
use Rattle.ti_fixes.proofs.FileFacts.{sheets_next}
use Rattle.ti_repairs.proofs.TextFacts.{zip_end}
use Rattle.ti_repairs.specs.Delivery.{HasNoSlash, IsFileName, IsPlaced, changed_ones}
use Rattle.ti_fixes.specs.Files.{Sheet, sheet_of, sheets}
use Rattle.ti_fixes.specs.declared.files.Text.{Text}

-- ---- what is behind the last slash

pub split_name : (path folder name : List ℕ) → SplitsAroundMatch (RFindsChar 47) path folder name → IsFileName path name
split_name path folder name h = record {
  plain = subst (λ (l : List ℕ). HasNoSlash l) (sym h.4) (λ i lt. NoCharPasses-char 47 (drop h.1 path) i h.2.0 (lit< tt) lt);
  ends = inr (folder, sym (take-append-drop h.0 path) ∙ ap (λ (l : List ℕ). take h.0 path ++ l) (drop_at_char 47 path h.0 h.1 h.2.1 (lit< tt)) ∙ ap (λ (l : List ℕ). l ++ 47 ∷ drop h.1 path) (sym h.3) ∙ ap (λ (l : List ℕ). folder ++ 47 ∷ l) (sym h.4));
}

pub whole_name : (path : List ℕ) → RFindsChar 47 path None → IsFileName path path
whole_name path h = record { plain = λ i lt. NoCharPasses-char 47 path i h (lit< tt) lt; ends = inl refl }

-- ---- one file more

one_changed : (sheet : Sheet) (is : Bool) → sheet.is_changed ≡ is → changed_ones (sheet ∷ []) ≡ cond is (sheet ∷ []) []
one_changed sheet is e = ap (λ (b : Bool). cond b (sheet ∷ []) []) e

changed_next : (files : List Text) (i : ℕ) (file : Text) → i < length files → file ≡ get_or files i file → (is : Bool) → file.is_changed ≡ is → changed_ones (sheets (take (i + 1) files)) ≡ changed_ones (sheets (take i files)) ++ cond is (sheet_of file ∷ []) []
changed_next files i file lt here is e =
    ap (λ (l : List Sheet). changed_ones l) (sheets_next files i file lt here)
    ∙ filter-append (λ (sheet : Sheet). sheet.is_changed) (sheets (take i files)) (sheet_of file ∷ [])
    ∙ ap (λ (l : List Sheet). changed_ones (sheets (take i files)) ++ l) (one_changed (sheet_of file) is e)

pub placed_next : (folder : List ℕ) (files : List Text) (i : ℕ) (file : Text) (olds news : List NewFile) (new : NewFile) → i < length files → file ≡ get_or files i file → file.is_changed ≡ true → AllZip (IsPlaced folder) (changed_ones (sheets (take i files))) olds → IsPlaced folder (sheet_of file) new → news ≡ olds ++ new ∷ [] → AllZip (IsPlaced folder) (changed_ones (sheets (take (i + 1) files))) news
placed_next folder files i file olds news new lt here is h placed longer =
    subst (λ (l : List NewFile). AllZip (IsPlaced folder) (changed_ones (sheets (take (i + 1) files))) l) (sym longer)
    (subst (λ (l : List Sheet). AllZip (IsPlaced folder) l (olds ++ new ∷ [])) (sym (changed_next files i file lt here true is))
    (zip_end (IsPlaced folder) (changed_ones (sheets (take i files))) olds (sheet_of file) new h placed))

pub passed_next : (folder : List ℕ) (files : List Text) (i : ℕ) (file : Text) (olds news : List NewFile) → i < length files → file ≡ get_or files i file → file.is_changed ≡ false → AllZip (IsPlaced folder) (changed_ones (sheets (take i files))) olds → news ≡ olds → AllZip (IsPlaced folder) (changed_ones (sheets (take (i + 1) files))) news
passed_next folder files i file olds news lt here is h same =
    subst (λ (l : List NewFile). AllZip (IsPlaced folder) (changed_ones (sheets (take (i + 1) files))) l) (sym same)
    (subst (λ (l : List Sheet). AllZip (IsPlaced folder) l olds) (sym (changed_next files i file lt here false is ∙ append-nil (changed_ones (sheets (take i files))))) h)
