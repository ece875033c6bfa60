-- Files whose entries are put together, one after another.
use Rattle.std.proofs.Common.{◌≡◌, ◌∙◌, ◌<◌, ◌+◌, ℕ, List, [], ◌∷◌, ◌++◌, length, take, get_or, ap, sym, subst, append_assoc}
use Rattle.std.proofs.lemmas.List.{append-nil, map-append, take_more}
use Rattle.std.specs.List.{AllZip}
use Rattle.ti_fixes.proofs.FileFacts.{raws_end}
use Rattle.ti_fixes.specs.Files.{Sheet, all_raws, sheet_of, sheets}
use Rattle.ti_fixes.specs.declared.files.Text.{Text}
use Rattle.ti_repairs.specs.Texts.{IsSheetOf}
use Rattle.ti_source.specs.declared.types.RawEntry.{RawEntry}
use Rattle.ti_sources.specs.declared.files.FurtherFile.{FurtherFile}

pub zip_end : {A B : Type 0} (R : A → B → Type 0) (xs : List A) (ys : List B) (x : A) (y : B) → AllZip R xs ys → R x y → AllZip R (xs ++ x ∷ []) (ys ++ y ∷ [])
zip_end R [] [] x y h r = (r, tt)
zip_end R [] (b ∷ ys) x y h r = absurd h
zip_end R (a ∷ xs) [] x y h r = absurd h
zip_end R (a ∷ xs) (b ∷ ys) x y h r = (h.0, zip_end R xs ys x y h.1 r)

-- one pair more, behind the others
pub zip_next : {A B : Type 0} (R : A → B → Type 0) (xs : List A) (i : ℕ) (x : A) (ys more : List B) (y : B) → i < length xs → x ≡ get_or xs i x → more ≡ ys ++ y ∷ [] → AllZip R (take i xs) ys → R x y → AllZip R (take (i + 1) xs) more
zip_next R xs i x ys more y l is pushed h r =
    subst (λ (all : List _). AllZip R all more) (sym (take_more xs i x l))
    (subst (λ (all : List _). AllZip R (take i xs ++ get_or xs i x ∷ []) all) (sym pushed)
    (zip_end R (take i xs) ys (get_or xs i x) y h (subst (λ (a : _). R a y) is r)))

sheets_end : (texts more : List Text) (text : Text) → more ≡ texts ++ text ∷ [] → sheets more ≡ sheets texts ++ sheet_of text ∷ []
sheets_end texts more text pushed = ap (λ (ts : List Text). sheets ts) pushed ∙ map-append (λ (t : Text). sheet_of t) texts (text ∷ [])

-- one file more
pub each_next : (files : List FurtherFile) (i : ℕ) (file : FurtherFile) (texts more : List Text) (text : Text) → i < length files → file ≡ get_or files i file → more ≡ texts ++ text ∷ [] → AllZip IsSheetOf (take i files) (sheets texts) → IsSheetOf file (sheet_of text) → AllZip IsSheetOf (take (i + 1) files) (sheets more)
each_next files i file texts more text l is pushed h r =
    subst (λ (fs : List FurtherFile). AllZip IsSheetOf fs (sheets more)) (sym (take_more files i file l))
    (subst (λ (ss : List Sheet). AllZip IsSheetOf (take i files ++ get_or files i file ∷ []) ss) (sym (sheets_end texts more text pushed))
    (zip_end IsSheetOf (take i files) (sheets texts) (get_or files i file) (sheet_of text) h (subst (λ (f : FurtherFile). IsSheetOf f (sheet_of text)) is r)))

pub joined_next : (texts more : List Text) (text : Text) (raws rest own behind : List RawEntry) → more ≡ texts ++ text ∷ [] → text.raws.items ≡ own → own ++ behind ≡ rest → all_raws (sheets texts) ++ rest ≡ raws → all_raws (sheets more) ++ behind ≡ raws
joined_next texts more text raws rest own behind pushed is cut h =
    ap (λ (ss : List Sheet). all_raws ss ++ behind) (sheets_end texts more text pushed)
    ∙ (ap (λ (rs : List RawEntry). rs ++ behind) (raws_end (sheets texts) (sheet_of text))
    ∙ (append_assoc (all_raws (sheets texts)) text.raws.items behind
    ∙ (ap (λ (rs : List RawEntry). all_raws (sheets texts) ++ (rs ++ behind)) is
    ∙ (ap (λ (rs : List RawEntry). all_raws (sheets texts) ++ rs) cut ∙ h))))

-- all files
pub joined_end : (texts : List Text) (raws rest : List RawEntry) → rest ≡ [] → all_raws (sheets texts) ++ rest ≡ raws → all_raws (sheets texts) ≡ raws
joined_end texts raws rest none h = sym (append-nil (all_raws (sheets texts))) ∙ (ap (λ (rs : List RawEntry). all_raws (sheets texts) ++ rs) (sym none) ∙ h)
