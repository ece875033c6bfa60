-- The text at a path among others.
use Rattle.std.proofs.Common.{◌≡◌, ◌<◌, ◌≤◌, ◌+◌, ◌∙◌, ℕ, zero, suc, List, [], ◌∷◌, Some, None, ap, arith, drop, false, get_or, length, map, refl, sym, true}
use Rattle.std.proofs.lemmas.Bool.{cond-false, cond-true}
use Rattle.std.specs.Prelude.{if◌then◌else◌}
use Rattle.std.specs.Str.{bytes_eq}
use Rattle.ti_sources.specs.Originals.{original_at}
use Rattle.ti_sources.specs.LinedFiles.{file_text}
use Rattle.ti_sources.specs.declared.file_lines.LinedFile.{LinedFile}

-- the file at a place decides, or those behind it
pub at_place : (files : List LinedFile) (path : List ℕ) (at : ℕ) (file : LinedFile) → at < length files → file ≡ get_or files at file
    → original_at (map file_text (drop at files)) path ≡ (if bytes_eq file.path.now path then Some file.lined else original_at (map file_text (drop (at + 1) files)) path)
at_place [] path at file l is = absurd (omega (arith, l))
at_place (first ∷ others) path zero file l is =
    ap (λ (f : LinedFile). if bytes_eq f.path.now path then Some f.lined else original_at (map file_text others) path) (sym is)
at_place (first ∷ others) path (suc at) file l is =
    let e : suc (at + 1) ≡ suc at + 1 = omega arith in
    at_place others path at file (omega (arith, l)) is
    ∙ ap (λ (n : ℕ). if bytes_eq file.path.now path then Some file.lined else original_at (map file_text (drop n (first ∷ others))) path) e

-- the file at a place has the path
pub found_at : (files : List LinedFile) (path : List ℕ) (at : ℕ) (file : LinedFile) → at < length files → file ≡ get_or files at file
    → bytes_eq file.path.now path ≡ true → original_at (map file_text (drop at files)) path ≡ Some file.lined
found_at files path at file l is same =
    at_place files path at file l is
    ∙ cond-true (bytes_eq file.path.now path) (Some file.lined) (original_at (map file_text (drop (at + 1) files)) path) same

-- it has another path, so those behind it decide
pub passed_at : (files : List LinedFile) (path : List ℕ) (at : ℕ) (file : LinedFile) → at < length files → file ≡ get_or files at file
    → bytes_eq file.path.now path ≡ false → original_at (map file_text (drop at files)) path ≡ original_at (map file_text (drop (at + 1) files)) path
passed_at files path at file l is other =
    at_place files path at file l is
    ∙ cond-false (bytes_eq file.path.now path) (Some file.lined) (original_at (map file_text (drop (at + 1) files)) path) other

pub none_left : (files : List LinedFile) (path : List ℕ) (at : ℕ) → length files ≤ at → original_at (map file_text (drop at files)) path ≡ None
none_left [] path zero l = refl
none_left [] path (suc at) l = refl
none_left (first ∷ others) path zero l = absurd (omega (arith, l))
none_left (first ∷ others) path (suc at) l = none_left others path at (omega (arith, l))
