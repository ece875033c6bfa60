-- Files and their entries, and files in which fields were given strings.
use Rattle.std.proofs.Common.{◌≡◌, ◌<◌, ◌∙◌, ◌+◌, ◌==◌, ℕ, List, [], ◌∷◌, ◌++◌, Bool, true, false, length, take, drop, get_or, ap, refl, sym, subst, append_assoc, arith}
use Rattle.std.proofs.lemmas.Bool.Decides.{nat_tests}
use Rattle.std.proofs.lemmas.Grind.{flat_map-append}
use Rattle.std.proofs.lemmas.List.{append-nil, drop_more, length-append, map-append, take_more}
use Rattle.std.specs.Prelude.{if◌then◌else◌, nat_lt, IsTrue}
use Rattle.std.specs.List.{AllByRecursion}
use Rattle.ti_caps.specs.Fits.{string_fits}
use Rattle.ti_fixes.proofs.Lists.{all_both}
use Rattle.ti_fixes.specs.Files.{GivesFile, GivesFiles, Sheet, all_raws, later_change, later_changes, own_change, own_changes, sheet_of, sheets}
use Rattle.ti_fixes.specs.declared.changes.Change.{Change}
use Rattle.ti_fixes.specs.declared.files.Text.{Text}
use Rattle.ti_source.specs.Raw.{IsRaw}
use Rattle.ti_source.specs.declared.types.RawEntry.{RawEntry}

-- ---- the entries of the files

pub sheets_next : (files : List Text) (i : ℕ) (file : Text) → i < length files → file ≡ get_or files i file → sheets (take (i + 1) files) ≡ sheets (take i files) ++ sheet_of file ∷ []
sheets_next files i file l is =
    ap (λ (fs : List Text). sheets fs) (take_more files i file l)
    ∙ (map-append (λ (t : Text). sheet_of t) (take i files) (get_or files i file ∷ [])
    ∙ ap (λ (t : Text). sheets (take i files) ++ sheet_of t ∷ []) (sym is))

pub raws_end : (all : List Sheet) (sheet : Sheet) → all_raws (all ++ sheet ∷ []) ≡ all_raws all ++ sheet.raws
raws_end all sheet =
    flat_map-append (λ (s : Sheet). s.raws) all (sheet ∷ [])
    ∙ ap (λ (raws : List RawEntry). all_raws all ++ raws) (append-nil sheet.raws)

-- the entries of one file more
pub raws_next : (files : List Text) (i : ℕ) (file : Text) (slice raws more : List RawEntry) → i < length files → file ≡ get_or files i file → slice ≡ file.raws.items → more ≡ raws ++ slice → raws ≡ all_raws (sheets (take i files)) → more ≡ all_raws (sheets (take (i + 1) files))
raws_next files i file slice raws more l is own pushed h =
    pushed
    ∙ (ap (λ (rs : List RawEntry). raws ++ rs) own
    ∙ (ap (λ (rs : List RawEntry). rs ++ file.raws.items) h
    ∙ sym (ap all_raws (sheets_next files i file l is) ∙ raws_end (sheets (take i files)) (sheet_of file))))

-- ---- what changes keep

as_many_file : (changes : List Change) (old new : Sheet) → GivesFile changes old new → length new.raws ≡ length old.raws
as_many_file changes old new (GivesFile.Same none same) = ap (λ (s : Sheet). length s.raws) same
as_many_file changes old new (GivesFile.Changed h) = h.gives.given.as_many

-- there are as many entries
pub as_many_still : (changes : List Change) (olds news : List Sheet) → GivesFiles changes olds news → length (all_raws news) ≡ length (all_raws olds)
as_many_still changes [] [] h = refl
as_many_still changes [] (new ∷ news) h = absurd h
as_many_still changes (old ∷ olds) [] h = absurd h
as_many_still changes (old ∷ olds) (new ∷ news) h =
    let one = as_many_file (own_changes (length old.raws) changes) old new h.0 in
    let others = as_many_still (later_changes (length old.raws) changes) olds news h.1 in
    length-append new.raws (all_raws news)
    ∙ (ap (λ (n : ℕ). n + length (all_raws news)) one ∙ (ap (λ (n : ℕ). length old.raws + n) others ∙ sym (length-append old.raws (all_raws olds))))

front_fits : (xs ys : List RawEntry) → AllByRecursion IsRaw (xs ++ ys) → AllByRecursion IsRaw xs
front_fits [] ys h = tt
front_fits (x ∷ xs) ys h = (h.0, front_fits xs ys h.1)

back_fits : (xs ys : List RawEntry) → AllByRecursion IsRaw (xs ++ ys) → AllByRecursion IsRaw ys
back_fits [] ys h = h
back_fits (x ∷ xs) ys h = back_fits xs ys h.1

fit_file : (changes : List Change) (old new : Sheet) → GivesFile changes old new → AllByRecursion IsRaw old.raws → AllByRecursion IsRaw new.raws
fit_file changes old new (GivesFile.Same none same) h = subst (λ (s : Sheet). AllByRecursion IsRaw s.raws) (sym same) h
fit_file changes old new (GivesFile.Changed p) h = p.gives.fit

-- each entry can be resolved
pub fit_still : (changes : List Change) (olds news : List Sheet) → GivesFiles changes olds news → AllByRecursion IsRaw (all_raws olds) → AllByRecursion IsRaw (all_raws news)
fit_still changes [] [] h fit = tt
fit_still changes [] (new ∷ news) h fit = absurd h
fit_still changes (old ∷ olds) [] h fit = absurd h
fit_still changes (old ∷ olds) (new ∷ news) h fit =
    all_both IsRaw new.raws (all_raws news)
    (fit_file (own_changes (length old.raws) changes) old new h.0 (front_fits old.raws (all_raws olds) fit))
    (fit_still (later_changes (length old.raws) changes) olds news h.1 (back_fits old.raws (all_raws olds) fit))

-- without changes the files are the same
pub gives_none : (olds : List Sheet) → GivesFiles [] olds olds
gives_none [] = refl
gives_none (old ∷ olds) = (GivesFile.Same refl refl, gives_none olds)

-- ---- the changes of a file, and of those after it

-- the string of a change can be an entry's
abbrev pub FitsChange : Change → Type 0
FitsChange change = IsTrue (string_fits change.string)

own_fits : (count : ℕ) (change : Change) (b : Bool) → FitsChange change → AllByRecursion FitsChange (if b then change ∷ [] else [])
own_fits count change true h = (h, tt)
own_fits count change false h = tt

pub own_fit : (count : ℕ) (changes : List Change) → AllByRecursion FitsChange changes → AllByRecursion FitsChange (own_changes count changes)
own_fit count [] h = tt
own_fit count (change ∷ changes) h = all_both FitsChange (own_change count change) (own_changes count changes) (own_fits count change (nat_lt change.place count) h.0) (own_fit count changes h.1)

later_fits : (change : Change) (b : Bool) → FitsChange change → AllByRecursion FitsChange (if b then [] else change ∷ [])
later_fits change true h = tt
later_fits change false h = (h, tt)

pub later_fit : (count : ℕ) (changes : List Change) → AllByRecursion FitsChange changes → AllByRecursion FitsChange (later_changes count changes)
later_fit count [] h = tt
later_fit count (change ∷ changes) h = all_both FitsChange (later_change count change) (later_changes count changes) (later_fits _ (nat_lt change.place count) h.0) (later_fit count changes h.1)

-- ---- one file after another

-- what is given so far, with whatever gives the files from here on, gives all files
abbrev pub GivesSoFar : List Change → List Text → List Change → List Text → List Text → Type 0
GivesSoFar changes files left rest news =
    (more : List Sheet) → GivesFiles left (sheets rest) more → GivesFiles changes (sheets files) (sheets news ++ more)

pub none_so_far : (changes : List Change) (files news : List Text) → news ≡ [] → GivesSoFar changes files changes files news
none_so_far changes files news none = λ more h. subst (λ (ts : List Text). GivesFiles changes (sheets files) (sheets ts ++ more)) (sym none) h

-- one file more
pub so_far_next : (changes : List Change) (files : List Text) (i : ℕ) (file new : Text) (left own later : List Change) (count : ℕ) (news more : List Text) → i < length files → file ≡ get_or files i file → count ≡ length file.raws.items → own ≡ own_changes count left → later ≡ later_changes count left → more ≡ news ++ new ∷ [] → GivesFile own (sheet_of file) (sheet_of new) → GivesSoFar changes files left (drop i files) news → GivesSoFar changes files later (drop (i + 1) files) more
so_far_next changes files i file new left own later count news more l is counted owned lately pushed given h = λ others rest.
    let here : GivesFile (own_changes (length file.raws.items) left) (sheet_of file) (sheet_of new) = subst (λ (cs : List Change). GivesFile cs (sheet_of file) (sheet_of new)) (owned ∙ ap (λ (n : ℕ). own_changes n left) counted) given in
    let behind : GivesFiles (later_changes (length file.raws.items) left) (sheets (drop (i + 1) files)) others = subst (λ (cs : List Change). GivesFiles cs (sheets (drop (i + 1) files)) others) (lately ∙ ap (λ (n : ℕ). later_changes n left) counted) rest in
    let parted : drop i files ≡ file ∷ drop (i + 1) files = drop_more files i file l ∙ ap (λ (t : Text). t ∷ drop (i + 1) files) (sym is) in
    let both : GivesFiles left (sheets (drop i files)) (sheet_of new ∷ others) = subst (λ (ts : List Text). GivesFiles left (sheets ts) (sheet_of new ∷ others)) (sym parted) (here, behind) in
    subst (λ (all : List Sheet). GivesFiles changes (sheets files) all)
    (sym (ap (λ (ts : List Text). sheets ts ++ others) pushed
    ∙ (ap (λ (ss : List Sheet). ss ++ others) (map-append (λ (t : Text). sheet_of t) news (new ∷ []))
    ∙ append_assoc (sheets news) (sheet_of new ∷ []) others)))
    (h (sheet_of new ∷ others) both)

-- all files
pub so_far_end : (changes : List Change) (files rest news : List Text) (left : List Change) → rest ≡ [] → left ≡ [] → GivesSoFar changes files left rest news → GivesFiles changes (sheets files) (sheets news)
so_far_end changes files rest news left none done h =
    subst (λ (all : List Sheet). GivesFiles changes (sheets files) all) (append-nil (sheets news))
    (h [] (subst (λ (ts : List Text). GivesFiles left (sheets ts) []) (sym none) done))

pub none_of : {X : Type 0} (xs : List X) (n : ℕ) → n ≡ length xs → true ≡ (n == 0) → xs ≡ []
none_of [] n e h = refl
none_of (x ∷ xs) n e h = absurd (grind (arith, nat_tests))
