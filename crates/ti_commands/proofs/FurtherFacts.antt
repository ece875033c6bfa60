-- The entries of the files of `--with`, one file after another.
use Rattle.std.proofs.Common.{◌≡◌, ◌∙◌, ◌<◌, ◌+◌, ℕ, suc, List, [], ◌∷◌, ◌++◌, ap, append-nil, append_assoc, drop, drop-cons, get_or, inl, inr, length, refl, sym, subst, take}
use Rattle.std.specs.Prelude.{String, string_bytes}
use Rattle.std.specs.declared.alloc.Global.{Global}
use Rattle.std.proofs.lemmas.List.{map-append, take-append-drop, take_more}
use Rattle.ti_files.specs.Contents.{Held}
use Rattle.ti_files.specs.Failures.{IsFileFailure}
use Rattle.ti_commands.specs.Further.{AddsFurther, AreFurther, AreHeld, ArePutTogether, AreReached, FailsAtFurther, FailsFurther, FailsReading, IsBadlyFurther, IsFurther, IsHeld, TellsFurther, Together, path_texts}
use Rattle.ti_files.specs.declared.failure.Failure.{Failure}
use Rattle.ti_sources.specs.Files.{LacksRaws, together}
use Rattle.ti_sources.specs.declared.files.FurtherFault.{FurtherFault}
use Rattle.ti_sources.specs.declared.files.FurtherFault.TheVariants as further_faults
use Rattle.ti_sources.specs.declared.files.FurtherFile.{FurtherFile}
use Rattle.ti_source.specs.declared.types.RawEntry.{RawEntry}

-- ---- a file that gives no entries

pub badly_told : (bytes : List ℕ) (fault : FurtherFault) (failure : Failure) → LacksRaws bytes fault → TellsFurther fault failure → IsBadlyFurther bytes failure
badly_told bytes (further_faults.Source fault) failure lacks tells = subst (IsBadlyFurther bytes) (sym tells) lacks
badly_told bytes (further_faults.Pack fault) failure lacks tells = subst (IsBadlyFurther bytes) (sym tells) lacks
badly_told bytes further_faults.NoMemory failure lacks tells = subst (IsBadlyFurther bytes) (sym tells) tt

-- ---- one file more

further_end : (held : Held) (paths : List (List ℕ)) (path : List ℕ) (files : List FurtherFile) (lists : List (List RawEntry)) (file : FurtherFile) (raws : List RawEntry) → AreFurther held paths files lists → IsFurther held path file raws → AreFurther held (paths ++ path ∷ []) (files ++ file ∷ []) (lists ++ raws ∷ [])
unfolding AreFurther
further_end held [] path files lists file raws h is =
    (file, [], raws, [], ap (λ (fs : List FurtherFile). fs ++ file ∷ []) h.0, ap (λ (ls : List (List RawEntry)). ls ++ raws ∷ []) h.1, is, (refl, refl))
further_end held (first ∷ paths) path files lists file raws h is =
    (h.0, h.1 ++ file ∷ [], h.2, h.3 ++ raws ∷ [], ap (λ (fs : List FurtherFile). fs ++ file ∷ []) h.4, ap (λ (ls : List (List RawEntry)). ls ++ raws ∷ []) h.5, h.6, further_end held paths path h.1 h.3 file raws h.7 is)

pub together_end : (lists : List (List RawEntry)) (raws : List RawEntry) → together (lists ++ raws ∷ []) ≡ together lists ++ raws
together_end [] raws = append-nil raws
together_end (first ∷ lists) raws = ap (λ (l : List RawEntry). first ++ l) (together_end lists raws) ∙ sym (append_assoc first (together lists) raws)

-- at first there are the source's own entries alone
pub reached_none : (held : Held) (own : List RawEntry) (all : Together) → all.raws ≡ own → all.files ≡ [] → all.counts ≡ length own ∷ [] → AreReached held own [] all
unfolding AreFurther
reached_none held own all raws files counts = record { lists = []; each = (files, refl); raws_are = raws ∙ sym (append-nil own); counts_are = counts }

pub reached_more : (held : Held) (own : List RawEntry) (paths : List (List ℕ)) (path : List ℕ) (before after : Together) → AreReached held own paths before → AddsFurther held path before after → AreReached held own (paths ++ path ∷ []) after
reached_more held own paths path before after was adds = record {
  lists = was.lists ++ adds.raws ∷ [];
  each = subst (λ (fs : List FurtherFile). AreFurther held (paths ++ path ∷ []) fs (was.lists ++ adds.raws ∷ [])) (sym adds.files_are) (further_end held paths path before.files was.lists adds.file adds.raws was.each adds.is);
  raws_are = adds.raws_are ∙ (ap (λ (l : List RawEntry). l ++ adds.raws) was.raws_are ∙ sym (together_end (own ∷ was.lists) adds.raws));
  counts_are = adds.counts_are ∙ (ap (λ (l : List ℕ). l ++ length adds.raws ∷ []) was.counts_are ∙ sym (map-append length (own ∷ was.lists) (adds.raws ∷ [])));
}

-- the paths before one, and that one
texts_next : (paths : List (String Global)) (i : ℕ) (d : String Global) → i < length paths → path_texts (take (i + 1) paths) ≡ path_texts (take i paths) ++ string_bytes (get_or paths i d) ∷ []
texts_next paths i d lt = ap path_texts (take_more paths i d lt) ∙ map-append (λ (p : String Global). string_bytes p) (take i paths) (get_or paths i d ∷ [])

-- the paths before one, that one, and those behind it
texts_around : (paths : List (String Global)) (i : ℕ) (d : String Global) → i < length paths → path_texts paths ≡ path_texts (take i paths) ++ string_bytes (get_or paths i d) ∷ path_texts (drop (suc i) paths)
texts_around paths i d lt =
    ap path_texts (sym (take-append-drop i paths))
    ∙ map-append (λ (p : String Global). string_bytes p) (take i paths) (drop i paths)
    ∙ ap (λ (l : List (String Global)). path_texts (take i paths) ++ path_texts l) (drop-cons paths i d lt)

pub reached_next : (held now : Held) (own : List RawEntry) (paths : List (String Global)) (i : ℕ) (d : String Global) (path : List ℕ) (before after : Together) → i < length paths → now ≡ held → path ≡ string_bytes (get_or paths i d) → AreReached held own (path_texts (take i paths)) before → AddsFurther now path before after → AreReached held own (path_texts (take (i + 1) paths)) after
reached_next held now own paths i d path before after lt kept here was adds =
    let added = subst (λ (p : List ℕ). AddsFurther held p before after) here (subst (λ (h : Held). AddsFurther h path before after) kept adds) in
    subst (λ (ps : List (List ℕ)). AreReached held own ps after) (sym (texts_next paths i d lt))
    (reached_more held own (path_texts (take i paths)) (string_bytes (get_or paths i d)) before after was added)

pub reached_all : (held : Held) (own : List RawEntry) (paths : List (List ℕ)) (all : Together) → paths ≡ held.with_paths → AreReached held own paths all → ArePutTogether held own all
reached_all held own paths all same reached = record {
  lists = reached.lists;
  each = subst (λ (ps : List (List ℕ)). AreFurther held ps all.files reached.lists) same reached.each;
  raws_are = reached.raws_are;
  counts_are = reached.counts_are;
}

-- ---- the first that fails, behind those that don't

pub fails_later : (held : Held) (front behind : List (List ℕ)) (path : List ℕ) (files : List FurtherFile) (lists : List (List RawEntry)) (failure : Failure) → AreFurther held front files lists → FailsAtFurther held path failure → FailsFurther held (front ++ path ∷ behind) failure
unfolding AreFurther FailsFurther
fails_later held [] behind path files lists failure h fails = inl fails
fails_later held (first ∷ front) behind path files lists failure h fails =
    inr (record { bytes = h.0.bytes.items; whole = h.6.whole; short = h.6.short; holds = (h.2, h.6.reads) }, fails_later held front behind path h.1 h.3 failure h.7 fails)

pub fails_next : (held now : Held) (own : List RawEntry) (paths : List (String Global)) (i : ℕ) (d : String Global) (path : List ℕ) (all : Together) (failure : Failure) → i < length paths → now ≡ held → path ≡ string_bytes (get_or paths i d) → AreReached held own (path_texts (take i paths)) all → FailsAtFurther now path failure → FailsFurther held (path_texts paths) failure
fails_next held now own paths i d path all failure lt kept here was fails =
    let failed = subst (λ (p : List ℕ). FailsAtFurther held p failure) here (subst (λ (h : Held). FailsAtFurther h path failure) kept fails) in
    subst (λ (ps : List (List ℕ)). FailsFurther held ps failure) (sym (texts_around paths i d lt))
    (fails_later held (path_texts (take i paths)) (path_texts (drop (suc i) paths)) (string_bytes (get_or paths i d)) all.files was.lists failure was.each failed)

-- ---- files that are read alone

pub held_more : (held : Held) (paths : List (List ℕ)) (path : List ℕ) (files : List FurtherFile) (file : FurtherFile) → AreHeld held paths files → IsHeld held path file → AreHeld held (paths ++ path ∷ []) (files ++ file ∷ [])
unfolding AreHeld
held_more held [] path files file h is = (file, [], ap (λ (fs : List FurtherFile). fs ++ file ∷ []) h, is, refl)
held_more held (first ∷ paths) path files file h is =
    (h.0, h.1 ++ file ∷ [], ap (λ (fs : List FurtherFile). fs ++ file ∷ []) h.2, h.3, held_more held paths path h.1 file h.4 is)

pub held_next : (held now : Held) (paths : List (String Global)) (i : ℕ) (d : String Global) (path : List ℕ) (files more : List FurtherFile) (file : FurtherFile) → i < length paths → now ≡ held → path ≡ string_bytes (get_or paths i d) → more ≡ files ++ file ∷ [] → AreHeld held (path_texts (take i paths)) files → IsHeld now path file → AreHeld held (path_texts (take (i + 1) paths)) more
held_next held now paths i d path files more file lt kept here longer was is =
    let added = subst (λ (p : List ℕ). IsHeld held p file) here (subst (λ (h : Held). IsHeld h path file) kept is) in
    subst (λ (fs : List FurtherFile). AreHeld held (path_texts (take (i + 1) paths)) fs) (sym longer)
    (subst (λ (ps : List (List ℕ)). AreHeld held ps (files ++ file ∷ [])) (sym (texts_next paths i d lt))
    (held_more held (path_texts (take i paths)) (string_bytes (get_or paths i d)) files file was added))

pub held_none : (held : Held) (files : List FurtherFile) → files ≡ [] → AreHeld held [] files
unfolding AreHeld
held_none held files none = none

pub reading_fails : (front behind : List (List ℕ)) (path : List ℕ) (failure : Failure) → IsFileFailure path failure → FailsReading (front ++ path ∷ behind) failure
unfolding FailsReading
reading_fails [] behind path failure fails = inl fails
reading_fails (first ∷ front) behind path failure fails = inr (reading_fails front behind path failure fails)

pub reading_next : (paths : List (String Global)) (i : ℕ) (d : String Global) (path : List ℕ) (failure : Failure) → i < length paths → path ≡ string_bytes (get_or paths i d) → IsFileFailure path failure → FailsReading (path_texts paths) failure
reading_next paths i d path failure lt here fails =
    subst (λ (ps : List (List ℕ)). FailsReading ps failure) (sym (texts_around paths i d lt))
    (reading_fails (path_texts (take i paths)) (path_texts (drop (suc i) paths)) (string_bytes (get_or paths i d)) failure (subst (λ (p : List ℕ). IsFileFailure p failure) here fails))

-- ---- without files of `--with`

cons_nil : {X A : Type 0} (x : X) (xs : List X) → x ∷ xs ≡ [] → A
cons_nil x xs e = cc

no_lists : (held : Held) (paths : List (List ℕ)) (files : List FurtherFile) (lists : List (List RawEntry)) → files ≡ [] → AreFurther held paths files lists → lists ≡ []
unfolding AreFurther
no_lists held [] files lists none h = h.1
no_lists held (path ∷ paths) files lists none h = cons_nil h.0 h.1 (sym h.4 ∙ none)

-- the entries are the source's own if there is no further file
pub alone : (held : Held) (own : List RawEntry) (all : Together) → all.files ≡ [] → ArePutTogether held own all → all.raws ≡ own
alone held own all none put =
    put.raws_are ∙ (ap (λ (lists : List (List RawEntry)). own ++ together lists) (no_lists held held.with_paths all.files put.lists none put.each) ∙ append-nil own)

no_files : (held : Held) (paths : List (List ℕ)) (files : List FurtherFile) (lists : List (List RawEntry)) → paths ≡ [] → AreFurther held paths files lists → files ≡ []
unfolding AreFurther
no_files held [] files lists none h = h.0
no_files held (path ∷ paths) files lists none h = cons_nil path paths none

-- there are further files only if a line names some
pub named : (held : Held) (own : List RawEntry) (all : Together) → ArePutTogether held own all → held.with_paths ≡ [] → all.files ≡ []
named held own all put none = no_files held held.with_paths all.files put.lists none put.each
