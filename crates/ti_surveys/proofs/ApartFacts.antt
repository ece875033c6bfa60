-- Entries of several files put together, each read by itself.
use Rattle.std.proofs.Common.{◌≡◌, ◌∙◌, ◌<◌, ◌≤◌, ◌+◌, ℕ, suc, drop, drop-cons, get_or, take, Bool, true, false, List, [], ◌∷◌, ◌++◌, Option, ap, arith, append-nil, inl, inr, ⊎_elim, ◌⊎◌, length, refl, sym, subst}
use Rattle.std.specs.Prelude.{◌-◌, IsTrue, nat_lt, slice_get}
use Rattle.std.specs.List.{AllByRecursion, flat_map}
use Rattle.std.proofs.lemmas.Grind.{flat_map-append}
use Rattle.std.proofs.lemmas.List.{length-append, map-append, take-append-drop, take_more}
use Rattle.ti_caps.specs.Fits.{names_fit}
use Rattle.ti_files.specs.declared.failure.Failure.{Failure}
use Rattle.ti_files.specs.Contents.{Held}
use Rattle.ti_commands.specs.Further.{AreHeld, FailsReading, TellsFurther}
use Rattle.ti_files.specs.declared.failure.Failure.TheVariants.{NoMemory}
use Rattle.ti_sources.specs.Files.{AreApartBy, AreApartOf, LacksApart, is_compiled}
use Rattle.ti_sources.specs.declared.files.FurtherFault.{FurtherFault}
use Rattle.ti_sources.specs.declared.files.FurtherFault.TheVariants as further_faults
use Rattle.ti_sources.specs.declared.files.FurtherFile.{FurtherFile}
use Rattle.ti_sources.proofs.Together.{get_left, get_right, less, past}
use Rattle.ti_source.specs.Fitting.{FieldsFit, NamesFit}
use Rattle.ti_source.specs.declared.types.RawEntry.{RawEntry}
use Rattle.ti_source.specs.declared.types.SourceFault.{SourceFault}
use Rattle.ti_surveys.proofs.SaidFacts.{faults_beside}
use Rattle.ti_surveys.specs.Lines.{first_count}
use Rattle.ti_surveys.specs.Together.{AllApart, AreApart, ArePutApart, FailsApartly, FailsBeside, IsBadlyApart, OneApart}

-- one file more
pub apart_end : (files : List FurtherFile) (file : FurtherFile) (ones : List OneApart) (one : OneApart) → AreApart files ones → AreApartOf file.bytes.items one.raws one.faults → AreApart (files ++ file ∷ []) (ones ++ one ∷ [])
unfolding AreApart
apart_end [] file ones one h is = (one, [], ap (λ (os : List OneApart). os ++ one ∷ []) h, is, refl)
apart_end (first ∷ files) file ones one h is =
    (h.0, h.1 ++ one ∷ [], ap (λ (os : List OneApart). os ++ one ∷ []) h.2, h.3, apart_end files file h.1 one h.4 is)

-- the source's own entries alone
pub put_first : (own : OneApart) (all : AllApart) → all.raws ≡ own.raws → all.faults ≡ own.faults → all.counts ≡ length own.raws ∷ [] → ArePutApart own [] all
unfolding AreApart
put_first own all raws faults counts = record {
  ones = [];
  each = refl;
  raws_are = raws ∙ sym (append-nil own.raws);
  faults_are = faults ∙ sym (append-nil own.faults);
  counts_are = counts;
}

-- a list for each file, and those of one file more
lists_end : {X : Type 0} (f : OneApart → List X) (ones : List OneApart) (one : OneApart) (before after : List X) → before ≡ flat_map f ones → after ≡ before ++ f one → after ≡ flat_map f (ones ++ one ∷ [])
lists_end f ones one before after was e =
    e ∙ (ap (λ (l : List _). l ++ f one) was
    ∙ (ap (λ (l : List _). flat_map f ones ++ l) (sym (append-nil (f one))) ∙ sym (flat_map-append f ones (one ∷ []))))

-- and those of one file more
pub put_more : (own : OneApart) (files : List FurtherFile) (file : FurtherFile) (one : OneApart) (before after : AllApart) → ArePutApart own files before → AreApartOf file.bytes.items one.raws one.faults
    → after.raws ≡ before.raws ++ one.raws → after.faults ≡ before.faults ++ one.faults → after.counts ≡ before.counts ++ length one.raws ∷ [] → ArePutApart own (files ++ file ∷ []) after
put_more own files file one before after was is raws faults counts = record {
  ones = was.ones ++ one ∷ [];
  each = apart_end files file was.ones one was.each is;
  raws_are = lists_end (λ (o : OneApart). o.raws) (own ∷ was.ones) one before.raws after.raws was.raws_are raws;
  faults_are = lists_end (λ (o : OneApart). o.faults) (own ∷ was.ones) one before.faults after.faults was.faults_are faults;
  counts_are = counts ∙ (ap (λ (l : List ℕ). l ++ length one.raws ∷ []) was.counts_are ∙ sym (map-append (λ (o : OneApart). length o.raws) (own ∷ was.ones) (one ∷ [])));
}

-- the first file that hides its entries
pub apartly : (front behind : List FurtherFile) (file : FurtherFile) (failure : Failure) → IsBadlyApart file.bytes.items failure → FailsApartly (front ++ file ∷ behind) failure
unfolding FailsApartly
apartly [] behind file failure fails = inl fails
apartly (first ∷ front) behind file failure fails = inr (apartly front behind file failure fails)

-- names that fit still fit behind others
pub names_append : (raws more : List RawEntry) (faults others : List (Option SourceFault)) → length faults ≡ length raws → NamesFit raws faults → NamesFit more others → NamesFit (raws ++ more) (faults ++ others)
names_append raws more faults others same fit fits place raw there read =
    by (nat_lt place (length raws)) refl
  where
    by : (b : Bool) → nat_lt place (length raws) ≡ b → IsTrue (names_fit raw.names)
    by true e =
        let inside = less place (length raws) e in
        fit place raw (sym (get_left raws more place inside) ∙ there) (sym (get_left faults others place (omega (arith, inside, same))) ∙ read)
    by false e =
        let behind = past place (length raws) e in
        fits (place - length raws) raw (sym (get_right raws more place behind) ∙ there) (sym (get_right faults others place (omega (arith, behind, same)) ∙ ap (λ (n : ℕ). slice_get others (place - n)) same) ∙ read)

-- ---- one turn of the loop over further files

-- each entry of a further file has a fault or none beside it
beside_by : (b : Bool) (bytes : List ℕ) (raws : List RawEntry) (faults : List (Option SourceFault)) → AreApartBy b bytes raws faults → length faults ≡ length raws
beside_by true bytes raws faults is = ap length is.fault ∙ sym (ap length is.raw)
beside_by false bytes raws faults is = faults_beside bytes raws faults is

pub beside_next : (bytes : List ℕ) (raws more : List RawEntry) (faults others : List (Option SourceFault)) → length faults ≡ length raws → AreApartOf bytes more others → length (faults ++ others) ≡ length (raws ++ more)
beside_next bytes raws more faults others same is =
    omega (arith, same, beside_by (is_compiled bytes) bytes more others is, length-append faults others, length-append raws more)

pub fields_append : (raws more : List RawEntry) → AllByRecursion FieldsFit raws → AllByRecursion FieldsFit more → AllByRecursion FieldsFit (raws ++ more)
fields_append [] more fit fits = fits
fields_append (raw ∷ raws) more fit fits = (fit.0, fields_append raws more fit.1 fits)

pub put_next : (own : OneApart) (further : List FurtherFile) (i : ℕ) (file : FurtherFile) (one : OneApart) (before after : AllApart) → i < length further → file ≡ get_or further i file → ArePutApart own (take i further) before
    → AreApartOf file.bytes.items one.raws one.faults → after.raws ≡ before.raws ++ one.raws → after.faults ≡ before.faults ++ one.faults → after.counts ≡ before.counts ++ length one.raws ∷ []
    → ArePutApart own (take (i + 1) further) after
put_next own further i file one before after lt here was is raws faults counts =
    subst (λ (files : List FurtherFile). ArePutApart own files after) (sym (take_more further i file lt))
    (put_more own (take i further) (get_or further i file) one before after was (subst (λ (f : FurtherFile). AreApartOf f.bytes.items one.raws one.faults) here is) raws faults counts)

pub apartly_at : (further : List FurtherFile) (i : ℕ) (file : FurtherFile) (failure : Failure) → i < length further → file ≡ get_or further i file → IsBadlyApart file.bytes.items failure → FailsApartly further failure
apartly_at further i file failure lt here fails =
    let around : further ≡ take i further ++ get_or further i file ∷ drop (suc i) further = sym (take-append-drop i further) ∙ ap (λ (l : List FurtherFile). take i further ++ l) (drop-cons further i file lt) in
    subst (λ (files : List FurtherFile). FailsApartly files failure) (sym around)
    (apartly (take i further) (drop (suc i) further) (get_or further i file) failure (subst (λ (f : FurtherFile). IsBadlyApart f.bytes.items failure) here fails))

-- ---- a file that hides all its entries

pub badly_told : (bytes : List ℕ) (fault : FurtherFault) (failure : Failure) → LacksApart bytes fault → TellsFurther fault failure → IsBadlyApart bytes failure
badly_told bytes (further_faults.Source fault) failure lacks tells = subst (IsBadlyApart bytes) (sym tells) lacks
badly_told bytes (further_faults.Pack fault) failure lacks tells = subst (IsBadlyApart bytes) (sym tells) lacks
badly_told bytes further_faults.NoMemory failure lacks tells = subst (IsBadlyApart bytes) (sym tells) tt

pub beside_unread : (held : Held) (failure : Failure) → FailsReading held.with_paths failure ⊎ (failure ≡ NoMemory) → FailsBeside held failure
beside_unread held failure fails = ⊎_elim (λ unread. inl unread) (λ full. inr (inr full)) fails

pub beside_apart : (held : Held) (others : List FurtherFile) (failure : Failure) → AreHeld held held.with_paths others → FailsApartly others failure ⊎ (failure ≡ NoMemory) → FailsBeside held failure
beside_apart held others failure are fails = ⊎_elim (λ hidden. inr (inl (others, are, hidden))) (λ full. inr (inr full)) fails

-- ---- the source's own entries among all

pub own_count : (own : OneApart) (others : List FurtherFile) (all : AllApart) → ArePutApart own others all → first_count all.counts ≡ length own.raws
own_count own others all put = ap first_count put.counts_are

pub own_within : (own : OneApart) (others : List FurtherFile) (all : AllApart) → ArePutApart own others all → first_count all.counts ≤ length all.raws
own_within own others all put =
    omega (arith, own_count own others all put, ap length put.raws_are, length-append own.raws (flat_map (λ (one : OneApart). one.raws) put.ones))
