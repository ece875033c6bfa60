-- The statements about each item of a list, one after another.
use Rattle.std.proofs.Common.{◌≡◌, ◌<◌, ℕ, Bool, zero, suc, ◌+◌, List, [], ◌∷◌, ◌++◌, length, take, get_or, Option, Some, Result, refl, sym, ap, subst, ◌∙◌, append_assoc, add-one, arith}
use Rattle.std.specs.List.{range_with_len}
use Rattle.std.specs.Prelude.{map, slice_get}
use Rattle.std.proofs.lemmas.List.{append-nil}
use Rattle.ti_caps.specs.Entry.{Content}
use Rattle.ti_source.specs.Apart.{Alone, IsApart}
use Rattle.ti_source.specs.declared.types.RawEntry.{RawEntry}
use Rattle.ti_source.specs.declared.types.SourceFault.{SourceFault}
use Rattle.ti_files.specs.Contents.{Held}
use Rattle.ti_files.specs.Words.{texts_of}
use Rattle.ti_files.specs.declared.failure.CommandRefusal.{CommandRefusal}
use Rattle.ti_surveys.specs.Lines.{IsSourcePart, IsTold, Leaving, Refusing, ResolvesApart, Saying, StandsAt}
use Rattle.ti_verdicts.specs.Locations.{first_name}
use Rattle.ti_sources.specs.LinedFiles.{PutFiles}
use Rattle.ti_surveys.specs.Surveys.{HasLines, OfFile}
use Rattle.ti_surveys.specs.Told.{IsEither, IsToldOfEach, IsToldOrLeft, Told, followed_by, left_if, nothing}
use denote.Ref.{Bor}

range_more : (from n : ℕ) → range_with_len from (suc n) ≡ range_with_len from n ++ (from + n) ∷ []
range_more from zero = ap (λ (k : ℕ). k ∷ []) (omega arith)
range_more from (suc n) = ap (λ (l : List ℕ). from ∷ l) (range_more (from + 1) n ∙ ap (λ (k : ℕ). range_with_len (from + 1) n ++ k ∷ []) (omega arith))

-- ---- statements

right_nothing : (t : Told) → followed_by t nothing ≡ t
right_nothing t = rw (append-nil t.lines, append-nil t.places, append-nil t.answers, append-nil t.opened) refl

said_assoc : (a b c : Told) → followed_by (followed_by a b) c ≡ followed_by a (followed_by b c)
said_assoc a b c = rw (append_assoc a.lines b.lines c.lines, append_assoc a.places b.places c.places, append_assoc a.answers b.answers c.answers, append_assoc a.opened b.opened c.opened) refl

said_end : {X : Type 0} (P : X → Told → Type 0) (xs : List X) (x : X) (told own : Told) → IsToldOfEach P xs told → P x own → IsToldOfEach P (xs ++ x ∷ []) (followed_by told own)
unfolding IsToldOfEach
said_end P [] x told own h p = (own, nothing, ap (λ (t : Told). followed_by t own) h ∙ sym (right_nothing own), p, refl)
said_end P (first ∷ xs) x told own h p =
    (h.0, followed_by h.1 own, ap (λ (t : Told). followed_by t own) h.2 ∙ said_assoc h.0 h.1 own, h.3, said_end P xs x h.1 own h.4 p)

pub said_of_none : {X : Type 0} (P : X → Told → Type 0) (told : Told) → told ≡ nothing → IsToldOfEach P [] told
unfolding IsToldOfEach
said_of_none P told e = e

-- the statement about one more place, after those before it
pub said_step : (P : ℕ → Told → Type 0) (n : ℕ) (told own more : Told) → more ≡ followed_by told own → IsToldOfEach P (range_with_len 0 n) told → P n own → IsToldOfEach P (range_with_len 0 (n + 1)) more
said_step P n told own more spelled h p =
    let longer : range_with_len 0 n ++ n ∷ [] ≡ range_with_len 0 (n + 1) = ap (λ (k : ℕ). range_with_len 0 n ++ k ∷ []) (omega arith) ∙ (sym (range_more 0 n) ∙ ap (λ (m : ℕ). range_with_len 0 m) (sym (add-one n))) in
    subst (λ (places : List ℕ). IsToldOfEach P places more) longer
    (subst (λ (t : Told). IsToldOfEach P (range_with_len 0 n ++ n ∷ []) t) (sym spelled) (said_end P (range_with_len 0 n) n told own h p))

-- ---- paths

pub told_or_left_none : {X : Type 0} (P Leaves : X → Told → Type 0) (told : Told) (left : List X) → told ≡ nothing → left ≡ [] → IsToldOrLeft P Leaves [] told left
unfolding IsToldOrLeft
told_or_left_none P Leaves told left e f = (e, f)

told_end : {X : Type 0} (P Leaves : X → Told → Type 0) (xs : List X) (x : X) (told own : Told) (left : List X) (is_left : Bool) → IsToldOrLeft P Leaves xs told left → IsEither P Leaves is_left x own
    → IsToldOrLeft P Leaves (xs ++ x ∷ []) (followed_by told own) (left ++ left_if is_left x)
unfolding IsToldOrLeft
told_end {X} P Leaves [] x told own left is_left h p =
    (is_left, own, nothing, [], ap (λ (t : Told). followed_by t own) h.0 ∙ sym (right_nothing own), ap (λ (l : List X). l ++ left_if is_left x) h.1 ∙ sym (append-nil (left_if is_left x)), p, (refl, refl))
told_end {X} P Leaves (first ∷ xs) x told own left is_left h p =
    (h.0, h.1, followed_by h.2 own, h.3 ++ left_if is_left x, ap (λ (t : Told). followed_by t own) h.4 ∙ said_assoc h.1 h.2 own, ap (λ (l : List X). l ++ left_if is_left x) h.5 ∙ append_assoc (left_if h.0 first) h.3 (left_if is_left x), h.6, told_end P Leaves xs x h.2 own h.3 is_left h.7 p)

pub taken_text : (words : List (Bor (List ℕ))) (n : ℕ) (d : Bor (List ℕ)) → n < length words → take (suc n) (texts_of words) ≡ take n (texts_of words) ++ (get_or words n d).now ∷ []
taken_text [] n d h = absurd (omega (arith, h))
taken_text (word ∷ words) zero d h = refl
taken_text (word ∷ words) (suc n) d h = ap (λ (l : List (List ℕ)). word.now ∷ l) (taken_text words n d (omega (arith, h)))

one_more : (P Leaves : List ℕ → Told → Type 0) (words : List (Bor (List ℕ))) (n : ℕ) (d : Bor (List ℕ)) (told own : Told) (left : List (List ℕ)) (is_left : Bool) → n < length words
    → IsToldOrLeft P Leaves (take n (texts_of words)) told left → IsEither P Leaves is_left (get_or words n d).now own → IsToldOrLeft P Leaves (take (n + 1) (texts_of words)) (followed_by told own) (left ++ left_if is_left (get_or words n d).now)
one_more P Leaves words n d told own left is_left l h p =
    subst (λ (m : ℕ). IsToldOrLeft P Leaves (take m (texts_of words)) (followed_by told own) (left ++ left_if is_left (get_or words n d).now)) (sym (add-one n))
    (subst (λ (ys : List (List ℕ)). IsToldOrLeft P Leaves ys (followed_by told own) (left ++ left_if is_left (get_or words n d).now)) (sym (taken_text words n d l))
    (told_end P Leaves (take n (texts_of words)) (get_or words n d).now told own left is_left h p))

-- one more path, of files that hold what they held: it has its statements, or is left and has those
pub paths_step : (Are : OfFile) (Leaves : Leaving) (held now : Held) (words : List (Bor (List ℕ))) (n : ℕ) (d : Bor (List ℕ)) (told more own : Told) (left both : List (List ℕ)) (is_left : Bool) → n < length words → now ≡ held → more ≡ followed_by told own
    → both ≡ left ++ left_if is_left (get_or words n d).now → IsToldOrLeft (HasLines Are held) Leaves (take n (texts_of words)) told left → IsEither (HasLines Are now) Leaves is_left (get_or words n d).now own
    → IsToldOrLeft (HasLines Are held) Leaves (take (n + 1) (texts_of words)) more both
paths_step Are Leaves held now words n d told more own left both is_left l same spelled listed h p =
    subst (λ (t : Told). IsToldOrLeft (HasLines Are held) Leaves (take (n + 1) (texts_of words)) t both) (sym spelled)
    (subst (λ (b : List (List ℕ)). IsToldOrLeft (HasLines Are held) Leaves (take (n + 1) (texts_of words)) (followed_by told own) b) (sym listed)
    (one_more (HasLines Are held) Leaves words n d told own left is_left l h (subst (λ (k : Held). IsEither (HasLines Are k) Leaves is_left (get_or words n d).now own) same p)))

-- ---- lines

map_length : {X Y : Type 0} (f : X → Y) (xs : List X) → length (map f xs) ≡ length xs
map_length f [] = refl
map_length f (x ∷ xs) = ap suc (map_length f xs)

-- each entry has a fault or none beside it
pub faults_beside : (text : List ℕ) (raws : List RawEntry) (faults : List (Option SourceFault)) → IsApart text raws faults → length faults ≡ length raws
faults_beside text raws faults apart =
    ap length apart.faults_are ∙ (map_length (λ (one : Alone). one.fault) apart.ones ∙ sym (ap length apart.raws_are ∙ map_length (λ (one : Alone). one.raw) apart.ones))

pub source_part_of : (Says : Saying) (Refuses : Refusing) (path : List ℕ) (files : PutFiles) (raws : List RawEntry) (faults : List (Option SourceFault)) (place at : ℕ) (raw : RawEntry) (entry : Result Content CommandRefusal) (names name : List ℕ) (said : Told) → slice_get raws place ≡ Some raw → names ≡ raw.names
    → name ≡ first_name names → ResolvesApart raws faults place entry → StandsAt raws faults place entry at → IsTold Says Refuses entry path (Some (record { files = files; raws = raws; place = at })) name said → IsSourcePart Says Refuses path files raws faults place said
source_part_of Says Refuses path files raws faults place at raw entry names name said there a b r stands t = record {
  raw = raw;
  there = there;
  entry = entry;
  resolves = r;
  at = at;
  stands = stands;
  told = subst (λ (n : List ℕ). IsTold Says Refuses entry path (Some (record { files = files; raws = raws; place = at })) n said) (b ∙ ap first_name a) t;
}
