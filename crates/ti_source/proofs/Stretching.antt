-- Reading the entries of a text one by one, line by line, gives those of the whole text.
use Rattle.std.proofs.Common.{◌≡◌, ◌≢◌, ℕ, ◌+◌, Bool, true, false, not, ◌&&◌, List, [], ◌∷◌, ◌++◌, length, Option, Some, None, Result, Ok, Err, refl, sym, ap, ◌∙◌, subst, append-nil, append_assoc}
use Rattle.std.specs.Prelude.{if◌then◌else◌, map, nat_lt}
use Rattle.std.proofs.lemmas.Bool.{cond-true, cond-false}
use Rattle.ti_source.specs.declared.types.FaultKind.{FaultKind}
use Rattle.ti_source.specs.declared.types.FaultKind.TheVariants as faults
use Rattle.ti_source.specs.declared.types.RawEntry.{RawEntry}
use Rattle.ti_source.specs.declared.types.SourceFault.{SourceFault}
use Rattle.ti_source.specs.Apart.{Alone, FaultlessIsApart, IsApart, Stretch, Stretches, WholeIsTogether, add_line, all_together, alone, alone_by, apart_by, apart_in, apart_of, front_fault, further_of, on_line, onto_stretches, stretch_at, stretches_from, together, was_read, with_alone}
use Rattle.ti_source.specs.Fields.{◌>>=◌, add_cut, entry_on}
use Rattle.ti_source.specs.Layout.{cut_of, lines_of}
use Rattle.ti_source.specs.Lines.{begins_entry}
use Rattle.ti_source.specs.Source.{FailsBy, Progress, begins_white, begun, continued, fault_at, is_passed, lines_behind, no_progress, read_line, read_lines, source_of}

-- ---- one more line

pub begun_stretch : (number : ℕ) (line : List ℕ) (behind : Stretches) → begins_entry line ≡ true → onto_stretches number line behind ≡ record { ahead = []; entries = stretch_at number line behind.ahead ∷ behind.entries }
unfolding onto_stretches
begun_stretch number line behind begins = cond-true (begins_entry line) _ _ begins

pub further_stretch : (number : ℕ) (line : List ℕ) (behind : Stretches) → begins_entry line ≡ false → onto_stretches number line behind ≡ record { ahead = line ∷ behind.ahead; entries = behind.entries }
unfolding onto_stretches
further_stretch number line behind none = cond-false (begins_entry line) _ _ none

abbrev pub stretches_in : ℕ → List ℕ → Stretches
stretches_in number rest = stretches_from number (lines_of rest)

begun_cut : (number : ℕ) (line rest behind : List ℕ) → lines_of rest ≡ line ∷ lines_of behind → begins_entry line ≡ true → stretches_in number rest ≡ record { ahead = []; entries = stretch_at number line (stretches_in (number + 1) behind).ahead ∷ (stretches_in (number + 1) behind).entries }
begun_cut number line rest behind cut begins = ap (stretches_from number) cut ∙ begun_stretch number line (stretches_in (number + 1) behind) begins

further_cut : (number : ℕ) (line rest behind : List ℕ) → lines_of rest ≡ line ∷ lines_of behind → begins_entry line ≡ false → stretches_in number rest ≡ record { ahead = line ∷ (stretches_in (number + 1) behind).ahead; entries = (stretches_in (number + 1) behind).entries }
further_cut number line rest behind cut none = ap (stretches_from number) cut ∙ further_stretch number line (stretches_in (number + 1) behind) none

-- ---- before the first entry

abbrev front_in : ℕ → List ℕ → Option SourceFault
front_in number rest = front_fault number (stretches_in number rest).ahead

pub front_end : (number : ℕ) (all : Option SourceFault) (line rest behind : List ℕ) → lines_of rest ≡ line ∷ lines_of behind → begins_entry line ≡ true → front_in number rest ≡ all → None ≡ all
front_end number all line rest behind cut begins was = sym (ap (λ s. front_fault number s.ahead) (begun_cut number line rest behind cut begins)) ∙ was

pub front_out : (number : ℕ) (all : Option SourceFault) (rest : List ℕ) → lines_of rest ≡ [] → front_in number rest ≡ all → None ≡ all
front_out number all rest cut was = sym (ap (λ ls. front_fault number (stretches_from number ls).ahead) cut) ∙ was

front_line : (number : ℕ) (line rest behind : List ℕ) → lines_of rest ≡ line ∷ lines_of behind → begins_entry line ≡ false → front_in number rest ≡ (if is_passed line then front_in (number + 1) behind else Some (fault_at number faults.NoName))
front_line number line rest behind cut none = ap (λ s. front_fault number s.ahead) (further_cut number line rest behind cut none)

pub front_passed : (number : ℕ) (all : Option SourceFault) (line rest behind : List ℕ) → lines_of rest ≡ line ∷ lines_of behind → begins_entry line ≡ false → is_passed line ≡ true → front_in number rest ≡ all → front_in (number + 1) behind ≡ all
front_passed number all line rest behind cut none passed was =
    sym (front_line number line rest behind cut none ∙ cond-true (is_passed line) _ _ passed) ∙ was

pub front_found : (number : ℕ) (all : Option SourceFault) (line rest behind : List ℕ) → lines_of rest ≡ line ∷ lines_of behind → begins_entry line ≡ false → is_passed line ≡ false → front_in number rest ≡ all → Some (fault_at number faults.NoName) ≡ all
front_found number all line rest behind cut none passed was =
    sym (front_line number line rest behind cut none ∙ cond-false (is_passed line) _ _ passed) ∙ was

-- ---- the lines of an entry

abbrev further_in : ℕ → List ℕ → RawEntry → Result RawEntry SourceFault
further_in number rest raw = further_of number (stretches_in number rest).ahead raw

pub further_end : (number : ℕ) (raw : RawEntry) (all : Result RawEntry SourceFault) (line rest behind : List ℕ) → lines_of rest ≡ line ∷ lines_of behind → begins_entry line ≡ true → further_in number rest raw ≡ all → all ≡ Ok raw
further_end number raw all line rest behind cut begins was = sym was ∙ ap (λ s. further_of number s.ahead raw) (begun_cut number line rest behind cut begins)

pub further_out : (number : ℕ) (raw : RawEntry) (all : Result RawEntry SourceFault) (rest : List ℕ) → lines_of rest ≡ [] → further_in number rest raw ≡ all → all ≡ Ok raw
further_out number raw all rest cut was = sym was ∙ ap (λ ls. further_of number (stretches_from number ls).ahead raw) cut

further_line : (number : ℕ) (raw : RawEntry) (line rest behind : List ℕ) → lines_of rest ≡ line ∷ lines_of behind → begins_entry line ≡ false → further_in number rest raw ≡ on_line number (add_line number line raw) (further_in (number + 1) behind)
further_line number raw line rest behind cut none = ap (λ s. further_of number s.ahead raw) (further_cut number line rest behind cut none)

pub further_more : (number : ℕ) (raw next : RawEntry) (all : Result RawEntry SourceFault) (line rest behind : List ℕ) → lines_of rest ≡ line ∷ lines_of behind → begins_entry line ≡ false → add_line number line raw ≡ Ok next → further_in number rest raw ≡ all → further_in (number + 1) behind next ≡ all
further_more number raw next all line rest behind cut none is was =
    sym (further_line number raw line rest behind cut none ∙ ap (λ r. on_line number r (further_in (number + 1) behind)) is) ∙ was

pub fails_on : {A B : Type 0} (number : ℕ) (kind : FaultKind) (step : Result A FaultKind) (behind : A → Result B SourceFault) → FailsBy kind kind step → FailsBy kind (fault_at number kind) (on_line number step behind)
fails_on number faults.NoName step behind e = ap (λ r. on_line number r behind) e
fails_on number faults.WrongKind step behind e = ap (λ r. on_line number r behind) e
fails_on number faults.BadNumber step behind e = ap (λ r. on_line number r behind) e
fails_on number faults.NumberRange step behind e = ap (λ r. on_line number r behind) e
fails_on number faults.OpenField step behind e = ap (λ r. on_line number r behind) e
fails_on number faults.BadEscape step behind e = ap (λ r. on_line number r behind) e
fails_on number faults.TooLong step behind e = ap (λ r. on_line number r behind) e
fails_on number faults.NoMemory step behind e = tt

pub further_fails : (number : ℕ) (fault : SourceFault) (raw : RawEntry) (all : Result RawEntry SourceFault) (line rest behind : List ℕ) → lines_of rest ≡ line ∷ lines_of behind → begins_entry line ≡ false → fault.line ≡ number → FailsBy fault.kind fault.kind (add_line number line raw) → further_in number rest raw ≡ all → FailsBy fault.kind fault all
further_fails number fault raw all line rest behind cut none at fails was =
    subst (λ (f : SourceFault). FailsBy fault.kind f all) (sym (ap (λ n. fault_at n fault.kind) at))
    (subst (λ (r : Result RawEntry SourceFault). FailsBy fault.kind (fault_at number fault.kind) r) (sym (further_line number raw line rest behind cut none) ∙ was)
    (fails_on number fault.kind (add_line number line raw) (further_in (number + 1) behind) fails))

pub told : {A : Type 0} (kind : FaultKind) (fault : SourceFault) (read : Result A SourceFault) → kind ≢ faults.NoMemory → FailsBy kind fault read → read ≡ Err fault
told faults.NoName fault read apart e = e
told faults.WrongKind fault read apart e = e
told faults.BadNumber fault read apart e = e
told faults.NumberRange fault read apart e = e
told faults.OpenField fault read apart e = e
told faults.BadEscape fault read apart e = e
told faults.TooLong fault read apart e = e
told faults.NoMemory fault read apart e = absurd (apart refl)

-- ---- the entries

pub entries_begun : {X : Type 0} (f : Stretch → X) (number : ℕ) (so_far next all : List X) (line rest behind : List ℕ) → lines_of rest ≡ line ∷ lines_of behind → begins_entry line ≡ true → next ≡ so_far ++ f (stretch_at number line (stretches_in (number + 1) behind).ahead) ∷ [] → so_far ++ map f (stretches_in number rest).entries ≡ all → next ++ map f (stretches_in (number + 1) behind).entries ≡ all
entries_begun f number so_far next all line rest behind cut begins is was =
    let own = f (stretch_at number line (stretches_in (number + 1) behind).ahead) in
    let later = map f (stretches_in (number + 1) behind).entries in
    ap (λ xs. xs ++ later) is ∙ (append_assoc so_far (own ∷ []) later ∙ (sym (ap (λ s. so_far ++ map f s.entries) (begun_cut number line rest behind cut begins)) ∙ was))

pub entries_passed : {X : Type 0} (f : Stretch → X) (number : ℕ) (so_far all : List X) (line rest behind : List ℕ) → lines_of rest ≡ line ∷ lines_of behind → begins_entry line ≡ false → so_far ++ map f (stretches_in number rest).entries ≡ all → so_far ++ map f (stretches_in (number + 1) behind).entries ≡ all
entries_passed f number so_far all line rest behind cut none was =
    sym (ap (λ s. so_far ++ map f s.entries) (further_cut number line rest behind cut none)) ∙ was

pub entries_out : {X : Type 0} (f : Stretch → X) (number : ℕ) (so_far all : List X) (rest : List ℕ) → lines_of rest ≡ [] → so_far ++ map f (stretches_in number rest).entries ≡ all → so_far ≡ all
entries_out f number so_far all rest cut was =
    sym (append-nil so_far) ∙ (sym (ap (λ ls. so_far ++ map f (stretches_from number ls).entries) cut) ∙ was)

map_map : {X Y Z : Type 0} (g : Y → Z) (f : X → Y) (xs : List X) → map (λ x. g (f x)) xs ≡ map g (map f xs)
map_map g f [] = refl
map_map g f (x ∷ xs) = ap (λ zs. g (f x) ∷ zs) (map_map g f xs)

pub apart_is : (text : List ℕ) (raws : List RawEntry) (whys : List (Option SourceFault)) → nat_lt 16777216 (length text) ≡ false → front_in 1 text ≡ None → raws ≡ map (λ s. (alone s).raw) (stretches_in 1 text).entries → whys ≡ map (λ s. (alone s).fault) (stretches_in 1 text).entries → IsApart text raws whys
unfolding apart_of
apart_is text raws whys short fine a b = record {
  ones = map alone (stretches_in 1 text).entries;
  reads = cond-false (nat_lt 16777216 (length text)) _ _ short ∙ ap (λ f. apart_by f (stretches_in 1 text).entries) fine;
  raws_are = a ∙ map_map (λ (one : Alone). one.raw) alone (stretches_in 1 text).entries;
  faults_are = b ∙ map_map (λ (one : Alone). one.fault) alone (stretches_in 1 text).entries;
}

pub apart_fails : (text : List ℕ) (fault : SourceFault) → nat_lt 16777216 (length text) ≡ false → front_in 1 text ≡ Some fault → apart_of text ≡ Err fault
unfolding apart_of
apart_fails text fault short front = cond-false (nat_lt 16777216 (length text)) _ _ short ∙ ap (λ f. apart_by f (stretches_in 1 text).entries) front

-- ---- the whole text

-- an entry that is continued, and those after it
joined : List RawEntry → Result RawEntry SourceFault → Result (List RawEntry) SourceFault → Result (List RawEntry) SourceFault
joined done (Err fault) rest = Err fault
joined done (Ok raw) (Err fault) = Err fault
joined done (Ok raw) (Ok raws) = Ok (done ++ raw ∷ raws)

abbrev opened : List RawEntry → RawEntry → Progress
opened done raw = record { done = done; open_entry = Some raw }

abbrev one_then : Stretch → Result RawEntry SourceFault → Result (List RawEntry) SourceFault → Result (List RawEntry) SourceFault
one_then s r rest = with_alone (alone_by s r).raw (alone_by s r).fault rest

two_joined : (done : List RawEntry) (raw : RawEntry) (s : Stretch) (r : Result RawEntry SourceFault) (rest : Result (List RawEntry) SourceFault) → joined (done ++ raw ∷ []) r rest ≡ joined done (Ok raw) (one_then s r rest)
unfolding joined
two_joined done raw s (Err fault) rest = refl
two_joined done raw s (Ok next) (Err fault) = refl
two_joined done raw s (Ok next) (Ok raws) = ap Ok (append_assoc done (raw ∷ []) (next ∷ raws))

one_joined : (s : Stretch) (r : Result RawEntry SourceFault) (rest : Result (List RawEntry) SourceFault) → joined [] r rest ≡ one_then s r rest
unfolding joined
one_joined s (Err fault) rest = refl
one_joined s (Ok next) (Err fault) = refl
one_joined s (Ok next) (Ok raws) = refl

-- the kind of a line
record Passes (number : ℕ) (line : List ℕ) (progress : Progress) : Type 0 where
  reads : read_line number line progress ≡ Ok progress
  begins : begins_entry line ≡ false

record GoesOn (number : ℕ) (line : List ℕ) (progress : Progress) : Type 0 where
  reads : read_line number line progress ≡ continued number line progress progress.open_entry
  begins : begins_entry line ≡ false

record Begins (number : ℕ) (line : List ℕ) (progress : Progress) : Type 0 where
  reads : read_line number line progress ≡ begun number line progress
  begins : begins_entry line ≡ true

by_line : (P : Type 0) (number : ℕ) (line : List ℕ) (progress : Progress) → (is_passed line ≡ true → Passes number line progress → P) → (is_passed line ≡ false → GoesOn number line progress → P) → (Begins number line progress → P) → P
unfolding read_line
by_line P number line progress passed further begins = at (is_passed line) refl (begins_white line) refl
  where
    at : (t : Bool) → is_passed line ≡ t → (w : Bool) → begins_white line ≡ w → P
    at true e w f = passed e (record { reads = cond-true (is_passed line) _ _ e; begins = ap (λ t. not t && not (begins_white line)) e })
    at false e true f = further e (record {
      reads = cond-false (is_passed line) _ _ e ∙ cond-true (begins_white line) _ _ f;
      begins = ap (λ t. not t && not (begins_white line)) e ∙ ap not f;
    })
    at false e false f = begins (record {
      reads = cond-false (is_passed line) _ _ e ∙ cond-false (begins_white line) _ _ f;
      begins = ap (λ t. not t && not (begins_white line)) e ∙ ap not f;
    })

added_passed : (number : ℕ) (line : List ℕ) (raw : RawEntry) → is_passed line ≡ true → add_line number line raw ≡ Ok raw
unfolding add_line
added_passed number line raw e = cond-true (is_passed line) _ _ e

added_cut : (number : ℕ) (line : List ℕ) (raw : RawEntry) → is_passed line ≡ false → add_line number line raw ≡ add_cut number raw (cut_of line)
unfolding add_line
added_cut number line raw e = cond-false (is_passed line) _ _ e

abbrev later_than : Stretches → Result (List RawEntry) SourceFault
later_than s = together (map alone s.entries)

abbrev joined_in : ℕ → List RawEntry → RawEntry → Stretches → Result (List RawEntry) SourceFault
joined_in number done raw s = joined done (further_of number s.ahead raw) (later_than s)

abbrev Going : ℕ → List (List ℕ) → Type 0
Going number lines = (done : List RawEntry) (raw : RawEntry) → read_lines number lines (opened done raw) ≡ joined_in number done raw (stretches_from number lines)

goes_on : (number : ℕ) (lines : List (List ℕ)) (done : List RawEntry) (step : Result RawEntry FaultKind) → Going (number + 1) lines
    → lines_behind number (step >>= λ next. Ok (opened done next)) (read_lines (number + 1) lines) ≡ joined done (on_line number step (further_of (number + 1) (stretches_from (number + 1) lines).ahead)) (later_than (stretches_from (number + 1) lines))
unfolding joined
goes_on number lines done (Err kind) going = refl
goes_on number lines done (Ok next) going = going done next

begins_next : (number : ℕ) (line : List ℕ) (lines : List (List ℕ)) (done : List RawEntry) (raw : RawEntry) (step : Result RawEntry FaultKind) → Going (number + 1) lines
    → lines_behind number (step >>= λ next. Ok (opened (done ++ raw ∷ []) next)) (read_lines (number + 1) lines) ≡ joined done (Ok raw) (one_then (stretch_at number line (stretches_from (number + 1) lines).ahead) (on_line number step (further_of (number + 1) (stretches_from (number + 1) lines).ahead)) (later_than (stretches_from (number + 1) lines)))
unfolding joined
begins_next number line lines done raw (Err kind) going = refl
begins_next number line lines done raw (Ok next) going =
    let behind = stretches_from (number + 1) lines in
    going (done ++ raw ∷ []) next ∙ two_joined done raw (stretch_at number line behind.ahead) (further_of (number + 1) behind.ahead next) (later_than behind)

begins_first : (number : ℕ) (line : List ℕ) (lines : List (List ℕ)) (step : Result RawEntry FaultKind) → Going (number + 1) lines
    → lines_behind number (step >>= λ next. Ok (opened [] next)) (read_lines (number + 1) lines) ≡ one_then (stretch_at number line (stretches_from (number + 1) lines).ahead) (on_line number step (further_of (number + 1) (stretches_from (number + 1) lines).ahead)) (later_than (stretches_from (number + 1) lines))
begins_first number line lines (Err kind) going = refl
begins_first number line lines (Ok next) going =
    let behind = stretches_from (number + 1) lines in
    going [] next ∙ one_joined (stretch_at number line behind.ahead) (further_of (number + 1) behind.ahead next) (later_than behind)

open_read : (number : ℕ) (lines : List (List ℕ)) → Going number lines
unfolding joined
open_read number [] done raw = refl
open_read number (line ∷ lines) done raw =
    let progress = opened done raw in
    let behind = stretches_from (number + 1) lines in
    let all = joined_in number done raw (onto_stretches number line behind) in
    let ahead = λ (step : Result RawEntry FaultKind). joined done (on_line number step (further_of (number + 1) behind.ahead)) (later_than behind) in
    let next = λ (step : Result Progress FaultKind). lines_behind number step (read_lines (number + 1) lines) in
    by_line (next (read_line number line progress) ≡ all) number line progress
    (λ e it.
    ap next it.reads ∙ (open_read (number + 1) lines done raw
    ∙ sym (ap (joined_in number done raw) (further_stretch number line behind it.begins) ∙ ap ahead (added_passed number line raw e))))
    (λ e it.
    ap next it.reads ∙ (goes_on number lines done (add_cut number raw (cut_of line)) (open_read (number + 1) lines)
    ∙ sym (ap (joined_in number done raw) (further_stretch number line behind it.begins) ∙ ap ahead (added_cut number line raw e))))
    (λ it.
    ap next it.reads ∙ (begins_next number line lines done raw (entry_on number line) (open_read (number + 1) lines)
    ∙ sym (ap (joined_in number done raw) (begun_stretch number line behind it.begins))))

abbrev front_then : ℕ → Stretches → Result (List RawEntry) SourceFault
front_then number s = all_together (apart_by (front_fault number s.ahead) s.entries)

front_read : (number : ℕ) (lines : List (List ℕ)) → read_lines number lines no_progress ≡ front_then number (stretches_from number lines)
front_read number [] = refl
front_read number (line ∷ lines) =
    let behind = stretches_from (number + 1) lines in
    let all = front_then number (onto_stretches number line behind) in
    let ahead = λ (front : Option SourceFault). all_together (apart_by front behind.entries) in
    let next = λ (step : Result Progress FaultKind). lines_behind number step (read_lines (number + 1) lines) in
    by_line (next (read_line number line no_progress) ≡ all) number line no_progress
    (λ e it.
    ap next it.reads ∙ (front_read (number + 1) lines
    ∙ sym (ap (front_then number) (further_stretch number line behind it.begins) ∙ ap ahead (cond-true (is_passed line) _ _ e))))
    (λ e it.
    ap next it.reads
    ∙ sym (ap (front_then number) (further_stretch number line behind it.begins) ∙ ap ahead (cond-false (is_passed line) _ _ e)))
    (λ it.
    ap next it.reads ∙ (begins_first number line lines (entry_on number line) (open_read (number + 1) lines)
    ∙ sym (ap (front_then number) (begun_stretch number line behind it.begins))))

whole_by : (t : Bool) (fault : SourceFault) (read : Result (List RawEntry) SourceFault) (apart : Result (List Alone) SourceFault) → read ≡ all_together apart → (if t then Err fault else read) ≡ all_together (if t then Err fault else apart)
whole_by true fault read apart e = refl
whole_by false fault read apart e = e

pub whole_is_together : WholeIsTogether
unfolding source_of apart_of
whole_is_together text =
    whole_by (nat_lt 16777216 (length text)) (fault_at 0 faults.TooLong) (read_lines 1 (lines_of text) no_progress) (apart_in (stretches_from 1 (lines_of text))) (front_read 1 (lines_of text))

-- ---- a text without a fault

one_read : (one : Alone) → one.fault ≡ None → one ≡ was_read one.raw
one_read one e = ap (λ (f : Option SourceFault). record { raw = one.raw; fault = f }) e

pub same_ok : {A E : Type 0} (one other : A) → ◌≡◌ {A = Result A E} (Ok one) (Ok other) → one ≡ other
same_ok one other e = cc

read_by : (one : Alone) (others : List Alone) (raws : List RawEntry) (fault : Option SourceFault) (rest : Result (List RawEntry) SourceFault) → one.fault ≡ fault → together others ≡ rest → ((later : List RawEntry) → together others ≡ Ok later → others ≡ map was_read later) → with_alone one.raw fault rest ≡ Ok raws → one ∷ others ≡ map was_read raws
read_by one others raws (Some fault) rest e f all is = cc
read_by one others raws None (Err fault) e f all is = cc
read_by one others raws None (Ok later) e f all is =
    ap (λ first. first ∷ others) (one_read one e) ∙ (ap (λ more. was_read one.raw ∷ more) (all later f) ∙ ap (map was_read) (same_ok (one.raw ∷ later) raws is))

all_read : (ones : List Alone) (raws : List RawEntry) → together ones ≡ Ok raws → ones ≡ map was_read raws
all_read [] raws e = ap (map was_read) (same_ok [] raws e)
all_read (one ∷ others) raws e = read_by one others raws one.fault (together others) refl refl (all_read others) e

apart_read : (apart : Result (List Alone) SourceFault) (raws : List RawEntry) → all_together apart ≡ Ok raws → apart ≡ Ok (map was_read raws)
apart_read (Ok ones) raws e = ap Ok (all_read ones raws e)
apart_read (Err fault) raws e = cc

pub faultless_is_apart : FaultlessIsApart
faultless_is_apart text raws e = apart_read (apart_of text) raws (sym (whole_is_together text) ∙ e)
