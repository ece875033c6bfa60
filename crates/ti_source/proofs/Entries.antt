-- An entry, as its fields and notes are added.
use Rattle.std.proofs.Common.{◌≡◌, ℕ, ◌<◌, Bool, true, false, List, [], ◌∷◌, ◌++◌, length, replicate, Some, None, Result, Ok, Err, refl, sym, ap, ◌∙◌, append-nil, append_assoc}
use Rattle.std.specs.Prelude.{slice_set}
use Rattle.ti_source.specs.declared.types.FaultKind.{FaultKind}
use Rattle.ti_source.specs.declared.types.FaultKind.TheVariants as faults
use Rattle.ti_source.specs.declared.types.Field.{Field}
use Rattle.ti_source.specs.declared.types.Note.{Note}
use Rattle.ti_source.specs.declared.types.RawEntry.{RawEntry}
use Rattle.ti_source.specs.Drafts.{IsSeen}
use Rattle.ti_source.specs.Fields.{◌>>=◌, cap_of, is_told, with_notes, add_field, add_last, add_fields, add_cut, named_entry, begun_by, entry_on}
use Rattle.ti_source.specs.Layout.{Cut, put_field, cut_of}
use Rattle.ti_source.specs.Source.{FailsBy}
use Rattle.ti_source.proofs.Flags.{flags_none, flags_same, flags_more}

-- a fault of one step is the fault of everything that begins with it
pub fault_passes : {A : Type 0} (kind : FaultKind) (step all : Result A FaultKind) → (step ≡ Err kind → all ≡ Err kind) → FailsBy kind kind step → FailsBy kind kind all
fault_passes faults.NoName step all h e = h e
fault_passes faults.WrongKind step all h e = h e
fault_passes faults.BadNumber step all h e = h e
fault_passes faults.NumberRange step all h e = h e
fault_passes faults.OpenField step all h e = h e
fault_passes faults.BadEscape step all h e = h e
fault_passes faults.TooLong step all h e = h e
fault_passes faults.NoMemory step all h e = tt

regroup : {A B C : Type 0} (r : Result A FaultKind) (f : A → Result B FaultKind) (g : B → Result C FaultKind) → ((r >>= f) >>= g) ≡ (r >>= λ x. f x >>= g)
regroup (Ok x) f g = refl
regroup (Err e) f g = refl

-- a cut whose first field is known
first_field : (line : ℕ) (raw : RawEntry) (part : List ℕ) (behind : Cut) → add_cut line raw (put_field part behind) ≡ (add_field line raw part >>= λ next. add_cut line next behind)
unfolding add_cut
first_field line raw part behind =
    regroup (add_field line raw part) (λ next. add_fields line next behind.ended) (λ next. add_last next behind.last)

pub cut_more : (line : ℕ) (raw next : RawEntry) (part rest behind : List ℕ) → cut_of rest ≡ put_field part (cut_of behind) → add_field line raw part ≡ Ok next → add_cut line raw (cut_of rest) ≡ add_cut line next (cut_of behind)
cut_more line raw next part rest behind e h =
    ap (add_cut line raw) e ∙ (first_field line raw part (cut_of behind) ∙ ap (λ r. r >>= λ x. add_cut line x (cut_of behind)) h)

pub cut_fails : (line : ℕ) (raw : RawEntry) (kind : FaultKind) (part rest behind : List ℕ) → cut_of rest ≡ put_field part (cut_of behind) → add_field line raw part ≡ Err kind → add_cut line raw (cut_of rest) ≡ Err kind
cut_fails line raw kind part rest behind e h =
    ap (add_cut line raw) e ∙ (first_field line raw part (cut_of behind) ∙ ap (λ r. r >>= λ x. add_cut line x (cut_of behind)) h)

pub cut_last : (line : ℕ) (raw : RawEntry) (rest : List ℕ) → cut_of rest ≡ record { ended = []; last = rest } → add_cut line raw (cut_of rest) ≡ add_last raw rest
unfolding add_cut
cut_last line raw rest e = ap (add_cut line raw) e

-- notes added one after another
noted_twice : (raw : RawEntry) (xs ys : List Note) → with_notes (with_notes raw xs) ys ≡ with_notes raw (xs ++ ys)
noted_twice raw xs ys = ap (λ ns. record raw { notes = ns }) (append_assoc raw.notes xs ys)

pub no_notes : (raw : RawEntry) → raw ≡ with_notes raw []
no_notes raw = ap (λ ns. record raw { notes = ns }) (sym (append-nil raw.notes))

-- the flags of no fields, of one more, and of one that is about no capability
pub seen_none : (seen : List Bool) → seen ≡ replicate 497 false → IsSeen [] seen
unfolding is_told
seen_none seen e = flags_none cap_of seen e

pub seen_same : (fields : List Field) (field : Field) (seen : List Bool) → cap_of field ≡ None → IsSeen fields seen → IsSeen (fields ++ field ∷ []) seen
unfolding is_told
seen_same fields field seen e h = flags_same cap_of fields field seen e h

pub seen_more : (fields : List Field) (field : Field) (seen : List Bool) (place : ℕ) → cap_of field ≡ Some place → place < length seen → IsSeen fields seen → IsSeen (fields ++ field ∷ []) (slice_set seen place true)
unfolding is_told
seen_more fields field seen place e room h = flags_more cap_of fields field seen place e room h

-- the entry that begins with these names
pub begun_names : (line : ℕ) (text names behind : List ℕ) → cut_of text ≡ put_field names (cut_of behind) → entry_on line text ≡ (named_entry line names >>= λ raw. add_cut line raw (cut_of behind))
unfolding entry_on
begun_names line text names behind e = ap (λ c. begun_by line c.ended c.last) e

pub begun_fails : (line : ℕ) (text names behind : List ℕ) (raw : RawEntry) (kind : FaultKind) → cut_of text ≡ put_field names (cut_of behind) → named_entry line names ≡ Ok raw → add_cut line raw (cut_of behind) ≡ Err kind → entry_on line text ≡ Err kind
begun_fails line text names behind raw kind e h f = begun_names line text names behind e ∙ (ap (λ r. r >>= λ raw. add_cut line raw (cut_of behind)) h ∙ f)
