-- Suggestions, one after another, and names for parts of a reply.
use Rattle.std.proofs.Common.{◌≡◌, ◌≢◌, ◌<◌, ◌+◌, ℕ, Bool, List, [], ◌∷◌, ◌++◌, Option, Some, None, Result, Ok, Err, IfSome, append_assoc, length, get_or, ap, refl, sym, subst, ◌∙◌}
use Rattle.std.specs.Prelude.{OnOk, if◌then◌else◌}
use Rattle.std.specs.Result.{is_ok}
use Rattle.std.specs.List.{AllByRecursion}
use Rattle.std.proofs.lemmas.Option.{slice_get-get_or}
use Rattle.ti_caps.specs.Entry.{Content}
use Rattle.ti_faults.specs.declared.mended.Mended.{Mended}
use Rattle.ti_repairs.specs.Advices.{Fits, IsAdvice, IsAdvisedAt, optional}
use Rattle.ti_repairs.specs.declared.suggestions.Listed.{Listed}
use Rattle.ti_repairs.specs.Delivery.{Delivers, DeliversTo, IsTarget}
use Rattle.ti_repairs.specs.Notes.{kept_lines}
use Rattle.ti_repairs.specs.declared.delivery.Target.{Target}
use Rattle.ti_commands.proofs.FurtherFacts.{named}
use Rattle.ti_commands.specs.Further.{ArePutTogether, Together}
use Rattle.ti_files.specs.Contents.{Held}
use Rattle.ti_files.specs.declared.failure.Failure.{Failure}
use Rattle.ti_files.specs.declared.failure.Reply.{Reply}
use Rattle.ti_fixes.specs.Files.{Sheet}
use Rattle.ti_steps.specs.declared.advice.Advice.{Advice}
use Rattle.ti_steps.specs.declared.kept.Kept.{Kept}
use Rattle.ti_source.specs.declared.types.RawEntry.{RawEntry}
use Rattle.ti_sources.specs.declared.files.FurtherFile.{FurtherFile}
use denote.Ref.{Bor}

found_fits : (found : Option Advice) → IfSome found Fits → AllByRecursion Fits (optional found)
found_fits None h = tt
found_fits (Some advice) h = (h, tt)

fit_both : (xs ys : List Advice) → AllByRecursion Fits xs → AllByRecursion Fits ys → AllByRecursion Fits (xs ++ ys)
fit_both [] ys h k = k
fit_both (x ∷ xs) ys h k = (h.0, fit_both xs ys h.1 k)

-- one more suggestion, if there is one
pub fits_next : (advices more : List Advice) (found : Option Advice) → more ≡ advices ++ optional found → AllByRecursion Fits advices → IfSome found Fits → AllByRecursion Fits more
fits_next advices more found is h k = subst (λ (xs : List Advice). AllByRecursion Fits xs) (sym is) (fit_both advices (optional found) h (found_fits found k))

value_or : Listed → Option Listed → Listed
value_or one None = one
value_or one (Some own) = own

-- the suggestion for the item at a place of a list
pub advised_here : (entry : Content) (mended : Mended) (all : List Listed) (n : ℕ) (one : Listed) (found : Option Advice) → n < length all → one ≡ get_or all n one → IsAdvice entry mended one found → IsAdvisedAt entry mended all n (optional found)
unfolding value_or
advised_here entry mended all n one found l is h = λ listed there. record {
  found = found;
  advice = subst (λ (x : Listed). IsAdvice entry mended x found) (is ∙ ap (value_or one) (sym (slice_get-get_or all n one l) ∙ there)) h;
  is = refl;
}

-- the notes, by other names of what they are about
pub noted_so : (named ended : Bool) (slice raws : List RawEntry) (own kept : List Kept) (notes lines still all : List ℕ) → slice ≡ raws → own ≡ kept → notes ≡ kept_lines named slice own ended → lines ≡ still → all ≡ notes ++ lines → all ≡ kept_lines named raws kept ended ++ still
noted_so named ended slice raws own kept notes lines still all r t n l is =
    is
    ∙ (ap (λ (x : List ℕ). x ++ lines) (n ∙ (ap (λ (rs : List RawEntry). kept_lines named rs own ended) r ∙ ap (λ (ks : List Kept). kept_lines named raws ks ended) t))
    ∙ ap (λ (x : List ℕ). kept_lines named raws kept ended ++ x) l)

-- a text in three parts behind an old one, the last of which may fail
pub three_parts : {T E : Type 0} (result : Result T E) (old own words tail mid all given : List ℕ) → mid ≡ old ++ (own ++ words) → tail ≡ given → all ≡ (if is_ok result then mid ++ tail else mid) → OnOk result (all ≡ old ++ (own ++ (words ++ given)))
three_parts (Ok done) old own words tail mid all given e t h =
    h
    ∙ (ap (λ (x : List ℕ). x ++ tail) e
    ∙ (append_assoc old (own ++ words) tail
    ∙ (ap (λ (x : List ℕ). old ++ x) (append_assoc own words tail) ∙ ap (λ (x : List ℕ). old ++ (own ++ (words ++ x))) t)))
three_parts (Err fault) old own words tail mid all given e t h = tt

-- ---- where the texts go

pub delivers_so : (further : List FurtherFile) (out : Option (Bor (List ℕ))) (target : Target) (news : List Sheet) (ended : Option Failure) (before after : Held) (reply : Reply) → IsTarget further out target → DeliversTo target news ended before after reply → Delivers further news ended out before after reply
delivers_so [] out target news ended before after reply is h = subst (λ (t : Target). DeliversTo t news ended before after reply) is h
delivers_so (file ∷ files) None target news ended before after reply is h = absurd is
delivers_so (file ∷ files) (Some folder) target news ended before after reply is h = subst (λ (t : Target). DeliversTo t news ended before after reply) is h

-- there are further files only if the line names some
pub several_paths : (held : Held) (own : List RawEntry) (all : Together) (slice : List FurtherFile) → slice ≡ all.files → slice ≢ [] → ArePutTogether held own all → held.with_paths ≢ []
several_paths held own all slice is some together = λ none. some (is ∙ named held own all together none)
