-- The entries of a text without a fault are those of the whole text.
use Rattle.std.proofs.Common.{◌≡◌, ◌∙◌, ℕ, List, [], ◌∷◌, Option, None, Result, Ok, Err, refl, sym, ap, subst}
use Rattle.std.specs.Prelude.{map}
use Rattle.ti_caps.specs.Entry.{Content}
use Rattle.ti_commands.specs.Findings.{ResolvesAt}
use Rattle.ti_files.specs.declared.failure.CommandRefusal.{CommandRefusal}
use Rattle.ti_files.specs.declared.failure.CommandRefusal.TheVariants as refusals
use Rattle.ti_sources.specs.Resolution.{no_faults}
use Rattle.ti_sources.proofs.Faultless.{faultless_are_resolved}
use Rattle.ti_source.specs.Apart.{Alone, was_read}
use Rattle.ti_source.specs.declared.types.RawEntry.{RawEntry}
use Rattle.ti_source.specs.declared.types.SourceFault.{SourceFault}
use Rattle.ti_source.proofs.Stretching.{faultless_is_apart, same_ok}
use Rattle.ti_surveys.specs.Faultless.{FaultlessIsWhole}
use Rattle.ti_surveys.specs.Lines.{ResolvesApart}

raws_back : (raws : List RawEntry) → map (λ (one : Alone). one.raw) (map was_read raws) ≡ raws
raws_back [] = refl
raws_back (raw ∷ raws) = ap (λ rest. raw ∷ rest) (raws_back raws)

faults_back : (raws : List RawEntry) → map (λ (one : Alone). one.fault) (map was_read raws) ≡ no_faults raws
faults_back [] = refl
faults_back (raw ∷ raws) = ap (λ rest. None ∷ rest) (faults_back raws)

as_whole : (raws : List RawEntry) (place : ℕ) (entry : Result Content CommandRefusal) → ResolvesApart raws (no_faults raws) place entry → ResolvesAt raws place entry
as_whole raws place (Ok entry) there = there.resolved
as_whole raws place (Err (refusals.Source fault)) unread = absurd ((faultless_are_resolved raws place).read fault unread)
as_whole raws place (Err (refusals.Resolve fault)) walked = walked
as_whole raws place (Err refusals.Size) none = none
as_whole raws place (Err (refusals.Escape fault)) none = none
as_whole raws place (Err (refusals.Parm fault)) none = none
as_whole raws place (Err (refusals.Token fault)) none = none
as_whole raws place (Err (refusals.Stuck fault)) none = none
as_whole raws place (Err (refusals.Pack fault)) none = none
as_whole raws place (Err (refusals.Verdict words)) none = none

pub faultless_is_whole : FaultlessIsWhole
faultless_is_whole text whole raws faults read apart =
    let ones : apart.ones ≡ map was_read whole = same_ok apart.ones (map was_read whole) (sym apart.reads ∙ faultless_is_apart text whole read) in
    let same : raws ≡ whole = apart.raws_are ∙ (ap (map (λ (one : Alone). one.raw)) ones ∙ raws_back whole) in
    let none : faults ≡ no_faults whole = apart.faults_are ∙ (ap (map (λ (one : Alone). one.fault)) ones ∙ faults_back whole) in
    record {
      same = same;
      resolved = λ place entry there.
          as_whole whole place entry
          (subst (λ (fs : List (Option SourceFault)). ResolvesApart whole fs place entry) none
          (subst (λ (rs : List RawEntry). ResolvesApart rs faults place entry) same there));
    }
