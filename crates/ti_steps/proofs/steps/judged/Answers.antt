use Rattle.std.proofs.Common.{List, ◌∙◌, ap, length, subst, sym}
use Rattle.std.specs.List.{AllByRecursion}
use Rattle.ti_fixes.proofs.FileFacts.{as_many_still, fit_still}
use Rattle.ti_fixes.specs.Files.{sheets}
use Rattle.ti_steps.specs.Steps.{changes_of}
use Rattle.ti_source.specs.Raw.{IsRaw}
use Rattle.ti_source.specs.declared.types.RawEntry.{RawEntry}
use Rattle.ti_steps.proofs.steps.judged.Goals as goal

-- the entries of the new files
pub is_right-requires-clause-fit_too : goal.is_right-requires-clause-fit_too
is_right-requires-clause-fit_too g c =
    subst (λ (raws : List RawEntry). AllByRecursion IsRaw raws) (sym (c.as_slice-2.ensures.value ∙ c.requires.raws))
    (fit_still (changes_of c.args.taken.now) (sheets c.args.old.now.files.items) (sheets c.args.new.files.items) c.requires.gives
    (subst (λ (raws : List RawEntry). AllByRecursion IsRaw raws) c.requires.whole c.requires.fit))

pub is_right-requires-clause-as_many : goal.is_right-requires-clause-as_many
is_right-requires-clause-as_many g c =
    ap length (c.as_slice-2.ensures.value ∙ c.requires.raws)
    ∙ (as_many_still (changes_of c.args.taken.now) (sheets c.args.old.now.files.items) (sheets c.args.new.files.items) c.requires.gives
    ∙ sym (ap length (c.as_slice.ensures.value ∙ c.requires.whole)))
