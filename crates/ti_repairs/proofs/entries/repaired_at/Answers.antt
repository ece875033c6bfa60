use Rattle.std.proofs.Common.{◌<◌, ◌∙◌, List, ℕ, false, length, subst, sym}
use Rattle.std.specs.List.{AllByRecursion}
use Rattle.ti_fixes.specs.Files.{all_raws, sheets}
use Rattle.ti_repairs.specs.Notes.{IsStillWrong}
use Rattle.ti_repairs.proofs.Facts.{noted_so}
use Rattle.ti_source.specs.Raw.{IsRaw}
use Rattle.ti_source.specs.declared.types.RawEntry.{RawEntry}
use Rattle.ti_repairs.proofs.entries.repaired_at.Goals as goal

-- the entries of the new files
pub still_wrong-requires-clause-fit : goal.still_wrong-requires-clause-fit
still_wrong-requires-clause-fit c = subst (λ (raws : List RawEntry). AllByRecursion IsRaw raws) (sym c.as_slice-raws.ensures.value) c.in_ok-texts.ensures.fit

pub still_wrong-requires-clause-there : goal.still_wrong-requires-clause-there
still_wrong-requires-clause-there c =
    subst (λ (raws : List RawEntry). c.args.root < length raws) (sym c.as_slice-raws.ensures.value)
    (subst (λ (n : ℕ). c.args.root < n) (sym c.in_ok-texts.ensures.as_many) c.requires.there)

pub returns : goal.returns
returns c = record {
  kept = c.in_ok-texts.field-0.kept.items;
  is_ended = c.in_ok-texts.field-0.is_ended;
  mended = c.in_ok-texts.ensures.mended;
  still = subst (λ (raws : List RawEntry). IsStillWrong raws c.args.terms.size.rows c.args.terms.size.cols c.args.root c.in_ok-wrong.wrong) (c.as_slice-raws.ensures.value ∙ c.in_ok-texts.ensures.whole) c.in_ok-wrong.ensures;
  noted = noted_so false c.in_ok-texts.field-0.is_ended c.as_slice-raws.result.now (all_raws (sheets c.in_ok-texts.field-0.texts.files.items)) c.as_slice.result.now c.in_ok-texts.field-0.kept.items c.in_ok-notes.notes.items c.as_slice-2.result.now _ c.extend_from_slice.new.self.items
      (c.as_slice-raws.ensures.value ∙ c.in_ok-texts.ensures.whole) c.as_slice.ensures.value c.in_ok-notes.ensures (c.as_slice-2.ensures.value ∙ c.in_ok-lines.ensures) c.in_ok-extend_from_slice.ensures.items;
}
