use Rattle.std.proofs.Common.{◌≤◌, ◌∙◌, List, ℕ, true, length, subst, sym}
use Rattle.std.specs.List.{AllByRecursion}
use Rattle.ti_fixes.specs.Files.{all_raws, sheets}
use Rattle.ti_repairs.specs.Notes.{AreStillWrong}
use Rattle.ti_repairs.proofs.Facts.{noted_so}
use Rattle.ti_source.specs.Raw.{IsRaw}
use Rattle.ti_source.specs.declared.types.RawEntry.{RawEntry}
use Rattle.ti_repairs.proofs.surveys.repaired_files.Goals as goal

-- the entries of the new files
pub all_still_wrong-requires-clause-fit : goal.all_still_wrong-requires-clause-fit
all_still_wrong-requires-clause-fit c = subst (λ (raws : List RawEntry). AllByRecursion IsRaw raws) (sym c.as_slice-raws.ensures.value) c.in_ok-texts.ensures.fit

pub all_still_wrong-requires-clause-there : goal.all_still_wrong-requires-clause-there
all_still_wrong-requires-clause-there c =
    subst (λ (raws : List RawEntry). c.args.count ≤ length raws) (sym c.as_slice-raws.ensures.value)
    (subst (λ (n : ℕ). c.args.count ≤ n) (sym c.in_ok-texts.ensures.as_many) c.requires.there)

pub returns : goal.returns
returns c = record {
  kept = c.in_ok-texts.field-0.kept.items;
  is_ended = c.in_ok-texts.field-0.is_ended;
  mended = c.in_ok-texts.ensures.mended;
  lines = subst (λ (raws : List RawEntry). AreStillWrong raws c.args.terms.size.rows c.args.terms.size.cols c.args.count c.in_ok-still.still.items) (c.as_slice-raws.ensures.value ∙ c.in_ok-texts.ensures.whole) c.in_ok-still.ensures;
  noted = noted_so true c.in_ok-texts.field-0.is_ended c.as_slice-raws.result.now (all_raws (sheets c.in_ok-texts.field-0.texts.files.items)) c.as_slice.result.now c.in_ok-texts.field-0.kept.items c.in_ok-notes.notes.items c.as_slice-2.result.now c.in_ok-still.still.items c.extend_from_slice.new.self.items
      (c.as_slice-raws.ensures.value ∙ c.in_ok-texts.ensures.whole) c.as_slice.ensures.value c.in_ok-notes.ensures c.as_slice-2.ensures.value c.in_ok-extend_from_slice.ensures.items;
}
