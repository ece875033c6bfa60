use Rattle.std.proofs.Common.{List, ◌∙◌, ap, arith, subst, sym}
use Rattle.std.proofs.lemmas.List.{drop_all}
use Rattle.std.specs.List.{AllByRecursion}
use Rattle.ti_fixes.specs.Files.{GivesFile, later_changes, own_changes, sheet_of}
use Rattle.ti_fixes.specs.declared.changes.Change.{Change}
use Rattle.ti_fixes.proofs.FileFacts.{FitsChange, later_fit, none_of, none_so_far, own_fit, so_far_end, so_far_next}
use Rattle.ti_fixes.proofs.files.all_given.Goals as goal

pub loop-file-init : goal.loop-file-init
loop-file-init c = record { fits = c.requires; so_far = none_so_far c.args.changes.items c.args.files.now c.new-news.result.items c.new-news.ensures.items }

-- the file's own changes
pub given-requires : goal.given-requires
given-requires c =
    subst (λ (changes : List Change). AllByRecursion FitsChange changes)
    (sym (c.as_slice-in-loop-file-2.ensures.value ∙ (c.in_ok-own.ensures ∙ ap (λ (changes : List Change). own_changes c.len-count.result changes) c.as_slice.ensures.value)))
    (own_fit c.len-count.result c.loop-file.left.items c.loop-file.invariant.fits)

-- one file more
pub loop-file-preserved : goal.loop-file-preserved
loop-file-preserved c =
    let lately = c.in_ok-left.ensures ∙ ap (λ (changes : List Change). later_changes c.len-count.result changes) c.as_slice-in-loop-file.ensures.value in
    record {
      fits = subst (λ (changes : List Change). AllByRecursion FitsChange changes) (sym lately) (later_fit c.len-count.result c.loop-file.left.items c.loop-file.invariant.fits);
      so_far = so_far_next c.args.changes.items c.args.files.now c.loop-file.file-index c.file-item.result c.in-Ok.new c.loop-file.left.items c.in_ok-own.own.items c.in_ok-left.left.items c.len-count.result c.loop-file.news.items c.push.new.self.items
          (omega arith) c.file-item.is (c.len-count.ensures ∙ c.file-item.result.raws.ok.0) (c.in_ok-own.ensures ∙ ap (λ (changes : List Change). own_changes c.len-count.result changes) c.as_slice.ensures.value) lately
          c.in_ok-push-in-Ok.ensures.items (subst (λ (changes : List Change). GivesFile changes (sheet_of c.file-item.result) (sheet_of c.in-Ok.new)) c.as_slice-in-loop-file-2.ensures.value c.in-Ok.ensures) c.loop-file.invariant.so_far;
    }

-- all files
pub returns-then-is_empty : goal.returns-then-is_empty
returns-then-is_empty c =
    so_far_end c.args.changes.items c.args.files.now _ c.loop-file.news.items c.loop-file.left.items (drop_all c.loop-file.file-index c.args.files.now c.loop-file-test.false)
    (none_of c.loop-file.left.items c.loop-file.left.len c.loop-file.left.ok.0 (sym c.if-is_empty.true ∙ c.is_empty.ensures)) c.loop-file.invariant.so_far
