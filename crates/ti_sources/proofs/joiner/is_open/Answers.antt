use Rattle.std.proofs.Common.{◌≡◌, not, ◌&&◌, true, false, Bool, sym, ap, ◌∙◌}
use Rattle.ti_sources.proofs.Scans.{open_by_scan}
use Rattle.ti_source.specs.Source.{is_comment}
use Rattle.ti_sources.proofs.joiner.is_open.Goals as goal

pub returns-then-not-is_comment : goal.returns-then-not-is_comment
returns-then-not-is_comment c =
    let joiner = c.args.joiner.now in
    let same = c.is_comment.ensures ∙ ap is_comment c.as_slice.ensures.value in
    let t : not (is_comment c.args.joiner.now.line.items) ≡ true = ap not (sym same ∙ c.if-not-is_comment.true) in
    sym (ap (λ (t : Bool). t && not joiner.scan.is_blank) t) ∙ open_by_scan joiner.line.items joiner.scan c.requires

pub returns-else-not-is_comment : goal.returns-else-not-is_comment
returns-else-not-is_comment c =
    let joiner = c.args.joiner.now in
    let same = c.is_comment.ensures ∙ ap is_comment c.as_slice.ensures.value in
    let t : not (is_comment c.args.joiner.now.line.items) ≡ false = ap not (sym same ∙ c.if-not-is_comment.false) in
    ap not c.if-not-is_comment.false ∙ (sym (ap (λ (t : Bool). t && not joiner.scan.is_blank) t) ∙ open_by_scan joiner.line.items joiner.scan c.requires)
