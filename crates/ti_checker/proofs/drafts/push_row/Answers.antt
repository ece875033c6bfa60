use Rattle.std.proofs.Common.{sym, ap, subst, ◌∙◌}
use Rattle.std.proofs.lemmas.Result.{err_from_is_err_and, on_ok_weaker}
use Rattle.ti_conforms.proofs.Matches.{on_err}
use Rattle.ti_rows.specs.Lists.{Follows}
use Rattle.ti_rows.specs.declared.rows.Row.{Row}
use Rattle.ti_checker.specs.First.{SendsAsked}
use Rattle.ti_checker.specs.Limit.{AddsLine}
use Rattle.ti_checker.specs.Switches.{IsSeenToo}
use Rattle.ti_checker.specs.No.{IsRowRefused}
use Rattle.ti_checker.specs.Taught.{IsTaught}
use Rattle.ti_checker.specs.declared.causes.Cause.{Cause}
use Rattle.ti_checker.proofs.Earliest.{adds_judged}
use Rattle.ti_checker.proofs.Misjudgements.{cut_refused}
use Rattle.ti_checker.proofs.Settled.{is_seen_too}
use Rattle.ti_checker.proofs.StandardLines.{standard_adds, standard_right, standard_seen, standard_taught}
use Rattle.ti_checker.proofs.drafts.push_row.Goals as goal

-- ---- a standard string

pub returns-in-Ok-clause-right : goal.returns-in-Ok-clause-right
returns-in-Ok-clause-right c =
    let right : SendsAsked c.args.size.rows c.args.size.cols c.args.string.now c.args.row = standard_right _ _ _ _ c.args.looks.now _ c.requires.range c.requires.taught c.in-Some.ensures in
    on_ok_weaker c.check_length.result (λ h. right) c.check_length.ensures.short

pub returns-in-Ok-clause-adds : goal.returns-in-Ok-clause-adds
returns-in-Ok-clause-adds c =
    let adds : AddsLine c.args.size.rows c.args.size.cols c.args.string.now c.args.row c.args.draft.now.text.items c.push_text.new.self.text.items = standard_adds _ _ _ _ _ _ _ _ c.requires.range c.in-Some.ensures c.as_slice.ensures.value c.in-Ok.ensures.text in
    on_ok_weaker c.check_length.result (λ h. adds) c.check_length.ensures.short

pub returns-in-Ok-clause-seen : goal.returns-in-Ok-clause-seen
returns-in-Ok-clause-seen c =
    let seen : IsSeenToo c.args.string.now c.args.row c.args.draft.now.seen.reach c.args.draft.now.seen.changes.items c.push_text.new.self.seen.reach c.push_text.new.self.seen.changes.items =
    standard_seen c.args.size.rows c.args.size.cols _ _ _ _ _ _ _ c.requires.range c.in-Some.ensures c.push_text.ensures.reach c.in-Ok.ensures.changes in
    on_ok_weaker c.check_length.result (λ h. seen) c.check_length.ensures.short

pub returns-in-Ok-clause-refused : goal.returns-in-Ok-clause-refused
returns-in-Ok-clause-refused c =
    let adds : AddsLine c.args.size.rows c.args.size.cols c.args.string.now c.args.row c.args.draft.now.text.items c.push_text.new.self.text.items = standard_adds _ _ _ _ _ _ _ _ c.requires.range c.in-Some.ensures c.as_slice.ensures.value c.in-Ok.ensures.text in
    on_err c.check_length.result
    (λ cause h. rw h.0 (record { new = c.push_text.new.self.text.items; adds = adds; long = h.1 }))
    c.check_length.ensures.long

pub returns-in-Ok-clause-taught : goal.returns-in-Ok-clause-taught
returns-in-Ok-clause-taught c =
    let taught : (next : Row) → Follows c.args.size.rows c.args.size.cols c.args.row next → IsTaught c.args.size.rows c.args.size.cols c.args.string.now next c.args.looks.now =
    standard_taught _ _ _ _ c.args.looks.now _ c.requires.range c.requires.taught c.in-Some.ensures in
    on_ok_weaker c.check_length.result (λ h. taught) c.check_length.ensures.short

-- ---- any other string

pub returns-in-Ok-push_line-clause-adds : goal.returns-in-Ok-push_line-clause-adds
returns-in-Ok-push_line-clause-adds c =
    let adds : AddsLine c.args.size.rows c.args.size.cols c.args.string.now c.args.row c.args.draft.now.text.items c.push_line.new.self.text.items =
    adds_judged _ _ _ c.args.row _ _ _ _ c.judge_row.new.self.bytes.items c.in_ok-effect.effect c.learn.ensures.text c.learn.ensures.bytes c.in_ok-effect.ensures.line c.in-Ok-push_line.ensures.text in
    on_ok_weaker c.check_length-in-Ok-push_line.result (λ h. adds) c.check_length-in-Ok-push_line.ensures.short

pub returns-in-Ok-push_line-clause-seen : goal.returns-in-Ok-push_line-clause-seen
returns-in-Ok-push_line-clause-seen c =
    let seen : IsSeenToo c.args.string.now c.args.row c.args.draft.now.seen.reach c.args.draft.now.seen.changes.items c.push_line.new.self.seen.reach c.push_line.new.self.seen.changes.items =
    is_seen_too c.args.size.rows c.args.size.cols c.args.string.now c.args.row c.judge_row.new.self.bytes.items c.in_ok-effect.effect _ _ _ _ c.in_ok-effect.ensures.line
    (λ tokens whole. ap (λ s. s.reach) c.push_line.ensures.seen ∙ c.in_ok-learn.ensures.reach tokens whole) (ap (λ s. s.changes.items) c.push_line.ensures.seen ∙ c.in_ok-learn.ensures.changes) in
    on_ok_weaker c.check_length-in-Ok-push_line.result (λ h. seen) c.check_length-in-Ok-push_line.ensures.short

pub returns-in-Ok-push_line-clause-refused : goal.returns-in-Ok-push_line-clause-refused
returns-in-Ok-push_line-clause-refused c =
    let adds : AddsLine c.args.size.rows c.args.size.cols c.args.string.now c.args.row c.args.draft.now.text.items c.push_line.new.self.text.items =
    adds_judged _ _ _ c.args.row _ _ _ _ c.judge_row.new.self.bytes.items c.in_ok-effect.effect c.learn.ensures.text c.learn.ensures.bytes c.in_ok-effect.ensures.line c.in-Ok-push_line.ensures.text in
    on_err c.check_length-in-Ok-push_line.result
    (λ cause h. rw h.0 (record { new = c.push_line.new.self.text.items; adds = adds; long = h.1 }))
    c.check_length-in-Ok-push_line.ensures.long

pub returns-in_err-learn-clause-refused : goal.returns-in_err-learn-clause-refused
returns-in_err-learn-clause-refused c =
    let e = err_from_is_err_and c.from_residual-in_err-learn.result c.from_residual-in_err-learn.ensures.1 in
    rw e.1 (subst (λ (cause : Cause). IsRowRefused c.args.size.rows c.args.size.cols c.args.string.now c.args.row c.args.draft.now.text.items cause) (sym e.2)
    (cut_refused c.args.size.rows c.args.size.cols c.args.string.now c.args.row c.judge_row.new.self.bytes.items c.args.draft.now.text.items c.in_err-learn.field-0.0 c.in_ok-effect.ensures.line.sends c.in_err-learn.ensures.fault))
