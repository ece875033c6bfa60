use Rattle.std.proofs.Common.{refl, ap, arith, ◌∙◌, ◌++◌, List, ℕ}
use Rattle.std.proofs.lemmas.List.{take_all}
use Rattle.ti_rows.specs.declared.rows.Row.{Row}
use Rattle.ti_conforms.specs.Resync.{texts_of}
use Rattle.ti_checker.specs.Kept.{unnamed}
use Rattle.ti_checker.proofs.Together.{sent_more}
use Rattle.ti_checker.proofs.resync.sent_for_all.Goals as goal

pub loop-row-preserved : goal.loop-row-preserved
loop-row-preserved c = sent_more c.args.entry.now c.args.size.rows c.args.size.cols (unnamed c.args.left_out.now) c.args.rows.now c.loop-row.row-index _ _ c.loop-row.text.items c.in_ok-bytes.bytes.items c.extend_from_slice.new.self.items
    c.loop-row-test.true refl (c.requires.ranges c.loop-row.row-index _ c.loop-row-test.true) c.in_ok-bytes.ensures c.loop-row.invariant (c.in_ok-extend_from_slice.ensures.items ∙ ap (λ (l : List ℕ). c.loop-row.text.items ++ l) c.deref.ensures.value)

pub returns : goal.returns
returns c = λ t h. c.loop-row.invariant t h ∙ ap (λ (l : List Row). texts_of t.line_of l) (take_all c.loop-row.row-index c.args.rows.now (omega (arith, c.loop-row-test.false)))
