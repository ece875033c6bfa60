use Rattle.std.proofs.Common.{◌≡◌, ◌<◌, ℕ, zero, suc, List, [], ◌∷◌, length, get_or, arith, subst, sym}
use Rattle.std.specs.List.{AllByRecursion}
use Rattle.ti_hints.proofs.Hinted.{one_more}
use Rattle.ti_hints.specs.Places.{IsHintOf}
use Rattle.ti_hints.specs.declared.hints.FieldHint.{FieldHint}
use Rattle.ti_reports.specs.Faults.{ReportsHint}
use Rattle.ti_reports.specs.Hints.{text_in}
use Rattle.ti_source.specs.Layout.{lines_of}
use Rattle.ti_reports.proofs.hints.entry_reports.Goals as goal

all_at : {X : Type 0} (P : X → Type 0) (xs : List X) (n : ℕ) (x : X) → n < length xs → x ≡ get_or xs n x → AllByRecursion P xs → P x
all_at P [] n x l is h = absurd (omega (arith, l))
all_at P (y ∷ xs) zero x l is h = subst P (sym is) h.0
all_at P (y ∷ xs) (suc n) x l is h = all_at P xs n x (omega (arith, l)) is h.1

pub hint_report-requires : goal.hint_report-requires
hint_report-requires c =
    let P = IsHintOf (lines_of c.args.source.now.lined.now) c.args.source.now.raws.now c.args.place in
    all_at P c.deref-hint-items.result.now c.loop-hint.hint-index c.hint-item.result (omega arith) c.hint-item.is
    (subst (λ (hints : List FieldHint). AllByRecursion P hints) (sym c.deref-hint-items.ensures.value) c.in_ok-hints.ensures)

-- the report of the next hint follows those so far
pub loop-hint-preserved : goal.loop-hint-preserved
loop-hint-preserved c =
    one_more (ReportsHint c.args.subject.now.entry.now c.args.subject.now.size.rows c.args.subject.now.size.cols c.args.subject.now.file.now (text_in c.args.source.now) c.args.place) c.loop-hint.reports.items c.push.new.self.items c.in_ok-report.report
    c.in_ok-push.ensures.items c.loop-hint.invariant c.in_ok-report.ensures
