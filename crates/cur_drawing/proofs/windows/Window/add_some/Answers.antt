use Rattle.std.proofs.Common.{◌≡◌, ◌∙◌, ap, sym, subst, drop, rules, ℕ, Err, Result, MatchResult}
use Rattle.cur_drawing.specs.declared.puts.Put.{Put}
use Rattle.cur_drawing.specs.declared.refusals.Refusal.{Refusal}
use Rattle.cur_drawing.specs.Calls.{CanvasStep, added, added_all, and_then, canvas, step}
use Rattle.cur_drawing.proofs.Preservation.{added_all-more, added_all-stops}
use Rattle.cur_drawing.proofs.WrittenRuns.{front_added}
use Rattle.cur_drawing.proofs.windows.Window.add_some.Goals as goal

pub returns-in_err-add-clause-value : goal.returns-in_err-add-clause-value
returns-in_err-add-clause-value c =
    let text = c.args.text.now in let s = canvas c.args.grid.now c.args.self.now in let t = canvas c.add.new.grid c.add.new.self in
    let same : c.from_residual.result ≡ Err c.in_err-add.field-0.0 = search rules in
    subst (λ (r : Result ℕ Refusal). MatchResult r (λ n. added_all (drop n text) t ≡ added_all text s) (λ e. step c.add.new.grid c.add.new.self (Err e) ≡ added_all text s)) (sym same)
    (added_all-stops text 0 c.plain.result s t c.in_err-add.field-0.0 c.requires.some c.plain.ensures c.in_err-add.ensures.value)

pub returns-then-run-eq0-clause-value : goal.returns-then-run-eq0-clause-value
returns-then-run-eq0-clause-value c =
    let text = c.args.text.now in let s = canvas c.args.grid.now c.args.self.now in
    ap (λ (x : CanvasStep). and_then x (λ t. added_all (drop 1 text) t)) (c.in_ok-add.ensures.value ∙ ap (λ (p : Put). added p s) c.plain.ensures)
    ∙ sym (added_all-more text 0 s c.requires.some)

pub returns-clause-value : goal.returns-clause-value
returns-clause-value c = front_added c.args.text.now c.printed_front-run.result (canvas c.args.grid.now c.args.self.now) (canvas c.write_run.new.grid c.write_run.new.self) c.write_run.ensures.value
