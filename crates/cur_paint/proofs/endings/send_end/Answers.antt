use Rattle.std.proofs.Common.{◌++◌, ◌-◌, ℕ, List, ap, subst}
use Rattle.std.proofs.lemmas.List.{append-nil}
use Rattle.cur_steps.specs.Wire.{Sends}
use Rattle.ti_rows.specs.declared.rows.Row.TheVariants.{Cup, Sgr0, Rmacs, Cnorm, Rmcup}
use Rattle.ti_conforms.specs.Certified.{text_of}
use Rattle.cur_paint.proofs.endings.send_end.Goals as goal

pub returns : goal.returns
returns g c =
    let t = g.C.Certificate.table c.args.checked.now in
    let all : List ℕ → List ℕ = λ l. text_of t Sgr0 ++ (text_of t Rmacs ++ (text_of t (Cup (t.rows - 1) 0) ++ (text_of t Cnorm ++ l))) in
    let P : List ℕ → Type 0 = λ l. Sends g.W.Wire.went g.W.Wire.failures c.args.wire.now c.send_rows.new.wire l c.send_rows.result in
    record { sends = subst P (ap all (append-nil (text_of t Rmcup))) (rw c.rows.ensures.value at c.send_rows.ensures.sends) }
