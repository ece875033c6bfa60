use Rattle.std.proofs.Common.{◌≡◌, ℕ, ◌≤◌, List, length, true, nat_le, ap, arith}
use Rattle.std.proofs.lemmas.Bool.Decides.{nat_tests}
use Rattle.ti_rows.specs.declared.rows.Row.TheVariants.{Sgr, Sgr0}
use Rattle.ti_conforms.specs.Certified.{or_nothing}
use Rattle.cur_steps.proofs.Answers.{line_is}
use Rattle.cur_moves.proofs.cells.has_short_plain.Goals as goal

le_of : (m n : ℕ) → nat_le m n ≡ true → m ≤ n
le_of m n h = grind (arith, nat_tests)

pub returns-in-Some : goal.returns-in-Some
returns-in-Some g c = record {
  short = λ h.
      (let t = g.C.Certificate.table c.args.checked.now in
      let plain : List ℕ = c.unwrap-plain.result.now in
      let its = line_is t Sgr0 c.line.result c.unwrap-plain.result c.unwrap-plain.ensures c.line.ensures.value in
      let le : length plain ≤ length c.in-Some.line.now = le_of _ _ h in
      let most : length c.in-Some.line.now ≤ t.longest.sgr = (c.requires.checked.lines (Sgr c.plain.result.attributes) c.in-Some.line.now c.in-Some.ensures.value).short in
      omega (arith, ap (λ o. length (or_nothing o)) its, le, most));
}
