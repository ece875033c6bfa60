use Rattle.std.proofs.Common.{◌≢◌, ◌∙◌, sym, eq-eqb, arith}
use Rattle.std.proofs.lemmas.Bool.{false≢true}
use Rattle.ti_rows.specs.Names.{cap_of}
use Rattle.ti_faults.proofs.Places.{passed, all_apart}
use Rattle.ti_faults.proofs.capabilities.row_of.Goals as goal

pub loop-place-init : goal.loop-place-init
loop-place-init c row less = absurd (omega (arith, less))

pub loop-place-preserved : goal.loop-place-preserved
loop-place-preserved c =
    let differs : cap_of c.first_row-row.result ≢ c.args.cap =
    λ is. false≢true (sym c.if-eq.false ∙ (c.eq.ensures ∙ eq-eqb c.cap.result c.args.cap (c.cap.ensures ∙ is))) in
    passed c.args.cap c.loop-place.place c.first_row-row.result c.first_row-row.ensures differs c.loop-place.invariant

pub returns-clause-none : goal.returns-clause-none
returns-clause-none c = all_apart c.args.cap c.loop-place.place c.loop-place-test.false c.loop-place.invariant
