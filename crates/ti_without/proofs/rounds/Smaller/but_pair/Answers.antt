use Rattle.std.proofs.Common.{◌≡◌, ℕ, true, sym, subst, ◌∙◌}
use Rattle.std.proofs.lemmas.Result.{IfOk-weaker}
use Rattle.ti_rows.specs.declared.rows.Row.TheVariants.{Smcup, Rmcup}
use Rattle.ti_rows.specs.Names.{cap_of}
use Rattle.ti_without.specs.Going.{LeavesOut}
use Rattle.ti_without.specs.Less.{is_among, other_screen}
use Rattle.ti_without.proofs.Leaves.{for_one, for_then, from_screen, pair_out, to_screen}
use Rattle.ti_without.proofs.rounds.Smaller.but_pair.Goals as goal

pub returns-clause-leaves : goal.returns-clause-leaves
returns-clause-leaves c =
    let on : is_among other_screen c.args.no.now.cap ≡ true = sym c.is_on_other_screen.ensures ∙ c.if-not-is_on_other_screen.false in
    let first : LeavesOut c.args.self (cap_of Smcup) c.args.no.now c.in_ok-back.back = subst (λ (x : ℕ). LeavesOut c.args.self x c.args.no.now c.in_ok-back.back) c.cap.ensures c.in_ok-back.ensures in
    IfOk-weaker c.but-2.result _ _
    (λ after h. for_then c.args.self c.in_ok-back.back after c.args.no.now
    (for_one c.args.self (cap_of Smcup) c.args.no.now c.in_ok-back.back c.requires (to_screen c.args.no.now.cap on) first)
    (for_one c.in_ok-back.back (cap_of Rmcup) c.args.no.now after c.requires (from_screen c.args.no.now.cap on) (subst (λ (x : ℕ). LeavesOut c.in_ok-back.back x c.args.no.now after) c.cap-2.ensures h)))
    c.but-2.ensures

pub returns-clause-lacks : goal.returns-clause-lacks
returns-clause-lacks c =
    let first : LeavesOut c.args.self (cap_of Smcup) c.args.no.now c.in_ok-back.back = subst (λ (x : ℕ). LeavesOut c.args.self x c.args.no.now c.in_ok-back.back) c.cap.ensures c.in_ok-back.ensures in
    IfOk-weaker c.but-2.result _ _
    (λ after h. pair_out c.args.self c.in_ok-back.back after c.args.no.now first (subst (λ (x : ℕ). LeavesOut c.in_ok-back.back x c.args.no.now after) c.cap-2.ensures h))
    c.but-2.ensures
