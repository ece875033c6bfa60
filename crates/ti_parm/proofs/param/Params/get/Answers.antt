use Rattle.std.proofs.Common.{◌≤◌, get_or, pos, ap, ◌∙◌, arith}
use Rattle.std.proofs.lemmas.Grind.{common_steps}
use Rattle.ti_parm.specs.Value.{Number, value_of}
use Rattle.ti_parm.proofs.Params.{later-nine, past-nine}
use Rattle.ti_parm.proofs.param.Params.get.Goals as goal

pub returns-in-2-to-8 : goal.returns-in-2-to-8
returns-in-2-to-8 c =
    let low : 2 ≤ c.args.index = grind (arith, common_steps) in
    let high : c.args.index ≤ 8 = grind (arith, common_steps) in
    let inside = c.self.inside in
    rw (c.given_or_zero.ensures, c.from.ensures) (
    later-nine inside.given.now (value_of inside.first) (value_of inside.second) c.args.index low high
    ∙ ap (λ l. get_or l c.args.index (Number (pos 0))) c.self.view_is)

pub returns-in_default : goal.returns-in_default
returns-in_default c =
    let past : 9 ≤ c.args.index = grind (arith, common_steps) in
    let inside = c.self.inside in
    past-nine inside.given.now (value_of inside.first) (value_of inside.second) c.args.index past
    ∙ ap (λ l. get_or l c.args.index (Number (pos 0))) c.self.view_is
