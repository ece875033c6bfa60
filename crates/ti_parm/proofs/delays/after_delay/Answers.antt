use Rattle.std.proofs.Common.{◌≡◌, ◌≤◌, ◌-◌, Some, ap, arith, drop, length, length-drop, sym, take, ◌∙◌}
use Rattle.std.proofs.lemmas.List.{take_all}
use Rattle.ti_parm.specs.Delays.{behind_delay}
use Rattle.ti_parm.proofs.Strips.{delay-dropped}
use Rattle.ti_parm.proofs.delays.after_delay.Goals as goal

pub returns-in-Some-clause-delay : goal.returns-in-Some-clause-delay
returns-in-Some-clause-delay c =
    let bytes = c.args.bytes.now in
    let at = c.args.at in
    let within : length (drop at bytes) ≤ length bytes - at = omega (arith, length-drop at bytes) in
    let whole : take (length bytes - at) (drop at bytes) ≡ drop at bytes = take_all (length bytes - at) (drop at bytes) within in
    let delay : behind_delay (drop at bytes) ≡ Some c.in-Some.rest.now = ap behind_delay (sym whole) ∙ c.in-Some.ensures.delay in
    delay ∙ ap Some (sym (delay-dropped bytes at c.in-Some.rest.now delay))
