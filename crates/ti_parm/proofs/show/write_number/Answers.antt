use Rattle.std.proofs.Common.{◌≡◌, ◌≤◌, ◌-◌, ◌++◌, ◌∙◌, List, ℕ, ap, arith, drop, length, take, length-drop}
use Rattle.std.proofs.lemmas.List.{take_all}
use Rattle.std.proofs.lemmas.Int.{to_z-of_z}
use Rattle.std.proofs.lemmas.Result.{on_ok_weaker}
use Rattle.std.specs.Int.{cast_signed, cast_unsigned, w32}
use Rattle.ti_parm.specs.Formats.{digits_shown, least_digits, magnitude, prefix_of}
use Rattle.ti_parm.proofs.FormatFacts.{shown-by}
use Rattle.ti_parm.proofs.show.write_number.Goals as goal

pub returns-clause-ok : goal.returns-clause-ok
returns-clause-ok c =
    let f = c.args.format.now in
    let n = c.args.number in
    let start = c.put_digits-start.result in
    let buffer = c.put_digits-start.new.buffer in
    let rest : List ℕ = drop start buffer in
    let text : List ℕ = take (12 - start) rest in
    let same : cast_signed w32 (cast_unsigned w32 n) ≡ n = to_z-of_z w32 n c.ranges.number in
    let within : length rest ≤ 12 - start = omega (arith, length-drop start buffer) in
    let whole : text ≡ rest = take_all (12 - start) rest within in
    let m : c.magnitude.result ≡ magnitude f.conversion n = c.magnitude.ensures ∙ ap (magnitude f.conversion) same in
    let t : text ≡ digits_shown f (magnitude f.conversion n) = whole ∙ c.put_digits-start.ensures.digits ∙ ap (digits_shown f) m in
    let z : c.saturating_sub-zeros.result ≡ least_digits f.precision - length text = c.saturating_sub-zeros.ensures ∙ ap (λ k. k - length text) c.least_digits.ensures.least in
    let p : c.prefix_of-prefix.result.now ≡ prefix_of f.conversion f n = c.prefix_of-prefix.ensures.prefix ∙ ap (prefix_of f.conversion f) same in
    on_ok_weaker c.write_padded.result (λ e. e ∙ ap (λ x. c.args.out.now.items ++ x) (shown-by f n c.prefix_of-prefix.result.now c.saturating_sub-zeros.result text t z p)) c.write_padded.ensures.ok
