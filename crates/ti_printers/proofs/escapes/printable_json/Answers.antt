use Rattle.std.proofs.Common.{◌≡◌, ◌∙◌, ap, flat_map, rules}
use Rattle.std.specs.Str.{chars}
use Rattle.std.proofs.lemmas.Result.{IfOk-weaker}
use Rattle.std.proofs.lemmas.Str.{chars_from_encodes}
use Rattle.ti_printers.specs.Escapes.{json_char}
use Rattle.ti_printers.proofs.escapes.printable_json.Goals as goal

-- the letters are those of the text
pub returns : goal.returns
returns c =
    let letters : c.as_slice.result.now ≡ chars c.args.text.now = search (rules, chars_from_encodes) in
    IfOk-weaker c.escaped.result _ _ (λ line e. e ∙ ap (λ cs. flat_map json_char cs) letters) c.escaped.ensures
