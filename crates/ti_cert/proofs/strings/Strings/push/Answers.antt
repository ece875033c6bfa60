use Rattle.std.proofs.Common.{ℕ, List, [], ◌∷◌, ◌++◌, ap, ◌∙◌, arith}
use Rattle.std.proofs.lemmas.Result.{on_ok_weaker}
use Rattle.ti_cert.proofs.GroupFacts.{adds_to, any_default}
use Rattle.ti_cert.proofs.strings.Strings.push.Goals as goal

pub returns : goal.returns
returns c = on_ok_weaker c.push.result (λ made. adds_to c.args.self.now c.self.inside.size.rows c.self.inside.size.cols c.self.inside.groups.items c.args.row c.args.bytes.now c.order.result c.push.new.self
    c.self.view_is c.order.ensures.value c.self.invariant c.requires.range c.requires.place (made ∙ ap (λ (xs : List (List ℕ)). xs ++ c.args.bytes.now ∷ []) (c.index_mut.ensures.value ∙ any_default c.self.inside.groups.items c.order.result c.index_mut.result.now [] (omega (arith, c.order.ensures.small, c.self.invariant))))) c.push.ensures
