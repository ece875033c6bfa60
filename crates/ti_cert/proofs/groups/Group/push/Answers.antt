use Rattle.std.proofs.Common.{List, ℕ, ◌∷◌, ◌++◌, [], ap, ◌∙◌, rules}
use Rattle.ti_cert.proofs.Pieces.{all_stay, one_more, one_piece_more}
use Rattle.ti_cert.proofs.groups.Group.push.Goals as goal

pub returns : goal.returns
returns c = one_piece_more c.self.inside.bytes.items c.args.string.now c.extend_from_slice.new.self.items c.self.inside.parts.items c.push.new.self.items c.len-from.result c.len-to.result
    (search rules) (search rules) c.in_ok-extend_from_slice.ensures.items c.in_ok-push.ensures.items c.self.invariant.0 ∙ ap (λ (xs : List (List ℕ)). xs ++ c.args.string.now ∷ []) c.self.view_is

pub invariant_of-self-in_err-push : goal.invariant_of-self-in_err-push
invariant_of-self-in_err-push c = all_stay c.self.inside.longest c.self.inside.bytes.items c.args.string.now c.extend_from_slice.new.self.items c.self.inside.parts.items c.push.new.self.items c.in_ok-extend_from_slice.ensures.items (search rules) c.self.invariant

pub invariant_of-self-2 : goal.invariant_of-self-2
invariant_of-self-2 c = one_more c.self.inside.longest c.max-self-inside.result c.self.inside.bytes.items c.args.string.now c.extend_from_slice.new.self.items c.self.inside.parts.items c.push.new.self.items c.len-from.result c.len-to.result
    (search rules) (search rules) c.in_ok-extend_from_slice.ensures.items c.in_ok-push.ensures.items (search (rules, c.max-self-inside.ensures)) c.self.invariant
