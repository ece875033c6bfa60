use Rattle.std.proofs.Common.{◌≡◌, ◌∙◌, Option, Some, ap, sym, subst}
use Rattle.std.specs.Prelude.{IsSomeAnd, option_map}
use Rattle.std.specs.List.{position}
use Rattle.ti_source.specs.declared.types.Field.TheVariants.{Include}
use Rattle.ti_resolve.specs.declared.origins.Origin.{Origin}
use Rattle.ti_resolve.specs.FaultyUses.{is_use_of}
use Rattle.ti_resolve.specs.Faults.{Reaches}
use Rattle.ti_resolve.specs.Origins.{field_there, origin_at}
use Rattle.ti_resolve.specs.Uses.{fields_at}
use Rattle.ti_resolve.proofs.FaultyFacts.{last_is, use_there}
use Rattle.ti_resolve.proofs.faulty_uses.use_at_end.Goals as goal

pub returns-in-len1-up : goal.returns-in-len1-up
returns-in-len1-up c = λ root ends.
    let raws = c.args.raws.now in
    let name = c.args.name.now in
    subst (λ (o : Option Origin). IsSomeAnd o (λ origin. Reaches raws root origin.entry × (field_there raws origin ≡ Some (Include name))))
    (sym (c.use_in.ensures ∙ ap (λ u. option_map (origin_at u) (position (is_use_of name) (fields_at raws u))) (last_is c.args.chain.now ends.front ends.user ends.is_last)))
    (use_there raws root ends.user name ends.reached ends.includes)
