use Rattle.std.proofs.Common.{◌<◌, ◌∙◌, subst, ap}
use Rattle.ti_resolve.specs.Origins.{first_of, giving, origin_in}
use Rattle.ti_resolve.proofs.OriginFacts.{gives_value_at, origin_there}
use Rattle.ti_resolve.proofs.resolution.origin_from.Goals as goal

pub returns-clause-origin : goal.returns-clause-origin
returns-clause-origin c =
    origin_there c.args.index.now.raws.now c.in_ok-entered.entered.items c.args.root c.args.cap c.giving.result c.in_ok-entered.ensures
    (c.giving.ensures ∙ ap (λ places. giving c.args.index.now.raws.now (first_of (origin_in c.args.index.now.raws.now c.args.cap) places)) c.as_slice.ensures.value)

pub returns-clause-value : goal.returns-clause-value
returns-clause-value c =
    gives_value_at c.args.index.now.raws.now c.args.root c.args.cap c.giving.result (subst (λ place. place < 497) c.place.ensures.value c.place.ensures.range)
    (origin_there c.args.index.now.raws.now c.in_ok-entered.entered.items c.args.root c.args.cap c.giving.result c.in_ok-entered.ensures
    (c.giving.ensures ∙ ap (λ places. giving c.args.index.now.raws.now (first_of (origin_in c.args.index.now.raws.now c.args.cap) places)) c.as_slice.ensures.value))
