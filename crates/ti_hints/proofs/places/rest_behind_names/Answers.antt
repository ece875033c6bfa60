use Rattle.ti_hints.proofs.Hinted.{names_behind}
use Rattle.ti_hints.proofs.places.rest_behind_names.Goals as goal

pub returns : goal.returns
returns c = names_behind c.args.line.now c.in_ok-names.names.now c.in_ok-names.rest.now c.in_ok-names.ensures.parts
