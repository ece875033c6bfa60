use Rattle.ti_sources.specs.Steps.{state_of}
use Rattle.ti_sources.proofs.Texts.{ended_text}
use Rattle.ti_sources.proofs.joiner.finished.Goals as goal

pub returns : goal.returns
returns c =
    rw (c.in_ok-extend_from_slice.ensures.items, c.in_ok-push_ended.ensures, c.as_slice.ensures.value, c.as_slice-2.ensures.value)
    (ended_text (state_of c.args.joiner))
