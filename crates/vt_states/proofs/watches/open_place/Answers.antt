use Rattle.vt_term.specs.Scanned.{IsTokenAt}
use Rattle.vt_states.proofs.Endings.{fault_within, rest_at_end, rest_by_fault, scanned_more}
use Rattle.vt_states.proofs.watches.open_place.Goals as goal

pub loop-end-preserved : goal.loop-end-preserved
loop-end-preserved c =
    let token : IsTokenAt c.args.text.now c.loop-end.start c.in-Ok-Some.end c.next.new.self = rw c.in-Ok-Some.field-0-is at c.in-Ok-Some.ensures.token in
    record {
      within = token.within;
      scanned = scanned_more c.args.text.now c.loop-end.start c.in-Ok-Some.end c.next.new.self c.loop-end.invariant.scanned token;
    }

pub returns-in-Ok-None-clause-rest : goal.returns-in-Ok-None-clause-rest
returns-in-Ok-None-clause-rest c = rest_at_end c.args.text.now c.loop-end.start c.loop-end.invariant.scanned (c.in-Ok-None.ensures.end c.in-Ok-None.field-0-is)

pub returns-in-Err-clause-rest : goal.returns-in-Err-clause-rest
returns-in-Err-clause-rest c = rest_by_fault c.args.text.now c.in-Err.fault (c.in-Err.ensures.fault c.loop-end.invariant.scanned.tokens c.loop-end.invariant.scanned.begins)

pub returns-in-Err-clause-within : goal.returns-in-Err-clause-within
returns-in-Err-clause-within c = fault_within c.args.text.now c.in-Err.fault (c.in-Err.ensures.fault c.loop-end.invariant.scanned.tokens c.loop-end.invariant.scanned.begins)
