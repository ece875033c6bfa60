use Rattle.vt_term.specs.Scanned.{IsTokenAt}
use Rattle.vt_term.proofs.Starts.{begins_push, begins_all}
use Rattle.vt_term.proofs.tokenizer.tokens.Goals as goal

pub loop-end-preserved : goal.loop-end-preserved
loop-end-preserved c =
    let token : IsTokenAt c.args.bytes.now c.loop-end.start c.in-Ok-Some.end c.next.new.self = rw c.in-Ok-Some.field-0-is at c.in-Ok-Some.ensures.token in
    record {
      within = token.within;
      begins = begins_push c.args.bytes.now c.loop-end.found.items _ c.loop-end.start c.in-Ok-Some.end c.next.new.self c.loop-end.invariant.begins token c.in_ok-push_read-in-Ok-Some.ensures.ok;
    }

pub returns-in-Ok-None-clause-whole : goal.returns-in-Ok-None-clause-whole
returns-in-Ok-None-clause-whole c = begins_all c.args.bytes.now c.loop-end.found.items c.loop-end.start c.loop-end.invariant.begins (c.in-Ok-None.ensures.end c.in-Ok-None.field-0-is)

pub returns-in-Err-clause-fault : goal.returns-in-Err-clause-fault
returns-in-Err-clause-fault c = c.told.ensures c.args.bytes.now (c.in-Err.ensures.fault c.loop-end.found.items c.loop-end.invariant.begins)
