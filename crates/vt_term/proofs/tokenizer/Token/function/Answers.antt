use Rattle.vt_term.proofs.Readers.{told}
use Rattle.vt_term.proofs.tokenizer.Token.function.Goals as goal

pub returns-in-Some-len1-up : goal.returns-in-Some-len1-up
returns-in-Some-len1-up c = rw (← c.self.view_is) (told c.in-Some-len1-up.stage c.self.inside.numbers.items c.self.inside.bytes.items c.as_slice.result.now c.ended.result
    (rw c.in-Some-len1-up.is-0 at c.self.invariant) c.as_slice.ensures.value (rw c.deref.ensures.value at c.ended.ensures))
