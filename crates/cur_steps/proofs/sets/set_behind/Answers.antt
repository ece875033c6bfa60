use Rattle.std.proofs.Common.{◌∙◌, sym}
use Rattle.cur_steps.specs.Sets.{IsBeside, IsRendition}
use Rattle.cur_steps.proofs.SetFacts.{leaves_kept, leaves_plain, some_of}
use Rattle.cur_steps.proofs.sets.set_behind.Goals as goal

pub returns-then-is_some : goal.returns-then-is_some
returns-then-is_some g c =
    let n = some_of (λ n. IsRendition c.args.bytes.now n.now) c.numerals_of.result (sym c.is_some.ensures ∙ c.if-is_some.true) c.numerals_of.ensures in
    record { behind = leaves_kept (g.C.Certificate.table c.args.checked.now) c.args.bytes.now n.0.now n.1 c.args.before }

pub returns-in-Some : goal.returns-in-Some
returns-in-Some g c =
    let n = some_of (λ n. IsBeside c.args.bytes.now c.in-Some.other.now n.now) c.numerals_beside.result (sym c.is_some-in-Some-1.ensures ∙ c.if-is_some-2.true) c.numerals_beside.ensures in
    record { behind = leaves_plain (g.C.Certificate.table c.args.checked.now) c.requires.checked c.args.bytes.now c.in-Some.other.now n.0.now c.in-Some.ensures.value n.1 c.args.before }
