use Rattle.std.proofs.Common.{refl, sym}
use Rattle.vt_term.proofs.Decimals.{numbers_semicolon, digit_read}
use Rattle.vt_term.proofs.parser.read_numeral.Goals as goal

pub returns-then-byte-eq59-clause-numbers : goal.returns-then-byte-eq59-clause-numbers
returns-then-byte-eq59-clause-numbers c front e =
    let taken = rw c.unwrap.ensures at c.push.ensures.items in
    rw (taken, c.if-byte-eq59.true, numbers_semicolon front, e) refl

pub returns-else-byte-eq59-clause-numbers : goal.returns-else-byte-eq59-clause-numbers
returns-else-byte-eq59-clause-numbers c front e =
    let taken = rw c.unwrap-else-byte-eq59.ensures at c.push-else-byte-eq59.ensures.items in
    rw (taken, c.with_digit.ensures, c.unwrap_or-number.ensures) (digit_read front _ c.args.byte c.pop.new.self.items c.pop.result c.if-byte-eq59.false e c.pop.ensures.items _ (sym c.args.numbers.now.ok.0) c.pop.ensures.value)
