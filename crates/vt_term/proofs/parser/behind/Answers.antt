use Rattle.vt_term.proofs.Readers.{first_number, more_numbers, more_private, more_unnamed}
use Rattle.vt_term.proofs.parser.behind.Goals as goal

pub returns-in-Introduced-2-clause-at : goal.returns-in-Introduced-2-clause-at
returns-in-Introduced-2-clause-at c begun h o =
    let at = rw c.in-Introduced.is at h in
    first_number c.behind_number.result c.args.numbers.now.items c.behind_number.new.numbers.items begun c.args.byte at.0 at.1 c.if-byte-eq63.false
    c.behind_number.ensures.stage c.behind_number.ensures.numbers (λ e n. c.behind_number.ensures.unnamed e begun n)

pub returns-in-Parameters-clause-at : goal.returns-in-Parameters-clause-at
returns-in-Parameters-clause-at c begun h o =
    let at = rw c.in-Parameters.is at h in
    more_numbers c.behind_number-in-Parameters.result c.args.numbers.now.items c.behind_number-in-Parameters.new.numbers.items begun c.args.byte at
    c.behind_number-in-Parameters.ensures.stage c.behind_number-in-Parameters.ensures.numbers (λ e n. c.behind_number-in-Parameters.ensures.unnamed e begun n)

pub returns-in-PrivateParameters-clause-at : goal.returns-in-PrivateParameters-clause-at
returns-in-PrivateParameters-clause-at c begun h o =
    let at = rw c.in-PrivateParameters.is at h in
    more_private c.behind_number-in-PrivateParameters.result c.args.numbers.now.items c.behind_number-in-PrivateParameters.new.numbers.items begun c.args.byte at
    c.behind_number-in-PrivateParameters.ensures.stage c.behind_number-in-PrivateParameters.ensures.numbers (λ e n. c.behind_number-in-PrivateParameters.ensures.unnamed e begun n)

pub returns-in-OtherParameters-clause-at : goal.returns-in-OtherParameters-clause-at
returns-in-OtherParameters-clause-at c begun h o =
    c.unnamed.ensures begun c.args.numbers.now.items (more_unnamed c.args.stage c.args.numbers.now.items begun c.args.byte c.in-OtherParameters.is h)
