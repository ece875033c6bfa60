use Rattle.vt_term.proofs.Readers.{ended_private, ended_ignored}
use Rattle.vt_term.proofs.parser.ended.Goals as goal

pub returns-in-PrivateParameters : goal.returns-in-PrivateParameters
returns-in-PrivateParameters c = rw (c.in-PrivateParameters.is, c.of_private_numbers.ensures) (λ begun h w. ended_private begun c.args.numbers.now c.args.byte h)

pub returns-in-Intermediate : goal.returns-in-Intermediate
returns-in-Intermediate c begun h w = ended_ignored c.args.stage begun c.args.numbers.now c.args.byte c.in-Intermediate.is h
