use Rattle.std.proofs.Common.{List, Bor, Option, Vec, option_map, inl, subst}
use Rattle.ti_openings.specs.Openings.{OpensIf, texts_of}
use Rattle.ti_reports.proofs.openings.left_out.Goals as goal

pub returns-in-Some : goal.returns-in-Some
returns-in-Some c = inl (subst (λ o. OpensIf c.args.entry.now c.args.size.rows c.args.size.cols (option_map (λ names. texts_of names.items) o)) c.in-Some.is c.in_ok-names.ensures)
