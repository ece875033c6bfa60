use Rattle.std.proofs.Common.{◌++◌, None, ap, ◌∙◌, arith}
use Rattle.std.specs.Prelude.{is_some}
use Rattle.ti_compiled.specs.Packed.{number_bytes}
use Rattle.ti_compiled.specs.Written.{numbers_of, number_cell}
use Rattle.ti_compiled.proofs.Rows.{numbers_length, put_step, put_end}
use Rattle.ti_compiled.proofs.Files.{cell_small}
use Rattle.ti_compiled.proofs.pack.put_numbers.Goals as goal

pub put_number-requires : goal.put_number-requires
put_number-requires c =
    cell_small c.args.form c.args.entry.now c.requires.entry c.requires.form c.loop-position.position (omega arith) c.number_there.result c.number_there.ensures

pub loop-position-preserved : goal.loop-position-preserved
loop-position-preserved c =
    put_step (λ number. number_bytes c.args.form (number_cell c.args.form number)) (numbers_of c.args.entry.now) c.loop-position.position None c.args.out.now.items c.loop-position.out.items c.put_number.new.out.items
    (omega (arith, numbers_length c.args.entry.now c.requires.entry.size)) c.loop-position.invariant
    (c.in_ok-put_number.ensures ∙ ap (λ number. c.loop-position.out.items ++ number_bytes c.args.form (number_cell c.args.form number)) c.number_there.ensures)

pub returns : goal.returns
returns c =
    put_end (λ number. number_bytes c.args.form (number_cell c.args.form number)) is_some (numbers_of c.args.entry.now) c.loop-position.position c.args.count c.args.out.now.items c.loop-position.out.items
    c.loop-position.invariant (omega arith) c.requires.count
