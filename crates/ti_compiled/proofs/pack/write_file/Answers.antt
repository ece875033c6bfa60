use Rattle.std.proofs.Common.{◌+◌, ◌++◌, length, ap, ◌∙◌}
use Rattle.ti_compiled.specs.Packed.{word, magic}
use Rattle.ti_compiled.proofs.Files.{file_is}
use Rattle.ti_compiled.proofs.pack.write_file.Goals as goal

pub returns : goal.returns
returns c =
    file_is c.args.entry.now c.args.plan.now c.args.names.now c.put_header.new.out.items c.extend_from_slice.new.self.items c.push.new.self.items
    c.put_flags.new.out.items c.put_padding.new.out.items c.put_numbers.new.out.items c.put_offsets.new.out.items c.put_table.new.out.items
    c.requires.plan c.requires.names
    (c.in_ok-put_header.ensures ∙ ap (λ xs. xs ++ word (magic c.args.plan.now.form) ++ word (length c.args.names.now + 1) ++ word c.args.plan.now.flags ++ word c.args.plan.now.numbers ++ word c.args.plan.now.strings ++ word c.args.plan.now.table) c.in_ok-out.ensures.items)
    c.in_ok-extend_from_slice.ensures.items c.in_ok-push.ensures.items c.in_ok-put_flags.ensures c.in_ok-put_padding.ensures
    c.in_ok-put_numbers.ensures c.in_ok-put_offsets.ensures c.in_ok-put_table.ensures
