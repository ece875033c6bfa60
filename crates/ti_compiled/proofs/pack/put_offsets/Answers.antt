use Rattle.std.proofs.Common.{◌<◌, length, refl, arith}
use Rattle.ti_compiled.specs.Packed.{word}
use Rattle.ti_compiled.specs.Written.{strings_of}
use Rattle.ti_compiled.proofs.Rows.{strings_length, size_step, offsets_step, offsets_end, place_small}
use Rattle.ti_compiled.proofs.Files.{offset_fits}
use Rattle.ti_compiled.proofs.pack.put_offsets.Goals as goal

pub put_word-requires : goal.put_word-requires
put_word-requires c =
    let within = place_small (strings_of c.args.entry.now) c.loop-position.position c.args.count c.loop-position.place (omega arith) c.requires.count c.loop-position.invariant.place in
    offset_fits c.string_size-size.result c.loop-position.place c.offset_at.result _ refl c.offset_at.ensures (omega arith)

pub overflow_add-place : goal.overflow_add-place
overflow_add-place c =
    let within = place_small (strings_of c.args.entry.now) c.loop-position.position c.args.count c.loop-position.place (omega arith) c.requires.count c.loop-position.invariant.place in
    omega arith

pub loop-position-preserved : goal.loop-position-preserved
loop-position-preserved c =
    let within : c.loop-position.position < length (strings_of c.args.entry.now) = omega (arith, strings_length c.args.entry.now c.requires.entry.size) in
    record {
      place = size_step (strings_of c.args.entry.now) c.loop-position.position c.loop-position.place c.string_size-size.result within c.loop-position.invariant.place c.string_size-size.ensures.value;
      out = offsets_step word (strings_of c.args.entry.now) c.loop-position.position c.loop-position.place c.string_size-size.result c.offset_at.result c.args.out.now.items c.loop-position.out.items c.put_word.new.out.items
          within c.loop-position.invariant.place c.string_size-size.ensures.value c.offset_at.ensures c.loop-position.invariant.out c.in_ok-put_word.ensures;
    }

pub returns : goal.returns
returns c =
    offsets_end word (strings_of c.args.entry.now) c.loop-position.position c.args.count c.args.out.now.items c.loop-position.out.items
    c.loop-position.invariant.out (omega arith) c.requires.count
