use Rattle.std.proofs.Common.{◌++◌, ◌∷◌, [], Bool, false, ap, ◌∙◌, arith}
use Rattle.std.specs.Int.{from_bool}
use Rattle.ti_compiled.specs.Written.{flags_of, itself}
use Rattle.ti_compiled.proofs.Rows.{flags_length, put_step, put_end}
use Rattle.ti_compiled.proofs.pack.put_flags.Goals as goal

pub loop-position-preserved : goal.loop-position-preserved
loop-position-preserved c =
    put_step (λ (flag : Bool). from_bool flag ∷ []) (flags_of c.args.entry.now) c.loop-position.position false c.args.out.now.items c.loop-position.out.items c.push.new.self.items
    (omega (arith, flags_length c.args.entry.now c.requires.entry.size)) c.loop-position.invariant
    (c.in_ok-push.ensures.items ∙ ap (λ n. c.loop-position.out.items ++ n ∷ []) (c.from.ensures ∙ ap from_bool c.flag_there.ensures))

pub returns : goal.returns
returns c =
    put_end (λ (flag : Bool). from_bool flag ∷ []) itself (flags_of c.args.entry.now) c.loop-position.position c.args.count c.args.out.now.items c.loop-position.out.items
    c.loop-position.invariant (omega arith) c.requires.count
