use Rattle.std.proofs.Common.{ap, ◌∙◌, sym, arith}
use Rattle.std.specs.Prelude.{option_map}
use Rattle.cur_scripts.specs.Cuts.{parts_left}
use Rattle.cur_scripts.specs.Texts.{behind, calls_of, script_of}
use Rattle.cur_scripts.proofs.Readers.{taken}
use Rattle.cur_scripts.proofs.scripts.read_script.Goals as goal

pub loop-left-preserved : goal.loop-left-preserved
loop-left-preserved c =
    let number = rw c.in-Some.is at c.loop-left.invariant.number in
    let rest = rw c.in-Some.is at c.loop-left.invariant.rest in
    let left = parts_left 10 (option_map (λ text. text.now) c.first_part.result.1) in
    let cut = ap (λ lines. behind c.loop-left.calls.items (calls_of c.loop-left.number lines)) c.first_part.ensures.parts in
    record {
      number = omega (arith, number, c.first_part.ensures.shorter);
      rest = taken c.loop-left.number c.first_part.result.0.now left c.loop-left.calls.items c.read_line.new.calls.items (script_of c.args.text.now) c.in_ok-read_line.ensures.ok (sym cut ∙ rest);
    }
