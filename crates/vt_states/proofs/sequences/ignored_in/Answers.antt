use Rattle.std.proofs.Common.{◌≡◌, ℕ, ◌+◌, ◌∙◌, ap, arith, drop, length, length-drop, subst}
use Rattle.std.proofs.lemmas.List.{take_rest}
use Rattle.vt_states.proofs.Finding.{CountedTo, escape_passed, none_left}
use Rattle.vt_states.proofs.sequences.ignored_in.Goals as goal

pub loop-escape-preserved : goal.loop-escape-preserved
loop-escape-preserved c =
    let e = take_rest c.args.text.now c.loop-escape.at in
    let there : c.loop-escape.at + c.in-Some.escape + 1 ≡ c.loop-escape.at + (c.in-Some.escape + 1) = omega arith in
    record {
      within = omega (arith, c.in-Some.ensures.0.high, ap length e, length-drop c.loop-escape.at c.args.text.now, c.loop-escape.invariant.within);
      counted = subst (λ (m : ℕ). CountedTo c.args.text.now m c.count_behind.new.counts) there
          (escape_passed c.args.text.now _ _ c.loop-escape.at c.in-Some.escape c.loop-escape.counts c.count_behind.new.counts c.loop-escape.invariant.counted c.loop-escape.invariant.within e
          c.in-Some.ensures.0 c.in-Some.ensures.1 (take_rest c.args.text.now (c.loop-escape.at + (c.in-Some.escape + 1)) ∙ ap (λ (m : ℕ). drop m c.args.text.now) (let back : c.loop-escape.at + (c.in-Some.escape + 1) ≡ c.loop-escape.at + c.in-Some.escape + 1 = omega arith in back))
          (c.in_ok-count_behind-in-Some.ensures c.loop-escape.invariant.counted.came c.loop-escape.invariant.counted.count));
    }

pub returns-in-None : goal.returns-in-None
returns-in-None c = none_left c.args.text.now _ c.loop-escape.at c.loop-escape.counts c.loop-escape.invariant.counted c.loop-escape.invariant.within (take_rest c.args.text.now c.loop-escape.at) c.in-None.ensures
