use Rattle.std.proofs.Common.{◌≡◌, ◌==◌, ◌&&◌, ℕ, Bool, true, false, slice_index_or, refl, ◌∙◌, ap, arith}
use Rattle.std.proofs.lemmas.Bool.Decides.{nat_tests}
use Rattle.std.proofs.lemmas.List.{length-set}
use Rattle.cur_steps.specs.Inks.{blank_ink, same}
use Rattle.cur_steps.proofs.StretchFacts.{one_more}
use Rattle.cur_steps.proofs.stretches.blank_shown.Goals as goal

swapped : (r : Bool) (b : ℕ) → (r && (b == 32)) ≡ ((32 == b) && r)
swapped true b = grind (arith, nat_tests)
swapped false b = grind (arith, nat_tests)

pub loop-n-preserved : goal.loop-n-preserved
loop-n-preserved c =
    let n = c.loop-n.n in
    let plain = c.is_plain_ink-is_plain.result in
    let one = plain && (slice_index_or c.args.text.now n 0 == 32) in
    record {
      length = length-set c.loop-n.same n one ∙ c.loop-n.invariant.length;
      found = one_more (λ k a. a ≡ (plain && (slice_index_or c.args.text.now k 0 == 32))) c.loop-n.same n one false (omega (arith, c.loop-n-test.true, c.requires.room, c.loop-n.invariant.length)) c.loop-n.invariant.found refl;
    }

pub returns-clause-found : goal.returns-clause-found
returns-clause-found c k lt =
    let b = slice_index_or c.args.text.now k 0 in
    c.loop-n.invariant.found k (omega (arith, lt, c.loop-n-test.false)) ∙ ap (λ (t : Bool). t && (b == 32)) c.is_plain_ink-is_plain.ensures.value ∙ swapped (same blank_ink (record c.args.ink { byte = 32 })) b
