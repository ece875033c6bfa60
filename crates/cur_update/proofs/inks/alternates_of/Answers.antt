use Rattle.std.proofs.Common.{◌≡◌, ◌+◌, ◌∙◌, ℕ, Option, ap, arith}
use Rattle.std.proofs.lemmas.List.{length-set}
use Rattle.std.proofs.lemmas.List.FromFn.{fill_by_all}
use Rattle.ti_conforms.specs.Alternates.{in_plain_set, shown}
use Rattle.ti_conforms.specs.declared.partners.Character.{Character as KnownCharacter}
use Rattle.cur_steps.proofs.StretchFacts.{one_more}
use Rattle.cur_update.specs.Inks.{alternate_of, known_as, partner_in}
use Rattle.cur_update.proofs.inks.alternates_of.Goals as goal

pub returns : goal.returns
returns g c =
    fill_by_all (alternate_of c.args.graphic (g.C.Certificate.partners c.args.checked.now)) c.loop-k.characters 95 (known_as (in_plain_set 32)) c.loop-k.invariant.length
    (λ k lt. c.loop-k.invariant.found k (omega (arith, lt)))

pub loop-k-preserved : goal.loop-k-preserved
loop-k-preserved g c =
    let k = c.loop-k.k in
    let partners = g.C.Certificate.partners c.args.checked.now in
    let f : ℕ → KnownCharacter = alternate_of c.args.graphic partners in
    let partner : c.partner_in.result ≡ partner_in c.args.graphic (partners (32 + k)) = c.partner_in.ensures ∙ ap (partner_in c.args.graphic) c.partner.ensures.value in
    let one : c.shown.result ≡ f k =
    (λ i. record { byte = c.shown.ensures.byte i; graphic = c.shown.ensures.graphic i }) ∙ ap (λ (p : Option ℕ). known_as (shown p (32 + k))) partner in
    record {
      length = length-set c.loop-k.characters k c.shown.result ∙ c.loop-k.invariant.length;
      found = one_more (λ k a. a ≡ f k) c.loop-k.characters k c.shown.result (known_as (in_plain_set 32)) (omega (arith, c.loop-k-test.true, c.loop-k.invariant.length)) c.loop-k.invariant.found one;
    }
