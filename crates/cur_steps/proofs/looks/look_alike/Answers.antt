use Rattle.std.proofs.Common.{◌≡◌, ℕ, List, Some, refl, sym, ap, ◌∙◌}
use Rattle.std.proofs.lemmas.Slice.Eq.{bytes_eq-Decides}
use Rattle.ti_rows.specs.declared.rows.Row.TheVariants.{Sgr}
use Rattle.ti_conforms.specs.Certified.{HasSingles}
use Rattle.cur_steps.proofs.Answers.{has_none}
use Rattle.cur_steps.proofs.LookFacts.{alike_by_bytes, alike_by_singles, alike_itself}
use Rattle.cur_steps.proofs.Sameness.{attributes_equal}
use Rattle.cur_steps.proofs.SingleFacts.{sgr_absent}
use Rattle.cur_steps.proofs.looks.look_alike.Goals as goal

pub returns-then-same_attributes : goal.returns-then-same_attributes
returns-then-same_attributes g c =
    record { alike = λ e. alike_itself (g.C.Certificate.table c.args.checked.now) c.args.a c.args.b (attributes_equal c.args.a c.args.b (sym c.if-same_attributes.ensures.value)) }

pub returns-in-Some-Some : goal.returns-in-Some-Some
returns-in-Some-Some g c =
    let t = g.C.Certificate.table c.args.checked.now in
    let one = c.in-Some-Some.one.now in
    let other = c.in-Some-Some.other.now in
    record {
      alike = λ e. (
          let same : one ≡ other = (bytes_eq-Decides one other).0 (sym c.eq.ensures ∙ e) in
          alike_by_bytes t c.requires.checked c.args.a c.args.b one c.in-Some-Some.ensures.value (c.in-Some-Some.ensures'.value ∙ ap (λ (x : List ℕ). Some x) (sym same)));
    }

pub returns-in-None-None : goal.returns-in-None-None
returns-in-None-None g c =
    let t = g.C.Certificate.table c.args.checked.now in
    let a = c.args.a in
    let b = c.args.b in
    let singles : HasSingles t = c.requires.checked.singles (sgr_absent t c.requires.checked.attributes a (has_none t (Sgr a) (c.in-None-None.ensures.none refl))) in
    record {
      alike = λ e. alike_by_singles t singles a b
          (sym c.seen.ensures ∙ attributes_equal c.seen.result c.seen-in-None-None.result (sym c.same_attributes-in-None-None.ensures.value ∙ e) ∙ c.seen-in-None-None.ensures);
    }
