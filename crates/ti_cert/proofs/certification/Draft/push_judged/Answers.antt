use Rattle.std.proofs.Common.{ℕ, List, refl, sym, subst, ◌∙◌}
use Rattle.ti_conforms.specs.Sends.{Sends}
use Rattle.ti_cert.proofs.Drafts.{adds_judged, pushed}
use Rattle.ti_cert.proofs.certification.Draft.push_judged.Goals as goal

pub returns : goal.returns
returns c = adds_judged c.args.string.now c.from_vec-2.result c.args.row c.args.self.now _ (subst (λ (b : List ℕ). Sends c.args.string.now c.args.row b) (sym c.from_vec-2.ensures) c.in_ok-send_into.ensures.sends)
    (pushed c.args.self.now _ c.take_room.new.self _ c.args.row c.in-Some.effect _ _ c.judge_row.new.self c.replace-room.new.dest refl refl (c.deref-2.ensures.value ∙ sym c.from_vec-2.ensures)
    c.in_ok-take_room.ensures c.in_ok-judge_row.ensures.ok refl refl)
