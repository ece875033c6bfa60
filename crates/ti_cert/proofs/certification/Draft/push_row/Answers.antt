use Rattle.std.proofs.Common.{refl}
use Rattle.std.proofs.lemmas.Result.{on_ok_weaker}
use Rattle.ti_cert.proofs.Drafts.{adds_other, adds_standard}
use Rattle.ti_cert.proofs.certification.Draft.push_row.Goals as goal

pub push_standard-requires : goal.push_standard-requires
push_standard-requires c = (c.in_ok-standard.ensures.sent c.if-standard.true).form

pub returns-then-standard : goal.returns-then-standard
returns-then-standard c = on_ok_weaker c.push_standard.result (adds_standard c.args.string.now _ c.args.row c.args.self.now _ c.push_standard.new.self refl refl (c.in_ok-standard.ensures.sent c.if-standard.true)) c.push_standard.ensures

pub returns-else-standard : goal.returns-else-standard
returns-else-standard c = on_ok_weaker c.push_judged.result (adds_other c.args.string.now c.args.row c.args.self.now _ c.push_judged.new.self refl refl) c.push_judged.ensures
