-- The certificate of a basic entry is its basic text.
use Rattle.std.proofs.Common.{ℕ, List, Option, Ok, sym, subst, ◌∙◌}
use Rattle.std.proofs.lemmas.Option.{same_Some}
use Rattle.ti_conforms.specs.Sends.{Sends}
use Rattle.ti_cert.specs.Certificates.{Ended, IsAnswer}
use Rattle.ti_cert.proofs.BasicAlone.{alone}
use Rattle.ti_checker.specs.Certificate.{BasicCertificate}

pub basic_certificate : BasicCertificate
basic_certificate entry rows cols text size basic c = alone entry rows cols text c.lines size basic (subst (λ (pairs : Option (List ℕ)). IsAnswer rows cols text (Ok (Ended pairs c.lines))) basic.no_pairs c.says) (record {
  range = λ line among. (c.sends line among).range;
  checked = λ line among. (c.sends line among).checked;
  sends = λ line among string there.
      let s = (c.sends line among).sends in
      subst (λ (x : List ℕ). Sends x line.row line.bytes) (same_Some s.string string (sym s.there ∙ there)) s.sends;
  all = c.complete;
})
