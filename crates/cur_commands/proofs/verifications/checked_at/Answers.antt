use Rattle.std.proofs.Common.{◌∙◌, ap}
use Rattle.ti_cert.specs.Texts.{IsTableOf}
use Rattle.cur_commands.proofs.Verdicts.{cert_lacks, known_left}
use Rattle.cur_commands.proofs.verifications.checked_at.Goals as goal

pub returns-in-Ok-verify_from-clause-hands_out : goal.returns-in-Ok-verify_from-clause-hands_out
returns-in-Ok-verify_from-clause-hands_out g c =
    let e = c.in-Ok-verify_from.ensures in
    let known = (g.F.Files.holds c.args.files.now).at c.args.path.now in
    record {
      rows = e.rows;
      cols = e.cols;
      sends = e.sends;
      partners = e.acsc;
      accepted = known_left (λ text. IsTableOf c.args.size.rows c.args.size.cols text c.in-Ok-verify_from.checked) known (g.F.File.Read.remaining c.in-Ok.file) c.in-Ok.ensures.bytes
          (λ text left. e.accepted text (ap g.F.File.Read.remaining c.new-reader.ensures ∙ left));
    }

pub returns-in-Err-Cert-clause-failure : goal.returns-in-Err-Cert-clause-failure
returns-in-Err-Cert-clause-failure g c =
    let known = (g.F.Files.holds c.args.files.now).at c.args.path.now in
    cert_lacks known (g.F.File.Read.remaining c.in-Ok.file) c.args.size.rows c.args.size.cols c.args.entry.now c.args.path.now _ c.in-Err-Cert.field-0 c.in-Err-Cert.fault c.cert_failure.result c.in-Err-Cert.field-0-is c.in-Ok.ensures.bytes
    (λ text left. c.in-Err-Cert.ensures.refused text (ap g.F.File.Read.remaining c.new-reader.ensures ∙ left)) c.cert_failure.ensures
