use Rattle.ti_conforms.specs.Conforms.{Conforms}
use Rattle.ti_conforms.specs.Entries.{EntryAgrees}
use Rattle.ti_cert.specs.Strings.{row_string}
use Rattle.ti_cert.specs.Table.{table_of}
use Rattle.ti_cert.specs.Table as tables
use Rattle.ti_cert.specs.Verified.{Resyncs}
use Rattle.ti_cert.proofs.Accepted.{verified, is_verified, agrees_at, resyncs, at_ok}
use Rattle.std.proofs.Common.{◌≡◌, refl, sym, subst}
use Rattle.std.proofs.lemmas.Result.{IfErr-weaker}
use Rattle.ti_lines.specs.Reader.{Rose}
use Rattle.ti_conforms.specs.Entries.{has_string}
use Rattle.ti_rows.specs.declared.rows.Row.TheVariants.{Home, El}
use Rattle.ti_cert.specs.Basic.{IsVerifyStopped, basic_text_of}
use Rattle.ti_cert.proofs.BasicAgreement.{basic_table_at}
use Rattle.ti_cert.specs.Texts.{IsCertRefused, IsTableOf}
use Rattle.ti_cert.specs.declared.faults.AgreeFault.TheVariants as agreeing
use Rattle.ti_cert.specs.declared.faults.VerifyFault.{VerifyFault}
use Rattle.ti_cert.specs.declared.faults.VerifyFault.TheVariants.{Agree}
use Rattle.ti_cert.proofs.verification.verify_from.Goals as goal

pub handed_out-requires : goal.handed_out-requires
handed_out-requires g c = is_verified c.args.entry.now c.in-Ok.table c.args.size.rows c.args.size.cols c.args.size.limits c.in-Ok-agrees.ensures.fit c.in-Ok.ensures.judged c.in-Ok.ensures.looks c.in-Ok-agrees.ensures.lines c.in-Ok.ensures.rows c.in-Ok.ensures.cols c.in-Ok.ensures.few

pub returns-in-Ok-agrees-clause-conforms : goal.returns-in-Ok-agrees-clause-conforms
returns-in-Ok-agrees-clause-conforms g c = at_ok (λ (t : tables.CheckedTable). Conforms c.args.entry.now c.args.size.rows c.args.size.cols) c.in-Ok.table c.handed_out.result c.handed_out.ensures.same
    (verified c.args.entry.now c.in-Ok.table c.args.size.rows c.args.size.cols c.in-Ok-agrees.ensures.fit c.in-Ok.ensures.judged c.in-Ok-agrees.ensures.lines c.in-Ok.ensures.rows c.in-Ok.ensures.cols)

pub returns-in-Ok-agrees-clause-sends : goal.returns-in-Ok-agrees-clause-sends
returns-in-Ok-agrees-clause-sends g c = at_ok (λ (t : tables.CheckedTable). EntryAgrees c.args.size.rows c.args.size.cols c.args.entry.now (λ row. row_string t.known.strings row)) c.in-Ok.table c.handed_out.result c.handed_out.ensures.same
    (agrees_at c.args.entry.now c.in-Ok.table c.args.size.rows c.args.size.cols c.in-Ok-agrees.ensures.lines c.in-Ok.ensures.rows c.in-Ok.ensures.cols)

pub returns-in-Ok-agrees-clause-resyncs : goal.returns-in-Ok-agrees-clause-resyncs
returns-in-Ok-agrees-clause-resyncs g c = at_ok (λ (t : tables.CheckedTable). Resyncs (table_of t)) c.in-Ok.table c.handed_out.result c.handed_out.ensures.same
    (resyncs c.in-Ok.table (is_verified c.args.entry.now c.in-Ok.table c.args.size.rows c.args.size.cols c.args.size.limits c.in-Ok-agrees.ensures.fit c.in-Ok.ensures.judged c.in-Ok.ensures.looks c.in-Ok-agrees.ensures.lines c.in-Ok.ensures.rows c.in-Ok.ensures.cols c.in-Ok.ensures.few))

pub returns-in-Ok-agrees-clause-refused : goal.returns-in-Ok-agrees-clause-refused
returns-in-Ok-agrees-clause-refused g c = λ text left.
    let F = Rose (g.R.Reader.failures c.args.reader.now) (g.R.Reader.failures c.audit_from.new.reader) in
    IfErr-weaker c.handed_out.result (λ fault. fault ≡ Agree agreeing.NoMemory) (IsCertRefused c.args.size.rows c.args.size.cols text F)
    (λ fault e. subst (λ (f : VerifyFault). IsCertRefused c.args.size.rows c.args.size.cols text F f) (sym e) tt) c.handed_out.ensures.fails

pub returns-in-Err-clause-basic : goal.returns-in-Err-clause-basic
returns-in-Err-clause-basic g c = λ basic left. c.in-Err.ensures.basic (has_string c.args.entry.now Home) (has_string c.args.entry.now El) left

pub returns-in-Ok-agrees-clause-basic : goal.returns-in-Ok-agrees-clause-basic
returns-in-Ok-agrees-clause-basic g c = λ basic left.
    let F = Rose (g.R.Reader.failures c.args.reader.now) (g.R.Reader.failures c.audit_from.new.reader) in
    IfErr-weaker c.handed_out.result (λ fault. fault ≡ Agree agreeing.NoMemory) (IsVerifyStopped F) (λ fault e. subst (IsVerifyStopped F) (sym e) refl) c.handed_out.ensures.fails

pub returns-in-Err-agrees-clause-basic : goal.returns-in-Err-agrees-clause-basic
returns-in-Err-agrees-clause-basic g c = λ basic left.
    c.in-Err-agrees.ensures.basic (basic_table_at c.args.entry.now c.in-Ok.table c.args.size.rows c.args.size.cols c.in-Ok.ensures.rows c.in-Ok.ensures.cols c.args.size.limits basic
    (c.in-Ok.ensures.accepted (basic_text_of c.args.entry.now c.args.size.rows c.args.size.cols) left))

pub returns-in-Ok-agrees-clause-accepted : goal.returns-in-Ok-agrees-clause-accepted
returns-in-Ok-agrees-clause-accepted g c = λ text left. at_ok (IsTableOf c.args.size.rows c.args.size.cols text) c.in-Ok.table c.handed_out.result c.handed_out.ensures.same (c.in-Ok.ensures.accepted text left)
