use Rattle.std.proofs.Common.{ap, arith}
use Rattle.std.proofs.lemmas.Result.{err_from_is_err_and}
use Rattle.ti_commands.proofs.FeedFacts.{file_told, screen_shown, size_told, stuck_told}
use Rattle.ti_commands.proofs.feeds.feed_file.Goals as goal

pub returns-in_err-size-clause-failure : goal.returns-in_err-size-clause-failure
returns-in_err-size-clause-failure g c =
    let p = err_from_is_err_and c.from_residual.result c.from_residual.ensures.1 in
    rw (p.1, p.2) (size_told (g.F.Files.holds c.args.files.now) c.args.rows.now c.args.cols.now c.args.path.now c.in_err-size.field-0.0 c.in_err-size.ensures.failure)

pub returns-in_err-bytes-clause-failure : goal.returns-in_err-bytes-clause-failure
returns-in_err-bytes-clause-failure g c =
    let p = err_from_is_err_and c.from_residual-in_err-bytes.result c.from_residual-in_err-bytes.ensures.1 in
    rw (p.1, p.2) (file_told (g.F.Files.holds c.args.files.now) c.args.rows.now c.args.cols.now c.args.path.now c.in_ok-size.size.rows c.in_ok-size.size.cols c.in_ok-size.ensures.size c.in_err-bytes.field-0.0 c.in_err-bytes.ensures.failure)

pub returns-in_err-text-clause-failure : goal.returns-in_err-text-clause-failure
returns-in_err-text-clause-failure g c =
    let p = err_from_is_err_and c.from_residual-in_err-text.result c.from_residual-in_err-text.ensures.1 in
    rw (p.1, p.2) (stuck_told (g.F.Files.holds c.args.files.now) c.args.rows.now c.args.cols.now c.args.path.now c.in_ok-size.size.rows c.in_ok-size.size.cols c.in_ok-size.ensures.size c.in_ok-bytes.bytes.items c.as_slice.result.now c.in_err-text.field-0.0
    c.in_ok-bytes.ensures.whole (omega (arith, c.in_ok-bytes.ensures.short)) c.as_slice.ensures.value c.in_err-text.ensures.failure)

pub returns-clause-reply : goal.returns-clause-reply
returns-clause-reply g c =
    screen_shown (g.F.Files.holds c.args.files.now) c.args.rows.now c.args.cols.now c.args.path.now c.in_ok-size.size.rows c.in_ok-size.size.cols c.in_ok-size.ensures.size c.in_ok-bytes.bytes.items c.as_slice.result.now c.in_ok-text.text.items c.of_text.result
    c.in_ok-bytes.ensures.whole (omega (arith, c.in_ok-bytes.ensures.short)) c.as_slice.ensures.value c.in_ok-text.ensures.text c.of_text.ensures.notes (ap (λ v. v.items) c.of_text.ensures.text) c.of_text.ensures.failure
