use Rattle.std.proofs.Common.{ap}
use Rattle.ti_files.proofs.WrappedReadings.{chained_left}
use Rattle.ti_files.proofs.wrapped.WrappedFiles.reader.Goals as goal

pub returns-clause-bytes : goal.returns-clause-bytes
returns-clause-bytes g c =
    chained_left ((g.F.Files.holds c.args.self.now.files.now).at c.args.path.now) (g.F.File.Read.remaining c.in_ok-file.file) (g.F.File.Read.remaining c.read_front.new.file) _
    c.in_ok-front.front.items c.in-Ok.text.items c.new.result.inner.items c.new.result.pos
    c.chain.ensures.bytes c.new.ensures.position (ap (λ v. v.items) c.new.ensures.inner) c.in_ok-file.ensures.bytes c.in_ok-front.ensures c.in-Ok.ensures
