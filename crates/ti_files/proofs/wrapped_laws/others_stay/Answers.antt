use Rattle.ti_files.proofs.WrappedReadings.{certificate_stays, compiled_stays, lines_stay, source_joined}
use Rattle.ti_files.proofs.wrapped_laws.others_stay.Goals as goal

pub returns : goal.returns
returns c = record { compiled = compiled_stays; certificate = certificate_stays; source = source_joined; lines = lines_stay }
