-- Laws of files whose source texts are joined.
use Rattle.std.specs.Prelude.{ℕ, ◌≡◌, true, List, length}
use Rattle.ti_sources.specs.Joins.{joined_lines}
use Rattle.ti_source.specs.Layout.{lines_of}
use Rattle.ti_files.specs.Wrapped.{is_certificate, is_compiled, is_source, read_as}

-- a compiled file is read as it is
abbrev pub CompiledStays : Type 0
CompiledStays = (bytes : List ℕ) → is_compiled bytes ≡ true → read_as bytes ≡ bytes

-- a certificate is read as it is
abbrev pub CertificateStays : Type 0
CertificateStays = (bytes : List ℕ) → is_certificate bytes ≡ true → read_as bytes ≡ bytes

-- a source has the joined lines, as many as before, so each place in it has the line that it has in the file
abbrev pub SourceIsJoined : Type 0
SourceIsJoined = (bytes : List ℕ) → is_source bytes ≡ true → lines_of (read_as bytes) ≡ joined_lines (lines_of bytes)

abbrev pub LinesStay : Type 0
LinesStay = (bytes : List ℕ) → length (lines_of (read_as bytes)) ≡ length (lines_of bytes)
