-- The certificate of an entry: a text with exactly the lines that its strings send.
use Rattle.std.specs.Prelude.{ℕ, ◌≡◌, true, List, Some, Ok}
use Rattle.ti_caps.specs.Entry.{Content, string_at}
use Rattle.ti_rows.specs.declared.rows.Row.{Row}
use Rattle.ti_rows.specs.Lists.{IsInRange}
use Rattle.ti_lines.specs.declared.row_lines.RowLine.{RowLine}
use Rattle.ti_conforms.specs.Entries.{acsc, is_checked, string_of}
use Rattle.ti_conforms.specs.Sends.{Sends}
use Rattle.ti_conforms.specs.Charsets.{IsAmong}
use Rattle.vt_term.specs.Size.{IsSize}
use Rattle.ti_cert.specs.Basic.{IsBasic, basic_text_of}
use Rattle.ti_cert.specs.Order.{HasLine}
use Rattle.ti_cert.specs.Certificates.{Ended, IsAnswer}

-- the entry's string sends the bytes for the row
pub record SendsFor (entry : Content) (row : Row) (bytes : List ℕ) : Type 0 where
  pub string : List ℕ
  pub there : string_of entry row ≡ Some string
  pub sends : Sends string row bytes

-- the row is checked, and the entry's string sends these bytes for it
pub record IsSent (entry : Content) (rows cols : ℕ) (row : Row) (bytes : List ℕ) : Type 0 where
  pub range : IsInRange rows cols row
  pub checked : is_checked entry row ≡ true
  pub sends : SendsFor entry row bytes

pub record IsCertificateOf (entry : Content) (rows cols : ℕ) (text : List ℕ) : Type 0 where
  pub lines : List RowLine
  -- read from its first byte to its last, the text is a certificate for the size, with the entry's pairs of alternate
  -- characters and these lines, each of them judged
  pub says : IsAnswer rows cols text (Ok (Ended (string_at entry acsc) lines))
  pub sends : (line : RowLine) → IsAmong lines line → IsSent entry rows cols line.row line.bytes
  pub complete : (row : Row) → IsInRange rows cols row → is_checked entry row ≡ true → HasLine lines row

-- the certificate of a basic entry is its basic text
abbrev pub BasicCertificate : Type 0
BasicCertificate =
    (entry : Content) (rows cols : ℕ) (text : List ℕ) → IsSize rows cols → IsBasic entry rows cols
    → IsCertificateOf entry rows cols text → text ≡ basic_text_of entry rows cols
