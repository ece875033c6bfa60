-- The text of a basic certificate is accepted.
use Rattle.std.proofs.Common.{◌≡◌, ◌≤◌, ◌+◌, ◌*◌, ℕ, zero, suc, Bool, true, false, List, [], ◌∷◌, ◌++◌, map, reverse, length, None, Result, Ok, Err, inl, inr, refl, subst, sym, ap, ◌∙◌, arith, length-append}
use Rattle.std.specs.List.{AllByRecursion, flat_map, range_with_len}
use Rattle.std.proofs.lemmas.List.FromFn.{length-map-range_with_len}
use Rattle.vt_term.specs.Size.{IsSize}
use Rattle.ti_conforms.specs.Charsets.{IsAmong}
use Rattle.ti_rows.specs.declared.rows.Row.{Row}
use Rattle.ti_rows.specs.declared.rows.Row.TheVariants.{Cup, Home, El, Sgr0}
use Rattle.ti_lines.specs.declared.row_lines.RowLine.{RowLine}
use Rattle.ti_lines.specs.Heads.{size_text}
use Rattle.ti_lines.specs.RowLines.{IsLine, line_text}
use Rattle.ti_lines.specs.Texts.{row_lines, ended}
use Rattle.ti_cert.specs.Certificates.{Said, Ended, CertFault}
use Rattle.ti_cert.specs.Texts.{StandInOrder, IsCertificate, IsRefused}
use Rattle.ti_cert.specs.Basic.{basic_line, places, only_if, basic_rows, basic_text, BasicAccepted, IsStopped}
use Rattle.ti_cert.specs.declared.faults.CertFaultKind.{CertFaultKind}
use Rattle.ti_cert.specs.declared.faults.CertFaultKind.TheVariants.{NoMemory}
use Rattle.ti_lines.specs.declared.judgements.LineFault.{LineFault}
use Rattle.ti_cert.proofs.Elements.{reversed_has, reversed_only, mapped_has, mapped_only}
use Rattle.ti_cert.proofs.BasicOrder.{Kind, kind_of, IsReady, ready_first, ready_place, ready_end, ready_next}
use Rattle.ti_cert.proofs.BasicLines.{has_text, has_tokens, has_effect, is_asked_for, size_is, size_short}
use Rattle.ti_cert.proofs.Texts.{ended_length}
use Rattle.ti_cert.proofs.Converse.{accepted_certificate}
use Rattle.ti_cert.proofs.Singleness.{one_answer}
use Rattle.ti_cert.proofs.BasicTogether.{AreBasic, lines_together}

-- the lines of a basic certificate, in its order
abbrev pub basic_lines : ℕ → ℕ → Bool → Bool → List RowLine
basic_lines rows cols home el = map basic_line (basic_rows rows cols home el)

-- ---- the elements of this list

listed_only : (rest : List Row) (line : RowLine) → IsAmong (map basic_line rest) line → IsAmong rest line.row × (line ≡ basic_line line.row)
listed_only rest line a =
    let m = mapped_only basic_line rest line a in
    let e : m.from ≡ line.row = sym (ap (λ (l : RowLine). l.row) m.is) in
    (subst (λ (r : Row). IsAmong rest r) e m.among, m.is ∙ ap basic_line e)

pub are_basic : (rows cols : ℕ) (home el : Bool) → AreBasic rows cols home el (reverse (basic_lines rows cols home el))
are_basic rows cols home el = record {
  each = λ line a. listed_only (basic_rows rows cols home el) line (reversed_only (basic_lines rows cols home el) line a);
  all = λ row a. reversed_has (basic_lines rows cols home el) (basic_line row) (mapped_has basic_line (basic_rows rows cols home el) row a);
}

-- ---- each line can be written, is short and is in its place

stand : (rows cols : ℕ) (home el : Bool) (before : List RowLine) (rest : List Row) → IsSize rows cols → IsReady rows cols home el before rest → StandInOrder rows cols before (map basic_line rest)
stand rows cols home el before [] size ready = ready_end rows cols home el before ready
stand rows cols home el before (row ∷ rest) size ready =
    let k = ready.each row (inl refl) in (
      record {
        place = ready_place rows cols home el before row rest ready;
        has = has_effect rows cols row (has_tokens rows cols home el row size k);
        asked = is_asked_for rows cols home el before row k;
      },
      stand rows cols home el (basic_line row ∷ before) rest size (ready_next rows cols home el before row rest ready),
    )

-- each of these rows is a row of a basic certificate
abbrev EachIs : ℕ → ℕ → Bool → Bool → List Row → Type 0
EachIs rows cols home el rest = (row : Row) → IsAmong rest row → Kind rows cols home el row

written : (rows cols : ℕ) (home el : Bool) (rest : List Row) → IsSize rows cols → EachIs rows cols home el rest → AllByRecursion IsLine (map basic_line rest)
written rows cols home el [] size each = tt
written rows cols home el (row ∷ rest) size each = ((has_text rows cols home el row size (each row (inl refl))).line_is, written rows cols home el rest size (λ r a. each r (inr a)))

short : (rows cols : ℕ) (home el : Bool) (rest : List Row) → IsSize rows cols → EachIs rows cols home el rest → length (ended (row_lines (map basic_line rest))) ≤ length rest * 100 + 4
short rows cols home el [] size each = omega arith
short rows cols home el (row ∷ rest) size each =
    let line = (has_text rows cols home el row size (each row (inl refl))).short in
    let more = short rows cols home el rest size (λ r a. each r (inr a)) in
    let l = ended_length (line_text (basic_line row)) (row_lines (map basic_line rest)) in
    omega (arith, line, more, l)

-- ---- the number of lines

lines_length : (cols from n : ℕ) → cols ≤ 500 → length (flat_map (λ row. map (λ col. Cup row col) (range_with_len 0 cols)) (range_with_len from n)) ≤ n * 500
lines_length cols from zero h = omega arith
lines_length cols from (suc n) h =
    let a = length-append (map (λ col. Cup from col) (range_with_len 0 cols)) (flat_map (λ row. map (λ col. Cup row col) (range_with_len 0 cols)) (range_with_len (from + 1) n)) in
    let b = length-map-range_with_len (λ col. Cup from col) 0 cols in
    let more = lines_length cols (from + 1) n h in
    omega (arith, a, b, more, h)

one_at_most : (there : Bool) (row : Row) → length (only_if there row) ≤ 1
one_at_most true row = omega arith
one_at_most false row = omega arith

rows_length : (rows cols : ℕ) (home el : Bool) → IsSize rows cols → length (basic_rows rows cols home el) ≤ 100004
rows_length rows cols home el size =
    let p = lines_length cols 0 rows size.3 in
    let a = length-append (places rows cols) (only_if el El ++ (only_if home Home ++ Sgr0 ∷ [])) in
    let b = length-append (only_if el El) (only_if home Home ++ Sgr0 ∷ []) in
    let c = length-append (only_if home Home) (Sgr0 ∷ []) in
    let e = one_at_most el El in
    let h = one_at_most home Home in
    let r = size.1 in
    omega (arith, p, a, b, c, e, h, r)

-- ---- the whole text

certificate : (rows cols : ℕ) (home el : Bool) → IsSize rows cols → IsCertificate rows cols (basic_text rows cols home el) None (basic_lines rows cols home el)
unfolding basic_text
certificate rows cols home el size = record {
  spelled = record {
    size = size_is rows cols size;
    acsc = tt;
    lines = written rows cols home el (basic_rows rows cols home el) size (λ row a. kind_of rows cols home el row a);
    spelled = refl;
  };
  stands = stand rows cols home el [] (basic_rows rows cols home el) size (ready_first rows cols home el);
  few =
      let n = rows_length rows cols home el size in
      let s = size_short rows cols size in
      let all = short rows cols home el (basic_rows rows cols home el) size (λ row a. kind_of rows cols home el row a) in
      let l = ended_length (size_text rows cols) (row_lines (map basic_line (basic_rows rows cols home el))) in
      omega (arith, n, s, all, l);
}

pub basic_accepted : BasicAccepted
basic_accepted rows cols home el size = accepted_certificate rows cols (basic_text rows cols home el) None (basic_lines rows cols home el) (certificate rows cols home el size)
    (lines_together rows cols home el (reverse (basic_lines rows cols home el)) size (are_basic rows cols home el))

-- ---- a refusal

never_both : (said : Said) (fault : LineFault CertFaultKind) → (x y : Result Said (LineFault CertFaultKind)) → x ≡ Ok said → y ≡ Err fault → x ≡ y → ⊥
never_both said fault x y e f h = cc

pub stopped : (rows cols : ℕ) (home el : Bool) (Failed : Type 0) (fault : CertFault) → IsSize rows cols → IsRefused rows cols (basic_text rows cols home el) Failed fault → IsStopped Failed fault
stopped rows cols home el Failed fault size (inl h) =
    let said : Said = Ended None (reverse (map basic_line (basic_rows rows cols home el))) in
    absurd (never_both said fault (Ok said) (Err fault) refl refl
    (one_answer rows cols (basic_text rows cols home el) (Ok said) (Err fault) (basic_accepted rows cols home el size) h))
stopped rows cols home el Failed fault size (inr stop) = stop

pub out_of_memory : (fault : CertFault) → IsStopped ⊥ fault → fault.kind ≡ NoMemory
out_of_memory fault (inl e) = e
out_of_memory fault (inr f) = absurd f.1
