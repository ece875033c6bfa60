-- An entry conforms if its rows stand and its strings have no clash.
use Rattle.std.proofs.Common.{◌≡◌, ℕ, ◌-◌, Bool, true, List, [], reverse, Option, None, Some, refl, sym, ap, subst, ◌∙◌, append-nil}
use Rattle.std.specs.Prelude.{is_some}
use Rattle.std.proofs.lemmas.Bool.{and_from}
use Rattle.vt_term.specs.Size.{IsSize}
use Rattle.vt_effects.specs.declared.effects.Sets.{Sets}
use Rattle.ti_caps.specs.Entry.{Content, string_at}
use Rattle.ti_conforms.specs.declared.closures.Charsets.{Charsets}
use Rattle.ti_conforms.specs.declared.reach.Reach.{Reach}
use Rattle.ti_conforms.specs.Charsets.{IsAmong, can_have}
use Rattle.ti_conforms.specs.Closures as closing
use Rattle.ti_conforms.specs.Conforms.{IsFit, Conforms}
use Rattle.ti_conforms.specs.Entries.{acsc, has_string, is_checked}
use Rattle.ti_conforms.specs.Table.{Table, has, widening}
use Rattle.ti_conforms.proofs.Conformity.{agreed_conforms}
use Rattle.ti_conforms.proofs.Matches.{same_checked}
use Rattle.ti_rows.specs.declared.rows.Looks.{Looks}
use Rattle.ti_rows.specs.declared.rows.Row.{Row}
use Rattle.ti_rows.specs.declared.rows.Row.TheVariants.{Clear, Sgr0, Csr}
use Rattle.ti_lines.specs.declared.row_lines.RowLine.{RowLine}
use Rattle.ti_cert.specs.Certificates.{looks_of}
use Rattle.ti_cert.specs.Seen.{IsFound, AreSettled}
use Rattle.ti_cert.specs.declared.clashes.Resync.{Resync}
use Rattle.ti_cert.proofs.Asked.{AreAsked, asked_in_order}
use Rattle.ti_cert.proofs.Elements.{reversed_has}
use Rattle.ti_cert.proofs.Decided.{IsAsked, Closed, judged_closed}
use Rattle.ti_cert.proofs.Together.{sets_are}
use Rattle.ti_checker.specs.First.{EachWritten}
use Rattle.ti_checker.specs.No.{GoTogether}
use Rattle.ti_checker.specs.Switches.{HasSent, OfAllSent}
use Rattle.ti_checker.proofs.Sent.{table_with, has_sent, ItsLine, its_line, line_some}
use Rattle.ti_checker.proofs.Standings.{all_stand}
use Rattle.ti_checker.proofs.Together.{whole_screen}

-- if attributes look as all lines say, each line's effect is asked for
asked_lines : (entry : Content) (rows cols : ℕ) → IsFit entry → (w : EachWritten entry rows cols) → AreAsked (reverse w.within.lines)
asked_lines entry rows cols fit w =
    subst AreAsked (append-nil (reverse w.within.lines)) (asked_in_order rows cols [] w.within.lines (all_stand entry rows cols w.within.lines fit w.stands w.within.are) (λ line a. absurd a))

record Given (entry : Content) (rows cols : ℕ) : Type 0 where
  size : IsSize rows cols
  fit : IsFit entry
  written : EachWritten entry rows cols
  goes : GoTogether entry rows cols

closed : (entry : Content) (rows cols : ℕ) (g : Given entry rows cols) (reach : Reach) (changes : List Sets) (r : Resync) (smacs : Option Sets) (begins : Bool) (settled : Charsets)
    → OfAllSent entry rows cols (λ t. IsFound t reach changes r smacs begins) → AreSettled reach changes r settled
    → Closed (table_with entry rows cols (looks_of (reverse g.written.within.lines)) (λ c. can_have reach c) (λ c. closing.has settled c)) (is_some (string_at entry acsc))
closed entry rows cols g reach changes r smacs begins settled found all = record {
  lines = λ row bytes there. asked row bytes (its_line entry rows cols own_lines t h g.written.within.are row bytes there);
  clear = line_some entry rows cols t h Clear tt (and_from (has_string entry Clear) true g.fit.clear refl);
  sgr0 = line_some entry rows cols t h Sgr0 tt (and_from (has_string entry Sgr0) true g.fit.sgr0 refl);
  widens = λ top bottom some. widens top bottom (some_line (t.line_of (Csr top bottom)) some);
  sets = sets_are t reach changes r smacs begins settled (found t h) all (λ c. refl) (λ c. refl);
  together = g.goes t h;
}
  where
    own_lines : List RowLine
    own_lines = g.written.within.lines

    t : Table
    t = table_with entry rows cols (looks_of (reverse own_lines)) (λ c. can_have reach c) (λ c. closing.has settled c)

    h : HasSent entry rows cols t
    h = has_sent entry rows cols (looks_of (reverse own_lines)) (λ c. can_have reach c) (λ c. closing.has settled c) g.size g.written.stands

    some_line : (o : Option (List ℕ)) → is_some o ≡ true → (x : List ℕ) × (o ≡ Some x)
    some_line (Some x) e = (x, refl)
    some_line None e = cc

    own : (line : RowLine) → IsAmong own_lines line → IsAsked t line.row line.bytes
    own line a =
        let k = g.written.within.are.each line a in
        record { tokens = k.has.tokens; whole = k.has.splits; effect = line.effect; recorded = k.has.recorded; asked_for = asked_lines entry rows cols g.fit g.written line (reversed_has own_lines line a) }

    asked : (row : Row) (bytes : List ℕ) → ItsLine own_lines row bytes → IsAsked t row bytes
    asked row bytes l = subst (λ (x : Row). IsAsked t x bytes) l.of_row (subst (λ (x : List ℕ). IsAsked t l.line.row x) l.bytes_are (own l.line l.among))

    widens : (top bottom : ℕ) → (x : List ℕ) × (t.line_of (Csr top bottom) ≡ Some x) → has t (widening t) ≡ true
    widens top bottom x =
        let l = its_line entry rows cols own_lines t h g.written.within.are (Csr top bottom) x.0 x.1 in
        let checked : is_checked entry (Csr top bottom) ≡ true = ap (λ (r : Row). is_checked entry r) (sym l.of_row) ∙ (g.written.within.are.each l.line l.among).sent.checked in
        line_some entry rows cols t h (Csr 0 (rows - 1)) (whole_screen rows cols g.size) (same_checked entry (Csr 0 (rows - 1)) (Csr top bottom) refl ∙ checked)

pub conforming : (entry : Content) (rows cols : ℕ) (reach : Reach) (changes : List Sets) (r : Resync) (smacs : Option Sets) (begins : Bool) (settled : Charsets) → IsSize rows cols → IsFit entry → EachWritten entry rows cols → GoTogether entry rows cols
    → OfAllSent entry rows cols (λ t. IsFound t reach changes r smacs begins) → AreSettled reach changes r settled → Conforms entry rows cols
conforming entry rows cols reach changes r smacs begins settled size fit written goes found all =
    let g : Given entry rows cols = record { size = size; fit = fit; written = written; goes = goes } in
    let looks : Looks = looks_of (reverse written.within.lines) in
    let t : Table = table_with entry rows cols looks (λ c. can_have reach c) (λ c. closing.has settled c) in
    agreed_conforms entry t fit (judged_closed t (is_some (string_at entry acsc)) (closed entry rows cols g reach changes r smacs begins settled found all))
    (has_sent entry rows cols looks (λ c. can_have reach c) (λ c. closing.has settled c) size written.stands).sends
