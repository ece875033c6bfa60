-- The lines of a certificate that was read to its end are judged.
use Rattle.std.proofs.Common.{◌≡◌, ◌-◌, ℕ, Bool, true, false, List, [], ◌∷◌, Option, Some, None, refl, sym, ap, ◌∙◌, subst}
use Rattle.std.specs.Prelude.{is_some}
use Rattle.std.proofs.lemmas.Option.{same_Some, none-some}
use Rattle.vt_term.specs.Screen.{Charset}
use Rattle.vt_effects.specs.declared.effects.Effect.{Effect}
use Rattle.vt_effects.specs.declared.effects.Sets.{Sets}
use Rattle.vt_effects.specs.Effect.{designated}
use Rattle.vt_effects.specs.declared.starts.Start.{Start}
use Rattle.vt_effects.specs.Record.{record_of}
use Rattle.ti_conforms.specs.declared.closures.Charsets.{Charsets}
use Rattle.ti_conforms.specs.Closures.{kept}
use Rattle.ti_rows.specs.declared.rows.Row.{Row}
use Rattle.ti_rows.specs.declared.rows.Row.TheVariants.{Clear, Sgr0, Enacs, Smacs, Rmacs, Csr, Smcup}
use Rattle.ti_rows.specs.Asked.{start_of, asked}
use Rattle.ti_rows.specs.declared.rows.Looks.{Looks}
use Rattle.ti_conforms.specs.Table.{Table, resync}
use Rattle.ti_conforms.specs.Judged.{IsJudged}
use Rattle.ti_cert.specs.Strings.{row_string, has_group}
use Rattle.ti_cert.specs.Known.{Known, IsKept, IsFrom, IsTold, Holds}
use Rattle.ti_cert.specs.Audits.{IsConcluded, ConcludesBy, Together}
use Rattle.ti_cert.specs.Clashes.{IsClash, GoesTogether, kind_of}
use Rattle.ti_cert.specs.declared.clashes.Clash.{Clash}
use Rattle.ti_cert.specs.declared.faults.CertFaultKind.{CertFaultKind}
use Rattle.ti_cert.specs.Seen.{LeadsAs, AreSeen, ChangesBy, NoLine, ByLine, IsFound, AreSettled}
use Rattle.ti_cert.specs.Table.{checked_of, head_of, first_of_resync, Changes, NoString, OfString}
use Rattle.ti_conforms.proofs.Sendable.{in_order}
use Rattle.ti_cert.specs.declared.clashes.Resync.{Resync}
use Rattle.ti_cert.proofs.Together.{sets_are}
use Rattle.ti_cert.proofs.Decided.{record_sets, judged_closed}
use Rattle.ti_cert.proofs.GroupFacts.{there_some}

some_there : (o : Option (List ℕ)) → is_some o ≡ true → (x : List ℕ) × (o ≡ Some x)
some_there (Some x) h = (x, refl)
some_there None h = cc

tail_of : (xs : List ℕ) (b : ℕ) → head_of xs ≡ Some b → (rest : List ℕ) × (xs ≡ b ∷ rest)
tail_of [] b h = absurd (none-some b h)
tail_of (x ∷ xs) b h = (xs, ap (λ (y : ℕ). y ∷ xs) (same_Some x b h))

pub resync_head : (k : Known) (settled : Charsets) → first_of_resync k.strings ≡ head_of (resync (checked_of k settled))
resync_head k settled = ap (λ (xs : List ℕ). head_of xs) (sym (in_order (checked_of k settled)))

pub resync_begins : (k : Known) (settled : Charsets) → first_of_resync k.strings ≡ Some 27 → (rest : List ℕ) × (resync (checked_of k settled) ≡ 27 ∷ rest)
resync_begins k settled escape = tail_of (resync (checked_of k settled)) 27 (sym (resync_head k settled) ∙ escape)

-- the changes of the charsets by the strings that lead out of an unknown state, and by `smacs`
pub record ChangeCharsets (k : Known) (r : Resync) (smacs : Option Sets) : Type 0 where
  pub smcup_is : Changes k.strings Smcup r.smcup
  pub enacs_is : Changes k.strings Enacs r.enacs
  pub sgr0_is : Changes k.strings Sgr0 r.sgr0
  pub rmacs_is : Changes k.strings Rmacs r.rmacs
  pub smacs_is : Changes k.strings Smacs smacs

line_change : (k : Known) (settled : Charsets) (row : Row) (o : Option Sets) → Changes k.strings row o → ChangesBy (checked_of k settled) row o
line_change k settled row _ (NoString none) = NoLine none
line_change k settled row _ (OfString bytes there tokens whole effect recorded) =
    ByLine bytes there effect.charset (record { tokens = tokens; whole = whole; leads = record_sets k.strings.rows k.strings.cols row tokens effect recorded })

-- a line leads from each charset as the change of its record does
line_leads : (k : Known) (h : Holds k) (row : Row) (bytes : List ℕ) (there : row_string k.strings row ≡ Some bytes) → LeadsAs bytes (h.lines row bytes there).effect.charset
line_leads k h row bytes there =
    let l : IsKept k h.all row bytes = h.lines row bytes there in
    record { tokens = l.tokens; whole = l.whole; leads = record_sets k.strings.rows k.strings.cols row l.tokens l.effect l.has.recorded }

-- the facts kept of the lines are those of the table
seen_of : (k : Known) (settled : Charsets) → Holds k → AreSeen (checked_of k settled) k.reach k.changes
unfolding line_leads
seen_of k settled h = record {
  tokens = h.all;
  reach_is = h.reach_is;
  occurs = λ token among.
      let f : IsFrom k token = h.from_lines token among in
      record { row = f.row; bytes = f.bytes; there = f.there; tokens = f.tokens; whole = f.whole; among = f.among };
  told = λ change among.
      let f : IsTold k change = h.told change among in
      record {
        row = f.row;
        bytes = f.bytes;
        there = f.there;
        keeps = f.keeps;
        leads = record { tokens = f.tokens; whole = f.whole; leads = λ c. record_sets k.strings.rows k.strings.cols f.row f.tokens f.effect f.recorded c ∙ ap (λ (x : Sets). designated x c) (sym f.is) };
      };
  lines = λ row bytes there.
      let l : IsKept k h.all row bytes = h.lines row bytes there in
      record { change = l.effect.charset; leads = line_leads k h row bytes there; reached = l.reached; settled = l.settled };
}

keeps_sets : (k : Known) → Holds k → (row : Row) → ((l : Looks) (e : Effect) (c : Charset) → designated (asked l row e).charset c ≡ c) → (bytes : List ℕ) → row_string k.strings row ≡ Some bytes → LeadsAs bytes kept
keeps_sets k h row same bytes there =
    let l : IsKept k h.all row bytes = h.lines row bytes there in
    record {
      tokens = l.tokens;
      whole = l.whole;
      leads = λ c. record_sets k.strings.rows k.strings.cols row l.tokens l.effect l.has.recorded c ∙ (ap (λ (x : Effect). designated x.charset c) l.has.asked_for ∙ same k.looks l.effect c);
    }

pub found_of : (k : Known) (settled : Charsets) (r : Resync) (smacs : Option Sets) (escapes : Bool) → Holds k → ChangeCharsets k r smacs → (escapes ≡ true → first_of_resync k.strings ≡ Some 27)
    → (escapes ≡ false → first_of_resync k.strings ≡ Some 27 → ⊥) → IsFound (checked_of k settled) k.reach k.changes r smacs escapes
found_of k settled r smacs escapes h s begun opened = record {
  seen = seen_of k settled h;
  smcup_is = line_change k settled Smcup r.smcup s.smcup_is;
  enacs_is = line_change k settled Enacs r.enacs s.enacs_is;
  sgr0_is = line_change k settled Sgr0 r.sgr0 s.sgr0_is;
  rmacs_is = line_change k settled Rmacs r.rmacs s.rmacs_is;
  smacs_is = line_change k settled Smacs smacs s.smacs_is;
  widens = keeps_sets k h (Csr 0 (k.strings.rows - 1)) (λ l e c. refl);
  clears = keeps_sets k h Clear (λ l e c. refl);
  opens = λ off rest f. opened off (resync_head k settled ∙ ap (λ (xs : List ℕ). head_of xs) f);
  begins = λ on never. let b = resync_begins k settled (begun on) in never b.0 b.1;
}

-- the facts known of all lines at the end of a certificate
record Ends (k : Known) (settled : Charsets) (r : Resync) (smacs : Option Sets) (has_acsc escapes : Bool) : Type 0 where
  holds : Holds k
  clear : is_some (row_string k.strings Clear) ≡ true
  sgr0_there : is_some (row_string k.strings Sgr0) ≡ true
  csr : has_group k.strings (Csr 0 1) ≡ true → is_some (row_string k.strings (Csr 0 (k.strings.rows - 1))) ≡ true
  found : IsFound (checked_of k settled) k.reach k.changes r smacs escapes
  all : AreSettled k.reach k.changes r settled
  together : GoesTogether has_acsc (checked_of k settled)

judged : (k : Known) (settled : Charsets) (r : Resync) (smacs : Option Sets) (has_acsc escapes : Bool) → Ends k settled r smacs has_acsc escapes → IsJudged (checked_of k settled)
judged k settled r smacs has_acsc escapes p = judged_closed (checked_of k settled) has_acsc (record {
  lines = λ row bytes there.
      let l : IsKept k p.holds.all row bytes = p.holds.lines row bytes there in
      record { tokens = l.tokens; whole = l.whole; effect = l.effect; recorded = l.has.recorded; asked_for = l.has.asked_for };
  clear = p.clear;
  sgr0 = p.sgr0_there;
  widens = λ top bottom there. p.csr (let found = some_there (row_string k.strings (Csr top bottom)) there in there_some k.strings (Csr top bottom) found.0 found.1);
  sets = sets_are (checked_of k settled) k.reach k.changes r smacs escapes settled p.found p.all (λ c. refl) (λ c. refl);
  together = p.together;
})

-- ---- the end of a certificate

pub concluded : (k : Known) (settled : Charsets) (r : Resync) (smacs : Option Sets) (has_acsc escapes : Bool) (changes : List Sets) → changes ≡ k.changes → Holds k → is_some (row_string k.strings Clear) ≡ true
    → is_some (row_string k.strings Sgr0) ≡ true → (has_group k.strings (Csr 0 1) ≡ true → is_some (row_string k.strings (Csr 0 (k.strings.rows - 1))) ≡ true) → ChangeCharsets k r smacs
    → (escapes ≡ true → first_of_resync k.strings ≡ Some 27) → (escapes ≡ false → first_of_resync k.strings ≡ Some 27 → ⊥) → AreSettled k.reach changes r settled
    → ((t : Table) → IsFound t k.reach changes r smacs escapes → GoesTogether has_acsc t) → IsConcluded k has_acsc settled
concluded k settled r smacs has_acsc escapes changes same holds clear sgr0 csr strings begun opened all goes =
    let found : IsFound (checked_of k settled) k.reach k.changes r smacs escapes = found_of k settled r smacs escapes holds strings begun opened in
    let together : GoesTogether has_acsc (checked_of k settled) = goes (checked_of k settled) (subst (λ (xs : List Sets). IsFound (checked_of k settled) k.reach xs r smacs escapes) (sym same) found) in
    record {
      judged = judged k settled r smacs has_acsc escapes (record {
        holds = holds;
        clear = clear;
        sgr0_there = sgr0;
        csr = csr;
        found = found;
        all = subst (λ (xs : List Sets). AreSettled k.reach xs r settled) same all;
        together = together;
      });
      together = together;
    }

pub failed : (k : Known) (r : Resync) (smacs : Option Sets) (has_acsc escapes : Bool) (changes : List Sets) (clash : Clash) (kind : CertFaultKind) → changes ≡ k.changes → Holds k → ChangeCharsets k r smacs
    → (escapes ≡ true → first_of_resync k.strings ≡ Some 27) → (escapes ≡ false → first_of_resync k.strings ≡ Some 27 → ⊥) → ((t : Table) → IsFound t k.reach changes r smacs escapes → IsClash has_acsc t clash) → kind ≡ kind_of clash
    → ConcludesBy k has_acsc kind
failed k r smacs has_acsc escapes changes clash kind same holds strings begun opened clashes e =
    let none : Charsets = record { members = [] } in
    Together none clash (clashes (checked_of k none) (subst (λ (xs : List Sets). IsFound (checked_of k none) k.reach xs r smacs escapes) (sym same) (found_of k none r smacs escapes holds strings begun opened))) e

pub recorded_at : (rows cols r q : ℕ) (st : Start) (row : Row) (ts us : List (List ℕ)) (e : Effect) → Some e ≡ record_of r q st ts → r ≡ rows → q ≡ cols → st ≡ start_of r q row → ts ≡ us
    → record_of rows cols (start_of rows cols row) us ≡ Some e
recorded_at rows cols r q st row ts us e h er eq es et = sym (h ∙ (ap (λ (s : Start). record_of r q s ts) es ∙ (ap (λ (x : List (List ℕ)). record_of r q (start_of r q row) x) et
    ∙ (ap (λ (n : ℕ). record_of n q (start_of n q row) us) er ∙ ap (λ (n : ℕ). record_of rows n (start_of rows n row) us) eq))))
