-- A text that is accepted is that of a certificate.
use Rattle.std.proofs.Common.{◌≡◌, ◌⊎◌, ◌<◌, ◌≤◌, ◌+◌, ◌-◌, ℕ, List, [], ◌∷◌, ◌++◌, length, reverse, is_some, Option, Some, None, Result, Ok, Err, inl, inr, refl, sym, ap, subst, ◌∙◌, arith, append_assoc, append-nil, length-append}
use Rattle.std.specs.List.{AllByRecursion}
use Rattle.std.proofs.lemmas.Slice.Eq.{bytes_eq-Decides}
use Rattle.std.proofs.lemmas.List.{reverse-reverse}
use Rattle.std.proofs.lemmas.Grind.{reverse_onto}
use Rattle.ti_lines.specs.declared.row_lines.RowLine.{RowLine}
use Rattle.ti_lines.specs.Heads.{size_text, end_text, IsSizeText}
use Rattle.ti_lines.specs.Hex.{hex_text}
use Rattle.ti_lines.specs.RowLines.{numbers_text, IsLine, IsTextOf}
use Rattle.ti_rows.specs.Names.{name_of}
use Rattle.ti_rows.specs.Params.{params}
use Rattle.hex.specs.Hex.{lower_digits}
use Rattle.hex.proofs.HexLemmas.{length-encode_with}
use Rattle.ti_lines.specs.Texts.{acsc_lines, row_lines, ended, IsAcsc}
use Rattle.ti_lines.specs.Text.{IsText, cut_of}
use Rattle.ti_lines.proofs.Texts.{text_is}
use Rattle.ti_lines.specs.Judgements.{Passes, Fails, TooLong, JudgedLine, JudgedLines, JudgedFrom, Judged}
use Rattle.ti_lines.specs.declared.judgements.LineFault.{LineFault}
use Rattle.ti_cert.specs.Clashes.{GoesTogether, OfLines}
use Rattle.ti_cert.specs.Order.{IsComplete}
use Rattle.ti_cert.specs.Certificates.{Said, Nothing, Sized, Listing, Ended, JudgesRow, NotAllowed, TooLate, TooEarly, Cut, Wild, Untrue, Unasked, Stands, JudgesLast, Lacks, Clashes, Closes, JudgesLater, IsLast, IsRow, IsMisplaced, IsNone, JudgesSecond, HasPairs, HasNoPairs, JudgesFirst, HasSize, HasNoSize, JudgesLine, rules_of, limit, IsAnswer}
use Rattle.ti_cert.specs.Audits.{all_bytes}
use Rattle.ti_cert.specs.Texts.{StandsNext, StandInOrder, IsCertificate, IsThatOfCertificate}
use Rattle.ti_cert.specs.declared.faults.CertFaultKind.{CertFaultKind}

abbrev Answer : Type 0
Answer = Result Said (LineFault CertFaultKind)

-- the meaning of a line without fault

never_errs : (s : Said) (kind : CertFaultKind) → (a : Result Said CertFaultKind) → a ≡ Ok s → a ≡ Err kind → ⊥
never_errs s kind a e f = cc

same_said : (s t : Said) → (a : Result Said CertFaultKind) → a ≡ Ok s → a ≡ Ok t → s ≡ t
same_said s t a e f = cc

never_fails : (s : Said) (e : LineFault CertFaultKind) → (a : Answer) → a ≡ Ok s → a ≡ Err e → ⊥
never_fails s e a f g = cc

pub row_passes : (rows cols : ℕ) (lines : List RowLine) (line : RowLine) (after u : Said) → JudgesRow rows cols lines line after (Ok u) → StandsNext rows cols lines line × (u ≡ after)
row_passes rows cols lines line after u (NotAllowed never e) = absurd (never_errs u _ (Ok u) refl e)
row_passes rows cols lines line after u (TooLate range late e) = absurd (never_errs u _ (Ok u) refl e)
row_passes rows cols lines line after u (TooEarly range behind row first e) = absurd (never_errs u _ (Ok u) refl e)
row_passes rows cols lines line after u (Cut place never e) = absurd (never_errs u _ (Ok u) refl e)
row_passes rows cols lines line after u (Wild place none e) = absurd (never_errs u _ (Ok u) refl e)
row_passes rows cols lines line after u (Untrue place effect has never e) = absurd (never_errs u _ (Ok u) refl e)
row_passes rows cols lines line after u (Unasked place has never kind misfit e) = absurd (never_errs u _ (Ok u) refl e)
row_passes rows cols lines line after u (Stands place has asked e) = (record { place = place; has = has; asked = asked }, same_said u after (Ok u) refl e)

pub last_passes : (rows cols : ℕ) (pairs : Option (List ℕ)) (lines : List RowLine) (u : Said) → JudgesLast rows cols pairs lines (Ok u)
    → IsComplete rows cols lines None × OfLines rows cols lines (λ t. GoesTogether (is_some pairs) t) × (u ≡ Ended pairs lines)
last_passes rows cols pairs lines u (Lacks row first e) = absurd (never_errs u _ (Ok u) refl e)
last_passes rows cols pairs lines u (Clashes complete kind clash e) = absurd (never_errs u _ (Ok u) refl e)
last_passes rows cols pairs lines u (Closes complete together e) = (complete, together, same_said u (Ended pairs lines) (Ok u) refl e)

-- the last line, or one more about a capability
record Ends (rows cols : ℕ) (pairs : Option (List ℕ)) (lines : List RowLine) (text : List ℕ) (u : Said) : Type 0 where
  text_is : end_text ≡ text
  complete : IsComplete rows cols lines None
  together : OfLines rows cols lines (λ t. GoesTogether (is_some pairs) t)
  after : u ≡ Ended pairs lines

record Goes (rows cols : ℕ) (pairs : Option (List ℕ)) (lines : List RowLine) (text : List ℕ) (u : Said) : Type 0 where
  line : RowLine
  text_is : IsTextOf text line
  stands : StandsNext rows cols lines line
  after : u ≡ Listing pairs (line ∷ lines)

later_passes : (rows cols : ℕ) (pairs : Option (List ℕ)) (lines : List RowLine) (text : List ℕ) (u : Said) → JudgesLater rows cols pairs lines text (Ok u) → Ends rows cols pairs lines text u ⊎ Goes rows cols pairs lines text u
later_passes rows cols pairs lines text u (IsLast end p) =
    let l = last_passes rows cols pairs lines u p in inl (record { text_is = sym ((bytes_eq-Decides text end_text).0 end); complete = l.0; together = l.1; after = l.2 })
later_passes rows cols pairs lines text u (IsRow off line is p) =
    let l = row_passes rows cols lines line (Listing pairs (line ∷ lines)) u p in inr (record { line = line; text_is = is; stands = l.0; after = l.1 })
later_passes rows cols pairs lines text u (IsMisplaced off never bytes is e) = absurd (never_errs u _ (Ok u) refl e)
later_passes rows cols pairs lines text u (IsNone off never none e) = absurd (never_errs u _ (Ok u) refl e)

-- the rest of a text that is accepted
record IsRest (rows cols budget : ℕ) (before : List RowLine) (texts : List (List ℕ)) (last : List ℕ) (pairs own : Option (List ℕ)) (final : List RowLine) : Type 0 where
  lines : List RowLine
  texts_are : row_lines lines ≡ texts
  last_is : last ≡ []
  pairs_are : pairs ≡ own
  final_is : final ≡ reverse lines ++ before
  each : AllByRecursion IsLine lines
  stand : StandInOrder rows cols before lines
  together : OfLines rows cols final (λ t. GoesTogether (is_some pairs) t)
  few : length (ended texts) ≤ budget
  counted : all_bytes final ≤ length (ended texts) + all_bytes before

record HasPassed (rows cols budget number : ℕ) (said : Said) (line : List ℕ) (Later : Said → Type 0) : Type 0 where
  small : length line < budget
  after : Said
  is : JudgesLine rows cols said line (Ok after)
  later : Later after

has_passed : (rows cols budget number : ℕ) (said s : Said) (line : List ℕ) (Later : Said → Type 0) → JudgedLine (rules_of rows cols) budget number said line Later (Ok s) → HasPassed rows cols budget number said line Later
has_passed rows cols budget number said s line Later (Passes small u is p) = record { small = small; after = u; is = is; later = p }
has_passed rows cols budget number said s line Later (Fails small kind e is) = absurd (never_fails s _ (Ok s) refl e)
has_passed rows cols budget number said s line Later (TooLong long e) = absurd (never_fails s _ (Ok s) refl e)

pub ended_length : (line : List ℕ) (texts : List (List ℕ)) → length (ended (line ∷ texts)) ≡ length line + (length (ended texts) + 1)
ended_length line texts = let l = length-append line (10 ∷ ended texts) in omega (arith, l)

-- two digits for each byte
hex_length : (bytes : List ℕ) → length bytes ≤ length (hex_text bytes)
hex_length [] = omega arith
hex_length (b ∷ bytes) = let l = length-encode_with lower_digits (b ∷ bytes) in omega (arith, l)

longer : (name numbers digits rest text bytes : List ℕ) → name ++ 32 ∷ (numbers ++ (digits ++ 32 ∷ rest)) ≡ text → length bytes ≤ length digits → length bytes ≤ length text
longer name numbers digits rest text bytes e h =
    let whole : length (name ++ 32 ∷ (numbers ++ (digits ++ 32 ∷ rest))) ≡ length text = ap (λ (x : List ℕ). length x) e in
    let a = length-append name (32 ∷ (numbers ++ (digits ++ 32 ∷ rest))) in
    let b = length-append numbers (digits ++ 32 ∷ rest) in
    let d = length-append digits (32 ∷ rest) in
    omega (arith, h, whole, a, b, d)

bytes_within : (text : List ℕ) (line : RowLine) → IsTextOf text line → length line.bytes ≤ length text
bytes_within text line is = longer (name_of line.row) (numbers_text (params line.row)) (hex_text line.bytes) _ text line.bytes is.spelled (hex_length line.bytes)

length_ended : (line : List ℕ) (texts : List (List ℕ)) (budget : ℕ) → length line < budget → length (ended texts) ≤ budget - (length line + 1) → length (ended (line ∷ texts)) ≤ budget
length_ended line texts budget small few = let l = length-append line (10 ∷ ended texts) in omega (arith, small, few, l)

same_end : (a b : Option (List ℕ)) (l m : List RowLine) → (x : Result Said CertFaultKind) → x ≡ Ok (Ended a l) → x ≡ Ok (Ended b m) → (a ≡ b) × (l ≡ m)
same_end a b l m x e f = (cc, cc)

-- nothing comes after the last line
nothing_after : (rows cols budget number : ℕ) (own : Option (List ℕ)) (before : List RowLine) (texts : List (List ℕ)) (last : List ℕ) (pairs : Option (List ℕ)) (final : List RowLine)
    → JudgedLines (rules_of rows cols) budget number (Ended own before) texts last (Ok (Ended pairs final)) → (texts ≡ []) × (last ≡ []) × (pairs ≡ own) × (final ≡ before)
unfolding JudgedLines
nothing_after rows cols budget number own before [] [] pairs final p = let s = same_end pairs own final before (Ok (Ended pairs final)) refl p in (refl, refl, s.0, s.1)
nothing_after rows cols budget number own before [] (b ∷ last) pairs final p = absurd (never_fails (Ended pairs final) _ (Ok (Ended pairs final)) refl p)
nothing_after rows cols budget number own before (line ∷ texts) last pairs final p =
    let h = has_passed rows cols budget number (Ended own before) (Ended pairs final) line (λ u. JudgedLines (rules_of rows cols) (budget - (length line + 1)) (number + 1) u texts last (Ok (Ended pairs final))) p in
    absurd (never_errs h.after _ (Ok h.after) refl h.is)

pub turned : (line : RowLine) (lines before : List RowLine) → reverse (line ∷ lines) ++ before ≡ reverse lines ++ (line ∷ before)
turned line lines before = ap (λ (x : List RowLine). x ++ before) (reverse_onto lines line []) ∙ append_assoc (reverse lines) (line ∷ []) before

-- one more line, and the rest after it
rest_with : (rows cols budget number : ℕ) (own : Option (List ℕ)) (before : List RowLine) (text : List ℕ) (texts : List (List ℕ)) (last : List ℕ) (pairs : Option (List ℕ)) (final : List RowLine)
    → (h : HasPassed rows cols budget number (Listing own before) text (λ u. JudgedLines (rules_of rows cols) (budget - (length text + 1)) (number + 1) u texts last (Ok (Ended pairs final))))
    → ((line : RowLine) → JudgedLines (rules_of rows cols) (budget - (length text + 1)) (number + 1) (Listing own (line ∷ before)) texts last (Ok (Ended pairs final))
    → IsRest rows cols (budget - (length text + 1)) (line ∷ before) texts last pairs own final)
    → Ends rows cols own before text h.after ⊎ Goes rows cols own before text h.after → IsRest rows cols budget before (text ∷ texts) last pairs own final
rest_with rows cols budget number own before text texts last pairs final h later (inl e) =
    let n = nothing_after rows cols (budget - (length text + 1)) (number + 1) own before texts last pairs final
    (subst (λ (u : Said). JudgedLines (rules_of rows cols) (budget - (length text + 1)) (number + 1) u texts last (Ok (Ended pairs final))) e.after h.later) in
    record {
      lines = [];
      texts_are = ap (λ (x : List ℕ). x ∷ []) e.text_is ∙ ap (λ (x : List (List ℕ)). text ∷ x) (sym n.0);
      last_is = n.1;
      pairs_are = n.2;
      final_is = n.3;
      each = tt;
      stand = e.complete;
      together = subst (λ (o : Option (List ℕ)). OfLines rows cols final (λ t. GoesTogether (is_some o) t)) (sym n.2)
          (subst (λ (l : List RowLine). OfLines rows cols l (λ t. GoesTogether (is_some own) t)) (sym n.3) e.together);
      few = length_ended text texts budget h.small (subst (λ (x : List (List ℕ)). length (ended x) ≤ budget - (length text + 1)) (sym n.0) (omega arith));
      counted = let same : all_bytes final ≡ all_bytes before = ap (λ (l : List RowLine). all_bytes l) n.3 in omega (arith, same);
    }
rest_with rows cols budget number own before text texts last pairs final h later (inr g) =
    let r = later g.line (subst (λ (u : Said). JudgedLines (rules_of rows cols) (budget - (length text + 1)) (number + 1) u texts last (Ok (Ended pairs final))) g.after h.later) in
    record {
      lines = g.line ∷ r.lines;
      texts_are = ap (λ (x : List ℕ). x ∷ row_lines r.lines) g.text_is.spelled ∙ ap (λ (x : List (List ℕ)). text ∷ x) r.texts_are;
      last_is = r.last_is;
      pairs_are = r.pairs_are;
      final_is = r.final_is ∙ sym (turned g.line r.lines before);
      each = (g.text_is.line_is, r.each);
      stand = (g.stands, r.stand);
      together = r.together;
      few = length_ended text texts budget h.small r.few;
      counted = let c = r.counted in let l = ended_length text texts in let b = bytes_within text g.line g.text_is in omega (arith, c, l, b);
    }

rest_of : (rows cols budget number : ℕ) (own : Option (List ℕ)) (before : List RowLine) (texts : List (List ℕ)) (last : List ℕ) (pairs : Option (List ℕ)) (final : List RowLine)
    → JudgedLines (rules_of rows cols) budget number (Listing own before) texts last (Ok (Ended pairs final)) → IsRest rows cols budget before texts last pairs own final
unfolding JudgedLines
rest_of rows cols budget number own before [] [] pairs final p = absurd (never_errs (Ended pairs final) _ (Ok (Ended pairs final)) refl p)
rest_of rows cols budget number own before [] (b ∷ last) pairs final p = absurd (never_fails (Ended pairs final) _ (Ok (Ended pairs final)) refl p)
rest_of rows cols budget number own before (text ∷ texts) last pairs final p =
    let h : HasPassed rows cols budget number (Listing own before) text (λ u. JudgedLines (rules_of rows cols) (budget - (length text + 1)) (number + 1) u texts last (Ok (Ended pairs final))) =
    has_passed rows cols budget number (Listing own before) (Ended pairs final) text (λ u. JudgedLines (rules_of rows cols) (budget - (length text + 1)) (number + 1) u texts last (Ok (Ended pairs final))) p in
    rest_with rows cols budget number own before text texts last pairs final h
    (λ line j. rest_of rows cols (budget - (length text + 1)) (number + 1) own (line ∷ before) texts last pairs final j) (later_passes rows cols own before text h.after h.is)

-- the first two lines

record IsAll (rows cols budget : ℕ) (texts : List (List ℕ)) (last : List ℕ) (pairs : Option (List ℕ)) (final : List RowLine) : Type 0 where
  lines : List RowLine
  texts_are : acsc_lines pairs ++ row_lines lines ≡ texts
  last_is : last ≡ []
  acsc : IsAcsc pairs
  final_is : final ≡ reverse lines ++ []
  each : AllByRecursion IsLine lines
  stand : StandInOrder rows cols [] lines
  together : OfLines rows cols final (λ t. GoesTogether (is_some pairs) t)
  few : length (ended texts) ≤ budget
  counted : all_bytes final ≤ length (ended texts)

second_passes : (rows cols budget number : ℕ) (text : List ℕ) (texts : List (List ℕ)) (last : List ℕ) (pairs : Option (List ℕ)) (final : List RowLine) (u : Said) → length text < budget → JudgesSecond rows cols text (Ok u)
    → JudgedLines (rules_of rows cols) (budget - (length text + 1)) (number + 1) u texts last (Ok (Ended pairs final)) → JudgedLines (rules_of rows cols) budget number (Listing None []) (text ∷ texts) last (Ok (Ended pairs final)) ⊎ IsAll rows cols budget (text ∷ texts) last pairs final
unfolding JudgedLines
second_passes rows cols budget number text texts last pairs final u small (HasPairs bytes is e) later =
    let r = rest_of rows cols (budget - (length text + 1)) (number + 1) (Some bytes) [] texts last pairs final
    (subst (λ (x : Said). JudgedLines (rules_of rows cols) (budget - (length text + 1)) (number + 1) x texts last (Ok (Ended pairs final))) (same_said u (Listing (Some bytes) []) (Ok u) refl e) later) in
    inr (record {
      lines = r.lines;
      texts_are = ap (λ (o : Option (List ℕ)). acsc_lines o ++ row_lines r.lines) r.pairs_are ∙ (ap (λ (x : List ℕ). x ∷ row_lines r.lines) is.spelled ∙ ap (λ (x : List (List ℕ)). text ∷ x) r.texts_are);
      last_is = r.last_is;
      acsc = subst (λ (o : Option (List ℕ)). IsAcsc o) (sym r.pairs_are) is.bytes_are;
      final_is = r.final_is;
      each = r.each;
      stand = r.stand;
      together = r.together;
      few = length_ended text texts budget small r.few;
      counted = let c = r.counted in let l = ended_length text texts in omega (arith, c, l);
    })
second_passes rows cols budget number text texts last pairs final u small (HasNoPairs none p) later = inl (Passes small u p later)

second_of : (rows cols budget number : ℕ) (texts : List (List ℕ)) (last : List ℕ) (pairs : Option (List ℕ)) (final : List RowLine) → JudgedLines (rules_of rows cols) budget number Sized texts last (Ok (Ended pairs final))
    → IsAll rows cols budget texts last pairs final
unfolding JudgedLines
second_of rows cols budget number [] [] pairs final p = absurd (never_errs (Ended pairs final) _ (Ok (Ended pairs final)) refl p)
second_of rows cols budget number [] (b ∷ last) pairs final p = absurd (never_fails (Ended pairs final) _ (Ok (Ended pairs final)) refl p)
second_of rows cols budget number (text ∷ texts) last pairs final p = by_line (second_passes rows cols budget number text texts last pairs final h.after h.small h.is h.later)
  where
    h : HasPassed rows cols budget number Sized text (λ u. JudgedLines (rules_of rows cols) (budget - (length text + 1)) (number + 1) u texts last (Ok (Ended pairs final)))
    h = has_passed rows cols budget number Sized (Ended pairs final) text (λ u. JudgedLines (rules_of rows cols) (budget - (length text + 1)) (number + 1) u texts last (Ok (Ended pairs final))) p

    by_line : JudgedLines (rules_of rows cols) budget number (Listing None []) (text ∷ texts) last (Ok (Ended pairs final)) ⊎ IsAll rows cols budget (text ∷ texts) last pairs final → IsAll rows cols budget (text ∷ texts) last pairs final
    by_line (inl j) =
        let r = rest_of rows cols budget number None [] (text ∷ texts) last pairs final j in
        record {
          lines = r.lines;
          texts_are = ap (λ (o : Option (List ℕ)). acsc_lines o ++ row_lines r.lines) r.pairs_are ∙ r.texts_are;
          last_is = r.last_is;
          acsc = subst (λ (o : Option (List ℕ)). IsAcsc o) (sym r.pairs_are) tt;
          final_is = r.final_is;
          each = r.each;
          stand = r.stand;
          together = r.together;
          few = r.few;
          counted = let c = r.counted in omega (arith, c);
        }
    by_line (inr a) = a

-- lines with an LF after each
joined : (texts : List (List ℕ)) (text : List ℕ) → IsText texts [] text → ended texts ≡ text
joined [] text h = sym h.0
joined (line ∷ texts) text h = ap (λ (x : List ℕ). line ++ 10 ∷ x) (joined texts h.0 h.3) ∙ sym h.1

record IsFirst (rows cols budget : ℕ) (texts : List (List ℕ)) (last : List ℕ) (pairs : Option (List ℕ)) (final : List RowLine) : Type 0 where
  size : IsSizeText (size_text rows cols) rows cols
  left : ℕ
  others : List (List ℕ)
  all : IsAll rows cols left others last pairs final
  texts_are : size_text rows cols ∷ others ≡ texts
  few : length (ended texts) ≤ budget
  counted : all_bytes final < length (ended texts)

first_passes : (rows cols : ℕ) (text : List ℕ) (u : Said) → JudgesFirst rows cols text (Ok u) → IsSizeText text rows cols × (u ≡ Sized)
first_passes rows cols text u (HasSize is e) = (is, same_said u Sized (Ok u) refl e)
first_passes rows cols text u (HasNoSize never e) = absurd (never_errs u _ (Ok u) refl e)

first_of_text : (rows cols budget number : ℕ) (texts : List (List ℕ)) (last : List ℕ) (pairs : Option (List ℕ)) (final : List RowLine) → JudgedLines (rules_of rows cols) budget number Nothing texts last (Ok (Ended pairs final))
    → IsFirst rows cols budget texts last pairs final
unfolding JudgedLines
first_of_text rows cols budget number [] [] pairs final p = absurd (never_errs (Ended pairs final) _ (Ok (Ended pairs final)) refl p)
first_of_text rows cols budget number [] (b ∷ last) pairs final p = absurd (never_fails (Ended pairs final) _ (Ok (Ended pairs final)) refl p)
first_of_text rows cols budget number (text ∷ texts) last pairs final p =
    let h = has_passed rows cols budget number Nothing (Ended pairs final) text (λ u. JudgedLines (rules_of rows cols) (budget - (length text + 1)) (number + 1) u texts last (Ok (Ended pairs final))) p in
    let f = first_passes rows cols text h.after h.is in
    let r = second_of rows cols (budget - (length text + 1)) (number + 1) texts last pairs final
    (subst (λ (u : Said). JudgedLines (rules_of rows cols) (budget - (length text + 1)) (number + 1) u texts last (Ok (Ended pairs final))) f.1 h.later) in
    record {
      size = record { rows_fit = f.0.rows_fit; cols_fit = f.0.cols_fit; spelled = refl };
      left = budget - (length text + 1);
      others = texts;
      all = r;
      texts_are = ap (λ (x : List ℕ). x ∷ texts) f.0.spelled;
      few = length_ended text texts budget h.small r.few;
      counted = let c = r.counted in let l = ended_length text texts in omega (arith, c, l);
    }

-- the most bytes of all lines of an accepted text together
pub few_bytes : (rows cols : ℕ) (text : List ℕ) (pairs : Option (List ℕ)) (lines : List RowLine) → IsAnswer rows cols text (Ok (Ended pairs lines)) → all_bytes lines < limit
unfolding Judged JudgedFrom
few_bytes rows cols text pairs lines p =
    let f = first_of_text rows cols limit 1 (cut_of text).lines (cut_of text).last pairs lines p in
    let c = f.counted in
    let l = f.few in
    omega (arith, c, l)

pub that_of_certificate : IsThatOfCertificate
unfolding Judged JudgedFrom
that_of_certificate rows cols text pairs final p = subst (λ (l : List RowLine). IsCertificate rows cols text pairs l) lines_are (record {
  spelled = record { size = f.size; acsc = f.all.acsc; lines = f.all.each; spelled = ap (λ (x : List (List ℕ)). ended x) (ap (λ (x : List (List ℕ)). size_text rows cols ∷ x) f.all.texts_are ∙ f.texts_are) ∙ whole };
  stands = f.all.stand;
  few = subst (λ (x : List ℕ). length x ≤ limit) whole f.few;
})
  where
    f : IsFirst rows cols limit (cut_of text).lines (cut_of text).last pairs final
    f = first_of_text rows cols limit 1 (cut_of text).lines (cut_of text).last pairs final p

    whole : ended (cut_of text).lines ≡ text
    whole = joined (cut_of text).lines text (subst (λ (l : List ℕ). IsText (cut_of text).lines l text) f.all.last_is (text_is text))

    lines_are : f.all.lines ≡ reverse final
    lines_are = sym (ap (λ (l : List RowLine). reverse l) (f.all.final_is ∙ append-nil (reverse f.all.lines)) ∙ reverse-reverse f.all.lines)

-- all lines of an accepted text go together
pub accepted_together : (rows cols : ℕ) (text : List ℕ) (pairs : Option (List ℕ)) (lines : List RowLine) → IsAnswer rows cols text (Ok (Ended pairs lines)) → OfLines rows cols lines (λ t. GoesTogether (is_some pairs) t)
unfolding Judged JudgedFrom
accepted_together rows cols text pairs lines p = (first_of_text rows cols limit 1 (cut_of text).lines (cut_of text).last pairs lines p).all.together
