-- A text has one answer: at each line, and at the end, the cases exclude each other.
use Rattle.std.proofs.Common.{◌≡◌, ◌⊎◌, ◌+◌, ◌-◌, ◌&&◌, ℕ, Bool, true, false, List, [], ◌∷◌, ◌++◌, length, Option, Some, None, Result, Ok, Err, inl, inr, refl, sym, ap, subst, ◌∙◌, arith}
use Rattle.std.specs.Prelude.{is_some}
use Rattle.std.specs.Option.{option_map}
use Rattle.std.proofs.lemmas.Bool.{true≢false}
use Rattle.std.proofs.lemmas.Option.{same_Some, none-some}
use Rattle.vt_term.specs.Screen.{Charset}
use Rattle.vt_term.proofs.Splits.{one_splitting}
use Rattle.vt_effects.specs.declared.effects.Effect.{Effect}
use Rattle.vt_effects.specs.Record.{record_of}
use Rattle.ti_rows.specs.declared.rows.Row.{Row}
use Rattle.ti_rows.specs.declared.rows.Row.TheVariants.{Smacs, Rmacs, Smcup, Enacs, Sgr0, Clear, Csr}
use Rattle.ti_rows.specs.Asked.{start_of}
use Rattle.ti_rows.specs.Lists.{IsInRange}
use Rattle.ti_conforms.specs.Table.{Table, or_nothing, text_of, widening, resync, resync_front, resync_of}
use Rattle.ti_conforms.specs.Sets.{CanHave, AtReset, AfterToken, LeadsBy, CanSettle, AfterResync, AfterLine, has_sets}
use Rattle.ti_lines.specs.declared.row_lines.RowLine.{RowLine}
use Rattle.ti_lines.specs.Heads.{IsAcscText, acsc_in, is_end}
use Rattle.ti_lines.proofs.LinesRead.{one_line}
use Rattle.ti_lines.proofs.HeadsRead.{acsc_each}
use Rattle.ti_lines.specs.Text.{cut_of}
use Rattle.ti_lines.specs.Judgements.{fault_at, AtLine, Passes, Fails, TooLong, JudgedLine, JudgedLines, JudgedFrom, Judged}
use Rattle.ti_lines.specs.declared.judgements.LineFault.{LineFault}
use Rattle.ti_cert.specs.Strings.{row_string}
use Rattle.ti_cert.specs.Order.{Precedes, GivesBytes, IsFirstLacking, IsComplete, IsLate, IsBehind}
use Rattle.ti_cert.specs.Clashes.{Misswitches, StaysGraphic, BeginsOpen, IsClash, GoesTogether, kind_of, OfLines}
use Rattle.ti_cert.specs.declared.clashes.Clash.{Clash}
use Rattle.ti_cert.specs.declared.clashes.Clash.TheVariants as clashes
use Rattle.ti_cert.specs.Certificates.{missing_line, Said, Nothing, Sized, Listing, Ended, IsWholeText, HasEffect, HasNoEffect, IsMisfit, Mislooks, Misdoes, IsAskedFor, JudgesRow, NotAllowed, TooLate, TooEarly, Cut, Wild, Untrue, Unasked, Stands, JudgesLast, Lacks, Clashes, Closes, JudgesLater, IsLast, IsRow, IsMisplaced, IsNone, JudgesSecond, HasPairs, HasNoPairs, JudgesFirst, HasSize, HasNoSize, JudgesLine, JudgesEnd, rules_of, limit, IsAnswer}
use Rattle.ti_cert.specs.Texts.{OneTable, OneFault, NoOther}
use Rattle.ti_cert.specs.declared.faults.CertFaultKind.{CertFaultKind}
use Rattle.ti_cert.specs.declared.faults.CertFaultKind.TheVariants.{BadLine, OutOfOrder, NotWhole, NotTame, NotShown}

-- `Is` holds of at most one element
abbrev Single : {A : Type 0} → (A → Type 0) → Type 0
Single {A} Is = (a b : A) → Is a → Is b → a ≡ b

-- either `Is` holds, or `Other` and `Later` do, where `Other` excludes `Is`
abbrev Else : {A : Type 0} → (A → Type 0) → Type 0 → (A → Type 0) → A → Type 0
Else Is Other Later a = Is a ⊎ (Other × Later a)

either : {A : Type 0} (Is : A → Type 0) (Other : Type 0) (Later : A → Type 0) → Single Is → ((a : A) → Is a → Other → ⊥) → Single Later → Single (Else Is Other Later)
either Is Other Later one never later a b (inl p) (inl q) = one a b p q
either Is Other Later one never later a b (inl p) (inr q) = absurd (never a p q.0)
either Is Other Later one never later a b (inr p) (inl q) = absurd (never b q p.0)
either Is Other Later one never later a b (inr p) (inr q) = later a b p.1 q.1

-- an answer that is given under a condition
equal_to : {A : Type 0} (If : Type 0) (x : A) → Single (λ a. If × (a ≡ x))
equal_to If x a b p q = p.1 ∙ sym q.1

-- the order of lines

pub never_itself : (rows cols : ℕ) (a : Row) → Precedes rows cols a a → ⊥
never_itself rows cols a (inl h) = omega (arith, h)
never_itself rows cols a (inr h) = let k = h.1 in omega (arith, k)

pub never_back : (rows cols : ℕ) (a b : Row) → Precedes rows cols a b → Precedes rows cols b a → ⊥
never_back rows cols a b (inl h) (inl k) = omega (arith, h, k)
never_back rows cols a b (inl h) (inr k) = let o = k.0 in omega (arith, h, o)
never_back rows cols a b (inr h) (inl k) = let o = h.0 in omega (arith, o, k)
never_back rows cols a b (inr h) (inr k) = let x = h.1 in let y = k.1 in omega (arith, x, y)

late_or_behind : (rows cols : ℕ) (lines : List RowLine) (row : Row) → IsLate rows cols lines row → IsBehind rows cols lines row → ⊥
late_or_behind rows cols lines row l behind = by_place l.late
  where
    by_place : (l.line.row ≡ row) ⊎ Precedes rows cols row l.line.row → ⊥
    by_place (inl e) = never_itself rows cols row (subst (λ (r : Row). Precedes rows cols r row) e (behind l.line l.among))
    by_place (inr p) = never_back rows cols row l.line.row p (behind l.line l.among)

one_first : (rows cols : ℕ) (lines : List RowLine) (next : Option Row) → Single (λ row. IsFirstLacking rows cols lines next row)
one_first rows cols lines next a b p q = by_one (p.first b q.lacking) (q.first a p.lacking)
  where
    by_one : (b ≡ a) ⊎ Precedes rows cols a b → (a ≡ b) ⊎ Precedes rows cols b a → a ≡ b
    by_one (inl e) h = sym e
    by_one (inr x) (inl e) = e
    by_one (inr x) (inr y) = absurd (never_back rows cols a b x y)

-- a line that is missing
abbrev Lacking : ℕ → ℕ → List RowLine → Option Row → Result Said CertFaultKind → Type 0
Lacking rows cols lines next answer = (row : Row) × IsFirstLacking rows cols lines next row × (answer ≡ Err (missing_line row))

one_lacking : (rows cols : ℕ) (lines : List RowLine) (next : Option Row) → Single (Lacking rows cols lines next)
one_lacking rows cols lines next a b p q = p.2 ∙ (ap (λ (r : Row). Err (missing_line r)) (one_first rows cols lines next p.0 q.0 p.1 q.1) ∙ sym q.2)

-- the effect of a line

one_effect : (rows cols : ℕ) (line : RowLine) → Single (HasEffect rows cols line)
one_effect rows cols line e f p q =
    let same = one_splitting line.bytes p.tokens q.tokens [] [] p.splits q.splits in
    same_Some e f (sym p.recorded ∙ (ap (λ (ts : List (List ℕ)). record_of rows cols (start_of rows cols line.row) ts) (sym same.0) ∙ q.recorded))

never_unrecorded : (rows cols : ℕ) (line : RowLine) (effect : Effect) → HasNoEffect rows cols line → HasEffect rows cols line effect → ⊥
never_unrecorded rows cols line effect p q =
    let same = one_splitting line.bytes p.tokens q.tokens [] [] p.splits q.splits in
    none-some effect (sym p.unrecorded ∙ (ap (λ (ts : List (List ℕ)). record_of rows cols (start_of rows cols line.row) ts) (sym same.0) ∙ q.recorded))

one_misfit : (row : Row) (effect : Effect) → Single (IsMisfit row effect)
one_misfit row effect a b (Mislooks alone look e) (Mislooks alone_too look_too f) = e ∙ sym f
one_misfit row effect a b (Mislooks alone look e) (Misdoes never f) = absurd (never alone look)
one_misfit row effect a b (Misdoes never e) (Mislooks alone look f) = absurd (never alone look)
one_misfit row effect a b (Misdoes never e) (Misdoes never_too f) = e ∙ sym f

-- The cases of a line about a capability, each of which excludes those before it.

abbrev Misfits : RowLine → List RowLine → Result Said CertFaultKind → Type 0
Misfits line lines answer = (IsAskedFor lines line → ⊥) × (kind : CertFaultKind) × IsMisfit line.row line.effect kind × (answer ≡ Err kind)

one_misfitting : (line : RowLine) (lines : List RowLine) → Single (Misfits line lines)
one_misfitting line lines a b p q = p.3 ∙ (ap (λ (k : CertFaultKind). Err k) (one_misfit line.row line.effect p.1 q.1 p.2 q.2) ∙ sym q.3)

abbrev FromAsked : List RowLine → RowLine → Said → Result Said CertFaultKind → Type 0
FromAsked lines line after = Else (Misfits line lines) (IsAskedFor lines line) (λ a. Unit {0} × (a ≡ Ok after))

abbrev Lies : ℕ → ℕ → RowLine → Result Said CertFaultKind → Type 0
Lies rows cols line answer = ((effect : Effect) × HasEffect rows cols line effect × (effect ≡ line.effect → ⊥)) × (answer ≡ Err NotShown)

abbrev FromStated : ℕ → ℕ → List RowLine → RowLine → Said → Result Said CertFaultKind → Type 0
FromStated rows cols lines line after = Else (Lies rows cols line) (HasEffect rows cols line line.effect) (FromAsked lines line after)

abbrev HasSomeEffect : ℕ → ℕ → RowLine → Type 0
HasSomeEffect rows cols line = (effect : Effect) × HasEffect rows cols line effect

abbrev FromRecord : ℕ → ℕ → List RowLine → RowLine → Said → Result Said CertFaultKind → Type 0
FromRecord rows cols lines line after = Else (λ a. HasNoEffect rows cols line × (a ≡ Err NotTame)) (HasSomeEffect rows cols line) (FromStated rows cols lines line after)

abbrev FromTokens : ℕ → ℕ → List RowLine → RowLine → Said → Result Said CertFaultKind → Type 0
FromTokens rows cols lines line after = Else (λ a. (IsWholeText line.bytes → ⊥) × (a ≡ Err NotWhole)) (IsWholeText line.bytes) (FromRecord rows cols lines line after)

abbrev FromPlace : ℕ → ℕ → List RowLine → RowLine → Said → Result Said CertFaultKind → Type 0
FromPlace rows cols lines line after = Else (Lacking rows cols lines (Some line.row)) (IsComplete rows cols lines (Some line.row)) (FromTokens rows cols lines line after)

abbrev FromOrder : ℕ → ℕ → List RowLine → RowLine → Said → Result Said CertFaultKind → Type 0
FromOrder rows cols lines line after = Else (λ a. IsLate rows cols lines line.row × (a ≡ Err OutOfOrder)) (IsBehind rows cols lines line.row) (FromPlace rows cols lines line after)

abbrev FromRange : ℕ → ℕ → List RowLine → RowLine → Said → Result Said CertFaultKind → Type 0
FromRange rows cols lines line after = Else (λ a. (IsInRange rows cols line.row → ⊥) × (a ≡ Err BadLine)) (IsInRange rows cols line.row) (FromOrder rows cols lines line after)

whole_of : (rows cols : ℕ) (line : RowLine) (effect : Effect) → HasEffect rows cols line effect → IsWholeText line.bytes
whole_of rows cols line effect h = record { tokens = h.tokens; splits = h.splits }

case_of : (rows cols : ℕ) (lines : List RowLine) (line : RowLine) (after : Said) (a : Result Said CertFaultKind) → JudgesRow rows cols lines line after a → FromRange rows cols lines line after a
case_of rows cols lines line after a (NotAllowed never e) = inl (never, e)
case_of rows cols lines line after a (TooLate range late e) = inr (range, inl (late, e))
case_of rows cols lines line after a (TooEarly range behind row first e) = inr (range, inr (behind, inl (row, first, e)))
case_of rows cols lines line after a (Cut place never e) = inr (place.range, inr (place.behind, inr (place.complete, inl (never, e))))
case_of rows cols lines line after a (Wild place none e) =
    inr (place.range, inr (place.behind, inr (place.complete, inr (record { tokens = none.tokens; splits = none.splits }, inl (none, e)))))
case_of rows cols lines line after a (Untrue place effect has never e) =
    inr (place.range, inr (place.behind, inr (place.complete, inr (whole_of rows cols line effect has, inr ((effect, has), inl ((effect, has, never), e))))))
case_of rows cols lines line after a (Unasked place has never kind misfit e) =
    inr (place.range, inr (place.behind, inr (place.complete, inr (whole_of rows cols line line.effect has, inr ((line.effect, has), inr (has, inl (never, kind, misfit, e)))))))
case_of rows cols lines line after a (Stands place has asked e) =
    inr (place.range, inr (place.behind, inr (place.complete, inr (whole_of rows cols line line.effect has, inr ((line.effect, has), inr (has, inr (asked, (tt, e))))))))

one_row : (rows cols : ℕ) (lines : List RowLine) (line : RowLine) (after : Said) → Single (JudgesRow rows cols lines line after)
one_row rows cols lines line after a b p q = from_range a b (case_of rows cols lines line after a p) (case_of rows cols lines line after b q)
  where
    from_asked : Single (FromAsked lines line after)
    from_asked = either (Misfits line lines) (IsAskedFor lines line) (λ x. Unit {0} × (x ≡ Ok after)) (one_misfitting line lines) (λ x m asked. m.0 asked) (equal_to (Unit {0}) (Ok after))

    from_stated : Single (FromStated rows cols lines line after)
    from_stated = either (Lies rows cols line) (HasEffect rows cols line line.effect) (FromAsked lines line after)
        (equal_to ((effect : Effect) × HasEffect rows cols line effect × (effect ≡ line.effect → ⊥)) (Err NotShown))
        (λ x l has. l.0.2 (one_effect rows cols line l.0.0 line.effect l.0.1 has)) from_asked

    from_record : Single (FromRecord rows cols lines line after)
    from_record = either (λ x. HasNoEffect rows cols line × (x ≡ Err NotTame)) (HasSomeEffect rows cols line) (FromStated rows cols lines line after)
        (equal_to (HasNoEffect rows cols line) (Err NotTame)) (λ x none has. never_unrecorded rows cols line has.0 none.0 has.1) from_stated

    from_tokens : Single (FromTokens rows cols lines line after)
    from_tokens = either (λ x. (IsWholeText line.bytes → ⊥) × (x ≡ Err NotWhole)) (IsWholeText line.bytes) (FromRecord rows cols lines line after)
        (equal_to (IsWholeText line.bytes → ⊥) (Err NotWhole)) (λ x never whole. never.0 whole) from_record

    from_place : Single (FromPlace rows cols lines line after)
    from_place = either (Lacking rows cols lines (Some line.row)) (IsComplete rows cols lines (Some line.row)) (FromTokens rows cols lines line after)
        (one_lacking rows cols lines (Some line.row)) (λ x l complete. complete l.0 l.1.lacking) from_tokens

    from_order : Single (FromOrder rows cols lines line after)
    from_order = either (λ x. IsLate rows cols lines line.row × (x ≡ Err OutOfOrder)) (IsBehind rows cols lines line.row) (FromPlace rows cols lines line after)
        (equal_to (IsLate rows cols lines line.row) (Err OutOfOrder)) (λ x late behind. late_or_behind rows cols lines line.row late.0 behind) from_place

    from_range : Single (FromRange rows cols lines line after)
    from_range = either (λ x. (IsInRange rows cols line.row → ⊥) × (x ≡ Err BadLine)) (IsInRange rows cols line.row) (FromOrder rows cols lines line after)
        (equal_to (IsInRange rows cols line.row → ⊥) (Err BadLine)) (λ x never range. never.0 range) from_order

-- Tables with the same strings have the same clashes.

record IsAlike (t u : Table) : Type 0 where
  rows_are : t.rows ≡ u.rows
  line_is : (row : Row) → t.line_of row ≡ u.line_of row

alike_back : (t u : Table) → IsAlike t u → IsAlike u t
alike_back t u a = record { rows_are = sym a.rows_are; line_is = λ row. sym (a.line_is row) }

-- two optional texts are equal if each has a text that the other has
each_way : (o p : Option (List ℕ)) → ((b : List ℕ) → o ≡ Some b → p ≡ Some b) → ((b : List ℕ) → p ≡ Some b → o ≡ Some b) → o ≡ p
each_way None None f g = refl
each_way None (Some b) f g = g b refl
each_way (Some b) p f g = sym (f b refl)

alike : (rows cols : ℕ) (lines : List RowLine) (Is Has : Table → Type 0) (p : OfLines rows cols lines Is) (q : OfLines rows cols lines Has) → IsAlike p.table q.table
alike rows cols lines Is Has p q = record {
  rows_are = p.rows_are ∙ sym q.rows_are;
  line_is = λ row. each_way (p.table.line_of row) (q.table.line_of row) (λ b e. over row b (p.found row b e)) (λ b e. back row b (q.found row b e));
}
  where
    over : (row : Row) (b : List ℕ) → GivesBytes lines row b → q.table.line_of row ≡ Some b
    over row b h = ap (λ (r : Row). q.table.line_of r) (sym h.of_row) ∙ (q.kept h.line h.among ∙ ap (λ (x : List ℕ). Some x) h.bytes_are)

    back : (row : Row) (b : List ℕ) → GivesBytes lines row b → p.table.line_of row ≡ Some b
    back row b h = ap (λ (r : Row). p.table.line_of r) (sym h.of_row) ∙ (p.kept h.line h.among ∙ ap (λ (x : List ℕ). Some x) h.bytes_are)

part_alike : (t u : Table) → IsAlike t u → (row : Row) → text_of t row ≡ text_of u row
part_alike t u a row = ap (λ (o : Option (List ℕ)). or_nothing o) (a.line_is row)

widened_alike : (t u : Table) → IsAlike t u → text_of t (widening t) ≡ text_of u (widening u)
widened_alike t u a = part_alike t u a (widening t) ∙ ap (λ (n : ℕ). text_of u (Csr 0 (n - 1))) a.rows_are

two : (a b c d : List ℕ) → a ≡ c → b ≡ d → a ++ b ≡ c ++ d
two a b c d e f = ap (λ (x : List ℕ). x ++ b) e ∙ ap (λ (x : List ℕ). c ++ x) f

resync_alike : (t u : Table) → IsAlike t u → resync t ≡ resync u
unfolding resync_of
resync_alike t u a = two (resync_front t) (text_of t (widening t) ++ text_of t Clear) (resync_front u) (text_of u (widening u) ++ text_of u Clear)
    (two (text_of t Smcup ++ text_of t Enacs) (text_of t Sgr0 ++ text_of t Rmacs) (text_of u Smcup ++ text_of u Enacs) (text_of u Sgr0 ++ text_of u Rmacs)
    (two (text_of t Smcup) (text_of t Enacs) (text_of u Smcup) (text_of u Enacs) (part_alike t u a Smcup) (part_alike t u a Enacs))
    (two (text_of t Sgr0) (text_of t Rmacs) (text_of u Sgr0) (text_of u Rmacs) (part_alike t u a Sgr0) (part_alike t u a Rmacs)))
    (two (text_of t (widening t)) (text_of t Clear) (text_of u (widening u)) (text_of u Clear) (widened_alike t u a) (part_alike t u a Clear))

had_alike : (t u : Table) → IsAlike t u → (c : Charset) → CanHave t c → CanHave u c
had_alike t u a c (AtReset _ e) = AtReset c e
had_alike t u a d (AfterToken c _ token h o e) =
    AfterToken c d token (had_alike t u a c h) (record { row = o.row; bytes = o.bytes; there = sym (a.line_is o.row) ∙ o.there; tokens = o.tokens; whole = o.whole; among = o.among }) e

resynced_alike : (t u : Table) → IsAlike t u → (c d : Charset) → LeadsBy (resync t) c d → LeadsBy (resync u) c d
resynced_alike t u a c d l = subst (λ (b : List ℕ). LeadsBy b c d) (resync_alike t u a) l

settles_alike : (t u : Table) → IsAlike t u → (c : Charset) → CanSettle t c → CanSettle u c
settles_alike t u a d (AfterResync c _ h l) = AfterResync c d (had_alike t u a c h) (resynced_alike t u a c d l)
settles_alike t u a d (AfterLine c _ row bytes s there keeps l) = AfterLine c d row bytes (settles_alike t u a c s) (sym (a.line_is row) ∙ there) keeps l

misswitches_alike : (t u : Table) → IsAlike t u → (row : Row) (c : Charset) → Misswitches t row c → Misswitches u row c
misswitches_alike t u a row c m =
    record { settles = settles_alike t u a c m.settles; bytes = m.bytes; there = sym (a.line_is row) ∙ m.there; after = m.after; leads = m.leads; inactive = m.inactive }

sets_alike : (t u : Table) → IsAlike t u → has_sets t ≡ has_sets u
sets_alike t u a = ap (λ (o : Option (List ℕ)). is_some o && is_some (t.line_of Rmacs)) (a.line_is Smacs) ∙ ap (λ (o : Option (List ℕ)). is_some (u.line_of Smacs) && is_some o) (a.line_is Rmacs)

stays_alike : (pairs : Bool) (t u : Table) → IsAlike t u → StaysGraphic pairs t → StaysGraphic pairs u
stays_alike pairs t u a s = record {
  unsent = subst (λ (b : Bool). (pairs && b) ≡ false) (sets_alike t u a) s.unsent;
  charset = s.charset;
  settles = settles_alike t u a s.charset s.settles;
  graphic = s.graphic;
}

opens_alike : (t u : Table) → IsAlike t u → BeginsOpen t → BeginsOpen u
opens_alike t u a never rest e = never rest (resync_alike t u a ∙ e)

-- the clashes of two such tables are one fault
one_clash : (pairs : Bool) (t u : Table) → IsAlike t u → (a b : Clash) → IsClash pairs t a → IsClash pairs u b → kind_of a ≡ kind_of b
one_clash pairs t u l (clashes.Smacs c) (clashes.Smacs d) m n = refl
one_clash pairs t u l (clashes.Smacs c) (clashes.Rmacs d) m n = refl
one_clash pairs t u l (clashes.Smacs c) clashes.Acsc m n = absurd (n.0 c (misswitches_alike t u l Smacs c m))
one_clash pairs t u l (clashes.Smacs c) clashes.Clear m n = absurd (n.0 c (misswitches_alike t u l Smacs c m))
one_clash pairs t u l (clashes.Rmacs c) (clashes.Smacs d) m n = refl
one_clash pairs t u l (clashes.Rmacs c) (clashes.Rmacs d) m n = refl
one_clash pairs t u l (clashes.Rmacs c) clashes.Acsc m n = absurd (n.1 c (misswitches_alike t u l Rmacs c m.1))
one_clash pairs t u l (clashes.Rmacs c) clashes.Clear m n = absurd (n.1 c (misswitches_alike t u l Rmacs c m.1))
one_clash pairs t u l clashes.Acsc (clashes.Smacs d) m n = absurd (m.0 d (misswitches_alike u t (alike_back t u l) Smacs d n))
one_clash pairs t u l clashes.Acsc (clashes.Rmacs d) m n = absurd (m.1 d (misswitches_alike u t (alike_back t u l) Rmacs d n.1))
one_clash pairs t u l clashes.Acsc clashes.Acsc m n = refl
one_clash pairs t u l clashes.Acsc clashes.Clear m n = absurd (n.2 (stays_alike pairs t u l m.2))
one_clash pairs t u l clashes.Clear (clashes.Smacs d) m n = absurd (m.0 d (misswitches_alike u t (alike_back t u l) Smacs d n))
one_clash pairs t u l clashes.Clear (clashes.Rmacs d) m n = absurd (m.1 d (misswitches_alike u t (alike_back t u l) Rmacs d n.1))
one_clash pairs t u l clashes.Clear clashes.Acsc m n = absurd (m.2 (stays_alike pairs u t (alike_back t u l) n.2))
one_clash pairs t u l clashes.Clear clashes.Clear m n = refl

never_clashes : (pairs : Bool) (t u : Table) → IsAlike t u → (clash : Clash) → IsClash pairs t clash → GoesTogether pairs u → ⊥
never_clashes pairs t u l (clashes.Smacs c) m g = g.graphic c (misswitches_alike t u l Smacs c m)
never_clashes pairs t u l (clashes.Rmacs c) m g = g.plain c (misswitches_alike t u l Rmacs c m.1)
never_clashes pairs t u l clashes.Acsc m g = g.settles (stays_alike pairs t u l m.2)
never_clashes pairs t u l clashes.Clear m g = g.escapes (opens_alike t u l m.3)

-- the last line

abbrev Clashing : ℕ → ℕ → Option (List ℕ) → List RowLine → Result Said CertFaultKind → Type 0
Clashing rows cols pairs lines answer = (clash : Clash) × OfLines rows cols lines (λ t. IsClash (is_some pairs) t clash) × (answer ≡ Err (kind_of clash))

abbrev Together : ℕ → ℕ → Option (List ℕ) → List RowLine → Type 0
Together rows cols pairs lines = OfLines rows cols lines (λ t. GoesTogether (is_some pairs) t)

abbrev FromLines : ℕ → ℕ → Option (List ℕ) → List RowLine → Result Said CertFaultKind → Type 0
FromLines rows cols pairs lines = Else (Clashing rows cols pairs lines) (Together rows cols pairs lines) (λ a. Unit {0} × (a ≡ Ok (Ended pairs lines)))

abbrev FromLast : ℕ → ℕ → Option (List ℕ) → List RowLine → Result Said CertFaultKind → Type 0
FromLast rows cols pairs lines = Else (Lacking rows cols lines None) (IsComplete rows cols lines None) (FromLines rows cols pairs lines)

last_case : (rows cols : ℕ) (pairs : Option (List ℕ)) (lines : List RowLine) (a : Result Said CertFaultKind) → JudgesLast rows cols pairs lines a → FromLast rows cols pairs lines a
last_case rows cols pairs lines a (Lacks row first e) = inl (row, first, e)
last_case rows cols pairs lines a (Clashes complete clash of_lines e) = inr (complete, inl (clash, of_lines, e))
last_case rows cols pairs lines a (Closes complete together e) = inr (complete, inr (together, (tt, e)))

one_last : (rows cols : ℕ) (pairs : Option (List ℕ)) (lines : List RowLine) → Single (JudgesLast rows cols pairs lines)
one_last rows cols pairs lines a b p q = from_last a b (last_case rows cols pairs lines a p) (last_case rows cols pairs lines b q)
  where
    one_clashing : Single (Clashing rows cols pairs lines)
    one_clashing x y c d = c.2 ∙ (ap (λ (k : CertFaultKind). Err k) (one_clash (is_some pairs) c.1.table d.1.table
        (alike rows cols lines (λ t. IsClash (is_some pairs) t c.0) (λ t. IsClash (is_some pairs) t d.0) c.1 d.1) c.0 d.0 c.1.is d.1.is) ∙ sym d.2)

    from_lines : Single (FromLines rows cols pairs lines)
    from_lines = either (Clashing rows cols pairs lines) (Together rows cols pairs lines) (λ x. Unit {0} × (x ≡ Ok (Ended pairs lines))) one_clashing
        (λ x c t. never_clashes (is_some pairs) c.1.table t.table (alike rows cols lines (λ u. IsClash (is_some pairs) u c.0) (λ u. GoesTogether (is_some pairs) u) c.1 t) c.0 c.1.is t.is)
        (equal_to (Unit {0}) (Ok (Ended pairs lines)))

    from_last : Single (FromLast rows cols pairs lines)
    from_last = either (Lacking rows cols lines None) (IsComplete rows cols lines None) (FromLines rows cols pairs lines) (one_lacking rows cols lines None) (λ x l complete. complete l.0 l.1.lacking) from_lines

-- any line

found_acsc : (text : List ℕ) (o : Option (List ℕ)) → o ≡ acsc_in text → option_map (λ (b : List ℕ). b) o ≡ acsc_in text
found_acsc text None e = e
found_acsc text (Some b) e = e

one_acsc : (text : List ℕ) → Single (IsAcscText text)
one_acsc text a b p q =
    let each = acsc_each {B = List ℕ} {E = Unit {0}} (λ x. x) text (Ok (acsc_in text)) (found_acsc text (acsc_in text) refl) in
    same_Some a b (sym (each a p) ∙ each b q)

on_or_off : (b : Bool) → b ≡ true → b ≡ false → ⊥
on_or_off b on off = true≢false (sym on ∙ off)

one_later : (rows cols : ℕ) (pairs : Option (List ℕ)) (lines : List RowLine) (text : List ℕ) → Single (JudgesLater rows cols pairs lines text)
one_later rows cols pairs lines text a b (IsLast end p) (IsLast end_too q) = one_last rows cols pairs lines a b p q
one_later rows cols pairs lines text a b (IsLast end p) (IsRow off line is q) = absurd (on_or_off (is_end text) end off)
one_later rows cols pairs lines text a b (IsLast end p) (IsMisplaced off never bytes is q) = absurd (on_or_off (is_end text) end off)
one_later rows cols pairs lines text a b (IsLast end p) (IsNone off never none q) = absurd (on_or_off (is_end text) end off)
one_later rows cols pairs lines text a b (IsRow off line is p) (IsLast end q) = absurd (on_or_off (is_end text) end off)
one_later rows cols pairs lines text a b (IsRow off line is p) (IsRow off_too other is_too q) =
    one_row rows cols lines line (Listing pairs (line ∷ lines)) a b p
    (subst (λ (l : RowLine). JudgesRow rows cols lines l (Listing pairs (l ∷ lines)) b) (one_line text other line is_too is) q)
one_later rows cols pairs lines text a b (IsRow off line is p) (IsMisplaced off_too never bytes acsc q) = absurd (never line is)
one_later rows cols pairs lines text a b (IsRow off line is p) (IsNone off_too never none q) = absurd (never line is)
one_later rows cols pairs lines text a b (IsMisplaced off never bytes is p) (IsLast end q) = absurd (on_or_off (is_end text) end off)
one_later rows cols pairs lines text a b (IsMisplaced off never bytes is p) (IsRow off_too line row q) = absurd (never line row)
one_later rows cols pairs lines text a b (IsMisplaced off never bytes is p) (IsMisplaced off_too never_too other acsc q) = p ∙ sym q
one_later rows cols pairs lines text a b (IsMisplaced off never bytes is p) (IsNone off_too never_too none q) = absurd (none bytes is)
one_later rows cols pairs lines text a b (IsNone off never none p) (IsLast end q) = absurd (on_or_off (is_end text) end off)
one_later rows cols pairs lines text a b (IsNone off never none p) (IsRow off_too line row q) = absurd (never line row)
one_later rows cols pairs lines text a b (IsNone off never none p) (IsMisplaced off_too never_too bytes is q) = absurd (none bytes is)
one_later rows cols pairs lines text a b (IsNone off never none p) (IsNone off_too never_too none_too q) = p ∙ sym q

one_second : (rows cols : ℕ) (text : List ℕ) → Single (JudgesSecond rows cols text)
one_second rows cols text a b (HasPairs bytes is p) (HasPairs other is_too q) = p ∙ (ap (λ (x : List ℕ). Ok (Listing (Some x) [])) (one_acsc text bytes other is is_too) ∙ sym q)
one_second rows cols text a b (HasPairs bytes is p) (HasNoPairs none q) = absurd (none bytes is)
one_second rows cols text a b (HasNoPairs none p) (HasPairs bytes is q) = absurd (none bytes is)
one_second rows cols text a b (HasNoPairs none p) (HasNoPairs none_too q) = one_later rows cols None [] text a b p q

one_first_line : (rows cols : ℕ) (text : List ℕ) → Single (JudgesFirst rows cols text)
one_first_line rows cols text a b (HasSize is p) (HasSize is_too q) = p ∙ sym q
one_first_line rows cols text a b (HasSize is p) (HasNoSize never q) = absurd (never is)
one_first_line rows cols text a b (HasNoSize never p) (HasSize is q) = absurd (never is)
one_first_line rows cols text a b (HasNoSize never p) (HasNoSize never_too q) = p ∙ sym q

one_at_line : (rows cols : ℕ) (said : Said) (text : List ℕ) → Single (JudgesLine rows cols said text)
one_at_line rows cols Nothing text a b p q = one_first_line rows cols text a b p q
one_at_line rows cols Sized text a b p q = one_second rows cols text a b p q
one_at_line rows cols (Listing pairs lines) text a b p q = one_later rows cols pairs lines text a b p q
one_at_line rows cols (Ended pairs lines) text a b p q = p ∙ sym q

one_at_end : (said : Said) → Single (JudgesEnd said)
one_at_end (Ended pairs lines) a b p q = p ∙ sym q
one_at_end Nothing a b p q = p ∙ sym q
one_at_end Sized a b p q = p ∙ sym q
one_at_end (Listing pairs lines) a b p q = p ∙ sym q

-- a text, line by line

abbrev Answer : Type 0
Answer = Result Said (LineFault CertFaultKind)

same_said : (s t : Said) → (a b : Result Said CertFaultKind) → a ≡ Ok s → b ≡ Ok t → a ≡ b → s ≡ t
same_said s t a b ea eb e = cc

same_kind : (k l : CertFaultKind) → (a b : Result Said CertFaultKind) → a ≡ Err k → b ≡ Err l → a ≡ b → k ≡ l
same_kind k l a b ea eb e = cc

never_same : (s : Said) (k : CertFaultKind) → (a b : Result Said CertFaultKind) → a ≡ Ok s → b ≡ Err k → a ≡ b → ⊥
never_same s k a b ea eb e = cc

same_fault : (e f : LineFault CertFaultKind) → e.line ≡ f.line → e.kind ≡ f.kind → e ≡ f
same_fault e f l k = ap (λ (n : ℕ). fault_at n e.kind) l ∙ ap (λ (x : CertFaultKind). fault_at f.line x) k

one_at : (number : ℕ) (Is : Result Said CertFaultKind → Type 0) → Single Is → Single {A = Answer} (AtLine number Is)
one_at number Is one (Ok s) (Ok t) p q = ap (λ (x : Said). Ok x) (same_said s t (Ok s) (Ok t) refl refl (one (Ok s) (Ok t) p q))
one_at number Is one (Ok s) (Err f) p q = absurd (never_same s f.kind (Ok s) (Err f.kind) refl refl (one (Ok s) (Err f.kind) p q.1))
one_at number Is one (Err e) (Ok t) p q = absurd (never_same t e.kind (Ok t) (Err e.kind) refl refl (one (Ok t) (Err e.kind) q p.1))
one_at number Is one (Err e) (Err f) p q = ap (λ (x : LineFault CertFaultKind). Err x) (same_fault e f (p.0 ∙ sym q.0) (same_kind e.kind f.kind (Err e.kind) (Err f.kind) refl refl (one (Err e.kind) (Err f.kind) p.1 q.1)))

one_judged : (rows cols budget number : ℕ) (said : Said) (line : List ℕ) (Later : Said → Answer → Type 0) → ((s : Said) → Single (Later s))
    → Single {A = Answer} (λ a. JudgedLine (rules_of rows cols) budget number said line (λ s. Later s a) a)
one_judged rows cols budget number said line Later later a b (Passes small u is p) (Passes small_too v is_too q) =
    let same : u ≡ v = same_said u v (Ok u) (Ok v) refl refl (one_at_line rows cols said line (Ok u) (Ok v) is is_too) in
    later v a b (subst (λ (s : Said). Later s a) same p) q
one_judged rows cols budget number said line Later later a b (Passes small u is p) (Fails small_too kind e is_too) =
    absurd (never_same u kind (Ok u) (Err kind) refl refl (one_at_line rows cols said line (Ok u) (Err kind) is is_too))
one_judged rows cols budget number said line Later later a b (Passes small u is p) (TooLong long e) = absurd (omega (arith, small, long))
one_judged rows cols budget number said line Later later a b (Fails small kind e is) (Passes small_too v is_too q) =
    absurd (never_same v kind (Ok v) (Err kind) refl refl (one_at_line rows cols said line (Ok v) (Err kind) is_too is))
one_judged rows cols budget number said line Later later a b (Fails small kind e is) (Fails small_too other f is_too) =
    e ∙ (ap (λ (k : CertFaultKind). Err (fault_at number k)) (same_kind kind other (Err kind) (Err other) refl refl (one_at_line rows cols said line (Err kind) (Err other) is is_too)) ∙ sym f)
one_judged rows cols budget number said line Later later a b (Fails small kind e is) (TooLong long f) = absurd (omega (arith, small, long))
one_judged rows cols budget number said line Later later a b (TooLong long e) (Passes small v is q) = absurd (omega (arith, small, long))
one_judged rows cols budget number said line Later later a b (TooLong long e) (Fails small kind f is) = absurd (omega (arith, small, long))
one_judged rows cols budget number said line Later later a b (TooLong long e) (TooLong long_too f) = e ∙ sym f

one_of_lines : (rows cols budget number : ℕ) (said : Said) (lines : List (List ℕ)) (last : List ℕ) → Single (JudgedLines (rules_of rows cols) budget number said lines last)
unfolding JudgedLines
one_of_lines rows cols budget number said [] [] a b p q = one_at number (JudgesEnd said) (one_at_end said) a b p q
one_of_lines rows cols budget number said [] (x ∷ last) a b p q = p ∙ sym q
one_of_lines rows cols budget number said (line ∷ lines) last a b p q =
    one_judged rows cols budget number said line (λ s x. JudgedLines (rules_of rows cols) (budget - (length line + 1)) (number + 1) s lines last x)
    (λ s. one_of_lines rows cols (budget - (length line + 1)) (number + 1) s lines last) a b p q

pub one_answer : (rows cols : ℕ) (text : List ℕ) (one other : Result Said (LineFault CertFaultKind)) → IsAnswer rows cols text one → IsAnswer rows cols text other → one ≡ other
unfolding Judged JudgedFrom
one_answer rows cols text a b p q = one_of_lines rows cols limit 1 Nothing (cut_of text).lines (cut_of text).last a b p q

-- the answer of an audit for a text

pub same_end : (a b : Option (List ℕ)) (l m : List RowLine) → (x y : Result Said (LineFault CertFaultKind)) → x ≡ Ok (Ended a l) → y ≡ Ok (Ended b m) → x ≡ y → (a ≡ b) × (l ≡ m)
same_end a b l m x y ex ey e = (cc, cc)

pub one_table : OneTable
one_table rows cols text t u p q =
    let same = same_end t.acsc u.acsc p.lines q.lines (Ok (Ended t.acsc p.lines)) (Ok (Ended u.acsc q.lines)) refl refl
    (one_answer rows cols text (Ok (Ended t.acsc p.lines)) (Ok (Ended u.acsc q.lines)) p.says q.says) in (
      same.0,
      λ row. each_way (row_string t.known.strings row) (row_string u.known.strings row)
          (λ b e. over row b (subst (λ (l : List RowLine). GivesBytes l row b) same.1 (p.found row b e)))
          (λ b e. back row b (subst (λ (l : List RowLine). GivesBytes l row b) (sym same.1) (q.found row b e))),
    )
  where
    over : (row : Row) (b : List ℕ) → GivesBytes q.lines row b → row_string u.known.strings row ≡ Some b
    over row b h = ap (λ (r : Row). row_string u.known.strings r) (sym h.of_row) ∙ (q.kept h.line h.among ∙ ap (λ (x : List ℕ). Some x) h.bytes_are)

    back : (row : Row) (b : List ℕ) → GivesBytes p.lines row b → row_string t.known.strings row ≡ Some b
    back row b h = ap (λ (r : Row). row_string t.known.strings r) (sym h.of_row) ∙ (p.kept h.line h.among ∙ ap (λ (x : List ℕ). Some x) h.bytes_are)

pub never_ends : (a : Option (List ℕ)) (l : List RowLine) (e : LineFault CertFaultKind) → (x y : Result Said (LineFault CertFaultKind)) → x ≡ Ok (Ended a l) → y ≡ Err e → x ≡ y → ⊥
never_ends a l e x y ex ey h = cc

pub no_other : NoOther
no_other rows cols text t fault p (inl h) =
    absurd (never_ends t.acsc p.lines fault (Ok (Ended t.acsc p.lines)) (Err fault) refl refl
    (one_answer rows cols text (Ok (Ended t.acsc p.lines)) (Err fault) p.says h))
no_other rows cols text t fault p (inr (inl e)) = e
no_other rows cols text t fault p (inr (inr e)) = absurd e.1

same_err : (e f : LineFault CertFaultKind) → (x y : Answer) → x ≡ Err e → y ≡ Err f → x ≡ y → e ≡ f
same_err e f x y ex ey h = cc

pub one_fault : OneFault
one_fault rows cols text a b (inl p) (inl q) = inl (same_err a b (Err a) (Err b) refl refl (one_answer rows cols text (Err a) (Err b) p q))
one_fault rows cols text a b (inr (inl e)) q = inr (inl e)
one_fault rows cols text a b (inr (inr e)) q = absurd e.1
one_fault rows cols text a b (inl p) (inr (inl e)) = inr (inr e)
one_fault rows cols text a b (inl p) (inr (inr e)) = absurd e.1
