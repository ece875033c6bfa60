-- A row that stands has none of the causes with which a string may be right.
use Rattle.std.proofs.Common.{◌≡◌, ℕ, List, [], Some, refl, sym, ap, subst, ◌∙◌, arith}
use Rattle.std.proofs.lemmas.Option.{none-some, same_Some}
use Rattle.vt_term.specs.Screen.{Screen}
use Rattle.vt_term.specs.Text.{Splits}
use Rattle.vt_term.proofs.Splits.{one_splitting}
use Rattle.vt_effects.specs.Effect.{applied}
use Rattle.vt_effects.specs.Record.{record_of}
use Rattle.vt_effects.specs.declared.effects.Effect.{Effect}
use Rattle.ti_rows.specs.Asked.{start_of}
use Rattle.ti_rows.specs.Looks.{learned}
use Rattle.ti_rows.specs.declared.rows.Looks.{Looks}
use Rattle.ti_rows.specs.declared.rows.Row.{Row}
use Rattle.ti_rows.proofs.ListFacts.{one_of_rank}
use Rattle.ti_lines.specs.declared.row_lines.RowLine.{RowLine}
use Rattle.ti_conforms.specs.Sends.{Sends}
use Rattle.ti_checker.specs.Doubts.{OneTeaching, NeverUntamed, NeverUnasked, SendsSuch, NeverElsewhere, NeverOther, NeverOtherCells, NeverOtherModes}
use Rattle.ti_checker.specs.Limit.{IsLineFor}
use Rattle.ti_checker.specs.No.{SendsSome, HasUnasked}
use Rattle.ti_checker.specs.Strays.{HaveOnePlace, HaveOneRendition, HaveSameCells, HaveSameModes, Strays}
use Rattle.ti_checker.specs.Taught.{IsAskedOf, IsTaught, AtFirst, After}
use Rattle.ti_checker.proofs.Teaching.{one_sent}

-- ---- bytes have one record

one_record : (rows cols : ℕ) (row : Row) (a b : List ℕ) (ts us : List (List ℕ)) (e f : Effect) → a ≡ b → Splits a ts [] → Splits b us [] → record_of rows cols (start_of rows cols row) ts ≡ Some e → record_of rows cols (start_of rows cols row) us ≡ Some f → e ≡ f
one_record rows cols row a b ts us e f same split other recorded told =
    let tokens : us ≡ ts = (one_splitting a ts us [] [] split (subst (λ (x : List ℕ). Splits x us []) (sym same) other)).0 in
    same_Some e f (sym recorded ∙ (ap (λ (x : List (List ℕ)). record_of rows cols (start_of rows cols row) x) (sym tokens) ∙ told))

pub same_effect : (rows cols : ℕ) (string : List ℕ) (l m : RowLine) → l.row ≡ m.row → IsLineFor rows cols string l → IsLineFor rows cols string m → l.effect ≡ m.effect
same_effect rows cols string l m same is js =
    one_record rows cols l.row l.bytes m.bytes is.has.tokens js.has.tokens l.effect m.effect
    (one_sent string l.row l.bytes m.bytes is.sends (subst (λ (r : Row). Sends string r m.bytes) (sym same) js.sends)) is.has.splits js.has.splits is.has.recorded
    (subst (λ (r : Row). record_of rows cols (start_of rows cols r) js.has.tokens ≡ Some m.effect) (sym same) js.has.recorded)

-- ---- the rows before teach one look of the attributes

pub one_teaching : OneTeaching
one_teaching rows cols string row looks others (AtFirst _ _ first e) (AtFirst _ _ second f) = f ∙ sym e
one_teaching rows cols string row looks others (AtFirst _ _ first e) (After m _ c _ s g u js told d) = let zero = first.rank_zero in let next = g.rank_next in absurd (omega (arith, zero, next))
one_teaching rows cols string row looks others (After l _ b _ r f t is asked e) (AtFirst _ _ second d) = let zero = second.rank_zero in let next = f.rank_next in absurd (omega (arith, zero, next))
one_teaching rows cols string row looks others (After l _ b _ r f t is asked e) (After m _ c _ s g u js told d) =
    let same : l.row ≡ m.row = one_of_rank rows cols l.row m.row r s (sym f.same_order ∙ g.same_order) (let p = f.rank_next in let q = g.rank_next in omega (arith, p, q)) in
    let effects : l.effect ≡ m.effect = same_effect rows cols string l m same is js in
    let before : c ≡ b = one_teaching rows cols string l.row b c t (subst (λ (x : Row). IsTaught rows cols string x c) (sym same) u) in
    d ∙ (ap (λ (x : Row). learned x m.effect c) (sym same) ∙ (ap (λ (x : Effect). learned l.row x c) (sym effects) ∙ (ap (λ (x : Looks). learned l.row l.effect x) before ∙ sym e)))

-- ---- no doubt about a row that stands

pub never_untamed : NeverUntamed
never_untamed rows cols string row r s =
    let same : s.bytes ≡ r.bytes = one_sent string row s.bytes r.bytes s.sends r.is.sends in
    let tokens : r.is.has.tokens ≡ s.holds.tokens = (one_splitting s.bytes s.holds.tokens r.is.has.tokens [] [] s.holds.whole (subst (λ (x : List ℕ). Splits x r.is.has.tokens []) (sym same) r.is.has.splits)).0 in
    none-some r.effect (sym s.holds.unrecorded ∙ (ap (λ (x : List (List ℕ)). record_of rows cols (start_of rows cols row) x) (sym tokens) ∙ r.is.has.recorded))

-- a property of the bytes that the string sends holds of the bytes that the refusal names
is_such : (Such : Looks → Effect → Type 0) (rows cols : ℕ) (string : List ℕ) (row : Row) → SendsSuch Such rows cols string row → (s : SendsSome string row (λ bytes. HasUnasked rows cols string row bytes)) → Such s.holds.unasked.looks s.holds.has.effect
is_such Such rows cols string row r s =
    let same : s.bytes ≡ r.bytes = one_sent string row s.bytes r.bytes s.sends r.is.sends in
    let effects : s.holds.has.effect ≡ r.effect = one_record rows cols row s.bytes r.bytes s.holds.has.tokens r.is.has.tokens s.holds.has.effect r.effect same s.holds.has.whole r.is.has.splits s.holds.has.recorded r.is.has.recorded in
    let looks : r.looks ≡ s.holds.unasked.looks = one_teaching rows cols string row s.holds.unasked.looks r.looks s.holds.unasked.taught r.taught in
    subst (λ (e : Effect). Such s.holds.unasked.looks e) (sym effects) (subst (λ (l : Looks). Such l r.effect) looks r.such)

pub never_unasked : NeverUnasked
never_unasked rows cols string row r s =
    s.holds.unasked.unasked (is_such (λ looks e. IsAskedOf looks row e) rows cols string row (record { bytes = r.bytes; effect = r.effect; is = r.is; looks = r.looks; taught = r.taught; such = r.asked }) s)

-- ---- no doubt about a row that leads elsewhere than wanted

never_strays : (Alike : Screen → Screen → Type 0) → ((t : Screen) → Alike t t) → (rows cols : ℕ) (string : List ℕ) (row : Row) → SendsSuch (λ looks e. Strays Alike rows cols looks row e) rows cols string row
    → SendsSome string row (λ bytes. HasUnasked rows cols string row bytes) → ⊥
never_strays Alike same rows cols string row r s =
    let h = is_such (λ looks e. Strays Alike rows cols looks row e) rows cols string row r s in
    let w = s.holds.unasked.wanted in
    h.apart w.looks (applied s.holds.has.effect h.start) w.agree (w.wanted h.start h.starts) (same (applied s.holds.has.effect h.start))

pub never_elsewhere : NeverElsewhere
never_elsewhere rows cols string row r s = never_strays HaveOnePlace (λ t. record { row = refl; col = refl; pending = refl; top = refl; bottom = refl }) rows cols string row r s

pub never_other : NeverOther
never_other rows cols string row r s = never_strays HaveOneRendition (λ t. refl) rows cols string row r s

pub never_other_cells : NeverOtherCells
never_other_cells rows cols string row r s = never_strays HaveSameCells (λ t. refl) rows cols string row r s

pub never_other_modes : NeverOtherModes
never_other_modes rows cols string row r s = never_strays HaveSameModes (λ t. record { charset = refl; visible = refl }) rows cols string row r s
