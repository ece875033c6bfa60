-- Lines that were judged one by one and go together are judged, by a table that has the charsets that can be reached
-- and settled.
use Rattle.std.proofs.Common.{◌≡◌, ◌&&◌, ℕ, Bool, true, false, List, [], ◌∷◌, ◌++◌, Option, Some, None, inl, inr, refl, sym, ap, subst, ◌∙◌}
use Rattle.std.specs.Prelude.{is_some}
use Rattle.std.proofs.lemmas.Bool.{true≢false, cases_Bool, cases_eq}
use Rattle.vt_term.specs.Text.{Splits}
use Rattle.vt_term.specs.Function.{function_of}
use Rattle.vt_term.specs.Screen.{Screen, Charset, is_graphic, reset_screen}
use Rattle.vt_term.specs.Step.{steps}
use Rattle.vt_effects.specs.declared.effects.Effect.{Effect}
use Rattle.vt_effects.specs.declared.effects.Sets.{Sets}
use Rattle.vt_effects.specs.Effect.{designated}
use Rattle.vt_effects.specs.Record.{record_of}
use Rattle.vt_effects.specs.Settings.{SetsAs}
use Rattle.vt_effects.proofs.Sayings.{records_tell}
use Rattle.ti_conforms.specs.Charsets.{charset_after, charset_over, reset_charset, IsAmong}
use Rattle.ti_conforms.proofs.Judgements.{over_steps}
use Rattle.ti_rows.specs.declared.rows.Row.{Row}
use Rattle.ti_rows.specs.declared.rows.Row.TheVariants.{Clear, Smcup, Enacs, Sgr0, Smacs, Rmacs, Csr}
use Rattle.ti_rows.specs.Asked.{start_of, asked}
use Rattle.ti_rows.specs.declared.rows.Looks.{Looks}
use Rattle.ti_conforms.specs.Lines.{StaysIn}
use Rattle.ti_conforms.specs.Table.{Table, has, or_nothing, text_of, widening, resync, resync_front, resync_of, Activates}
use Rattle.ti_conforms.specs.Sets.{CanHave, AtReset, AfterToken, LeadsBy, CanSettle, AfterResync, AfterLine, Occurs, has_sets}
use Rattle.ti_conforms.specs.Judged.{AskedLine, ChangesSets, NoLine, ByLine, Changes, changed, left_of, IsJudged}
use Rattle.ti_conforms.proofs.Holds.{Leads, leads_joined, leads_nothing, led}
use Rattle.ti_cert.specs.Clashes.{SwitchesRight, GoesTogether}
use Rattle.ti_cert.proofs.Together.{SetsAre}

-- the tokens lead from each charset as the change of their record does
pub record_sets : (rows cols : ℕ) (row : Row) (tokens : List (List ℕ)) (e : Effect) → record_of rows cols (start_of rows cols row) tokens ≡ Some e → (c : Charset) → charset_over tokens c ≡ designated e.charset c
record_sets rows cols row tokens e recorded c =
    let s : Screen = record (reset_screen rows cols) { charset = c } in
    let sets : SetsAs e s (steps tokens s) = (records_tell rows cols (start_of rows cols row) tokens e recorded).settings s refl (record { autowrap = refl; inserting = refl }) in
    sym (over_steps tokens s) ∙ sets.charset

-- ---- the facts known

-- the bytes are whole tokens, and their record is the one that is asked for with the table's looks
pub record IsAsked (t : Table) (row : Row) (bytes : List ℕ) : Type 0 where
  pub tokens : List (List ℕ)
  pub whole : Splits bytes tokens []
  pub effect : Effect
  pub recorded : record_of t.rows t.cols (start_of t.rows t.cols row) tokens ≡ Some effect
  pub asked_for : effect ≡ asked t.looks row effect

-- each line is such a line, those that must be there are there, and all go together
pub record Closed (t : Table) (pairs : Bool) : Type 0 where
  pub lines : (row : Row) (bytes : List ℕ) → t.line_of row ≡ Some bytes → IsAsked t row bytes
  pub clear : is_some (t.line_of Clear) ≡ true
  pub sgr0 : is_some (t.line_of Sgr0) ≡ true
  pub widens : (top bottom : ℕ) → has t (Csr top bottom) ≡ true → has t (widening t) ≡ true
  pub sets : SetsAre t
  pub together : GoesTogether pairs t

-- ---- tokens of lines

occurs_in : (t : Table) (row : Row) (bytes : List ℕ) (tokens : List (List ℕ)) → t.line_of row ≡ Some bytes → Splits bytes tokens [] → (token : List ℕ) → IsAmong tokens token → Occurs t token
occurs_in t row bytes tokens there whole token among = record { row = row; bytes = bytes; there = there; tokens = tokens; whole = whole; among = among }

had_over : (t : Table) (tokens : List (List ℕ)) → ((token : List ℕ) → IsAmong tokens token → Occurs t token) → (c : Charset) → CanHave t c → CanHave t (charset_over tokens c)
had_over t [] occurs c h = h
had_over t (token ∷ tokens) occurs c h =
    let next : Charset = charset_after (function_of token) c in
    had_over t tokens (λ other a. occurs other (inr a)) next (AfterToken c next token h (occurs token (inl refl)) refl)

stays_in : (t : Table) (tokens : List (List ℕ)) → SetsAre t → ((token : List ℕ) → IsAmong tokens token → Occurs t token) → StaysIn t.reached tokens
stays_in t [] s occurs = tt
stays_in t (token ∷ tokens) s occurs = (
  λ c h. s.reached (charset_after (function_of token) c) (AfterToken c (charset_after (function_of token) c) token (s.had c h) (occurs token (inl refl)) refl),
  stays_in t tokens s (λ other a. occurs other (inr a)),
)

-- ---- lines

active_by : (t : Table) → SwitchesRight t Smacs → SwitchesRight t Rmacs → (row : Row) (bytes : List ℕ) → t.line_of row ≡ Some bytes → (c d : Charset) → CanSettle t c → LeadsBy bytes c d → Activates row d
active_by t g p Smacs bytes there c d s l = elim (cases_Bool (is_graphic d)) [
  | inl on ↦ on
  | inr off ↦ absurd (g c (record { settles = s; bytes = bytes; there = there; after = d; leads = l; inactive = λ on. true≢false (sym on ∙ off) }))
]
active_by t g p Rmacs bytes there c d s l = elim (cases_Bool (is_graphic d)) [
  | inl on ↦ absurd (p c (record { settles = s; bytes = bytes; there = there; after = d; leads = l; inactive = λ off. true≢false (sym on ∙ off) }))
  | inr off ↦ off
]
active_by t g p _ bytes there c d s l = tt

leads_by_record : (t : Table) (row : Row) (bytes : List ℕ) (l : IsAsked t row bytes) (c : Charset) → LeadsBy bytes c (designated l.effect.charset c)
leads_by_record t row bytes l c = record { tokens = l.tokens; whole = l.whole; is = sym (record_sets t.rows t.cols row l.tokens l.effect l.recorded c) }

asked_line : (t : Table) (pairs : Bool) → Closed t pairs → (row : Row) (bytes : List ℕ) → t.line_of row ≡ Some bytes → AskedLine t row bytes
asked_line t pairs p row bytes there =
    let l = p.lines row bytes there in
    let after : Charset → Charset = λ c. designated l.effect.charset c in
    record {
      tokens = l.tokens;
      whole = l.whole;
      effect = l.effect;
      recorded = l.recorded;
      asked_for = l.asked_for;
      stays = stays_in t l.tokens p.sets (occurs_in t row bytes l.tokens there l.whole);
      settles = λ keeps c h. p.sets.settled (after c) (AfterLine c (after c) row bytes (p.sets.can_settle c h) there keeps (leads_by_record t row bytes l c));
      active = λ c h. active_by t p.together.graphic p.together.plain row bytes there c (after c) (p.sets.can_settle c h) (leads_by_record t row bytes l c);
    }

-- the change of the sets by a row's line, `None` if there is no line
record Change (t : Table) (row : Row) : Type 0 where
  sets : Option Sets
  is : ChangesSets t row sets
  leads : Leads (text_of t row) (λ c. changed sets c)
  had : (c : Charset) → CanHave t c → CanHave t (changed sets c)

change_of : (t : Table) (pairs : Bool) → Closed t pairs → (row : Row) (o : Option (List ℕ)) → t.line_of row ≡ o → Change t row
change_of t pairs p row None e = record {
  sets = None;
  is = NoLine e refl;
  leads = subst (λ (b : List ℕ). Leads b (λ c. c)) (sym (ap or_nothing e)) leads_nothing;
  had = λ c h. h;
}
change_of t pairs p row (Some bytes) e =
    let l = asked_line t pairs p row bytes e in
    let leads = record_sets t.rows t.cols row l.tokens l.effect l.recorded in
    record {
      sets = Some l.effect.charset;
      is = ByLine bytes e l refl;
      leads = subst (λ (b : List ℕ). Leads b (λ c. designated l.effect.charset c)) (sym (ap or_nothing e)) (record { tokens = l.tokens; whole = l.whole; leads = leads });
      had = λ c h. subst (λ (d : Charset). CanHave t d) (leads c) (had_over t l.tokens (occurs_in t row bytes l.tokens e l.whole) c h);
    }

-- `csr` and `clear` leave the sets alone
keeps_of : (t : Table) (pairs : Bool) → Closed t pairs → (row : Row) → ((l : Looks) (e : Effect) (c : Charset) → designated (asked l row e).charset c ≡ c) → (o : Option (List ℕ)) → t.line_of row ≡ o → Leads (or_nothing o) (λ c. c)
keeps_of t pairs p row same None e = leads_nothing
keeps_of t pairs p row same (Some bytes) e =
    let l = p.lines row bytes e in
    record { tokens = l.tokens; whole = l.whole; leads = λ c. record_sets t.rows t.cols row l.tokens l.effect l.recorded c ∙ (ap (λ (x : Effect). designated x.charset c) l.asked_for ∙ same t.looks l.effect c) }

-- ---- the bytes that lead out of an unknown state

begins : (text : List ℕ) → (((rest : List ℕ) → text ≡ 27 ∷ rest → ⊥) → ⊥) → (rest : List ℕ) × (text ≡ 27 ∷ rest)
begins [] never = absurd (never (λ rest e. cc))
begins (b ∷ rest) never = elim (cases_eq b 27) [
  | inl e ↦ (rest, ap (λ (x : ℕ). x ∷ rest) e)
  | inr other ↦ absurd (never (λ more e. let same : b ≡ 27 = cc in other same))
]

resync_leads : (t : Table) (f : Charset → Charset) → Leads (resync_front t) f → Leads (text_of t (widening t) ++ text_of t Clear) (λ c. c) → Leads (resync t) f
unfolding resync_of
resync_leads t f front back = leads_joined (resync_front t) (text_of t (widening t) ++ text_of t Clear) f (λ c. c) front back

both_off : (a b : Bool) → b ≡ false → (a && b) ≡ false
both_off true b h = h
both_off false b h = refl

pub judged_closed : (t : Table) (pairs : Bool) → Closed t pairs → IsJudged t
judged_closed t pairs p = record {
  lines = λ row bytes there. asked_line t pairs p row bytes there;
  clear_bytes = clear.0;
  clears = clear.1;
  sgr0_bytes = sgr0.0;
  makes_plain = sgr0.1;
  widens = p.widens;
  changes = changes;
  smcup = smcup.is;
  enacs = enacs.is;
  sgr0 = plain.is;
  rmacs = rmacs.is;
  rest = (begins (resync t) p.together.escapes).0;
  escapes = (begins (resync t) p.together.escapes).1;
  quiet = λ c h. p.together.quiet c (left_of changes c) (p.sets.had c h) (by_resync c);
  starts = p.sets.reached reset_charset (AtReset reset_charset refl);
  first_settled = λ c h. p.sets.settled (left_of changes c) (AfterResync c (left_of changes c) (p.sets.had c h) (by_resync c));
  settled_reached = λ c h. p.sets.reached c (had_settled c (p.sets.can_settle c h));
  plain = λ off c h. elim (cases_Bool (is_graphic c)) [
    | inl on ↦ absurd (p.together.settles (record { unsent = both_off pairs (has_sets t) off; charset = c; settles = p.sets.can_settle c h; graphic = on }))
    | inr plain ↦ plain
  ];
}
  where
    some_there : (o : Option (List ℕ)) → is_some o ≡ true → (x : List ℕ) × (o ≡ Some x)
    some_there (Some x) h = (x, refl)
    some_there None h = cc

    clear : (x : List ℕ) × (t.line_of Clear ≡ Some x)
    clear = some_there (t.line_of Clear) p.clear

    sgr0 : (x : List ℕ) × (t.line_of Sgr0 ≡ Some x)
    sgr0 = some_there (t.line_of Sgr0) p.sgr0

    smcup : Change t Smcup
    smcup = change_of t pairs p Smcup (t.line_of Smcup) refl

    enacs : Change t Enacs
    enacs = change_of t pairs p Enacs (t.line_of Enacs) refl

    plain : Change t Sgr0
    plain = change_of t pairs p Sgr0 (t.line_of Sgr0) refl

    rmacs : Change t Rmacs
    rmacs = change_of t pairs p Rmacs (t.line_of Rmacs) refl

    changes : Changes
    changes = record { smcup = smcup.sets; enacs = enacs.sets; sgr0 = plain.sets; rmacs = rmacs.sets }

    front : Leads (resync_front t) (λ c. left_of changes c)
    front = leads_joined (text_of t Smcup ++ text_of t Enacs) (text_of t Sgr0 ++ text_of t Rmacs) (λ c. changed enacs.sets (changed smcup.sets c)) (λ c. changed rmacs.sets (changed plain.sets c))
        (leads_joined (text_of t Smcup) (text_of t Enacs) (λ c. changed smcup.sets c) (λ c. changed enacs.sets c) smcup.leads enacs.leads)
        (leads_joined (text_of t Sgr0) (text_of t Rmacs) (λ c. changed plain.sets c) (λ c. changed rmacs.sets c) plain.leads rmacs.leads)

    back : Leads (text_of t (widening t) ++ text_of t Clear) (λ c. c)
    back = leads_joined (text_of t (widening t)) (text_of t Clear) (λ c. c) (λ c. c)
        (keeps_of t pairs p (widening t) (λ l e c. refl) (t.line_of (widening t)) refl) (keeps_of t pairs p Clear (λ l e c. refl) (t.line_of Clear) refl)

    whole : Leads (resync t) (λ c. left_of changes c)
    whole = resync_leads t (λ c. left_of changes c) front back

    by_resync : (c : Charset) → LeadsBy (resync t) c (left_of changes c)
    by_resync c = record { tokens = whole.tokens; whole = whole.whole; is = sym (whole.leads c) }

    had_left : (c : Charset) → CanHave t c → CanHave t (left_of changes c)
    had_left c h = rmacs.had (changed plain.sets (changed enacs.sets (changed smcup.sets c))) (plain.had (changed enacs.sets (changed smcup.sets c)) (enacs.had (changed smcup.sets c) (smcup.had c h)))

    had_settled : (c : Charset) → CanSettle t c → CanHave t c
    had_settled d (AfterResync c _ h l) = subst (λ (x : Charset). CanHave t x) (sym (led (resync t) (λ x. left_of changes x) c d whole l)) (had_left c h)
    had_settled d (AfterLine c _ row bytes s there keeps l) = subst (λ (x : Charset). CanHave t x) (sym l.is) (had_over t l.tokens (occurs_in t row bytes l.tokens there l.whole) c (had_settled c s))
