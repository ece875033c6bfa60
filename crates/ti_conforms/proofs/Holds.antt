-- A table's sets of charsets hold at least those that a terminal can have.
use Rattle.std.proofs.Common.{◌≡◌, inl, inr, ℕ, Bool, true, List, [], ◌∷◌, ◌++◌, Option, Some, None, refl, sym, ap, subst, ◌∙◌}
use Rattle.std.specs.List.{AllByRecursion}
use Rattle.vt_term.specs.Text.{Splits}
use Rattle.vt_term.specs.Function.{function_of}
use Rattle.vt_term.specs.Screen.{Screen, Charset, reset_screen}
use Rattle.vt_term.specs.Step.{steps}
use Rattle.vt_term.proofs.Splits.{one_splitting, splits_append, empty_splits}
use Rattle.vt_effects.specs.declared.effects.Effect.{Effect}
use Rattle.vt_effects.specs.declared.effects.Sets.{Sets}
use Rattle.vt_effects.specs.declared.effects.Switch.{Switch}
use Rattle.vt_effects.specs.declared.effects.Switch.TheVariants as switches
use Rattle.vt_effects.specs.Effect.{designated, switched}
use Rattle.vt_effects.specs.Settings.{SetsAs}
use Rattle.vt_effects.proofs.Sayings.{records_tell}
use Rattle.ti_conforms.specs.Charsets.{charset_after, charset_over, IsAmong}
use Rattle.ti_rows.specs.declared.rows.Row.{Row}
use Rattle.ti_rows.specs.declared.rows.Row.TheVariants.{Clear, Smcup, Enacs, Sgr0, Rmacs}
use Rattle.ti_rows.specs.Asked.{start_of}
use Rattle.ti_conforms.specs.Table.{Table, or_nothing, text_of, widening, resync, resync_front, resync_of}
use Rattle.ti_conforms.specs.Sets.{CanHave, AtReset, AfterToken, LeadsBy, CanSettle, AfterResync, AfterLine, SetsHold}
use Rattle.ti_conforms.specs.Judged.{AskedLine, ChangesSets, NoLine, ByLine, changed, left_of, IsJudged}
use Rattle.ti_conforms.proofs.Judgements.{over_steps}

over_append : (ts us : List (List ℕ)) (c : Charset) → charset_over (ts ++ us) c ≡ charset_over us (charset_over ts c)
over_append [] us c = refl
over_append (t ∷ ts) us c = over_append ts us (charset_after (function_of t) c)

switched_twice : (x : Switch) (b : Bool) → switched x (switched x b) ≡ switched x b
switched_twice switches.Kept b = refl
switched_twice switches.On b = refl
switched_twice switches.Off b = refl

-- a change of sets made twice is the change made once
pub designated_twice : (e : Sets) (c : Charset) → designated e (designated e c) ≡ designated e c
designated_twice e c = cc (switched_twice e.g0_graphic c.g0_graphic, switched_twice e.g1_graphic c.g1_graphic, switched_twice e.shifted_out c.shifted_out)

-- the tokens of a line change the sets as its record says
line_sets : (t : Table) (row : Row) (bytes : List ℕ) (l : AskedLine t row bytes) (c : Charset) → charset_over l.tokens c ≡ designated l.effect.charset c
line_sets t row bytes l c =
    let s : Screen = record (reset_screen t.rows t.cols) { charset = c } in
    let sets : SetsAs l.effect s (steps l.tokens s) = (records_tell t.rows t.cols (start_of t.rows t.cols row) l.tokens l.effect l.recorded).settings s refl (record { autowrap = refl; inserting = refl }) in
    sym (over_steps l.tokens s) ∙ sets.charset

each_among : (P : List ℕ → Type 0) (ts : List (List ℕ)) (x : List ℕ) → AllByRecursion P ts → IsAmong ts x → P x
each_among P [] x h a = absurd a
each_among P (t ∷ ts) x h (inl e) = subst P (sym e) h.0
each_among P (t ∷ ts) x h (inr a) = each_among P ts x h.1 a

reached : (t : Table) → IsJudged t → (c : Charset) → CanHave t c → t.reached c ≡ true
reached t j c (AtReset _ e) = ap (λ (x : Charset). t.reached x) e ∙ j.starts
reached t j d (AfterToken c _ token p o e) =
    let l : AskedLine t o.row o.bytes = j.lines o.row o.bytes o.there in
    let same = one_splitting o.bytes o.tokens l.tokens [] [] o.whole l.whole in
    let among : IsAmong l.tokens token = subst (λ (ts : List (List ℕ)). IsAmong ts token) (sym same.0) o.among in
    ap (λ (x : Charset). t.reached x) e ∙ each_among (λ x. (b : Charset) → t.reached b ≡ true → t.reached (charset_after (function_of x) b) ≡ true) l.tokens token l.stays among c (reached t j c p)

-- a whole text changes charsets by `f`
pub record Leads (bytes : List ℕ) (f : Charset → Charset) : Type 0 where
  pub tokens : List (List ℕ)
  pub whole : Splits bytes tokens []
  pub leads : (c : Charset) → charset_over tokens c ≡ f c

pub leads_joined : (a b : List ℕ) (f g : Charset → Charset) → Leads a f → Leads b g → Leads (a ++ b) (λ c. g (f c))
leads_joined a b f g p q = record {
  tokens = p.tokens ++ q.tokens;
  whole = splits_append a p.tokens q.tokens [] b [] p.whole q.whole;
  leads = λ c. over_append p.tokens q.tokens c ∙ (ap (λ (x : Charset). charset_over q.tokens x) (p.leads c) ∙ q.leads (f c));
}

pub leads_nothing : Leads [] (λ c. c)
leads_nothing = record { tokens = []; whole = empty_splits; leads = λ c. refl }

leads_line : (t : Table) (row : Row) (bytes : List ℕ) (l : AskedLine t row bytes) → Leads bytes (λ c. designated l.effect.charset c)
leads_line t row bytes l = record { tokens = l.tokens; whole = l.whole; leads = line_sets t row bytes l }

leads_part : (t : Table) (row : Row) (change : Option Sets) → ChangesSets t row change → Leads (text_of t row) (λ c. changed change c)
leads_part t row change (NoLine none is) =
    subst (λ (o : Option Sets). Leads (text_of t row) (λ c. changed o c)) (sym is) (subst (λ (b : List ℕ). Leads b (λ c. c)) (sym (ap or_nothing none)) leads_nothing)
leads_part t row change (ByLine bytes there l is) =
    subst (λ (o : Option Sets). Leads (text_of t row) (λ c. changed o c)) (sym is) (subst (λ (b : List ℕ). Leads b (λ c. designated l.effect.charset c)) (sym (ap or_nothing there)) (leads_line t row bytes l))

leads_kept : (bytes : List ℕ) (f : Charset → Charset) → Leads bytes f → ((c : Charset) → f c ≡ c) → Leads bytes (λ c. c)
leads_kept bytes f p same = record { tokens = p.tokens; whole = p.whole; leads = λ c. p.leads c ∙ same c }

widen_keeps : (t : Table) (j : IsJudged t) (o : Option (List ℕ)) → t.line_of (widening t) ≡ o → Leads (or_nothing o) (λ c. c)
widen_keeps t j None e = leads_nothing
widen_keeps t j (Some bytes) e = let l : AskedLine t (widening t) bytes = j.lines (widening t) bytes e in
    leads_kept bytes (λ c. designated l.effect.charset c) (leads_line t (widening t) bytes l) (λ c. ap (λ (x : Effect). designated x.charset c) l.asked_for)

clear_keeps : (t : Table) (j : IsJudged t) (o : Option (List ℕ)) → t.line_of Clear ≡ o → Leads (or_nothing o) (λ c. c)
clear_keeps t j None e = leads_nothing
clear_keeps t j (Some bytes) e = let l : AskedLine t Clear bytes = j.lines Clear bytes e in
    leads_kept bytes (λ c. designated l.effect.charset c) (leads_line t Clear bytes l) (λ c. ap (λ (x : Effect). designated x.charset c) l.asked_for)

pub leads_resync : (t : Table) (j : IsJudged t) → Leads (resync t) (λ c. left_of j.changes c)
unfolding resync_of
leads_resync t j = leads_joined (resync_front t) (text_of t (widening t) ++ text_of t Clear) (λ c. left_of j.changes c) (λ c. c)
    (leads_joined (text_of t Smcup ++ text_of t Enacs) (text_of t Sgr0 ++ text_of t Rmacs) (λ c. changed j.changes.enacs (changed j.changes.smcup c)) (λ c. changed j.changes.rmacs (changed j.changes.sgr0 c))
    (leads_joined (text_of t Smcup) (text_of t Enacs) (λ c. changed j.changes.smcup c) (λ c. changed j.changes.enacs c) (leads_part t Smcup j.changes.smcup j.smcup) (leads_part t Enacs j.changes.enacs j.enacs))
    (leads_joined (text_of t Sgr0) (text_of t Rmacs) (λ c. changed j.changes.sgr0 c) (λ c. changed j.changes.rmacs c) (leads_part t Sgr0 j.changes.sgr0 j.sgr0) (leads_part t Rmacs j.changes.rmacs j.rmacs)))
    (leads_joined (text_of t (widening t)) (text_of t Clear) (λ c. c) (λ c. c) (widen_keeps t j (t.line_of (widening t)) refl) (clear_keeps t j (t.line_of Clear) refl))

-- a text is split in one way, so it leads to one charset
pub led : (bytes : List ℕ) (f : Charset → Charset) (c d : Charset) → Leads bytes f → LeadsBy bytes c d → d ≡ f c
led bytes f c d p l =
    let same = one_splitting bytes l.tokens p.tokens [] [] l.whole p.whole in
    l.is ∙ (ap (λ (ts : List (List ℕ)). charset_over ts c) (sym same.0) ∙ p.leads c)

settled : (t : Table) (j : IsJudged t) (c : Charset) → CanSettle t c → t.settled c ≡ true
settled t j d (AfterResync c _ p l) = ap (λ (x : Charset). t.settled x) (led (resync t) (λ c. left_of j.changes c) c d (leads_resync t j) l) ∙ j.first_settled c (reached t j c p)
settled t j d (AfterLine c _ row bytes p there keeps l) =
    let line : AskedLine t row bytes = j.lines row bytes there in
    ap (λ (x : Charset). t.settled x) (led bytes (λ c. designated line.effect.charset c) c d (leads_line t row bytes line) l) ∙ line.settles keeps c (settled t j c p)

pub sets_hold : (t : Table) → IsJudged t → SetsHold t
sets_hold t j = record {
  reached = reached t j;
  settled = settled t j;
  settled_reached = j.settled_reached;
  plain = j.plain;
}
