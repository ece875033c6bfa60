-- The lines of a resynchronization, one after another.
use Rattle.std.proofs.Common.{Bool, ◌≡◌, ℕ, List, ◌++◌, Option, Some, None, refl, sym, ap, subst, ◌∙◌}
use Rattle.std.specs.Prelude.{is_some}
use Rattle.vt_term.specs.Look.{Rendition, plain}
use Rattle.vt_term.specs.Screen.{State}
use Rattle.vt_effects.specs.declared.effects.Effect.{Effect}
use Rattle.vt_effects.specs.declared.effects.Sets.{Sets}
use Rattle.vt_effects.specs.Effect.{rendered, designated}
use Rattle.ti_rows.specs.declared.rows.Row.{Row}
use Rattle.ti_rows.specs.declared.rows.Row.TheVariants.{Clear, Smcup, Enacs, Sgr0, Rmacs}
use Rattle.ti_rows.specs.Asked.{start_of}
use Rattle.ti_conforms.specs.Lost.{IsCleared}
use Rattle.vt_term.specs.Ends.{Ends}
use Rattle.ti_conforms.specs.Lost as lost
use Rattle.ti_conforms.specs.Lines.{HasLine, free_start, IsQuiet, SetsMargins, Clears, MayWiden, Absent, Present}
use Rattle.ti_conforms.specs.Resync.{Settles}
use Rattle.ti_conforms.proofs.Leads.{quiet_settles, nothing_settles, settles_then, resync_leads}
use Rattle.ti_conforms.specs.Table.{Table, has, or_nothing, text_of, widening, resync, resync_front, resync_of}
use Rattle.ti_conforms.specs.Judged.{AskedLine, ChangesSets, NoLine, ByLine, changed, left_of, IsJudged}

-- a line of one of the four rows, or none, with its change of the rendition
record SettlesBy (t : Table) (row : Row) (change : Option Sets) : Type 0 where
  render : Rendition → Rendition
  settles : Settles t.rows t.cols (text_of t row) render (changed change)

has_line : (t : Table) (row : Row) (bytes : List ℕ) (l : AskedLine t row bytes) → HasLine t.rows t.cols (start_of t.rows t.cols row) bytes l.effect
has_line t row bytes l = record { tokens = l.tokens; whole = l.whole; recorded = l.recorded }

part_is : (t : Table) (row : Row) (o : Option (List ℕ)) → t.line_of row ≡ o → text_of t row ≡ or_nothing o
part_is t row o e = ap or_nothing e

by_line : (t : Table) (row : Row) (change : Option Sets) (bytes : List ℕ) (l : AskedLine t row bytes) → IsQuiet l.effect → t.line_of row ≡ Some bytes → change ≡ Some l.effect.charset
    → Settles t.rows t.cols (text_of t row) (λ r. rendered l.effect.rendition r) (changed change)
by_line t row change bytes l q there is =
    let s : Settles t.rows t.cols bytes (λ r. rendered l.effect.rendition r) (λ c. designated l.effect.charset c) = quiet_settles t.rows t.cols (start_of t.rows t.cols row) bytes l.effect (has_line t row bytes l) q in
    let moved : Settles t.rows t.cols (text_of t row) (λ r. rendered l.effect.rendition r) (λ c. designated l.effect.charset c) =
    subst (λ (b : List ℕ). Settles t.rows t.cols b (λ r. rendered l.effect.rendition r) (λ c. designated l.effect.charset c)) (sym (part_is t row (Some bytes) there)) s in
    subst (λ (o : Option Sets). Settles t.rows t.cols (text_of t row) (λ r. rendered l.effect.rendition r) (changed o)) (sym is) moved

no_line : (t : Table) (row : Row) (change : Option Sets) → t.line_of row ≡ None → change ≡ None → Settles t.rows t.cols (text_of t row) (λ r. r) (changed change)
no_line t row change none is =
    let moved : Settles t.rows t.cols (text_of t row) (λ r. r) (λ c. c) = subst (λ (b : List ℕ). Settles t.rows t.cols b (λ r. r) (λ c. c)) (sym (part_is t row None none)) (nothing_settles t.rows t.cols) in
    subst (λ (o : Option Sets). Settles t.rows t.cols (text_of t row) (λ r. r) (changed o)) (sym is) moved

settles_by : (t : Table) (row : Row) (change : Option Sets) → ((bytes : List ℕ) (l : AskedLine t row bytes) → IsQuiet l.effect) → ChangesSets t row change → SettlesBy t row change
settles_by t row change quiet (NoLine none is) = record { render = λ r. r; settles = no_line t row change none is }
settles_by t row change quiet (ByLine bytes there l is) = record { render = λ r. rendered l.effect.rendition r; settles = by_line t row change bytes l (quiet bytes l) there is }

quiet_smcup : (t : Table) (bytes : List ℕ) (l : AskedLine t Smcup bytes) → IsQuiet l.effect
quiet_smcup t bytes l = record { margins = ap (λ (e : Effect). e.margins) l.asked_for; visible = ap (λ (e : Effect). e.visible) l.asked_for }

quiet_enacs : (t : Table) (bytes : List ℕ) (l : AskedLine t Enacs bytes) → IsQuiet l.effect
quiet_enacs t bytes l = record { margins = ap (λ (e : Effect). e.margins) l.asked_for; visible = ap (λ (e : Effect). e.visible) l.asked_for }

quiet_sgr0 : (t : Table) (bytes : List ℕ) (l : AskedLine t Sgr0 bytes) → IsQuiet l.effect
quiet_sgr0 t bytes l = record { margins = ap (λ (e : Effect). e.margins) l.asked_for; visible = ap (λ (e : Effect). e.visible) l.asked_for }

quiet_rmacs : (t : Table) (bytes : List ℕ) (l : AskedLine t Rmacs bytes) → IsQuiet l.effect
quiet_rmacs t bytes l = record { margins = ap (λ (e : Effect). e.margins) l.asked_for; visible = ap (λ (e : Effect). e.visible) l.asked_for }

-- after `sgr0` and `rmacs` the rendition is the default one
record MakesPlain (t : Table) (sgr0 rmacs : Option Sets) : Type 0 where
  render : Rendition → Rendition
  makes : (r : Rendition) → render r ≡ plain
  settles : Settles t.rows t.cols (text_of t Sgr0 ++ text_of t Rmacs) render (λ c. changed rmacs (changed sgr0 c))

sgr0_plain : (t : Table) (bytes : List ℕ) (l : AskedLine t Sgr0 bytes) (r : Rendition) → rendered l.effect.rendition r ≡ plain
sgr0_plain t bytes l r = ap (λ (e : Effect). rendered e.rendition r) l.asked_for

rmacs_keeps : (t : Table) (bytes : List ℕ) (l : AskedLine t Rmacs bytes) (r : Rendition) → rendered l.effect.rendition r ≡ r
rmacs_keeps t bytes l r = ap (λ (e : Effect). rendered e.rendition r) l.asked_for

with_rmacs : (t : Table) (bytes : List ℕ) (l : AskedLine t Sgr0 bytes) (sgr0 rmacs : Option Sets) → Settles t.rows t.cols (text_of t Sgr0) (λ r. rendered l.effect.rendition r) (changed sgr0) → ChangesSets t Rmacs rmacs → MakesPlain t sgr0 rmacs
with_rmacs t bytes l sgr0 rmacs first (NoLine none is) = record {
  render = λ r. rendered l.effect.rendition r;
  makes = sgr0_plain t bytes l;
  settles = settles_then t.rows t.cols (text_of t Sgr0) (text_of t Rmacs) (λ r. rendered l.effect.rendition r) (λ r. r) (changed sgr0) (changed rmacs) first (no_line t Rmacs rmacs none is);
}
with_rmacs t bytes l sgr0 rmacs first (ByLine other there m is) = record {
  render = λ r. rendered m.effect.rendition (rendered l.effect.rendition r);
  makes = λ r. rmacs_keeps t other m (rendered l.effect.rendition r) ∙ sgr0_plain t bytes l r;
  settles = settles_then t.rows t.cols (text_of t Sgr0) (text_of t Rmacs) (λ r. rendered l.effect.rendition r) (λ r. rendered m.effect.rendition r) (changed sgr0) (changed rmacs) first (by_line t Rmacs rmacs other m (quiet_rmacs t other m) there is);
}

makes_plain : (t : Table) (j : IsJudged t) → ChangesSets t Sgr0 j.changes.sgr0 → MakesPlain t j.changes.sgr0 j.changes.rmacs
makes_plain t j (NoLine none is) = let no : None ≡ Some j.sgr0_bytes = sym none ∙ j.makes_plain in cc
makes_plain t j (ByLine bytes there l is) = with_rmacs t bytes l j.changes.sgr0 j.changes.rmacs (by_line t Sgr0 j.changes.sgr0 bytes l (quiet_sgr0 t bytes l) there is) j.rmacs

sets_whole : (t : Table) (bytes : List ℕ) (l : AskedLine t (widening t) bytes) → SetsMargins t.rows l.effect
sets_whole t bytes l = record {
  margins = ap (λ (e : Effect). e.margins) l.asked_for;
  rendition = ap (λ (e : Effect). e.rendition) l.asked_for;
  charset = ap (λ (e : Effect). e.charset) l.asked_for;
  visible = ap (λ (e : Effect). e.visible) l.asked_for;
}

may_widen : (t : Table) (j : IsJudged t) (o : Option (List ℕ)) → t.line_of (widening t) ≡ o → MayWiden t.rows t.cols (or_nothing o) (is_some o)
may_widen t j None e = Absent refl
may_widen t j (Some bytes) e = let l : AskedLine t (widening t) bytes = j.lines (widening t) bytes e in Present (start_of t.rows t.cols (widening t)) l.effect (has_line t (widening t) bytes l) (sets_whole t bytes l)

clears_all : (t : Table) (bytes : List ℕ) (l : AskedLine t Clear bytes) → Clears l.effect
clears_all t bytes l = record {
  row = ap (λ (e : Effect). e.row) l.asked_for;
  col = ap (λ (e : Effect). e.col) l.asked_for;
  pending = ap (λ (e : Effect). e.ends_pending) l.asked_for;
  erasure = ap (λ (e : Effect). e.erasure) l.asked_for;
  scroll = ap (λ (e : Effect). e.scroll) l.asked_for;
  rendition = ap (λ (e : Effect). e.rendition) l.asked_for;
  charset = ap (λ (e : Effect). e.charset) l.asked_for;
  margins = ap (λ (e : Effect). e.margins) l.asked_for;
  visible = ap (λ (e : Effect). e.visible) l.asked_for;
}

pub resyncs : (t : Table) (j : IsJudged t) (shows : Bool) (s : State) → lost.IsLost t.rows t.cols (has t (widening t)) shows t.reached s → Ends s (resync t) (IsCleared t.rows t.cols s.screen.visible)
unfolding resync_of
resyncs t j shows s known =
    let a = settles_by t Smcup j.changes.smcup (quiet_smcup t) j.smcup in
    let b = settles_by t Enacs j.changes.enacs (quiet_enacs t) j.enacs in
    let p = makes_plain t j j.sgr0 in
    let first : Settles t.rows t.cols (text_of t Smcup ++ text_of t Enacs) (λ r. b.render (a.render r)) (λ c. changed j.changes.enacs (changed j.changes.smcup c)) =
    settles_then t.rows t.cols (text_of t Smcup) (text_of t Enacs) a.render b.render (changed j.changes.smcup) (changed j.changes.enacs) a.settles b.settles in
    let front : Settles t.rows t.cols (resync_front t) (λ r. p.render (b.render (a.render r))) (λ c. left_of j.changes c) =
    settles_then t.rows t.cols (text_of t Smcup ++ text_of t Enacs) (text_of t Sgr0 ++ text_of t Rmacs) (λ r. b.render (a.render r)) p.render (λ c. changed j.changes.enacs (changed j.changes.smcup c)) (λ c. changed j.changes.rmacs (changed j.changes.sgr0 c)) first p.settles in
    let l : AskedLine t Clear j.clear_bytes = j.lines Clear j.clear_bytes j.clears in
    let same : text_of t Clear ≡ j.clear_bytes = part_is t Clear (Some j.clear_bytes) j.clears in
    let clear : HasLine t.rows t.cols (free_start t.rows t.cols) (text_of t Clear) l.effect = subst (λ (x : List ℕ). HasLine t.rows t.cols (free_start t.rows t.cols) x l.effect) (sym same) (has_line t Clear j.clear_bytes l) in
    resync_leads t.rows t.cols (has t (widening t)) shows (resync_front t) (text_of t (widening t)) (text_of t Clear) j.rest (λ r. p.render (b.render (a.render r))) (λ c. left_of j.changes c) t.reached l.effect
    j.escapes front (λ r. p.makes (b.render (a.render r))) j.quiet (may_widen t j (t.line_of (widening t)) refl) clear (clears_all t j.clear_bytes l) s known
