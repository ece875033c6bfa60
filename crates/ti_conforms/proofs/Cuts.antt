-- A resynchronization that is cut off anywhere.
use Rattle.std.proofs.Common.{◌≡◌, ℕ, Bool, true, false, List, [], ◌∷◌, ◌++◌, Option, Some, None, refl, sym, ap, subst, ◌∙◌}
use Rattle.std.proofs.lemmas.Bool.{false≢true}
use Rattle.vt_term.specs.Screen.{State, Charset, IsOfSize}
use Rattle.vt_term.specs.Run.{Runs}
use Rattle.vt_term.specs.Text.{Splits, IsOpen}
use Rattle.vt_term.specs.Step.{steps}
use Rattle.vt_term.proofs.Runs.{runs_append, runs_nothing, runs_once, text_runs, escape_drops}
use Rattle.vt_term.proofs.Sequences.{empty_open}
use Rattle.vt_term.proofs.Splits.{Compared, Longer, Shorter, compare}
use Rattle.ti_conforms.specs.Charsets.{charset_over}
use Rattle.ti_rows.specs.declared.rows.Row.{Row}
use Rattle.ti_rows.specs.declared.rows.Row.TheVariants.{Clear, Smcup, Enacs, Sgr0, Rmacs, Cnorm}
use Rattle.ti_rows.specs.Right.{sets_visible}
use Rattle.vt_term.specs.Ends.{Ends}
use Rattle.ti_conforms.specs.Lost as lost
use Rattle.ti_conforms.specs.Lines.{MayBeCut}
use Rattle.ti_conforms.specs.Resync.{IsLostAndClosed}
use Rattle.ti_conforms.proofs.Fronts.{fronts_stay, wholes_stay}
use Rattle.ti_conforms.specs.Table.{Table, has, or_nothing, text_of, widening, resync, resync_front, IsLost, resync_of}
use Rattle.ti_conforms.specs.Judged.{IsJudged}
use Rattle.ti_conforms.specs.Holds.{IsResynced, JudgedHolds}
use Rattle.ti_conforms.proofs.Judgements.{over_steps, may_be_cut, line}
use Rattle.ti_conforms.proofs.ResyncFacts.{resyncs}
use Rattle.ti_conforms.proofs.Holds.{leads_resync, sets_hold}

-- from a lost state between two tokens, `bytes` as a whole and each prefix of them lead to a lost state
record Passes (t : Table) (bytes : List ℕ) : Type 0 where
  fronts : (s : State) → s.rest ≡ [] → IsLost t s → (front back : List ℕ) → bytes ≡ front ++ back → Ends s front (IsLost t)
  whole : (s : State) → s.rest ≡ [] → IsLost t s → Ends s bytes (IsLostAndClosed t.rows t.cols (has t (widening t)) (has t Cnorm) t.reached)

front_of_nothing : (front back : List ℕ) → [] ≡ front ++ back → front ≡ []
front_of_nothing [] back e = refl
front_of_nothing (x ∷ front) back e = cc

passes_nothing : (t : Table) → Passes t []
passes_nothing t = record {
  fronts = λ s rest lost front back parts. record { after = s; runs = subst (λ (l : List ℕ). Runs s l s) (sym (front_of_nothing front back parts)) (runs_nothing s lost.sized.state.rest); there = lost };
  whole = λ s rest lost. record { after = s; runs = runs_nothing s lost.sized.state.rest; there = record { rest = rest; lost = lost } };
}

front_then : (t : Table) (a b : List ℕ) → Passes t a → Passes t b → (s : State) → s.rest ≡ [] → IsLost t s → (front back : List ℕ) → Compared a b front back → Ends s front (IsLost t)
front_then t a b p q s rest lost front back (Longer x parts more) =
    let y = p.whole s rest lost in
    let z = q.fronts y.after y.there.rest y.there.lost x back more in
    record { after = z.after; runs = subst (λ (l : List ℕ). Runs s l z.after) (sym parts) (runs_append s y.after z.after a x y.runs z.runs); there = z.there }
front_then t a b p q s rest lost front back (Shorter x parts more) = p.fronts s rest lost front x parts

passes_then : (t : Table) (a b : List ℕ) → Passes t a → Passes t b → Passes t (a ++ b)
passes_then t a b p q = record {
  fronts = λ s rest lost front back parts. front_then t a b p q s rest lost front back (compare a b front back parts);
  whole = λ s rest lost.
      let y = p.whole s rest lost in
      let z = q.whole y.after y.there.rest y.there.lost in
      record { after = z.after; runs = runs_append s y.after z.after a b y.runs z.runs; there = z.there };
}

passes_line : (t : Table) → IsJudged t → (row : Row) → sets_visible row ≡ false → (o : Option (List ℕ)) → t.line_of row ≡ o → Passes t (or_nothing o)
passes_line t j row keeps None e = passes_nothing t
passes_line t j row keeps (Some bytes) e =
    let m : MayBeCut t.rows (has t (widening t)) (has t Cnorm) t.reached bytes = may_be_cut t row bytes j e (j.lines row bytes e) (λ h. let no : false ≡ true = sym keeps ∙ h in absurd (false≢true no)) in
    record {
      fronts = λ s rest lost front back parts. fronts_stay t.rows t.cols (has t (widening t)) (has t Cnorm) t.reached bytes m s rest lost front back parts;
      whole = λ s rest lost. wholes_stay t.rows t.cols (has t (widening t)) (has t Cnorm) t.reached bytes m s rest lost;
    }

passes_part : (t : Table) → IsJudged t → (row : Row) → sets_visible row ≡ false → Passes t (text_of t row)
passes_part t j row keeps = passes_line t j row keeps (t.line_of row) refl

passes_resync : (t : Table) → IsJudged t → Passes t (resync t)
unfolding resync_of
passes_resync t j = passes_then t (resync_front t) (text_of t (widening t) ++ text_of t Clear)
    (passes_then t (text_of t Smcup ++ text_of t Enacs) (text_of t Sgr0 ++ text_of t Rmacs)
    (passes_then t (text_of t Smcup) (text_of t Enacs) (passes_part t j Smcup refl) (passes_part t j Enacs refl))
    (passes_then t (text_of t Sgr0) (text_of t Rmacs) (passes_part t j Sgr0 refl) (passes_part t j Rmacs refl)))
    (passes_then t (text_of t (widening t)) (text_of t Clear) (passes_part t j (widening t) refl) (passes_part t j Clear refl))

resync_cut : (t : Table) → IsJudged t → (text more : List ℕ) → text ≡ 27 ∷ more → Passes t text → (s : State) → IsLost t s → (front back : List ℕ) → text ≡ front ++ back → Ends s front (IsLost t)
resync_cut t j text more begins p s lost [] back parts = record { after = s; runs = runs_nothing s lost.sized.state.rest; there = lost }
resync_cut t j text more begins p s lost (x ∷ front) back parts =
    let empty : State = record s { rest = [] } in
    let sized : IsOfSize t.rows t.cols empty = record { state = record { screen = lost.sized.state.screen; rest = empty_open }; rows = lost.sized.rows; cols = lost.sized.cols } in
    let cleared : IsLost t empty = record { sized = sized; tame = lost.tame; reached = lost.reached; margins = lost.margins; visible = lost.visible } in
    let y = p.fronts empty refl cleared (x ∷ front) back parts in
    let same : 27 ∷ more ≡ x ∷ (front ++ back) = sym begins ∙ parts in
    let is : x ≡ 27 = cc in
    record {
      after = y.after;
      runs = subst (λ (b : ℕ). Runs s (b ∷ front) y.after) (sym is) (escape_drops s y.after front lost.sized.state.rest (subst (λ (b : ℕ). Runs empty (b ∷ front) y.after) is y.runs));
      there = y.there;
    }

-- a text that begins with ESC leads from every state to the charset that its tokens give
led_to : (s u : State) (text more : List ℕ) (tokens : List (List ℕ)) → text ≡ 27 ∷ more → Splits text tokens [] → IsOpen s.rest → Runs s text u → u.screen.charset ≡ charset_over tokens s.screen.charset
led_to s u text more tokens begins whole begun runs =
    let empty : State = record s { rest = [] } in
    let end : State = record { screen = steps tokens s.screen; rest = [] } in
    let plain : Runs empty text end = text_runs empty text tokens refl whole in
    let dropped : Runs s (27 ∷ more) end = escape_drops s end more begun (subst (λ (b : List ℕ). Runs empty b end) begins plain) in
    let same : u ≡ end = runs_once s end u (27 ∷ more) dropped (subst (λ (b : List ℕ). Runs s b u) begins runs) in
    ap (λ (x : State). x.screen.charset) same ∙ over_steps tokens s.screen

resynced : (t : Table) → IsJudged t → (shows : Bool) (s : State) → lost.IsLost t.rows t.cols (has t (widening t)) shows t.reached s → Ends s (resync t) (IsResynced t s.screen.visible)
resynced t j shows s known =
    let e = resyncs t j shows s known in
    let l = leads_resync t j in
    record {
      after = e.after;
      runs = e.runs;
      there = record {
        cleared = e.there;
        settled = ap (λ (c : Charset). t.settled c) (led_to s e.after (resync t) j.rest l.tokens j.escapes l.whole known.sized.state.rest e.runs ∙ l.leads s.screen.charset) ∙ j.first_settled s.screen.charset known.reached;
      };
    }

pub judged_holds : JudgedHolds
judged_holds t j = record {
  lines = line t j;
  resyncs = resynced t j;
  resync_fronts = λ s lost front back parts. resync_cut t j (resync t) j.rest j.escapes (passes_resync t j) s lost front back parts;
  sets = sets_hold t j;
}
