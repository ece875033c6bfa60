-- The strings that end a program's screen, and the states they lead to.
use Rattle.std.proofs.Common.{◌≡◌, ℕ, ◌-◌, true, false, List, [], ◌∷◌, ◌++◌, length, Option, Some, None, is_some, refl, sym, ap, subst, arith}
use Rattle.std.proofs.lemmas.List.{append-nil}
use Rattle.vt_term.specs.Screen.{State, IsOfSize}
use Rattle.vt_term.specs.Look.{plain}
use Rattle.vt_term.proofs.Runs.{runs_once}
use Rattle.cur_steps.specs.Leads.{Leads}
use Rattle.vt_term.specs.Ends.{Ends}
use Rattle.vt_term.specs.Ends.{Closed}
use Rattle.cur_steps.proofs.Leads.{leads_then, leads_wider}
use Rattle.cur_steps.proofs.Stops.{leads_line}
use Rattle.cur_steps.proofs.Completion.{stays, ends_sized}
use Rattle.ti_rows.specs.declared.rows.Row.{Row}
use Rattle.ti_rows.specs.declared.rows.Row.TheVariants.{Cup, Sgr0, Rmacs, Cnorm, Rmcup}
use Rattle.ti_rows.specs.Starts.{Starts}
use Rattle.cur_steps.specs.declared.beliefs.Belief.{Belief}
use Rattle.cur_steps.specs.declared.inks.Ink.{Ink}
use Rattle.ti_conforms.specs.Certified.{Table, IsLost, IsReady, IsChecked, IsCheckedLine, IsPiece, Line, Ended, or_nothing, text_of}
use Rattle.cur_steps.proofs.Actions.{ready_lost}
use Rattle.cur_steps.proofs.Turns.{any_of, free_of, by_screen}
use Rattle.cur_paint.specs.Cleared.{IsLeft}
use Rattle.cur_paint.specs.Update.{Meets, IsFresh}
use Rattle.cur_paint.specs.Finish.{from_cnorm_text, from_cup_text, from_rmacs_text, end_text, finish_text}
use Rattle.cur_paint.specs.declared.updates.Status.{Status}
use Rattle.cur_paint.specs.declared.updates.Status.TheVariants.{Fresh, Known, Lost}
use Rattle.cur_paint.proofs.Renewals.{resync_leads}

no_front : (front back : List ℕ) → [] ≡ front ++ back → front ≡ []
no_front [] back e = refl
no_front (x ∷ xs) back e = cc

still : (P : List ℕ → Type 0) (D A B : State → Type 0) → ((s : State) → A s → s.rest ≡ []) → ((s : State) → A s → B s) → ((s : State) → A s → D s) → Leads P 0 D A [] B
still P D A B rest f d = record {
  pieces = [];
  made = refl;
  each = tt;
  bound = omega arith;
  ends = λ s x. stays s B (rest s x) (f s x);
  cut = λ front back e s x. subst (λ (l : List ℕ). Ends s l D) (sym (no_front front back e)) (stays s D (rest s x) (d s x));
}

-- a row's line leads from ready states, if there is one
row_leads : (t : Table) → IsChecked t → (row : Row) (B : State → Type 0) → ((s : State) → IsReady t s → Starts t.rows t.cols row s.screen)
    → ((s u : State) → IsReady t s → IsOfSize t.rows t.cols u → u.rest ≡ [] → Ended t row s.screen u.screen → B u) → (is_some (t.line_of row) ≡ false → (s : State) → IsReady t s → B s)
    → (o : Option (List ℕ)) → t.line_of row ≡ o → Leads (IsPiece t) (length (or_nothing o)) (IsLost t) (IsReady t) (or_nothing o) B
row_leads t checked row B starts ends without None e = still (IsPiece t) (IsLost t) (IsReady t) B (λ s h. h.rest) (without (ap (λ (o : Option (List ℕ)). is_some o) e)) (ready_lost t checked)
row_leads t checked row B starts ends without (Some line) e =
    let its : IsCheckedLine t row line = checked.lines row line e in
    leads_line (IsPiece t) (length line) (IsLost t) (IsReady t) B line (Line row e) (omega arith)
    (λ s h. ends_sized t.rows t.cols s line (Closed (Ended t row s.screen)) B h.sized (λ u sized k. ends s u h sized k.rest k.screen) (its.drives.right s h.rest (starts s h)))
    (λ s h front back parts. its.drives.fronts s h.rest (ready_lost t checked s h) front back parts)

-- the kinds of states on the way
pub record Visible (t : Table) (s : State) : Type 0 where
  pub ready : IsReady t s
  pub visible : s.screen.visible ≡ true

plain_again : (t : Table) (s u : State) → IsReady t s → IsOfSize t.rows t.cols u → u.rest ≡ [] → Ended t Sgr0 s.screen u.screen → IsReady t u
plain_again t s u h sized closed w = by_screen t (IsReady t) u (record s.screen { rendition = plain; charset = u.screen.charset }) sized closed w.wants
    (λ k. record { sized = k; rest = refl; tame = record { autowrap = h.tame.autowrap; inserting = h.tame.inserting }; whole = record { top = h.whole.top; bottom = h.whole.bottom }; settled = w.settled refl h.settled; visible = h.visible })

plain_set : (t : Table) (s u : State) → IsReady t s → IsOfSize t.rows t.cols u → u.rest ≡ [] → Ended t Rmacs s.screen u.screen → IsReady t u
plain_set t s u h sized closed w = by_screen t (IsReady t) u (record s.screen { charset = u.screen.charset }) sized closed w.wants
    (λ k. record { sized = k; rest = refl; tame = record { autowrap = h.tame.autowrap; inserting = h.tame.inserting }; whole = record { top = h.whole.top; bottom = h.whole.bottom }; settled = w.settled refl h.settled; visible = h.visible })

last_line : (t : Table) (s u : State) → IsReady t s → IsOfSize t.rows t.cols u → u.rest ≡ [] → Ended t (Cup (t.rows - 1) 0) s.screen u.screen → IsReady t u
last_line t s u h sized closed w = by_screen t (IsReady t) u (record s.screen { row = t.rows - 1; col = 0; pending = false }) sized closed w.wants
    (λ k. record { sized = k; rest = refl; tame = record { autowrap = h.tame.autowrap; inserting = h.tame.inserting }; whole = record { top = h.whole.top; bottom = h.whole.bottom }; settled = h.settled; visible = h.visible })

seen_again : (t : Table) (s u : State) → IsReady t s → IsOfSize t.rows t.cols u → u.rest ≡ [] → Ended t Cnorm s.screen u.screen → Visible t u
seen_again t s u h sized closed w = by_screen t (Visible t) u (record s.screen { visible = true }) sized closed w.wants
    (λ k. record { ready = record { sized = k; rest = refl; tame = record { autowrap = h.tame.autowrap; inserting = h.tame.inserting }; whole = record { top = h.whole.top; bottom = h.whole.bottom }; settled = h.settled; visible = λ e. refl }; visible = refl })

fresh_of : (t : Table) → IsChecked t → (s : State) → Visible t s → IsFresh t s
fresh_of t checked s h = record { lost = ready_lost t checked s h.ready; rest = h.ready.rest; whole = h.ready.whole; visible = h.visible }

-- one run of the same bytes ends in one state
both_ends : (s : State) (bytes : List ℕ) (A B : State → Type 0) → Ends s bytes A → Ends s bytes B → Ends s bytes (λ u. A u × B u)
both_ends s bytes A B h k = record { after = h.after; runs = h.runs; there = (h.there, subst B (runs_once s h.after k.after bytes h.runs k.runs) k.there) }

screen_back : (t : Table) (s u : State) → Visible t s → IsOfSize t.rows t.cols u → u.rest ≡ [] → Ended t Rmcup s.screen u.screen → IsLost t u → IsFresh t u
screen_back t s u h sized closed w lost =
    let x = u.screen in
    by_screen t (IsFresh t) u (record s.screen { grid = x.grid; row = x.row; col = x.col; pending = x.pending; rendition = x.rendition; charset = x.charset }) sized closed w.wants.others
    (λ k. record {
      lost = record { sized = k; tame = record { autowrap = h.ready.tame.autowrap; inserting = h.ready.tame.inserting }; reached = lost.reached; margins = λ e. record { top = h.ready.whole.top; bottom = h.ready.whole.bottom }; visible = λ e. h.visible };
      rest = refl;
      whole = record { top = h.ready.whole.top; bottom = h.ready.whole.bottom };
      visible = h.visible;
    })

-- `rmcup`, from visible states
back_leads : (t : Table) → IsChecked t → (o : Option (List ℕ)) → t.line_of Rmcup ≡ o → Leads (IsPiece t) (length (or_nothing o)) (IsLost t) (Visible t) (or_nothing o) (IsFresh t)
back_leads t checked None e = still (IsPiece t) (IsLost t) (Visible t) (IsFresh t) (λ s h. h.ready.rest) (fresh_of t checked) (λ s h. ready_lost t checked s h.ready)
back_leads t checked (Some line) e =
    let its : IsCheckedLine t Rmcup line = checked.lines Rmcup line e in
    leads_line (IsPiece t) (length line) (IsLost t) (Visible t) (IsFresh t) line (Line Rmcup e) (omega arith)
    (λ s h. ends_sized t.rows t.cols s line (λ u. Closed (Ended t Rmcup s.screen) u × IsLost t u) (IsFresh t) h.ready.sized (λ u sized k. screen_back t s u h sized k.0.rest k.0.screen k.1)
    (both_ends s line (Closed (Ended t Rmcup s.screen)) (IsLost t) (its.drives.right s h.ready.rest (free_of t s h.ready)) (its.drives.fronts s h.ready.rest (ready_lost t checked s h.ready) line [] (sym (append-nil line)))))
    (λ s h front back parts. its.drives.fronts s h.ready.rest (ready_lost t checked s h.ready) front back parts)

pub record SomeLeads (P : List ℕ → Type 0) (D A : State → Type 0) (bytes : List ℕ) (B : State → Type 0) : Type 0 where
  pub most : ℕ
  pub leads : Leads P most D A bytes B

pub end_leads : (t : Table) → IsChecked t → SomeLeads (IsPiece t) (IsLost t) (IsReady t) (end_text t) (IsFresh t)
end_leads t checked =
    let P = IsPiece t in
    let R : State → Type 0 = IsReady t in
    let D : State → Type 0 = IsLost t in
    let a = row_leads t checked Sgr0 R (free_of t) (plain_again t) (λ e s h. h) (t.line_of Sgr0) refl in
    let b = row_leads t checked Rmacs R (free_of t) (plain_set t) (λ e s h. h) (t.line_of Rmacs) refl in
    let c = row_leads t checked (Cup (t.rows - 1) 0) R (any_of t) (last_line t) (λ e s h. h) (t.line_of (Cup (t.rows - 1) 0)) refl in
    let d = row_leads t checked Cnorm (Visible t) (free_of t) (seen_again t) (λ e s h. record { ready = h; visible = h.visible e }) (t.line_of Cnorm) refl in
    let f = back_leads t checked (t.line_of Rmcup) refl in
    let df = leads_then P _ _ D R (Visible t) (IsFresh t) (text_of t Cnorm) (text_of t Rmcup) d f in
    let cdf = leads_then P _ _ D R R (IsFresh t) (text_of t (Cup (t.rows - 1) 0)) (from_cnorm_text t) c df in
    let bcdf = leads_then P _ _ D R R (IsFresh t) (text_of t Rmacs) (from_cup_text t) b cdf in
    record { most = _; leads = leads_then P _ _ D R R (IsFresh t) (text_of t Sgr0) (from_rmacs_text t) a bcdf }

pub finish_leads : (t : Table) → IsChecked t → (g : ℕ → ℕ → Ink) (status : Status) (b : Belief) → SomeLeads (IsPiece t) (IsLost t) (Meets t g status b) (finish_text t status) (IsFresh t)
finish_leads t checked g Fresh b = record { most = 0; leads = still (IsPiece t) (IsLost t) (IsFresh t) (IsFresh t) (λ s h. h.rest) (λ s h. h) (λ s h. h.lost) }
finish_leads t checked g Known b =
    let k = end_leads t checked in
    record { most = k.most; leads = leads_wider (IsPiece t) k.most k.most (IsLost t) (IsReady t) (IsFresh t) (Meets t g Known b) (IsFresh t) (end_text t) (omega arith) (λ s h. h.ready) (λ s h. h) k.leads }
finish_leads t checked g Lost b =
    let k = end_leads t checked in
    let r = leads_wider (IsPiece t) (length t.resync) (length t.resync) (IsLost t) (IsLeft t None) _ (IsLost t) (IsReady t) t.resync (omega arith) (λ s h. record { lost = h; seen = tt }) (λ s h. h.ready) (resync_leads t checked None) in
    record { most = _; leads = leads_then (IsPiece t) _ _ (IsLost t) (IsLost t) (IsReady t) (IsFresh t) t.resync (end_text t) r k.leads }
