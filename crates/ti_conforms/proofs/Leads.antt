-- Lines, one after another, lead from a lost state to rest.
use Rattle.std.proofs.Common.{◌≡◌, ℕ, ◌+◌, ◌-◌, ◌<◌, Bool, true, false, if◌then◌else◌, List, [], ◌∷◌, ◌++◌, Option, refl, sym, ap, ◌∙◌, subst, arith}
use Rattle.vt_term.specs.Look.{Rendition, plain, space, blank}
use Rattle.vt_term.specs.Grid.{look_at}
use Rattle.grids.proofs.Drawings.{cell_at-drawn}
use Rattle.vt_term.specs.Screen.{State, Screen, IsScreen, IsOfSize, Charset, is_graphic}
use Rattle.vt_term.specs.Step.{steps}
use Rattle.vt_term.specs.Run.{Runs}
use Rattle.vt_term.proofs.Runs.{text_runs, runs_append, runs_nothing, run_keeps, escape_drops}
use Rattle.vt_term.proofs.Sequences.{empty_open}
use Rattle.vt_effects.specs.declared.effects.Effect.{Effect}
use Rattle.vt_effects.specs.declared.effects.Erasure.{Erasure}
use Rattle.vt_effects.specs.declared.effects.Rendering.{Rendering}
use Rattle.vt_effects.specs.declared.effects.Region.{Region}
use Rattle.vt_effects.specs.declared.effects.Scroll.{Scroll}
use Rattle.vt_effects.specs.declared.effects.Sets.{Sets}
use Rattle.vt_effects.specs.declared.effects.Switch.{Switch}
use Rattle.vt_effects.specs.declared.effects.Move.{Move}
use Rattle.vt_effects.specs.declared.starts.Start.{Start}
use Rattle.vt_effects.specs.Effect.{rendered, designated, switched, top_of, bottom_of, applied, erased, scrolled, moved}
use Rattle.vt_effects.specs.Start.{Allows}
use Rattle.vt_effects.proofs.Sounds.{record_right}
use Rattle.vt_effects.specs.Settings.{IsTame, SetsAs}
use Rattle.ti_conforms.specs.Lost.{IsWhole, IsCleared}
use Rattle.vt_term.specs.Ends.{Ends}
use Rattle.ti_conforms.specs.Lines.{HasLine, free_start, IsQuiet, Clears, MayWiden, Absent, Present}
use Rattle.ti_conforms.specs.Resync.{Settled, Settles, ResyncLeads}
use Rattle.vt_effects.proofs.Sayings.{records_tell}

after_line : State → List (List ℕ) → State
after_line s tokens = record { screen = steps tokens s.screen; rest = [] }

line_runs : (rows cols : ℕ) (start : Start) (bytes : List ℕ) (e : Effect) (l : HasLine rows cols start bytes e) (s : State) → s.rest ≡ [] → Runs s bytes (record { screen = steps l.tokens s.screen; rest = [] })
line_runs rows cols start bytes e l s rest = text_runs s bytes l.tokens rest l.whole

line_sets : (rows cols : ℕ) (start : Start) (bytes : List ℕ) (e : Effect) (l : HasLine rows cols start bytes e) (s : State) → IsOfSize rows cols s → IsTame s.screen → SetsAs e s.screen (steps l.tokens s.screen)
line_sets rows cols start bytes e l s size tame = (records_tell rows cols start l.tokens e l.recorded).settings s.screen size.rows tame

line_keeps : (rows cols : ℕ) (start : Start) (bytes : List ℕ) (e : Effect) (l : HasLine rows cols start bytes e) (s : State) → s.rest ≡ [] → IsOfSize rows cols s → IsOfSize rows cols (record { screen = steps l.tokens s.screen; rest = [] })
line_keeps rows cols start bytes e l s rest size = run_keeps rows cols s (record { screen = steps l.tokens s.screen; rest = [] }) bytes size (line_runs rows cols start bytes e l s rest)

pub quiet_settles : (rows cols : ℕ) (start : Start) (bytes : List ℕ) (e : Effect) → HasLine rows cols start bytes e → IsQuiet e → Settles rows cols bytes (λ r. rendered e.rendition r) (λ c. designated e.charset c)
quiet_settles rows cols start bytes e l q s rest size tame =
    let sets : SetsAs e s.screen (steps l.tokens s.screen) = line_sets rows cols start bytes e l s size tame in
    record {
      after = record { screen = steps l.tokens s.screen; rest = [] };
      runs = line_runs rows cols start bytes e l s rest;
      there = record {
        rest = refl;
        size = line_keeps rows cols start bytes e l s rest size;
        tame = sets.tame;
        rendition = sets.rendition;
        charset = sets.charset;
        visible = sets.visible ∙ ap (λ (v : Switch). switched v s.screen.visible) q.visible;
        margins = record {
          top = sets.top ∙ ap (λ (r : Option Region). top_of r s.screen.top) q.margins;
          bottom = sets.bottom ∙ ap (λ (r : Option Region). bottom_of r s.screen.bottom) q.margins;
        };
      };
    }

pub nothing_settles : (rows cols : ℕ) → Settles rows cols [] (λ r. r) (λ c. c)
nothing_settles rows cols s rest size tame = record {
  after = s;
  runs = runs_nothing s size.state.rest;
  there = record { rest = rest; size = size; tame = tame; rendition = refl; charset = refl; visible = refl; margins = record { top = refl; bottom = refl } };
}

pub settles_then : (rows cols : ℕ) (a b : List ℕ) (Q R : Rendition → Rendition) (B C : Charset → Charset) → Settles rows cols a Q B → Settles rows cols b R C → Settles rows cols (a ++ b) (λ r. R (Q r)) (λ c. C (B c))
settles_then rows cols a b Q R B C h k s rest size tame =
    let x = h s rest size tame in
    let y = k x.after x.there.rest x.there.size x.there.tame in
    record {
      after = y.after;
      runs = runs_append s x.after y.after a b x.runs y.runs;
      there = record {
        rest = y.there.rest;
        size = y.there.size;
        tame = y.there.tame;
        rendition = y.there.rendition ∙ ap R x.there.rendition;
        charset = y.there.charset ∙ ap C x.there.charset;
        visible = y.there.visible ∙ x.there.visible;
        margins = record { top = y.there.margins.top ∙ x.there.margins.top; bottom = y.there.margins.bottom ∙ x.there.margins.bottom };
      };
    }

-- with whole margins before `clear`
pub record IsReady (rows cols : ℕ) (c : Charset) (visible : Bool) (t : State) : Type 0 where
  pub rest : t.rest ≡ []
  pub size : IsOfSize rows cols t
  pub tame : IsTame t.screen
  pub rendition : t.screen.rendition ≡ plain
  pub charset : t.screen.charset ≡ c
  pub visible_is : t.screen.visible ≡ visible
  pub margins : IsWhole t.screen

widened : (rows cols : ℕ) (sets_margins : Bool) (csr : List ℕ) → MayWiden rows cols csr sets_margins → (s x : State) (r : Rendition) (c : Charset) → (sets_margins ≡ false → IsWhole s.screen) → s.screen.rows ≡ rows
    → r ≡ plain → Settled rows cols r c s x → Ends x csr (IsReady rows cols c s.screen.visible)
widened rows cols _ csr (Absent none) s x r c whole height makes_plain k =
    let w : IsWhole s.screen = whole refl in
    record {
      after = x;
      runs = subst (λ (l : List ℕ). Runs x l x) (sym none) (runs_nothing x k.size.state.rest);
      there = record {
        rest = k.rest;
        size = k.size;
        tame = k.tame;
        rendition = k.rendition ∙ makes_plain;
        charset = k.charset;
        visible_is = k.visible;
        margins = record { top = k.margins.top ∙ w.top; bottom = ap (λ (n : ℕ). n + 1) k.margins.bottom ∙ (w.bottom ∙ (height ∙ sym k.size.rows)) };
      };
    }
widened rows cols _ csr (Present start d m sets) s x r c whole height makes_plain k =
    let t : State = record { screen = steps m.tokens x.screen; rest = [] } in
    let after_csr : SetsAs d x.screen t.screen = line_sets rows cols start csr d m x k.size k.tame in
    let sized : IsOfSize rows cols t = line_keeps rows cols start csr d m x k.rest k.size in
    let bottom : t.screen.bottom ≡ rows - 1 = after_csr.bottom ∙ ap (λ (r : Option Region). bottom_of r x.screen.bottom) sets.margins in
    record {
      after = t;
      runs = line_runs rows cols start csr d m x k.rest;
      there = record {
        rest = refl;
        size = sized;
        tame = after_csr.tame;
        rendition = after_csr.rendition ∙ (ap (λ (r : Rendering). rendered r x.screen.rendition) sets.rendition ∙ (k.rendition ∙ makes_plain));
        charset = after_csr.charset ∙ (ap (λ (c : Sets). designated c x.screen.charset) sets.charset ∙ k.charset);
        visible_is = after_csr.visible ∙ (ap (λ (v : Switch). switched v x.screen.visible) sets.visible ∙ k.visible);
        margins = record {
          top = after_csr.top ∙ ap (λ (r : Option Region). top_of r x.screen.top) sets.margins;
          bottom = omega (arith, bottom, sized.rows, sized.state.screen.row);
        };
      };
    }

-- every cell is blank after the whole screen was erased
all_blank : (rows cols : ℕ) (e : Effect) (t : Screen) → IsScreen t → t.rows ≡ rows → t.cols ≡ cols → Clears e → t.rendition ≡ plain → (i j : ℕ) → i < rows → j < cols → look_at (applied e t).grid i j ≡ space
all_blank rows cols e t h r c clears p i j li lj =
    ap (λ (x : Scroll). look_at (scrolled x t.top t.bottom (blank t.rendition) (erased e.erasure t.row t.col (blank t.rendition) t.grid)) i j) clears.scroll
    ∙ ap (λ (x : Erasure). look_at (erased x t.row t.col (blank t.rendition) t.grid) i j) clears.erasure
    ∙ cell_at-drawn (λ i j old. if true then blank t.rendition else old) space t.grid i j (omega (arith, h.columns i (omega (arith, r)), c))
    ∙ ap (λ (x : Rendition). blank x) p

free_allows : (rows cols : ℕ) (t : State) → IsOfSize rows cols t → IsTame t.screen → IsWhole t.screen → Allows rows cols (free_start rows cols) t.screen
free_allows rows cols t size tame whole = record {
  screen = size.state.screen;
  rows = size.rows;
  cols = size.cols;
  row_from = omega arith;
  row_to = omega (arith, size.state.screen.row, size.rows);
  col_from = omega arith;
  col_to = omega (arith, size.state.screen.col, size.cols);
  pending = λ e. absurd (cc);
  margins = (whole.top, whole.bottom);
  autowrap = tame.autowrap;
  inserting = tame.inserting;
}

cleared : (rows cols : ℕ) (clear : List ℕ) (e : Effect) (l : HasLine rows cols (free_start rows cols) clear e) → Clears e → (c : Charset) (visible : Bool) (t : State) → is_graphic c ≡ false → IsReady rows cols c visible t
    → Ends t clear (IsCleared rows cols visible)
cleared rows cols clear e l clears c visible t quiet k =
    let u : State = record { screen = steps l.tokens t.screen; rest = [] } in
    let same : steps l.tokens t.screen ≡ applied e t.screen = record_right rows cols (free_start rows cols) l.tokens e l.recorded t.screen (free_allows rows cols t k.size k.tame k.margins) in
    let sets : SetsAs e t.screen u.screen = line_sets rows cols (free_start rows cols) clear e l t k.size k.tame in
    let sized : IsOfSize rows cols u = line_keeps rows cols (free_start rows cols) clear e l t k.rest k.size in
    let bottom : u.screen.bottom ≡ t.screen.bottom = sets.bottom ∙ ap (λ (r : Option Region). bottom_of r t.screen.bottom) clears.margins in
    record {
      after = u;
      runs = line_runs rows cols (free_start rows cols) clear e l t k.rest;
      there = record {
        sized = sized;
        rest = record {
          rest = refl;
          autowrap = sets.tame.autowrap;
          inserting = sets.tame.inserting;
          top = sets.top ∙ (ap (λ (r : Option Region). top_of r t.screen.top) clears.margins ∙ k.margins.top);
          bottom = ap (λ (n : ℕ). n + 1) bottom ∙ (k.margins.bottom ∙ (k.size.rows ∙ sym sized.rows));
          charset = ap (λ (c : Charset). is_graphic c) (sets.charset ∙ (ap (λ (c : Sets). designated c t.screen.charset) clears.charset ∙ k.charset)) ∙ quiet;
        };
        cells = λ i j li lj. ap (λ (z : Screen). look_at z.grid i j) same ∙ all_blank rows cols e t.screen k.size.state.screen k.size.rows k.size.cols clears k.rendition i j li lj;
        row = ap (λ (z : Screen). z.row) same ∙ ap (λ (w : Move). moved w t.screen.row) clears.row;
        col = ap (λ (z : Screen). z.col) same ∙ ap (λ (w : Move). moved w t.screen.col) clears.col;
        pending = ap (λ (z : Screen). z.pending) same ∙ ap (λ (b : Bool). if b then false else t.screen.pending) clears.pending;
        rendition = sets.rendition ∙ (ap (λ (r : Rendering). rendered r t.screen.rendition) clears.rendition ∙ k.rendition);
        visible = sets.visible ∙ (ap (λ (v : Switch). switched v t.screen.visible) clears.visible ∙ k.visible_is);
      };
    }

pub resync_leads : ResyncLeads
resync_leads rows cols sets_margins shows front csr clear more R C reached e begins f makes_plain quiet widens l clears s lost =
    let empty : State = record s { rest = [] } in
    let sized : IsOfSize rows cols empty = record { state = record { screen = lost.sized.state.screen; rest = empty_open }; rows = lost.sized.rows; cols = lost.sized.cols } in
    let x = f empty refl sized lost.tame in
    let y = widened rows cols sets_margins csr widens empty x.after (R s.screen.rendition) (C s.screen.charset) lost.margins lost.sized.rows (makes_plain s.screen.rendition) x.there in
    let z = cleared rows cols clear e l clears (C s.screen.charset) s.screen.visible y.after (quiet s.screen.charset lost.reached) y.there in
    let whole : Runs empty (front ++ (csr ++ clear)) z.after = runs_append empty x.after z.after front (csr ++ clear) x.runs (runs_append x.after y.after z.after csr clear y.runs z.runs) in
    let escaped : Runs s (27 ∷ more) z.after = escape_drops s z.after more lost.sized.state.rest (subst (λ (l : List ℕ). Runs empty l z.after) begins whole) in
    record {
      after = z.after;
      runs = subst (λ (l : List ℕ). Runs s l z.after) (sym begins) escaped;
      there = z.there;
    }
