-- The end of a text's run that a probe shows.
use Rattle.std.proofs.Common.{◌≡◌, ℕ, List, [], Some, refl}
use Rattle.vt_term.specs.Screen.{Screen}
use Rattle.vt_term.specs.Text.{Splits}
use Rattle.vt_effects.specs.Effect.{applied}
use Rattle.vt_effects.specs.Record.{record_of}
use Rattle.vt_effects.specs.declared.effects.Effect.{Effect}
use Rattle.vt_effects.proofs.Sounds.{runs_right}
use Rattle.ti_rows.specs.Asked.{no_marks, start_of}
use Rattle.ti_rows.specs.Starts.{Starts, IsFree}
use Rattle.ti_rows.specs.declared.rows.Looks.{Looks}
use Rattle.ti_rows.specs.declared.rows.Row.{Row}
use Rattle.ti_rows.specs.declared.rows.Row.TheVariants.{Sgr, Smso}
use Rattle.ti_rows.proofs.StartFacts.{starts_allowed}
use Rattle.ti_checker.specs.Alone.{ShowsAlone, ShowsBy}
use Rattle.ti_checker.specs.Breakage.{AgreeBefore, marks_after, ShownBreaks}
use Rattle.ti_checker.specs.First.{StandBefore}
use Rattle.ti_checker.specs.Probes.{screen_of}
use Rattle.ti_checker.specs.Taught.{IsTaught}
use Rattle.ti_checker.specs.declared.probes.Probe.{Probe}
use Rattle.ti_checker.proofs.Teaching.{agreeing}

agree_before : (rows cols : ℕ) (string : List ℕ) (row : Row) (taught looks : Looks) (s : Screen) → Starts rows cols row s → IsTaught rows cols string row taught → StandBefore rows cols looks string row → AgreeBefore row taught looks
agree_before rows cols string (Sgr a) taught looks s starts t stand = agreeing rows cols string looks s starts (Sgr a) taught t stand
agree_before rows cols string _ taught looks s starts t stand = tt

-- the probe without marks
abbrev bare : Probe → Probe
bare p = record p { look = no_marks }

bare_free : (rows cols : ℕ) (p : Probe) → IsFree rows cols (screen_of rows cols p) → IsFree rows cols (screen_of rows cols (bare p))
bare_free rows cols p f =
    let s = f.any.screen in
    record {
      any = record {
        screen = record { size = s.size; lines = s.lines; columns = s.columns; characters = s.characters; row = s.row; col = s.col; region = s.region; bottom = s.bottom };
        rows_are = f.any.rows_are;
        cols_are = f.any.cols_are;
        tame = record { autowrap = f.any.tame.autowrap; inserting = f.any.tame.inserting };
      };
      top = f.top;
      bottom = f.bottom;
    }

-- looks that show the one attribute of the row as the bytes do from starts without marks show it as the effect does
shown_by : (rows cols : ℕ) (row : Row) (bytes : List ℕ) (tokens : List (List ℕ)) (e : Effect) (p : Probe) (looks : Looks) → Splits bytes tokens [] → record_of rows cols (start_of rows cols row) tokens ≡ Some e
    → Starts rows cols row (screen_of rows cols p) → ShowsAlone rows cols row bytes looks → ShowsBy looks row (marks_after e.rendition no_marks)
shown_by rows cols (Sgr a) bytes tokens e p looks split recorded starts alone =
    let s : Screen = screen_of rows cols (bare p) in
    let free : IsFree rows cols s = bare_free rows cols p starts in
    alone s (applied e s) free refl (runs_right rows cols (start_of rows cols (Sgr a)) tokens e recorded (record { screen = s; rest = [] }) bytes refl (starts_allowed rows cols (Sgr a) s free) split)
shown_by rows cols Smso bytes tokens e p looks split recorded starts alone =
    let s : Screen = screen_of rows cols (bare p) in
    let free : IsFree rows cols s = bare_free rows cols p starts in
    alone s (applied e s) free refl (runs_right rows cols (start_of rows cols Smso) tokens e recorded (record { screen = s; rest = [] }) bytes refl (starts_allowed rows cols Smso s free) split)
shown_by rows cols _ bytes tokens e p looks split recorded starts alone = tt

pub shown_breaks : ShownBreaks
shown_breaks rows cols string taught row bytes tokens e p t split recorded shown = record {
  starts = shown.starts;
  after = applied e (screen_of rows cols p);
  runs = runs_right rows cols (start_of rows cols row) tokens e recorded (record { screen = screen_of rows cols p; rest = [] }) bytes refl (starts_allowed rows cols row (screen_of rows cols p) shown.starts) split;
  unwanted = λ looks stand alone w. shown.unwanted looks (agree_before rows cols string row taught looks (screen_of rows cols p) shown.starts t stand)
      (shown_by rows cols row bytes tokens e p looks split recorded shown.starts alone) w;
}
