-- A text whose record is the one that the table asks for is right.
use Rattle.std.proofs.Common.{◌≡◌, false, [], None, refl, ap, ◌∙◌}
use Rattle.vt_term.specs.Screen.{State, is_graphic}
use Rattle.vt_term.proofs.Runs.{runs_once}
use Rattle.vt_effects.specs.declared.effects.Effect.{Effect}
use Rattle.vt_effects.specs.declared.effects.Switch.TheVariants as switches
use Rattle.vt_effects.specs.Effect.{applied}
use Rattle.vt_effects.specs.Settings.{TellsSettings}
use Rattle.vt_effects.proofs.Sounds.{runs_right}
use Rattle.vt_effects.proofs.Sayings.{records_tell}
use Rattle.ti_rows.specs.Rows.{Looks, Row, Csr, Civis, Cnorm, Cvvis}
use Rattle.ti_rows.specs.Asked.{start_of, asked}
use Rattle.ti_rows.specs.Right.{sets_margins, sets_visible, RecordedIsRight, ActivatesFrom}
use Rattle.ti_rows.proofs.StartFacts.{never, starts_allowed}
use Rattle.ti_rows.proofs.WantFacts.{asked_is_wanted}

-- only rows that set margins or visibility are asked to change them
record Keeps (l : Looks) (row : Row) (e : Effect) : Type 0 where
  margins : sets_margins row ≡ false → (asked l row e).margins ≡ None
  visible : sets_visible row ≡ false → (asked l row e).visible ≡ switches.Kept

asked_keeps : (l : Looks) (row : Row) (e : Effect) → Keeps l row e
asked_keeps l (Csr top bottom) e = record { margins = λ h. never h; visible = λ h. refl }
asked_keeps l Civis e = record { margins = λ h. refl; visible = λ h. never h }
asked_keeps l Cnorm e = record { margins = λ h. refl; visible = λ h. never h }
asked_keeps l Cvvis e = record { margins = λ h. refl; visible = λ h. never h }
asked_keeps l row e = record { margins = λ h. refl; visible = λ h. refl }

pub recorded_is_right : RecordedIsRight
recorded_is_right rows cols l row bytes tokens e split h same = let told : TellsSettings rows tokens e = records_tell rows cols (start_of rows cols row) tokens e h in record {
  tokens = tokens;
  whole = split;
  ends = λ s rest start. record {
    after = record { screen = applied e s.screen; rest = [] };
    runs = runs_right rows cols (start_of rows cols row) tokens e h s bytes rest (starts_allowed rows cols row s.screen start) split;
    rest = refl;
    wanted = asked_is_wanted rows cols l row e same s.screen start;
  };
  tame = told.tame;
  margins = λ k. told.margins (ap (λ (f : Effect). f.margins) same ∙ (asked_keeps l row e).margins k);
  visible = λ k. told.visible (ap (λ (f : Effect). f.visible) same ∙ (asked_keeps l row e).visible k);
}

pub activates_from : ActivatesFrom
activates_from rows cols row bytes tokens e settled graphic split h active s t rest start is_settled runs =
    ap (λ (x : State). is_graphic x.screen.charset)
    (runs_once s (record { screen = applied e s.screen; rest = [] }) t bytes
    (runs_right rows cols (start_of rows cols row) tokens e h s bytes rest (starts_allowed rows cols row s.screen start) split) runs)
    ∙ active s.screen.charset is_settled
