-- The record of a string is right from every state of the start.
use Rattle.std.proofs.Common.{◌≤◌, drop, length, ◌≡◌, ℕ, ◌-◌, ◌==◌, nat_lt, min, Bool, true, false, if◌then◌else◌, List, [], ◌∷◌, Option, Some, refl, sym, ap, ◌∙◌, subst}
use Rattle.std.proofs.lemmas.List.{drop_all}
use Rattle.std.proofs.lemmas.Option.{option_and_then_some, same_Some}
use Rattle.vt_term.specs.Look.{Rendition}
use Rattle.vt_term.specs.Screen.{Screen}
use Rattle.vt_term.specs.Step.{act, steps}
use Rattle.vt_term.specs.Step as step
use Rattle.vt_term.specs.Run.{Runs}
use Rattle.vt_term.specs.Function as functions
use Rattle.vt_term.specs.Function.{CodeElement, G0, G1, ModeKind, Function, function_of}
use Rattle.vt_effects.specs.declared.effects.Move.{Move}
use Rattle.vt_effects.specs.declared.effects.Effect.{Effect}
use Rattle.vt_effects.specs.declared.starts.Start.{Start}
use Rattle.vt_effects.specs.Effect.{applied, unchanged}
use Rattle.vt_effects.specs.Start.{Allows}
use Rattle.vt_effects.specs.Sound.{StepsAs, RunsAs}
use Rattle.vt_effects.specs.Record as spec
use Rattle.vt_effects.specs.Record.{extended, all_extended, record_of, with_col, with_row}
use Rattle.vt_term.proofs.Runs.{text_runs}
use Rattle.vt_effects.proofs.MoveFacts.{given, not_found, IsBack}
use Rattle.vt_effects.proofs.Marks.{numbers_rendered, modes_follow, modes_stay, SamePlace}
use Rattle.vt_effects.proofs.Extensions.{IsGood, Right, col_back_right, col_forward_right, row_back_right, row_forward_right, to_col_right, column_right, line_right, position_right, tab_right}
use Rattle.vt_effects.proofs.Feeds.{fed_right, next_right, reversed_right}
use Rattle.vt_effects.proofs.Erasures.{count_right, line_part_right, display_part_right}

-- a token that always has a record
always : (rows cols : ℕ) (start : Start) (t : Function) (e f g : Effect) → Some f ≡ Some g → Right rows cols start t e f → Right rows cols start t e g
always rows cols start t e f g h r = given (λ w. Right rows cols start t e w) f g h r

either_margins : (b : Bool) (p e : Effect) (s u v : Screen) → u ≡ applied p s → v ≡ applied e s → (if b then u else v) ≡ applied (if b then p else e) s
either_margins true p e s u v h k = h
either_margins false p e s u v h k = k

margins_lead : (first last : ℕ) (e : Effect) (s : Screen) → act (functions.Margins first last) (applied e s) ≡ applied (spec.margins_set s.rows first last e) s
margins_lead first last e s = either_margins (nat_lt (first - 1) (if last == 0 then s.rows - 1 else min (last - 1) (s.rows - 1))) _ e s _ (applied e s) refl refl

either_good : (b : Bool) (start : Start) (p e : Effect) → IsGood start p → IsGood start e → IsGood start (if b then p else e)
either_good true start p e h k = h
either_good false start p e h k = k

margins_right : (rows cols : ℕ) (start : Start) (first last : ℕ) (e : Effect) → IsGood start e → Right rows cols start (functions.Margins first last) e (spec.margins_set rows first last e)
margins_right rows cols start first last e g = record {
  good = either_good (nat_lt (first - 1) (if last == 0 then rows - 1 else min (last - 1) (rows - 1))) start _ e (record { row = tt; col = tt }) g;
  leads = λ s a. margins_lead first last e s ∙ ap (λ (r : ℕ). applied (spec.margins_set r first last e) s) a.rows;
}

designated_right : (rows cols : ℕ) (start : Start) (set : CodeElement) (graphic : Bool) (e : Effect) → IsGood start e → Right rows cols start (functions.Designate set graphic) e (spec.designating set graphic e)
designated_right rows cols start G0 false e g = record { good = record { row = g.row; col = g.col }; leads = λ s a. refl }
designated_right rows cols start G0 true e g = record { good = record { row = g.row; col = g.col }; leads = λ s a. refl }
designated_right rows cols start G1 false e g = record { good = record { row = g.row; col = g.col }; leads = λ s a. refl }
designated_right rows cols start G1 true e g = record { good = record { row = g.row; col = g.col }; leads = λ s a. refl }

rendered_right : (rows cols : ℕ) (start : Start) (ns : List (Option ℕ)) (e : Effect) → IsGood start e
    → Right rows cols start (functions.SelectRendition ns) e (record e { rendition = spec.all_renderings ns e.rendition })
rendered_right rows cols start ns e g = record {
  good = record { row = g.row; col = g.col };
  leads = λ s a. ap (λ (r : Rendition). record (applied e s) { rendition = r }) (sym (numbers_rendered ns e.rendition s.rendition));
}

modes_right : (rows cols : ℕ) (start : Start) (kind : ModeKind) (on : Bool) (ns : List (Option ℕ)) (e f : Effect) → IsGood start e → spec.modes_set kind on ns e ≡ Some f → (s : Screen) → Allows rows cols start s
    → step.all_modes_set kind on ns (applied e s) ≡ applied f s
modes_right rows cols start kind on ns e f g h s a = modes_follow kind on ns e f s a.autowrap a.inserting h

same_place : (start : Start) (e f : Effect) → SamePlace e f → IsGood start e → IsGood start f
same_place start e f h g = record { row = subst (λ (m : Move). IsBack m start.row_min) (sym h.row) g.row; col = subst (λ (m : Move). IsBack m start.col_min) (sym h.col) g.col }

pub extended_right : (rows cols : ℕ) (start : Start) (t : Function) (e f : Effect) → IsGood start e → extended rows cols start t e ≡ Some f → Right rows cols start t e f
extended_right rows cols start functions.LineFeed e f g h = fed_right rows cols start e f g h
extended_right rows cols start functions.CarriageReturn e f g h = always rows cols start functions.CarriageReturn e _ f h (to_col_right rows cols start functions.CarriageReturn 0 e (λ s. 0) g (λ s. refl) (λ s a. refl))
extended_right rows cols start functions.Backspace e f g h = col_back_right rows cols start functions.Backspace 1 e f g (λ s. refl) h
extended_right rows cols start functions.Tab e f g h = tab_right rows cols start e.col e f g refl h
extended_right rows cols start functions.ShiftOut e f g h = always rows cols start functions.ShiftOut e _ f h (record { good = record { row = g.row; col = g.col }; leads = λ s a. refl })
extended_right rows cols start functions.ShiftIn e f g h = always rows cols start functions.ShiftIn e _ f h (record { good = record { row = g.row; col = g.col }; leads = λ s a. refl })
extended_right rows cols start functions.ReverseIndex e f g h = reversed_right rows cols start e f g h
extended_right rows cols start functions.NextLine e f g h = next_right rows cols start e f g h
extended_right rows cols start (functions.CursorUp n) e f g h = row_back_right rows cols start n e f g h
extended_right rows cols start (functions.CursorDown n) e f g h = row_forward_right rows cols start n e f g h
extended_right rows cols start (functions.CursorForward n) e f g h = col_forward_right rows cols start n e f g h
extended_right rows cols start (functions.CursorBack n) e f g h = col_back_right rows cols start (functions.CursorBack n) n e f g (λ s. refl) h
extended_right rows cols start (functions.CursorColumn col) e f g h = always rows cols start (functions.CursorColumn col) e _ f h (column_right rows cols start col e g)
extended_right rows cols start (functions.CursorRow row) e f g h = always rows cols start (functions.CursorRow row) e _ f h (line_right rows cols start row e g)
extended_right rows cols start (functions.CursorPosition row col) e f g h = always rows cols start (functions.CursorPosition row col) e _ f h (position_right rows cols start row col e g)
extended_right rows cols start (functions.EraseLine part) e f g h = line_part_right rows cols start part e f g h
extended_right rows cols start (functions.EraseDisplay part) e f g h = display_part_right rows cols start part e f g h
extended_right rows cols start (functions.EraseCells n) e f g h = count_right rows cols start n e f g h
extended_right rows cols start (functions.Margins first last) e f g h = always rows cols start (functions.Margins first last) e _ f h (margins_right rows cols start first last e g)
extended_right rows cols start (functions.Designate set graphic) e f g h = always rows cols start (functions.Designate set graphic) e _ f h (designated_right rows cols start set graphic e g)
extended_right rows cols start (functions.SelectRendition ns) e f g h = always rows cols start (functions.SelectRendition ns) e _ f h (rendered_right rows cols start ns e g)
extended_right rows cols start (functions.Modes kind on ns) e f g h = record {
  good = same_place start e f (modes_stay kind on ns e f h) g;
  leads = λ s a. modes_right rows cols start kind on ns e f g h s a;
}
extended_right rows cols start functions.Ignored e f g h = always rows cols start functions.Ignored e _ f h (record { good = g; leads = λ s a. refl })
extended_right rows cols start (functions.Print b) e f g h = not_found f h
extended_right rows cols start (functions.InsertCells n) e f g h = not_found f h
extended_right rows cols start (functions.DeleteCells n) e f g h = not_found f h
extended_right rows cols start (functions.InsertLines n) e f g h = not_found f h
extended_right rows cols start (functions.DeleteLines n) e f g h = not_found f h
extended_right rows cols start (functions.ScrollUp n) e f g h = not_found f h
extended_right rows cols start (functions.ScrollDown n) e f g h = not_found f h

all_right : (rows cols : ℕ) (start : Start) (tokens : List (List ℕ)) (e f : Effect) → IsGood start e → all_extended rows cols start tokens e ≡ Some f → (s : Screen) → Allows rows cols start s → steps tokens (applied e s) ≡ applied f s
all_right rows cols start [] e f g h s a = ap (λ (x : Effect). applied x s) (same_Some e f h)
all_right rows cols start (t ∷ ts) e f g h s a = option_and_then_some (all_extended rows cols start ts) (extended rows cols start (function_of t) e) f h
    (λ m found left.
    let one : Right rows cols start (function_of t) e m = extended_right rows cols start (function_of t) e m g found in
    ap (λ (x : Screen). steps ts x) (one.leads s a) ∙ all_right rows cols start ts m f one.good left s a)

-- the steps of all tokens
pub record_right : (rows cols : ℕ) (start : Start) (tokens : List (List ℕ)) (f : Effect) → record_of rows cols start tokens ≡ Some f → StepsAs rows cols start tokens f
record_right rows cols start tokens f h s a = all_right rows cols start tokens unchanged f (record { row = tt; col = tt }) h s a

-- the run of every text of these tokens
pub runs_right : (rows cols : ℕ) (start : Start) (tokens : List (List ℕ)) (f : Effect) → record_of rows cols start tokens ≡ Some f → RunsAs rows cols start tokens f
runs_right rows cols start tokens f h s text rest a splits =
    subst (λ (x : Screen). Runs s text (record { screen = x; rest = [] })) (record_right rows cols start tokens f h s.screen a) (text_runs s text tokens rest splits)

-- when no token is left, the effect is the record
pub all_gone : (rows cols : ℕ) (start : Start) (tokens : List (List ℕ)) (n : ℕ) (e : Effect) → length tokens ≤ n → all_extended rows cols start (drop n tokens) e ≡ all_extended rows cols start tokens unchanged → record_of rows cols start tokens ≡ Some e
all_gone rows cols start tokens n e h k = sym k ∙ ap (λ (ts : List (List ℕ)). all_extended rows cols start ts e) (drop_all n tokens h)
