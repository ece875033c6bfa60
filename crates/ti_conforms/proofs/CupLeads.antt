-- The place where an effect leaves the cursor from rest; for each place, some state at rest has its cursor there.
use Rattle.std.proofs.Common.{◌≡◌, ℕ, ◌-◌, ◌<◌, inl, inr, ◌==◌, ◌&&◌, Bool, false, eq-eqb, true≢false, List, [], Result, Ok, Err, OnOk, IfErr, length, refl, sym, ap, ◌∙◌, subst, arith}
use Rattle.std.proofs.lemmas.List.{get_or-replicate, get_or_past, length-replicate}
use Rattle.std.specs.Prelude.{replicate, slice_index_or}
use Rattle.std.proofs.lemmas.Bool.{cases_lt}
use Rattle.vt_term.specs.Size.{IsSize}
use Rattle.vt_term.specs.Look.{Look, IsPrinted, space}
use Rattle.vt_term.specs.Grid.{look_at, uniform}
use Rattle.vt_term.specs.Screen.{State, IsOfSize, IsAtRest, reset_screen}
use Rattle.vt_term.specs.Text.{Splits}
use Rattle.vt_term.specs.Run as Run
use Rattle.vt_term.proofs.Runs.{run_keeps}
use Rattle.vt_term.proofs.Sequences.{empty_open}
use Rattle.vt_effects.specs.declared.effects.Effect.{Effect}
use Rattle.vt_effects.specs.declared.effects.Move.{Move}
use Rattle.vt_effects.specs.declared.starts.Start.{Start}
use Rattle.vt_effects.specs.Start.{Allows}
use Rattle.vt_effects.specs.Effect.{moved, applied}
use Rattle.vt_effects.specs.Sound.{RunsAs}
use Rattle.vt_effects.proofs.MoveFacts.{moved_in_order}
use Rattle.ti_conforms.specs.CupReach as spec
use Rattle.ti_conforms.specs.declared.cup_reach.MissKind.{MissKind}
use Rattle.ti_conforms.specs.declared.cup_reach.MissKind.TheVariants.{Parm, Token, Misses, Undecided, NoMemory}

-- a move that leads from both ends to one place leads there from everywhere between
pub between_ends : (way : Move) (count to : ℕ) → moved way 0 ≡ to → moved way (count - 1) ≡ to → spec.LeadsAll way count to
between_ends way count to low high from lt = omega (arith, low, high, moved_in_order way 0 from (omega arith), moved_in_order way from (count - 1) (omega (arith, lt)))

-- the cursor is on the screen
inside : (rows cols : ℕ) (s : State) → IsOfSize rows cols s → (s.screen.row < rows) × (s.screen.col < cols)
inside rows cols s size = (omega (arith, size.state.screen.row, size.rows), omega (arith, size.state.screen.col, size.cols))

-- the start allows every state at rest
rest_allowed : (rows cols : ℕ) (s : State) → IsOfSize rows cols s → IsAtRest s → Allows rows cols (spec.at_rest rows cols) s.screen
rest_allowed rows cols s size rest = record {
  screen = size.state.screen;
  rows = size.rows;
  cols = size.cols;
  row_from = omega arith;
  row_to = omega (arith, (inside rows cols s size).0);
  col_from = omega arith;
  col_to = omega (arith, (inside rows cols s size).1);
  pending = λ h. cc;
  margins = (rest.top, rest.bottom);
  autowrap = rest.autowrap;
  inserting = rest.inserting;
}

-- an effect that leads from everywhere to the place
pub effect_reaches : (rows cols : ℕ) (tokens : List (List ℕ)) (e : Effect) (row col : ℕ) → RunsAs rows cols (spec.at_rest rows cols) tokens e → spec.EndsThere rows cols e row col → spec.TokensReach rows cols tokens row col
effect_reaches rows cols tokens e row col says there bytes split before size rest =
    let runs : Run.Runs before bytes (record { screen = applied e before.screen; rest = [] }) = says before bytes rest.rest (rest_allowed rows cols before size rest) split in
    record {
      after = record { screen = applied e before.screen; rest = [] };
      runs = runs;
      size = run_keeps rows cols before _ bytes size runs;
      at_row = there.row_there before.screen.row (inside rows cols before size).0;
      at_col = there.col_there before.screen.col (inside rows cols before size).1;
    }

-- a state at rest with the cursor at this place
abbrev standing : ℕ → ℕ → ℕ → ℕ → State
standing rows cols row col = record { screen = record (reset_screen rows cols) { row = row; col = col }; rest = [] }

space_in_line : (cols j : ℕ) → slice_index_or (replicate cols space) j space ≡ space
space_in_line cols j = elim (cases_lt j cols) [
  | inl lt ↦ get_or-replicate cols j space space lt
  | inr le ↦ get_or_past (replicate cols space) j space (omega (arith, length-replicate cols space, le))
]

space_everywhere : (rows cols i j : ℕ) → look_at (uniform rows cols space) i j ≡ space
space_everywhere rows cols i j = elim (cases_lt i rows) [
  | inl lt ↦ ap (λ (l : List Look). slice_index_or l j space) (get_or-replicate rows i (replicate cols space) [] lt) ∙ space_in_line cols j
  | inr le ↦ ap (λ (l : List Look). slice_index_or l j space) (get_or_past (uniform rows cols space) i [] (omega (arith, length-replicate rows (replicate cols space), le)))
]

standing_of_size : (rows cols row col : ℕ) → IsSize rows cols → row < rows → col < cols → IsOfSize rows cols (standing rows cols row col)
standing_of_size rows cols row col size lt within = record {
  state = record {
    screen = record {
      size = size;
      lines = length-replicate rows (replicate cols space);
      columns = λ i below. ap (λ (l : List Look). length l) (get_or-replicate rows i (replicate cols space) [] below) ∙ length-replicate cols space;
      characters = λ i j. subst (λ (x : Look). IsPrinted x.byte) (sym (space_everywhere rows cols i j)) (omega arith, omega arith);
      row = lt;
      col = within;
      region = omega (arith, size.0);
      bottom = omega (arith, size.0);
    };
    rest = empty_open;
  };
  rows = refl;
  cols = refl;
}

standing_at_rest : (rows cols row col : ℕ) → IsSize rows cols → IsAtRest (standing rows cols row col)
standing_at_rest rows cols row col size = record { rest = refl; autowrap = refl; inserting = refl; top = refl; bottom = omega (arith, size.0); charset = refl }

-- an effect that leads from some cursor elsewhere
leaves : (rows cols : ℕ) (tokens : List (List ℕ)) (e : Effect) (row col from_row from_col : ℕ) → IsSize rows cols → RunsAs rows cols (spec.at_rest rows cols) tokens e
    → from_row < rows → from_col < cols → (moved e.row from_row ≡ row → moved e.col from_col ≡ col → ⊥) → (bytes : List ℕ) → Splits bytes tokens [] → spec.LeavesElsewhere rows cols bytes row col
leaves rows cols tokens e row col from_row from_col size says lt within apart bytes split =
    let stands : IsOfSize rows cols (standing rows cols from_row from_col) = standing_of_size rows cols from_row from_col size lt within in
    let rest : IsAtRest (standing rows cols from_row from_col) = standing_at_rest rows cols from_row from_col size in
    record {
      before = standing rows cols from_row from_col;
      size = stands;
      rest = rest;
      after = record { screen = applied e (standing rows cols from_row from_col).screen; rest = [] };
      runs = says (standing rows cols from_row from_col) bytes refl (rest_allowed rows cols _ stands rest) split;
      elsewhere = apart;
    }

pub effect_misses : (rows cols : ℕ) (tokens : List (List ℕ)) (e : Effect) (row col : ℕ) (kind : MissKind) → IsSize rows cols → RunsAs rows cols (spec.at_rest rows cols) tokens e
    → spec.EndsElsewhere rows cols e row col kind → spec.TokensMiss rows cols tokens row col kind
effect_misses rows cols tokens e row col Misses size says (inl m) bytes split = leaves rows cols tokens e row col m.from 0 size says m.within (omega (arith, size)) (λ a b. m.misses a) bytes split
effect_misses rows cols tokens e row col Misses size says (inr m) bytes split = leaves rows cols tokens e row col 0 m.from size says (omega (arith, size)) m.within (λ a b. m.misses b) bytes split
effect_misses rows cols tokens e row col Parm size says h bytes split = absurd h
effect_misses rows cols tokens e row col Token size says h bytes split = absurd h
effect_misses rows cols tokens e row col Undecided size says h bytes split = absurd h
effect_misses rows cols tokens e row col NoMemory size says h bytes split = absurd h

-- a last CUP that leads to another place
pub other_place : (rows cols : ℕ) (tokens : List (List ℕ)) (row col to_row to_col : ℕ) → IsSize rows cols → spec.TokensReach rows cols tokens to_row to_col → (to_row ≡ row → to_col ≡ col → ⊥)
    → spec.TokensMiss rows cols tokens row col Misses
other_place rows cols tokens row col to_row to_col size reach apart bytes split =
    let stands : IsOfSize rows cols (standing rows cols 0 0) = standing_of_size rows cols 0 0 size (omega (arith, size)) (omega (arith, size)) in
    let rest : IsAtRest (standing rows cols 0 0) = standing_at_rest rows cols 0 0 size in
    let run : Run.RunsTo rows cols (standing rows cols 0 0) bytes to_row to_col = reach bytes split (standing rows cols 0 0) stands rest in
    record {
      before = standing rows cols 0 0;
      size = stands;
      rest = rest;
      after = run.after;
      runs = run.runs;
      elsewhere = λ a b. apart (sym run.at_row ∙ a) (sym run.at_col ∙ b);
    }

-- a fact about an effect holds of the tokens whose record it is
pub effect_checked : (rows cols : ℕ) (tokens : List (List ℕ)) (e : Effect) (row col : ℕ) (start : Start) (r : Result (Unit {0}) MissKind) → start ≡ spec.at_rest rows cols → RunsAs rows cols start tokens e
    → OnOk r (spec.EndsThere rows cols e row col) → OnOk r (spec.TokensReach rows cols tokens row col)
effect_checked rows cols tokens e row col start (Ok _) is says there = effect_reaches rows cols tokens e row col (subst (λ (x : Start). RunsAs rows cols x tokens e) is says) there
effect_checked rows cols tokens e row col start (Err _) is says there = tt

pub effect_failed : (rows cols : ℕ) (tokens : List (List ℕ)) (e : Effect) (row col : ℕ) (start : Start) (r : Result (Unit {0}) MissKind) → IsSize rows cols → start ≡ spec.at_rest rows cols → RunsAs rows cols start tokens e
    → IfErr r (λ kind. spec.EndsElsewhere rows cols e row col kind) → IfErr r (λ kind. spec.TokensMiss rows cols tokens row col kind)
effect_failed rows cols tokens e row col start (Ok _) size is says there = tt
effect_failed rows cols tokens e row col start (Err kind) size is says there = effect_misses rows cols tokens e row col kind size (subst (λ (x : Start). RunsAs rows cols x tokens e) is says) there

-- two different places
pub told_apart : (a b c d : ℕ) → ((a == b) && (c == d)) ≡ false → a ≡ b → c ≡ d → ⊥
told_apart a b c d h e f = true≢false (sym (ap (λ (x : Bool). x && (c == d)) (eq-eqb a b e) ∙ eq-eqb c d f) ∙ h)
