-- The settings after a record: for each function by itself, and then for all tokens.
use Rattle.std.proofs.Common.{◌≡◌, ℕ, ◌-◌, ◌==◌, ◌&&◌, nat_lt, min, Bool, true, false, if◌then◌else◌, List, [], ◌∷◌, Option, Some, None, refl, sym, ap, ◌∙◌, subst}
use Rattle.std.specs.Option.{unwrap_or}
use Rattle.std.proofs.lemmas.Option.{option_and_then_some, none-some}
use Rattle.vt_term.specs.Look.{Rendition}
use Rattle.vt_term.specs.Screen.{Screen, Charset}
use Rattle.vt_term.specs.Step.{act, step, steps}
use Rattle.vt_term.specs.Step as step
use Rattle.vt_term.specs.Function as functions
use Rattle.vt_term.specs.Function.{CodeElement, G0, G1, ModeKind, Standard, Private, Function, function_of}
use Rattle.vt_effects.specs.declared.effects.Move.TheVariants as moves
use Rattle.vt_effects.specs.declared.effects.Erasure.TheVariants as erasures
use Rattle.vt_effects.specs.declared.effects.Switch.TheVariants as switches
use Rattle.vt_effects.specs.declared.effects.Switch.{Switch}
use Rattle.vt_effects.specs.declared.effects.Move.{Move}
use Rattle.vt_effects.specs.declared.effects.Rendering.{Rendering}
use Rattle.vt_effects.specs.declared.effects.Effect.{Effect}
use Rattle.vt_effects.specs.declared.effects.Region.{Region}
use Rattle.vt_effects.specs.declared.starts.Start.{Start}
use Rattle.vt_effects.specs.Effect.{unchanged, rendered, designated, switched, top_of, bottom_of}
use Rattle.vt_effects.specs.Record as spec
use Rattle.vt_effects.specs.Record.{extended, all_extended}
use Rattle.vt_effects.specs.Settings.{IsTame, SetsAs, SameMargins, EachTame, EachKeepsMargins, EachKeepsVisible, RecordsTellSettings}
use Rattle.vt_effects.proofs.MoveFacts.{chosen, given, not_found}
use Rattle.vt_effects.proofs.Marks.{numbers_rendered}
use Rattle.vt_effects.proofs.Settlements.{Same, Says, says_kept, says_given, says_if, says_then, alike, col_alike, row_alike, same_given, same_found, same_row, same_fed, same_reversed, same_tab, same_screen, same_cells, same_home, goes_keeps, erased_keeps, fed_keeps, next_keeps, reversed_keeps}

on_kept : switches.On ≡ switches.Kept → ⊥
on_kept h = cc

off_kept : switches.Off ≡ switches.Kept → ⊥
off_kept h = cc

-- margins
none_set : {G : Type 0} (r : Region) → Some r ≡ None → G
none_set r h = absurd (none-some r (sym h))

either_rows : (b : Bool) (s x y : Screen) → x.rows ≡ s.rows → y.rows ≡ s.rows → (if b then x else y).rows ≡ s.rows
either_rows true s x y h k = h
either_rows false s x y h k = k

either_tame : (b : Bool) (x y : Screen) → IsTame x → IsTame y → IsTame (if b then x else y)
either_tame true x y h k = h
either_tame false x y h k = k

either_seen : (b : Bool) (s x y : Screen) → x.visible ≡ s.visible → y.visible ≡ s.visible → (if b then x else y).visible ≡ s.visible
either_seen true s x y h k = h
either_seen false s x y h k = k

either_sets : (b : Bool) (p e : Effect) (s u v : Screen) → SetsAs p s u → SetsAs e s v → SetsAs (if b then p else e) s (if b then u else v)
either_sets true p e s u v h k = h
either_sets false p e s u v h k = k

either_before : (b : Bool) (p d : Effect) → p.visible ≡ d.visible → (if b then p else d).visible ≡ switches.Kept → d.visible ≡ switches.Kept
either_before true p d h e = sym h ∙ e
either_before false p d h e = e

margins_before : (b : Bool) (p d : Effect) (r : Region) → p.margins ≡ Some r → (if b then p else d).margins ≡ None → d.margins ≡ None
margins_before true p d r e h = none_set r (sym e ∙ h)
margins_before false p d r e h = h

margins_stay : (b : Bool) (p d : Effect) (r : Region) (x s : Screen) → p.margins ≡ Some r → (if b then p else d).margins ≡ None → SameMargins s (if b then x else s)
margins_stay true p d r x s e h = none_set r (sym e ∙ h)
margins_stay false p d r x s e h = record { top = refl; bottom = refl }

margins_sets : (first last : ℕ) (e : Effect) (s t : Screen) → SetsAs e s t → SetsAs (spec.margins_set t.rows first last e) s (step.margins_set first last t)
margins_sets first last e s t h = either_sets (nat_lt (first - 1) (if last == 0 then t.rows - 1 else min (last - 1) (t.rows - 1))) _ e s _ t
    (record { rendition = h.rendition; charset = h.charset; visible = h.visible; top = refl; bottom = refl; tame = record { autowrap = h.tame.autowrap; inserting = h.tame.inserting } }) h

-- the test that DECSTBM makes of its two numbers
abbrev acts : ℕ → ℕ → ℕ → Bool
acts rows first last = nat_lt (first - 1) (if last == 0 then rows - 1 else min (last - 1) (rows - 1))

margins_said : (rows first last : ℕ) (d : Effect) → Says rows (step.margins_set first last) d (spec.margins_set rows first last d)
margins_said rows first last d = record {
  rows_stay = λ s. either_rows (acts s.rows first last) s _ s refl refl;
  sets = λ s t z h. subst (λ (r : ℕ). SetsAs (spec.margins_set r first last d) s (step.margins_set first last t)) z (margins_sets first last d s t h);
  tame = λ s h. either_tame (acts s.rows first last) _ s (record { autowrap = h.autowrap; inserting = h.inserting }) h;
  margins = λ n. record {
    before = margins_before (acts rows first last) _ d _ refl n;
    same = λ s z. margins_stay (acts s.rows first last) _ d _ _ s refl (subst (λ (r : ℕ). (spec.margins_set r first last d).margins ≡ None) (sym z) n);
  };
  visible = λ n. record {
    before = either_before (acts rows first last) _ d refl n;
    same = λ s. either_seen (acts s.rows first last) s _ s refl refl;
  };
}

-- modes
autowrap_said : (rows : ℕ) (d : Effect) → Says rows (λ s. record s { autowrap = true; pending = s.pending && true }) d d
autowrap_said rows d = record {
  rows_stay = λ s. refl;
  sets = λ s t z h. record { rendition = h.rendition; charset = h.charset; visible = h.visible; top = h.top; bottom = h.bottom; tame = record { autowrap = refl; inserting = h.tame.inserting } };
  tame = λ s h. record { autowrap = refl; inserting = h.inserting };
  margins = λ n. record { before = n; same = λ s z. record { top = refl; bottom = refl } };
  visible = λ n. record { before = n; same = λ s. refl };
}

replacing_said : (rows : ℕ) (d : Effect) → Says rows (λ s. record s { inserting = false }) d d
replacing_said rows d = record {
  rows_stay = λ s. refl;
  sets = λ s t z h. record { rendition = h.rendition; charset = h.charset; visible = h.visible; top = h.top; bottom = h.bottom; tame = record { autowrap = h.tame.autowrap; inserting = refl } };
  tame = λ s h. record { autowrap = h.autowrap; inserting = refl };
  margins = λ n. record { before = n; same = λ s z. record { top = refl; bottom = refl } };
  visible = λ n. record { before = n; same = λ s. refl };
}

-- the cursor is shown or hidden, whatever it was
switch_said : (rows : ℕ) (on : Bool) (to : Switch) (d : Effect) → ((was : Bool) → switched to was ≡ on) → (to ≡ switches.Kept → ⊥) → Says rows (λ s. record s { visible = on }) d (record d { visible = to })
switch_said rows on to d is changes = record {
  rows_stay = λ s. refl;
  sets = λ s t z h. record { rendition = h.rendition; charset = h.charset; visible = sym (is s.visible); top = h.top; bottom = h.bottom; tame = record { autowrap = h.tame.autowrap; inserting = h.tame.inserting } };
  tame = λ s h. record { autowrap = h.autowrap; inserting = h.inserting };
  margins = λ n. record { before = n; same = λ s z. record { top = refl; bottom = refl } };
  visible = λ n. absurd (changes n);
}

shown_said : (rows : ℕ) (on : Bool) (d : Effect) → Says rows (λ s. record s { visible = on }) d (record d { visible = if on then switches.On else switches.Off })
shown_said rows true d = switch_said rows true switches.On d (λ was. refl) on_kept
shown_said rows false d = switch_said rows false switches.Off d (λ was. refl) off_kept

-- nothing changes
nothing_said : (rows : ℕ) (d : Effect) → Says rows (λ s. s) d d
nothing_said rows d = says_kept rows (λ s. s) d d (λ t. record { rows = refl; rendition = refl; charset = refl; visible = refl; top = refl; bottom = refl; autowrap = refl; inserting = refl }) (alike d)

mode_said : (rows : ℕ) (kind : ModeKind) (on : Bool) (n : ℕ) (d g : Effect) → spec.mode_set kind on n d ≡ Some g → Says rows (λ s. step.mode_set kind on n s) d g
mode_said rows Private true n d g h = says_if rows (n == 7) _ _ _ _ d g h (λ i. says_given rows _ d d g i (autowrap_said rows d))
    (λ i. says_if rows (n == 25) _ _ _ _ d g i (λ j. says_given rows _ d _ g j (shown_said rows true d)) (λ j. says_given rows _ d d g j (nothing_said rows d)))
mode_said rows Private false n d g h = says_if rows (n == 7) _ _ _ _ d g h (λ i. not_found g i)
    (λ i. says_if rows (n == 25) _ _ _ _ d g i (λ j. says_given rows _ d _ g j (shown_said rows false d)) (λ j. says_given rows _ d d g j (nothing_said rows d)))
mode_said rows Standard true n d g h = says_if rows (n == 4) _ _ _ _ d g h (λ i. not_found g i) (λ i. says_given rows _ d d g i (nothing_said rows d))
mode_said rows Standard false n d g h = says_if rows (n == 4) _ _ _ _ d g h (λ i. says_given rows _ d d g i (replacing_said rows d)) (λ i. says_given rows _ d d g i (nothing_said rows d))

modes_said : (rows : ℕ) (kind : ModeKind) (on : Bool) (ns : List (Option ℕ)) (d g : Effect) → spec.modes_set kind on ns d ≡ Some g → Says rows (λ s. step.all_modes_set kind on ns s) d g
modes_said rows kind on [] d g h = says_given rows _ d d g h (nothing_said rows d)
modes_said rows kind on (n ∷ ns) d g h = option_and_then_some (spec.modes_set kind on ns) (spec.mode_set kind on (unwrap_or n 0) d) g h
    (λ m found left. says_then rows (λ s. step.mode_set kind on (unwrap_or n 0) s) (λ s. step.all_modes_set kind on ns s) d m g (mode_said rows kind on (unwrap_or n 0) d m found) (modes_said rows kind on ns m g left))

-- character sets and rendition
sets_said : (rows : ℕ) (a : Charset → Charset) (d g : Effect) → ((s t : Screen) → SetsAs d s t → SetsAs g s (record t { charset = a t.charset })) → g.margins ≡ d.margins → g.visible ≡ d.visible
    → Says rows (λ s. record s { charset = a s.charset }) d g
sets_said rows a d g h m v = record {
  rows_stay = λ s. refl;
  sets = λ s t z w. h s t w;
  tame = λ s w. record { autowrap = w.autowrap; inserting = w.inserting };
  margins = λ n. record { before = sym m ∙ n; same = λ s z. record { top = refl; bottom = refl } };
  visible = λ n. record { before = sym v ∙ n; same = λ s. refl };
}

charset_set : (d g : Effect) (s t : Screen) (c : Charset) → SetsAs d s t → g.rendition ≡ d.rendition → g.margins ≡ d.margins → g.visible ≡ d.visible → c ≡ designated g.charset s.charset
    → SetsAs g s (record t { charset = c })
charset_set d g s t c h r m v e = record {
  rendition = h.rendition ∙ ap (λ (x : Rendering). rendered x s.rendition) (sym r);
  charset = e;
  visible = h.visible ∙ ap (λ (x : Switch). switched x s.visible) (sym v);
  top = h.top ∙ ap (λ (x : Option Region). top_of x s.top) (sym m);
  bottom = h.bottom ∙ ap (λ (x : Option Region). bottom_of x s.bottom) (sym m);
  tame = record { autowrap = h.tame.autowrap; inserting = h.tame.inserting };
}

designated_said : (rows : ℕ) (set : CodeElement) (graphic : Bool) (d : Effect) → Says rows (λ s. act (functions.Designate set graphic) s) d (spec.designating set graphic d)
designated_said rows G0 false d = sets_said rows (λ c. record c { g0_graphic = false }) d _ (λ s t h. charset_set d _ s t _ h refl refl refl (ap (λ (c : Charset). record c { g0_graphic = false }) h.charset)) refl refl
designated_said rows G0 true d = sets_said rows (λ c. record c { g0_graphic = true }) d _ (λ s t h. charset_set d _ s t _ h refl refl refl (ap (λ (c : Charset). record c { g0_graphic = true }) h.charset)) refl refl
designated_said rows G1 false d = sets_said rows (λ c. record c { g1_graphic = false }) d _ (λ s t h. charset_set d _ s t _ h refl refl refl (ap (λ (c : Charset). record c { g1_graphic = false }) h.charset)) refl refl
designated_said rows G1 true d = sets_said rows (λ c. record c { g1_graphic = true }) d _ (λ s t h. charset_set d _ s t _ h refl refl refl (ap (λ (c : Charset). record c { g1_graphic = true }) h.charset)) refl refl

shifted_said : (rows : ℕ) (out : Bool) (d : Effect) → Says rows (λ s. step.invoked out s) d (spec.shifting out d)
shifted_said rows false d = sets_said rows (λ c. record c { shifted_out = false }) d _ (λ s t h. charset_set d _ s t _ h refl refl refl (ap (λ (c : Charset). record c { shifted_out = false }) h.charset)) refl refl
shifted_said rows true d = sets_said rows (λ c. record c { shifted_out = true }) d _ (λ s t h. charset_set d _ s t _ h refl refl refl (ap (λ (c : Charset). record c { shifted_out = true }) h.charset)) refl refl

rendered_said : (rows : ℕ) (ns : List (Option ℕ)) (d : Effect) → Says rows (λ s. act (functions.SelectRendition ns) s) d (record d { rendition = spec.all_renderings ns d.rendition })
rendered_said rows ns d = record {
  rows_stay = λ s. refl;
  sets = λ s t z h. record {
    rendition = ap (λ (r : Rendition). step.all_rendered ns r) h.rendition ∙ sym (numbers_rendered ns d.rendition s.rendition);
    charset = h.charset;
    visible = h.visible;
    top = h.top;
    bottom = h.bottom;
    tame = record { autowrap = h.tame.autowrap; inserting = h.tame.inserting };
  };
  tame = λ s h. record { autowrap = h.autowrap; inserting = h.inserting };
  margins = λ n. record { before = n; same = λ s z. record { top = refl; bottom = refl } };
  visible = λ n. record { before = n; same = λ s. refl };
}

-- each function
goes_said : (rows : ℕ) (row col : Screen → ℕ) (d g : Effect) → Same d g → Says rows (λ s. step.goes_to (row s) (col s) s) d g
goes_said rows row col d g h = says_kept rows _ d g (λ t. goes_keeps t (row t) (col t)) h

erased_said : (rows : ℕ) (chosen : Screen → ℕ → ℕ → Bool) (d g : Effect) → Same d g → Says rows (λ s. step.erased (chosen s) s) d g
erased_said rows chosen d g h = says_kept rows _ d g (λ t. erased_keeps t (chosen t)) h

placed_same : (d g : Effect) (row col : Move) → Some (spec.with_col (spec.with_row d row) col) ≡ Some g → Same d g
placed_same d g row col h = same_given d _ g (record { rendition = refl; charset = refl; visible = refl; margins = refl }) h

function_said : (rows cols : ℕ) (start : Start) (f : Function) (d g : Effect) → extended rows cols start f d ≡ Some g → Says rows (λ s. act f s) d g
function_said rows cols start functions.LineFeed d g h = says_kept rows _ d g fed_keeps (same_fed rows start d g h)
function_said rows cols start functions.CarriageReturn d g h = goes_said rows (λ s. s.row) (λ s. 0) d g (same_given d _ g (col_alike d _) h)
function_said rows cols start functions.Backspace d g h = goes_said rows _ _ d g (same_found d g (spec.with_col d) _ (λ m. col_alike d m) h)
function_said rows cols start functions.Tab d g h = goes_said rows _ _ d g (same_tab cols d g d.col h)
function_said rows cols start functions.ShiftOut d g h = says_given rows _ d _ g h (shifted_said rows true d)
function_said rows cols start functions.ShiftIn d g h = says_given rows _ d _ g h (shifted_said rows false d)
function_said rows cols start functions.ReverseIndex d g h = says_kept rows _ d g reversed_keeps (same_reversed rows start d g h)
function_said rows cols start functions.NextLine d g h =
    let a : Same (spec.with_col d (moves.To 0)) g = same_fed rows start (spec.with_col d (moves.To 0)) g h in
    says_kept rows _ d g next_keeps (record { rendition = a.rendition; charset = a.charset; visible = a.visible; margins = a.margins })
function_said rows cols start (functions.CursorUp n) d g h = goes_said rows _ _ d g (same_row d g _ _ h)
function_said rows cols start (functions.CursorDown n) d g h = goes_said rows _ _ d g (same_row d g _ _ h)
function_said rows cols start (functions.CursorForward n) d g h = goes_said rows _ _ d g (same_found d g (spec.with_col d) _ (λ m. col_alike d m) h)
function_said rows cols start (functions.CursorBack n) d g h = goes_said rows _ _ d g (same_found d g (spec.with_col d) _ (λ m. col_alike d m) h)
function_said rows cols start (functions.CursorColumn col) d g h = goes_said rows _ _ d g (same_given d _ g (col_alike d _) h)
function_said rows cols start (functions.CursorRow row) d g h = goes_said rows _ _ d g (same_given d _ g (row_alike d _) h)
function_said rows cols start (functions.CursorPosition row col) d g h = goes_said rows _ _ d g (placed_same d g _ _ h)
function_said rows cols start (functions.EraseLine functions.ToEnd) d g h = erased_said rows _ d g (same_cells erasures.Tail d g h)
function_said rows cols start (functions.EraseLine functions.FromStart) d g h = erased_said rows _ d g (same_cells erasures.Head d g h)
function_said rows cols start (functions.EraseLine functions.Whole) d g h = not_found g h
function_said rows cols start (functions.EraseDisplay functions.ToEnd) d g h = erased_said rows _ d g (same_home d g h)
function_said rows cols start (functions.EraseDisplay functions.FromStart) d g h = not_found g h
function_said rows cols start (functions.EraseDisplay functions.Whole) d g h = erased_said rows (λ s i j. true) d g (same_screen d g h)
function_said rows cols start (functions.EraseCells n) d g h = erased_said rows _ d g (same_cells (erasures.Next (min n cols)) d g h)
function_said rows cols start (functions.Margins first last) d g h = says_given rows _ d _ g h (margins_said rows first last d)
function_said rows cols start (functions.Designate set graphic) d g h = says_given rows _ d _ g h (designated_said rows set graphic d)
function_said rows cols start (functions.SelectRendition ns) d g h = says_given rows _ d _ g h (rendered_said rows ns d)
function_said rows cols start (functions.Modes kind on ns) d g h = modes_said rows kind on ns d g h
function_said rows cols start functions.Ignored d g h = says_given rows _ d d g h (nothing_said rows d)
function_said rows cols start (functions.Print b) d g h = not_found g h
function_said rows cols start (functions.InsertCells n) d g h = not_found g h
function_said rows cols start (functions.DeleteCells n) d g h = not_found g h
function_said rows cols start (functions.InsertLines n) d g h = not_found g h
function_said rows cols start (functions.DeleteLines n) d g h = not_found g h
function_said rows cols start (functions.ScrollUp n) d g h = not_found g h
function_said rows cols start (functions.ScrollDown n) d g h = not_found g h

-- all tokens, from one effect to another
record AllSay (rows : ℕ) (tokens : List (List ℕ)) (d g : Effect) : Type 0 where
  sets : (s t : Screen) → t.rows ≡ rows → SetsAs d s t → SetsAs g s (steps tokens t)
  tame : EachTame tokens
  margins : g.margins ≡ None → (d.margins ≡ None) × EachKeepsMargins rows tokens
  visible : g.visible ≡ switches.Kept → (d.visible ≡ switches.Kept) × EachKeepsVisible tokens

one_more : (rows : ℕ) (token : List ℕ) (tokens : List (List ℕ)) (d m g : Effect) → Says rows (λ s. act (function_of token) s) d m → AllSay rows tokens m g → AllSay rows (token ∷ tokens) d g
one_more rows token tokens d m g h k = record {
  sets = λ s t z w. k.sets s (step token t) (h.rows_stay t ∙ z) (h.sets s t z w);
  tame = (h.tame, k.tame);
  margins = λ n. ((h.margins (k.margins n).0).before, ((h.margins (k.margins n).0).same, (k.margins n).1));
  visible = λ n. ((h.visible (k.visible n).0).before, ((h.visible (k.visible n).0).same, (k.visible n).1));
}

all_said : (rows cols : ℕ) (start : Start) (tokens : List (List ℕ)) (d g : Effect) → all_extended rows cols start tokens d ≡ Some g → AllSay rows tokens d g
all_said rows cols start [] d g h = given (λ w. AllSay rows [] d w) d g h (record { sets = λ s t z w. w; tame = tt; margins = λ n. (n, tt); visible = λ n. (n, tt) })
all_said rows cols start (token ∷ tokens) d g h = option_and_then_some (all_extended rows cols start tokens) (extended rows cols start (function_of token) d) g h
    (λ m found left. one_more rows token tokens d m g (function_said rows cols start (function_of token) d m found) (all_said rows cols start tokens m g left))

pub records_tell : RecordsTellSettings
records_tell rows cols start tokens e h = let a : AllSay rows tokens unchanged e = all_said rows cols start tokens unchanged e h in record {
  settings = λ s z tame. a.sets s s z (record { rendition = refl; charset = refl; visible = refl; top = refl; bottom = refl; tame = tame });
  tame = a.tame;
  margins = λ n. (a.margins n).1;
  visible = λ n. (a.visible n).1;
}
