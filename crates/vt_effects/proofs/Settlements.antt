-- The settings after a screen's change and an effect's extension, and how such changes compose.
use Rattle.std.proofs.Common.{◌≡◌, ℕ, ◌+◌, ◌==◌, ◌&&◌, nat_lt, nat_le, Bool, true, false, if◌then◌else◌, Option, Some, None, refl, sym, ap, ◌∙◌}
use Rattle.vt_term.specs.Screen.{Screen}
use Rattle.vt_term.specs.Step as step
use Rattle.vt_term.specs.Function as functions
use Rattle.vt_effects.specs.declared.effects.Move.{Move}
use Rattle.vt_effects.specs.declared.effects.Move.TheVariants as moves
use Rattle.vt_effects.specs.declared.effects.Erasure.{Erasure}
use Rattle.vt_effects.specs.declared.effects.Erasure.TheVariants as erasures
use Rattle.vt_effects.specs.declared.effects.Scroll.TheVariants as scrolls
use Rattle.vt_effects.specs.declared.effects.Effect.{Effect}
use Rattle.vt_effects.specs.declared.effects.Region.{Region}
use Rattle.vt_effects.specs.declared.effects.Rendering.{Rendering}
use Rattle.vt_effects.specs.declared.effects.Sets.{Sets}
use Rattle.vt_effects.specs.declared.effects.Switch.{Switch}
use Rattle.vt_effects.specs.declared.effects.Switch.TheVariants as switches
use Rattle.vt_effects.specs.declared.starts.Start.{Start}
use Rattle.vt_effects.specs.Effect.{moved, rendered, designated, switched, top_of, bottom_of}
use Rattle.vt_effects.specs.Record as spec
use Rattle.vt_effects.specs.Record.{if_some, cells_erased, screen_erased}
use Rattle.vt_effects.specs.Settings.{IsTame, SetsAs, SameMargins}
use Rattle.vt_effects.proofs.MoveFacts.{chosen, given, not_found}

-- the two effects change the settings alike
pub record Same (d g : Effect) : Type 0 where
  pub rendition : g.rendition ≡ d.rendition
  pub charset : g.charset ≡ d.charset
  pub visible : g.visible ≡ d.visible
  pub margins : g.margins ≡ d.margins

-- the screens have the same settings
pub record Keeps (t u : Screen) : Type 0 where
  pub rows : u.rows ≡ t.rows
  pub rendition : u.rendition ≡ t.rendition
  pub charset : u.charset ≡ t.charset
  pub visible : u.visible ≡ t.visible
  pub top : u.top ≡ t.top
  pub bottom : u.bottom ≡ t.bottom
  pub autowrap : u.autowrap ≡ t.autowrap
  pub inserting : u.inserting ≡ t.inserting

-- if no margins are set at the end, none were set before, and this change sets none
pub record KeepsMargins (rows : ℕ) (a : Screen → Screen) (d : Effect) : Type 0 where
  pub before : d.margins ≡ None
  pub same : (s : Screen) → s.rows ≡ rows → SameMargins s (a s)

pub record KeepsVisible (a : Screen → Screen) (d : Effect) : Type 0 where
  pub before : d.visible ≡ switches.Kept
  pub same : (s : Screen) → (a s).visible ≡ s.visible

-- this change of the screen turns the settings of one effect into those of the other
pub record Says (rows : ℕ) (a : Screen → Screen) (d g : Effect) : Type 0 where
  pub rows_stay : (s : Screen) → (a s).rows ≡ s.rows
  pub sets : (s t : Screen) → t.rows ≡ rows → SetsAs d s t → SetsAs g s (a t)
  pub tame : (s : Screen) → IsTame s → IsTame (a s)
  pub margins : g.margins ≡ None → KeepsMargins rows a d
  pub visible : g.visible ≡ switches.Kept → KeepsVisible a d

pub says_kept : (rows : ℕ) (a : Screen → Screen) (d g : Effect) → ((t : Screen) → Keeps t (a t)) → Same d g → Says rows a d g
says_kept rows a d g k e = record {
  rows_stay = λ s. (k s).rows;
  sets = λ s t z h. record {
    rendition = (k t).rendition ∙ h.rendition ∙ ap (λ (r : Rendering). rendered r s.rendition) (sym e.rendition);
    charset = (k t).charset ∙ h.charset ∙ ap (λ (c : Sets). designated c s.charset) (sym e.charset);
    visible = (k t).visible ∙ h.visible ∙ ap (λ (v : Switch). switched v s.visible) (sym e.visible);
    top = (k t).top ∙ h.top ∙ ap (λ (m : Option Region). top_of m s.top) (sym e.margins);
    bottom = (k t).bottom ∙ h.bottom ∙ ap (λ (m : Option Region). bottom_of m s.bottom) (sym e.margins);
    tame = record { autowrap = (k t).autowrap ∙ h.tame.autowrap; inserting = (k t).inserting ∙ h.tame.inserting };
  };
  tame = λ s h. record { autowrap = (k s).autowrap ∙ h.autowrap; inserting = (k s).inserting ∙ h.inserting };
  margins = λ n. record { before = sym e.margins ∙ n; same = λ s z. record { top = (k s).top; bottom = (k s).bottom } };
  visible = λ n. record { before = sym e.visible ∙ n; same = λ s. (k s).visible };
}

pub says_given : (rows : ℕ) (a : Screen → Screen) (d m g : Effect) → Some m ≡ Some g → Says rows a d m → Says rows a d g
says_given rows a d m g h w = given (λ e. Says rows a d e) m g h w

-- one change or another
pub says_if : (rows : ℕ) (b : Bool) (x y : Screen → Screen) (p q : Option Effect) (d g : Effect) → (if b then p else q) ≡ Some g
    → (p ≡ Some g → Says rows x d g) → (q ≡ Some g → Says rows y d g) → Says rows (λ s. if b then x s else y s) d g
says_if rows true x y p q d g h f k = f h
says_if rows false x y p q d g h f k = k h

-- one change and then another
pub says_then : (rows : ℕ) (a b : Screen → Screen) (d m g : Effect) → Says rows a d m → Says rows b m g → Says rows (λ s. b (a s)) d g
says_then rows a b d m g h k = record {
  rows_stay = λ s. k.rows_stay (a s) ∙ h.rows_stay s;
  sets = λ s t z w. k.sets s (a t) (h.rows_stay t ∙ z) (h.sets s t z w);
  tame = λ s w. k.tame (a s) (h.tame s w);
  margins = λ n. record {
    before = (h.margins (k.margins n).before).before;
    same = λ s z. record {
      top = ((k.margins n).same (a s) (h.rows_stay s ∙ z)).top ∙ ((h.margins (k.margins n).before).same s z).top;
      bottom = ((k.margins n).same (a s) (h.rows_stay s ∙ z)).bottom ∙ ((h.margins (k.margins n).before).same s z).bottom;
    };
  };
  visible = λ n. record {
    before = (h.visible (k.visible n).before).before;
    same = λ s. (k.visible n).same (a s) ∙ (h.visible (k.visible n).before).same s;
  };
}

-- effects that change the settings alike
abbrev pub alike : (d : Effect) → Same d d
alike d = record { rendition = refl; charset = refl; visible = refl; margins = refl }

pub same_given : (d f g : Effect) → Same d f → Some f ≡ Some g → Same d g
same_given d f g a h = given (λ w. Same d w) f g h a

pub same_found : (d g : Effect) (make : Move → Effect) (o : Option Move) → ((m : Move) → Same d (make m)) → if_some make o ≡ Some g → Same d g
same_found d g make None a h = not_found g h
same_found d g make (Some m) a h = same_given d (make m) g (a m) h

abbrev pub col_alike : (d : Effect) (m : Move) → Same d (spec.with_col d m)
col_alike d m = record { rendition = refl; charset = refl; visible = refl; margins = refl }

abbrev pub row_alike : (d : Effect) (m : Move) → Same d (spec.with_row d m)
row_alike d m = record { rendition = refl; charset = refl; visible = refl; margins = refl }

pub same_row : (d g : Effect) (o : Option Move) (b : Bool) → (if b then if_some (spec.with_row d) o else None) ≡ Some g → Same d g
same_row d g o b h = chosen b _ _ g h (λ c k. same_found d g (spec.with_row d) o (λ m. row_alike d m) k) (λ c k. not_found g k)

pub same_fed : (rows : ℕ) (start : Start) (d g : Effect) → spec.line_fed rows start d ≡ Some g → Same d g
same_fed rows start d g h = chosen (spec.are_whole rows start.margins d.margins && nat_lt (moved d.row start.row_max + 1) rows) _ _ g h
    (λ b k. same_given d _ g (row_alike d (spec.and_forward d.row 1)) k)
    (λ b k. chosen (spec.on_bottom rows start.row_min start.margins && spec.may_scroll d) (Some (spec.scrolling scrolls.Up d)) None g k
    (λ c l. same_given d (spec.scrolling scrolls.Up d) g (record { rendition = refl; charset = refl; visible = refl; margins = refl }) l) (λ c l. not_found g l))

pub same_reversed : (rows : ℕ) (start : Start) (d g : Effect) → spec.line_reversed rows start d ≡ Some g → Same d g
same_reversed rows start d g h = chosen (spec.are_whole rows start.margins d.margins && nat_le 1 (moved d.row start.row_min)) _ _ g h
    (λ b k. same_given d _ g (row_alike d (spec.and_back d.row 1)) k)
    (λ b k. chosen (spec.on_top rows start.row_max start.margins && spec.may_scroll d) (Some (spec.scrolling scrolls.Down d)) None g k
    (λ c l. same_given d (spec.scrolling scrolls.Down d) g (record { rendition = refl; charset = refl; visible = refl; margins = refl }) l) (λ c l. not_found g l))

pub same_tab : (cols : ℕ) (d g : Effect) (m : Move) → spec.tabbed cols d m ≡ Some g → Same d g
same_tab cols d g moves.Kept h = not_found g h
same_tab cols d g (moves.To k) h = same_given d _ g (record { rendition = refl; charset = refl; visible = refl; margins = refl }) h
same_tab cols d g (moves.Back k) h = not_found g h
same_tab cols d g (moves.Forward k) h = not_found g h

pub same_screen : (d g : Effect) → screen_erased d ≡ Some g → Same d g
same_screen d g h = chosen (spec.keeps_background d) (Some (record d { erasure = erasures.Screen; scroll = scrolls.Still })) None g h
    (λ b k. same_given d (record d { erasure = erasures.Screen; scroll = scrolls.Still }) g (record { rendition = refl; charset = refl; visible = refl; margins = refl }) k) (λ b k. not_found g k)

pub same_cells : (x : Erasure) (d g : Effect) → cells_erased x d ≡ Some g → Same d g
same_cells x d g h = chosen (spec.keeps_background d && spec.is_still d.scroll) _ None g h
    (λ b k. chosen (spec.erases_screen d.erasure) (Some d) _ g k (λ c l. same_given d d g (alike d) l)
    (λ c l. chosen (spec.is_unmoved d && spec.erases_nothing d.erasure) (Some (record d { erasure = x })) None g l
    (λ e m. same_given d (record d { erasure = x }) g (record { rendition = refl; charset = refl; visible = refl; margins = refl }) m) (λ e m. not_found g m)))
    (λ b k. not_found g k)

pub same_home : (d g : Effect) → spec.display_erased functions.ToEnd d ≡ Some g → Same d g
same_home d g h = chosen (spec.is_first d.row && spec.is_first d.col) (screen_erased d) (cells_erased erasures.Rest d) g h (λ c i. same_screen d g i) (λ c i. same_cells erasures.Rest d g i)

-- screens with the same settings
either_keeps : (b : Bool) (t x y : Screen) → Keeps t x → Keeps t y → Keeps t (if b then x else y)
either_keeps true t x y h k = h
either_keeps false t x y h k = k

abbrev pub goes_keeps : (t : Screen) (r c : ℕ) → Keeps t (step.goes_to r c t)
goes_keeps t r c = record { rows = refl; rendition = refl; charset = refl; visible = refl; top = refl; bottom = refl; autowrap = refl; inserting = refl }

abbrev pub erased_keeps : (t : Screen) (f : ℕ → ℕ → Bool) → Keeps t (step.erased f t)
erased_keeps t f = record { rows = refl; rendition = refl; charset = refl; visible = refl; top = refl; bottom = refl; autowrap = refl; inserting = refl }

pub fed_keeps : (t : Screen) → Keeps t (step.line_feed t)
fed_keeps t = either_keeps (t.row == t.bottom) t _ _ (record { rows = refl; rendition = refl; charset = refl; visible = refl; top = refl; bottom = refl; autowrap = refl; inserting = refl })
    (either_keeps (nat_lt (t.row + 1) t.rows) t _ _ (record { rows = refl; rendition = refl; charset = refl; visible = refl; top = refl; bottom = refl; autowrap = refl; inserting = refl })
    (record { rows = refl; rendition = refl; charset = refl; visible = refl; top = refl; bottom = refl; autowrap = refl; inserting = refl }))

pub next_keeps : (t : Screen) → Keeps t (step.line_feed (record t { col = 0 }))
next_keeps t = let k : Keeps (record t { col = 0 }) (step.line_feed (record t { col = 0 })) = fed_keeps (record t { col = 0 }) in
    record { rows = k.rows; rendition = k.rendition; charset = k.charset; visible = k.visible; top = k.top; bottom = k.bottom; autowrap = k.autowrap; inserting = k.inserting }

pub reversed_keeps : (t : Screen) → Keeps t (step.reverse_index t)
reversed_keeps t = either_keeps (t.row == t.top) t _ _ (record { rows = refl; rendition = refl; charset = refl; visible = refl; top = refl; bottom = refl; autowrap = refl; inserting = refl })
    (record { rows = refl; rendition = refl; charset = refl; visible = refl; top = refl; bottom = refl; autowrap = refl; inserting = refl })
