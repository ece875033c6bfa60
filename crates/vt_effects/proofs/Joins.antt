-- Two effects, one after the other.
use Rattle.std.proofs.Common.{IfSome, ◌≡◌, ℕ, ◌+◌, ◌-◌, ◌<◌, ◌==◌, ◌&&◌, ◌||◌, nat_le, nat_lt, Bool, true, false, if◌then◌else◌, Option, Some, None, refl, sym, ap, ◌∙◌, subst, arith}
use Rattle.std.specs.Option.{option_map}
use Rattle.std.proofs.lemmas.Bool.{and_parts}
use Rattle.std.proofs.lemmas.Option.{option_and_then_some}
use Rattle.vt_term.specs.Color.{Color}
use Rattle.vt_term.specs.Look.{Look, blank, Rendition}
use Rattle.vt_term.specs.Grid.{Grid}
use Rattle.vt_term.specs.Screen.{Screen, IsScreen, Charset}
use Rattle.vt_effects.specs.declared.effects.Move.{Move}
use Rattle.vt_effects.specs.declared.effects.Move.TheVariants as moves
use Rattle.vt_effects.specs.declared.effects.Erasure.{Erasure}
use Rattle.vt_effects.specs.declared.effects.Erasure.TheVariants as erasures
use Rattle.vt_effects.specs.declared.effects.Scroll.{Scroll}
use Rattle.vt_effects.specs.declared.effects.Scroll.TheVariants as scrolls
use Rattle.vt_effects.specs.declared.effects.Switch.{Switch}
use Rattle.vt_effects.specs.declared.effects.Switch.TheVariants as switches
use Rattle.vt_effects.specs.declared.effects.Ink.{Ink}
use Rattle.vt_effects.specs.declared.effects.Ink.TheVariants as inks
use Rattle.vt_effects.specs.declared.effects.Rendering.{Rendering}
use Rattle.vt_effects.specs.declared.effects.Sets.{Sets}
use Rattle.vt_effects.specs.declared.effects.Region.{Region}
use Rattle.vt_effects.specs.declared.effects.Effect.{Effect}
use Rattle.vt_effects.specs.Effect.{moved, switched, inked, rendered, designated, blanked, erased, scrolled, top_of, bottom_of, applied, StaysIn, IsLegal, Applies}
use Rattle.vt_effects.specs.Record.{and_back, and_forward, cells_erased, screen_erased, keeps_margins, is_still, keeps_background, erases_screen, erases_nothing, is_unmoved, is_kept, is_first}
use Rattle.vt_effects.specs.Compose.{goes_back, goes_forward, then_moved, then_switched, then_inked, then_rendered, then_designated, then_margins, then_erased, scrolls_first, then_scrolled, both_cells, both_else, both_moved, composed, Joins, Composes}
use Rattle.vt_effects.proofs.MoveFacts.{chosen, given, not_found, IsBack, Leads, and_back_leads, one_forward}
use Rattle.vt_effects.proofs.Extensions.{margins_are, still_is, same_blank, kept_is, first_is, screen_is, nothing_is}
use Rattle.vt_effects.proofs.Erasures.{Places, still_grid, again, first, screen_grid, all_of_it}
use Rattle.vt_effects.proofs.Stability.{stays}

-- the cursor's place
back_of : (m : Move) (x limit : ℕ) → StaysIn m x limit → IsBack m x
back_of moves.Kept x limit h = tt
back_of (moves.To k) x limit h = tt
back_of (moves.Back k) x limit h = h
back_of (moves.Forward k) x limit h = tt

stays_there : (m : Move) (x limit : ℕ) → IsBack m x → moved m x < limit → StaysIn m x limit
stays_there moves.Kept x limit h k = tt
stays_there (moves.To j) x limit h k = k
stays_there (moves.Back j) x limit h k = h
stays_there (moves.Forward j) x limit h k = k

then_leads : (m n j : Move) (x limit : ℕ) → then_moved m n ≡ Some j → StaysIn m x limit → StaysIn n (moved m x) limit → Leads j x x (moved n (moved m x))
then_leads m moves.Kept j x limit h p q = given (λ w. Leads w x x (moved m x)) m j h (record { back = back_of m x limit p; there = refl })
then_leads m (moves.To k) j x limit h p q = given (λ w. Leads w x x k) (moves.To k) j h (record { back = tt; there = refl })
then_leads m (moves.Back n) j x limit h p q = chosen (goes_back m n) (Some (and_back m n)) None j h
    (λ b i. given (λ w. Leads w x x (moved m x - n)) (and_back m n) j i (and_back_leads m n x x (back_of m x limit p) (omega arith) q)) (λ b i. not_found j i)
then_leads m (moves.Forward n) j x limit h p q = chosen (goes_forward m n) (Some (and_forward m n)) None j h
    (λ b i. given (λ w. Leads w x x (moved m x + n)) (and_forward m n) j i (one_forward m n x x (back_of m x limit p) (omega arith))) (λ b i. not_found j i)

then_stays : (m n j : Move) (x limit : ℕ) → then_moved m n ≡ Some j → x < limit → StaysIn m x limit → StaysIn n (moved m x) limit → StaysIn j x limit
then_stays m n j x limit h lt p q =
    let lead : Leads j x x (moved n (moved m x)) = then_leads m n j x limit h p q in
    stays_there j x limit lead.back (subst (λ (y : ℕ). y < limit) lead.there (stays n (moved m x) limit (stays m x limit lt p) q))

-- switches, colors, margins
switched_twice : (a b : Switch) (x : Bool) → switched b (switched a x) ≡ switched (then_switched a b) x
switched_twice a switches.Kept x = refl
switched_twice a switches.On x = refl
switched_twice a switches.Off x = refl

inked_twice : (a b : Ink) (x : Option Color) → inked b (inked a x) ≡ inked (then_inked a b) x
inked_twice a inks.Kept x = refl
inked_twice a inks.Default x = refl
inked_twice a (inks.Color c) x = refl

rendered_twice : (a b : Rendering) (r : Rendition) → rendered b (rendered a r) ≡ rendered (then_rendered a b) r
rendered_twice a b r = rw (
  switched_twice a.bold b.bold r.bold,
  switched_twice a.faint b.faint r.faint,
  switched_twice a.underline b.underline r.underline,
  switched_twice a.blink b.blink r.blink,
  switched_twice a.negative b.negative r.negative,
  switched_twice a.concealed b.concealed r.concealed,
  inked_twice a.foreground b.foreground r.foreground,
  inked_twice a.background b.background r.background,
) refl

designated_twice : (a b : Sets) (c : Charset) → designated b (designated a c) ≡ designated (then_designated a b) c
designated_twice a b c = rw (switched_twice a.g0_graphic b.g0_graphic c.g0_graphic, switched_twice a.g1_graphic b.g1_graphic c.g1_graphic, switched_twice a.shifted_out b.shifted_out c.shifted_out) refl

top_twice : (a b : Option Region) (x : ℕ) → top_of b (top_of a x) ≡ top_of (then_margins a b) x
top_twice a None x = refl
top_twice a (Some r) x = refl

bottom_twice : (a b : Option Region) (x : ℕ) → bottom_of b (bottom_of a x) ≡ bottom_of (then_margins a b) x
bottom_twice a None x = refl
bottom_twice a (Some r) x = refl

legal_twice : (a b : Option Region) (rows : ℕ) → IsLegal a rows → IsLegal b rows → IsLegal (then_margins a b) rows
legal_twice a None rows h k = h
legal_twice a (Some r) rows h k = k

pending_twice : (a b p : Bool) → (if b then false else (if a then false else p)) ≡ (if a || b then false else p)
pending_twice true true p = refl
pending_twice true false p = refl
pending_twice false true p = refl
pending_twice false false p = refl

-- the cells
abbrev pub ErasesThen : Effect → Erasure → Effect → Screen → Type 0
ErasesThen a x e s = erased x (applied a s).row (applied a s).col (blank (applied a s).rendition) (applied a s).grid ≡ (applied e s).grid

cells_then : (places : Places) (x : Erasure) (a e : Effect) (s : Screen)
    → ((row col : ℕ) (y : Look) (g : Grid) → erased x row col y g ≡ blanked (places row col) y g) → cells_erased x a ≡ Some e → ErasesThen a x e s
cells_then places x a e s is h = is (applied a s).row (applied a s).col (blank (applied a s).rendition) (applied a s).grid ∙ chosen (keeps_background a && is_still a.scroll) _ None e h
    (λ b k.
    let both = and_parts (keeps_background a) (is_still a.scroll) b in
    let still : a.scroll ≡ scrolls.Still = still_is a.scroll both.1 in
    chosen (erases_screen a.erasure) (Some a) _ e k
    (λ c i. given (λ w. blanked (places (applied a s).row (applied a s).col) (blank (applied a s).rendition) (applied a s).grid ≡ (applied w s).grid) a e i
    (again places a s still (screen_is a.erasure c) both.0))
    (λ c i. chosen (is_unmoved a && erases_nothing a.erasure) (Some (record a { erasure = x })) None e i
    (λ d j.
    let unmoved = and_parts (is_unmoved a) (erases_nothing a.erasure) d in
    let place = and_parts (is_kept a.row) (is_kept a.col) unmoved.0 in
    given (λ w. blanked (places (applied a s).row (applied a s).col) (blank (applied a s).rendition) (applied a s).grid ≡ (applied w s).grid) (record a { erasure = x }) e j
    (first places x a s still (nothing_is a.erasure unmoved.1) (kept_is a.row place.0) (kept_is a.col place.1) both.0 (sym (is s.row s.col (blank s.rendition) s.grid))))
    (λ d j. not_found e j)))
    (λ b k. not_found e k)

screen_then : (a e : Effect) (s : Screen) → screen_erased a ≡ Some e → blanked (λ i j. true) (blank (applied a s).rendition) (applied a s).grid ≡ (applied e s).grid
screen_then a e s h = chosen (keeps_background a) (Some (record a { erasure = erasures.Screen; scroll = scrolls.Still })) None e h
    (λ b k. given (λ w. blanked (λ i j. true) (blank (applied a s).rendition) (applied a s).grid ≡ (applied w s).grid) _ e k (screen_grid a s b))
    (λ b k. not_found e k)

erases_then : (a : Effect) (x : Erasure) (e : Effect) (s : Screen) → then_erased a x ≡ Some e → ErasesThen a x e s
erases_then a erasures.Nothing e s h = given (λ w. (applied a s).grid ≡ (applied w s).grid) a e h refl
erases_then a erasures.Screen e s h = screen_then a e s h
erases_then a erasures.Rest e s h = chosen (is_first a.row && is_first a.col) (screen_erased a) _ e h
    (λ b k.
    let both = and_parts (is_first a.row) (is_first a.col) b in
    all_of_it (moved a.row s.row) (moved a.col s.col) (blank (applied a s).rendition) (applied a s).grid (first_is a.row s.row both.0) (first_is a.col s.col both.1) ∙ screen_then a e s k)
    (λ b k. cells_then (λ r c i j. nat_lt r i || ((i == r) && nat_le c j)) erasures.Rest a e s (λ r c y g. refl) k)
erases_then a erasures.Tail e s h = cells_then (λ r c i j. (i == r) && nat_le c j) erasures.Tail a e s (λ r c y g. refl) h
erases_then a erasures.Head e s h = cells_then (λ r c i j. (i == r) && nat_le j c) erasures.Head a e s (λ r c y g. refl) h
erases_then a (erasures.Next n) e s h = cells_then (λ r c i j. (i == r) && (nat_le c j && nat_lt j (c + n))) (erasures.Next n) a e s (λ r c y g. refl) h

abbrev pub ScrollsThen : Effect → Effect → Scroll → Effect → Screen → Type 0
ScrollsThen a here x e s = scrolled x (applied a s).top (applied a s).bottom (blank (applied a s).rendition) (applied here s).grid ≡ (applied e s).grid

scroll_then : (a here : Effect) (x : Scroll) (e : Effect) (s : Screen) → (if scrolls_first a here then Some (record here { scroll = x }) else None) ≡ Some e → ScrollsThen a here x e s
scroll_then a here x e s h = chosen (scrolls_first a here) (Some (record here { scroll = x })) None e h
    (λ b k.
    let both = and_parts (keeps_margins a.margins) (keeps_background a && is_still here.scroll) b in
    let more = and_parts (keeps_background a) (is_still here.scroll) both.1 in
    given (λ w. ScrollsThen a here x w s) (record here { scroll = x }) e k
    (ap (λ (m : Option Region). scrolled x (top_of m s.top) (bottom_of m s.bottom) (blank (applied a s).rendition) (applied here s).grid) (margins_are a.margins both.0)
    ∙ ap (λ (y : Look). scrolled x s.top s.bottom y (applied here s).grid) (same_blank a s more.0)
    ∙ ap (λ (g : Grid). scrolled x s.top s.bottom (blank s.rendition) g) (still_grid here s (still_is here.scroll more.1))))
    (λ b k. not_found e k)

scrolls_then : (a here : Effect) (x : Scroll) (e : Effect) (s : Screen) → then_scrolled a here x ≡ Some e → ScrollsThen a here x e s
scrolls_then a here scrolls.Still e s h = given (λ w. (applied here s).grid ≡ (applied w s).grid) here e h refl
scrolls_then a here scrolls.Up e s h = scroll_then a here scrolls.Up e s h
scrolls_then a here scrolls.Down e s h = scroll_then a here scrolls.Down e s h

cells_both : (a b e : Effect) (s : Screen) → both_cells a b ≡ Some e → (applied b (applied a s)).grid ≡ (applied e s).grid
cells_both a b e s h = option_and_then_some (λ here. then_scrolled a here b.scroll) (then_erased a b.erasure) e h
    (λ here found left. ap (λ (g : Grid). scrolled b.scroll (applied a s).top (applied a s).bottom (blank (applied a s).rendition) g) (erases_then a b.erasure here s found) ∙ scrolls_then a here b.scroll e s left)

-- screens are equal if all their parts are
same_screen : (s : Screen) {g h : Grid} {r q c d t u b v : ℕ} {p o w z : Bool} {x y : Rendition} {k l : Charset}
    → g ≡ h → r ≡ q → c ≡ d → p ≡ o → x ≡ y → k ≡ l → t ≡ u → b ≡ v → w ≡ z
    → record s { grid = g; row = r; col = c; pending = p; rendition = x; charset = k; top = t; bottom = b; visible = w } ≡ record s { grid = h; row = q; col = d; pending = o; rendition = y; charset = l; top = u; bottom = v; visible = z }
same_screen s e1 e2 e3 e4 e5 e6 e7 e8 e9 = rw (e1, e2, e3, e4, e5, e6, e7, e8, e9) refl

found_map : {A B G : Type 0} (f : A → B) (o : Option A) (y : B) → option_map f o ≡ Some y → ((x : A) → o ≡ Some x → Some (f x) ≡ Some y → G) → G
found_map f None y h k = not_found y h
found_map f (Some x) y h k = k x refl h

joins : (a b cells : Effect) (row col : Move) (s : Screen) → IsScreen s → Applies a s → Applies b (applied a s) → both_cells a b ≡ Some cells → then_moved a.row b.row ≡ Some row → then_moved a.col b.col ≡ Some col
    → Joins a b (both_else a b cells row col) s
joins a b cells row col s v p q e r c = record {
  applies = record {
    row = then_stays a.row b.row row s.row s.rows r v.row p.row q.row;
    col = then_stays a.col b.col col s.col s.cols c v.col p.col q.col;
    margins = legal_twice a.margins b.margins s.rows p.margins q.margins;
  };
  same = same_screen s (cells_both a b cells s e) (then_leads a.row b.row row s.row s.rows r p.row q.row).there (then_leads a.col b.col col s.col s.cols c p.col q.col).there
      (pending_twice a.ends_pending b.ends_pending s.pending) (rendered_twice a.rendition b.rendition s.rendition) (designated_twice a.charset b.charset s.charset)
      (top_twice a.margins b.margins s.top) (bottom_twice a.margins b.margins s.bottom) (switched_twice a.visible b.visible s.visible);
}

pub composed_right : (a b c : Effect) → composed a b ≡ Some c → Composes a b c
composed_right a b c h s v p q = option_and_then_some (λ cells. both_moved a b cells) (both_cells a b) c h
    (λ cells e left. option_and_then_some (λ row. option_map (λ col. both_else a b cells row col) (then_moved a.col b.col)) (then_moved a.row b.row) c left
    (λ row r more. found_map (λ col. both_else a b cells row col) (then_moved a.col b.col) c more
    (λ col k same. given (λ w. Joins a b w s) (both_else a b cells row col) c same (joins a b cells row col s v p q e r k))))

pub if_composed : (a b : Effect) (o : Option Effect) → o ≡ composed a b → IfSome o (Composes a b)
if_composed a b None h = tt
if_composed a b (Some c) h = composed_right a b c (sym h)
