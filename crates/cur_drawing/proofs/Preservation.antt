-- A window stays on a grid that keeps its shape.
use Rattle.std.proofs.Common.{Err, ◌≡◌, ℕ, ◌+◌, ◌-◌, ◌<◌, ◌∙◌, List, ◌∷◌, length, get_or, drop, drop-cons, add-one, refl, subst, sym, ap, suc, arith}
use Rattle.grids.specs.declared.areas.Area.{Area}
use Rattle.cur_drawing.specs.declared.puts.Put.{Put}
use Rattle.cur_drawing.specs.declared.windows.Window.{Window}
use Rattle.cur_drawing.specs.declared.refusals.Refusal.{Refusal}
use Rattle.cur_drawing.specs.Grids.{Grid, Fits, shape_of}
use Rattle.cur_drawing.specs.Windows.{IsWindow}
use Rattle.cur_drawing.specs.Calls.{Canvas, CanvasStep, IsCanvas, IsKept, and_then, written, written_times, added, added_all, plain}
use Rattle.cur_drawing.proofs.DrawingFacts.{fits_same}

pub canvas_same : (g h : Grid) (w : Window) → shape_of h ≡ shape_of g → IsCanvas g w → IsCanvas h w
canvas_same g h w e is = record { window = is.window; fits = fits_same w.area g h e is.fits }

pub kept_same : (g h : Grid) (w : Window) → shape_of h ≡ shape_of g → IsCanvas g w → IsKept g w h w
kept_same g h w e is = record { canvas = canvas_same g h w e is; shape = e; area = refl }

-- one step after another
pub kept_both : (g h k : Grid) (u v w : Window) → IsKept g u h v → IsKept h v k w → IsKept g u k w
kept_both g h k u v w one two = record { canvas = two.canvas; shape = two.shape ∙ one.shape; area = two.area ∙ one.area }

-- a window that keeps its place, with another cursor or region
pub kept_by : (g h : Grid) (w v : Window) → shape_of h ≡ shape_of g → w.area ≡ v.area → IsWindow v → IsCanvas g w → IsKept g w h v
kept_by g h w v e same is old = record {
  canvas = record { window = is; fits = subst (λ (a : Area). Fits a h) same (fits_same w.area g h e old.fits) };
  shape = e;
  area = sym same;
}

-- the first of the remaining times
pub written_times-more : (n k : ℕ) (p : Put) (s : Canvas) → k < n → written_times (n - k) p s ≡ and_then (written p s) (λ t. written_times (n - (k + 1)) p t)
written_times-more n k p s lt = let e : n - k ≡ suc (n - (k + 1)) = omega arith in ap (λ (m : ℕ). written_times m p s) e

-- the first of the remaining bytes
pub added_all-more : (text : List ℕ) (k : ℕ) (s : Canvas) → k < length text → added_all (drop k text) s ≡ and_then (added (plain (get_or text k 0)) s) (λ t. added_all (drop (k + 1) text) t)
added_all-more text k s lt = let e : drop k text ≡ get_or text k 0 ∷ drop (k + 1) text = rw (add-one) (drop-cons text k 0 lt) in ap (λ (bs : List ℕ). added_all bs s) e

-- a byte that is refused ends the string
pub added_all-stops : (text : List ℕ) (k : ℕ) (p : Put) (s t : Canvas) (e : Refusal) → k < length text → p ≡ plain (get_or text k 0) → (t, Err e) ≡ added p s → (t, Err e) ≡ added_all (drop k text) s
added_all-stops text k p s t e lt is hit =
    ap (λ (x : CanvasStep). and_then x (λ u. added_all (drop (k + 1) text) u)) (hit ∙ ap (λ (q : Put). added q s) is) ∙ sym (added_all-more text k s lt)
