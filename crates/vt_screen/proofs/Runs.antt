-- Characters one after another in one line.
use Rattle.std.proofs.Common.{◌≡◌, ℕ, zero, suc, ◌+◌, ◌-◌, ◌<◌, ◌≤◌, ◌&&◌, ◌||◌, ◌==◌, nat_le, min, cond, Bool, true, false, List, [], ◌∷◌, ◌++◌, length, take, drop, get_or, set, refl, sym, ap, subst, ◌∙◌, arith, if◌then◌else◌}
use Rattle.std.specs.List.{AllByRecursion, prefix_len}
use Rattle.std.proofs.Math.Seq.{drop-cons, drop-nil}
use Rattle.std.proofs.lemmas.Bool.{or_parts}
use Rattle.std.proofs.lemmas.Bool.Decides.{nat_tests}
use Rattle.std.proofs.lemmas.List.{set-set, set-get_or, get_or-set_same, length-set, take_more, length-take, get_or-take}
use Rattle.vt_screen.specs.declared.functions.Function.TheVariants.{Print}
use Rattle.vt_screen.specs.Look.{Look, IsPrinted, is_printed}
use Rattle.vt_screen.specs.Grid.{Grid, line_at, put, written}
use Rattle.vt_screen.specs.Screen.{Screen, IsScreen}
use Rattle.vt_screen.specs.Step.{shown, placed, printed, opened, inserted, line_feed, all_printed}
use Rattle.grids.proofs.Drawings.{set_is_filled}
use Rattle.vt_screen.proofs.Keeps.{Kept, same_kept, kept_again, act_kept}

pub all_more : (bytes : List ℕ) (b : ℕ) → AllByRecursion IsPrinted bytes → IsPrinted b → AllByRecursion IsPrinted (bytes ++ b ∷ [])
all_more [] b h p = (p, tt)
all_more (x ∷ bytes) b h p = (h.0, all_more bytes b h.1 p)

-- a character printed where nothing wraps and nothing is inserted
plainly : (b : ℕ) (s : Screen) → s.pending ≡ false → s.inserting ≡ false → printed b s ≡ placed b s
plainly b s e f = ap (λ (p : Bool). placed b (opened (if p then line_feed (record s { col = 0 }) else s))) e ∙ ap (λ (i : Bool). placed b (if i then inserted 1 s else s)) f

-- the screen with this cursor's line, cursor's column and pending wrap
abbrev at_column : Screen → List Look → ℕ → Bool → Screen
at_column s line c p = record s { grid = set s.grid s.row line; col = c; pending = p }

same_at : (s : Screen) (line : List Look) (c d : ℕ) (p q : Bool) → c ≡ d → p ≡ q → at_column s line c p ≡ at_column s line d q
same_at s line c d p q e f = ap (λ (k : ℕ). at_column s line k p) e ∙ ap (λ (x : Bool). at_column s line d x) f

put_in : (g : Grid) (r c : ℕ) (line : List Look) (x : Look) → r < length g → put r c x (set g r line) ≡ set g r (set line c x)
put_in g r c line x lt = let lt2 : r < length (set g r line) = omega (arith, length-set g r line) in sym (set_is_filled r c x (set g r line) lt2) ∙ set-set g r line (set (line_at (set g r line) r) c x) ∙ ap (λ (l : List Look). set g r (set l c x)) (get_or-set_same g r line [] lt)

one_more : (s : Screen) (line : List Look) (c b : ℕ) → s.row < length s.grid → s.inserting ≡ false
    → printed b (at_column s line c false) ≡ at_column s (set line c (shown s b)) (min (c + 1) (s.cols - 1)) ((c + 1 == s.cols) && s.autowrap)
one_more s line c b lt f = plainly b (at_column s line c false) refl f
    ∙ ap (λ (g : Grid). record s { grid = g; col = min (c + 1) (s.cols - 1); pending = (c + 1 == s.cols) && s.autowrap }) (put_in s.grid s.row c line (shown s b) lt)

not_last : (c n : ℕ) (a : Bool) → c < n → false ≡ ((c == n) && a)
not_last c n a lt = grind (arith, nat_tests)

along : (s : Screen) (bytes : List ℕ) (line : List Look) (c : ℕ) → s.row < length s.grid → s.inserting ≡ false → c < s.cols → c + length bytes ≤ s.cols
    → all_printed bytes (at_column s line c false) ≡ at_column s (written (shown s) c bytes line) (min (c + length bytes) (s.cols - 1)) ((c + length bytes == s.cols) && s.autowrap)
along s [] line c lt f within fits = same_at s line c (min (c + 0) (s.cols - 1)) false _ (omega arith) (not_last (c + 0) s.cols s.autowrap (omega arith))
along s (b ∷ []) line c lt f within fits = one_more s line c b lt f
along s (b ∷ d ∷ bytes) line c lt f within fits =
    ap (λ (t : Screen). all_printed (d ∷ bytes) t) (one_more s line c b lt f ∙ same_at s _ (min (c + 1) (s.cols - 1)) (c + 1) _ false (omega arith) (sym (not_last (c + 1) s.cols s.autowrap (omega arith))))
    ∙ along s (d ∷ bytes) (set line c (shown s b)) (c + 1) lt f (omega arith) (omega arith)
    ∙ ap (λ (k : ℕ). at_column s (written (shown s) (c + 1) (d ∷ bytes) (set line c (shown s b))) (min k (s.cols - 1)) ((k == s.cols) && s.autowrap)) (omega arith)

-- characters that fit in the cursor's line
pub printed_in_line : (s : Screen) (bytes : List ℕ) → IsScreen s → s.pending ≡ false → s.inserting ≡ false → s.col + length bytes ≤ s.cols
    → all_printed bytes s ≡ record s { grid = set s.grid s.row (written (shown s) s.col bytes (line_at s.grid s.row)); col = min (s.col + length bytes) (s.cols - 1); pending = (s.col + length bytes == s.cols) && s.autowrap }
printed_in_line s bytes h e f fits =
    ap (λ (g : Grid). all_printed bytes (record s { grid = g })) (sym (set-get_or s.grid s.row []))
    ∙ ap (λ (p : Bool). all_printed bytes (record s { grid = set s.grid s.row (line_at s.grid s.row); pending = p })) e
    ∙ along s bytes (line_at s.grid s.row) s.col (omega (arith, h.row, h.lines)) f h.col fits

pub is_character : (b : ℕ) → (nat_le 32 b && nat_le b 126) ≡ true → IsPrinted b
is_character b e = (let lo : 32 ≤ b = grind (arith, nat_tests) in lo, let hi : b ≤ 126 = grind (arith, nat_tests) in hi)

pub all_step : (k : ℕ) (bytes : List ℕ) → k < length bytes → AllByRecursion IsPrinted (take k bytes) → IsPrinted (get_or bytes k 0) → AllByRecursion IsPrinted (take (k + 1) bytes)
all_step k bytes lt h p = subst (λ (l : List ℕ). AllByRecursion IsPrinted l) (sym (take_more bytes k 0 lt)) (all_more (take k bytes) (get_or bytes k 0) h p)

-- the number of characters from place k on, by the byte there and the number from the next place on
first_left : (p : ℕ → Bool) (xs : List ℕ) (k : ℕ) → k < length xs → prefix_len p (drop k xs) ≡ cond (p (get_or xs k 0)) (1 + prefix_len p (drop (k + 1) xs)) 0
first_left p xs k lt = let next : suc k ≡ k + 1 = omega arith in ap (λ (l : List ℕ). prefix_len p l) (drop-cons xs k 0 lt) ∙ ap (λ (m : ℕ). cond (p (get_or xs k 0)) (1 + prefix_len p (drop m xs)) 0) next

left_at : (n k : ℕ) (bytes : List ℕ) (b : Bool) → k < n → k < length bytes → is_printed (get_or bytes k 0) ≡ b
    → prefix_len is_printed (drop k (take n bytes)) ≡ cond b (1 + prefix_len is_printed (drop (k + 1) (take n bytes))) 0
left_at n k bytes b below within e =
    let lt : k < length (take n bytes) = omega (arith, length-take n bytes) in
    first_left is_printed (take n bytes) k lt
    ∙ ap (λ (c : Bool). cond c (1 + prefix_len is_printed (drop (k + 1) (take n bytes))) 0) (ap is_printed (get_or-take n bytes k 0 below) ∙ e)

pub one_further : (n k : ℕ) (bytes : List ℕ) → k < n → k < length bytes → is_printed (get_or bytes k 0) ≡ true
    → prefix_len is_printed (take n bytes) ≡ k + prefix_len is_printed (drop k (take n bytes)) → prefix_len is_printed (take n bytes) ≡ (k + 1) + prefix_len is_printed (drop (k + 1) (take n bytes))
one_further n k bytes below within e h = omega (arith, left_at n k bytes true below within e)

pub stops_there : (n k : ℕ) (bytes : List ℕ) → k < n → k < length bytes → is_printed (get_or bytes k 0) ≡ false
    → prefix_len is_printed (take n bytes) ≡ k + prefix_len is_printed (drop k (take n bytes)) → k ≡ prefix_len is_printed (take n bytes)
stops_there n k bytes below within e h = omega (arith, left_at n k bytes false below within e)

pub ends_there : (n k : ℕ) (bytes : List ℕ) → length (take n bytes) ≤ k → prefix_len is_printed (take n bytes) ≡ k + prefix_len is_printed (drop k (take n bytes)) → k ≡ prefix_len is_printed (take n bytes)
ends_there n k bytes beyond h = omega (arith, ap (λ (l : List ℕ). prefix_len is_printed l) (drop_all (take n bytes) k beyond))
  where
    drop_all : (xs : List ℕ) (k : ℕ) → length xs ≤ k → drop k xs ≡ []
    drop_all [] k h = drop-nil k
    drop_all (x ∷ xs) zero h = absurd (omega arith)
    drop_all (x ∷ xs) (suc k) h = drop_all xs k (omega arith)

pub all_printed_kept : (bytes : List ℕ) (s : Screen) → AllByRecursion IsPrinted bytes → IsScreen s → Kept s (all_printed bytes s)
all_printed_kept [] s p h = same_kept s h
all_printed_kept (b ∷ bytes) s p h =
    let k : Kept s (printed b s) = act_kept (Print b) s p.0 h in
    kept_again s (printed b s) (all_printed (b ∷ bytes) s) k (all_printed_kept bytes (printed b s) p.1 k.screen)

-- the first n bytes of a text, if they are characters that fit in the cursor's line
pub front_printed : (s : Screen) (bytes : List ℕ) (n : ℕ) → IsScreen s → (s.pending || s.inserting) ≡ false → n ≤ length bytes → s.col + n ≤ length (line_at s.grid s.row)
    → all_printed (take n bytes) s ≡ record s { grid = set s.grid s.row (written (shown s) s.col (take n bytes) (line_at s.grid s.row)); col = min (s.col + n) (s.cols - 1); pending = (s.col + n == s.cols) && s.autowrap }
front_printed s bytes n h e within room =
    let len : length (take n bytes) ≡ n = omega (arith, length-take n bytes) in
    let fits : s.col + length (take n bytes) ≤ s.cols = omega (arith, h.columns s.row h.row) in
    printed_in_line s (take n bytes) h (or_parts s.pending s.inserting e).0 (or_parts s.pending s.inserting e).1 fits
    ∙ ap (λ (m : ℕ). record s { grid = set s.grid s.row (written (shown s) s.col (take n bytes) (line_at s.grid s.row)); col = min (s.col + m) (s.cols - 1); pending = (s.col + m == s.cols) && s.autowrap }) len
