-- One row more.
use Rattle.std.proofs.Common.{◌≡◌, ◌∙◌, ◌+◌, ℕ, zero, suc, List, [], ◌∷◌, ◌++◌, ap, append-nil, arith, refl}
use Rattle.std.specs.List.{flat_map, range_with_len}
use Rattle.std.proofs.lemmas.Grind.{flat_map-append}
use Rattle.ti_sources.specs.declared.joined_places.Region.{Region}
use Rattle.ti_verdicts.specs.Excerpts.{deeper}
use Rattle.ti_verdicts.specs.Rows.{row_of, rows_of}
use Rattle.ti_files.specs.Shown.{shown}

range_more : (from n next : ℕ) → from + n ≡ next → range_with_len from (suc n) ≡ range_with_len from n ++ next ∷ []
range_more from zero next e = ap (λ (k : ℕ). k ∷ []) (omega (arith, e))
range_more from (suc n) next e = ap (λ (l : List ℕ). from ∷ l) (range_more (from + 1) n next (omega (arith, e)))

pub no_rows : (text : List ℕ) (region : Region) → rows_of text region 0 ≡ []
unfolding rows_of
no_rows text region = refl

pub one_more : (text : List ℕ) (region : Region) (n : ℕ) → rows_of text region (n + 1) ≡ rows_of text region n ++ deeper (shown (row_of text region (region.line + n)))
unfolding rows_of
one_more text region n =
    let f : ℕ → List ℕ = λ number. deeper (shown (row_of text region number)) in
    let e : n + 1 ≡ suc n = omega arith in
    ap (λ (m : ℕ). flat_map f (range_with_len region.line m)) e
    ∙ (ap (flat_map f) (range_more region.line n (region.line + n) refl) ∙ (flat_map-append f (range_with_len region.line n) ((region.line + n) ∷ [])
    ∙ ap (λ (l : List ℕ). flat_map f (range_with_len region.line n) ++ l) (append-nil (f (region.line + n)))))
