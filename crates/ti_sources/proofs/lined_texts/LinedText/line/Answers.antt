use Rattle.std.proofs.Common.{◌∙◌, ℕ, Bor, Global, List, Vec, ap, sym}
use Rattle.std.specs.Prelude.{option_map, slice_get}
use Rattle.ti_sources.specs.LinedTexts.{line_at, or_zero}
use Rattle.ti_source.specs.Lines.{field_lines_of}
use Rattle.ti_sources.proofs.LinedFacts.{lent, line_kept, no_line_kept}
use Rattle.ti_sources.proofs.lined_texts.LinedText.line.Goals as goal

-- the entry's kept lines are those of its fields
pub returns-in-Some : goal.returns-in-Some
returns-in-Some c =
    let entry = c.args.origin.entry in
    let field = c.args.origin.field in
    let got = sym (ap (λ (xs : List (Vec ℕ Global)). slice_get xs entry) c.deref.ensures.value) ∙ (lent c.deref.result.now entry c.get.result c.get.ensures.lookup ∙ ap (option_map (λ (x : Bor (Vec ℕ Global)). x.now)) c.in-Some.is) in
    c.number_at.ensures
    ∙ (ap (λ (numbers : List ℕ). or_zero (slice_get numbers field)) c.as_slice.ensures.value
    ∙ (line_kept (λ (own : Vec ℕ Global). own.items) c.self.inside.lines.items c.self.inside.text.now entry field c.in-Some.own.now c.self.invariant.0 got
    ∙ ap (λ (text : List ℕ). line_at (field_lines_of text entry) field) c.self.view_is))

pub returns-in-None : goal.returns-in-None
returns-in-None c =
    let entry = c.args.origin.entry in
    let field = c.args.origin.field in
    let got = sym (ap (λ (xs : List (Vec ℕ Global)). slice_get xs entry) c.deref.ensures.value) ∙ (lent c.deref.result.now entry c.get.result c.get.ensures.lookup ∙ ap (option_map (λ (x : Bor (Vec ℕ Global)). x.now)) c.in-None.is) in
    no_line_kept (λ (own : Vec ℕ Global). own.items) c.self.inside.lines.items c.self.inside.text.now entry field c.self.invariant.0 got
    ∙ ap (λ (text : List ℕ). line_at (field_lines_of text entry) field) c.self.view_is
