use Rattle.std.proofs.Common.{◌++◌, ◌∙◌, ℕ, List, ap, append_assoc}
use Rattle.std.specs.Prelude.{drop}
use Rattle.ti_printers.proofs.sarif.sarif_file.Goals as goal

-- the results without their comma, between the two texts
pub returns : goal.returns
returns c =
    let head = c.in_ok-file.file.items in
    let tail = c.as_bytes-2.result.now in (
      head,
      tail,
      c.in_ok-extend_from_slice-2.ensures.items
          ∙ (ap (λ (front : List ℕ). front ++ tail) (c.in_ok-extend_from_slice.ensures.items ∙ ap (λ (own : List ℕ). head ++ own) c.without_comma.ensures)
          ∙ append_assoc head (drop 2 c.args.results.now) tail),
    )
