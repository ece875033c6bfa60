use Rattle.std.proofs.Common.{◌≡◌, ℕ, ◌++◌, ◌∙◌, ap, length, drop, replicate}
use Rattle.std.specs.Int.{from_be_bytes, w64}
use Rattle.std.proofs.lemmas.List.{drop-replicate}
use Rattle.ti_caps.specs.Table.{padded}
use Rattle.ti_caps.proofs.lookup.name_key.Goals as goal

-- the bytes are the name, written over the first of eight zeros
pub returns : goal.returns
returns c =
    let behind = drop-replicate {X = ℕ} (length c.args.name.now) 8 0 in
    let over : c.copy_from_slice.new.self ++ drop (length c.args.name.now) (replicate 8 0) ≡ padded c.args.name.now =
    rw c.copy_from_slice.ensures.after (ap (λ zeros. c.args.name.now ++ zeros) behind) in
    c.from_be_bytes.ensures ∙ ap (from_be_bytes w64) over
