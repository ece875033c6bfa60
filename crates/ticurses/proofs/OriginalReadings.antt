-- Files that were read before.
use Rattle.std.proofs.Common.{◌≡◌, ◌+◌, ℕ, List, [], ◌∷◌, ◌++◌, Result, Ok, Err, subst, sym}
use Rattle.std.specs.Prelude.{OnOk}
use Rattle.ti_files.specs.Contents.{AreFirstBytesOf, Held, longest_file}
use Rattle.ticurses.specs.Originals.{WereRead}
use Rattle.ticurses.specs.declared.originals.Original.{Original}

pub none_read : (held : Held) (originals : List Original) → originals ≡ [] → WereRead held originals
unfolding WereRead
none_read held [] e = tt
none_read held (original ∷ others) e = cc

pub read_end : (held : Held) (originals : List Original) (original : Original) → WereRead held originals
    → AreFirstBytesOf (held.at original.path.now) (longest_file + 1) original.bytes.items → WereRead held (originals ++ original ∷ [])
unfolding WereRead
read_end held [] original so h = (h, tt)
read_end held (first ∷ others) original so h = (so.0, read_end held others original so.1 h)

pub read_more : {T E : Type 0} (result : Result T E) (held : Held) (before after : List Original) (original : Original) → OnOk result (after ≡ before ++ original ∷ [])
    → AreFirstBytesOf (held.at original.path.now) (longest_file + 1) original.bytes.items → OnOk result (WereRead held before → WereRead held after)
read_more (Ok done) held before after original e h = λ so. subst (λ (l : List Original). WereRead held l) (sym e) (read_end held before original so h)
read_more (Err fault) held before after original e h = tt
