-- `decode` returns exactly the entries in the layout.
use Rattle.std.proofs.Common.{◌≡◌, ℕ, suc, ◌<◌, List, [], ◌∷◌, get_or, sym, ◌∙◌, Ok, Err}
use Rattle.std.specs.Prelude.{Result, IfOk, IsOkAnd}
use Rattle.ti_caps.specs.Entry.{Content}
use Rattle.ti_compiled.specs.declared.types.PackFault.{PackFault}
use Rattle.ti_compiled.specs.Readings.{Is}
use Rattle.ti_compiled.specs.Contents.{read_of}
use Rattle.ti_compiled.specs.Packed.{IsPacked}
use Rattle.ti_compiled.proofs.Again.{packed_is_read}
use Rattle.ti_compiled.proofs.Takes.{AreBytes, read_is_packed}

pub bytes_by_index : (bytes : List ℕ) → ((i : ℕ) → get_or bytes i 0 < 256) → AreBytes bytes
bytes_by_index [] small = tt
bytes_by_index (b ∷ bytes) small = (small 0, bytes_by_index bytes (λ i. small (suc i)))

pub read_packed : (result : Result Content PackFault) (file : List ℕ) → AreBytes file → Is (λ e. e) result (read_of file) → IfOk result (λ entry. (rest : List ℕ) × IsPacked file entry rest)
read_packed (Ok entry) file small h = read_is_packed file entry small h
read_packed (Err fault) file small h = tt

pub read_only : (result : Result Content PackFault) (file : List ℕ) → Is (λ e. e) result (read_of file) → (entry : Content) (rest : List ℕ) → IsPacked file entry rest → IsOkAnd result (λ e. e ≡ entry)
read_only (Ok e) file h entry rest packed = let same = sym h ∙ packed_is_read file entry rest packed in cc
read_only (Err fault) file h entry rest packed =
    let same = sym h ∙ packed_is_read file entry rest packed in
    let bad : ⊥ = cc in absurd bad
