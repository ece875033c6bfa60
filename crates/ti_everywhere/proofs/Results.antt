-- What holds of a result that may have run out of memory.
use Rattle.std.proofs.Common.{◌≡◌, ℕ, List, [], refl}
use Rattle.std.specs.Prelude.{Result, Ok, Err, IfOk}
use Rattle.ti_files.specs.declared.failure.Failure.{Failure}
use Rattle.ti_verdicts.specs.Refusals.{IsVerdict}

pub map_ok : {V E : Type 0} (r : Result V E) (P Q : V → Type 0) → ((v : V) → P v → Q v) → IfOk r P → IfOk r Q
map_ok (Ok v) P Q f h = f v h
map_ok (Err e) P Q f h = tt

-- a verdict has some words
pub some_words : {V E : Type 0} (r : Result V E) (items : V → List ℕ) (told : Failure) → ((text : List ℕ) → IfOk r (λ v. items v ≡ text) → IsVerdict text told) → (text : List ℕ) × IsVerdict text told
some_words (Ok v) items told f = (items v, f (items v) refl)
some_words (Err e) items told f = ([], f [] tt)
