-- Parts of a text, one after another.
use Rattle.std.proofs.Common.{◌≡◌, ◌++◌, List, [], ℕ}
use Rattle.std.proofs.lemmas.List.{append_assoc}

pub in_three : (start a b c x y z : List ℕ) → start ≡ [] → a ≡ start ++ x → b ≡ a ++ y → c ≡ b ++ z → c ≡ x ++ (y ++ z)
in_three start a b c x y z e0 e1 e2 e3 = rw (e3, e2, e1, e0) (append_assoc x y z)
