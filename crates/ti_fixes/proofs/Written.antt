-- A field that was written into a text.
use Rattle.std.proofs.Common.{◌≡◌, ◌∙◌, ℕ, List, [], ◌∷◌, ◌++◌, true, Option, Some, IfSome, ap, refl, subst}
use Rattle.std.specs.Prelude.{IsTrue, not, ◌==◌}
use Rattle.std.specs.List.{list_all}
use Rattle.ti_caps.specs.Fits.{is_one_field}
use Rattle.ti_caps.specs.declared.fits.Opener.TheVariants.{Nothing}
use Rattle.ti_fixes.specs.Texts.{IsWritten, field_text}

pub added_so : (cap : ℕ) (string front own back new : List ℕ) → own ≡ 32 ∷ (field_text cap string ++ 44 ∷ []) → new ≡ front ++ (own ++ back) → IsWritten cap string (front ++ back) new
added_so cap string front own back new spelled is = IsWritten.Added front back refl (is ∙ ap (λ (t : List ℕ). front ++ (t ++ back)) spelled)

pub replaced_so : (cap : ℕ) (string front own field back new : List ℕ) → IsTrue (list_all (λ b. not (b == 10)) own) → is_one_field Nothing own ≡ true → field ≡ field_text cap string → new ≡ front ++ (field ++ back) → IsWritten cap string (front ++ (own ++ back)) new
replaced_so cap string front own field back new line one spelled is = IsWritten.Replaced front own back refl line one (is ∙ ap (λ (t : List ℕ). front ++ (t ++ back)) spelled)

-- the two parts of a text are the text
pub parts_of : (cap : ℕ) (string text front rest new : List ℕ) → front ++ rest ≡ text → IsWritten cap string (front ++ rest) new → IsWritten cap string text new
parts_of cap string text front rest new is h = subst (λ (t : List ℕ). IsWritten cap string t new) is h

-- what holds of an option's value, if there is one
pub known_some : {X : Type 0} (P : X → Type 0) (o : Option X) (x : X) → o ≡ Some x → IfSome o P → P x
known_some P o x is h = subst (λ (p : Option _). IfSome p P) is h
