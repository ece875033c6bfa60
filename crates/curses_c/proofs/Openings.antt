-- An opened session is an entry's, and has sent nothing.
use Rattle.std.proofs.Common.{◌≡◌, ℕ, ℤ, List, [], Option, FitsSigned, w32, to_z, of_z, inl, inr, sym, subst}
use Rattle.std.specs.Prelude.{IfErr, IfOk, IsErrAnd, Result, Ok, Err}
use Rattle.std.proofs.lemmas.Int.{to_z-of_z}
use Rattle.ti_caps.specs.Entry.{Content}
use Rattle.ti_cert.specs.Table.{CheckedTable}
use Rattle.ti_checker.specs.declared.causes.No.{No}
use Rattle.ti_checker.specs.declared.causes.Cause.TheVariants as causes
use Rattle.ti_without.specs.Without.{IsEnd}
use Rattle.ti_without.specs.declared.without.Without.{Without}
use Rattle.curses_c.specs.declared.codes.Failure.{Failure}
use Rattle.curses_c.specs.declared.codes.Failure.TheVariants.{NoCertificate}
use Rattle.curses_c.specs.Entries.{Gives, IsLess, IsOf, IsShown, IsUnleft}
use Rattle.curses_c.specs.Held.{IsBegun}
use Rattle.curses_c.specs.LeftOut.{left_text}
use Rattle.curses_c.specs.Sessions.{Holds, IsOpened, IsOpenedLess, IsTableFor, LacksLess, Takes}
use Rattle.curses_c.specs.declared.held.Held.{Held}

-- what was opened is held
pub taken : {B : Type 0} (content : B → Held) (opened : Result B Failure) (Opened : Held → Type 0) (Unopened : Failure → Type 0) (old new : Option Held) (code : ℤ)
    → IfOk opened (λ b. Opened (content b)) → IfErr opened Unopened → Holds content opened old code new → Takes Opened Unopened old code new
taken content (Ok b) Opened Unopened old new code ok err (held, number) = inl (content b, ok, held, number)
taken content (Err e) Opened Unopened old new code ok err (same, number) = inr (e, err, same, number)

-- the answer by a code, as it is handed on
pub taken_as : {B : Type 0} (content : B → Held) (opened : Result B Failure) (Opened : Held → Type 0) (Unopened : Failure → Type 0) (old new : Option Held) (code : ℤ) → FitsSigned w32 code
    → IfOk opened (λ b. Opened (content b)) → IfErr opened Unopened → Holds content opened old code new → Takes Opened Unopened old (to_z w32 (of_z w32 code)) new
taken_as content opened Opened Unopened old new code fits ok err holds =
    subst (λ (it : ℤ). Takes Opened Unopened old it new) (sym (to_z-of_z w32 code fits)) (taken content opened Opened Unopened old new code ok err holds)

pub opened : (bytes name : List ℕ) (rows cols : ℕ) (certificate : List ℕ) (entry : Content) (height width : ℕ) (checked : CheckedTable) (h : Held) → Gives bytes name entry → height ≡ rows → width ≡ cols → IsShown entry height width checked
    → IsTableFor entry height width certificate checked → h.session.painter.checked ≡ checked → IsBegun h → h.left_out.items ≡ []
    → IsOpened bytes name rows cols certificate h
opened bytes name rows cols certificate entry height width checked h gives r c shown accepted same begun whole = record {
  entry = entry;
  gives = gives;
  shown = subst (λ (x : CheckedTable). IsShown entry rows cols x) (sym same) (subst (λ (n : ℕ). IsShown entry rows n checked) c (subst (λ (n : ℕ). IsShown entry n width checked) r shown));
  accepted = subst (λ (x : CheckedTable). IsTableFor entry rows cols certificate x) (sym same) (subst (λ (n : ℕ). IsTableFor entry rows n certificate checked) c (subst (λ (n : ℕ). IsTableFor entry n width certificate checked) r accepted));
  begun = begun;
  whole = whole;
}

pub opened_less : (bytes name : List ℕ) (rows cols : ℕ) (entry : Content) (height width : ℕ) (less : Without) (h : Held) → Gives bytes name entry → height ≡ rows → width ≡ cols → IsLess entry height width less
    → h.session.painter.checked ≡ less.checked → IsBegun h → h.left_out.items ≡ left_text less.left_out.items
    → IsOpenedLess bytes name rows cols h
opened_less bytes name rows cols entry height width less h gives r c is same begun told = record {
  entry = entry;
  gives = gives;
  less = less;
  is_less = subst (λ (n : ℕ). IsLess entry rows n less) c (subst (λ (n : ℕ). IsLess entry n width less) r is);
  strings = same;
  told = told;
  begun = begun;
}

-- the refusal as the failure that a call hands on
pub unleft : {V : Type 0} (entry : Content) (rows cols : ℕ) (refusal : No) (r : Result V Failure) → IsEnd entry rows cols refusal → IsErrAnd r (λ e. IsOf causes.NoMemory NoCertificate refusal.cause e) → IfErr r (IsUnleft entry rows cols)
unleft entry rows cols refusal (Ok v) end is = tt
unleft entry rows cols refusal (Err e) end is = (refusal, end, is)

-- an entry that is there, but not all of whose strings at fault can be left out
pub unopened_less : {V : Type 0} (bytes name : List ℕ) (rows cols : ℕ) (entry : Content) (height width : ℕ) (e : Failure) (r : Result V Failure) → Gives bytes name entry → height ≡ rows → width ≡ cols → IsUnleft entry height width e
    → IsErrAnd r (λ f. f ≡ e) → IfErr r (LacksLess bytes name rows cols)
unopened_less bytes name rows cols entry height width e (Ok v) gives tall wide left same = tt
unopened_less bytes name rows cols entry height width e (Err f) gives tall wide left same =
    subst (λ (x : Failure). LacksLess bytes name rows cols x) (sym same) (inr (record {
      entry = entry;
      gives = gives;
      unleft = inl (subst (λ (n : ℕ). IsUnleft entry rows n e) wide (subst (λ (n : ℕ). IsUnleft entry n width e) tall left));
    }))
