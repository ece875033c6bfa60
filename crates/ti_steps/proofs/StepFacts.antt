-- Steps, one after another.
use Rattle.std.proofs.Common.{◌≡◌, ◌<◌, ◌∙◌, ◌+◌, ℕ, List, [], ◌∷◌, ◌++◌, true, length, take, get_or, ap, refl, sym, subst, below_more}
use Rattle.std.proofs.lemmas.List.{map-append, take_more}
use Rattle.std.specs.List.{AllByRecursion}
use Rattle.ti_caps.specs.Entry.{Content}
use Rattle.ti_fixes.specs.Files.{GivesFile, GivesFiles, Sheet, all_raws, sheets}
use Rattle.ti_steps.specs.Findings.{is_earned}
use Rattle.ti_steps.specs.Mended.{IsFaultless}
use Rattle.ti_steps.specs.Steps.{AreSteps, IsFairAt, IsRight, IsStep, Takes, changes_of}
use Rattle.ti_steps.specs.declared.advice.Finding.{Finding}
use Rattle.ti_steps.specs.declared.advice.Remedy.{Remedy}
use Rattle.ti_fixes.specs.declared.changes.Change.{Change}
use Rattle.ti_fixes.specs.declared.files.Texts.{Texts}
use Rattle.ti_steps.specs.declared.steps.Step.{Step}
use Rattle.ti_steps.specs.declared.steps.Step.TheVariants.{Done}
use Rattle.ti_fixes.proofs.FileFacts.{as_many_still, fit_still}
use Rattle.ti_source.specs.Raw.{IsRaw}
use Rattle.ti_source.specs.declared.types.RawEntry.{RawEntry}

-- ---- files of which no entry has a fault

same_file : (old new : Sheet) → GivesFile [] old new → new ≡ old
same_file old new (GivesFile.Same none same) = same
same_file old new (GivesFile.Changed h) = absurd (h.some refl)

gives_same : (olds news : List Sheet) → GivesFiles [] olds news → news ≡ olds
gives_same [] [] h = refl
gives_same [] (new ∷ news) h = absurd h
gives_same (old ∷ olds) [] h = absurd h
gives_same (old ∷ olds) (new ∷ news) h =
    ap (λ (sheet : Sheet). sheet ∷ news) (same_file old new h.0) ∙ ap (λ (sheets : List Sheet). old ∷ sheets) (gives_same olds news h.1)

-- nothing is of use to an entry without a fault
never_earned : (old new : List Finding) (one : Remedy) → old ≡ [] → is_earned old new one ≡ true → ⊥
never_earned [] new one none e = cc
never_earned (first ∷ others) new one none e = cc

step_none : (Finds : Content → List Finding → Type 0) (olds : List Sheet) (taken : List Remedy) (news : List Sheet) → IsFaultless Finds (all_raws olds) → IsStep Finds olds taken news → news ≡ olds
step_none Finds olds [] news right h = gives_same olds news h.gives
step_none Finds olds (one ∷ taken) news right h =
    let own = h.right.earned.0 in
    absurd (never_earned own.improves.old own.improves.new one (right one.root own.before own.improves.old own.gives own.improves.found) own.improves.earned)

pub steps_none : (Finds : Content → List Finding → Type 0) (olds news : List Sheet) → IsFaultless Finds (all_raws olds) → AreSteps Finds olds news → news ≡ olds
steps_none Finds olds news right AreSteps.NoStep = refl
steps_none Finds olds news right (AreSteps.Next mids _ taken before step) =
    let same = steps_none Finds olds mids right before in
    subst (λ (sheets : List Sheet). news ≡ sheets) same
    (step_none Finds mids taken news (subst (λ (sheets : List Sheet). IsFaultless Finds (all_raws sheets)) (sym same) right) step)

-- ---- one step more

-- the entries of all files, by another name
pub right_so : (Finds : Content → List Finding → Type 0) (taken : List Remedy) (old new : Texts) (olds news : List RawEntry) → olds ≡ old.raws.items → news ≡ new.raws.items → old.raws.items ≡ all_raws (sheets old.files.items) → new.raws.items ≡ all_raws (sheets new.files.items) → IsRight Finds taken olds news → IsRight Finds taken (all_raws (sheets old.files.items)) (all_raws (sheets new.files.items))
right_so Finds taken old new olds news o n p q h =
    subst (λ (raws : List RawEntry). IsRight Finds taken raws (all_raws (sheets new.files.items))) (o ∙ p)
    (subst (λ (raws : List RawEntry). IsRight Finds taken olds raws) (n ∙ q) h)

-- the files and the changes of a step, by other names
pub gives_so : (slice files : List Sheet) (changes other : List Change) (news : List Sheet) → slice ≡ files → changes ≡ other → GivesFiles changes slice news → GivesFiles other files news
gives_so slice files changes other news f c h =
    subst (λ (all : List Sheet). GivesFiles other all news) f (subst (λ (cs : List Change). GivesFiles cs slice news) c h)

-- one entry more
pub fair_next : (Finds : Content → List Finding → Type 0) (taken : List Remedy) (olds news : List RawEntry) (place : ℕ) → ((k : ℕ) → k < place → IsFairAt Finds taken olds news k) → IsFairAt Finds taken olds news place → (k : ℕ) → k < place + 1 → IsFairAt Finds taken olds news k
fair_next Finds taken olds news place h p = below_more _ _ h p

-- the changes of one remedy more
pub changes_next : (taken : List Remedy) (n : ℕ) (one : Remedy) (change : Change) (changes more : List Change) → more ≡ changes ++ change ∷ [] → change ≡ one.change → n < length taken → one ≡ get_or taken n one → changes ≡ changes_of (take n taken) → more ≡ changes_of (take (n + 1) taken)
changes_next taken n one change changes more pushed copy l is h =
    pushed
    ∙ (ap (λ (c : Change). changes ++ c ∷ []) (copy ∙ ap (λ (r : Remedy). r.change) is)
    ∙ (ap (λ (cs : List Change). cs ++ (get_or taken n one).change ∷ []) h
    ∙ sym (ap changes_of (take_more taken n one l) ∙ map-append (λ (r : Remedy). r.change) (take n taken) (get_or taken n one ∷ []))))

-- the files after one step more, which are those of some texts
pub record HaveSteps (Finds : Content → List Finding → Type 0) (source texts : Texts) : Type 0 where
  pub steps : AreSteps Finds (sheets source.files.items) (sheets texts.files.items)
  pub whole : texts.raws.items ≡ all_raws (sheets texts.files.items)
  pub fit : AllByRecursion IsRaw texts.raws.items
  pub many : length texts.raws.items ≡ length source.raws.items

pub steps_next : (Finds : Content → List Finding → Type 0) (source texts next : Texts) (step : Step) → step ≡ Done next → Takes Finds (sheets texts.files.items) step → HaveSteps Finds source texts → HaveSteps Finds source next
steps_next Finds source texts next step is h before =
    let done : Takes Finds (sheets texts.files.items) (Done next) = subst (λ (s : Step). Takes Finds (sheets texts.files.items) s) is h in
    record {
      steps = AreSteps.Next (sheets texts.files.items) (sheets next.files.items) done.0 before.steps done.1.0;
      whole = done.1.1;
      fit = subst (λ (raws : List RawEntry). AllByRecursion IsRaw raws) (sym done.1.1)
          (fit_still (changes_of done.0) (sheets texts.files.items) (sheets next.files.items) done.1.0.gives (subst (λ (raws : List RawEntry). AllByRecursion IsRaw raws) before.whole before.fit));
      many = ap length done.1.1
          ∙ (as_many_still (changes_of done.0) (sheets texts.files.items) (sheets next.files.items) done.1.0.gives
          ∙ (sym (ap length before.whole) ∙ before.many));
    }
