-- Calls that were cut short because the wire failed in them; the output of a call, by its answer.
use Rattle.std.proofs.Common.{◌≡◌, ◌<◌, ◌≤◌, ◌⊎◌, ℕ, Bool, true, false, List, ◌++◌, Option, Some, Err, refl, sym, ap, subst, ◌∙◌, inl, inr, arith}
use Rattle.std.proofs.lemmas.Bool.{cases_lt}
use Rattle.vt_term.specs.Screen.{State}
use Rattle.ti_rows.specs.declared.rows.Row.TheVariants.{Bel}
use Rattle.ti_conforms.specs.Certified.{Table, has}
use Rattle.cur_drawing.specs.declared.refusals.Refusal.{Refusal}
use Rattle.cur_screens.specs.VirtualScreen.{Screen}
use Rattle.cur_steps.specs.Wire.{Rose, last_count}
use Rattle.cur_steps.specs.declared.wires.WireFault.{WireFault}
use Rattle.cur_steps.specs.declared.beliefs.Mode.{Mode}
use Rattle.cur_steps.specs.declared.inks.Ink.{Ink}
use Rattle.cur_paint.specs.Modes.{OnlyPaints, shown_mode}
use Rattle.cur_paint.specs.Update.{Lawful, opening}
use Rattle.cur_paint.specs.declared.updates.Status.{Status}
use Rattle.cur_paint.specs.declared.updates.Status.TheVariants.{Fresh, Known, Lost}
use Rattle.cur_paint.specs.declared.updates.Wanted.{Wanted}
use Rattle.cur_update.specs.Beep.{RangShort, Rings}
use Rattle.cur_update.specs.Inks.{ink_at}
use Rattle.cur_update.specs.Painters.{Painted, wanted_of}
use Rattle.cur_update.specs.declared.bells.Unsent.{Unsent}
use Rattle.cur_update.specs.declared.bells.Unsent.TheVariants.{Wire}
use Rattle.cur_scripts.specs.declared.calls.Call.{Call}
use Rattle.cur_play.proofs.Performances.{draws_answer}
use Rattle.cur_play.specs.Deliveries.{FitsIn}
use Rattle.cur_play.specs.Drawings.{Drawn}
use Rattle.cur_play.specs.Log.{Emits, Says}
use Rattle.cur_play.specs.Outputs.{Puts, Told}
use Rattle.cur_play.specs.Scenes.{Scene}
use Rattle.cur_play.specs.Steps.{CallStep, Stepped, NoRoom, Failed, Step, drawn, is_sent, output_of, rung, sent, call_step, then_sent}
use Rattle.cur_play.specs.declared.answers.Answer.{Answer}
use Rattle.cur_play.specs.declared.answers.Answer.TheVariants.{Done, Was, Refused, WireFailed}
use Rattle.cur_play.specs.declared.sends.Emission.{Emission}
use Rattle.cur_play.specs.declared.sends.Emission.TheVariants.{Nothing, Update, Bell, End}

-- ---- only what is sent can be cut short

refused_unlike : (a : Answer) (r : Refusal) → a ≡ WireFailed → a ≡ Refused r → ⊥
refused_unlike a r e f = cc

rung_whole : (b : Bool) (status : Status) → rung b status ≡ WireFailed → ⊥
rung_whole false status e = cc
rung_whole true Lost e = cc
rung_whole true Fresh e = cc
rung_whole true Known e = cc

sent_whole : (t : Table) (o : Emission) (s : Scene) → (sent t o s).1 ≡ WireFailed → ⊥
sent_whole t Nothing s e = cc
sent_whole t Update s e = cc
sent_whole t Bell s e = rung_whole (has t Bel) s.status e
sent_whole t End s e = cc

then_whole : (t : Table) (o : Emission) (x : Step) → (x.1 ≡ WireFailed → ⊥) → (then_sent t o x).1 ≡ WireFailed → ⊥
then_whole t o (s, Done) h e = sent_whole t o s e
then_whole t o (s, Was n) h e = cc
then_whole t o (s, Refused r) h e = cc
then_whole t o (s, WireFailed) h e = h refl

step_whole : (t : Table) (s : Scene) (call : Call) → (call_step t s call).1 ≡ WireFailed → ⊥
step_whole t s call = then_whole t (output_of call) (drawn t s call) (draws_answer t s call (drawn t s call).1 (drawn t s call).0 (Drawn refl))

-- a call that was cut short sends
pub cut_sends : (t : Table) (s : Scene) (call : Call) (answer : Answer) (a : Scene) → CallStep t s call answer a → answer ≡ WireFailed → is_sent (output_of call) ≡ true
cut_sends t s call answer a (Stepped f) e = absurd (step_whole t s call (ap (λ (y : Step). y.1) (sym f) ∙ e))
cut_sends t s call answer a (NoRoom takes done f same) e = absurd (refused_unlike answer _ e f)
cut_sends t s call answer a (Failed sent done f same) e = sent

cut_rose : {W C : Type 0} (went : W → W → List ℕ → Type 0) (failures : W → ℕ) (old new : W) (t : Table) (partners : ℕ → Option ℕ) (v : Screen) (o : Emission) (bytes : List ℕ) (before after : Painted C)
    → Puts went failures old new t partners v o WireFailed bytes before after → is_sent o ≡ true → Rose (failures old) (failures new)
cut_rose went failures old new t partners v Nothing bytes before after h k = absurd (cc)
cut_rose went failures old new t partners v Update bytes before after h k = h.cut.failed
cut_rose went failures old new t partners v Bell bytes before after h k = h.sends.failed
cut_rose went failures old new t partners v End bytes before after h k = h.sends.failed

-- a call that was cut short has seen a failure
pub call_rose : {W C : Type 0} (went : W → W → List ℕ → Type 0) (failures : W → ℕ) (old new : W) (t : Table) (partners : ℕ → Option ℕ) (v : Screen) (call : Call) (s a : Scene) (answer : Answer) (bytes : List ℕ) (before after : Painted C)
    → CallStep t s call answer a → Puts went failures old new t partners v (output_of call) answer bytes before after → answer ≡ WireFailed → Rose (failures old) (failures new)
call_rose {W} {C} went failures old new t partners v call s a answer bytes before after call_step puts e =
    let P : Answer → Type 0 = λ x. Puts went failures old new t partners v (output_of call) x bytes before after in
    cut_rose went failures old new t partners v (output_of call) bytes before after (subst P e puts) (cut_sends t s call answer a call_step e)

stays_last : (m n : ℕ) → m ≡ last_count → n ≡ last_count → (k : ℕ) → n ≤ k → (n < k) ⊎ (k ≤ n) → Rose m k
stays_last m n e f k le (inl lt) = inl (omega (arith, e, f, lt))
stays_last m n e f k le (inr ge) = let same : k ≡ n = omega (arith, le, ge) in inr (e, same ∙ f)

-- a count that has risen at one moment has also risen at any later one
pub rose_sooner : (m n k : ℕ) → Rose m n → n ≤ k → Rose m k
rose_sooner m n k (inl lt) le = inl (omega (arith, lt, le))
rose_sooner m n k (inr last) le = stays_last m n last.0 last.1 k le (cases_lt n k)

-- a count that stays 0 has seen no failure
pub none_rose : (m n : ℕ) → n ≡ 0 → Rose m n → ⊥
none_rose m n e (inl lt) = omega arith
none_rose m n e (inr last) = omega (arith, e, last.1)

-- ---- the output of a call

-- a bell that was cut short
pub rung_short : {W C : Type 0} (went : W → W → List ℕ → Type 0) (failures : W → ℕ) (old new : W) (t : Table) (before after : Painted C) (e : Unsent) (fault : WireFault) → e ≡ Wire fault
    → Rings {T = Unit {0}} went failures old new (Err e) t before.session after.session → after.shown ≡ before.shown → (bytes : List ℕ) × Told (RangShort went failures old new t before.session after.session) (λ x. x.front) bytes before after
rung_short {W} {C} went failures old new t before after e fault is h shown =
    let P : Unsent → Type 0 = λ x. Rings {T = Unit {0}} went failures old new (Err x) t before.session after.session in
    let sends : RangShort went failures old new t before.session after.session = subst P is h in
    (sends.front, record { sends = sends; all = refl; shown = shown })

narrowed : (t : Table) (A B : State → Type 0) (status : Status) (m n : Option Mode) (x y : List ℕ) (g : ℕ → ℕ → Ink) (w : Wanted) → ((s : State) → B s → A s) → m ≡ n → x ≡ y → Lawful t A status m x g w → Lawful t B status n y g w
narrowed t A B status m n x y g w f same e h =
    let P : List ℕ → Type 0 = λ b. Lawful t B status n b g w in
    let Q : Option Mode → Type 0 = λ o. OnlyPaints t (opening t status w.clear) o w.cursor w.mode x in
    subst P e (record { pieces = h.pieces; made = h.made; each = h.each; begins = h.begins; shows = λ s b. h.shows s (f s b); quiet = subst Q same h.quiet; plain = λ s b. h.plain s (f s b); unwrapped = λ some s b. h.unwrapped some s (f s b) })

-- the mode matters in a known session alone
pub shown_same : (status : Status) (m n : Option Mode) → (status ≡ Known → m ≡ n) → shown_mode status m ≡ shown_mode status n
shown_same Fresh m n h = refl
shown_same Known m n h = h refl
shown_same Lost m n h = refl

not_sent : false ≡ true → ⊥
not_sent e = cc

-- from all states that fit to some of them
pub emitted : {W C : Type 0} (went : W → W → List ℕ → Type 0) (failures : W → ℕ) (old new : W) (t : Table) (partners : ℕ → Option ℕ) (v : Screen) (o : Emission) (answer : Answer) (bytes : List ℕ) (before after : Painted C)
    (kind : State → Type 0) (now : Option Mode) → ((s : State) → kind s → FitsIn t partners before s) → shown_mode before.session.status before.session.cursor.mode ≡ now
    → (answer ≡ WireFailed → is_sent o ≡ true) → Puts went failures old new t partners v o answer bytes before after → Emits (Says t partners kind before.session.status now v before.mode o) answer bytes
emitted went failures old new t partners v Nothing Done bytes before after kind now f same cut p = p.none
emitted went failures old new t partners v Nothing WireFailed bytes before after kind now f same cut p = absurd (not_sent (cut refl))
emitted went failures old new t partners v Nothing (Was n) bytes before after kind now f same cut p = p.none
emitted went failures old new t partners v Nothing (Refused r) bytes before after kind now f same cut p = p.none
emitted went failures old new t partners v Update (Was n) bytes before after kind now f same cut p = p.none
emitted went failures old new t partners v Update (Refused r) bytes before after kind now f same cut p = p.none
emitted went failures old new t partners v Bell (Was n) bytes before after kind now f same cut p = p.none
emitted went failures old new t partners v Bell (Refused r) bytes before after kind now f same cut p = p.none
emitted went failures old new t partners v End (Was n) bytes before after kind now f same cut p = p.none
emitted went failures old new t partners v End (Refused r) bytes before after kind now f same cut p = p.none
emitted went failures old new t partners v Update Done bytes before after kind now f same cut p =
    narrowed t (FitsIn t partners before) kind before.session.status _ now p.refreshed.bytes bytes (ink_at t partners v) (wanted_of v before.mode) f same (sym p.all) p.refreshed.lawful
emitted went failures old new t partners v Update WireFailed bytes before after kind now f same cut p = record {
  back = p.cut.back;
  is = narrowed t (FitsIn t partners before) kind before.session.status _ now (p.cut.front ++ p.cut.back) (bytes ++ p.cut.back) (ink_at t partners v) (wanted_of v before.mode) f same (ap (λ (l : List ℕ). l ++ p.cut.back) (sym p.all)) p.cut.lawful;
  some_left = p.cut.some_left;
}
emitted went failures old new t partners v Bell Done bytes before after kind now f same cut p = p.sends.is ∙ ap (λ (l : List ℕ). Some l) (sym p.all)
emitted went failures old new t partners v Bell WireFailed bytes before after kind now f same cut p = record {
  back = p.sends.back;
  is = p.sends.is ∙ ap (λ (l : List ℕ). Some l) (p.sends.parts ∙ ap (λ (l : List ℕ). l ++ p.sends.back) (sym p.all));
  some_left = p.sends.some_left;
}
emitted went failures old new t partners v End Done bytes before after kind now f same cut p = p.all
emitted went failures old new t partners v End WireFailed bytes before after kind now f same cut p = record { back = p.sends.back; is = ap (λ (l : List ℕ). l ++ p.sends.back) p.all ∙ sym p.sends.parts; some_left = p.sends.some_left }
