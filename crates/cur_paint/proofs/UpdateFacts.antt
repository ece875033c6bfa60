-- From all bytes of a refresh to its promise.
use Rattle.std.proofs.Common.{◌≡◌, ℕ, ◌<◌, ◌≤◌, List, ◌++◌, length, Option, Some, Ok, Err, refl, ap, subst, ◌∙◌, inl, inr, arith, append_assoc, length-append}
use Rattle.vt_term.specs.Screen.{State}
use Rattle.cur_steps.specs.Leads.{Leads}
use Rattle.cur_steps.specs.Wire.{StopsIn}
use Rattle.cur_steps.proofs.Completion.{ends_as}
use Rattle.cur_steps.specs.declared.beliefs.Belief.{Belief}
use Rattle.cur_steps.specs.declared.beliefs.Mode.{Mode}
use Rattle.cur_steps.specs.declared.beliefs.Place.{Place}
use Rattle.cur_steps.specs.declared.inks.Ink.{Ink}
use Rattle.ti_conforms.specs.Certified.{Table, IsLost, IsPiece}
use Rattle.cur_steps.specs.Beliefs.{Agrees}
use Rattle.cur_paint.specs.Limits.{IsPlaced, IsWithin}
use Rattle.cur_paint.specs.Modes.{OnlyPaints, shown_mode}
use Rattle.cur_paint.specs.Rests.{EndsAt, HasNoWrap, IsRested, cursor_of, rested}
use Rattle.cur_paint.specs.Update.{Made, Lawful, opening, Begins, Fits, Refreshed, CutShort}
use Rattle.cur_paint.specs.declared.updates.Wanted.{Wanted}
use Rattle.cur_paint.specs.declared.updates.Knowledge.{Knowledge}
use Rattle.cur_paint.specs.declared.updates.Status.{Status}
use Rattle.cur_paint.specs.declared.updates.Status.TheVariants.{Known, Lost}
use Rattle.cur_paint.proofs.Agreeing.{agrees_plain, agrees_rested, agrees_shows, no_wrap}

-- no wrap is left if any byte went out
unwrapped : (t : Table) (g : ℕ → ℕ → Ink) (b : Belief) (cursor : Option Place) (n limit : ℕ) → IsWithin t cursor → n ≤ limit → 0 < n → EndsAt cursor limit b.place → (s : State) → Agrees t g b s → HasNoWrap cursor s.screen.pending
unwrapped t g b cursor n limit w le some (inl at) s h = no_wrap t g b cursor w at s h
unwrapped t g b cursor n limit w le some (inr none) s h = absurd (omega (arith, le, some, none))

-- the bytes are lawful
lawful : (t : Table) (n : ℕ) (A : State → Type 0) (status : Status) (now : Option Mode) (g : ℕ → ℕ → Ink) (w : Wanted) (b : Belief) (bytes : List ℕ) → IsWithin t w.cursor → Leads (IsPiece t) n (IsLost t) A bytes (Agrees t g b) → Begins t status w.clear bytes
    → IsPlaced t.cols w.cursor b.place → EndsAt w.cursor n b.place → IsRested b → b.mode ≡ Some w.mode → OnlyPaints t (opening t status w.clear) now w.cursor w.mode bytes → Lawful t A status now bytes g w
lawful t n A status now g w b bytes within leads begins there at plainly mode quiet = record {
  pieces = leads.pieces;
  made = leads.made;
  each = leads.each;
  begins = begins;
  shows = λ s f. ends_as s bytes (Agrees t g b) _ (agrees_shows t g b w there mode) (leads.ends s f);
  quiet = quiet;
  plain = λ s f. ends_as s bytes (Agrees t g b) _ (agrees_plain t g b plainly) (leads.ends s f);
  unwrapped = λ some s f. ends_as s bytes (Agrees t g b) _ (unwrapped t g b w.cursor (length bytes) n within leads.bound some at) (leads.ends s f);
}

pub refreshed : {W T E : Type 0} (went : W → W → List ℕ → Type 0) (failures : W → ℕ) (a z : W) (v : T) (t : Table) (shown g : ℕ → ℕ → Ink) (w : Wanted) (before : Knowledge) (after : Belief) → IsWithin t w.cursor
    → Made {T = T} {E = E} went failures a z (Ok v) t shown g w before.status (rested before.cursor) after → Refreshed went a z t shown g w before (record { status = Known; cursor = cursor_of after })
refreshed went failures a z v t shown g w before after within d = record {
  bytes = d.bytes;
  sent = d.sends;
  bound = d.leads.bound;
  lawful = lawful t _ _ before.status (shown_mode before.status before.cursor.mode) g w after d.bytes within d.leads d.begins d.there d.at d.rested d.mode d.quiet;
  fits = λ s f. ends_as s d.bytes (Agrees t g after) (Agrees t g (rested (cursor_of after))) (agrees_rested t g after d.rested) (d.leads.ends s f);
  cut = d.leads.cut;
  known = refl;
  there = d.there;
  mode = d.mode;
}

-- a prefix of a prefix
pub front_of_front : (bytes front back x y : List ℕ) → bytes ≡ front ++ back → front ≡ x ++ y → bytes ≡ x ++ (y ++ back)
front_of_front bytes front back x y whole part = whole ∙ ap (λ (l : List ℕ). l ++ back) part ∙ append_assoc x y back

pub cut_short : {W T E : Type 0} (went : W → W → List ℕ → Type 0) (failures : W → ℕ) (a z : W) (v : E) (t : Table) (shown g : ℕ → ℕ → Ink) (w : Wanted) (before after : Knowledge) (b : Belief) → IsWithin t w.cursor → after.status ≡ Lost
    → Made {T = T} {E = E} went failures a z (Err v) t shown g w before.status (rested before.cursor) b → CutShort went failures a z t shown g w before after
cut_short went failures a z v t shown g w before after b within lost d =
    let stops : StopsIn went failures a z d.bytes = d.sends in
    let P : List ℕ → Type 0 = λ l. Lawful t (Fits t shown before.status before.cursor) before.status (shown_mode before.status before.cursor.mode) l g w in
    record {
      front = stops.front;
      back = stops.back;
      sent = stops.sent;
      failed = stops.failed;
      bound = omega (arith, d.leads.bound, ap length stops.parts, length-append stops.front stops.back);
      lawful = subst P stops.parts (lawful t _ _ before.status (shown_mode before.status before.cursor.mode) g w b d.bytes within d.leads d.begins d.there d.at d.rested d.mode d.quiet);
      fits = d.leads.cut stops.front stops.back stops.parts;
      cut = λ x y e. d.leads.cut x (y ++ stops.back) (front_of_front d.bytes stops.front stops.back x y stops.parts e);
      lost = lost;
      some_left = stops.some_left;
    }
