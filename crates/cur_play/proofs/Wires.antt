-- A run stated over another wire that tells as much: its subject, its end, and the consequences of its log.
use Rattle.std.proofs.Common.{◌≡◌, ℕ, List, [], ◌∷◌, Option, sym, subst}
use Rattle.std.specs.List.{AllByRecursion}
use Rattle.std.proofs.lemmas.List.{append-nil}
use Rattle.vt_term.specs.Screen.{State}
use Rattle.vt_term.specs.Ends.{Ends}
use Rattle.vt_term.proofs.Runs.{runs_nothing}
use Rattle.ti_conforms.specs.Certified.{Table, IsLost}
use Rattle.cur_steps.specs.Wire.{IsWire, Rose}
use Rattle.cur_paint.specs.Update.{IsFresh}
use Rattle.cur_scripts.specs.declared.calls.Call.{Call}
use Rattle.cur_play.specs.Log.{Moment, Plays, Ran, Subject, Tells, first_moment, subject_at, subject_of}
use Rattle.cur_play.specs.declared.answers.Answer.TheVariants.{WireFailed}
use Rattle.cur_play.specs.declared.runs.LogEntry.{LogEntry}

-- ---- nothing more goes out

plays_further : {W : Type 0} (about : Subject W) → IsWire about.went about.failures → (before : Moment W) (calls : List Call) (log : List LogEntry) (mid new : W) (all : List ℕ)
    → Plays about before calls log mid all → about.went mid new [] → Plays about before calls log new all
plays_further about laws before [] [] mid new all h k = (laws.joins before.wire mid new [] [] h.0 k, h.1)
plays_further about laws before [] (e ∷ log) mid new all h k = absurd h
plays_further about laws before (call ∷ calls) [] mid new all h k = absurd h
plays_further about laws before (call ∷ calls) (e ∷ log) mid new all h k = (h.0, h.1, plays_further about laws h.0 calls log mid new all h.2 k)

pub ran_further : {W : Type 0} (about : Subject W) → IsWire about.went about.failures → (old mid new : W) (calls : List Call) (log : List LogEntry) → Ran about old mid calls log → about.went mid new [] → Ran about old new calls log
ran_further about laws old mid new calls log r k =
    let P : List ℕ → Type 0 = λ x. about.went old new x in
    record {
      bytes = r.bytes;
      sent = subst P (append-nil r.bytes) (laws.joins old mid new r.bytes [] r.sent k);
      counted = r.counted;
      plays = plays_further about laws (first_moment about old) calls log mid new r.bytes r.plays k;
    }

-- ---- from one wire to another

-- One wire tells everything that another one does, if all is well with the other at the end.
pub record Follows {V W : Type 0} (went : V → V → List ℕ → Type 0) (failures : V → ℕ) (tells : W → W → List ℕ → Type 0) (fails : W → ℕ) (f : V → W) (IsWell : V → Type 0) : Type 0 where
  pub sooner : (a b : V) (x : List ℕ) → went a b x → IsWell b → IsWell a
  pub goes : (a b : V) (x : List ℕ) → went a b x → IsWell b → tells (f a) (f b) x
  pub rises : (a b : V) → IsWell b → Rose (failures a) (failures b) → Rose (fails (f a)) (fails (f b))

abbrev seen : {V W : Type 0} → (V → W) → Moment V → Moment W
seen f m = record { wire = f m.wire; bytes = m.bytes; scene = m.scene; last = m.last; last_mode = m.last_mode }

well_before : {V W : Type 0} (went : V → V → List ℕ → Type 0) (failures : V → ℕ) (rests : V → Type 0) (tells : W → W → List ℕ → Type 0) (fails : W → ℕ) (f : V → W) (IsWell : V → Type 0) → Follows went failures tells fails f IsWell
    → (t : Table) (partners : ℕ → Option ℕ) (before : Moment V) (calls : List Call) (log : List LogEntry) (new : V) (all : List ℕ) → Plays (subject_at went failures rests t partners) before calls log new all → IsWell new → IsWell before.wire
well_before went failures rests tells fails f IsWell k t partners before [] [] new all h w = k.sooner before.wire new [] h.0 w
well_before went failures rests tells fails f IsWell k t partners before [] (e ∷ log) new all h w = absurd h
well_before went failures rests tells fails f IsWell k t partners before (call ∷ calls) [] new all h w = absurd h
well_before went failures rests tells fails f IsWell k t partners before (call ∷ calls) (e ∷ log) new all h w =
    k.sooner before.wire h.0.wire h.1.piece h.1.went (well_before went failures rests tells fails f IsWell k t partners h.0 calls log new all h.2 w)

tells_over : {V W : Type 0} (went : V → V → List ℕ → Type 0) (failures : V → ℕ) (rests : V → Type 0) (tells : W → W → List ℕ → Type 0) (fails : W → ℕ) (f : V → W) (IsWell : V → Type 0) → Follows went failures tells fails f IsWell
    → (t : Table) (partners : ℕ → Option ℕ) (before : Moment V) (call : Call) (e : LogEntry) (after : Moment V) → Tells (subject_at went failures rests t partners) before call e after → IsWell after.wire
    → Tells (subject_of tells fails t partners) (seen f before) call e (seen f after)
tells_over went failures rests tells fails f IsWell k t partners before call e after h w = record {
  step = h.step;
  piece = h.piece;
  went = k.goes before.wire after.wire h.piece h.went w;
  bytes = h.bytes;
  counted = h.counted;
  emits = h.emits;
  rests = tt;
  failed = λ a. k.rises before.wire after.wire w (h.failed a);
  takes = h.takes;
  shows = h.shows;
  bound = h.bound;
  idle = h.idle;
  last = h.last;
  last_mode = h.last_mode;
}

plays_over : {V W : Type 0} (went : V → V → List ℕ → Type 0) (failures : V → ℕ) (rests : V → Type 0) (tells : W → W → List ℕ → Type 0) (fails : W → ℕ) (f : V → W) (IsWell : V → Type 0) → Follows went failures tells fails f IsWell
    → (t : Table) (partners : ℕ → Option ℕ) (before : Moment V) (calls : List Call) (log : List LogEntry) (new : V) (all : List ℕ) → Plays (subject_at went failures rests t partners) before calls log new all → IsWell new
    → Plays (subject_of tells fails t partners) (seen f before) calls log (f new) all
plays_over went failures rests tells fails f IsWell k t partners before [] [] new all h w = (k.goes before.wire new [] h.0 w, h.1)
plays_over went failures rests tells fails f IsWell k t partners before [] (e ∷ log) new all h w = absurd h
plays_over went failures rests tells fails f IsWell k t partners before (call ∷ calls) [] new all h w = absurd h
plays_over went failures rests tells fails f IsWell k t partners before (call ∷ calls) (e ∷ log) new all h w = (
  seen f h.0,
  tells_over went failures rests tells fails f IsWell k t partners before call e h.0 h.1 (well_before went failures rests tells fails f IsWell k t partners h.0 calls log new all h.2 w),
  plays_over went failures rests tells fails f IsWell k t partners h.0 calls log new all h.2 w,
)

pub ran_over : {V W : Type 0} (went : V → V → List ℕ → Type 0) (failures : V → ℕ) (rests : V → Type 0) (tells : W → W → List ℕ → Type 0) (fails : W → ℕ) (f : V → W) (IsWell : V → Type 0) → Follows went failures tells fails f IsWell
    → (t : Table) (partners : ℕ → Option ℕ) (old new : V) (calls : List Call) (log : List LogEntry) → Ran (subject_at went failures rests t partners) old new calls log → IsWell new → Ran (subject_of tells fails t partners) (f old) (f new) calls log
ran_over went failures rests tells fails f IsWell k t partners old new calls log r w = record {
  bytes = r.bytes;
  sent = k.goes old new r.bytes r.sent w;
  counted = r.counted;
  plays = plays_over went failures rests tells fails f IsWell k t partners (first_moment (subject_at went failures rests t partners) old) calls log new r.bytes r.plays w;
}

-- ---- consequences of the whole run

plays_taken : {W : Type 0} (about : Subject W) (before : Moment W) (calls : List Call) (log : List LogEntry) (new : W) (all : List ℕ) → Plays about before calls log new all
    → ((s : State) → IsFresh about.table s → Ends s before.bytes (IsLost about.table)) → (s : State) → IsFresh about.table s → Ends s all (IsLost about.table)
plays_taken about before [] [] new all h k s f = let P : List ℕ → Type 0 = λ x. Ends s x (IsLost about.table) in subst P (sym h.1) (k s f)
plays_taken about before [] (e ∷ log) new all h k s f = absurd h
plays_taken about before (call ∷ calls) [] new all h k s f = absurd h
plays_taken about before (call ∷ calls) (e ∷ log) new all h k s f = plays_taken about h.0 calls log new all h.2 h.1.takes s f

-- a terminal that began in a first state takes all that was sent
pub ran_taken : {W : Type 0} (about : Subject W) (old new : W) (calls : List Call) (log : List LogEntry) → (r : Ran about old new calls log) → (s : State) → IsFresh about.table s → Ends s r.bytes (IsLost about.table)
ran_taken about old new calls log r s f = plays_taken about (first_moment about old) calls log new r.bytes r.plays (λ u g. record { after = u; runs = runs_nothing u g.lost.sized.state.rest; there = g.lost }) s f

plays_through : {W : Type 0} (about : Subject W) → ((a b : W) → Rose (about.failures a) (about.failures b) → ⊥) → (before : Moment W) (calls : List Call) (log : List LogEntry) (new : W) (all : List ℕ) → Plays about before calls log new all
    → AllByRecursion (λ (e : LogEntry). e.answer ≡ WireFailed → ⊥) log
plays_through about never before [] [] new all h = tt
plays_through about never before [] (e ∷ log) new all h = absurd h
plays_through about never before (call ∷ calls) [] new all h = absurd h
plays_through about never before (call ∷ calls) (e ∷ log) new all h = (λ a. never before.wire h.0.wire (h.1.failed a), plays_through about never h.0 calls log new all h.2)

-- if no failure is counted, no call was cut short
pub ran_through : {W : Type 0} (about : Subject W) → ((a b : W) → Rose (about.failures a) (about.failures b) → ⊥) → (old new : W) (calls : List Call) (log : List LogEntry) → Ran about old new calls log
    → AllByRecursion (λ (e : LogEntry). e.answer ≡ WireFailed → ⊥) log
ran_through about never old new calls log r = plays_through about never (first_moment about old) calls log new r.bytes r.plays
