-- How `feed` ends.
use Rattle.std.proofs.Common.{◌≡◌, ◌≤◌, [], ℕ, List, None, subst, sym, length}
use Rattle.ti_files.specs.Failures.{IsFileFailure}
use Rattle.ti_files.specs.Contents.{AreBytesOf, Held, longest_file}
use Rattle.ti_files.specs.Sizes.{LacksSize, SizeGiven}
use Rattle.ti_commands.specs.Feeds.{FailsToFeed, ShowsAfter, ShowsScreen, IsStuckFailure}
use Rattle.ti_files.specs.declared.failure.Failure.{Failure}
use Rattle.ti_files.specs.declared.failure.Failure.TheVariants.{Refused, RefusedUnwritten, Usage, File, Output, NoMemory}
use Rattle.ti_files.specs.declared.failure.CommandRefusal.TheVariants as refusals
use Rattle.ti_files.specs.declared.failure.Reply.{Reply}

pub size_told : (held : Held) (rows cols path : List ℕ) (e : Failure) → LacksSize rows cols e → FailsToFeed held rows cols path e
size_told held rows cols path (Refused refusals.Size) h = h
size_told held rows cols path (Refused (refusals.Stuck stuck)) h = absurd h
size_told held rows cols path (Refused (refusals.Escape fault)) h = absurd h
size_told held rows cols path (Refused (refusals.Parm fault)) h = absurd h
size_told held rows cols path (Refused (refusals.Token fault)) h = absurd h
size_told held rows cols path (Refused (refusals.Source fault)) h = absurd h
size_told held rows cols path (Refused (refusals.Resolve fault)) h = absurd h
size_told held rows cols path (Refused (refusals.Pack fault)) h = absurd h
size_told held rows cols path (Refused (refusals.Verdict words)) h = absurd h
size_told held rows cols path (RefusedUnwritten refusal) h = absurd h
size_told held rows cols path (Usage text) h = h
size_told held rows cols path (File told) h = absurd h
size_told held rows cols path Output h = absurd h
size_told held rows cols path NoMemory h = tt

pub file_told : (held : Held) (rows cols path : List ℕ) (height width : ℕ) → SizeGiven rows cols height width → (e : Failure) → IsFileFailure path e → FailsToFeed held rows cols path e
file_told held rows cols path height width given (Refused refusal) h = absurd h
file_told held rows cols path height width given (RefusedUnwritten refusal) h = absurd h
file_told held rows cols path height width given (Usage text) h = absurd h
file_told held rows cols path height width given (File told) h = ((height, width, given), h)
file_told held rows cols path height width given Output h = absurd h
file_told held rows cols path height width given NoMemory h = tt

stuck_at : (held : Held) (rows cols path : List ℕ) (height width : ℕ) → SizeGiven rows cols height width → (bytes : List ℕ) (e : Failure) → AreBytesOf (held.at path) bytes → length bytes ≤ longest_file → IsStuckFailure height width bytes e → FailsToFeed held rows cols path e
stuck_at held rows cols path height width given bytes (Refused (refusals.Stuck stuck)) whole short h =
    record { height = height; width = width; given = given; sticks = record { bytes = bytes; whole = whole; short = short; holds = h } }
stuck_at held rows cols path height width given bytes (Refused refusals.Size) whole short h = absurd h
stuck_at held rows cols path height width given bytes (Refused (refusals.Escape fault)) whole short h = absurd h
stuck_at held rows cols path height width given bytes (Refused (refusals.Parm fault)) whole short h = absurd h
stuck_at held rows cols path height width given bytes (Refused (refusals.Token fault)) whole short h = absurd h
stuck_at held rows cols path height width given bytes (Refused (refusals.Source fault)) whole short h = absurd h
stuck_at held rows cols path height width given bytes (Refused (refusals.Resolve fault)) whole short h = absurd h
stuck_at held rows cols path height width given bytes (Refused (refusals.Pack fault)) whole short h = absurd h
stuck_at held rows cols path height width given bytes (Refused (refusals.Verdict words)) whole short h = absurd h
stuck_at held rows cols path height width given bytes (RefusedUnwritten refusal) whole short h = absurd h
stuck_at held rows cols path height width given bytes (Usage text) whole short h = absurd h
stuck_at held rows cols path height width given bytes (File told) whole short h = absurd h
stuck_at held rows cols path height width given bytes Output whole short h = absurd h
stuck_at held rows cols path height width given bytes NoMemory whole short h = tt

pub stuck_told : (held : Held) (rows cols path : List ℕ) (height width : ℕ) → SizeGiven rows cols height width → (bytes slice : List ℕ) (e : Failure) → AreBytesOf (held.at path) bytes → length bytes ≤ longest_file → slice ≡ bytes → IsStuckFailure height width slice e → FailsToFeed held rows cols path e
stuck_told held rows cols path height width given bytes slice e whole short s told =
    stuck_at held rows cols path height width given bytes e whole short (subst (λ (l : List ℕ). IsStuckFailure height width l e) s told)

pub screen_shown : (held : Held) (rows cols path : List ℕ) (height width : ℕ) → SizeGiven rows cols height width → (bytes slice text : List ℕ) (reply : Reply) → AreBytesOf (held.at path) bytes → length bytes ≤ longest_file → slice ≡ bytes → ShowsAfter height width slice text → reply.notes.items ≡ [] → reply.text.items ≡ text → reply.failure ≡ None → ShowsScreen held rows cols path reply
screen_shown held rows cols path height width given bytes slice text reply whole short s shows notes t done = record {
  height = height;
  width = width;
  given = given;
  shows = record {
    bytes = bytes;
    whole = whole;
    short = short;
    holds = subst (λ (l : List ℕ). ShowsAfter height width l reply.text.items) s
        (subst (λ (l : List ℕ). ShowsAfter height width slice l) (sym t) shows);
  };
  notes = notes;
  done = done;
}
