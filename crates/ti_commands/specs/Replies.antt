-- The replies of the commands that take entries.
use Rattle.std.specs.Prelude.{◌≡◌, ℕ, List, [], Option, Some, None, Result, Ok, Err}
use Rattle.std.specs.String.{string_bytes}
use Rattle.ti_caps.specs.Entry.{Content}
use Rattle.ti_compiled.specs.Written.{packing_of}
use Rattle.ti_source.specs.Prints.{text_of}
use Rattle.ti_commands.specs.Findings.{Finds, LacksEntry}
use Rattle.ti_files.specs.Contents.{Held, Stored}
use Rattle.ti_commands.specs.Listings.{comparison_text}
use Rattle.ti_commands.specs.declared.descriptions.Comparison.{Comparison}
use Rattle.ti_files.specs.declared.failure.Failure.{Failure}
use Rattle.ti_files.specs.declared.failure.Failure.TheVariants.{Refused, File, NoMemory}
use Rattle.ti_files.specs.declared.failure.CommandRefusal.{CommandRefusal}
use Rattle.ti_files.specs.declared.failure.CommandRefusal.TheVariants.{Pack}
use Rattle.ti_files.specs.declared.failure.Reply.{Reply}
use denote.Ref.{Bor}

-- the word gives this entry
abbrev pub GivesEntry : Held → List ℕ → Content → Type 0
GivesEntry held word entry = (notes : List ℕ) × Finds held word notes (Ok entry)

-- the reply is this text alone
pub record IsText (text : List ℕ) (reply : Reply) : Type 0 where
  pub no_notes : reply.notes.items ≡ []
  pub says : reply.text.items ≡ text
  pub done : reply.failure ≡ None

-- the text of the word's entry
pub record IsPrinted (held : Held) (word : List ℕ) (reply : Reply) : Type 0 where
  pub entry : Content
  pub gives : GivesEntry held word entry
  pub prints : IsText (text_of entry) reply

-- the list of the capabilities that two entries have in common, or that neither has
pub record IsCompared (held : Held) (first second : List ℕ) (comparison : Comparison) (reply : Reply) : Type 0 where
  pub one : Content
  pub other : Content
  pub gives_one : GivesEntry held first one
  pub gives_other : GivesEntry held second other
  pub lists : IsText (comparison_text comparison one other) reply

-- the first of two words gives an entry, and the second gives none, for this reason
pub record LacksSecond (held : Held) (first second : List ℕ) (failure : Failure) : Type 0 where
  pub one : Content
  pub gives_one : GivesEntry held first one
  pub lacks : LacksEntry held second failure

-- the entry's compiled file was stored at a path, and nothing else has changed
pub record IsStored (entry : Content) (path : List ℕ) (before after : Held) : Type 0 where
  pub file : List ℕ
  pub packs : packing_of entry ≡ Ok file
  pub stored : Stored before after path file

-- the compiled file could not be stored
pub record IsUnstored (entry : Content) (path told : List ℕ) : Type 0 where
  pub file : List ℕ
  pub packs : packing_of entry ≡ Ok file
  pub named : told ≡ path

-- the end of storing an entry's compiled file: if it fails, all files are as before
abbrev pub Stores : Content → List ℕ → Held → Held → Option Failure → Type 0
Stores entry path before after None = IsStored entry path before after
Stores entry path before after (Some (File told)) = IsUnstored entry path (string_bytes told) × (after ≡ before)
Stores entry path before after (Some (Refused (Pack fault))) = (packing_of entry ≡ Err fault) × (after ≡ before)
Stores entry path before after (Some NoMemory) = after ≡ before
Stores entry path before after (Some _) = ⊥

-- the end of a command that compiles an entry: there may be no entry, or no path to store it at
abbrev pub Outcome : Result Content CommandRefusal → Option (Bor (List ℕ)) → Held → Held → Option Failure → Type 0
Outcome (Err refusal) out before after failure = (failure ≡ Some (Refused refusal)) × (after ≡ before)
Outcome (Ok entry) None before after failure = (failure ≡ None) × (after ≡ before)
Outcome (Ok entry) (Some path) before after failure = Stores entry path.now before after failure

-- the notes of the word's source, and the end of the command
pub record IsCompiled (word : List ℕ) (out : Option (Bor (List ℕ))) (before after : Held) (reply : Reply) : Type 0 where
  pub entry : Result Content CommandRefusal
  pub finds : Finds before word reply.notes.items entry
  pub no_text : reply.text.items ≡ []
  pub outcome : Outcome entry out before after reply.failure
