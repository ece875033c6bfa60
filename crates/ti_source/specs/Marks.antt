-- The bytes with a meaning in terminfo(5) source.
use Rattle.std.specs.Prelude.{ℕ, List, [], ◌∷◌}

abbrev pub tab : ℕ
tab = 9

abbrev pub line_feed : ℕ
line_feed = 10

abbrev pub carriage_return : ℕ
carriage_return = 13

abbrev pub space : ℕ
space = 32

-- before a number, and at the start of a comment
abbrev pub hash : ℕ
hash = 35

abbrev pub percent : ℕ
percent = 37

-- after a field
abbrev pub comma : ℕ
comma = 44

-- before a field that is left out
abbrev pub period : ℕ
period = 46

abbrev pub colon : ℕ
colon = 58

-- before a string
abbrev pub equals : ℕ
equals = 61

-- after a cancelled name
abbrev pub at_sign : ℕ
at_sign = 64

abbrev pub backslash : ℕ
backslash = 92

abbrev pub caret : ℕ
caret = 94

-- between the names of an entry
abbrev pub bar : ℕ
bar = 124

-- use=
abbrev pub use_mark : List ℕ
use_mark = 117 ∷ 115 ∷ 101 ∷ equals ∷ []
