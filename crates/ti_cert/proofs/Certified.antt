-- The facts that a painter needs of a certificate hold of every verified one.
use Rattle.std.proofs.Common.{◌≡◌, ◌+◌, ◌&&◌, ℕ, max, Bool, true, false, if◌then◌else◌, List, length, Some, refl, sym, ◌∙◌, arith}
use Rattle.ti_rows.specs.declared.rows.Row.{Row}
use Rattle.ti_rows.specs.declared.rows.Row.TheVariants.{Sgr, Sgr0, Smacs, Rmacs}
use Rattle.ti_rows.specs.Names.{no_attributes}
use Rattle.ti_conforms.specs.Charsets.{reset_charset}
use Rattle.ti_conforms.specs.Certified.{IsCheckedLine, IsChecked, HasSingles, text_of, lengths, singles}
use Rattle.ti_conforms.specs.Looks.{SingleLooks}
use Rattle.ti_conforms.specs.Sets.{AtReset}
use Rattle.ti_conforms.specs.Table.{has}
use Rattle.ti_conforms.specs.Resync.{resync_rows}
use Rattle.ti_conforms.proofs.Sendable.{drives, resyncs, resync_fronts, pieces_of, each_piece, line_there, made}
use Rattle.ti_cert.specs.Lengths.{longest_line, longest_change, longest_in, singly}
use Rattle.ti_cert.specs.Table.{CheckedTable, table_of, certified}
use Rattle.ti_cert.specs.Verified.{IsVerified}
use Rattle.ti_cert.proofs.Lengths.{short}
use Rattle.ti_cert.proofs.Smallness.{is_small}

line : (c : CheckedTable) → IsVerified c → (row : Row) (bytes : List ℕ) → (certified c).line_of row ≡ Some bytes → IsCheckedLine (certified c) row bytes
line c v row bytes h = record {
  drives = drives (table_of c) v.holds row bytes h;
  short = short c v.together row bytes (line_there (table_of c) row bytes h) h;
}

not_taken : (b : Bool) (m n : ℕ) → b ≡ false → (if b then m else n) ≡ n
not_taken true m n h = cc
not_taken false m n h = refl

single_looks : (c : CheckedTable) → SingleLooks (λ row. has (table_of c) row) c.known.looks → SingleLooks (λ row. has (certified c) row) c.known.looks
single_looks c l = record {
  underline = l.underline;
  reverse = l.reverse;
  blink = l.blink;
  dim = l.dim;
  bold = l.bold;
  invisible = l.invisible;
  standout = l.standout;
}

has_singles : (c : CheckedTable) → IsVerified c → has (certified c) (Sgr no_attributes) ≡ false → HasSingles (certified c)
unfolding longest_in
has_singles c v h = record {
  looks = single_looks c (v.looks h);
  short =
      let e : longest_change c.known.strings ≡ singly c.known.strings
      = not_taken (has (table_of c) (Sgr no_attributes)) (max (longest_line c.known.strings (Sgr no_attributes)) (longest_line c.known.strings Sgr0)) (singly c.known.strings) h in
      let same : length (text_of (certified c) Sgr0) + lengths (certified c) singles ≡ singly c.known.strings = refl in
      omega arith;
}

second_false : (a b : Bool) → b ≡ false → (a && b) ≡ false
second_false true b h = h
second_false false b h = refl

pub is_checked : (c : CheckedTable) → IsVerified c → IsChecked (certified c)
is_checked c v = record {
  size = v.size;
  small = is_small c v.few;
  lines = line c v;
  moves = v.together.moves;
  clears = v.together.clears;
  plain = v.together.makes_plain;
  attributes = λ h a. sym (v.together.whole (Sgr no_attributes) (Sgr a) refl tt tt) ∙ h;
  singles = has_singles c v;
  foregrounds = λ h color. v.together.foregrounds color ∙ h;
  backgrounds = λ h color. v.together.backgrounds color ∙ h;
  sets = λ h. sym v.together.sets ∙ h;
  plain_sets = λ h x settled. v.holds.sets.plain (second_false (has (table_of c) Smacs) (has (table_of c) Rmacs) h) x settled;
  starts = v.holds.sets.reached reset_charset (AtReset reset_charset refl);
  settled_reached = v.holds.sets.settled_reached;
  resync_pieces = pieces_of (certified c) (resync_rows c.known.strings.rows);
  resync_made = made (table_of c);
  resync_each = each_piece (certified c) (resync_rows c.known.strings.rows);
  resyncs = resyncs (table_of c) v.holds;
  resync_fronts = resync_fronts (table_of c) v.holds;
}
