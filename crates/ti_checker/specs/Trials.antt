-- (Serves the code alone.) The probes that are tried, and the facts known of an effect that none of them shows wrong.
use Rattle.std.specs.Prelude.{ℕ, ◌+◌, ◌-◌, ◌/◌, ◌%◌, ◌<◌, ◌≡◌, ◌==◌, ◌&&◌, not, nat_lt, Bool, true, false, Option, Some}
use Rattle.std.specs.Prelude.{None, if◌then◌else◌}
use Rattle.vt_term.specs.Color.{Color, Red, Blue}
use Rattle.vt_effects.specs.declared.effects.Effect.{Effect}
use Rattle.vt_effects.specs.declared.starts.Start.{Start}
use Rattle.vt_effects.specs.declared.starts.Margins.{Margins}
use Rattle.vt_effects.specs.declared.starts.Margins.TheVariants as margins
use Rattle.vt_effects.specs.Effect.{moved, switched, inked, designated, top_of, bottom_of}
use Rattle.ti_rows.specs.Asked.{start_of, asked}
use Rattle.ti_rows.specs.declared.rows.Looks.{Looks}
use Rattle.ti_rows.specs.declared.rows.Marks.{Marks}
use Rattle.ti_rows.specs.declared.rows.Row.{Row}
use Rattle.ti_checker.specs.Breakage.{has_choice, wanted_end, with_defaults, without_defaults, marks_after, looks_for}
use Rattle.ti_checker.specs.Cells.{becomes_blank}
use Rattle.ti_checker.specs.declared.probes.Probe.{Probe}
use Rattle.ti_checker.specs.declared.trials.Choices.{Choices}

-- ---- the probes

abbrev pub choices_of : ℕ → Choices
choices_of n = record {
  low = n % 2 == 1;
  right = n / 2 % 2 == 1;
  pending = n / 4 % 2 == 1;
  marked = n / 8 % 2 == 1;
  narrow = n / 16 % 2 == 1;
}

abbrev pub all_marks : Bool → Marks
all_marks on = record { bold = on; faint = on; underline = on; blink = on; negative = on; concealed = on }

-- the margins of a probe, wide or narrow, with the cursor in this row
abbrev pub top_by : Bool → Margins → ℕ → ℕ → ℕ
top_by narrow margins.Whole row last = 0
top_by narrow margins.Legal row last = if narrow && nat_lt 1 last then 1 else 0
top_by narrow margins.OnBottom row last = if narrow then row - 1 else 0
top_by narrow margins.OnTop row last = row

abbrev pub bottom_by : Bool → Margins → ℕ → ℕ → ℕ
bottom_by narrow margins.Whole row last = last
bottom_by narrow margins.Legal row last = last
bottom_by narrow margins.OnBottom row last = row
bottom_by narrow margins.OnTop row last = if narrow && nat_lt row last then row + 1 else last

-- a row or a column at one end of these, and a color or none
abbrev pub end_by : Bool → ℕ → ℕ → ℕ
end_by greatest least most = if greatest then most else least

abbrev pub color_by : Bool → Color → Option Color
color_by on c = if on then Some c else None

abbrev pub row_by : Choices → Start → ℕ
row_by c s = end_by c.low s.row_min s.row_max

abbrev pub probe_by : Choices → Start → ℕ → Probe
probe_by c s rows = record {
  row = row_by c s;
  col = end_by c.right s.col_min s.col_max;
  pending = c.pending && s.pending;
  top = top_by c.narrow s.margins (row_by c s) (rows - 1);
  bottom = bottom_by c.narrow s.margins (row_by c s) (rows - 1);
  charset = record { g0_graphic = c.marked; g1_graphic = c.marked; shifted_out = c.marked };
  look = all_marks c.marked;
  foreground = color_by c.marked Red;
  background = color_by c.marked Blue;
  visible = not c.marked;
  fill = 120;
}

-- ---- facts known of an effect that a probe doesn't show wrong

-- from the probe two effects lead to one end
pub record EndSo (rows cols : ℕ) (e f : Effect) (p : Probe) : Type 0 where
  pub row : moved e.row p.row ≡ moved f.row p.row
  pub col : moved e.col p.col ≡ moved f.col p.col
  pub pending : (if e.ends_pending then false else p.pending) ≡ (if f.ends_pending then false else p.pending)
  pub top : top_of e.margins p.top ≡ top_of f.margins p.top
  pub bottom : bottom_of e.margins p.bottom ≡ bottom_of f.margins p.bottom
  pub marks : marks_after e.rendition p.look ≡ marks_after f.rendition p.look
  pub foreground : inked e.rendition.foreground p.foreground ≡ inked f.rendition.foreground p.foreground
  pub background : inked e.rendition.background p.background ≡ inked f.rendition.background p.background
  pub charset : designated e.charset p.charset ≡ designated f.charset p.charset
  pub visible : switched e.visible p.visible ≡ switched f.visible p.visible
  pub cells : (i j : ℕ) → i < rows → j < cols → becomes_blank e p i j ≡ becomes_blank f p i j

-- the effect `f`, which has a wanted end of the row with these looks
pub data IsEnd (l : Looks) (row : Row) (e f : Effect) : Type 0 where
  Only : has_choice row ≡ false → f ≡ wanted_end l row e → IsEnd l row e f
  WithDefaults : has_choice row ≡ true → f ≡ asked l row (with_defaults e) → IsEnd l row e f
  WithoutDefaults : has_choice row ≡ true → f ≡ asked l row (without_defaults e) → IsEnd l row e f

pub record EndsAsWanted (rows cols : ℕ) (taught : Looks) (row : Row) (e : Effect) (p : Probe) : Type 0 where
  pub wanted : Effect
  pub is : IsEnd (looks_for taught row e) row e wanted
  pub so : EndSo rows cols e wanted p

-- the effect leads to a wanted end from the probes below this number, and from all of them
abbrev pub EndsBelow : ℕ → ℕ → Looks → Row → Effect → ℕ → Type 0
EndsBelow rows cols taught row e n = (k : ℕ) → k < n
    → EndsAsWanted rows cols taught row e (probe_by (choices_of k) (start_of rows cols row) rows)
