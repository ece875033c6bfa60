-- Judged lines that agree with an entry.
use Rattle.std.proofs.Common.{◌≡◌, ◌&&◌, ℕ, true, false, List, Option, None, refl, ap}
use Rattle.std.specs.Prelude.{is_some}
use Rattle.ti_rows.specs.declared.rows.Row.TheVariants.{Smacs, Rmacs}
use Rattle.ti_conforms.specs.Table.{Table, has}
use Rattle.ti_conforms.specs.Sets.{has_sets}
use Rattle.ti_conforms.specs.Holds.{TableHolds}
use Rattle.ti_conforms.proofs.Cuts.{judged_holds}
use Rattle.ti_conforms.specs.Conforms.{AgreedConforms}

no_sets : (t : Table) → t.line_of Smacs ≡ None → has_sets t ≡ false
no_sets t e = ap (λ (o : Option (List ℕ)). is_some o && has t Rmacs) e

pub agreed_conforms : AgreedConforms
agreed_conforms entry t fit j agrees =
    let k : TableHolds t = judged_holds t j in
    record {
      fit = fit;
      table = t;
      rows_are = refl;
      cols_are = refl;
      sends = agrees;
      right = λ row bytes there. (k.lines row bytes there).right;
      switches = λ row bytes there s rest start c.
          let e = (k.lines row bytes there).ends s rest start in
          record { after = e.after; runs = e.runs; there = e.there.screen.active (k.sets.settled s.screen.charset c) };
      plain = λ unchecked c p. k.sets.plain (no_sets t ((agrees Smacs tt).unchecked unchecked)) c (k.sets.settled c p);
      resyncs = record {
        rest = j.rest;
        escapes = j.escapes;
        leads = λ s size tame c margins.
            let e = k.resyncs true s (record { sized = size; tame = tame; reached = k.sets.reached s.screen.charset c; margins = margins; visible = λ h. cc }) in
            record { after = e.after; runs = e.runs; there = e.there.cleared };
      };
    }
