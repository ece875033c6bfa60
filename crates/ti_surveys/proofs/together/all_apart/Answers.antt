use Rattle.std.proofs.Common.{◌∙◌, ◌<◌, ◌++◌, List, Option, ap, arith, inl, length, subst, sym}
use Rattle.std.specs.List.{AllByRecursion}
use Rattle.std.proofs.lemmas.Result.{err_from_is_err_and}
use Rattle.ti_source.specs.Fitting.{FieldsFit, NamesFit}
use Rattle.ti_source.specs.declared.types.RawEntry.{RawEntry}
use Rattle.ti_source.specs.declared.types.SourceFault.{SourceFault}
use Rattle.ti_surveys.specs.Together.{OneApart, all_in}
use Rattle.ti_surveys.proofs.ApartFacts.{apartly_at, beside_next, fields_append, names_append, put_first, put_next}
use Rattle.ti_surveys.proofs.together.all_apart.Goals as goal

pub loop-file-init : goal.loop-file-init
loop-file-init c =
    let first = c.in_ok-all.ensures in
    record {
      put = put_first (record { raws = c.args.own.raws.items; faults = c.args.own.faults.items }) (all_in c.in_ok-all.all) first.raws first.faults first.counts;
      fit = subst (AllByRecursion FieldsFit) (sym first.raws) c.requires.fields;
      named = subst (λ (raws : List RawEntry). NamesFit raws c.in_ok-all.all.faults.items) (sym first.raws)
          (subst (λ (faults : List (Option SourceFault)). NamesFit c.args.own.raws.items faults) (sym first.faults) c.requires.names);
      beside = ap length first.faults ∙ (c.requires.beside ∙ sym (ap length first.raws));
    }

-- the entries of the next file follow those so far
pub loop-file-preserved : goal.loop-file-preserved
loop-file-preserved c =
    let here : c.loop-file.file-index < length c.args.further.now = omega arith in
    let own : OneApart = record { raws = c.args.own.raws.items; faults = c.args.own.faults.items } in
    let one : OneApart = record { raws = c.in_ok-apart.apart.raws.items; faults = c.in_ok-apart.apart.faults.items } in
    let was = c.loop-file.invariant in
    let more = c.in_ok-add.ensures in
    record {
      put = put_next own c.args.further.now c.loop-file.file-index c.file-item.result one (all_in c.loop-file.all) (all_in c.add.new.self) here c.file-item.is was.put c.in_ok-apart.ensures.entries more.raws more.faults more.counts;
      fit = subst (AllByRecursion FieldsFit) (sym more.raws) (fields_append c.loop-file.all.raws.items one.raws was.fit c.in_ok-apart.ensures.fields);
      named = subst (λ (raws : List RawEntry). NamesFit raws c.add.new.self.faults.items) (sym more.raws)
          (subst (λ (faults : List (Option SourceFault)). NamesFit (c.loop-file.all.raws.items ++ one.raws) faults) (sym more.faults)
          (names_append c.loop-file.all.raws.items one.raws c.loop-file.all.faults.items one.faults was.beside was.named c.in_ok-apart.ensures.names));
      beside = ap length more.faults ∙ (beside_next c.file-item.result.bytes.items c.loop-file.all.raws.items one.raws c.loop-file.all.faults.items one.faults was.beside c.in_ok-apart.ensures.entries ∙ sym (ap length more.raws));
    }

-- the first file that hides its entries
pub returns-in_err-apart-clause-failure : goal.returns-in_err-apart-clause-failure
returns-in_err-apart-clause-failure c =
    let here : c.loop-file.file-index < length c.args.further.now = omega arith in
    let p = err_from_is_err_and c.from_residual-in_err-apart.result c.from_residual-in_err-apart.ensures.1 in
    rw (p.1, p.2) (inl (apartly_at c.args.further.now c.loop-file.file-index c.file-item.result _ here c.file-item.is c.in_err-apart.ensures.failure))
