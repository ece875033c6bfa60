use Rattle.std.proofs.Common.{rules}
use Rattle.ti_cert.proofs.Drafts.{finished, acsc_in_table, agrees_in_table, has_text, few_in_table, sizes_in_table}
use Rattle.ti_cert.proofs.certification.judged_table.Goals as goal

pub into_table-requires : goal.into_table-requires
into_table-requires c = (finished c.args.entry.now c.args.size.rows c.args.size.cols c.in_ok-draft.draft c.push_caps.new.self c.judge_end.new.self c.args.size.limits c.names.ensures.entry c.in_ok-draft.ensures
    c.in_ok-push_caps.ensures c.in_ok-judge_end.ensures.ok).whole

pub returns : goal.returns
returns c =
    let f = finished c.args.entry.now c.args.size.rows c.args.size.cols c.in_ok-draft.draft c.push_caps.new.self c.judge_end.new.self c.args.size.limits c.names.ensures.entry c.in_ok-draft.ensures
    c.in_ok-push_caps.ensures c.in_ok-judge_end.ensures.ok in
    let sizes = sizes_in_table c.args.size.rows c.args.size.cols c.args.entry.now c.judge_end.new.self c.into_table.result f c.into_table.ensures.made in
    record {
      judged = c.into_table.ensures.judged;
      looks = search rules;
      rows = sizes.0;
      cols = sizes.1;
      few = few_in_table c.args.size.rows c.args.size.cols c.args.entry.now c.judge_end.new.self c.into_table.result f c.into_table.ensures.made;
      text = has_text c.args.size.rows c.args.size.cols c.args.entry.now c.judge_end.new.self c.into_table.result f c.into_table.ensures.made;
      acsc = acsc_in_table c.args.size.rows c.args.size.cols c.args.entry.now c.judge_end.new.self c.into_table.result f c.into_table.ensures.made;
      lines = agrees_in_table c.args.size.rows c.args.size.cols c.args.entry.now c.judge_end.new.self c.into_table.result f c.into_table.ensures.made;
    }
