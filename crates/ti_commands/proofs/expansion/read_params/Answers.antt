use Rattle.std.proofs.Common.{arith, drop, inl, suc, take}
use Rattle.ti_parm.specs.Value.{values_of}
use Rattle.ti_files.specs.Words.{texts_of}
use Rattle.ti_commands.proofs.Params.{params_more, texts_around}
use Rattle.ti_commands.proofs.expansion.read_params.Goals as goal

pub returns-in-None-clause-failure : goal.returns-in-None-clause-failure
returns-in-None-clause-failure c =
    let words = c.args.words.now in
    let index = c.loop-word.word-index in
    inl (record {
      front = texts_of (take index words);
      word = _;
      behind = texts_of (drop (suc index) words);
      spelled = texts_around words index _ (omega arith);
      values = values_of c.loop-word.params.items;
      before = c.loop-word.invariant;
      nothing = c.in-None.ensures.none;
      told = c.not_a_parameter.ensures;
    })

pub loop-word-preserved : goal.loop-word-preserved
loop-word-preserved c =
    params_more c.args.words.now c.loop-word.word-index _ c.loop-word.params.items c.push.new.self.items c.in-Some.param (omega arith) c.loop-word.invariant c.in_ok-push-in-Some.ensures.ok c.in-Some.ensures.param
