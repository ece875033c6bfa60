use Rattle.std.proofs.Common.{◌≡◌, ◌∷◌, [], IfSome, Ok, sym, subst}
use Rattle.cur_scripts.specs.Texts.{script_of}
use Rattle.cur_scripts.proofs.Readers.{only_script}
use Rattle.cur_scripts.proofs.scripts.read_call.Goals as goal

pub returns-clause-script : goal.returns-clause-script
returns-clause-script c =
    subst (λ o. IfSome o (λ call. script_of c.args.text.now ≡ Ok (call ∷ []))) (sym c.only_call.ensures) (only_script c.args.text.now)
