-- The advice on an entry: of each kind that which holds, and nothing else.
use Rattle.std.specs.Prelude.{◌≡◌, List, ◌++◌}
use Rattle.ti_caps.specs.Entry.{Content}
use Rattle.ti_advice.specs.Deeds.{AreDeeds}
use Rattle.ti_advice.specs.Sets.{AreSets}
use Rattle.ti_advice.specs.Pictures.{ArePictures}
use Rattle.ti_advice.specs.Keys.{AreKeys}
use Rattle.ti_advice.specs.declared.advice.Advice.{Advice}

pub record IsAdviceOn (entry : Content) (list : List Advice) : Type 0 where
  pub deeds : List Advice
  pub sets : List Advice
  pub pictures : List Advice
  pub keys : List Advice
  pub whole : list ≡ ((deeds ++ sets) ++ pictures) ++ keys
  -- strings that don't do what their names mean
  pub of_deeds : AreDeeds entry deeds
  -- `sgr` with its ninth parameter, and without it
  pub of_sets : AreSets entry sets
  -- letters of `acsc`
  pub of_pictures : ArePictures entry pictures
  -- arrow keys and function keys
  pub of_keys : AreKeys entry keys
