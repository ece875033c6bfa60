use Rattle.std.proofs.Common.{◌≢◌, ℕ, ◌<◌, sym, ap, ◌∙◌, length, arith}
use Rattle.std.proofs.lemmas.Bool.{both_ways}
use Rattle.std.proofs.lemmas.Slice.Eq.{bytes_eq-Decides}
use Rattle.ti_caps.specs.Table.{name_at}
use Rattle.ti_caps.proofs.Tables.{unnamed_at, place_in_none, name_is_short}
use Rattle.ti_caps.proofs.lookup.by_name.Goals as goal

-- no name has more than 8 bytes
too_long : (c : goal.Then-text-gt8) (place : ℕ) → place < 497 → name_at place ≢ c.args.text.now
too_long c place inside named = omega (arith, name_is_short place inside, ap length named)

pub returns-then-text-gt8-clause-none : goal.returns-then-text-gt8-clause-none
returns-then-text-gt8-clause-none c = too_long c

pub returns-then-text-gt8-clause-value : goal.returns-then-text-gt8-clause-value
returns-then-text-gt8-clause-value c = sym (place_in_none _ (too_long c))

-- every key is lower
past_the_last : (c : goal.Then-rank-eq-CAPABILITIES) (place : ℕ) → place < 497 → name_at place ≢ c.args.text.now
past_the_last c =
    unnamed_at _ _ _ c.name_key.ensures c.lowest_rank-rank.ensures.below c.lowest_rank-rank.ensures.above (λ less. absurd (omega arith))

pub returns-then-rank-eq-CAPABILITIES-clause-none : goal.returns-then-rank-eq-CAPABILITIES-clause-none
returns-then-rank-eq-CAPABILITIES-clause-none c = past_the_last c

pub returns-then-rank-eq-CAPABILITIES-clause-value : goal.returns-then-rank-eq-CAPABILITIES-clause-value
returns-then-rank-eq-CAPABILITIES-clause-value c = sym (place_in_none _ (past_the_last c))

-- the name with the lowest key that isn't below is another
another : (c : goal.Else-eq) (place : ℕ) → place < 497 → name_at place ≢ c.args.text.now
another c =
    unnamed_at _ _ _ c.name_key.ensures c.lowest_rank-rank.ensures.below c.lowest_rank-rank.ensures.above
    (λ less same.
    let is_place = c.from_place-cap.ensures ∙ c.ranked_place.ensures.value in
    both_ways c.eq.result c.if-eq.false
    (c.eq.ensures ∙ (bytes_eq-Decides c.name.result.now c.args.text.now).1 (c.name.ensures.value ∙ (ap name_at is_place ∙ same))))

pub returns-else-eq-clause-none : goal.returns-else-eq-clause-none
returns-else-eq-clause-none c = another c

pub returns-else-eq-clause-value : goal.returns-else-eq-clause-value
returns-else-eq-clause-value c = sym (place_in_none _ (another c))
