use Rattle.std.proofs.Common.{ℕ, ◌≤◌, length, sym, subst}
use Rattle.vt_states.proofs.Characters.{character_within}
use Rattle.vt_states.proofs.recordings.part_length.Goals as goal

pub returns-then-is_character-clause-within : goal.returns-then-is_character-clause-within
returns-then-is_character-clause-within c = subst (λ (n : ℕ). n ≤ length c.args.bytes.now) (sym c.character_length.ensures) (character_within c.args.bytes.now c.requires)
