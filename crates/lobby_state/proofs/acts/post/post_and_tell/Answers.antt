use Rattle.std.proofs.Common.{refl, ◌∙◌}
use Rattle.seek_match.specs.Seeks.{without_number}
use Rattle.seek_match.proofs.Rising.{taken_back}
use Rattle.lobby_state.proofs.acts.post.post_and_tell.Goals as goal

pub returns-in-Err-clause-posted : goal.returns-in-Err-clause-posted
returns-in-Err-clause-posted c = (
  refl,
  c.take_back.ensures ∙ (λ j. without_number (c.in_ok-number.ensures.1 j) (c.in_ok-number.ensures.2 j))
      ∙ taken_back c.args.seeks.now c.args.session c.args.terms c.rows-seeks.ensures.order,
)
