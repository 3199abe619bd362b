use Rattle.std.proofs.Common.{[], ◌∷◌, ◌++◌, ap, ◌∙◌}
use Rattle.seek_match.specs.Opponents.{is_opponent}
use Rattle.seek_match.proofs.OpponentRows.{Lists-by, pushed-else, pushed-here}
use Rattle.seek_match.proofs.opponents.list_first.Goals as goal

pub returns-clause-ok : goal.returns-clause-ok
returns-clause-ok c x y =
    let who = c.args.who in
    let other = c.args.other in
    let rows = c.args.rows.now in
    ap (λ rows. is_opponent rows x y)
    (c.in_ok-push-2.ensures.ok
    ∙ ap (λ others. rows ++ record { who = who; others = others } ∷ [])
    (c.in_ok-push.ensures.ok ∙ ap (λ others. others ++ other ∷ []) c.new-others.ensures))
    ∙ Lists-by who other rows (rows ++ record { who = who; others = other ∷ [] } ∷ []) (pushed-else who other rows)
    (pushed-here who other rows c.requires) x y
