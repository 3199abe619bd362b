use Rattle.std.proofs.Common.{not, ap, ◌∙◌, sym}
use Rattle.std.specs.Prelude.{◌==◌}
use Rattle.std.specs.List.{filter}
use Rattle.seek_match.specs.Opponents.{is_opponent, opponents_of}
use Rattle.seek_match.proofs.OpponentRows.{Unlists-by, emptied-else, emptied-here, left-else, left-here, left_in, none_in}
use Rattle.seek_match.proofs.opponents.unlist.Goals as goal

pub returns-then-is_empty : goal.returns-then-is_empty
returns-then-is_empty c x y =
    let who = c.args.who in
    let other = c.args.other in
    let left = left_in who other c.args.rows.now in
    let after = filter (λ row. not (who == row.who)) left in
    let empty = sym (c.opponents_of.ensures ∙ ap (λ rows. opponents_of rows who) c.change.ensures)
    ∙ none_in c.opponents_of.result.now (sym c.is_empty.ensures ∙ c.if-is_empty.true) in
    ap (λ rows. is_opponent rows x y)
    (c.shrink.ensures ∙ c.remove.ensures.rest ∙ ap (filter (λ row. not (who == row.who))) c.change.ensures)
    ∙ Unlists-by who other c.args.rows.now after
    (λ x differs. emptied-else who left x differs ∙ left-else who other c.args.rows.now x differs)
    (emptied-here who left empty ∙ left-here who other c.args.rows.now) x y

pub returns-else-is_empty : goal.returns-else-is_empty
returns-else-is_empty c x y =
    let who = c.args.who in
    let other = c.args.other in
    ap (λ rows. is_opponent rows x y) c.change.ensures
    ∙ Unlists-by who other c.args.rows.now (left_in who other c.args.rows.now)
    (left-else who other c.args.rows.now) (left-here who other c.args.rows.now) x y
