use Rattle.std.proofs.Common.{◌∙◌, sym}
use Rattle.std.specs.Prelude.{codes}
use Rattle.style12_writer.specs.Line12.{position_fields, game_fields, strength_fields, move_fields, fields_of, line12_text}
use Rattle.style12_writer.specs.Spaced.{spaced}
use Rattle.style12_writer.proofs.Spacing.{join_groups, five_appended}
use Rattle.style12_writer.proofs.line.line12.Goals as goal

pub returns : goal.returns
unfolding line12_text fields_of
returns c =
    let v = c.args.v.now in
    let who = c.args.who in
    let written =
    five_appended (codes "<12>") (spaced (position_fields v.face)) (spaced (game_fields v who))
    (spaced (strength_fields v)) (spaced (move_fields v who))
    c.new-line.result c.text.new.self c.put_position.new.line c.put_game.new.line c.put_strengths.new.line
    c.put_moves.new.line
    c.new-line.ensures c.text.ensures.text c.put_position.ensures.text c.put_game.ensures.text
    c.put_strengths.ensures.text c.put_moves.ensures.text in
    let fields =
    sym
    (join_groups (codes "<12>") (position_fields v.face) (game_fields v who) (strength_fields v) (move_fields v who)) in
    written ∙ fields
