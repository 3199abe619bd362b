use Rattle.std.proofs.Common.{sym, ap, ◌∙◌}
use Rattle.std.specs.Prelude.{◌&&◌}
use Rattle.std.proofs.Math.Bool.{and-false}
use Rattle.lobby_shelf.specs.declared.shelved.Shelved.{Shelved}
use Rattle.lobby_shelf.specs.Players.{has_player}
use Rattle.lobby_shelf.proofs.Marked.{row-at, unmarked-at}
use Rattle.lobby_shelf.proofs.rack.Rack.is_of_both.Goals as goal

pub returns-then-not-is_among : goal.returns-then-not-is_among
returns-then-not-is_among c = λ row at.
    sym (ap (λ t. t && has_player c.args.other.now row.game)
    (unmarked-at c.args.one.now c.args.place c.self.view_is c.requires.few c.self.invariant.marks at
    c.index-marks.ensures (sym c.if-not-is_among.ensures)))

pub returns-then-not-is_among-2 : goal.returns-then-not-is_among-2
returns-then-not-is_among-2 c = λ row at.
    sym (ap (λ t. has_player c.args.one.now row.game && t)
    (unmarked-at c.args.other.now c.args.place c.self.view_is c.requires.few c.self.invariant.marks at
    c.index-marks.ensures (sym c.if-not-is_among-2.ensures))
    ∙ and-false (has_player c.args.one.now row.game))

pub returns-then-has_player : goal.returns-then-has_player
returns-then-has_player c = λ row at.
    let same = row-at c.args.place c.self.view_is at c.index.ensures in
    let first =
    c.if-has_player.ensures ∙ ap (λ k. has_player k c.index.result.now.game) c.key.ensures
    ∙ ap (λ (r : Shelved). has_player c.args.one.now r.game) same in
    c.has_player-then-has_player.ensures ∙ ap (λ k. has_player k c.index.result.now.game) c.key-then-has_player.ensures
    ∙ ap (λ (r : Shelved). has_player c.args.other.now r.game) same
    ∙ ap (λ t. t && has_player c.args.other.now row.game) first

pub returns-else-has_player : goal.returns-else-has_player
returns-else-has_player c = λ row at.
    let same = row-at c.args.place c.self.view_is at c.index.ensures in
    let first =
    c.if-has_player.ensures ∙ ap (λ k. has_player k c.index.result.now.game) c.key.ensures
    ∙ ap (λ (r : Shelved). has_player c.args.one.now r.game) same in
    c.has_player.ensures ∙ sym c.if-has_player.ensures ∙ ap (λ t. t && has_player c.args.other.now row.game) first
