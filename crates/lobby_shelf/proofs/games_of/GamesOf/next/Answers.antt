use Rattle.std.proofs.Common.{◌≡◌, ℕ, ◌<◌, ◌≤◌, List, Some, get_or, length, slice_get, refl, sym, ap, ◌∙◌}
use Rattle.std.proofs.lemmas.Option.{slice_get_read}
use Rattle.lobby_shelf.specs.declared.shelved.Shelved.{Shelved}
use Rattle.lobby_shelf.proofs.Marked.{All-at}
use Rattle.lobby_shelf.proofs.games_of.GamesOf.next.Goals as goal

read : {games rows : List Shelved} {row : Shelved} (place : ℕ) → rows ≡ games → place < length games
    → row ≡ get_or rows place row
    → slice_get games place ≡ Some row
read {games} {rows} {row} place same within is =
    slice_get_read games (length games) place row refl within (is ∙ ap (λ l. get_or l place row) same)

pub returns-clause-steps : goal.returns-clause-steps
returns-clause-steps c =
    sym c.self.view_is
    ∙ c.in_ok-place.ensures.1 c.index-rows-place.result
    (read c.in_ok-place.place c.rows-rows.ensures.rows c.in_ok-place.ensures.0 c.index-rows-place.is)

pub returns-clause-few : goal.returns-clause-few
returns-clause-few c =
    All-at (λ (row : Shelved). length row.game.names ≤ 4) c.self.inside.rack.now c.in_ok-place.place
    c.index-rows-place.result c.self.invariant
    (read c.in_ok-place.place c.rows-rows.ensures.rows c.in_ok-place.ensures.0 c.index-rows-place.is)
