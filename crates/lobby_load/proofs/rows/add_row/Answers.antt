use Rattle.std.proofs.Common.{◌≡◌, List, ℕ, Option, None, IfSome, subst}
use Rattle.lobby_store.specs.Agreeing.{wanted_by}
use Rattle.lobby_store.specs.Rows.{IsGameRow, IsRow}
use Rattle.lobby_store.specs.declared.reading.StoreRow.{StoreRow}
use Rattle.lobby_load.proofs.Unheld.{not_stored}
use Rattle.lobby_load.proofs.rows.add_row.Goals as goal

pub add_game-requires-clause-unused : goal.add_game-requires-clause-unused
add_game-requires-clause-unused c =
    let lobby = c.args.lobby.now in
    let row = c.args.pair.now in
    let number = c.in-Some-Game.number in
    let game = c.in-Some-Game.game in
    let found : IsRow c.in-Some-Game.field-0 row =
    subst (λ (read : Option StoreRow). IfSome read (λ r. IsRow r row)) c.in-Some-Game.is
    c.in_ok-read_row.ensures.found in
    let is : IsGameRow number game row = subst (λ (r : StoreRow). IsRow r row) c.in-Some-Game.field-0-is found in
    not_stored lobby number (subst (λ (key : List ℕ). wanted_by lobby key ≡ None) is.own c.requires)
