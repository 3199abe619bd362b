-- Orders: a steward asks for the first save orders. This server's own.
use Rattle.std.specs.Prelude.{true, []}
use Rattle.fics_words.specs.Effect.{Effect}
use Rattle.lobby_shelf.specs.Shelf.{orders_told}
use Rattle.lobby_state.specs.declared.acts.LobbyReply.{LobbyReply}
use Rattle.lobby_state.specs.declared.acts.LobbyReply.TheVariants.{Orders}
use Rattle.lobby_state.specs.Lobby.{LobbyState}

-- an Orders is never refused: it tells the first 16 save orders, or all where there are no more
abbrev pub orders_effect : LobbyState → Effect LobbyState LobbyReply
orders_effect lobby = record { causes = []; memory = true; reply = Orders (orders_told lobby.shelf); after = lobby }
