-- How many half-moves a stored game has at most.
use Rattle.std.proofs.Common.{◌≤◌, length, arith}
use Rattle.chess_model.specs.declared.variant.Variant.{Variant}
use Rattle.chess_model.specs.declared.variant.Variant.TheVariants.{Chess, Crazyhouse, Bughouse, Fischer}
use Rattle.game_records.specs.declared.stored_game.StoredGame.{StoredGame}
use Rattle.game_records.specs.Bounds.{boards, IsGame}

boards_few : (v : Variant) → boards v ≤ 2
boards_few Chess = omega arith
boards_few Crazyhouse = omega arith
boards_few Bughouse = omega arith
boards_few (Fischer number) = omega arith

pub few_halves : (g : StoredGame) → IsGame g → length g.halves ≤ 2400
few_halves g h =
    let few = h.halves.few in
    let two = boards_few g.terms.variant in omega arith
