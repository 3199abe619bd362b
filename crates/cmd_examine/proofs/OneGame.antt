-- The game that stands under a key is one, since a record spells one game.
use Rattle.std.proofs.Common.{◌≡◌, ℕ, List, Some, sym, subst, ◌∙◌}
use Rattle.game_records.proofs.ReadBack.{one_spelled, same_game}
use Rattle.game_records.specs.Spelling.{IsSpelled}
use Rattle.game_records.specs.declared.records.Record.TheVariants as a
use Rattle.cmd_examine.specs.OneGame.{HasOneGame}

same_bytes : (bytes others : List ℕ) → Some bytes ≡ Some others → bytes ≡ others
same_bytes bytes others e = cc

pub has_one_game : HasOneGame
has_one_game table number one other h k =
    let same : h.bytes ≡ k.bytes = same_bytes h.bytes k.bytes (sym h.there ∙ k.there) in
    same_game one other
    (one_spelled (a.Game one) (a.Game other) k.bytes (subst (IsSpelled (a.Game one)) same h.spelled) k.spelled)
