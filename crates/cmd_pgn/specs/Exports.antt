-- What is written of the games of a store.
use Rattle.std.specs.Prelude.{◌≡◌, ℕ, List, [], ◌∷◌, ◌++◌, None, codes, refl}
use Rattle.std.specs.List.{flat_map}
use Rattle.chess_model.specs.declared.variant.Variant.{Variant}
use Rattle.chess_model.specs.declared.variant.Variant.TheVariants.{Chess, Crazyhouse, Bughouse, Fischer}
use Rattle.game_records.specs.declared.stored_game.StoredGame.{StoredGame}
use Rattle.lobby_shelf.specs.declared.shelved.Shelved.{Shelved}
use Rattle.pgn_book.specs.Export.{export_text}
use Rattle.pgn_book.specs.Stored.{stored_text}

-- of a game of chess its export; a game of another variant is passed over
abbrev pub export_as : Variant → StoredGame → List ℕ
export_as Chess game = export_text (stored_text game)
export_as Crazyhouse game = []
export_as Bughouse game = []
export_as (Fischer number) game = []

abbrev pub game_export : StoredGame → List ℕ
game_export game = export_as game.terms.variant game

-- the exports of the games of chess among these, one behind the other
abbrev pub exports : List Shelved → List ℕ
exports games = flat_map (λ row. game_export row.game) games

-- a game of two before its first half-move, under a number, for the examples
before_all : Variant → List ℕ → List ℕ → ℕ → Shelved
before_all variant white black number = record {
  number = number;
  game = record {
    terms = record { minutes = 0; increment = 0; variant = variant; colour = None };
    names = white ∷ black ∷ [];
    halves = [];
  };
}

example_others_passed_over :
    exports (before_all Crazyhouse (codes "Cat") (codes "Dan") 1 ∷ before_all Chess (codes "Ann") (codes "Ben") 2
    ∷ before_all (Fischer 518) (codes "Cat") (codes "Dan") 300 ∷ [])
    ≡ codes "[Event \"?\"]\n[Site \"?\"]\n[Date \"????.??.??\"]\n[Round \"?\"]\n[White \"Ann\"]\n[Black \"Ben\"]\n"
    ++ codes "[Result \"*\"]\n\n*\n\n"
unfolding before_all
example_others_passed_over = refl

example_none : exports [] ≡ []
example_none = refl
