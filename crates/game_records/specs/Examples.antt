-- Records and keys that are written out.
use Rattle.std.specs.Prelude.{◌≡◌, ℕ, List, [], ◌∷◌, codes, None, refl}
use Rattle.chess_model.specs.declared.moves.Move.TheVariants.{Plain}
use Rattle.chess_model.specs.declared.variant.Variant.{Variant}
use Rattle.chess_model.specs.declared.variant.Variant.TheVariants.{Chess, Bughouse, Fischer}
use Rattle.game_records.specs.declared.stored_game.Half.{Half}
use Rattle.game_records.specs.declared.stored_game.StoredGame.{StoredGame}
use Rattle.game_records.specs.declared.records.Record.TheVariants.{Account, Game}
use Rattle.game_records.specs.Numbers.{two_bytes, eight_bytes}
use Rattle.game_records.specs.Spelling.{spelling}
use Rattle.game_records.specs.Keys.{account_key, game_key}

-- e2e4 on board 1, without a charge
abbrev pub king_pawn : Half
king_pawn = record { board = 1; what = Plain 12 28 None; charge = None }

-- an untimed game between these players
abbrev pub untimed : Variant → List (List ℕ) → List Half → StoredGame
untimed v names halves = record {
  terms = record { minutes = 0; increment = 0; variant = v; colour = None };
  names = names;
  halves = halves;
}

spelled_account : (digest : List ℕ) → spelling (Account (record { name = codes "Ann"; digest = digest }))
    ≡ 0x01 ∷ 0x41 ∷ 0x03 ∷ 0x41 ∷ 0x6E ∷ 0x6E ∷ digest
spelled_account digest = refl

spelled_chess : spelling (Game (untimed Chess (codes "Ann" ∷ codes "Ben" ∷ []) (king_pawn ∷ [])))
    ≡ 0x01 ∷ 0x47 ∷ 0x00 ∷ 0x00 ∷ 0x00 ∷ 0x00 ∷ 0x00 ∷ 0x03 ∷ 0x41 ∷ 0x6E ∷ 0x6E ∷ 0x03 ∷ 0x42 ∷ 0x65 ∷ 0x6E ∷ 0x00
    ∷ 0x01 ∷ 0x18 ∷ 0xE0 ∷ 0x00 ∷ []
unfolding two_bytes
spelled_chess = refl

spelled_pair : spelling
    (Game (untimed Bughouse (codes "Ann" ∷ codes "Ben" ∷ codes "Cat" ∷ codes "Dan" ∷ []) (king_pawn ∷ [])))
    ≡ 0x02 ∷ 0x47 ∷ 0x02 ∷ 0x00 ∷ 0x00 ∷ 0x00 ∷ 0x00 ∷ 0x03 ∷ 0x41 ∷ 0x6E ∷ 0x6E ∷ 0x03 ∷ 0x42 ∷ 0x65 ∷ 0x6E ∷ 0x03
    ∷ 0x43 ∷ 0x61 ∷ 0x74 ∷ 0x03 ∷ 0x44 ∷ 0x61 ∷ 0x6E ∷ 0x00 ∷ 0x01 ∷ 0x01 ∷ 0x18 ∷ 0xE0 ∷ 0x00 ∷ []
unfolding two_bytes
spelled_pair = refl

spelled_fischer : spelling (Game (untimed (Fischer 518) (codes "Ann" ∷ codes "Ben" ∷ []) []))
    ≡ 0x03 ∷ 0x47 ∷ 0x02 ∷ 0x06 ∷ 0x00 ∷ 0x00 ∷ 0x00 ∷ 0x00 ∷ 0x03 ∷ 0x41 ∷ 0x6E ∷ 0x6E ∷ 0x03 ∷ 0x42 ∷ 0x65 ∷ 0x6E
    ∷ 0x00 ∷ 0x00 ∷ []
unfolding two_bytes
spelled_fischer = refl

key_of_account : account_key (codes "ann") ≡ codes "aann"
key_of_account = refl

key_of_game : game_key 258 ≡ 0x67 ∷ 0 ∷ 0 ∷ 0 ∷ 0 ∷ 0 ∷ 0 ∷ 1 ∷ 2 ∷ []
unfolding eight_bytes
key_of_game = refl
