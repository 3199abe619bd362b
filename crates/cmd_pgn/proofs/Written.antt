-- Exports of games, one behind the other.
use Rattle.std.proofs.Common.{◌≡◌, ℕ, ◌+◌, ◌<◌, List, [], ◌∷◌, ◌++◌, Option, Some, Err, length, take, drop, get_or, sym, ap, subst, ◌∙◌, append-nil}
use Rattle.std.specs.Prelude.{IfSome}
use Rattle.std.specs.Io.KnownBytes.{Appends}
use Rattle.std.proofs.KnownBytes.{Appends-trans}
use Rattle.std.proofs.lemmas.List.{take_more, take-append-drop}
use Rattle.std.proofs.lemmas.List.Concat.{flat_map-append}
use Rattle.chess_model.specs.declared.variant.Variant.{Variant}
use Rattle.edge_traits.specs.Sink.{AppendsFront}
use Rattle.game_records.specs.declared.stored_game.StoredGame.{StoredGame}
use Rattle.lobby_shelf.specs.declared.shelved.Shelved.{Shelved}
use Rattle.cmd_lines.specs.Reading.{AfterSend}
use Rattle.cmd_lines.specs.declared.end.End.{End}
use Rattle.cmd_lines.specs.declared.end.End.TheVariants.{Done, ReadFault, WriteFault, Memory, BadLine, Spent}
use Rattle.cmd_lines.proofs.Sending.{AppendsFront-behind, AppendsFront-longer}
use Rattle.pgn_book.specs.declared.game.PgnGame.{PgnGame}
use Rattle.pgn_book.specs.Export.{export_text}
use Rattle.pgn_book.specs.Stored.{IsStoredChess, stored_text}
use Rattle.cmd_pgn.specs.Exports.{export_as, exports, game_export}

-- a game more
pub exports_more : (games : List Shelved) (k : ℕ) (row : Shelved) → k < length games → row ≡ get_or games k row
    → exports (take (k + 1) games) ≡ exports (take k games) ++ game_export row.game
exports_more games k row within is =
    ap exports (take_more games k row within ∙ ap (λ (x : Shelved). take k games ++ x ∷ []) (sym is))
    ∙ flat_map-append (λ (x : Shelved). game_export x.game) (take k games) (row ∷ [])
    ∙ ap (λ (l : List ℕ). exports (take k games) ++ l) (append-nil (game_export row.game))

-- a beginning and what goes on behind it
pub exports_parted : (games : List Shelved) (k : ℕ) → exports games ≡ exports (take k games) ++ exports (drop k games)
exports_parted games k =
    ap exports (sym (take-append-drop k games))
    ∙ flat_map-append (λ (x : Shelved). game_export x.game) (take k games) (drop k games)

-- the games so far were written, and of the next one a beginning
module _ (old mid new : Option (List ℕ)) (games : List Shelved) (k : ℕ) (row : Shelved) (within : k < length games)
    (is : row ≡ get_or games k row)
    (so_far : Appends old mid (exports (take k games))) where
  front : AppendsFront mid new (game_export row.game) → AppendsFront old new (exports games)
  front p =
      subst (AppendsFront old new)
      (ap (λ (l : List ℕ). l ++ exports (drop (k + 1) games)) (sym (exports_more games k row within is))
      ∙ sym (exports_parted games (k + 1)))
      (AppendsFront-longer old new (exports (take k games) ++ game_export row.game) (exports (drop (k + 1) games))
      (AppendsFront-behind old mid new (exports (take k games)) (game_export row.game) so_far p))

  pub sent_part : (A B : Type 0) (end : End) → AfterSend {A = A} mid new (game_export row.game) (Err end)
      → AfterSend {A = B} old new (exports games) (Err end)
  sent_part A B Done h = absurd h
  sent_part A B ReadFault h = absurd h
  sent_part A B WriteFault h = front h
  sent_part A B Memory h = front h
  sent_part A B BadLine h = absurd h
  sent_part A B Spent h = absurd h

  pub sent_next : Appends mid new (game_export row.game) → Appends old new (exports (take (k + 1) games))
  sent_next p =
      subst (Appends old new) (sym (exports_more games k row within is))
      (Appends-trans old mid new (exports (take k games)) (game_export row.game) so_far p)

-- ---- one game

own_export : (game : StoredGame) (made : PgnGame) → made ≡ stored_text game → IsStoredChess game
    → export_text made ≡ game_export game
own_export game made is chess = ap export_text is ∙ sym (ap (λ (v : Variant). export_as v game) chess.variant)

-- what is made of a game is exported
pub made_export : (game : StoredGame) (found : Option PgnGame) (made : PgnGame) → found ≡ Some made
    → IfSome found (λ g. (g ≡ stored_text game) × IsStoredChess game) →
    export_text made ≡ game_export game
made_export game found made e told =
    let own = subst (λ (r : Option PgnGame). IfSome r (λ g. (g ≡ stored_text game) × IsStoredChess game)) e told in
    own_export game made own.0 own.1
