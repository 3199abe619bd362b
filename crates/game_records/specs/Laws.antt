-- What the definitions mean for whoever keeps games.
use Rattle.std.specs.Prelude.{List, [], ◌∷◌, ◌++◌}
use Rattle.chess_model.specs.declared.variant.Terms.{Terms}
use Rattle.game_records.specs.declared.stored_game.Half.{Half}
use Rattle.game_records.specs.Replays.{CanBePlayed, MayCome}

-- half-moves that can be played are played one after another: there may be none, each is put at the end where it may
-- come, and without the last one they can be played too
pub record ArePlayedBySteps : Type 0 where
  pub none : (t : Terms) → CanBePlayed t []
  pub grows : (t : Terms) (halves : List Half) (h : Half) → CanBePlayed t halves → MayCome t halves h →
      CanBePlayed t (halves ++ h ∷ [])
  pub shrinks : (t : Terms) (halves : List Half) (h : Half) → CanBePlayed t (halves ++ h ∷ []) → CanBePlayed t halves
  pub last : (t : Terms) (halves : List Half) (h : Half) → CanBePlayed t (halves ++ h ∷ []) → MayCome t halves h
