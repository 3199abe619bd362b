-- A stored game replays exactly where its half-moves are played again.
use Rattle.std.proofs.Common.{ℕ}
use Rattle.std.specs.Prelude.{◌↔◌, IsSome}
use Rattle.game_records.specs.declared.stored_game.StoredGame.{StoredGame}
use Rattle.game_records.specs.Bounds.{IsGame}
use Rattle.game_records.specs.Replays.{AreFour, Replays}
use Rattle.desk_boards.specs.Replaying.{replayed}
use Rattle.desk_boards.proofs.Replayed.{replayed_exactly}

pub replays_where : (g : StoredGame) (moment : ℕ) → IsGame g → AreFour g.terms.variant g.names
    → IsSome (replayed g.terms g.halves moment) ↔ Replays g
replays_where g moment spelled four =
    let exactly = replayed_exactly g.terms g.halves moment spelled.halves.each in (
      λ some. record { spelled = spelled; players = four; played = exactly.0 some },
      λ replays. exactly.1 replays.played,
    )
