-- A remark on a game. This server's own.
use Rattle.std.specs.Prelude.{ℕ, ◌+◌, nat_le, true, not, List, [], ◌∷◌, ◌++◌}
use Rattle.fics_words.specs.Effect.{Effect}
use Rattle.fics_words.specs.declared.refusal.Refusal.TheVariants.{FeedFull, NotWatching}
use Rattle.style12_writer.specs.declared.item.Item.TheVariants.{Talk}
use Rattle.linked_desk.specs.declared.acts.DeskReply.{DeskReply}
use Rattle.linked_desk.specs.declared.acts.DeskReply.TheVariants.{Done}
use Rattle.linked_desk.specs.Desk.{GameState, is_watching, moment_at}

-- the most remarks on a game
abbrev pub most_remarks : ℕ
most_remarks = 1024

-- the game with one remark more, of which all viewers are told
abbrev pub remarked : GameState → ℕ → List ℕ → GameState
remarked g moment text =
    record g { feed = g.feed ++ Talk text ∷ []; remarks = g.remarks + 1; last = moment_at g moment }

-- tells all viewers a text: refused where the session is no viewer, and where there are 1,024 remarks
abbrev pub remark_effect : GameState → ℕ → ℕ → List ℕ → Effect GameState DeskReply
remark_effect g session moment text = record {
  causes = (not (is_watching g session), NotWatching) ∷ (nat_le most_remarks g.remarks, FeedFull) ∷ [];
  memory = true;
  reply = Done;
  after = remarked g moment text;
}
