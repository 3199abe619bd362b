-- How a game is shown to whoever asks. This server's own.
use Rattle.std.specs.Prelude.{ℕ, true, false, []}
use Rattle.fics_words.specs.Effect.{Effect}
use Rattle.linked_desk.specs.declared.acts.DeskReply.{DeskReply}
use Rattle.linked_desk.specs.declared.acts.DeskReply.TheVariants.{Items}
use Rattle.linked_desk.specs.Desk.{GameState, moment_at}
use Rattle.linked_desk.specs.Present.{present_items}

-- gives the boards as they stand, and their hands where the variant has them: never refused
abbrev pub show_effect : ℕ → GameState → ℕ → Effect GameState DeskReply
show_effect desk g moment = record {
  causes = [];
  memory = true;
  reply = Items (present_items desk g) false;
  after = record g { last = moment_at g moment };
}
