use Rattle.std.proofs.Common.{◌≡◌, ◌*◌, ◌≤◌, ◌++◌, length, take}
use Rattle.std.specs.Prelude.{All}
use Rattle.fics_words.specs.Line.{IsPrintable}
use Rattle.lobby_state.specs.Stored.{names_words}
use Rattle.lobby_state.proofs.acts.stored.put_names.Given as goal

abbrev pub invariant-loop-name : goal.invariant-loop-name
invariant-loop-name l = record {
  words : l.text.items ≡ l.initial.text.items ++ names_words (take l.name-index l.names);
  short : length (names_words (take l.name-index l.names)) ≤ 18 * l.name-index;
  shows : All IsPrintable (names_words (take l.name-index l.names));
}
