-- What may stand at the end of a word.
use Rattle.std.specs.Prelude.{ℕ, List, Bool}
use Rattle.move_reader.specs.declared.parts.WordEnd.{WordEnd}
use Rattle.move_reader.specs.declared.parts.WordEnd.TheVariants.{Nothing, Mark}
use Rattle.move_reader.specs.Reading.{is_empty, is_mark}

abbrev pub is_word_end : WordEnd → List ℕ → Bool
is_word_end Nothing text = is_empty text
is_word_end Mark text = is_mark text
