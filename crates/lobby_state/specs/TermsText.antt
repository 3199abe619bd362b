-- The terms of a game in a line. This server's own.
use Rattle.std.specs.Prelude.{ℕ, List, [], ◌++◌, Option, None, Some, codes, decimal}
use Rattle.chess_model.specs.declared.man.Colour.{Colour}
use Rattle.chess_model.specs.declared.man.Colour.TheVariants.{White, Black}
use Rattle.chess_model.specs.declared.variant.Terms.{Terms}
use Rattle.chess_model.specs.VariantWord.{word_of}

-- the colour that somebody asks for, behind a blank; nothing where none is asked for
abbrev pub colour_words : Option Colour → List ℕ
colour_words None = []
colour_words (Some White) = codes " white"
colour_words (Some Black) = codes " black"

-- the minutes, the increment in seconds, the variant, and the colour that is asked for
abbrev pub terms_words : Terms → List ℕ
terms_words terms =
    decimal terms.minutes ++ codes " " ++ decimal terms.increment ++ codes " " ++ word_of terms.variant
    ++ colour_words terms.colour
