-- The words that spell the terms of a game, as players type them at FICS behind the name of whom they challenge:
-- [MINUTES INCREMENT] [unrated] [VARIANT] [COLOUR]. What stands in brackets may be left out. VARIANT is `chess`,
-- `crazyhouse`, `bughouse` or `fischer N`, N from 0 to 959.
use Rattle.std.specs.Prelude.{◌≡◌, ◌⊎◌, ◌≤◌, List, [], ◌∷◌, ◌++◌, Option, Some, None, codes, decimal}
use Rattle.chess_model.specs.Limits.{most_time}
use Rattle.chess_model.specs.declared.man.Colour.{Colour}
use Rattle.chess_model.specs.declared.man.Colour.TheVariants.{White, Black}
use Rattle.chess_model.specs.declared.variant.Terms.{Terms}
use Rattle.chess_model.specs.declared.variant.Variant.{Variant}
use Rattle.chess_model.specs.declared.variant.Variant.TheVariants.{Chess, Crazyhouse, Bughouse, Fischer}
use Rattle.chess_model.specs.VariantWord.{IsNumbered, word_of}
use Rattle.command_words.specs.declared.terms.Time.{Time}
use Rattle.command_words.specs.Blanks.{Words}

-- the time of a game where a line names none
abbrev pub UsualTime : Type 0
UsualTime = Time

-- the words are one of these lists of words
abbrev pub OneOfWords : List Words → Words → Type 0
OneOfWords [] words = ⊥
OneOfWords (choice ∷ choices) words = (words ≡ choice) ⊎ OneOfWords choices words

-- the minutes at the start and the seconds of increment as decimals, each at most 600; or neither, where the time is
-- the usual one
abbrev pub SpellsTime : Time → Words → Time → Type 0
SpellsTime usual words time =
    ((time.minutes ≤ most_time) × (time.increment ≤ most_time)
    × (words ≡ decimal time.minutes ∷ decimal time.increment ∷ []))
    ⊎ ((words ≡ []) × (time ≡ usual))

-- no game is rated, so `unrated` says nothing, and may be left out
abbrev pub unrated_words : List Words
unrated_words = [] ∷ (codes "unrated" ∷ []) ∷ []

-- the variant's word, which may be left out for chess; behind Fischer random's stands the number of the array
abbrev pub variant_words : Variant → List Words
variant_words Chess = [] ∷ (word_of Chess ∷ []) ∷ []
variant_words Crazyhouse = (word_of Crazyhouse ∷ []) ∷ []
variant_words Bughouse = (word_of Bughouse ∷ []) ∷ []
variant_words (Fischer number) = (codes "fischer" ∷ decimal number ∷ []) ∷ []

-- the colour that is asked for, which may be any
abbrev pub colour_words : Option Colour → List Words
colour_words None = [] ∷ []
colour_words (Some White) = (codes "white" ∷ []) ∷ (codes "w" ∷ []) ∷ []
colour_words (Some Black) = (codes "black" ∷ []) ∷ (codes "b" ∷ []) ∷ []

-- the time of a game of these terms
abbrev pub time_of : Terms → Time
time_of terms = record { minutes = terms.minutes; increment = terms.increment }

-- the words spell the terms of a game, where its time is usually this: they are four parts in a row
pub record SpellsTerms (usual : Time) (words : Words) (terms : Terms) : Type 0 where
  pub time : Words
  pub unrated : Words
  pub variant : Words
  pub colour : Words
  pub parts : words ≡ time ++ (unrated ++ (variant ++ colour))
  pub spells_time : SpellsTime usual time (time_of terms)
  pub may_be_unrated : OneOfWords unrated_words unrated
  -- the number of an array is from 0 to 959
  pub numbered : IsNumbered terms.variant
  pub spells_variant : OneOfWords (variant_words terms.variant) variant
  pub spells_colour : OneOfWords (colour_words terms.colour) colour
