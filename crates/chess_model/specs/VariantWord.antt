-- The words by which players name a variant, as in what they seek: this server's own.
use Rattle.std.specs.Prelude.{ℕ, ◌%◌, ◌<◌, List, ◌++◌, codes, decimal, ⊤}
use Rattle.chess_model.specs.Limits.{arrays}
use Rattle.chess_model.specs.declared.variant.Variant.{Variant}
use Rattle.chess_model.specs.declared.variant.Variant.TheVariants.{Chess, Crazyhouse, Bughouse, Fischer}

-- the number of an array stands behind Fischer random
abbrev pub IsNumbered : Variant → Type 0
IsNumbered Chess = ⊤
IsNumbered Crazyhouse = ⊤
IsNumbered Bughouse = ⊤
IsNumbered (Fischer number) = number < arrays

-- the words of a variant, in lower case ASCII; numbers of arrays count modulo how many there are
abbrev pub word_of : Variant → List ℕ
word_of Chess = codes "chess"
word_of Crazyhouse = codes "crazyhouse"
word_of Bughouse = codes "bughouse"
word_of (Fischer number) = codes "fischer " ++ decimal (number % arrays)
