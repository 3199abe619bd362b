-- Reading the terms of a game from left to right, word by word. The words are those of `TermWords`, and the law below
-- says that what is read is what they spell.
use Rattle.std.specs.Prelude.{◌≡◌, ◌↔◌, ℕ, ◌-◌, bytes_eq, if◌then◌else◌, List, [], ◌∷◌, Option, Some, None, option_map, codes}
use Rattle.chess_model.specs.Limits.{arrays, most_time}
use Rattle.chess_model.specs.declared.man.Colour.{Colour}
use Rattle.chess_model.specs.declared.man.Colour.TheVariants.{White, Black}
use Rattle.chess_model.specs.declared.variant.Terms.{Terms}
use Rattle.chess_model.specs.declared.variant.Variant.{Variant}
use Rattle.chess_model.specs.declared.variant.Variant.TheVariants.{Chess, Crazyhouse, Bughouse, Fischer}
use Rattle.chess_model.specs.VariantWord.{word_of}
use Rattle.command_words.specs.declared.terms.Time.{Time}
use Rattle.command_words.specs.Blanks.{Words}
use Rattle.command_words.specs.Numbers.{number_within}
use Rattle.command_words.specs.TermWords.{SpellsTerms}

-- what the first word means, and the words behind it; where it means nothing, what holds without it, and all the words
abbrev pub told_or_default : {V : Type 0} → V → Option V → Words → Words → V × Words
told_or_default absent None words behind = (absent, words)
told_or_default absent (Some value) words behind = (value, behind)

abbrev pub leading : {V : Type 0} → (List ℕ → Option V) → V → Words → V × Words
leading meaning absent [] = (absent, [])
leading meaning absent (word ∷ words) = told_or_default absent (meaning word) (word ∷ words) words

-- two numbers, and the words behind them; where one of them is none, the usual time, and all the words
abbrev pub times_read : Time → Option ℕ → Option ℕ → Words → Words → Time × Words
times_read usual (Some minutes) (Some increment) words behind =
    (record { minutes = minutes; increment = increment }, behind)
times_read usual minutes increment words behind = (usual, words)

abbrev pub leading_time : Time → Words → Time × Words
leading_time usual [] = (usual, [])
leading_time usual (word ∷ []) = (usual, word ∷ [])
leading_time usual (minutes ∷ increment ∷ words) =
    times_read usual (number_within most_time minutes) (number_within most_time increment) (minutes ∷ increment ∷ words)
    words

-- the words behind `unrated`, if it stands first
abbrev pub behind_unrated : Words → Words
behind_unrated [] = []
behind_unrated (word ∷ words) = if bytes_eq word (codes "unrated") then words else word ∷ words

-- what stands beside a word in a table
abbrev pub meaning_in : {V : Type 0} → List (List ℕ × V) → List ℕ → Option V
meaning_in [] word = None
meaning_in (row ∷ rows) word = if bytes_eq word row.0 then Some row.1 else meaning_in rows word

abbrev pub variants : List (List ℕ × Variant)
variants = (word_of Chess, Chess) ∷ (word_of Crazyhouse, Crazyhouse) ∷ (word_of Bughouse, Bughouse) ∷ []

abbrev pub colours : List (List ℕ × Colour)
colours = (codes "white", White) ∷ (codes "w", White) ∷ (codes "black", Black) ∷ (codes "b", Black) ∷ []

-- the variant of that one word
abbrev pub variant_of : List ℕ → Option Variant
variant_of = meaning_in variants

-- a variant that one word names
abbrev pub in_one_word : Variant → Option Variant
in_one_word Chess = Some Chess
in_one_word Crazyhouse = Some Crazyhouse
in_one_word Bughouse = Some Bughouse
in_one_word (Fischer number) = None

-- the number of the array of Fischer random that these two words name
abbrev pub array_named : List ℕ → List ℕ → Option ℕ
array_named word number = if bytes_eq word (codes "fischer") then number_within (arrays - 1) number else None

-- Fischer random from that array, and the words behind its two; else what the first word means
abbrev pub from_array : Option ℕ → Words → Words → Variant × Words
from_array (Some number) words behind = (Fischer number, behind)
from_array None words behind = leading variant_of Chess words

-- the variant that stands first, and the words behind it; where none does, chess, and all the words
abbrev pub leading_variant : Words → Variant × Words
leading_variant [] = (Chess, [])
leading_variant (word ∷ []) = leading variant_of Chess (word ∷ [])
leading_variant (word ∷ number ∷ words) = from_array (array_named word number) (word ∷ number ∷ words) words

-- the colour of that word
abbrev pub colour_of : List ℕ → Option Colour
colour_of = meaning_in colours

-- such a word asks for its colour
abbrev pub asked_colour : List ℕ → Option (Option Colour)
asked_colour word = option_map Some (colour_of word)

-- the terms, where no word is left over
abbrev pub with_none_left : Terms → Words → Option Terms
with_none_left terms [] = Some terms
with_none_left terms (word ∷ words) = None

-- the terms of what was read
abbrev pub agreed_terms : Time → Variant → Option Colour → Terms
agreed_terms time variant colour =
    record { minutes = time.minutes; increment = time.increment; variant = variant; colour = colour }

-- the terms that the words are read as, where the time is usually this
unfoldable pub terms_of : Time → Words → Option Terms
terms_of usual words =
    let time = leading_time usual words in
    let variant = leading_variant (behind_unrated time.1) in
    let colour = leading asked_colour None variant.1 in
    with_none_left (agreed_terms time.0 variant.0 colour.0) colour.1

-- words are read as terms exactly where they spell them; so no words spell two terms
abbrev pub AreReadAsSpelled : Type 0
AreReadAsSpelled =
    (usual : Time) (words : Words) (terms : Terms) → (terms_of usual words ≡ Some terms) ↔ SpellsTerms usual words terms
