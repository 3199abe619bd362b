-- Reading is the way back from the spellings, both ways.
use Rattle.std.proofs.Common.{◌≡◌, refl, sym, ap, subst, ◌∙◌, Some, None}
use Rattle.std.specs.Prelude.{Option}
use Rattle.chess_model.specs.declared.moves.MoveWord.{MoveWord}
use Rattle.chess_model.specs.declared.moves.MoveWord.TheVariants.{Coordinate, Named, Castle, Drop}
use Rattle.move_reader.specs.Spellings.{Text, SpellsSquares, IsReading, HasOneReading}
use Rattle.move_reader.specs.Reading.{coordinate_of, named_of, castle_of, drop_of, first_of_two, reading}
use Rattle.move_reader.proofs.ByteMeanings.{not_some}
use Rattle.move_reader.proofs.WhatIsRead.{IsSquares, IsNamed, IsCastling, IsDrop, coordinate-sound, named-sound, castle-sound, drop-sound}
use Rattle.move_reader.proofs.SpelledWords.{coordinate-again, named-again, castle-again, drop-again}
use Rattle.std.proofs.lemmas.Option.{same_Some}

squares_read : (text : Text) (w : MoveWord) → IsSquares text w → IsReading text w
squares_read text w (from, to, promo, is, spells) = subst (λ (x : MoveWord). IsReading text x) is spells

named_read : (text : Text) (w : MoveWord) → (SpellsSquares text → ⊥) → IsNamed text w → IsReading text w
named_read text w none (man, file, rank, to, promo, is, spells) =
    subst (λ (x : MoveWord). IsReading text x) is (spells, none)

castling_read : (text : Text) (w : MoveWord) → IsCastling text w → IsReading text w
castling_read text w (long, is, spells) = subst (λ (x : MoveWord). IsReading text x) is spells

drop_read : (text : Text) (w : MoveWord) → IsDrop text w → IsReading text w
drop_read text w (man, to, is, spells) = subst (λ (x : MoveWord). IsReading text x) is spells

-- no two squares are spelled where none are read
no_squares : (text : Text) → coordinate_of text ≡ None → SpellsSquares text → ⊥
no_squares text none (from, to, promo, spells) =
    not_some (Coordinate from to promo) (sym none ∙ coordinate-again text from to promo spells)

found : (text : Text) (w : MoveWord) (a b c d : Option MoveWord) → coordinate_of text ≡ a → named_of text ≡ b
    → castle_of text ≡ c → drop_of text ≡ d
    → first_of_two a (first_of_two b (first_of_two c d)) ≡ Some w → IsReading text w
found text w (Some v) b c d p q r s e = squares_read text w (coordinate-sound text w (p ∙ e))
found text w None (Some v) c d p q r s e = named_read text w (no_squares text p) (named-sound text w (q ∙ e))
found text w None None (Some v) d p q r s e = castling_read text w (castle-sound text w (r ∙ e))
found text w None None None d p q r s e = drop_read text w (drop-sound text w (s ∙ e))

pub reading-sound : (text : Text) (w : MoveWord) → reading text ≡ Some w → IsReading text w
reading-sound text w e =
    found text w (coordinate_of text) (named_of text) (castle_of text) (drop_of text) refl refl refl refl e

no_coordinate : (text : Text) (a : Option MoveWord) → (SpellsSquares text → ⊥) → coordinate_of text ≡ a → a ≡ None
no_coordinate text None none e = refl
no_coordinate text (Some v) none e = absurd (spelled (coordinate-sound text v e))
  where
    spelled : IsSquares text v → ⊥
    spelled (from, to, promo, is, spells) = none (from, to, promo, spells)

pub reading-again : (text : Text) (w : MoveWord) → IsReading text w → reading text ≡ Some w
reading-again text (Coordinate from to promo) spells =
    ap (λ (x : Option MoveWord).
    first_of_two x (first_of_two (named_of text) (first_of_two (castle_of text) (drop_of text))))
    (coordinate-again text from to promo spells)
reading-again text (Named man file rank to promo) (spells, none) =
    ap (λ (x : Option MoveWord).
    first_of_two x (first_of_two (named_of text) (first_of_two (castle_of text) (drop_of text))))
    (no_coordinate text (coordinate_of text) none refl)
    ∙ ap (λ (x : Option MoveWord). first_of_two x (first_of_two (castle_of text) (drop_of text)))
    (named-again text man file rank to promo spells)
reading-again text (Castle long) spells = castle-again text long spells
reading-again text (Drop man to) spells = drop-again text man to spells

pub one_word : HasOneReading
one_word text a b p q = same_Some a b (sym (reading-again text a p) ∙ reading-again text b q)
