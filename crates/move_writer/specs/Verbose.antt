-- The verbose text of a move, field 'verbose coordinate notation of the previous move' of FICS style 12.
use Rattle.std.specs.Prelude.{◌≡◌, ℕ, List, ◌∷◌, ◌++◌, true, false, Some, None, codes, refl}
use Rattle.chess_model.specs.declared.man.Kind.{Kind}
use Rattle.chess_model.specs.declared.man.Kind.TheVariants.{Pawn, Queen, King}
use Rattle.chess_model.specs.declared.moves.Move.{Move}
use Rattle.chess_model.specs.declared.moves.Move.TheVariants.{Plain, Castle, Drop}
use Rattle.chess_model.specs.declared.states.Shown.{Shown}
use Rattle.move_writer.specs.Letters.{letter_of, square_text, promotion_text}

-- a move by the man that moves: its letter and its two squares, with what a pawn becomes; the castlings; a drop
abbrev pub verbose_move : Kind → Move → List ℕ
verbose_move moved (Plain from to promo) =
    letter_of moved ∷ codes "/" ++ square_text from ++ codes "-" ++ square_text to ++ promotion_text promo
verbose_move moved (Castle false) = codes "o-o"
verbose_move moved (Castle true) = codes "o-o-o"
verbose_move moved (Drop dropped to) = letter_of dropped ∷ codes "/@@-" ++ square_text to

abbrev pub verbose_of : Shown → List ℕ
verbose_of shown = verbose_move shown.kind shown.what

example_push : verbose_move Pawn (Plain 12 28 None) ≡ codes "P/e2-e4"
example_push = refl

example_promotion : verbose_move Pawn (Plain 52 60 (Some Queen)) ≡ codes "P/e7-e8=Q"
example_promotion = refl

example_short : verbose_move King (Castle false) ≡ codes "o-o"
example_short = refl

example_long : verbose_move King (Castle true) ≡ codes "o-o-o"
example_long = refl

example_drop : verbose_move Pawn (Drop Pawn 28) ≡ codes "P/@@-e4"
example_drop = refl
