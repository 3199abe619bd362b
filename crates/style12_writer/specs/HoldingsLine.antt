-- The holdings line: `<b1> game N white [..] black [..]`, after FICS's. That a hand's letters stand in the order
-- P N B R Q, in upper case for both colours, and that ` <- X` tells of the one man that has just come, is this server's
-- profile.
use Rattle.std.specs.Prelude.{◌≡◌, ℕ, min, List, [], ◌∷◌, ◌++◌, replicate, Option, Some, None, codes, decimal, refl}
use Rattle.std.specs.Fmt.{digits}
use Rattle.chess_model.specs.declared.hand.Hand.{Hand}
use Rattle.chess_model.specs.declared.man.Kind.{Kind}
use Rattle.chess_model.specs.declared.man.Kind.TheVariants.{Pawn, Knight, Bishop, Rook, Queen}
use Rattle.move_writer.specs.Letters.{letter_of}

-- two sets have sixteen pawns, and fewer men of every other kind, so no hand of a game has more of a kind
abbrev pub most_of_a_kind : ℕ
most_of_a_kind = 16

-- a letter for each man of a kind
abbrev pub men_text : Kind → ℕ → List ℕ
men_text kind count = replicate (min count most_of_a_kind) (letter_of kind)

-- the men in a hand: the pawns, then the knights, bishops, rooks and queens
abbrev pub hand_text : Hand → List ℕ
hand_text h =
    men_text Pawn h.pawns ++ men_text Knight h.knights ++ men_text Bishop h.bishops ++ men_text Rook h.rooks
    ++ men_text Queen h.queens

-- the man that has just come, if one has
abbrev pub came_text : Option Kind → List ℕ
came_text None = []
came_text (Some kind) = codes " <- " ++ letter_of kind ∷ []

-- the whole line
abbrev pub holdings_text : ℕ → Hand → Hand → Option Kind → List ℕ
holdings_text game white black came =
    codes "<b1> game " ++ decimal game ++ codes " white [" ++ hand_text white ++ codes "] black [" ++ hand_text black
    ++ codes "]" ++ came_text came

-- nothing in hand
abbrev nothing : Hand
nothing = record { pawns = 0; knights = 0; bishops = 0; rooks = 0; queens = 0 }

example_empty : holdings_text 1 nothing nothing None ≡ codes "<b1> game 1 white [] black []"
unfolding digits
example_empty = refl

example_came : holdings_text 2 nothing (record nothing { pawns = 1 }) (Some Pawn)
    ≡ codes "<b1> game 2 white [] black [P] <- P"
unfolding digits
example_came = refl

example_order : holdings_text 12 (record { pawns = 2; knights = 1; bishops = 1; rooks = 2; queens = 1 })
    (record nothing { knights = 1; queens = 1 }) (Some Queen)
    ≡ codes "<b1> game 12 white [PPNBRRQ] black [NQ] <- Q"
unfolding digits
example_order = refl
