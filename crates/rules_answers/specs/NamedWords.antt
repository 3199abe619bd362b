-- The origins that a word with a kind and a target may have.
use Rattle.std.specs.Prelude.{ℕ}
use Rattle.chess_model.specs.declared.moves.Move.{Move}
use Rattle.chess_model.specs.declared.moves.Move.TheVariants as move
use Rattle.chess_model.specs.declared.moves.MoveWord.{MoveWord}
use Rattle.chess_model.specs.declared.moves.MoveWord.TheVariants as word
use Rattle.rules_answers.specs.declared.named.NamedWord.{NamedWord}
use Rattle.chess_model.specs.Position.{Position}
use Rattle.chess_model.specs.Allowed.{IsMove, IsSafeAfter, Allowed}
use Rattle.chess_model.specs.Answer.{promotion_of, IsNamed}

-- the word
abbrev pub move_word_of : NamedWord → MoveWord
move_word_of w = word.Named w.kind w.file w.rank w.to w.promo

-- the move of the word from a
abbrev pub move_from : Position → NamedWord → ℕ → Move
move_from p w a = move.Plain a w.to (promotion_of p a w.to w.promo)

-- a man that the word names stands on a
abbrev pub IsOrigin : Position → NamedWord → ℕ → Type 0
IsOrigin p w a = IsNamed p w.kind w.file w.rank a

-- the word's move from a is allowed
unfoldable pub IsChoiceFrom : Position → NamedWord → ℕ → Type 0
IsChoiceFrom p w a = IsOrigin p w a × Allowed p (move_from p w a)

-- the word's move from a fails by the safety of the own king alone
unfoldable pub IsExposedFrom : Position → NamedWord → ℕ → Type 0
IsExposedFrom p w a = IsOrigin p w a × IsMove p (move_from p w a) × (¬ IsSafeAfter p (move_from p w a))
