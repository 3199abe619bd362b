-- What the calls of the reader say of pieces and bytes.
use Rattle.std.specs.Prelude.{◌≡◌, Bool, true, false, Option, Some, None}
use Rattle.pgn_book.specs.declared.book.Read.{Read}
use Rattle.pgn_book.specs.declared.place.PlaceInText.TheVariants.{Between}
use Rattle.pgn_book.specs.Reading.{Book, Taken, State, Step}

-- it goes on, or it doesn't
abbrev pub on_if : {A : Type 0} → Bool → A → Option A
on_if true x = Some x
on_if false x = None

-- what a piece made of the book that stands now
abbrev pub IsTaken : Read → Book → Taken → Type 0
IsTaken read book taken = taken ≡ record { given = read.game; on = on_if read.goes_on book }

-- the same of a piece that gives no game
abbrev pub IsTakenSilently : Bool → Book → Taken → Type 0
IsTakenSilently goes_on book taken = taken ≡ record { given = None; on = on_if goes_on book }

-- what a byte made of the state that stands now
abbrev pub IsStepOfByte : Read → State → Step → Type 0
IsStepOfByte read s step = step ≡ record { given = read.game; on = on_if read.goes_on s }

-- the same state between two pieces
abbrev pub between : State → State
between s = record { place = Between false; depth = s.depth; book = s.book }
