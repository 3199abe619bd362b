-- The number by which a record names a half-move: this server's own.
use Rattle.std.specs.Prelude.{ℕ, ◌+◌, ◌*◌, true, false, Option, Some, None, ⊤}
use Rattle.chess_model.specs.declared.man.Kind.{Kind}
use Rattle.chess_model.specs.declared.man.Kind.TheVariants.{Pawn, Knight, Bishop, Rook, Queen, King}
use Rattle.chess_model.specs.declared.moves.Move.{Move}
use Rattle.chess_model.specs.declared.moves.Move.TheVariants.{Plain, Castle, Drop}

-- what a pawn becomes: nothing, a knight, a bishop, a rook or a queen
abbrev pub MayBecome : Option Kind → Type 0
MayBecome None = ⊤
MayBecome (Some Pawn) = ⊥
MayBecome (Some Knight) = ⊤
MayBecome (Some Bishop) = ⊤
MayBecome (Some Rook) = ⊤
MayBecome (Some Queen) = ⊤
MayBecome (Some King) = ⊥

-- what is dropped: any man but a king
abbrev pub MayBeDropped : Kind → Type 0
MayBeDropped Pawn = ⊤
MayBeDropped Knight = ⊤
MayBeDropped Bishop = ⊤
MayBeDropped Rook = ⊤
MayBeDropped Queen = ⊤
MayBeDropped King = ⊥

-- the half-moves that have a code
abbrev pub HasCode : Move → Type 0
HasCode (Plain from to promo) = MayBecome promo
HasCode (Castle long) = ⊤
HasCode (Drop kind to) = MayBeDropped kind

-- the number of what a pawn becomes
abbrev pub promotion_code : Option Kind → ℕ
promotion_code None = 0
promotion_code (Some Pawn) = 0
promotion_code (Some Knight) = 1
promotion_code (Some Bishop) = 2
promotion_code (Some Rook) = 3
promotion_code (Some Queen) = 4
promotion_code (Some King) = 0

-- the number of what is dropped
abbrev pub kind_code : Kind → ℕ
kind_code Pawn = 0
kind_code Knight = 1
kind_code Bishop = 2
kind_code Rook = 3
kind_code Queen = 4
kind_code King = 0

-- from x 512 + to x 8 + what a pawn becomes; hexadecimal 8000 for castling short and 8001 for long; hexadecimal 8100 +
-- kind x 64 + square for a drop
abbrev pub move_code : Move → ℕ
move_code (Plain from to promo) = from * 512 + to * 8 + promotion_code promo
move_code (Castle false) = 0x8000
move_code (Castle true) = 0x8001
move_code (Drop kind to) = 0x8100 + kind_code kind * 64 + to
