-- The style 12 line: 31 fields between single blanks, named as in the FICS help page `style12`.
use Rattle.std.specs.Prelude.{◌==◌, ℕ, pos, List, [], ◌∷◌, ◌++◌, slice_index_or, codes, decimal}
use Rattle.std.specs.Fmt.{signed_decimal}
use Rattle.std.specs.List.{join_with_byte, slice_split}
use Rattle.chess_model.specs.declared.man.Colour.TheVariants.{White, Black}
use Rattle.chess_model.specs.declared.face.Face.{Face}
use Rattle.chess_model.specs.Material.{material_of}
use Rattle.style12_writer.specs.declared.view.BoardView.{BoardView}
use Rattle.style12_writer.specs.declared.view.Viewer.{Viewer}
use Rattle.style12_writer.specs.Board.{ranks, colour_to_move, double_push, castle_flags, flag_text}
use Rattle.style12_writer.specs.Clocks.{whole_seconds_of, time_taken}

-- 'the string <12> to identify this line'
abbrev pub identifier : List ℕ
identifier = codes "<12>"

-- 'the number of moves made since the last irreversible move'
abbrev pub irreversible_count : Face → List ℕ
irreversible_count face = decimal face.quiet

-- 'the game number'
abbrev pub game_number : BoardView → List ℕ
game_number v = decimal v.game

-- 'White's name'
abbrev pub white_name : BoardView → List ℕ
white_name v = v.white

-- 'Black's name'
abbrev pub black_name : BoardView → List ℕ
black_name v = v.black

-- 'my relation to this game'
abbrev pub my_relation : Viewer → List ℕ
my_relation who = signed_decimal who.relation

-- 'initial time of the match', here in minutes
abbrev pub initial_time : BoardView → List ℕ
initial_time v = decimal v.minutes

-- 'increment in seconds of the match'
abbrev pub time_increment : BoardView → List ℕ
time_increment v = decimal v.increment

-- 'White material strength'
abbrev pub white_material : BoardView → List ℕ
white_material v = decimal (material_of White v.face.men)

-- 'Black material strength'
abbrev pub black_material : BoardView → List ℕ
black_material v = decimal (material_of Black v.face.men)

-- 'White's remaining time', here in whole seconds
abbrev pub white_remaining : BoardView → List ℕ
white_remaining v = signed_decimal (whole_seconds_of (slice_index_or v.remaining 0 (pos 0)))

-- 'Black's remaining time', here in whole seconds
abbrev pub black_remaining : BoardView → List ℕ
black_remaining v = signed_decimal (whole_seconds_of (slice_index_or v.remaining 1 (pos 0)))

-- 'the number of the move about to be made'
abbrev pub next_move_number : BoardView → List ℕ
next_move_number v = decimal v.face.number

-- 'verbose coordinate notation for the previous move'
abbrev pub previous_verbose : BoardView → List ℕ
previous_verbose v = v.face.verbose

-- 'time taken to make previous move'
abbrev pub previous_time : BoardView → List ℕ
previous_time v = time_taken v.taken

-- 'pretty notation for the previous move'
abbrev pub previous_pretty : BoardView → List ℕ
previous_pretty v = v.face.pretty

-- 'flip field for board orientation: 1 = Black at bottom, 0 = White at bottom'
abbrev pub flip_flag : Viewer → List ℕ
flip_flag who = flag_text who.flip

-- the fields of the position
unfoldable pub position_fields : Face → List (List ℕ)
position_fields face =
    ranks face.men ++ colour_to_move face.to_move ∷ double_push face.push ∷ castle_flags face.rights
    ++ irreversible_count face ∷ []

-- the fields of the game and its terms
unfoldable pub game_fields : BoardView → Viewer → List (List ℕ)
game_fields v who =
    game_number v ∷ white_name v ∷ black_name v ∷ my_relation who ∷ initial_time v ∷ time_increment v ∷ []

-- the fields of what the players have
unfoldable pub strength_fields : BoardView → List (List ℕ)
strength_fields v = white_material v ∷ black_material v ∷ white_remaining v ∷ black_remaining v ∷ []

-- the fields of the moves, and the board's orientation
unfoldable pub move_fields : BoardView → Viewer → List (List ℕ)
move_fields v who =
    next_move_number v ∷ previous_verbose v ∷ previous_time v ∷ previous_pretty v ∷ flip_flag who ∷ []

-- all 31 fields
unfoldable pub fields_of : BoardView → Viewer → List (List ℕ)
fields_of v who =
    identifier ∷ position_fields v.face ++ game_fields v who ++ strength_fields v ++ move_fields v who

-- the line: the fields between single blanks
unfoldable pub line12_text : BoardView → Viewer → List ℕ
line12_text v who = join_with_byte 32 (fields_of v who)

-- a line cut at its blanks
abbrev pub cut_at_blanks : List ℕ → List (List ℕ)
cut_at_blanks line = slice_split (λ byte. byte == 32) line
