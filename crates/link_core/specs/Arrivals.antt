-- What comes over a link, as inputs: its lines, each at the byte that ends it, a Quiet at each pause, and at the end
-- what is left of a line.
use Rattle.std.specs.Prelude.{ℕ, Bool, true, false, List, [], ◌∷◌, ◌++◌, drop, length, map, option_to_list}
use Rattle.edge_traits.specs.Link.{Sign, Byte, Pause}
use Rattle.line_reader.specs.declared.incoming.Incoming.{Incoming}
use Rattle.line_reader.specs.Reader.{fresh, lines_to_come, rest_to_come}
use Rattle.session_core.specs.declared.input.Input.{Input}
use Rattle.session_core.specs.declared.input.Input.TheVariants.{Line, Quiet}

-- the bytes among what came
abbrev pub bytes_of : List Sign → List ℕ
bytes_of [] = []
bytes_of (Byte byte ∷ signs) = byte ∷ bytes_of signs
bytes_of (Pause ∷ signs) = bytes_of signs

-- the lines of a text: they are those of the grammar of telnet lines
abbrev pub lines_in : List ℕ → List Incoming
lines_in text = lines_to_come fresh text

-- the lines that a text has behind those of its beginning
abbrev pub lines_behind : List ℕ → List ℕ → List Incoming
lines_behind front more = drop (length (lines_in front)) (lines_in (front ++ more))

-- the inputs of what came behind these bytes: a byte gives the line that it ends, if it ends one
abbrev pub inputs_behind : List ℕ → List Sign → List Input
inputs_behind front [] = []
inputs_behind front (Byte byte ∷ signs) =
    map Line (lines_behind front (byte ∷ [])) ++ inputs_behind (front ++ byte ∷ []) signs
inputs_behind front (Pause ∷ signs) = Quiet ∷ inputs_behind front signs

-- what is left of a line, where the end was given
abbrev pub rest_inputs : List ℕ → Bool → List Input
rest_inputs text true = map Line (option_to_list (rest_to_come fresh text))
rest_inputs text false = []

-- the inputs of what was taken from a link, and of its end if that was given
abbrev pub inputs_of : List Sign → Bool → List Input
inputs_of signs is_ended = inputs_behind [] signs ++ rest_inputs (bytes_of signs) is_ended
