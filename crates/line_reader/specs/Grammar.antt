-- What a telnet client sends, unit by unit, and the lines of the whole (RFC 854).
use Rattle.std.specs.Prelude.{◌≡◌, ℕ, true, false, ◌==◌, if◌then◌else◌, List, [], ◌∷◌, ◌++◌, filter, map, Option}
use Rattle.std.specs.List.{AllByRecursion, join_with_byte}
use Rattle.line_reader.specs.declared.incoming.Incoming.{Incoming}
use Rattle.fics_words.specs.Pieces.{is_kept, IsUnbroken}
use Rattle.line_reader.specs.Telnet.{is_choice}
use Rattle.line_reader.specs.Reading.{incoming_of, rest_reading}

-- a part of a block: a byte other than IAC, or IAC and a byte other than SE. IAC IAC is such a pair
pub data Part : Type 0 where
  Inside : ℕ → Part
  Pair : ℕ → Part

-- a unit: a byte other than IAC; IAC and an order, or IAC again; IAC, a verb and an option; a block from IAC SB to IAC
-- SE
pub data Sent : Type 0 where
  DataByte : ℕ → Sent
  Order : ℕ → Sent
  Request : ℕ → ℕ → Sent
  Section : List Part → Sent

-- a unit that isn't whole, at the end of a text
pub data Begun : Type 0 where
  Nothing : Begun
  AfterIac : Begun
  AfterVerb : ℕ → Begun
  InSection : List Part → Begun
  InSectionIac : List Part → Begun

abbrev pub IsPart : Part → Type 0
IsPart (Inside byte) = (byte == 255) ≡ false
IsPart (Pair byte) = (byte == 240) ≡ false

abbrev pub part_bytes : List Part → List ℕ
part_bytes [] = []
part_bytes (Inside byte ∷ parts) = byte ∷ part_bytes parts
part_bytes (Pair byte ∷ parts) = 255 ∷ byte ∷ part_bytes parts

-- an order isn't SB, and no verb, which are WILL, WONT, DO and DONT
abbrev pub IsSent : Sent → Type 0
IsSent (DataByte byte) = (byte == 255) ≡ false
IsSent (Order byte) = ((byte == 250) ≡ false) × (is_choice byte ≡ false)
IsSent (Request verb option) = is_choice verb ≡ true
IsSent (Section parts) = AllByRecursion IsPart parts

abbrev pub sent_bytes : Sent → List ℕ
sent_bytes (DataByte byte) = byte ∷ []
sent_bytes (Order byte) = 255 ∷ byte ∷ []
sent_bytes (Request verb option) = 255 ∷ verb ∷ option ∷ []
sent_bytes (Section parts) = 255 ∷ 250 ∷ (part_bytes parts ++ 255 ∷ 240 ∷ [])

-- the data: a byte other than IAC, and 255 where IAC is sent twice
abbrev pub sent_data : Sent → List ℕ
sent_data (DataByte byte) = byte ∷ []
sent_data (Order byte) = if byte == 255 then (byte ∷ []) else []
sent_data (Request verb option) = []
sent_data (Section parts) = []

abbrev pub all_bytes : List Sent → List ℕ
all_bytes [] = []
all_bytes (unit ∷ units) = sent_bytes unit ++ all_bytes units

abbrev pub all_data : List Sent → List ℕ
all_data [] = []
all_data (unit ∷ units) = sent_data unit ++ all_data units

abbrev pub IsBegun : Begun → Type 0
IsBegun Nothing = Unit {0}
IsBegun AfterIac = Unit {0}
IsBegun (AfterVerb verb) = is_choice verb ≡ true
IsBegun (InSection parts) = AllByRecursion IsPart parts
IsBegun (InSectionIac parts) = AllByRecursion IsPart parts

abbrev pub begun_bytes : Begun → List ℕ
begun_bytes Nothing = []
begun_bytes AfterIac = 255 ∷ []
begun_bytes (AfterVerb verb) = 255 ∷ verb ∷ []
begun_bytes (InSection parts) = 255 ∷ 250 ∷ part_bytes parts
begun_bytes (InSectionIac parts) = 255 ∷ 250 ∷ (part_bytes parts ++ 255 ∷ [])

-- the units of a text
pub record AreUnits (text : List ℕ) (units : List Sent) (begun : Begun) : Type 0 where
  pub sent : AllByRecursion IsSent units
  pub unfinished : IsBegun begun
  pub spelled : text ≡ all_bytes units ++ begun_bytes begun

-- the lines of a text and what is left at its end: its units' data without CR and NUL is the lines and the rest, joined
-- by line feeds, and none of them has a line feed in it
pub record AreLines (text : List ℕ) (lines : List Incoming) (rest : Option Incoming) : Type 0 where
  pub units : List Sent
  pub begun : Begun
  pub whole : List (List ℕ)
  pub left : List ℕ
  pub parsed : AreUnits text units begun
  pub joined : join_with_byte 10 (whole ++ left ∷ []) ≡ filter is_kept (all_data units)
  pub unbroken : AllByRecursion IsUnbroken (whole ++ left ∷ [])
  pub lines_are : lines ≡ map incoming_of whole
  pub rest_is : rest ≡ rest_reading left
