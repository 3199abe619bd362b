-- What the fields of a `MoveText` keep.
use Rattle.std.specs.Prelude.{◌≡◌, ℕ, ◌-◌, ◌≤◌, List, ◌++◌, length, take, drop, replicate}
use Rattle.std.proofs.Common.{refl}
use Rattle.std.proofs.lemmas.List.{length-take-le, take-append-drop}
use Rattle.chess_model.specs.MoveText.{IsMoveText}
use Rattle.chess_model.specs.declared.text.MoveText.TheInside.{Inside}

-- the text is the first `len` bytes
abbrev pub text_of : Inside → List ℕ
text_of t = take t.len t.bytes

-- the first bytes are a text, and zeros stand behind them
pub record IsPadded (t : Inside) : Type 0 where
  pub text : IsMoveText (take t.len t.bytes)
  pub whole : t.len ≤ length t.bytes
  pub rest : drop t.len t.bytes ≡ replicate (12 - t.len) 0

-- the fields that a text has
abbrev pub fields_of : List ℕ → Inside
fields_of text = record { bytes = text ++ replicate (12 - length text) 0; len = length text }

pub fields_of-text_of : (t : Inside) → IsPadded t → fields_of (text_of t) ≡ t
fields_of-text_of t h =
    let long : length (take t.len t.bytes) ≡ t.len = length-take-le t.len t.bytes h.whole in
    let bytes : take t.len t.bytes ++ replicate (12 - length (take t.len t.bytes)) 0 ≡ t.bytes =
    rw (long, ← h.rest, take-append-drop t.len t.bytes) refl in
    λ i. record { bytes = bytes i; len = long i }
