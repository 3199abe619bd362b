-- What a read, a write and a close do to what a link tells.
use Rattle.std.specs.Prelude.{◌≡◌, ℕ, ⊤, Bool, true, false, List, [], ◌∷◌, ◌++◌, length, map, take, IfSome}
use Rattle.std.specs.declared.option.Option.{Option}
use Rattle.edge_traits.specs.declared.link.Heard.{Heard}
use Rattle.edge_traits.specs.declared.link.Heard.TheVariants.{Bytes, Quiet, End, Failed}
use Rattle.edge_traits.specs.declared.sink.Sent.{Sent}
use Rattle.edge_traits.specs.declared.sink.Sent.TheVariants.{All}

-- what comes over a link: a byte, or a pause in which nothing came
pub data Sign : Type 0 where
  Byte : ℕ → Sign
  Pause : Sign

-- how much of a link had been taken and written at a moment, and whether its end had been given
pub record Extent : Type 0 where
  pub taken : ℕ
  pub written : ℕ
  pub ended : Bool

-- what a link tells: what it has left to give, what was taken from it, whether the end was given, what it was written,
-- whether it was closed, and how far it had come when its last read began
pub record Tale : Type 0 where
  pub left : List Sign
  pub taken : List Sign
  pub ended : Bool
  pub written : List ℕ
  pub closed : Bool
  pub at_read : Extent

-- a link as it is handed over: what it tells, and how many faults it has counted
pub record Handed : Type 0 where
  pub tale : Option Tale
  pub faults : ℕ

-- nothing was read or written, and the link isn't closed
abbrev pub IsFresh : Tale → Type 0
IsFresh tale =
    (tale.taken ≡ []) × (tale.ended ≡ false) × (tale.written ≡ []) × (tale.closed ≡ false)
    × (tale.at_read ≡ record { taken = 0; written = 0; ended = false })

-- a link that tells isn't closed
abbrev pub LinkIsOpen : Option Tale → Type 0
LinkIsOpen link = IfSome link (λ tale. tale.closed ≡ false)

-- what an answer gives, of which the bytes are the beginning of the buffer
abbrev pub signs_of : Heard → List ℕ → List Sign
signs_of (Bytes n) buf = map Byte (take n buf)
signs_of Quiet buf = Pause ∷ []
signs_of End buf = []
signs_of Failed buf = []

-- whether the end was given
abbrev pub is_ended : Heard → Bool → Bool
is_ended End before = true
is_ended heard before = before

-- the end comes only where nothing is left
abbrev pub OnEnd : Heard → Type 0 → Type 0
OnEnd End P = P
OnEnd heard P = ⊤

-- how far a link has come
abbrev pub extent_of : Tale → Extent
extent_of tale = record { taken = length tale.taken; written = length tale.written; ended = tale.ended }

-- a read took what it gives from what was left
pub record Reads (heard : Heard) (buf : List ℕ) (old new : Tale) : Type 0 where
  pub left : old.left ≡ signs_of heard buf ++ new.left
  pub taken : new.taken ≡ old.taken ++ signs_of heard buf
  pub end : OnEnd heard (old.left ≡ [])
  pub ended : new.ended ≡ is_ended heard old.ended
  pub at_read : new.at_read ≡ extent_of old
  pub written : new.written ≡ old.written
  pub closed : new.closed ≡ old.closed

-- all the bytes, or a prefix of them where the write failed or ran out of memory
abbrev pub Grows : Sent → List ℕ → List ℕ → List ℕ → Type 0
Grows All bytes old new = new ≡ old ++ bytes
Grows sent bytes old new = (n : ℕ) × (new ≡ old ++ take n bytes)

-- a write changes what was written, and nothing else
abbrev pub Writes : Sent → List ℕ → Tale → Tale → Type 0
Writes sent bytes old new = Grows sent bytes old.written new.written × (new ≡ record old { written = new.written })

-- a close changes nothing else
abbrev pub Closes : Tale → Tale → Type 0
Closes old new = new ≡ record old { closed = true }

-- the fact holds of the number of bytes that were given
abbrev pub IfHeard : Heard → (ℕ → Type 0) → Type 0
IfHeard (Bytes n) P = P n
IfHeard heard P = ⊤

-- the fact holds where the read failed
abbrev pub OnHearFailed : Heard → Type 0 → Type 0
OnHearFailed Failed P = P
OnHearFailed heard P = ⊤
