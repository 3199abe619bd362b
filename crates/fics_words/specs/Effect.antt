-- What an act does: why it is refused, what it replies, and what stands afterwards. One record says it of each act, and
-- the answer and the state afterwards are read off it. This server's own.
use Rattle.std.specs.Prelude.{◌≡◌, Bool, true, false, cond, List, [], ◌∷◌, Option, None, Some, Result, Ok, Err}
use Rattle.fics_words.specs.declared.refusal.Refusal.{Refusal}
use Rattle.fics_words.specs.declared.fail.Fail.{Fail}
use Rattle.fics_words.specs.declared.fail.Fail.TheVariants.{Refused, Memory}

-- a cause of a refusal: whether it holds, and the refusal that it brings
abbrev pub Cause : Type 0
Cause = Bool × Refusal

-- the refusal of the first cause that holds
abbrev pub first_cause : List Cause → Option Refusal
first_cause [] = None
first_cause (row ∷ rows) = cond row.0 (Some row.1) (first_cause rows)

-- no cause holds
abbrev pub NoneHolds : List Cause → Type 0
NoneHolds [] = Unit {0}
NoneHolds (row ∷ rows) = (row.0 ≡ false) × NoneHolds rows

-- the one cause that an answer of another layer is, where that layer refuses
abbrev pub refused_by : {T : Type 0} → Result T Refusal → List Cause
refused_by (Ok value) = []
refused_by (Err cause) = (true, cause) ∷ []

-- an act of a session on what has the states S, with replies R: the causes of its refusal in their order, whether it
-- may run out of memory, and, where no cause holds, its reply and what stands afterwards
pub record Effect (S R : Type 0) : Type 0 where
  pub causes : List Cause
  pub memory : Bool
  pub reply : R
  pub after : S

-- the answer where there is a refusal or none: the refusal, else the reply
abbrev pub answered : {R : Type 0} → Option Refusal → R → Result R Refusal
answered None reply = Ok reply
answered (Some cause) reply = Err cause

-- what stands after an act: where it is refused what stood before, else what it makes
abbrev pub unless : {S : Type 0} → Option Refusal → S → S → S
unless None old new = new
unless (Some cause) old new = old

-- the answer to an act
abbrev pub answer_of : {S R : Type 0} → Effect S R → Result R Refusal
answer_of effect = answered (first_cause effect.causes) effect.reply

-- what stands after an act
abbrev pub state_of : {S R : Type 0} → S → Effect S R → S
state_of old effect = unless (first_cause effect.causes) old effect.after

-- a call carries out an act: it gives the reply and leaves what the act makes, where no cause holds; it gives the first
-- cause that holds and changes nothing; or it runs out of memory, where the act may, and changes nothing
abbrev pub Takes : {S R : Type 0} → Effect S R → S → S → Result R Fail → Type 0
Takes effect old new (Ok reply) = (first_cause effect.causes ≡ None) × (reply ≡ effect.reply) × (new ≡ effect.after)
Takes effect old new (Err (Refused cause)) = (first_cause effect.causes ≡ Some cause) × (new ≡ old)
Takes effect old new (Err Memory) = (effect.memory ≡ true) × (new ≡ old)

-- a call gives this answer, and nothing but running out of memory stands in its place
abbrev pub Gives : {R : Type 0} → Result R Refusal → Result R Fail → Type 0
Gives answer (Ok reply) = answer ≡ Ok reply
Gives answer (Err (Refused cause)) = answer ≡ Err cause
Gives answer (Err Memory) = Unit {0}

-- the refusal in an answer, if it is one
abbrev pub refusal_of : {R : Type 0} → Result R Refusal → Option Refusal
refusal_of (Ok reply) = None
refusal_of (Err cause) = Some cause
