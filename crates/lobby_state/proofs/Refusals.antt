-- What stands after an act, and what it answers, whether it is refused or carried out: the two cases are parted here
-- alone.
use Rattle.std.proofs.Common.{◌≡◌, Option, None, Some, Result, Ok, Err, refl, sym, subst}
use Rattle.std.specs.Prelude.{IfOk}
use Rattle.fics_words.specs.Effect.{Effect, NoneHolds, Takes, answer_of, answered, first_cause, state_of, unless}
use Rattle.fics_words.specs.declared.fail.Fail.{Fail}
use Rattle.fics_words.specs.declared.fail.Fail.TheVariants.{Refused, Memory}
use Rattle.fics_words.specs.declared.refusal.Refusal.{Refusal}
use Rattle.fics_words.proofs.Causes.{none_holds}

after_by : {S : Type 0} (P : S → Type 0) (refused : Option Refusal) (old new : S) → P old → (refused ≡ None → P new)
    → P (unless refused old new)
after_by P None old new h step = step refl
after_by P (Some cause) old new h step = h

-- what holds before an act and of what it makes holds after it
pub holds_after : {S R : Type 0} (P : S → Type 0) (old : S) (effect : Effect S R) → P old
    → (NoneHolds effect.causes → P effect.after)
    → P (state_of old effect)
holds_after P old effect h step =
    after_by P (first_cause effect.causes) old effect.after h (λ none. step (none_holds effect.causes none))

answer_by : {R : Type 0} (P : R → Type 0) (refused : Option Refusal) (reply : R) → (refused ≡ None → P reply)
    → IfOk (answered refused reply) P
answer_by P None reply step = step refl
answer_by P (Some cause) reply step = tt

-- what holds of its reply holds of its answer
pub holds_of_answer : {S R : Type 0} (P : R → Type 0) (effect : Effect S R) → (NoneHolds effect.causes → P effect.reply)
    → IfOk (answer_of effect) P
holds_of_answer P effect step =
    answer_by P (first_cause effect.causes) effect.reply (λ none. step (none_holds effect.causes none))

-- and so where a call carries it out, which may run out of memory
pub holds_taken : {S R : Type 0} (P : S → Type 0) (old : S) (effect : Effect S R) (new : S) (result : Result R Fail)
    → P old
    → (NoneHolds effect.causes → P effect.after) → Takes effect old new result → P new
holds_taken P old effect new (Ok reply) h step t = subst P (sym t.2) (step (none_holds effect.causes t.0))
holds_taken P old effect new (Err (Refused cause)) h step t = subst P (sym t.1) h
holds_taken P old effect new (Err Memory) h step t = subst P (sym t.1) h
