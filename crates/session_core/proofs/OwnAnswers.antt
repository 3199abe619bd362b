-- What a refused call answers and leaves.
use Rattle.std.proofs.Common.{◌≡◌, Some, Err, Result, ap, subst, sym, ◌∙◌}
use Rattle.fics_words.specs.Effect.{Effect, Gives, Takes, answered, answer_of, first_cause, state_of, unless}
use Rattle.fics_words.specs.declared.fail.Fail.{Fail}
use Rattle.fics_words.specs.declared.fail.Fail.TheVariants.{Refused}
use Rattle.fics_words.specs.declared.refusal.Refusal.{Refusal}

-- it answers its first cause, and leaves what there was
module _ {S R : Type 0} (effect : Effect S R) (old new : S) {fail : Fail} {cause : Refusal} (is : fail ≡ Refused cause)
    (takes : Takes effect old new (Err fail)) where
  refused-cause : (first_cause effect.causes ≡ Some cause) × (new ≡ old)
  refused-cause = subst (λ (f : Fail). Takes effect old new (Err f)) is takes

  pub refused-answer : answer_of effect ≡ Err cause
  refused-answer = ap (λ refusal. answered refusal effect.reply) refused-cause.0

  pub refused-state : new ≡ state_of old effect
  refused-state = refused-cause.1 ∙ sym (ap (λ refusal. unless refusal old effect.after) refused-cause.0)

pub refused-answered : {R : Type 0} (answer : Result R Refusal) (fail : Fail) (cause : Refusal) → fail ≡ Refused cause
    → Gives answer (Err fail) → answer ≡ Err cause
refused-answered answer fail cause is gives = subst (λ (f : Fail). Gives answer (Err f)) is gives
