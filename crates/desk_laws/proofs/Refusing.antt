-- A refused act changes nothing.
use Rattle.std.proofs.Common.{◌≡◌, Option, None, Some, Result, Err, refl, sym, subst}
use Rattle.fics_words.specs.Effect.{answered, first_cause, unless}
use Rattle.fics_words.specs.declared.refusal.Refusal.{Refusal}
use Rattle.linked_desk.specs.Acts.{desk_effect}
use Rattle.lobby_state.specs.declared.acts.Plan.{Plan}
use Rattle.lobby_state.specs.Acts.{lobby_effect}
use Rattle.one_server.specs.House.{pair_desk, pair_lobby}
use Rattle.desk_laws.specs.Refusals.{KeepsBoth, KeepsTheDesk, KeepsTheLobby}

still : {S R : Type 0} (first : Option Refusal) (reply : R) (old new : S) (cause : Refusal)
    → answered first reply ≡ Err cause → unless first old new ≡ old
still None reply old new cause e = absurd cc
still (Some other) reply old new cause e = refl

pub keeps_the_desk : KeepsTheDesk
keeps_the_desk desk session moment serial act cause e =
    let effect = desk_effect desk session moment serial act in
    still (first_cause effect.causes) effect.reply desk effect.after cause e

pub keeps_the_lobby : KeepsTheLobby
keeps_the_lobby lobby session act cause e =
    let effect = lobby_effect lobby session act in
    still (first_cause effect.causes) effect.reply lobby effect.after cause e

pub keeps_both : KeepsBoth
keeps_both lobby desk other session moment act cause e = (
  subst (λ (r : Result Plan Refusal). pair_lobby lobby r other ≡ lobby) (sym e) refl,
  subst (λ (r : Result Plan Refusal). pair_desk lobby r desk moment ≡ desk) (sym e) refl,
)
