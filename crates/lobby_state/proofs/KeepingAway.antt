-- Who is on another's list doesn't reach it.
use Rattle.std.proofs.Common.{◌≡◌, ℕ, Bool, true, false, cond, List, [], ◌∷◌, Option, None, Some, is_none, Ok, refl, sym, ap, ◌∙◌}
use Rattle.std.specs.Prelude.{◌||◌}
use Rattle.fics_words.specs.Effect.{Cause, answered, first_cause, unless}
use Rattle.fics_words.specs.declared.refusal.Refusal.{Refusal}
use Rattle.fics_words.specs.declared.refusal.Refusal.TheVariants.{NotIn, NoSuchPlayer, QueueFull, Refuses}
use Rattle.lobby_state.specs.declared.member.Member.{Member}
use Rattle.lobby_state.specs.Holds.{holds}
use Rattle.lobby_state.specs.KeptAway.{IsUnheard, KeepAway}
use Rattle.lobby_state.specs.Lobby.{LobbyState, member_of, named}
use Rattle.lobby_state.specs.Match.{is_queue_full, match_effect}
use Rattle.lobby_state.specs.NameList.{censors}
use Rattle.lobby_state.specs.Play.{play_effect}
use Rattle.lobby_state.specs.Tell.{tell_effect}
use Rattle.fics_words.proofs.Causes.{none_holds}

first_refused : (first second : Option Member) (member other : Member) (rest : List Cause) → first ≡ Some member
    → second ≡ Some other
    → censors (Some member) other ≡ true
    → first_cause
    ((is_none first, NotIn) ∷ (is_none second, NoSuchPlayer) ∷ (holds (censors first) second, Refuses) ∷ rest)
    ≡ Some Refuses
first_refused first second member other rest one two listed =
    ap (λ (f : Option Member).
    first_cause ((is_none f, NotIn) ∷ (is_none second, NoSuchPlayer) ∷ (holds (censors f) second, Refuses) ∷ rest))
    one
    ∙ ap
    (λ (s : Option Member). first_cause ((is_none s, NoSuchPlayer) ∷ (holds (censors (Some member)) s, Refuses) ∷ rest))
    two
    ∙ ap (λ (b : Bool). cond b (Some Refuses) (first_cause rest)) listed

tell_refused : (lobby : LobbyState) (session : ℕ) (to text : List ℕ) (member other : Member)
    → member_of lobby session ≡ Some member → named lobby to ≡ Some other
    → censors (Some member) other ≡ true → first_cause (tell_effect lobby session to text).causes ≡ Some Refuses
tell_refused lobby session to text member other one two listed =
    first_refused (member_of lobby session) (named lobby to) member other
    ((holds is_queue_full (named lobby to), QueueFull) ∷ []) one two listed

unheard : (lobby : LobbyState) (session : ℕ) (to : List ℕ) (member other : Member)
    → member_of lobby session ≡ Some member → named lobby to ≡ Some other
    → censors (Some member) other ≡ true → IsUnheard lobby session to
unheard lobby session to member other one two listed = record {
  refused = λ text.
      ap (λ (c : Option Refusal). answered c (tell_effect lobby session to text).reply)
      (tell_refused lobby session to text member other one two listed);
  nothing = λ text.
      ap (λ (c : Option Refusal). unless c lobby (tell_effect lobby session to text).after)
      (tell_refused lobby session to text member other one two listed);
}

pub none_where_done : {R : Type 0} (c : Option Refusal) (reply other : R) → answered c reply ≡ Ok other → c ≡ None
none_where_done None reply other e = refl
none_where_done (Some cause) reply other e = cc

later_false : (a b : Bool) → (a || b) ≡ false → b ≡ false
later_false true b e = cc
later_false false b e = e

pub keep_away : (lobby : LobbyState) (session : ℕ) (to : List ℕ) (number : ℕ) → KeepAway lobby session to number
keep_away lobby session to number = record {
  tells = λ member other one two listed. unheard lobby session to member other one two listed;
  matches = λ terms reply avoided done.
      let effect = match_effect lobby session to terms in
      let none = none_holds effect.causes (none_where_done (first_cause effect.causes) effect.reply reply done) in
      let bad : true ≡ false = sym avoided ∙ later_false _ _ none.1.1.1.1.0 in cc;
  plays = λ plan avoided done.
      let effect = play_effect lobby session number in
      let none = none_holds effect.causes (none_where_done (first_cause effect.causes) effect.reply plan done) in
      let bad : true ≡ false = sym avoided ∙ none.1.1.1.1.0 in cc;
}
