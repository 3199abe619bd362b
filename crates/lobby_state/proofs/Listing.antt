-- The change of a list of the session's member, among the members.
use Rattle.std.proofs.Common.{◌≡◌, ℕ, Bool, true, false, List, Option, None, Some, Result, Ok, Err, slice_get, refl, sym, ap, subst, ◌∙◌}
use Rattle.std.specs.List.{position}
use Rattle.std.proofs.Math.ListN.{set}
use Rattle.fics_words.specs.Effect.{Takes, first_cause}
use Rattle.fics_words.specs.declared.fail.Fail.{Fail}
use Rattle.fics_words.specs.declared.fail.Fail.TheVariants.{Refused, Memory}
use Rattle.lobby_state.specs.declared.member.Member.{Member}
use Rattle.lobby_state.specs.declared.acts.name_list.WhichList.{WhichList}
use Rattle.lobby_state.specs.declared.acts.name_list.WhichList.TheVariants.{Censor, Noplay}
use Rattle.lobby_state.specs.Lobby.{is_session}
use Rattle.lobby_state.specs.NameList.{change_among, list_causes, listing, names_on, names_with, with_names_on}
use Rattle.lobby_state.proofs.Lent.{at_place, change_at-set, change_first-found, change_first-missing, set-same}
use Rattle.tables.specs.Rows.{change_at}
use Rattle.tables.proofs.Placed.{find-found, find-missing, position-within}

-- an adding may need memory, and a removing doesn't
memory_is : (names : List (List ℕ)) (key : List ℕ) (on : Bool) → (names_with names key on).memory ≡ on
memory_is names key true = refl
memory_is names key false = refl

-- nothing changes where the session is no member
pub takes_nowhere : (members : List Member) (session : ℕ) (which : WhichList) (key : List ℕ) (on : Bool)
    → position (is_session session) members ≡ None
    → Takes (change_among session which key on members) members members (Ok tt)
takes_nowhere members session which key on nowhere = (
  ap (λ (m : Option Member). first_cause (list_causes which key on m))
      (find-missing (is_session session) members nowhere),
  refl,
  sym (change_first-missing (is_session session) (λ m. (listing which key on m).after) members nowhere),
)

-- a list that is written as it was
same_names : (which : WhichList) (m : Member) → with_names_on which (names_on which m) m ≡ m
same_names Censor m = refl
same_names Noplay m = refl

-- else the list of that member changes, at its place
taken : (members : List Member) (session : ℕ) (which : WhichList) (key : List ℕ) (on : Bool) (place : ℕ) (m : Member)
    (new : List (List ℕ))
    (result : Result (Unit {0}) Fail) → position (is_session session) members ≡ Some place
    → slice_get members place ≡ Some m
    → Takes (names_with (names_on which m) key on) (names_on which m) new result
    → Takes (change_among session which key on members) members (change_at place (with_names_on which new) members)
    result
taken members session which key on place m new (Ok reply) here at t = (
  ap (λ (m : Option Member). first_cause (list_causes which key on m))
      (find-found (is_session session) members place here ∙ at)
      ∙ t.0,
  t.1,
  change_at-set (with_names_on which new) members place m at
      ∙ ap (λ (names : List (List ℕ)). set members place (with_names_on which names m)) t.2
      ∙ sym (change_first-found (is_session session) (λ m. (listing which key on m).after) members place m here at),
)
taken members session which key on place m new (Err (Refused cause)) here at t = (
  ap (λ (m : Option Member). first_cause (list_causes which key on m))
      (find-found (is_session session) members place here ∙ at)
      ∙ t.0,
  change_at-set (with_names_on which new) members place m at
      ∙ ap (λ (names : List (List ℕ)). set members place (with_names_on which names m)) t.1
      ∙ ap (set members place) (same_names which m) ∙ set-same members place m at,
)
taken members session which key on place m new (Err Memory) here at t = (
  sym (memory_is (names_on which m) key on) ∙ t.0,
  change_at-set (with_names_on which new) members place m at
      ∙ ap (λ (names : List (List ℕ)). set members place (with_names_on which names m)) t.1
      ∙ ap (set members place) (same_names which m) ∙ set-same members place m at,
)

pub takes_there : (members : List Member) (session : ℕ) (which : WhichList) (key : List ℕ) (on : Bool) (place : ℕ)
    (old new : List (List ℕ))
    (result : Result (Unit {0}) Fail) → Some place ≡ position (is_session session) members
    → ((m : Member) → slice_get members place ≡ Some m → old ≡ names_on which m)
    → Takes (names_with old key on) old new result
    → Takes (change_among session which key on members) members (change_at place (with_names_on which new) members)
    result
takes_there members session which key on place old new result here reads t =
    let found = at_place members place (position-within (is_session session) members place (sym here)) in
    taken members session which key on place found.0 new result (sym here) found.1
    (subst (λ (names : List (List ℕ)). Takes (names_with names key on) names new result) (reads found.0 found.1) t)
