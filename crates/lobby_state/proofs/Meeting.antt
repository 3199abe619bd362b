-- A GoBoard that is done meets the player that it names.
use Rattle.std.proofs.Common.{◌≡◌, ℕ, ◌<◌, ◌≤◌, Bool, true, false, cond, List, [], ◌∷◌, Option, None, Some, Ok, is_none, length, take, get_or, ltb, refl, sym, ap, subst, ◌∙◌, arith}
use Rattle.std.specs.Prelude.{All}
use Rattle.std.specs.List.{find, position, position_or_len}
use Rattle.std.specs.Option.{option_map}
use Rattle.std.proofs.lemmas.Bool.{lt-ltb, le-ltb}
use Rattle.std.proofs.lemmas.List.{length-take-le, get_or-take}
use Rattle.std.proofs.lemmas.List.Sums.{fails_before_first, passes_at_first, position_or_len_is}
use Rattle.std.proofs.lemmas.Option.{slice_get-get_or}
use Rattle.fics_words.specs.Effect.{answer_of, first_cause, state_of, unless}
use Rattle.fics_words.specs.declared.refusal.Refusal.{Refusal}
use Rattle.tables.specs.Rows.{change_first}
use Rattle.lobby_state.specs.declared.acts.LobbyReply.TheVariants.{Done}
use Rattle.lobby_state.specs.declared.member.Member.{Member}
use Rattle.lobby_state.specs.Find.{present_of}
use Rattle.lobby_state.specs.GoBoard.{MeetsPlayer, first_against, go_board_effect, gone_to, is_against}
use Rattle.lobby_state.specs.Lobby.{LobbyState, is_session, member_of, named, places_in, places_of}
use Rattle.lobby_state.specs.OwnPlaces.{placed, with_places}
use Rattle.lobby_state.specs.Places.{PlaceList, present_at}
use Rattle.fics_words.proofs.Causes.{none_holds}
use Rattle.lobby_state.proofs.KeepingAway.{none_where_done}
use Rattle.simul_control.specs.declared.place.Place.{Place}
use Rattle.tables.proofs.Placed.{position-within}

-- the place of the first item that passes, and where none does
pub position-is : {X : Type 0} (p : X → Bool) (xs : List X) (i : ℕ) (d : X) → i < length xs
    → ((k : ℕ) → k < i → p (get_or xs k d) ≡ false) → p (get_or xs i d) ≡ true → position p xs ≡ Some i
position-is p xs i d inside before here =
    let at : position_or_len p xs ≡ i = position_or_len_is p xs i d (omega arith) before (λ _. here) in
    ap (λ n. cond (ltb n (length xs)) (Some n) None) at ∙ ap (λ b. cond b (Some i) None) (lt-ltb i (length xs) inside)

pub position-nowhere : {X : Type 0} (p : X → Bool) (xs : List X) (i : ℕ) (d : X) → length xs ≤ i
    → ((k : ℕ) → k < i → p (get_or xs k d) ≡ false) → position p xs ≡ None
position-nowhere p xs i d past before =
    let at : position_or_len p xs ≡ length xs =
    position_or_len_is p xs (length xs) d (omega arith) (λ k h. before k (omega arith))
    (λ h. absurd (omega (arith, h))) in
    ap (λ n. cond (ltb n (length xs)) (Some n) None) at
    ∙ ap (λ b. cond b (Some (length xs)) None) (le-ltb (length xs) (length xs) (omega arith))

-- the item that was found passes, and those before it don't
found_is : (t : Bool) (n i : ℕ) → cond t (Some n) None ≡ Some i → n ≡ i
found_is true n i e = cc
found_is false n i e = cc

position-place : {X : Type 0} (p : X → Bool) (xs : List X) (i : ℕ) → position p xs ≡ Some i → position_or_len p xs ≡ i
position-place p xs i e = found_is _ (position_or_len p xs) i e

position-passes : {X : Type 0} (p : X → Bool) (xs : List X) (i : ℕ) (d : X) → position p xs ≡ Some i
    → p (get_or xs i d) ≡ true
position-passes p xs i d e =
    let at = position-place p xs i e in
    subst (λ (n : ℕ). p (get_or xs n d) ≡ true) at
    (passes_at_first p xs d (omega (arith, at, position-within p xs i e)))

position-before : {X : Type 0} (p : X → Bool) (xs : List X) (i : ℕ) → position p xs ≡ Some i
    → All (λ x. p x ≡ false) (take i xs)
position-before p xs i e k d inside =
    let at = position-place p xs i e in
    let within = position-within p xs i e in
    let early : k < i = omega (arith, inside, length-take-le i xs (omega (arith, within))) in
    ap p (get_or-take i xs k d early) ∙ fails_before_first p xs k d (omega (arith, at, early))

-- a change that the test doesn't see changes what is found, and nothing else
changed-step : {X : Type 0} (p : X → Bool) (f : X → X) (x : X) (xs ys : List X) (t : Bool) → p x ≡ t → p (f x) ≡ t
    → find p ys ≡ option_map f (find p xs)
    → find p (cond t (f x ∷ xs) (x ∷ ys)) ≡ option_map f (cond t (Some x) (find p xs))
changed-step p f x xs ys true here there rest = ap (λ b. cond b (Some (f x)) (find p xs)) there
changed-step p f x xs ys false here there rest = ap (λ b. cond b (Some x) (find p ys)) here ∙ rest

find-changed : {X : Type 0} (p : X → Bool) (f : X → X) → ((x : X) → p (f x) ≡ p x) → (xs : List X)
    → find p (change_first p f xs) ≡ option_map f (find p xs)
find-changed p f unseen [] = refl
find-changed p f unseen (x ∷ xs) =
    changed-step p f x xs (change_first p f xs) (p x) refl (unseen x) (find-changed p f unseen xs)

-- what is there
some_of : {X : Type 0} (o : Option X) → is_none o ≡ false → (x : X) × (o ≡ Some x)
some_of None e = cc
some_of (Some x) e = (x, refl)

module _ (lobby : LobbyState) (session : ℕ) (name : List ℕ) (caller other : Member) (at : ℕ)
    (own : member_of lobby session ≡ Some caller) (named_so : named lobby name ≡ Some other)
    (found : position (is_against lobby other.session) caller.places.rows ≡ Some at) where
  abbrev gone : PlaceList
  gone = present_at at caller.places

  -- the member that has gone there
  went : member_of (placed lobby session gone) session ≡ Some (with_places gone caller)
  went =
      find-changed (is_session session) (with_places gone) (λ _. refl) lobby.members
      ∙ ap (option_map (with_places gone)) own

  -- the place at which it stands now
  met : (d : Place) (after : LobbyState) → after ≡ placed lobby session gone → MeetsPlayer lobby after session name
  met d after is =
      let p = is_against lobby other.session in
      let rows = caller.places.rows in
      let there : member_of after session ≡ Some (with_places gone caller) =
      ap (λ (l : LobbyState). member_of l session) is ∙ went in
      let places : places_of after session ≡ gone = ap places_in there in
      let same : (row : Place) → is_against after other.session row ≡ p row = λ row.
      ap (λ (l : LobbyState). is_against l other.session row) is in
      record {
        other = other;
        is_named = named_so;
        place = get_or rows at d;
        is_present = ap present_of there ∙ slice_get-get_or rows at d (position-within p rows at found);
        meets = same (get_or rows at d) ∙ position-passes p rows at d found;
        earlier =
            subst (λ (l : PlaceList). All (λ row. is_against after other.session row ≡ false) (take l.at l.rows))
            (sym places)
            (λ k e inside. same (get_or (take at rows) k e) ∙ position-before p rows at found k e inside);
        same = ap (λ (l : PlaceList). l.rows) places ∙ ap (λ (l : PlaceList). l.rows) (sym (ap places_in own));
      }

pub meets_player : (lobby : LobbyState) (session : ℕ) (name : List ℕ)
    → answer_of (go_board_effect lobby session name) ≡ Ok Done
    → MeetsPlayer lobby (state_of lobby (go_board_effect lobby session name)) session name
meets_player lobby session name done =
    let effect = go_board_effect lobby session name in
    let first = none_where_done (first_cause effect.causes) effect.reply Done done in
    let none = none_holds effect.causes first in
    let caller = some_of (member_of lobby session) none.0 in
    let other = some_of (named lobby name) none.1.0 in
    let rows : (places_of lobby session).rows ≡ caller.0.places.rows =
    ap (λ (m : Option Member). (places_in m).rows) caller.1 in
    let at = some_of (first_against lobby (named lobby name) (places_of lobby session).rows) none.1.1.1.0 in
    let found : position (is_against lobby other.0.session) caller.0.places.rows ≡ Some at.0 =
    ap (position (is_against lobby other.0.session)) (sym rows)
    ∙ ap (λ (m : Option Member). first_against lobby m (places_of lobby session).rows) (sym other.1) ∙ at.1 in
    let after : state_of lobby effect ≡ placed lobby session (present_at at.0 caller.0.places) =
    ap (λ (c : Option Refusal). unless c lobby effect.after) first
    ∙ ap (λ (o : Option ℕ). placed lobby session (gone_to o (places_of lobby session))) at.1
    ∙ ap (λ (m : Option Member). placed lobby session (present_at at.0 (places_in m))) caller.1 in
    met lobby session name caller.0 other.0 at.0 caller.1 other.1 found (record {
      desk = 0;
      serial = 0;
      seat = 0;
    }) (state_of lobby effect) after
