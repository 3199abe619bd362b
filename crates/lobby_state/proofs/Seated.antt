-- Of members with distinct sessions those of some players change, one after another: all others stay as they are.
use Rattle.std.proofs.Common.{◌≡◌, ℕ, ◌<◌, suc, true, false, cond, List, [], ◌∷◌, ◌++◌, Option, None, Some, length, map, get_or, eqb, refl, sym, ap, subst, ◌∙◌, arith}
use Rattle.std.specs.Prelude.{◌==◌, ◌≢◌, All}
use Rattle.std.specs.List.{AllByRecursion, AllPairs, IsDistinct, list_any}
use Rattle.std.specs.Option.{option_map_or}
use Rattle.std.proofs.lemmas.Bool.{eqb-true, ne_eqb, or_from}
use Rattle.std.proofs.lemmas.List.Elements.{All-head, All-tail, All-weaker}
use Rattle.fics_words.specs.Seats.{players_of, plays_as, seat_list, seat_number}
use Rattle.fics_words.specs.declared.player.Player.{Player}
use Rattle.fics_words.specs.declared.seats.Opponents.{Opponents}
use Rattle.fics_words.specs.declared.seats.Seats.{Seats}
use Rattle.tables.specs.Rows.{change_first}
use Rattle.lobby_state.specs.declared.member.Member.{Member}
use Rattle.lobby_state.specs.Lobby.{is_session}
use Rattle.lobby_state.specs.Planned.{ArePlayersApart}
use Rattle.lobby_state.specs.Players.{change_players}
use Rattle.lobby_state.specs.Start.{in_seat}
use Rattle.lobby_state.proofs.Lists.{map-map_same}
use Rattle.lobby_state.proofs.NamedApart.{no_place}
use Rattle.lobby_shelf.proofs.Requests.{turned}
use Rattle.tables.proofs.Firsts.{find-absent}

-- the change of the member of this session alone
abbrev pub only : ℕ → (Member → Member) → Member → Member
only session f m = cond (is_session session m) (f m) m

nobody_changes : (one session : ℕ) (f : Member → Member) (members : List Member) → one ≡ session
    → AllByRecursion (λ other. (one == other) ≡ false) (map (λ (m : Member). m.session) members)
    → map (only session f) members ≡ members
nobody_changes one session f [] is apart = refl
nobody_changes one session f (m ∷ members) is apart =
    let other : (m.session == session) ≡ false =
    turned m.session session ∙ ap (λ (n : ℕ). n == m.session) (sym is) ∙ apart.0 in
    λ j. cond (other j) (f m) m ∷ nobody_changes one session f members is apart.1 j

-- to change the first member of a session is to change all of that session
pub one_changes : (session : ℕ) (f : Member → Member) (members : List Member)
    → IsDistinct eqb (map (λ (m : Member). m.session) members)
    → change_first (is_session session) f members ≡ map (only session f) members
unfolding IsDistinct
one_changes session f [] apart = refl
one_changes session f (m ∷ members) apart =
    elim (m.session == session)
    as (λ t.
    (m.session == session) ≡ t
    → cond t (f m ∷ members) (m ∷ change_first (is_session session) f members)
    ≡ cond t (f m) m ∷ map (only session f) members) [
      | true ↦ λ same.
          ap (λ l. f m ∷ l) (sym (nobody_changes m.session session f members (eqb-true m.session session same) apart.0))
      | false ↦ λ _. ap (λ l. m ∷ l) (one_changes session f members apart.1)
    ] refl

module _ (f : Member → Member) (keeps : (m : Member) → (f m).session ≡ m.session) where
  abbrev each : List Player → Member → Member
  each [] m = m
  each (p ∷ players) m = each players (only p.session f m)

  only_keeps : (session : ℕ) (m : Member) → (only session f m).session ≡ m.session
  only_keeps session m = elim (m.session == session) as (λ t. (cond t (f m) m).session ≡ m.session) [
    | true ↦ keeps m
    | false ↦ refl
  ]

  by_each : (players : List Player) (members : List Member) → IsDistinct eqb (map (λ (m : Member). m.session) members)
      → change_players f players members ≡ map (each players) members
  by_each [] [] apart = refl
  by_each [] (m ∷ members) apart = ap (λ l. m ∷ l) (untold members)
    where
      untold : (members : List Member) → members ≡ map (each []) members
      untold [] = refl
      untold (m ∷ members) = ap (λ l. m ∷ l) (untold members)
  by_each (p ∷ players) members apart =
      ap (change_players f players) (one_changes p.session f members apart)
      ∙ by_each players (map (only p.session f) members)
      (subst (IsDistinct eqb)
      (sym (map-map_same (λ (m : Member). m.session) (only p.session f) (only_keeps p.session) members)) apart)
      ∙ twice members
    where
      twice : (members : List Member)
          → map (each players) (map (only p.session f) members) ≡ map (each (p ∷ players)) members
      twice [] = refl
      twice (m ∷ members) = ap (λ l. each players (only p.session f m) ∷ l) (twice members)

  unnamed : (players : List Player) (m : Member)
      → ((k : ℕ) (d : Player) → k < length players → m.session ≢ (get_or players k d).session) → each players m ≡ m
  unnamed [] m none = refl
  unnamed (p ∷ players) m none =
      ap (λ t. each players (cond t (f m) m)) (ne_eqb m.session p.session (none 0 p (omega arith)))
      ∙ unnamed players m (λ k d within. none (suc k) d (omega (arith, within)))

  -- who is no player isn't changed, and who is one of these is changed once
  once : (players : List Player) (m : Member) → AllPairs (λ one another. one.session ≢ another.session) players
      → (list_any (plays_as m.session) players ≡ false → f m ≡ m) → each players m ≡ f m
  once [] m apart idle = sym (idle refl)
  once (p ∷ players) m apart idle =
      elim (m.session == p.session) as (λ t. (m.session == p.session) ≡ t → each players (cond t (f m) m) ≡ f m) [
        | true ↦ λ same.
            unnamed players (f m)
            (λ k d within e.
            apart 0 (suc k) d (omega arith) (omega (arith, within))
            (sym (eqb-true m.session p.session same) ∙ sym (keeps m) ∙ e))
        | false ↦ λ other.
            once players m
            (λ i j d below within. apart (suc i) (suc j) d (omega (arith, below)) (omega (arith, within)))
            (λ none.
            idle (or_from (p.session == m.session) (list_any (plays_as m.session) players)
            (turned p.session m.session ∙ other) none))
      ] refl

  -- where a second change does no more, the players needn't be apart
  again : ((m : Member) → f (f m) ≡ f m) → (players : List Player) (m : Member) → each players (f m) ≡ f m
  again twice [] m = refl
  again twice (p ∷ players) m =
      elim (is_session p.session (f m)) as (λ t. each players (cond t (f (f m)) (f m)) ≡ f m) [
        | true ↦ ap (each players) (twice m) ∙ again twice players m
        | false ↦ again twice players m
      ]

  pub at_once : ((m : Member) → f (f m) ≡ f m) → (players : List Player) (m : Member)
      → (list_any (plays_as m.session) players ≡ false → f m ≡ m) → each players m ≡ f m
  at_once twice [] m idle = sym (idle refl)
  at_once twice (p ∷ players) m idle =
      elim (m.session == p.session) as (λ t. (m.session == p.session) ≡ t → each players (cond t (f m) m) ≡ f m) [
        | true ↦ λ _. again twice players m
        | false ↦ λ other.
            at_once twice players m
            (λ none.
            idle (or_from (p.session == m.session) (list_any (plays_as m.session) players)
            (turned p.session m.session ∙ other) none))
      ] refl

  map_of : (g : Member → Member) (members : List Member) → All (λ m. g m ≡ f m) members → map g members ≡ map f members
  map_of g [] same = refl
  map_of g (m ∷ members) same =
      let rest = map_of g members (All-tail (λ m. g m ≡ f m) m members same) in
      λ j. All-head (λ m. g m ≡ f m) m members same j ∷ rest j

  pub all_once : ((m : Member) → f (f m) ≡ f m) → (players : List Player) (members : List Member)
      → IsDistinct eqb (map (λ (m : Member). m.session) members)
      → All (λ m. list_any (plays_as m.session) players ≡ false → f m ≡ m) members
      → change_players f players members ≡ map f members
  all_once twice players members apart idle =
      by_each players members apart
      ∙ map_of (each players) members
      (All-weaker (λ m. list_any (plays_as m.session) players ≡ false → f m ≡ m) (λ m. each players m ≡ f m)
      (λ m. at_once twice players m) members idle)

  pub all_changed : (players : List Player) (members : List Member)
      → IsDistinct eqb (map (λ (m : Member). m.session) members)
      → AllPairs (λ one another. one.session ≢ another.session) players
      → ((m : Member) → list_any (plays_as m.session) players ≡ false → f m ≡ m)
      → change_players f players members ≡ map f members
  all_changed players members apart differ idle =
      by_each players members apart ∙ (λ j. map (λ m. once players m differ (idle m) j) members)

pub in_seat_session : (desk serial : ℕ) (number : Option ℕ) (m : Member)
    → (in_seat desk serial number m).session ≡ m.session
in_seat_session desk serial None m = refl
in_seat_session desk serial (Some number) m = refl

-- the players of a game sit down, one after another
pub all_seated : (desk serial : ℕ) (seats : Seats) (members : List Member)
    → IsDistinct eqb (map (λ (m : Member). m.session) members) → ArePlayersApart seats
    → change_players (λ m. in_seat desk serial (seat_number m.session (seat_list seats)) m) (seat_list seats) members
    ≡ map (λ m. in_seat desk serial (seat_number m.session (seat_list seats)) m) members
all_seated desk serial seats members apart differ =
    all_changed (λ m. in_seat desk serial (seat_number m.session (seat_list seats)) m)
    (λ m. in_seat_session desk serial (seat_number m.session (seat_list seats)) m) (seat_list seats) members apart
    differ.sessions
    (λ m none.
    ap (λ number. in_seat desk serial number m)
    (no_place (plays_as m.session) (seat_list seats) (find-absent (plays_as m.session) (seat_list seats) none)))

-- the lists of two and of four players
pub of_two : (seats : Seats) → seats.second ≡ None → seat_list seats ≡ players_of seats.first
of_two seats is = ap (λ second. players_of seats.first ++ option_map_or players_of second []) is

pub of_four : (seats : Seats) (second : Opponents) → seats.second ≡ Some second
    → seat_list seats ≡ players_of seats.first ++ players_of second
of_four seats second is = ap (λ second. players_of seats.first ++ option_map_or players_of second []) is
