-- A line that goes to others in a channel, one row of the channels after another, goes to all whom the test of the
-- channel names, and once to each.
use Rattle.std.proofs.Common.{◌≡◌, ℕ, ◌+◌, ◌<◌, ◌≤◌, suc, Bool, true, false, not, cond, List, [], ◌∷◌, None, Some, length, slice_get, map, eqb, refl, sym, ap, subst, ◌∙◌, arith}
use Rattle.std.specs.Prelude.{◌==◌, ◌&&◌, ◌||◌}
use Rattle.std.specs.List.{AllByRecursion, IsDistinct, find, position}
use Rattle.std.proofs.Math.Bool.{and-false}
use Rattle.std.proofs.lemmas.Bool.{and_parts, eq-eqb, eqb-true, not-true, or_from}
use Rattle.std.proofs.lemmas.Cmp.{nat_eq_equiv}
use Rattle.std.proofs.lemmas.List.Sums.{sum_by-cons}
use Rattle.tables.specs.Rows.{AreApart, change_first}
use Rattle.tables.proofs.Placed.{find-found, find-missing}
use Rattle.channel_feed.specs.declared.channels.Membership.{Membership}
use Rattle.channel_feed.specs.Channels.{is_in, is_row, is_same}
use Rattle.lobby_state.specs.declared.member.Member.{Member}
use Rattle.lobby_state.specs.Broadcast.{broadcast, heard, hears, hearing}
use Rattle.lobby_state.specs.Holds.{holds}
use Rattle.lobby_state.specs.Hearers.{from_next, has_room, is_other, less_one_line}
use Rattle.lobby_state.specs.Lobby.{is_session}
use Rattle.lobby_state.specs.Match.{is_queue_full, member_with_line}
use Rattle.lobby_state.specs.TellChannel.{hears_channel}
use Rattle.lobby_state.proofs.Broadcasting.{taken_back}

-- the rows of a channel and those who hear by them
module _ (session channel : ℕ) where
  -- nobody hears by a row that is passed over
  passed_over : (row : Membership) (rows : List Membership) (m : Member) → is_other session channel row ≡ false
      → hears_channel (row ∷ rows) session channel m ≡ hears_channel rows session channel m
  passed_over row rows m fails =
      elim (m.session == session)
      as (λ t.
      (m.session == session) ≡ t
      → not t && (is_row m.session channel row || is_in rows m.session channel)
      ≡ not t && is_in rows m.session channel) [
        | true ↦ λ _. refl
        | false ↦ λ other. ap (λ t. t || is_in rows m.session channel) (isnt other)
      ] refl
    where
      isnt : (m.session == session) ≡ false → is_row m.session channel row ≡ false
      isnt other =
          elim (row.who == m.session) as (λ t. (row.who == m.session) ≡ t → t && (row.channel == channel) ≡ false) [
            | true ↦ λ same.
                sym (ap (λ (t : Bool). not t && (row.channel == channel))
                (ap (λ (w : ℕ). w == session) (eqb-true row.who m.session same) ∙ other))
                ∙ fails
            | false ↦ λ _. refl
          ] refl

  hears-from_next : (rows : List Membership) (m : Member)
      → hears_channel rows session channel m ≡ hears_channel (from_next session channel rows) session channel m
  hears-from_next [] m = refl
  hears-from_next (row ∷ rows) m =
      elim (is_other session channel row)
      as (λ t.
      is_other session channel row ≡ t
      → hears_channel (row ∷ rows) session channel m
      ≡ hears_channel (cond t (row ∷ rows) (from_next session channel rows)) session channel m) [
        | true ↦ λ _. refl
        | false ↦ λ fails. passed_over row rows m fails ∙ hears-from_next rows m
      ] refl

  pub length-from_next : (rows : List Membership) → length (from_next session channel rows) ≤ length rows
  length-from_next [] = omega arith
  length-from_next (row ∷ rows) =
      elim (is_other session channel row)
      as (λ t. length (cond t (row ∷ rows) (from_next session channel rows)) ≤ suc (length rows)) [
        | true ↦ omega arith
        | false ↦ omega (arith, length-from_next rows)
      ]

  apart-from_next : (rows : List Membership) → AreApart is_same (λ row. row) rows
      → AreApart is_same (λ row. row) (from_next session channel rows)
  unfolding IsDistinct
  apart-from_next [] apart = apart
  apart-from_next (row ∷ rows) apart =
      elim (is_other session channel row)
      as (λ t. AreApart is_same (λ row. row) (cond t (row ∷ rows) (from_next session channel rows))) [
        | true ↦ apart
        | false ↦ apart-from_next rows apart.1
      ]

  found_is : (rows rest : List Membership) (row : Membership) → from_next session channel rows ≡ row ∷ rest
      → is_other session channel row ≡ true
  found_is [] rest row e = cc
  found_is (first ∷ rows) rest row e =
      elim (is_other session channel first)
      as (λ t.
      is_other session channel first ≡ t → cond t (first ∷ rows) (from_next session channel rows) ≡ row ∷ rest
      → is_other session channel row ≡ true) [
        | true ↦ λ is here. let same : first ≡ row = cc in sym (ap (is_other session channel) same) ∙ is
        | false ↦ λ _ behind. found_is rows rest row behind
      ] refl e

  -- no other row puts the same player into the channel
  alone : (row : Membership) (rest : List Membership) → (row.channel ≡ channel)
      → AllByRecursion (λ other. is_same row other ≡ false) (map (λ (row : Membership). row) rest)
      → is_in rest row.who channel ≡ false
  alone row [] is apart = refl
  alone row (other ∷ rest) is apart =
      let differs : is_row row.who channel other ≡ false =
      (λ j. nat_eq_equiv.symm other.who row.who j && nat_eq_equiv.symm other.channel channel j)
      ∙ ap (λ (c : ℕ). (row.who == other.who) && (c == other.channel)) (sym is) ∙ apart.0 in
      or_from (is_row row.who channel other) (is_in rest row.who channel) differs (alone row rest is apart.1)

  -- those who hear by the rows are the member of the first row found, who hears by none of the others, and those of the
  -- others
  pub hears_here : (rows rest : List Membership) (row : Membership) → from_next session channel rows ≡ row ∷ rest
      → (m : Member) → is_session row.who m ≡ true
      → hears_channel rows session channel m ≡ true
  hears_here rows rest row e m same =
      let is = and_parts (not (row.who == session)) (row.channel == channel) (found_is rows rest row e) in
      let who : m.session ≡ row.who = eqb-true m.session row.who same in
      hears-from_next rows m ∙ ap (λ (rows : List Membership). hears_channel rows session channel m) e
      ∙ ap (λ (w : ℕ). not (w == session) && (((row.who == w) && (row.channel == channel)) || is_in rest w channel)) who
      ∙ (λ j. is.0 j && (((eq-eqb row.who row.who refl j) && is.1 j) || is_in rest row.who channel))

  pub unheard_behind : (rows rest : List Membership) (row : Membership) → AreApart is_same (λ row. row) rows
      → from_next session channel rows ≡ row ∷ rest → (m : Member)
      → is_session row.who m ≡ true → hears_channel rest session channel m ≡ false
  unfolding IsDistinct
  unheard_behind rows rest row apart e m same =
      let is = and_parts (not (row.who == session)) (row.channel == channel) (found_is rows rest row e) in
      let all : AreApart is_same (λ row. row) (row ∷ rest) =
      subst (AreApart is_same (λ row. row)) e (apart-from_next rows apart) in
      ap (λ (w : ℕ). not (w == session) && is_in rest w channel) (eqb-true m.session row.who same)
      ∙ ap (λ (t : Bool). not (row.who == session) && t) (alone row rest (eqb-true row.channel channel is.1) all.0)
      ∙ and-false (not (row.who == session))

  pub hears_elsewhere : (rows rest : List Membership) (row : Membership) → from_next session channel rows ≡ row ∷ rest
      → (m : Member) → is_session row.who m ≡ false
      → hears_channel rows session channel m ≡ hears_channel rest session channel m
  hears_elsewhere rows rest row e m differs =
      hears-from_next rows m ∙ ap (λ (rows : List Membership). hears_channel rows session channel m) e
      ∙ ap
      (λ (t : Bool). not (m.session == session) && ((t && (row.channel == channel)) || is_in rest m.session channel))
      (nat_eq_equiv.symm row.who m.session ∙ differs)

  -- and where none is found nobody hears
  pub hears_none : (rows found : List Membership) → found ≡ from_next session channel rows → length found ≡ 0
      → (m : Member) → hears_channel rows session channel m ≡ false
  hears_none rows [] e none m =
      hears-from_next rows m ∙ ap (λ (rows : List Membership). hears_channel rows session channel m) (sym e)
      ∙ and-false (not (m.session == session))
  hears_none rows (row ∷ found) e none m = absurd (omega (arith, none))

  pub apart_behind : (rows rest : List Membership) (row : Membership) → AreApart is_same (λ row. row) rows
      → from_next session channel rows ≡ row ∷ rest
      → AreApart is_same (λ row. row) rest
  unfolding IsDistinct
  apart_behind rows rest row apart e =
      let all : AreApart is_same (λ row. row) (row ∷ rest) =
      subst (AreApart is_same (λ row. row)) e (apart-from_next rows apart) in
      all.1

  pub fewer_behind : (rows rest : List Membership) (row : Membership) → from_next session channel rows ≡ row ∷ rest
      → length rest < length rows
  fewer_behind rows rest row e = omega (arith, ap length e, length-from_next rows)

-- a line that reaches nobody
unheard : (test : Member → Bool) (line : List ℕ) (m : Member) → test m ≡ false → hearing test line m ≡ m
unheard test line m fails = ap (λ (b : Bool). cond (b && not (is_queue_full m)) (member_with_line line m) m) fails

pub broadcast_none : (test : Member → Bool) (line : List ℕ) → ((m : Member) → test m ≡ false) → (members : List Member)
    → broadcast test line members ≡ members
broadcast_none test line none [] = refl
broadcast_none test line none (m ∷ members) = λ j.
    unheard test line m (none m) j ∷ broadcast_none test line none members j

-- one more member, as a number
abbrev pub one : Bool → ℕ
one b = cond b 1 0

heard_cons : (test : Member → Bool) (m : Member) (members : List Member)
    → heard test (m ∷ members) ≡ one (hears test m) + heard test members
heard_cons test m members = sum_by-cons (λ m. one (hears test m)) m members

unheard_one : (test : Member → Bool) (m : Member) → test m ≡ false → one (hears test m) ≡ 0
unheard_one test m fails = ap (λ (b : Bool). one (b && not (is_queue_full m))) fails

pub heard_none : (test : Member → Bool) → ((m : Member) → test m ≡ false) → (members : List Member)
    → heard test members ≡ 0
heard_none test none [] = refl
heard_none test none (m ∷ members) =
    omega (arith, heard_cons test m members, unheard_one test m (none m), heard_none test none members)

-- a line for the member of a session, and then for those of a test that doesn't name it, is one for those of a test
-- that names both
module _ (who : ℕ) (whole rest : Member → Bool) (line : List ℕ)
    (here : (m : Member) → is_session who m ≡ true → whole m ≡ true)
    (gone : (m : Member) → is_session who m ≡ true → rest m ≡ false)
    (elsewhere : (m : Member) → is_session who m ≡ false → whole m ≡ rest m)
    (keeps : (m : Member) → rest (member_with_line line m) ≡ rest m) where
  kept : (b : Bool) (m : Member) → rest (cond b (member_with_line line m) m) ≡ rest m
  kept true m = keeps m
  kept false m = refl

  hearing_twice : (m : Member) → hearing rest line (hearing (is_session who) line m) ≡ hearing whole line m
  hearing_twice m =
      elim (m.session == who)
      as (λ t.
      (m.session == who) ≡ t
      → hearing rest line (cond (t && not (is_queue_full m)) (member_with_line line m) m) ≡ hearing whole line m) [
        | true ↦ λ same.
            unheard rest line (cond (not (is_queue_full m)) (member_with_line line m) m)
            (kept (not (is_queue_full m)) m ∙ gone m same)
            ∙ sym (ap (λ (b : Bool). cond (b && not (is_queue_full m)) (member_with_line line m) m) (here m same))
        | false ↦ λ differs.
            ap (λ (b : Bool). cond (b && not (is_queue_full m)) (member_with_line line m) m) (sym (elsewhere m differs))
      ] refl

  pub told_twice : (members : List Member)
      → broadcast rest line (broadcast (is_session who) line members) ≡ broadcast whole line members
  told_twice [] = refl
  told_twice (m ∷ members) = λ j. hearing_twice m j ∷ told_twice members j

  hears_twice : (m : Member)
      → one (hears whole m) ≡ one (hears (is_session who) m) + one (hears rest (hearing (is_session who) line m))
  hears_twice m =
      elim (m.session == who)
      as (λ t.
      (m.session == who) ≡ t
      → one (hears whole m)
      ≡ one (t && not (is_queue_full m))
      + one (hears rest (cond (t && not (is_queue_full m)) (member_with_line line m) m))) [
        | true ↦ λ same.
            let named : one (hears whole m) ≡ one (not (is_queue_full m)) =
            ap (λ (b : Bool). one (b && not (is_queue_full m))) (here m same) in
            let none =
            unheard_one rest (cond (not (is_queue_full m)) (member_with_line line m) m)
            (kept (not (is_queue_full m)) m ∙ gone m same) in
            omega (arith, named, none)
        | false ↦ λ differs.
            let alike : one (hears whole m) ≡ one (hears rest m) =
            ap (λ (b : Bool). one (b && not (is_queue_full m))) (elsewhere m differs) in
            omega (arith, alike)
      ] refl

  pub heard_twice : (members : List Member)
      → heard whole members ≡ heard (is_session who) members + heard rest (broadcast (is_session who) line members)
  heard_twice [] = omega arith
  heard_twice (m ∷ members) =
      omega (
        arith,
        heard_cons whole m members,
        heard_cons (is_session who) m members,
        heard_cons rest (hearing (is_session who) line m) (broadcast (is_session who) line members),
        hears_twice m,
        heard_twice members,
      )

-- no member behind one of a session is of that session
abbrev NoneBehind : ℕ → List Member → Type 0
NoneBehind first members = AllByRecursion (λ other. (first == other) ≡ false) (map (λ (m : Member). m.session) members)

another : (first who : ℕ) (m : Member) → first ≡ who → (first == m.session) ≡ false → is_session who m ≡ false
another first who m is differs = nat_eq_equiv.symm m.session who ∙ ap (λ (w : ℕ). w == m.session) (sym is) ∙ differs

untold_behind : (first who : ℕ) (line : List ℕ) (members : List Member) → first ≡ who → NoneBehind first members
    → broadcast (is_session who) line members ≡ members
untold_behind first who line [] is none = refl
untold_behind first who line (m ∷ members) is none =
    λ j.
    unheard (is_session who) line m (another first who m is none.0) j ∷ untold_behind first who line members is none.1 j

none_heard_behind : (first who : ℕ) (members : List Member) → first ≡ who → NoneBehind first members
    → heard (is_session who) members ≡ 0
none_heard_behind first who [] is none = refl
none_heard_behind first who (m ∷ members) is none =
    omega (
      arith,
      heard_cons (is_session who) m members,
      unheard_one (is_session who) m (another first who m is none.0),
      none_heard_behind first who members is none.1,
    )

-- the members have sessions of their own
abbrev AreAlone : List Member → Type 0
AreAlone members = AreApart eqb (λ (m : Member). m.session) members

-- one hears a line for a session exactly if that is a member's for whom there is room
pub heard_once : (who : ℕ) (members : List Member) → AreAlone members
    → heard (is_session who) members ≡ one (has_room who members)
unfolding IsDistinct
heard_once who [] apart = refl
heard_once who (m ∷ members) apart =
    heard_cons (is_session who) m members
    ∙ elim (m.session == who)
    as (λ t.
    (m.session == who) ≡ t
    → one (t && not (is_queue_full m)) + heard (is_session who) members
    ≡ one (holds (λ m. not (is_queue_full m)) (cond t (Some m) (find (is_session who) members)))) [
      | true ↦ λ same. omega (arith, none_heard_behind m.session who members (eqb-true m.session who same) apart.0)
      | false ↦ λ _. omega (arith, heard_once who members apart.1)
    ] refl

-- for nobody there is room, and for a member there is where it isn't full
pub room_nowhere : (who : ℕ) (members : List Member) → None ≡ position (is_session who) members
    → has_room who members ≡ false
room_nowhere who members nowhere =
    ap (holds (λ m. not (is_queue_full m))) (find-missing (is_session who) members (sym nowhere))

pub room_there : (who : ℕ) (members : List Member) (place : ℕ) (m : Member) (full : Bool)
    → Some place ≡ position (is_session who) members → slice_get members place ≡ Some m
    → full ≡ is_queue_full m → has_room who members ≡ not full
room_there who members place m full here at is =
    ap (holds (λ m. not (is_queue_full m))) (find-found (is_session who) members place (sym here) ∙ at)
    ∙ ap not (sym is)

-- where there is no room the line reaches nobody
pub no_room : (who : ℕ) (line : List ℕ) (members : List Member) → AreAlone members → has_room who members ≡ false
    → broadcast (is_session who) line members ≡ members
unfolding IsDistinct
no_room who line [] apart full = refl
no_room who line (m ∷ members) apart full =
    elim (m.session == who)
    as (λ t.
    (m.session == who) ≡ t
    → holds (λ m. not (is_queue_full m)) (cond t (Some m) (find (is_session who) members)) ≡ false
    → cond (t && not (is_queue_full m)) (member_with_line line m) m ∷ broadcast (is_session who) line members
    ≡ m ∷ members) [
      | true ↦ λ same there.
          λ j.
          cond (there j) (member_with_line line m) m
          ∷ untold_behind m.session who line members (eqb-true m.session who same) apart.0 j
      | false ↦ λ _ behind. ap (λ (ms : List Member). m ∷ ms) (no_room who line members apart.1 behind)
    ] refl full

-- and where there was room, the members are as before once the line is taken back
pub back_as_before : (who : ℕ) (line : List ℕ) (members : List Member) → AreAlone members → has_room who members ≡ true
    → change_first (is_session who) less_one_line (broadcast (is_session who) line members) ≡ members
unfolding IsDistinct
back_as_before who line [] apart room = refl
back_as_before who line (m ∷ members) apart room =
    let told = broadcast (is_session who) line members in
    elim (m.session == who)
    as (λ t.
    (m.session == who) ≡ t → holds (λ m. not (is_queue_full m)) (cond t (Some m) (find (is_session who) members)) ≡ true
    → change_first (is_session who) less_one_line (cond (t && not (is_queue_full m)) (member_with_line line m) m ∷ told)
    ≡ m ∷ members) [
      | true ↦ λ same there.
          ap (λ (b : Bool). change_first (is_session who) less_one_line (cond b (member_with_line line m) m ∷ told))
          there
          ∙ ap
          (λ (b : Bool).
          cond b (less_one_line (member_with_line line m) ∷ told)
          (member_with_line line m ∷ change_first (is_session who) less_one_line told))
          same
          ∙ (λ j.
          taken_back line m (not-true (is_queue_full m) there) j
          ∷ untold_behind m.session who line members (eqb-true m.session who same) apart.0 j)
      | false ↦ λ differs behind.
          ap (λ (b : Bool). cond b (less_one_line m ∷ told) (m ∷ change_first (is_session who) less_one_line told))
          differs
          ∙ ap (λ (ms : List Member). m ∷ ms) (back_as_before who line members apart.1 behind)
    ] refl room

-- a step by the first row found: its member is told, and then those of the rows behind it
module _ (session channel : ℕ) (rows rest : List Membership) (row : Membership)
    (apart : AreApart is_same (λ row. row) rows) (found : from_next session channel rows ≡ row ∷ rest)
    (line : List ℕ) (members told_one : List Member)
    (one_told : told_one ≡ broadcast (is_session row.who) line members) where
  abbrev whole : Member → Bool
  whole = hears_channel rows session channel

  abbrev behind : Member → Bool
  behind = hears_channel rest session channel

  pub all_told : (after : List Member) → after ≡ broadcast behind line told_one → after ≡ broadcast whole line members
  all_told after is =
      is ∙ ap (broadcast behind line) one_told
      ∙ told_twice row.who whole behind line (hears_here session channel rows rest row found)
      (unheard_behind session channel rows rest row apart found)
      (hears_elsewhere session channel rows rest row found) (λ m. refl) members

  pub all_heard : (is_told : Bool) (told : ℕ) → AreAlone members → is_told ≡ has_room row.who members
      → told ≡ heard behind told_one → one is_told + told ≡ heard whole members
  all_heard is_told told alone has others =
      let first : one is_told ≡ heard (is_session row.who) members =
      ap one has ∙ sym (heard_once row.who members alone) in
      let both =
      heard_twice row.who whole behind line (hears_here session channel rows rest row found)
      (unheard_behind session channel rows rest row apart found)
      (hears_elsewhere session channel rows rest row found) (λ m. refl) members in
      omega (arith, first, both, others ∙ ap (heard behind) one_told)
