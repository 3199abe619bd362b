-- What a Resume keeps: its plan can be carried out.
use Rattle.std.proofs.Common.{◌≡◌, ◌≢◌, ℕ, ◌+◌, ◌-◌, ◌<◌, zero, suc, Bool, true, false, ◌||◌, cond, List, [], ◌∷◌, Option, None, Some, is_none, bytes_eq, length, map, get_or, slice_get, refl, sym, ap, subst, ◌∙◌, inl, inr, arith}
use Rattle.std.specs.Prelude.{All, Contains, nat_le}
use Rattle.std.specs.List.{AllPairs, IsDistinct, find, list_all, list_any}
use Rattle.std.proofs.lemmas.Bool.{eq-eqb, ne_eqb, eqb-true, eqb-false, leb-false, or_parts, or_cases, and_parts}
use Rattle.std.proofs.lemmas.List.{map-id}
use Rattle.std.proofs.lemmas.List.Elements.{All-nil, All-cons, All-contains, All-head, All-tail}
use Rattle.chess_model.specs.declared.variant.Variant.{Variant}
use Rattle.chess_model.specs.declared.variant.Variant.TheVariants.{Chess, Crazyhouse, Bughouse, Fischer}
use Rattle.fics_words.specs.Effect.{NoneHolds}
use Rattle.fics_words.specs.Handle.{key_of}
use Rattle.fics_words.specs.Seats.{seat_list}
use Rattle.fics_words.specs.declared.account.Account.{Account}
use Rattle.fics_words.specs.declared.player.Player.{Player}
use Rattle.game_records.specs.Bounds.{seats}
use Rattle.game_records.specs.Replays.{AreFour, Replays}
use Rattle.lobby_shelf.specs.Numbers.{RiseAbove, row_game, has_number, stored_game}
use Rattle.lobby_shelf.specs.Players.{is_of_both, least_of}
use Rattle.lobby_shelf.specs.Shelf.{asks}
use Rattle.lobby_shelf.specs.declared.shelved.Shelved.{Shelved}
use Rattle.lobby_shelf.proofs.Rising.{rises_at}
use Rattle.lobby_state.specs.declared.member.Member.{Member}
use Rattle.lobby_state.specs.Holds.{holds}
use Rattle.lobby_state.specs.Lobby.{LobbyState, free_slot, has_handle, is_named, is_session, member_of, most_games, named}
use Rattle.lobby_state.specs.Pairing.{needs_partners}
use Rattle.lobby_state.specs.Planned.{ArePlayersApart, CanAsk, FitsVariant, IsMember, IsPlanned}
use Rattle.lobby_state.specs.Resume.{Resuming, as_they_sat, asking_to_resume, resuming_at, has_asked_for, meant, playing_as, resume_at, resume_effect, resuming_causes, resuming_of, resuming_plan, seated_as, would_start}
use Rattle.lobby_state.specs.WellFormed.{IsWellFormed, sessions_in}
use Rattle.lobby_state.proofs.KeepsResumed.{used-stored}
use Rattle.lobby_state.proofs.Lists.{find-contained, find-passes, find-step}
use Rattle.lobby_state.proofs.StartPlans.{CanPlan, all_of_four, all_of_two, free-is, pairs_of_four, pairs_of_two}
use Rattle.lobby_state.proofs.WellFormed.{find-has}
use Rattle.lobby_shelf.proofs.Leading.{same_key}
use Rattle.login_handles.proofs.GuestNames.{bytes_eq-self}
use Rattle.lobby_state.proofs.KeepsEnter.{same_key as differ_by}
use Rattle.tables.proofs.Placed.{position-within}

lesser : (a b c : ℕ) → a < b → b ≡ c → a ≡ c → ⊥
lesser a b c h e same = omega (arith, h, e, same)

-- a game that was found lies on the shelf under its number
stored_at : (low : ℕ) (games : List Shelved) (row : Shelved) (k : ℕ) → RiseAbove low games → k < length games
    → get_or games k row ≡ row
    → stored_game games row.number ≡ Some row.game
stored_at low [] row k rise inside e = absurd (omega arith)
stored_at low (first ∷ games) row zero rise inside e =
    ap (λ t. row_game (cond t (Some first) (find (has_number row.number) games)))
    (eq-eqb first.number row.number (ap (λ (r : Shelved). r.number) e))
    ∙ ap (λ (r : Shelved). Some r.game) e
stored_at low (first ∷ games) row (suc k) rise inside e =
    let above = rises_at first.number games k row rise.2 (omega arith) in
    ap (λ t. row_game (cond t (Some first) (find (has_number row.number) games)))
    (ne_eqb first.number row.number (lesser first.number _ row.number above (ap (λ (r : Shelved). r.number) e)))
    ∙ stored_at first.number games row k rise.2 (omega arith) e

contained_stored : (low : ℕ) (games : List Shelved) (row : Shelved) → RiseAbove low games → Contains games row
    → stored_game games row.number ≡ Some row.game
contained_stored low games row rise there = stored_at low games row there.0 rise there.1 there.2

-- who is found by a test is found by every test that it passes
some_found : (p q : Member → Bool) (members : List Member) (member : Member) → find p members ≡ Some member
    → q member ≡ true
    → (m : Member) × (find q members ≡ Some m)
some_found p q [] member e passes = cc
some_found p q (x ∷ xs) member e passes =
    elim (q x) as (λ t. q x ≡ t → (m : Member) × (cond t (Some x) (find q xs) ≡ Some m)) [
      | true ↦ λ _. (x, refl)
      | false ↦ λ fails. elim (find-step (p x) x member (find p xs) e) [
        | inl here ↦ absurd (let bad : false ≡ true = sym fails ∙ ap q here.1 ∙ passes in cc)
        | inr later ↦ some_found p q xs member later passes
      ]
    ] refl

-- members who are found by two tests and show one thing that differs from member to member are one
one_member : {Y : Type 0} (g : Member → Y) (members : List Member) (p q : Member → Bool) (one other : Member)
    → find p members ≡ Some one
    → find q members ≡ Some other → AllPairs (λ a b. g a ≢ g b) members → g one ≡ g other → one ≡ other
one_member g [] p q one other e f apart same = cc
one_member {Y = Y} g (x ∷ xs) p q one other e f apart same =
    let R : Member → Type 0 = λ b. g x ≢ g b in
    let others : All R xs = λ k d inside. apart 0 (suc k) d (omega arith) (omega arith) in
    let rest : AllPairs (λ a b. g a ≢ g b) xs = λ i j d before inside.
    apart (suc i) (suc j) d (omega arith) (omega arith) in
    elim (find-step (p x) x one (find p xs) e) [
      | inl here ↦ elim (find-step (q x) x other (find q xs) f) [
        | inl there ↦ sym here.1 ∙ there.1
        | inr later ↦ absurd (find-has R q xs other others later (ap g here.1 ∙ same))
      ]
      | inr later ↦ elim (find-step (q x) x other (find q xs) f) [
        | inl there ↦ absurd (find-has R p xs one others later (ap g there.1 ∙ sym same))
        | inr behind ↦ one_member g xs p q one other later behind rest same
      ]
    ]

-- the player of a name is there
record IsHere (lobby : LobbyState) (name : List ℕ) : Type 0 where
  member : Member
  found : playing_as lobby name ≡ Some member

named_here : (lobby : LobbyState) (number : ℕ) (name : List ℕ) (found : Option Member) → playing_as lobby name ≡ found
    → holds (λ m. asks lobby.shelf m.session number) found ≡ true → IsHere lobby name
named_here lobby number name None e asked = cc
named_here lobby number name (Some member) e asked = record { member = member; found = e }

-- all players of a game that would start are there
here_by : (lobby : LobbyState) (session : ℕ) (caller : Member) (number : ℕ) (name : List ℕ)
    → member_of lobby session ≡ Some caller
    → bytes_eq (key_of name) (key_of caller.name) || has_asked_for lobby number name ≡ true → IsHere lobby name
here_by lobby session caller number name first h =
    elim (or_cases (bytes_eq (key_of name) (key_of caller.name)) (has_asked_for lobby number name) h) [
      | inl own ↦
          let same = same_key (key_of name) (key_of caller.name) own in
          let found = some_found (is_session session) (has_handle (key_of name)) lobby.members caller first
          (subst (λ (key : List ℕ). bytes_eq (key_of caller.name) key ≡ true) (sym same)
          (bytes_eq-self (key_of caller.name))) in
          record { member = found.0; found = found.1 }
      | inr asked ↦ named_here lobby number name (playing_as lobby name) refl asked
    ]

all_here : (lobby : LobbyState) (session : ℕ) (caller : Member) (number : ℕ) (names : List (List ℕ))
    → member_of lobby session ≡ Some caller
    → list_all (λ name. bytes_eq (key_of name) (key_of caller.name) || has_asked_for lobby number name) names ≡ true
    → All (IsHere lobby) names
all_here lobby session caller number [] first h = All-nil (IsHere lobby)
all_here lobby session caller number (name ∷ names) first h =
    let both = and_parts _ _ h in
    All-cons (IsHere lobby) name names (here_by lobby session caller number name first both.0)
    (all_here lobby session caller number names first both.1)

-- the player in the seat of a name
seat : LobbyState → List ℕ → Player
seat lobby name = seated_as lobby.accounts name (playing_as lobby name)

name_of : (accounts : List Account) (name : List ℕ) (found : Option Member)
    → (seated_as accounts name found).name ≡ name
name_of accounts name None = refl
name_of accounts name (Some member) = refl

seat_name : (lobby : LobbyState) (name : List ℕ) → (seat lobby name).name ≡ name
unfolding seat
seat_name lobby name = name_of lobby.accounts name (playing_as lobby name)

seat_session : (lobby : LobbyState) (name : List ℕ) (here : IsHere lobby name)
    → (seat lobby name).session ≡ here.member.session
unfolding seat
seat_session lobby name here = ap (λ found. (seated_as lobby.accounts name found).session) here.found

seat_member : (lobby : LobbyState) (name : List ℕ) → IsHere lobby name → IsMember lobby (seat lobby name)
seat_member lobby name here =
    subst (Contains (sessions_in lobby.members)) (sym (seat_session lobby name here))
    (find-contained (λ m. m.session) (has_handle (key_of name)) lobby.members here.member here.found)

seats_apart : (lobby : LobbyState) (one other : List ℕ) → IsHere lobby one → IsHere lobby other
    → key_of one ≢ key_of other → IsWellFormed lobby
    → (seat lobby one).session ≢ (seat lobby other).session
seats_apart lobby one other here there differ h = λ same.
    let members : here.member ≡ there.member =
    one_member (λ m. m.session) lobby.members (has_handle (key_of one)) (has_handle (key_of other)) here.member
    there.member here.found there.found h.sessions
    (sym (seat_session lobby one here) ∙ same ∙ seat_session lobby other there) in
    let first =
    same_key (key_of here.member.name) (key_of one)
    (find-passes (has_handle (key_of one)) lobby.members here.member here.found) in
    let second =
    same_key (key_of there.member.name) (key_of other)
    (find-passes (has_handle (key_of other)) lobby.members there.member there.found) in
    differ (sym first ∙ ap (λ (m : Member). key_of m.name) members ∙ second)

names_apart : (lobby : LobbyState) (one other : List ℕ) → key_of one ≢ key_of other
    → key_of (seat lobby one).name ≢ key_of (seat lobby other).name
names_apart lobby one other differ = λ same.
    differ (sym (ap key_of (seat_name lobby one)) ∙ same ∙ ap key_of (seat_name lobby other))

-- what a plan says of its seats
record AreFit (lobby : LobbyState) (variant : Variant) (names : List (List ℕ)) : Type 0 where
  names_are : map (λ player. player.name) (seat_list (as_they_sat lobby names variant)) ≡ names
  members : All (IsMember lobby) (seat_list (as_they_sat lobby names variant))
  apart : ArePlayersApart (as_they_sat lobby names variant)
  boards : FitsVariant variant (as_they_sat lobby names variant)

-- two at one board
record AreTwo (lobby : LobbyState) (a b : List ℕ) : Type 0 where
  names_are : (seat lobby a).name ∷ (seat lobby b).name ∷ [] ≡ a ∷ b ∷ []
  members : All (IsMember lobby) (seat lobby a ∷ seat lobby b ∷ [])
  sessions : AllPairs (λ one another. one.session ≢ another.session) (seat lobby a ∷ seat lobby b ∷ [])
  handles : AllPairs (λ one another. key_of one.name ≢ key_of another.name) (seat lobby a ∷ seat lobby b ∷ [])

are_two : (lobby : LobbyState) (a b : List ℕ) → IsHere lobby a → IsHere lobby b → key_of a ≢ key_of b
    → IsWellFormed lobby → AreTwo lobby a b
are_two lobby a b ha hb differ h = record {
  names_are = ap (λ n. n ∷ (seat lobby b).name ∷ []) (seat_name lobby a) ∙ ap (λ n. a ∷ n ∷ []) (seat_name lobby b);
  members = all_of_two (IsMember lobby) (seat lobby a) (seat lobby b) (seat_member lobby a ha) (seat_member lobby b hb);
  sessions =
      pairs_of_two (λ one another. one.session ≢ another.session) (seat lobby a) (seat lobby b)
      (seats_apart lobby a b ha hb differ h);
  handles =
      pairs_of_two (λ one another. key_of one.name ≢ key_of another.name) (seat lobby a) (seat lobby b)
      (names_apart lobby a b differ);
}

-- four at two boards, of whom no two are one
record KeysDiffer (a b c d : List ℕ) : Type 0 where
  ab : key_of a ≢ key_of b
  ac : key_of a ≢ key_of c
  ad : key_of a ≢ key_of d
  bc : key_of b ≢ key_of c
  bd : key_of b ≢ key_of d
  cd : key_of c ≢ key_of d

four_fit : (lobby : LobbyState) (a b c d : List ℕ) → IsHere lobby a → IsHere lobby b → IsHere lobby c → IsHere lobby d
    → KeysDiffer a b c d
    → IsWellFormed lobby → AreFit lobby Bughouse (a ∷ b ∷ c ∷ d ∷ [])
unfolding seat
four_fit lobby a b c d ha hb hc hd keys h = record {
  names_are =
      ap (λ n. n ∷ (seat lobby b).name ∷ (seat lobby c).name ∷ (seat lobby d).name ∷ []) (seat_name lobby a)
      ∙ ap (λ n. a ∷ n ∷ (seat lobby c).name ∷ (seat lobby d).name ∷ []) (seat_name lobby b)
      ∙ ap (λ n. a ∷ b ∷ n ∷ (seat lobby d).name ∷ []) (seat_name lobby c)
      ∙ ap (λ n. a ∷ b ∷ c ∷ n ∷ []) (seat_name lobby d);
  members =
      all_of_four (IsMember lobby) (seat lobby a) (seat lobby b) (seat lobby c) (seat lobby d) (seat_member lobby a ha)
      (seat_member lobby b hb)
      (seat_member lobby c hc) (seat_member lobby d hd);
  apart = record {
    sessions =
        pairs_of_four (λ one another. one.session ≢ another.session) (seat lobby a) (seat lobby b) (seat lobby c)
        (seat lobby d)
        (seats_apart lobby a b ha hb keys.ab h) (seats_apart lobby a c ha hc keys.ac h)
        (seats_apart lobby a d ha hd keys.ad h)
        (seats_apart lobby b c hb hc keys.bc h) (seats_apart lobby b d hb hd keys.bd h)
        (seats_apart lobby c d hc hd keys.cd h);
    handles =
        pairs_of_four (λ one another. key_of one.name ≢ key_of another.name) (seat lobby a) (seat lobby b)
        (seat lobby c) (seat lobby d)
        (names_apart lobby a b keys.ab) (names_apart lobby a c keys.ac) (names_apart lobby a d keys.ad)
        (names_apart lobby b c keys.bc) (names_apart lobby b d keys.bd) (names_apart lobby c d keys.cd);
  };
  boards = refl;
}

two_fit : (lobby : LobbyState) (variant : Variant) (a b : List ℕ) → needs_partners variant ≡ false → AreTwo lobby a b
    → AreFit lobby variant (a ∷ b ∷ [])
unfolding seat
two_fit lobby Bughouse a b two are = cc
two_fit lobby Chess a b two are =
    record {
      names_are = are.names_are;
      members = are.members;
      apart = record { sessions = are.sessions; handles = are.handles };
      boards = refl;
    }
two_fit lobby Crazyhouse a b two are =
    record {
      names_are = are.names_are;
      members = are.members;
      apart = record { sessions = are.sessions; handles = are.handles };
      boards = refl;
    }
two_fit lobby (Fischer number) a b two are =
    record {
      names_are = are.names_are;
      members = are.members;
      apart = record { sessions = are.sessions; handles = are.handles };
      boards = refl;
    }

-- one of two who have one key has every key that is among theirs
among_two : (a b key : List ℕ) → key_of a ≡ key_of b → list_any (λ name. bytes_eq (key_of name) key) (a ∷ b ∷ []) ≡ true
    → key_of a ≡ key
among_two a b key same there = elim (or_cases (bytes_eq (key_of a) key) (bytes_eq (key_of b) key || false) there) [
  | inl first ↦ same_key (key_of a) key first
  | inr rest ↦ elim (or_cases (bytes_eq (key_of b) key) false rest) [
    | inl second ↦ same ∙ same_key (key_of b) key second
    | inr bad ↦ cc
  ]
]

two_keys : (a b own key : List ℕ) → own ≢ key → list_any (λ name. bytes_eq (key_of name) own) (a ∷ b ∷ []) ≡ true
    → list_any (λ name. bytes_eq (key_of name) key) (a ∷ b ∷ []) ≡ true → key_of a ≢ key_of b
two_keys a b own key differ first second = λ same.
    differ (sym (among_two a b own same first) ∙ among_two a b key same second)

four_keys : (a b c d : List ℕ) → IsDistinct bytes_eq (map key_of (a ∷ b ∷ c ∷ d ∷ [])) → KeysDiffer a b c d
unfolding IsDistinct
four_keys a b c d distinct = record {
  ab = differ_by (key_of a) (key_of b) distinct.0.0;
  ac = differ_by (key_of a) (key_of c) distinct.0.1.0;
  ad = differ_by (key_of a) (key_of d) distinct.0.1.1.0;
  bc = differ_by (key_of b) (key_of c) distinct.1.0.0;
  bd = differ_by (key_of b) (key_of d) distinct.1.0.1.0;
  cd = differ_by (key_of c) (key_of d) distinct.1.1.0.0;
}

-- two who have seats at one board
pair_fit : (lobby : LobbyState) (variant : Variant) (names : List (List ℕ)) (own key : List ℕ)
    → needs_partners variant ≡ false → length names ≡ 2 → own ≢ key
    → list_any (λ name. bytes_eq (key_of name) own) names ≡ true
    → list_any (λ name. bytes_eq (key_of name) key) names ≡ true
    → All (IsHere lobby) names → IsWellFormed lobby → AreFit lobby variant names
pair_fit lobby variant [] own key one two differ first second here h = absurd (omega arith)
pair_fit lobby variant (a ∷ []) own key one two differ first second here h = absurd (omega arith)
pair_fit lobby variant (a ∷ b ∷ []) own key one two differ first second here h =
    two_fit lobby variant a b one
    (are_two lobby a b (All-head (IsHere lobby) a (b ∷ []) here)
    (All-head (IsHere lobby) b [] (All-tail (IsHere lobby) a (b ∷ []) here))
    (two_keys a b own key differ first second) h)
pair_fit lobby variant (a ∷ b ∷ c ∷ names) own key one two differ first second here h = absurd (omega arith)

pairs_fit : (lobby : LobbyState) (names : List (List ℕ)) → length names ≡ 4 → IsDistinct bytes_eq (map key_of names)
    → All (IsHere lobby) names
    → IsWellFormed lobby → AreFit lobby Bughouse names
pairs_fit lobby [] four distinct here h = absurd (omega arith)
pairs_fit lobby (a ∷ []) four distinct here h = absurd (omega arith)
pairs_fit lobby (a ∷ b ∷ []) four distinct here h = absurd (omega arith)
pairs_fit lobby (a ∷ b ∷ c ∷ []) four distinct here h = absurd (omega arith)
pairs_fit lobby (a ∷ b ∷ c ∷ d ∷ []) four distinct here h =
    let rest = All-tail (IsHere lobby) a (b ∷ c ∷ d ∷ []) here in
    let more = All-tail (IsHere lobby) b (c ∷ d ∷ []) rest in
    four_fit lobby a b c d (All-head (IsHere lobby) a (b ∷ c ∷ d ∷ []) here)
    (All-head (IsHere lobby) b (c ∷ d ∷ []) rest)
    (All-head (IsHere lobby) c (d ∷ []) more) (All-head (IsHere lobby) d [] (All-tail (IsHere lobby) c (d ∷ []) more))
    (four_keys a b c d distinct) h
pairs_fit lobby (a ∷ b ∷ c ∷ d ∷ e ∷ names) four distinct here h = absurd (omega arith)

fit_by : (lobby : LobbyState) (variant : Variant) (names : List (List ℕ)) (own key : List ℕ)
    → length names ≡ seats variant → AreFour variant names → own ≢ key
    → list_any (λ name. bytes_eq (key_of name) own) names ≡ true
    → list_any (λ name. bytes_eq (key_of name) key) names ≡ true
    → All (IsHere lobby) names → IsWellFormed lobby → AreFit lobby variant names
fit_by lobby Chess names own key many four differ first second here h =
    pair_fit lobby Chess names own key refl many differ first second here h
fit_by lobby Crazyhouse names own key many four differ first second here h =
    pair_fit lobby Crazyhouse names own key refl many differ first second here h
fit_by lobby (Fischer number) names own key many four differ first second here h =
    pair_fit lobby (Fischer number) names own key refl many differ first second here h
fit_by lobby Bughouse names own key many four differ first second here h = pairs_fit lobby names many four here h

-- ---- the plan

-- who asks, whom it names, and the game of least number that both play in
record AreMeant (lobby : LobbyState) (session : ℕ) (key : List ℕ) (r : Resuming) : Type 0 where
  caller : member_of lobby session ≡ Some r.caller
  other : named lobby key ≡ Some r.other
  row : least_of lobby.shelf.games (key_of r.caller.name) key ≡ Some r.row
  differ : is_session session r.other ≡ false

row_there : (lobby : LobbyState) (session : ℕ) (key : List ℕ) (r : Resuming) → AreMeant lobby session key r
    → Contains lobby.shelf.games r.row
row_there lobby session key r are =
    subst (λ (rows : List Shelved). Contains rows r.row) (map-id lobby.shelf.games)
    (find-contained (λ row. row) (is_of_both (key_of r.caller.name) key) lobby.shelf.games r.row are.row)

keys_differ : (lobby : LobbyState) (session : ℕ) (key : List ℕ) (r : Resuming) → AreMeant lobby session key r
    → IsWellFormed lobby → key_of r.caller.name ≢ key
keys_differ lobby session key r are h = λ same.
    let named_so = and_parts (has_handle key r.other) _ (find-passes (is_named key) lobby.members r.other are.other) in
    let theirs : key_of r.other.name ≡ key = same_key (key_of r.other.name) key named_so.0 in
    let one : r.caller ≡ r.other =
    one_member (λ m. key_of m.name) lobby.members (is_session session) (is_named key) r.caller r.other are.caller
    are.other h.handles (same ∙ sym theirs) in
    let own : r.caller.session ≡ session =
    eqb-true r.caller.session session (find-passes (is_session session) lobby.members r.caller are.caller) in
    eqb-false r.other.session session are.differ (sym (ap (λ (m : Member). m.session) one) ∙ own)

can_ask : (lobby : LobbyState) (session : ℕ) (key : List ℕ) (r : Resuming) → AreMeant lobby session key r
    → IsWellFormed lobby
    → CanAsk lobby r.caller.session r.other.session r.row.number
can_ask lobby session key r are h = record {
  by = find-contained (λ m. m.session) (is_session session) lobby.members r.caller are.caller;
  other = find-contained (λ m. m.session) (is_named key) lobby.members r.other are.other;
  lies = used-stored lobby.shelf.games r.row.number r.row.game
      (contained_stored 0 lobby.shelf.games r.row h.shelf.sound.numbers (row_there lobby session key r are));
}

can_resume : (lobby : LobbyState) (session : ℕ) (key : List ℕ) (r : Resuming) (slot : ℕ) → AreMeant lobby session key r
    → would_start lobby r.caller r.row ≡ true
    → free_slot lobby ≡ Some slot → nat_le most_games lobby.started ≡ false → IsWellFormed lobby
    → IsPlanned lobby (resume_at lobby r.row (Some slot))
can_resume lobby session key r slot are starts found few h =
    let there = row_there lobby session key r are in
    let replays = All-contains (λ row. Replays row.game) lobby.shelf.games r.row h.shelf.sound.replay there in
    let game = r.row.game in
    let both = and_parts _ _ (find-passes (is_of_both (key_of r.caller.name) key) lobby.shelf.games r.row are.row) in
    let here = all_here lobby session r.caller r.row.number game.names are.caller starts in
    let fit =
    fit_by lobby game.terms.variant game.names (key_of r.caller.name) key replays.spelled.players replays.players
    (keys_differ lobby session key r are h) both.0 both.1 here h in
    let within : slot < length lobby.games = position-within is_none lobby.games slot found in
    let back : slot + 1 - 1 ≡ slot = omega arith in
    let long = h.games in
    record {
      game = game;
      lies = contained_stored 0 lobby.shelf.games r.row h.shelf.sound.numbers there;
      its_terms = refl;
      names = fit.names_are;
      is_desk = (omega arith, omega (arith, long));
      is_free = ap (slice_get lobby.games) back ∙ free-is lobby.games slot found;
      is_next = refl;
      few = leb-false most_games lobby.started few;
      are_terms = record {
        minutes = replays.spelled.terms.minutes;
        increment = replays.spelled.terms.increment;
        numbered = replays.spelled.terms.array;
      };
      members = fit.members;
      apart = fit.apart;
      boards = fit.boards;
    }

start_by : (lobby : LobbyState) (session : ℕ) (key : List ℕ) (r : Resuming) (slot : Option ℕ)
    → AreMeant lobby session key r → would_start lobby r.caller r.row ≡ true
    → free_slot lobby ≡ slot → is_none slot ≡ false → nat_le most_games lobby.started ≡ false → IsWellFormed lobby
    → IsPlanned lobby (resume_at lobby r.row slot)
start_by lobby session key r None are starts found free few h = cc
start_by lobby session key r (Some slot) are starts found free few h =
    can_resume lobby session key r slot are starts found few h

resuming_by : (lobby : LobbyState) (session : ℕ) (key : List ℕ) (r : Resuming) (starts : Bool)
    → AreMeant lobby session key r → would_start lobby r.caller r.row ≡ starts
    → NoneHolds (cond starts (resuming_at lobby r.row) (asking_to_resume lobby r.caller r.other r.row)).causes
    → IsWellFormed lobby
    → IsPlanned lobby (cond starts (resuming_at lobby r.row) (asking_to_resume lobby r.caller r.other r.row)).reply
resuming_by lobby session key r true are e allowed h =
    let desk = or_parts (is_none (free_slot lobby)) (nat_le most_games lobby.started) allowed.1.1.0 in
    start_by lobby session key r (free_slot lobby) are e refl desk.0 desk.1 h
resuming_by lobby session key r false are e allowed h = can_ask lobby session key r are h

planned_by : (lobby : LobbyState) (session : ℕ) (key : List ℕ) (caller other : Option Member) (row : Option Shelved)
    → member_of lobby session ≡ caller
    → named lobby key ≡ other → meant lobby caller key ≡ row → is_none caller ≡ false → is_none other ≡ false
    → holds (is_session session) other ≡ false
    → is_none row ≡ false → NoneHolds (resuming_causes lobby (resuming_of caller other row)) → IsWellFormed lobby
    → IsPlanned lobby (resuming_plan lobby (resuming_of caller other row))
planned_by lobby session key None other row first second third a b c d allowed h = cc
planned_by lobby session key (Some caller) None row first second third a b c d allowed h = cc
planned_by lobby session key (Some caller) (Some other) None first second third a b c d allowed h = cc
planned_by lobby session key (Some caller) (Some other) (Some row) first second third a b c d allowed h =
    let r : Resuming = record { caller = caller; other = other; row = row } in
    resuming_by lobby session key r (would_start lobby caller row) (record {
      caller = first;
      other = second;
      row = third;
      differ = c;
    }) refl allowed h

pub keeps_resume : (lobby : LobbyState) (session : ℕ) (key : List ℕ) → CanPlan lobby (resume_effect lobby session key)
keeps_resume lobby session key allowed h =
    planned_by lobby session key (member_of lobby session) (named lobby key) (meant lobby (member_of lobby session) key)
    refl refl refl
    allowed.0 allowed.1.0 allowed.1.1.0 allowed.1.1.1.0 allowed.1.1.1.1 h
