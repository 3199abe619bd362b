-- The lines that wait for a member are given once and in order: every act but its own Fetch and Bye leaves them as they
-- stand, and puts others behind them at most.
use Rattle.std.proofs.Common.{◌≡◌, ◌≢◌, ◌⊎◌, ℕ, ◌==◌, inl, inr, arith, Bool, true, false, cond, if◌then◌else◌, List, [], ◌∷◌, ◌++◌, Option, None, Some, map, refl, sym, ap, subst, ◌∙◌}
use Rattle.std.specs.Prelude.{All}
use Rattle.std.specs.List.{find}
use Rattle.std.proofs.lemmas.List.{append_assoc}
use Rattle.std.proofs.lemmas.List.Elements.{All-head, All-tail}
use Rattle.fics_words.specs.Seats.{seat_list, seat_number}
use Rattle.fics_words.specs.declared.seats.Seats.{Seats}
use Rattle.game_records.specs.declared.stored_game.StoredGame.{StoredGame}
use Rattle.tables.specs.Rows.{change_first}
use Rattle.lobby_state.specs.declared.acts.LobbyAct.{LobbyAct}
use Rattle.lobby_state.specs.declared.acts.LobbyAct.TheVariants.{Fetch, Bye}
use Rattle.lobby_state.specs.declared.acts.Plan.{Plan}
use Rattle.lobby_state.specs.declared.acts.Plan.TheVariants.{Start, Clear, Resume, Ask}
use Rattle.lobby_state.specs.declared.member.Member.{Member}
use Rattle.lobby_state.specs.Acts.{lobby_after, lobby_effect}
use Rattle.lobby_state.specs.Clear.{off_desk}
use Rattle.lobby_state.specs.Fetch.{member_emptied}
use Rattle.lobby_state.specs.Lobby.{LobbyState, is_session, lines_in, waiting_of}
use Rattle.lobby_state.specs.Match.{member_with_line}
use Rattle.lobby_state.specs.Plans.{committed}
use Rattle.lobby_state.specs.Resumed.{ask_line}
use Rattle.lobby_state.specs.Start.{in_seat}
use Rattle.lobby_state.specs.WaitingLines.{BeginsWith, Deed, StaysInHall, after_all, all_given, lines_given}
use Rattle.lobby_state.proofs.KeepsActs.{keeps_act}
use Rattle.lobby_state.proofs.LinesKept.{Kept, Longer, begins_same, begins_then, kept_change, kept_map, one_line, same_lines}
use Rattle.lobby_state.proofs.Refusals.{holds_after}

-- every act but the session's own Fetch and Bye leaves the lines that wait for it where they stand
pub kept_after : (lobby : LobbyState) (by session : ℕ) (act : LobbyAct) → (act ≡ Fetch → by ≢ session)
    → (act ≡ Bye → by ≢ session)
    → BeginsWith (waiting_of lobby session) (waiting_of (lobby_after lobby by act) session)
kept_after lobby by session act f b =
    holds_after (λ (after : LobbyState). BeginsWith (waiting_of lobby session) (waiting_of after session)) lobby
    (lobby_effect lobby by act)
    (begins_same (waiting_of lobby session)) (λ _. (keeps_act lobby by act).lines session f b)

-- and none waits after its own Fetch
emptied_by : (b : Bool) (session : ℕ) (x : Member) (xs : List Member) → is_session session x ≡ b
    → lines_in (find (is_session session) (change_first (is_session session) member_emptied xs)) ≡ []
    → lines_in
    (find (is_session session)
    (cond b (member_emptied x ∷ xs) (x ∷ change_first (is_session session) member_emptied xs)))
    ≡ []
emptied_by true session x xs e rest =
    ap (λ (b : Bool). lines_in (cond b (Some (member_emptied x)) (find (is_session session) xs))) e
emptied_by false session x xs e rest =
    ap (λ (b : Bool).
    lines_in (cond b (Some x) (find (is_session session) (change_first (is_session session) member_emptied xs))))
    e
    ∙ rest

pub none_waits : (session : ℕ) (xs : List Member)
    → lines_in (find (is_session session) (change_first (is_session session) member_emptied xs)) ≡ []
none_waits session [] = refl
none_waits session (x ∷ xs) = emptied_by (is_session session x) session x xs refl (none_waits session xs)

-- over many acts
differs : (one another : ℕ) → (one == another) ≡ false → one ≢ another
differs one another e same = grind (arith, e, same)

is_fetch : (lobby : LobbyState) (session : ℕ) (act : LobbyAct)
    → (act ≡ Fetch) ⊎ ((act ≢ Fetch) × (lines_given lobby session act ≡ []))
is_fetch lobby session Fetch = inl refl
is_fetch lobby session _ = inr ((λ e. cc), refl)

-- what a session is given by its own act and later, and what waits then
own_by : (lobby : LobbyState) (session : ℕ) (act : LobbyAct) (later : List (List ℕ))
    → (act ≢ Fetch → BeginsWith (waiting_of lobby session) later)
    → BeginsWith (waiting_of lobby session) (lines_given lobby session act ++ later)
own_by lobby session act later h = elim (is_fetch lobby session act) [
  | inl e ↦ record { more = later; is = ap (λ (a : LobbyAct). lines_given lobby session a ++ later) e }
  | inr other ↦
      subst (λ (given : List (List ℕ)). BeginsWith (waiting_of lobby session) (given ++ later)) (sym other.1)
      (h other.0)
]

given_by : (own : Bool) (lobby : LobbyState) (by session : ℕ) (act : LobbyAct) (later : List (List ℕ))
    → (by == session) ≡ own
    → (act ≡ Bye → by ≢ session) → BeginsWith (waiting_of (lobby_after lobby by act) session) later
    → BeginsWith (waiting_of lobby session) ((if own then lines_given lobby session act else []) ++ later)
given_by true lobby by session act later e b h =
    own_by lobby session act later (λ other.
    begins_then (waiting_of lobby session) (waiting_of (lobby_after lobby by act) session) later
    (kept_after lobby by session act (λ f. absurd (other f)) b) h)
given_by false lobby by session act later e b h =
    begins_then (waiting_of lobby session) (waiting_of (lobby_after lobby by act) session) later
    (kept_after lobby by session act (λ _ same. differs by session e same) b) h

pub all_kept : (lobby : LobbyState) (session : ℕ) (deeds : List Deed) → All (StaysInHall session) deeds
    → BeginsWith (waiting_of lobby session)
    (all_given lobby session deeds ++ waiting_of (after_all lobby deeds) session)
all_kept lobby session [] stays = begins_same (waiting_of lobby session)
all_kept lobby session (deed ∷ deeds) stays =
    let next : LobbyState = lobby_after lobby deed.by deed.act in
    let rest : List (List ℕ) = all_given next session deeds in
    let last : List (List ℕ) = waiting_of (after_all next deeds) session in
    subst (BeginsWith (waiting_of lobby session))
    (sym (append_assoc (if deed.by == session then lines_given lobby session deed.act else []) rest last))
    (given_by (deed.by == session) lobby deed.by session deed.act (rest ++ last) refl
    (λ bye same. All-head (StaysInHall session) deed deeds stays same bye)
    (all_kept next session deeds (All-tail (StaysInHall session) deed deeds stays)))

-- carrying out a plan touches no line
seat_lines : (desk serial : ℕ) (number : Option ℕ) (m : Member) → Longer m (in_seat desk serial number m)
seat_lines desk serial None m = same_lines m m refl refl
seat_lines desk serial (Some number) m = same_lines m (in_seat desk serial (Some number) m) refl refl

kept_start : (lobby : LobbyState) (session desk serial : ℕ) (seats : Seats)
    → Kept session lobby.members
    (map (λ m. in_seat desk serial (seat_number m.session (seat_list seats)) m) lobby.members)
kept_start lobby session desk serial seats =
    kept_map (λ m. in_seat desk serial (seat_number m.session (seat_list seats)) m)
    (λ m. seat_lines desk serial (seat_number m.session (seat_list seats)) m) session lobby.members

kept_clear : (lobby : LobbyState) (session desk : ℕ) → Kept session lobby.members (map (off_desk desk) lobby.members)
kept_clear lobby session desk =
    kept_map (off_desk desk) (λ m. same_lines m (off_desk desk m) refl refl) session lobby.members

pub kept_plan : (lobby : LobbyState) (session : ℕ) (plan : Plan) (game : Option StoredGame) (is_cleared : Bool)
    → BeginsWith (waiting_of lobby session) (waiting_of (committed lobby plan game is_cleared) session)
kept_plan lobby session (Start desk serial terms seats) game is_cleared = kept_start lobby session desk serial seats
kept_plan lobby session (Resume desk serial number terms seats) game is_cleared =
    kept_start lobby session desk serial seats
kept_plan lobby session (Ask from to number) game is_cleared =
    kept_change (is_session to) (member_with_line (ask_line lobby from)) (one_line (ask_line lobby from)) session
    lobby.members
kept_plan lobby session (Clear by desk serial) None true = kept_clear lobby session desk
kept_plan lobby session (Clear by desk serial) (Some game) true = kept_clear lobby session desk
kept_plan lobby session (Clear by desk serial) game false =
    kept_change (is_session by) (off_desk desk) (λ m. same_lines m (off_desk desk m) refl refl) session lobby.members
