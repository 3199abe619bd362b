-- What comes of the lines that wait for a member, whatever the members do. This server's own.
use Rattle.std.specs.Prelude.{◌≡◌, ◌≢◌, ℕ, ◌==◌, if◌then◌else◌, List, [], ◌∷◌, ◌++◌, Result, Ok}
use Rattle.fics_words.specs.declared.refusal.Refusal.{Refusal}
use Rattle.lobby_state.specs.declared.acts.LobbyAct.{LobbyAct}
use Rattle.lobby_state.specs.declared.acts.LobbyAct.TheVariants.{Fetch, Bye}
use Rattle.lobby_state.specs.declared.acts.LobbyReply.{LobbyReply}
use Rattle.lobby_state.specs.declared.acts.LobbyReply.TheVariants.{Waiting}
use Rattle.lobby_state.specs.Acts.{lobby_after, lobby_answer}
use Rattle.lobby_state.specs.Lobby.{LobbyState}

-- an act, and the session that makes it
pub record Deed : Type 0 where
  pub by : ℕ
  pub act : LobbyAct

-- the lobby after these acts, one after the other
abbrev pub after_all : LobbyState → List Deed → LobbyState
after_all lobby [] = lobby
after_all lobby (deed ∷ deeds) = after_all (lobby_after lobby deed.by deed.act) deeds

-- the waiting lines that an answer gives
abbrev pub lines_in_answer : Result LobbyReply Refusal → List (List ℕ)
lines_in_answer (Ok (Waiting lines places)) = lines
lines_in_answer _ = []

-- the waiting lines that an act of this session gives it: those of a Fetch
abbrev pub lines_given : LobbyState → ℕ → LobbyAct → List (List ℕ)
lines_given lobby session Fetch = lines_in_answer (lobby_answer lobby session Fetch)
lines_given lobby session _ = []

-- and those that all these acts give the session, in order
abbrev pub all_given : LobbyState → ℕ → List Deed → List (List ℕ)
all_given lobby session [] = []
all_given lobby session (deed ∷ deeds) =
    (if deed.by == session then lines_given lobby session deed.act else [])
    ++ all_given (lobby_after lobby deed.by deed.act) session deeds

-- the act isn't the one by which the session goes
abbrev pub StaysInHall : ℕ → Deed → Type 0
StaysInHall session deed = deed.by ≡ session → deed.act ≢ Bye

-- the list begins with these lines
pub record BeginsWith (first lines : List (List ℕ)) : Type 0 where
  pub more : List (List ℕ)
  pub is : lines ≡ first ++ more
