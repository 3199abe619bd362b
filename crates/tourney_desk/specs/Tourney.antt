-- A tourney: who has joined, whether it has started, the results that were accepted, and what each call does.
use Rattle.std.specs.Prelude.{◌≡◌, ℕ, ◌+◌, ◌≤◌, ◌==◌, Bool, true, false, not, ◌&&◌, ◌||◌, nat_le, nat_lt, bytes_eq, List, [], ◌∷◌, ◌++◌, length, All, Result}
use Rattle.std.specs.List.{AllPairs, list_any, position_or_len}
use Rattle.fics_words.specs.Effect.{Cause, Effect, answered, first_cause}
use Rattle.fics_words.specs.Handle.{key_of}
use Rattle.fics_words.specs.declared.refusal.Refusal.{Refusal}
use Rattle.fics_words.specs.declared.refusal.Refusal.TheVariants.{HandleTaken, TourneyStarted, TourneyFull, TooFewPlayers, TourneyNotStarted, NoSuchRound, NotPaired, AlreadyReported}
use Rattle.tourney_desk.specs.declared.score.Report.{Report}
use Rattle.tourney_desk.specs.declared.score.ScoreRow.{ScoreRow}
use Rattle.tourney_desk.specs.declared.score.Score.{Score}
use Rattle.tourney_desk.specs.Pairing.{is_paired, pairs_in, rounds_of}
use Rattle.tourney_desk.specs.Table.{table_of}

-- the handles of those who have joined, in the order of joining, which numbers them from 0; whether it has started; and
-- the results that were accepted, in their order
pub record TourneyState : Type 0 where
  pub players : List (List ℕ)
  pub started : Bool
  pub results : List Report

-- nobody has joined
abbrev pub no_tourney : TourneyState
no_tourney = record { players = []; started = false; results = [] }

-- the handle is that of this key
abbrev pub is_of_key : List ℕ → List ℕ → Bool
is_of_key key name = bytes_eq (key_of name) key

-- the number of the player of this key; where no player has it, the number of players, which is nobody's number
abbrev pub player_number : TourneyState → List ℕ → ℕ
player_number t key = position_or_len (is_of_key key) t.players

-- joining is refused after the start, where the handle has joined, and where 64 have; else the handle stands last
abbrev pub joining_tourney : TourneyState → List ℕ → Effect TourneyState (Unit {0})
joining_tourney t name = record {
  causes = (t.started, TourneyStarted) ∷ (list_any (is_of_key (key_of name)) t.players, HandleTaken)
      ∷ (nat_le 64 (length t.players), TourneyFull) ∷ [];
  memory = true;
  reply = tt;
  after = record t { players = t.players ++ name ∷ [] };
}

-- the start is refused where it was made, and where fewer than two have joined; it tells the number of rounds
abbrev pub starting_tourney : TourneyState → Effect TourneyState ℕ
starting_tourney t = record {
  causes = (t.started, TourneyStarted) ∷ (nat_lt (length t.players) 2, TooFewPlayers) ∷ [];
  memory = true;
  reply = rounds_of (length t.players);
  after = record t { started = true };
}

-- why the pairs of a round aren't told: before the start, and where there is no round of that number, which is 0 or
-- above the number of rounds
abbrev pub no_pairs : TourneyState → ℕ → List Cause
no_pairs t round =
    (not t.started, TourneyNotStarted) ∷ (round == 0, NoSuchRound)
    ∷ (nat_lt (rounds_of (length t.players)) round, NoSuchRound) ∷ []

-- the pairs of a round
abbrev pub pairs_told : TourneyState → ℕ → Result (List (ℕ × ℕ)) Refusal
pairs_told t round = answered (first_cause (no_pairs t round)) (pairs_in (length t.players) round)

-- the result is that of this game
abbrev pub is_of_game : ℕ → ℕ → Report → Bool
is_of_game white black report = (report.white == white) && (report.black == black)

-- a result is refused before the start, where no round has these two with these colours, and where their result stands;
-- else it stands behind the others
abbrev pub reporting : TourneyState → List ℕ → List ℕ → Score → Effect TourneyState (Unit {0})
reporting t white_key black_key score =
    let white = player_number t white_key in
    let black = player_number t black_key in
    record {
      causes = (not t.started, TourneyNotStarted)
          ∷ (not (is_paired (length t.players) white black), NotPaired)
          ∷ (list_any (is_of_game white black) t.results, AlreadyReported) ∷ [];
      memory = false;
      reply = tt;
      after = record t { results = t.results ++ record { white = white; black = black; score = score } ∷ [] };
    }

-- two results are of the same two players
abbrev pub same_players : Report → Report → Bool
same_players a b = is_of_game a.white a.black b || is_of_game a.black a.white b

-- what holds of every tourney, with so much room for results: at most 64 have joined, and at least two by the start;
-- results are of games of its rounds, and no two of the same two players; before the start there are none; and after it
-- there is room for all
pub record IsTourney (t : TourneyState) (space : ℕ) : Type 0 where
  pub few : length t.players ≤ 64
  pub enough : t.started ≡ true → 2 ≤ length t.players
  pub waits : t.started ≡ false → t.results ≡ []
  pub games : All (λ report. is_paired (length t.players) report.white report.black ≡ true) t.results
  pub apart : AllPairs (λ a b. same_players a b ≡ false) t.results
  pub room : t.started ≡ true → 4096 ≤ length t.results + space

-- the table, which isn't told before the start
abbrev pub table_told : TourneyState → Result (List ScoreRow) Refusal
table_told t = answered (first_cause ((not t.started, TourneyNotStarted) ∷ [])) (table_of t.players t.results)
