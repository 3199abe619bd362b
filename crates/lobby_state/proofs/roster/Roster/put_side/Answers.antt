use Rattle.std.proofs.Common.{◌≡◌, ℕ, ◌+◌, ◌<◌, List, [], ◌∷◌, ◌++◌, filter, get_or, length, map, take, sym, ap, ◌∙◌, append_assoc}
use Rattle.std.proofs.lemmas.List.{map-append, take_more}
use Rattle.std.proofs.lemmas.List.Elements.{filter-append}
use Rattle.lobby_state.specs.declared.acts.pending.ChallengeSide.{ChallengeSide}
use Rattle.lobby_state.specs.Lobby.{LobbyState}
use Rattle.lobby_state.specs.Pending.{is_on_side, pending_line, side_lines}
use Rattle.lobby_state.proofs.roster.Roster.put_side.Goals as goal
use Rattle.seek_match.specs.declared.challenge.Challenge.{Challenge}

-- the lines of one challenge more
side_lines-more : (lobby : LobbyState) (session : ℕ) (side : ChallengeSide) (xs : List Challenge) (i : ℕ)
    (d : Challenge)
    → i < length xs
    → side_lines lobby session side (take (i + 1) xs)
    ≡ side_lines lobby session side (take i xs) ++ side_lines lobby session side (get_or xs i d ∷ [])
side_lines-more lobby session side xs i d inside =
    ap (side_lines lobby session side) (take_more xs i d inside)
    ∙ ap (map (pending_line lobby side)) (filter-append (is_on_side side session) (take i xs) (get_or xs i d ∷ []))
    ∙ map-append (pending_line lobby side) (filter (is_on_side side session) (take i xs))
    (filter (is_on_side side session) (get_or xs i d ∷ []))

-- once they stand behind those before
one_put : (lobby : LobbyState) (session : ℕ) (side : ChallengeSide) (xs : List Challenge) (i : ℕ) (d : Challenge)
    (base old new : List (List ℕ))
    → i < length xs
    → old ≡ base ++ side_lines lobby session side (take i xs)
    → new ≡ old ++ side_lines lobby session side (get_or xs i d ∷ [])
    → new ≡ base ++ side_lines lobby session side (take (i + 1) xs)
one_put lobby session side xs i d base old new inside before put =
    put ∙ ap (λ (l : List (List ℕ)). l ++ side_lines lobby session side (get_or xs i d ∷ [])) before
    ∙ append_assoc base (side_lines lobby session side (take i xs)) (side_lines lobby session side (get_or xs i d ∷ []))
    ∙ ap (λ (l : List (List ℕ)). base ++ l) (sym (side_lines-more lobby session side xs i d inside))

pub loop-challenge-preserved : goal.loop-challenge-preserved
loop-challenge-preserved c =
    one_put c.args.self.now c.args.session c.args.side c.rows-challenge-items.result.now
    c.loop-challenge.challenge-index _ c.args.lines.now c.loop-challenge.lines c.put_on_side.new.lines
    c.loop-challenge-test.true c.loop-challenge.invariant c.in_ok-put_on_side.ensures
