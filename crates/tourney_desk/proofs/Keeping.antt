-- What the calls keep of a tourney.
use Rattle.std.proofs.Common.{◌≡◌, ℕ, ◌+◌, ◌-◌, ◌<◌, ◌≤◌, Bool, true, false, List, [], ◌∷◌, ◌++◌, length, get_or, sym, ap, ◌∙◌, arith}
use Rattle.std.specs.Prelude.{All, AllPairs, count_by, ◌==◌, ◌&&◌}
use Rattle.std.specs.List.{list_any}
use Rattle.std.proofs.lemmas.Bool.{and_from, and_parts, eq-eqb, eqb-true, false_from_ne_true, or_from, or_parts, both_ways}
use Rattle.std.proofs.lemmas.List.{length_push}
use Rattle.std.proofs.lemmas.List.Elements.{All-cons, All-get_or, All-nil, All-push, All-weaker}
use Rattle.std.proofs.lemmas.List.Quantifiers.{all_pairs_push}
use Rattle.tourney_desk.specs.Pairing.{is_paired}
use Rattle.tourney_desk.specs.Scores.{is_by_player}
use Rattle.tourney_desk.specs.Tourney.{IsTourney, TourneyState, is_of_game, same_players}
use Rattle.tourney_desk.specs.declared.score.Report.{Report}
use Rattle.tourney_desk.specs.declared.score.Score.{Score}
use Rattle.tourney_desk.proofs.Few.{Apart, IsSmall, few_games, few_results}
use Rattle.tourney_desk.proofs.Paired.{ArePaired, are_paired}

-- no element passes where none is found
none_passes : {X : Type 0} (p : X → Bool) (xs : List X) → list_any p xs ≡ false → All (λ x. p x ≡ false) xs
none_passes p [] e = All-nil (λ x. p x ≡ false)
none_passes p (x ∷ xs) e =
    let both = or_parts (p x) (list_any p xs) e in
    All-cons (λ y. p y ≡ false) x xs both.0 (none_passes p xs both.1)

abbrev IsGame : ℕ → Report → Type 0
IsGame n report = is_paired n report.white report.black ≡ true

small : (n w b : ℕ) → n ≤ 64 → ArePaired n w b → (w < 64) × (b < 64)
small n w b few is = (omega (arith, is.white, few), omega (arith, is.black, few))

-- all players of results have numbers below 64
are_small : (n : ℕ) (reports : List Report) → 0 < n → n ≤ 64 → All (IsGame n) reports → All IsSmall reports
are_small n reports some few h =
    All-weaker (IsGame n) IsSmall
    (λ report is. small n report.white report.black few (are_paired n report.white report.black some is)) reports h

-- a game that has no result isn't one of the two who have one
new_apart : (n : ℕ) (old : Report) (w b : ℕ) (score : Score) → 0 < n → IsGame n old → is_paired n w b ≡ true
    → is_of_game w b old ≡ false
    → same_players old (record { white = w; black = b; score = score }) ≡ false
new_apart n old w b score some game paired none =
    let now = are_paired n w b some paired in
    or_from (is_of_game old.white old.black (record {
      white = w;
      black = b;
      score = score;
    })) (is_of_game old.black old.white (record { white = w; black = b; score = score }))
    (false_from_ne_true ((w == old.white) && (b == old.black)) (λ e.
    let both = and_parts (w == old.white) (b == old.black) e in
    both_ways (is_of_game w b old) none
    (and_from (old.white == w) (old.black == b) (eq-eqb old.white w (sym (eqb-true w old.white both.0)))
    (eq-eqb old.black b (sym (eqb-true b old.black both.1))))))
    (false_from_ne_true ((w == old.black) && (b == old.white)) (λ e.
    let both = and_parts (w == old.black) (b == old.white) e in
    let turned : is_paired n b w ≡ true =
    ap (λ k. is_paired n k w) (eqb-true b old.white both.1)
    ∙ ap (λ k. is_paired n old.white k) (eqb-true w old.black both.0) ∙ game in
    both_ways (is_paired n b w) now.turned turned))

-- the results with one more
module _ (t : TourneyState) (space : ℕ) (h : IsTourney t space) (started : t.started ≡ true) (w b : ℕ) (score : Score)
    (paired : is_paired (length t.players) w b ≡ true) (none : list_any (is_of_game w b) t.results ≡ false) where
  some : 0 < length t.players
  some = let two : 2 ≤ length t.players = h.enough started in omega (arith, two)

  added_games : All (IsGame (length t.players)) (t.results ++ record { white = w; black = b; score = score } ∷ [])
  added_games =
      All-push (IsGame (length t.players)) t.results (record { white = w; black = b; score = score }) h.games paired

  added_apart : AllPairs Apart (t.results ++ record { white = w; black = b; score = score } ∷ [])
  added_apart =
      all_pairs_push Apart t.results (record { white = w; black = b; score = score }) h.apart
      (λ k d q. new_apart (length t.players) (get_or t.results k d) w b score some
      (All-get_or (IsGame (length t.players)) t.results k d q h.games) paired
      (All-get_or (λ (report : Report). is_of_game w b report ≡ false) t.results k d q
      (none_passes (is_of_game w b) t.results none)))

  -- there is room for it
  pub has_room : 0 < space
  has_room =
      let most : length (t.results ++ record { white = w; black = b; score = score } ∷ []) ≤ 4096 =
      few_results (t.results ++ record { white = w; black = b; score = score } ∷ []) added_apart
      (are_small (length t.players) (t.results ++ record { white = w; black = b; score = score } ∷ []) some h.few
      added_games) in
      let more : length (t.results ++ record { white = w; black = b; score = score } ∷ []) ≡ length t.results + 1 =
      length_push t.results (record { white = w; black = b; score = score }) in
      let all : 4096 ≤ length t.results + space = h.room started in
      omega (arith, most, more, all)

  pub kept_report : IsTourney (record t { results = t.results ++ record { white = w; black = b; score = score } ∷ [] })
      (space - 1)
  kept_report =
      let more : length (t.results ++ record { white = w; black = b; score = score } ∷ []) ≡ length t.results + 1 =
      length_push t.results (record { white = w; black = b; score = score }) in
      let place : 0 < space = has_room in
      record {
        few = h.few;
        enough = h.enough;
        waits = λ e. absurd (both_ways t.started e started);
        games = added_games;
        apart = added_apart;
        room = λ e. let all : 4096 ≤ length t.results + space = h.room started in omega (arith, all, more, place);
      }

-- after the start nobody has more than 64 results
pub games_few : (t : TourneyState) (space : ℕ) → IsTourney t space → t.started ≡ true → (player : ℕ)
    → count_by (is_by_player player) t.results ≤ 64
games_few t space h started player =
    let two : 2 ≤ length t.players = h.enough started in
    few_games player t.results h.apart (are_small (length t.players) t.results (omega (arith, two)) h.few h.games)
