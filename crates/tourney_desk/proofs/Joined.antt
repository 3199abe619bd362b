-- The players in pairs and in the table are those who have joined.
use Rattle.std.proofs.Common.{ℕ, zero, suc, ◌+◌, ◌<◌, List, [], ◌∷◌, length, arith}
use Rattle.std.specs.Prelude.{All, nat_lt}
use Rattle.std.specs.List.{filter, flat_map, range_with_len}
use Rattle.std.proofs.lemmas.List.Elements.{All-append, All-cons, All-filter, All-head, All-map, All-nil, All-tail, All-weaker}
use Rattle.std.proofs.lemmas.List.Sorted.{All-permutation}
use Rattle.tourney_desk.specs.declared.score.Report.{Report}
use Rattle.tourney_desk.specs.declared.score.ScoreRow.{ScoreRow}
use Rattle.tourney_desk.specs.Pairing.{IsOfPlayers, as_pair, meet, pairs_in, pairs_of, players, with_greater}
use Rattle.tourney_desk.specs.Table.{IsTable, row_of, rows_of}
use Rattle.tourney_desk.proofs.Fair.{of_pair}

range_below : (a k : ℕ) → All (λ j. j < a + k) (range_with_len a k)
range_below a zero = All-nil (λ j. j < a + 0)
range_below a (suc k) =
    All-cons (λ j. j < a + suc k) a (range_with_len (a + 1) k) (omega arith)
    (All-weaker (λ j. j < a + 1 + k) (λ j. j < a + suc k) (λ j q. omega (arith, q)) (range_with_len (a + 1) k)
    (range_below (a + 1) k))

players_below : (n : ℕ) → All (λ j. j < n) (players n)
players_below n = All-weaker (λ j. j < 0 + n) (λ j. j < n) (λ j q. omega (arith, q)) (players n) (range_below 0 n)

All-flat_map : {X Y : Type 0} (P : Y → Type 0) (g : X → List Y) (xs : List X) → All (λ x. All P (g x)) xs
    → All P (flat_map g xs)
All-flat_map P g [] h = All-nil P
All-flat_map P g (x ∷ xs) h =
    All-append P (g x) (flat_map g xs) (All-head (λ y. All P (g y)) x xs h)
    (All-flat_map P g xs (All-tail (λ y. All P (g y)) x xs h))

pairs_of-joined : (n round i : ℕ) → i < n → All (IsOfPlayers n) (pairs_of n round i)
unfolding pairs_of
pairs_of-joined n round i joined =
    let P = IsOfPlayers n in
    let Q : ℕ × ℕ → Type 0 = λ two. IsOfPlayers n (as_pair n two) in
    let each : All (λ j. Q (i, j)) (players n) =
    All-weaker (λ j. j < n) (λ j. Q (i, j)) (λ j q. of_pair n (i, j) P (joined, q) (q, joined)) (players n)
    (players_below n) in
    All-map P (as_pair n) (filter (meet n round) (with_greater n i))
    (All-filter (meet n round) Q (with_greater n i)
    (All-map Q (λ j. (i, j)) (filter (nat_lt i) (players n)) (All-filter (nat_lt i) (λ j. Q (i, j)) (players n) each)))

pub pairs_joined : (n round : ℕ) → All (IsOfPlayers n) (pairs_in n round)
unfolding pairs_in
pairs_joined n round =
    All-flat_map (IsOfPlayers n) (pairs_of n round) (players n)
    (All-weaker (λ i. i < n) (λ i. All (IsOfPlayers n) (pairs_of n round i)) (λ i q. pairs_of-joined n round i q)
    (players n) (players_below n))

pub rows_joined : (names : List (List ℕ)) (results : List Report) (rows : List ScoreRow) → IsTable names results rows
    → All (λ (row : ScoreRow). row.player < length names) rows
rows_joined names results rows is =
    let P : ScoreRow → Type 0 = λ row. row.player < length names in
    All-permutation P (rows_of names results) rows is.all
    (All-map P (row_of results) (players (length names)) (players_below (length names)))
