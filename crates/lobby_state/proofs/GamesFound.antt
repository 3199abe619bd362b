-- The numbers that a Games lists are those that a FindGame finds.
use Rattle.std.proofs.Common.{◌≡◌, ◌⊎◌, ℕ, ◌+◌, ◌-◌, ◌*◌, ◌%◌, ◌<◌, ◌≤◌, ◌==◌, zero, suc, Bool, true, false, cond, ◌||◌, List, [], ◌∷◌, ◌++◌, Option, None, Some, map, refl, sym, ap, subst, ◌∙◌, inl, inr, arith}
use Rattle.std.specs.Prelude.{All, Contains, IfSome, IsSome, codes, decimal, is_some, slice_get}
use Rattle.std.proofs.Math.Bool.{or-true}
use Rattle.std.specs.List.{AllPairs}
use Rattle.std.proofs.lemmas.List.{append-nil, append_assoc, map-append}
use Rattle.std.proofs.lemmas.List.Elements.{All-nil, All-cons, All-append, All-contains, All-head, All-tail, All-weaker, Contains-append_left, Contains-append_right}
use Rattle.std.proofs.lemmas.List.Quantifiers.{all_pairs_push}
use Rattle.chess_model.specs.declared.variant.Terms.{Terms}
use Rattle.fics_words.specs.declared.seats.Opponents.{Opponents}
use Rattle.lobby_state.specs.declared.game.ListedGame.{ListedGame}
use Rattle.lobby_state.specs.FindGame.{desk_of_game, first_at, first_seat, hall_desk, has_board, is_in_hall, seat_at}
use Rattle.lobby_state.specs.Games.{board_line, game_number, games_lines, lines_at, lines_to, second_line}
use Rattle.lobby_state.specs.GamesFound.{ListWhatIsFound}
use Rattle.lobby_state.specs.Lobby.{LobbyState, game_at, listed_game_in}
use Rattle.lobby_state.specs.Pairing.{needs_partners}
use Rattle.lobby_state.specs.TermsText.{terms_words}
use Rattle.lobby_state.specs.WellFormed.{IsStarted, IsWellFormed}
use Rattle.simul_control.specs.declared.place.Place.{Place}
use Rattle.lobby_state.proofs.Lists.{Contains-here}

-- the numbers of the boards of a desk are odd and even, and lead back to it
odd_first : (desk : ℕ) → (game_number desk 1 % 2 == 1) ≡ true
odd_first desk = grind arith

even_second : (desk : ℕ) → (game_number desk 2 % 2 == 1) ≡ false
even_second desk = grind arith

desk_of_first : (desk : ℕ) → 1 ≤ desk → desk_of_game (game_number desk 1) ≡ desk
desk_of_first desk low = omega (arith, low)

desk_of_second : (desk : ℕ) → 1 ≤ desk → desk_of_game (game_number desk 2) ≡ desk
desk_of_second desk low = omega (arith, low)

first_of_desk : (number : ℕ) → 1 ≤ desk_of_game number → (number % 2 == 1) ≡ true
    → game_number (desk_of_game number) 1 ≡ number
first_of_desk number low odd = grind arith

second_of_desk : (number : ℕ) → 1 ≤ desk_of_game number → (number % 2 == 1) ≡ false
    → game_number (desk_of_game number) 2 ≡ number
second_of_desk number low even = grind arith

-- the numbers of the boards of a desk in use
abbrev numbers_second : ℕ → Option Opponents → List ℕ
numbers_second desk None = []
numbers_second desk (Some opponents) = game_number desk 2 ∷ []

abbrev numbers_at : ℕ → Option ListedGame → List ℕ
numbers_at desk None = []
numbers_at desk (Some game) = game_number desk 1 ∷ numbers_second desk game.seats.second

abbrev numbers_to : LobbyState → ℕ → List ℕ
numbers_to lobby zero = []
numbers_to lobby (suc desk) = numbers_to lobby desk ++ numbers_at (desk + 1) (game_at lobby (desk + 1))

-- what stands in the line of a game behind its number
abbrev behind_board : Terms → Opponents → List ℕ
behind_board terms players =
    players.white.name ++ codes " " ++ players.black.name ++ codes " " ++ terms_words (record terms { colour = None })

abbrev behind_second : Terms → Option Opponents → List ℕ
behind_second terms None = []
behind_second terms (Some players) = behind_board terms players

abbrev behind_in : Bool → Option ListedGame → List ℕ
behind_in odd None = []
behind_in true (Some game) = behind_board game.terms game.seats.first
behind_in false (Some game) = behind_second game.terms game.seats.second

abbrev behind_of : LobbyState → ℕ → List ℕ
behind_of lobby number = behind_in (number % 2 == 1) (game_at lobby (desk_of_game number))

abbrev line_of : LobbyState → ℕ → List ℕ
line_of lobby number = decimal number ++ codes " " ++ behind_of lobby number

behind_is : (lobby : LobbyState) (number desk : ℕ) (odd : Bool) (game : Option ListedGame) → (number % 2 == 1) ≡ odd
    → desk_of_game number ≡ desk
    → game_at lobby desk ≡ game → behind_in odd game ≡ behind_of lobby number
behind_is lobby number desk odd game parity there e =
    sym (ap (λ (b : Bool). behind_in b (game_at lobby (desk_of_game number))) parity
    ∙ ap (λ (d : ℕ). behind_in odd (game_at lobby d)) there
    ∙ ap (behind_in odd) e)

-- a line is its number, a blank, and the rest
rest_apart : (start w s b t : List ℕ) → start ++ w ++ s ++ b ++ s ++ t ≡ start ++ (w ++ s ++ b ++ s ++ t)
rest_apart start w s b t =
    ap (λ (x : List ℕ). x ++ t)
    (ap (λ (x : List ℕ). x ++ s) (ap (λ (x : List ℕ). x ++ b) (append_assoc start w s) ∙ append_assoc start (w ++ s) b)
    ∙ append_assoc start (w ++ s ++ b) s)
    ∙ append_assoc start (w ++ s ++ b ++ s) t

line_is : (number : ℕ) (terms : Terms) (players : Opponents)
    → board_line number terms players ≡ decimal number ++ codes " " ++ behind_board terms players
line_is number terms players =
    rest_apart (decimal number
    ++ codes " ") players.white.name (codes " ") players.black.name (terms_words (record terms { colour = None }))

-- the lines of a desk begin with these numbers
line_second : (lobby : LobbyState) (desk : ℕ) (game : ListedGame) (second : Option Opponents)
    → behind_second game.terms second ≡ behind_of lobby (game_number desk 2)
    → second_line (game_number desk 2) game.terms second ≡ map (line_of lobby) (numbers_second desk second)
line_second lobby desk game None e = refl
line_second lobby desk game (Some players) e =
    ap (λ (line : List ℕ). line ∷ [])
    (line_is (game_number desk 2) game.terms players
    ∙ ap (λ (rest : List ℕ). decimal (game_number desk 2) ++ codes " " ++ rest) e)

lines_at_desk : (lobby : LobbyState) (desk : ℕ) (game : Option ListedGame) → 1 ≤ desk → game_at lobby desk ≡ game
    → lines_at desk game ≡ map (line_of lobby) (numbers_at desk game)
lines_at_desk lobby desk None low e = refl
lines_at_desk lobby desk (Some game) low e =
    let first =
    behind_is lobby (game_number desk 1) desk true (Some game) (odd_first desk) (desk_of_first desk low) e in
    let second =
    behind_is lobby (game_number desk 2) desk false (Some game) (even_second desk) (desk_of_second desk low) e in
    ap (λ (line : List ℕ). line ∷ second_line (game_number desk 2) game.terms game.seats.second)
    (line_is (game_number desk 1) game.terms game.seats.first
    ∙ ap (λ (rest : List ℕ). decimal (game_number desk 1) ++ codes " " ++ rest) first)
    ∙ ap (λ (lines : List (List ℕ)). line_of lobby (game_number desk 1) ∷ lines)
    (line_second lobby desk game game.seats.second second)

lines_of_desks : (lobby : LobbyState) (count : ℕ) → lines_to lobby count ≡ map (line_of lobby) (numbers_to lobby count)
lines_of_desks lobby zero = refl
lines_of_desks lobby (suc count) =
    ap (λ (lines : List (List ℕ)). lines ++ lines_at (count + 1) (game_at lobby (count + 1)))
    (lines_of_desks lobby count)
    ∙ ap (λ (lines : List (List ℕ)). map (line_of lobby) (numbers_to lobby count) ++ lines)
    (lines_at_desk lobby (count + 1) (game_at lobby (count + 1)) (omega arith) refl)
    ∙ sym (map-append (line_of lobby) (numbers_to lobby count) (numbers_at (count + 1) (game_at lobby (count + 1))))

-- each of these numbers is found
in_hall : (desk : ℕ) → 1 ≤ desk → desk ≤ 128 → is_in_hall desk ≡ true
in_hall desk low high = grind arith

first_seat_at : (lobby : LobbyState) (number desk : ℕ) → desk_of_game number ≡ desk → 1 ≤ desk → desk ≤ 128
    → first_seat lobby number ≡ seat_at number desk (game_at lobby desk)
first_seat_at lobby number desk there low high =
    let here : hall_desk number ≡ Some desk =
    ap (λ (d : ℕ). cond (is_in_hall d) (Some d) None) there
    ∙ ap (λ (b : Bool). cond b (Some desk) None) (in_hall desk low high) in
    ap (first_at lobby number) here

is_found : (lobby : LobbyState) (number desk : ℕ) (game : ListedGame) → desk_of_game number ≡ desk → 1 ≤ desk
    → desk ≤ 128 → game_at lobby desk ≡ Some game
    → has_board number game.terms.variant ≡ true → IsSome (first_seat lobby number)
is_found lobby number desk game there low high e has =
    let place : Place = record { desk = desk; serial = game.serial; seat = 0 } in
    subst IsSome
    (sym (first_seat_at lobby number desk there low high ∙ ap (seat_at number desk) e
    ∙ ap (λ (b : Bool). cond b (Some place) None) has))
    refl

second_found : (lobby : LobbyState) (desk : ℕ) (game : ListedGame) (second : Option Opponents) → 1 ≤ desk → desk ≤ 128
    → game_at lobby desk ≡ Some game
    → is_some second ≡ needs_partners game.terms.variant
    → All (λ n. IsSome (first_seat lobby n)) (numbers_second desk second)
second_found lobby desk game None low high e boards = All-nil (λ n. IsSome (first_seat lobby n))
second_found lobby desk game (Some players) low high e boards =
    let number = game_number desk 2 in
    All-cons (λ n. IsSome (first_seat lobby n)) number []
    (is_found lobby number desk game (desk_of_second desk low) low high e
    (ap (λ (b : Bool). (number % 2 == 1) || b) (sym boards) ∙ or-true (number % 2 == 1)))
    (All-nil (λ n. IsSome (first_seat lobby n)))

-- the game that is listed for a desk has the boards that its variant wants
abbrev HasBoards : Option ListedGame → Type 0
HasBoards None = Unit {0}
HasBoards (Some game) = is_some game.seats.second ≡ needs_partners game.terms.variant

found_at : (lobby : LobbyState) (desk : ℕ) (game : Option ListedGame) → 1 ≤ desk → desk ≤ 128
    → game_at lobby desk ≡ game → HasBoards game
    → All (λ n. IsSome (first_seat lobby n)) (numbers_at desk game)
found_at lobby desk None low high e boards = All-nil (λ n. IsSome (first_seat lobby n))
found_at lobby desk (Some game) low high e boards =
    let number = game_number desk 1 in
    All-cons (λ n. IsSome (first_seat lobby n)) number (numbers_second desk game.seats.second)
    (is_found lobby number desk game (desk_of_first desk low) low high e
    (ap (λ (b : Bool). b || needs_partners game.terms.variant) (odd_first desk)))
    (second_found lobby desk game game.seats.second low high e boards)

all_there : {X : Type 0} (P : X → Type 0) (xs : List X) (i : ℕ) → All P xs → IfSome (slice_get xs i) P
all_there P [] i h = tt
all_there P (x ∷ xs) zero h = All-head P x xs h
all_there P (x ∷ xs) (suc i) h = all_there P xs i (All-tail P x xs h)

boards_in : (started : ℕ) (slot : Option (Option ListedGame)) → IfSome slot (IsStarted started)
    → HasBoards (listed_game_in slot)
boards_in started None h = tt
boards_in started (Some None) h = tt
boards_in started (Some (Some game)) h = h.boards

has_boards : (lobby : LobbyState) → IsWellFormed lobby → (desk : ℕ) → HasBoards (game_at lobby desk)
has_boards lobby h desk =
    boards_in lobby.started (slice_get lobby.games (desk - 1))
    (all_there (IsStarted lobby.started) lobby.games (desk - 1) h.serials)

all_found : (lobby : LobbyState) → IsWellFormed lobby → (count : ℕ) → count ≤ 128
    → All (λ n. IsSome (first_seat lobby n)) (numbers_to lobby count)
all_found lobby h zero few = All-nil (λ n. IsSome (first_seat lobby n))
all_found lobby h (suc count) few =
    All-append (λ n. IsSome (first_seat lobby n)) (numbers_to lobby count)
    (numbers_at (count + 1) (game_at lobby (count + 1)))
    (all_found lobby h count (omega arith))
    (found_at lobby (count + 1) (game_at lobby (count + 1)) (omega arith) (omega arith) refl
    (has_boards lobby h (count + 1)))

-- and what is found is among them
found_by : {X : Type 0} (b : Bool) (x : X) → IsSome (cond b (Some x) None) → b ≡ true
found_by true x h = refl
found_by false x h = cc

desk_found : (lobby : LobbyState) (number desk : ℕ) (b : Bool)
    → IsSome (first_at lobby number (cond b (Some desk) None))
    → (b ≡ true) × IsSome (seat_at number desk (game_at lobby desk))
desk_found lobby number desk true h = (refl, h)
desk_found lobby number desk false h = (cc, cc)

hall_from : (desk : ℕ) → is_in_hall desk ≡ true → (1 ≤ desk) × (desk ≤ 128)
hall_from desk e = (grind arith, grind arith)

second_among : (desk number : ℕ) (second : Option Opponents) → is_some second ≡ true → game_number desk 2 ≡ number
    → Contains (numbers_second desk second) number
second_among desk number None e same = cc
second_among desk number (Some players) e same = Contains-here number (game_number desk 2) [] same

among_by : (odd : Bool) (number : ℕ) (game : ListedGame) → (number % 2 == 1) ≡ odd → 1 ≤ desk_of_game number
    → HasBoards (Some game)
    → (odd || needs_partners game.terms.variant) ≡ true → Contains (numbers_at (desk_of_game number) (Some game)) number
among_by true number game parity low boards has =
    let desk : ℕ = desk_of_game number in
    Contains-here number (game_number desk 1) (numbers_second desk game.seats.second) (first_of_desk number low parity)
among_by false number game parity low boards has =
    let desk : ℕ = desk_of_game number in
    Contains-append_right (game_number desk 1 ∷ []) (numbers_second desk game.seats.second) number
    (second_among desk number game.seats.second (boards ∙ has) (second_of_desk number low parity))

among_at : (number : ℕ) (game : Option ListedGame) → IsSome (seat_at number (desk_of_game number) game)
    → 1 ≤ desk_of_game number → HasBoards game
    → Contains (numbers_at (desk_of_game number) game) number
among_at number None h low boards = absurd (let bad : false ≡ true = h in cc)
among_at number (Some game) h low boards =
    let place : Place = record { desk = desk_of_game number; serial = game.serial; seat = 0 } in
    among_by (number % 2 == 1) number game refl low boards (found_by (has_board number game.terms.variant) place h)

pub last_or_before : (desk count : ℕ) → desk ≤ suc count → (desk ≤ count) ⊎ (desk ≡ count + 1)
last_or_before desk count h = grind arith

among_all : (lobby : LobbyState) (number desk count : ℕ) → 1 ≤ desk → desk ≤ count
    → Contains (numbers_at desk (game_at lobby desk)) number
    → Contains (numbers_to lobby count) number
among_all lobby number desk zero low high h = absurd (omega (arith, low, high))
among_all lobby number desk (suc count) low high h = elim (last_or_before desk count high) [
  | inl before ↦
      Contains-append_left (numbers_to lobby count) (numbers_at (count + 1) (game_at lobby (count + 1))) number
      (among_all lobby number desk count low before h)
  | inr last ↦
      Contains-append_right (numbers_to lobby count) (numbers_at (count + 1) (game_at lobby (count + 1))) number
      (subst (λ (d : ℕ). Contains (numbers_at d (game_at lobby d)) number) last h)
]

is_among : (lobby : LobbyState) → IsWellFormed lobby → (number : ℕ) → IsSome (first_seat lobby number)
    → Contains (numbers_to lobby 128) number
is_among lobby h number found =
    let desk : ℕ = desk_of_game number in
    let there = desk_found lobby number desk (is_in_hall desk) found in
    let inside = hall_from desk there.0 in
    among_all lobby number desk 128 inside.0 inside.1
    (among_at number (game_at lobby desk) there.1 inside.0 (has_boards lobby h desk))

-- they ascend
abbrev Below : ℕ → ℕ → Type 0
Below last number = number ≤ 2 * last

below_second : (desk : ℕ) (second : Option Opponents) → 1 ≤ desk → All (Below desk) (numbers_second desk second)
below_second desk None low = All-nil (Below desk)
below_second desk (Some players) low =
    All-cons (Below desk) (game_number desk 2) [] (omega (arith, low)) (All-nil (Below desk))

below_at : (desk : ℕ) (game : Option ListedGame) → 1 ≤ desk → All (Below desk) (numbers_at desk game)
below_at desk None low = All-nil (Below desk)
below_at desk (Some game) low =
    All-cons (Below desk) (game_number desk 1) (numbers_second desk game.seats.second) (omega (arith, low))
    (below_second desk game.seats.second low)

all_below : (lobby : LobbyState) (count : ℕ) → All (Below count) (numbers_to lobby count)
all_below lobby zero = All-nil (Below 0)
all_below lobby (suc count) =
    All-append (Below (suc count)) (numbers_to lobby count) (numbers_at (count + 1) (game_at lobby (count + 1)))
    (All-weaker (Below count) (Below (suc count)) (λ n low. omega (arith, low)) (numbers_to lobby count)
    (all_below lobby count))
    (subst (λ (last : ℕ). All (Below last) (numbers_at (count + 1) (game_at lobby (count + 1)))) (omega arith)
    (below_at (count + 1) (game_at lobby (count + 1)) (omega arith)))

abbrev Ascend : List ℕ → Type 0
Ascend numbers = AllPairs (λ one another. one < another) numbers

one_above : (numbers : List ℕ) (count number : ℕ) → All (λ n. n ≤ count) numbers → count < number → Ascend numbers
    → Ascend (numbers ++ number ∷ [])
one_above numbers count number low high h =
    all_pairs_push (λ one another. one < another) numbers number h
    (λ k d inside. let bound = low k d inside in omega (arith, bound, high))

ascend_second : (numbers : List ℕ) (desk : ℕ) (second : Option Opponents) → 1 ≤ desk
    → All (λ n. n ≤ game_number desk 1) numbers → Ascend numbers
    → Ascend (numbers ++ numbers_second desk second)
ascend_second numbers desk None low below h = subst Ascend (sym (append-nil numbers)) h
ascend_second numbers desk (Some players) low below h =
    one_above numbers (game_number desk 1) (game_number desk 2) below (omega (arith, low)) h

ascend_at : (numbers : List ℕ) (count : ℕ) (game : Option ListedGame) → All (Below count) numbers → Ascend numbers
    → Ascend (numbers ++ numbers_at (count + 1) game)
ascend_at numbers count None below h = subst Ascend (sym (append-nil numbers)) h
ascend_at numbers count (Some game) below h =
    let number : ℕ = game_number (count + 1) 1 in
    subst Ascend (append_assoc numbers (number ∷ []) (numbers_second (count + 1) game.seats.second))
    (ascend_second (numbers ++ number ∷ []) (count + 1) game.seats.second (omega arith)
    (All-append (λ n. n ≤ number) numbers (number ∷ [])
    (All-weaker (Below count) (λ n. n ≤ number) (λ n low. omega (arith, low)) numbers below)
    (All-cons (λ n. n ≤ number) number [] (omega arith) (All-nil (λ n. n ≤ number))))
    (one_above numbers (2 * count) number below (omega arith) h))

all_ascend : (lobby : LobbyState) (count : ℕ) → Ascend (numbers_to lobby count)
all_ascend lobby zero = λ i j d before inside. absurd (omega (arith, inside))
all_ascend lobby (suc count) =
    ascend_at (numbers_to lobby count) count (game_at lobby (count + 1)) (all_below lobby count)
    (all_ascend lobby count)

pub lists_found : (lobby : LobbyState) → IsWellFormed lobby → ListWhatIsFound lobby (games_lines lobby)
unfolding games_lines
lists_found lobby h = record {
  numbers = numbers_to lobby 128;
  found = λ number. (
    λ listed.
        All-contains (λ n. IsSome (first_seat lobby n)) (numbers_to lobby 128) number
        (all_found lobby h 128 (omega arith))
        listed,
    is_among lobby h number,
  );
  ascending = all_ascend lobby 128;
  behind = behind_of lobby;
  told = lines_of_desks lobby 128;
}
