-- What marks tell: a game without a handle's mark hasn't the handle; and the games of a handle from a place on.
use Rattle.std.proofs.Common.{◌≡◌, ℕ, zero, suc, ◌+◌, ◌<◌, ◌≤◌, Bool, true, false, cond, List, [], ◌∷◌, ◌++◌, Option, None, Some, Bor, length, map, drop, get_or, slice_get, take, refl, sym, ap, subst, ◌∙◌, add-one, inl, inr, arith}
use Rattle.std.specs.Prelude.{All, ◌==◌, ◌||◌, bytes_eq, option_copied, option_map}
use Rattle.std.specs.List.{filter, find, insert, list_any, remove}
use Rattle.std.specs.Map.Iter.{TakesFirst}
use Rattle.std.proofs.lemmas.Bool.{eq-eqb, or_from, or_parts}
use Rattle.std.proofs.lemmas.List.{drop-map, map-append, take-map}
use Rattle.std.specs.Cmp.Lexicographic.{bytes_decides}
use Rattle.std.proofs.lemmas.List.Elements.{All-get_or, All-weaker}
use Rattle.std.proofs.lemmas.Option.{get_or_from_slice_get, slice_get-map, slice_get_cases, slice_get_within}
use Rattle.std.proofs.Math.Bool.{and_self}
use Rattle.std.proofs.Math.Seq.{drop-cons}
use Rattle.chess_model.specs.declared.variant.Variant.{Variant}
use Rattle.chess_model.specs.declared.variant.Variant.TheVariants.{Chess, Crazyhouse, Bughouse, Fischer}
use Rattle.fics_words.specs.Handle.{key_of}
use Rattle.game_records.specs.Bounds.{seats}
use Rattle.game_records.specs.Replays.{Replays}
use Rattle.game_records.specs.declared.stored_game.StoredGame.{StoredGame}
use Rattle.lobby_shelf.specs.declared.marks.PlayerMarks.{PlayerMarks}
use Rattle.lobby_shelf.specs.declared.shelved.Shelved.{Shelved}
use Rattle.lobby_shelf.specs.Marks.{has_mark, mark, mark_in, marks_of, marks_row}
use Rattle.lobby_shelf.specs.Players.{has_player, is_of_both, of_player}

-- a name of another mark is another name
another : (name key : List ℕ) → (mark (key_of name) == mark key) ≡ false → bytes_eq (key_of name) key ≡ false
another name key differs =
    elim (bytes_eq (key_of name) key) as (λ t. bytes_eq (key_of name) key ≡ t → t ≡ false) [
      | true ↦ λ same.
          (let bad : true ≡ false =
          sym (eq-eqb (mark (key_of name)) (mark key) (ap mark ((bytes_decides (key_of name) key).0 same))) ∙ differs in
          cc)
      | false ↦ λ _. refl
    ] refl

-- the player of this seat has another mark
Differs : List ℕ → List (List ℕ) → ℕ → Type 0
Differs key names seat = (mark_in (slice_get names seat) == mark key) ≡ false

by_seats : (key : List ℕ) (names : List (List ℕ)) → ((seat : ℕ) → seat < length names → Differs key names seat)
    → list_any (λ name. bytes_eq (key_of name) key) names ≡ false
unfolding Differs
by_seats key [] differs = refl
by_seats key (name ∷ names) differs =
    or_from (bytes_eq (key_of name) key) _ (another name key (differs 0 (omega arith)))
    (by_seats key names (λ seat h. differs (suc seat) (omega (arith, h))))

of_four : (P : ℕ → Type 0) (seat : ℕ) → P 0 → P 1 → P 2 → P 3 → seat < 4 → P seat
of_four P zero a b c d h = a
of_four P (suc zero) a b c d h = b
of_four P (suc (suc zero)) a b c d h = c
of_four P (suc (suc (suc zero))) a b c d h = d
of_four P (suc (suc (suc (suc seat)))) a b c d h = absurd (omega (arith, h))

-- a game of at most four players, none of which has the mark, hasn't the handle
pub unmarked : (key : List ℕ) (names : List (List ℕ)) → length names ≤ 4 → has_mark (mark key) (marks_of names) ≡ false
    → list_any (λ name. bytes_eq (key_of name) key) names ≡ false
unfolding Differs
unmarked key names few none =
    let at : ℕ → Bool = λ seat. mark_in (slice_get names seat) == mark key in
    let three = or_parts (at 0 || at 1 || at 2) (at 3) none in
    let two = or_parts (at 0 || at 1) (at 2) three.0 in
    let one = or_parts (at 0) (at 1) two.0 in
    by_seats key names (λ seat h. of_four (Differs key names) seat one.0 one.1 two.1 three.1 (omega (arith, h, few)))

-- a row beside another, of what is told of each of its items, stays beside it
pub insert-map : {A B : Type 0} (f : A → B) (xs : List A) (i : ℕ) (x : A)
    → insert (map f xs) i (f x) ≡ map f (insert xs i x)
insert-map f xs i x =
    ap (λ l. l ++ f x ∷ drop i (map f xs)) (take-map f i xs) ∙ ap (λ l. map f (take i xs) ++ f x ∷ l) (drop-map f i xs)
    ∙ sym (map-append f (take i xs) (x ∷ drop i xs))

pub remove-map : {A B : Type 0} (f : A → B) (xs : List A) (i : ℕ) → remove (map f xs) i ≡ map f (remove xs i)
remove-map f xs i =
    ap (λ l. l ++ drop (suc i) (map f xs)) (take-map f i xs) ∙ ap (λ l. map f (take i xs) ++ l) (drop-map f (suc i) xs)
    ∙ sym (map-append f (take i xs) (drop (suc i) xs))

-- one step on from a place: the item there stays where it passes
stepped : {X : Type 0} (p : X → Bool) (xs : List X) (i : ℕ) (x : X) → slice_get xs i ≡ Some x
    → filter p (drop i xs) ≡ cond (p x) (x ∷ filter p (drop (i + 1) xs)) (filter p (drop (i + 1) xs))
stepped p xs i x at =
    ap (filter p)
    (drop-cons xs i x (slice_get_within xs i x at) ∙ ap (λ y. y ∷ drop (suc i) xs) (get_or_from_slice_get xs i x x at)
    ∙ ap (λ n. x ∷ drop n xs) (sym (add-one i)))

pub next-passes : {X : Type 0} (p : X → Bool) (xs : List X) (i : ℕ) (x : X) → slice_get xs i ≡ Some x → p x ≡ true
    → filter p (drop i xs) ≡ x ∷ filter p (drop (i + 1) xs)
next-passes p xs i x at passes =
    stepped p xs i x at ∙ ap (λ t. cond t (x ∷ filter p (drop (i + 1) xs)) (filter p (drop (i + 1) xs))) passes

pub next-fails : {X : Type 0} (p : X → Bool) (xs : List X) (i : ℕ) → i < length xs
    → ((x : X) → slice_get xs i ≡ Some x → false ≡ p x)
    → filter p (drop i xs) ≡ filter p (drop (i + 1) xs)
next-fails p xs i h fails =
    elim (slice_get_cases xs i).1 [
      | inl w ↦ let (x, _, at, _) = w in stepped p xs i x at
          ∙ ap (λ t. cond t (x ∷ filter p (drop (i + 1) xs)) (filter p (drop (i + 1) xs))) (sym (fails x at))
      | inr past ↦ let far = past.0 in absurd (omega (arith, h, far))
    ]

-- what was read at a place of a row that is this list
pub row-at : {X : Type 0} {xs now : List X} {x seen : X} (i : ℕ) → xs ≡ now → slice_get now i ≡ Some x
    → seen ≡ get_or xs i seen → seen ≡ x
row-at {X} {xs} {now} {x} {seen} i same at is =
    is ∙ ap (λ l. get_or l i seen) same ∙ get_or_from_slice_get now i x seen at

-- and what holds of all holds of it
pub All-at : {X : Type 0} (P : X → Type 0) (xs : List X) (i : ℕ) (x : X) → All P xs → slice_get xs i ≡ Some x → P x
All-at P xs i x all at =
    subst P (get_or_from_slice_get xs i x x at) (All-get_or P xs i x (slice_get_within xs i x at) all)

-- a game at a place, of whose marks none is the handle's
pub unmarked-at : (key : List ℕ) {games now : List Shelved} {marks : List PlayerMarks} {row : Shelved}
    {seen : PlayerMarks} (i : ℕ)
    → games ≡ now → All (λ row. length row.game.names ≤ 4) now → marks ≡ map marks_row games
    → slice_get now i ≡ Some row → seen ≡ get_or marks i seen
    → has_mark (mark key) seen ≡ false → has_player key row.game ≡ false
unmarked-at key {games} {now} {marks} {row} {seen} i same few beside at is none =
    let marked = slice_get-map marks_row now i ∙ ap (option_map marks_row) at in
    unmarked key row.game.names (All-at (λ (row : Shelved). length row.game.names ≤ 4) now i row few at)
    (ap (has_mark (mark key)) (sym (row-at i (beside ∙ ap (map marks_row) same) marked is)) ∙ none)

pub of_both-one : (key : List ℕ) (games : List Shelved) → filter (is_of_both key key) games ≡ of_player key games
of_both-one key [] = refl
of_both-one key (row ∷ games) =
    ap (λ t. cond t (row ∷ filter (is_of_both key key) games) (filter (is_of_both key key) games))
    (and_self (has_player key row.game))
    ∙ ap (λ zs. cond (has_player key row.game) (row ∷ zs) zs) (of_both-one key games)

taken : (row : Shelved) (more rest : List Shelved) (r : Option (Bor Shelved))
    → TakesFirst (λ (row : Bor Shelved). row.now) (row ∷ more) r rest
    → option_copied r ≡ Some row
taken row more rest None takes = (let bad : row ∷ more ≡ [] = takes.0 in cc)
taken row more rest (Some lent) takes = (let same : row ∷ more ≡ lent.now ∷ rest = takes in cc)

-- the first of all that pass is what a search finds
pub first-found : (p : Shelved → Bool) (games rest : List Shelved) (r : Option (Bor Shelved))
    → TakesFirst (λ (row : Bor Shelved). row.now) (filter p games) r rest → option_copied r ≡ find p games
first-found p [] rest None takes = refl
first-found p [] rest (Some lent) takes = (let bad : [] ≡ lent.now ∷ rest = takes in cc)
first-found p (row ∷ games) rest r takes =
    elim (p row)
    as (λ t. TakesFirst (λ (row : Bor Shelved). row.now) (cond t (row ∷ filter p games) (filter p games)) r rest
    → option_copied r ≡ cond t (Some row) (find p games)) [
      | true ↦ λ here. taken row (filter p games) rest r here
      | false ↦ λ later. first-found p games rest r later
    ] takes

-- a game that replays has at most four players
seats_few : (variant : Variant) → seats variant ≤ 4
seats_few Chess = omega arith
seats_few Crazyhouse = omega arith
seats_few Bughouse = omega arith
seats_few (Fischer number) = omega arith

few_players : (game : StoredGame) → Replays game → length game.names ≤ 4
few_players game replays =
    let seated = replays.spelled.players in
    let few = seats_few game.terms.variant in
    omega (arith, seated, few)

pub All-few : (games : List Shelved) → All (λ row. Replays row.game) games
    → All (λ row. length row.game.names ≤ 4) games
All-few games all =
    All-weaker (λ (row : Shelved). Replays row.game) (λ row. length row.game.names ≤ 4)
    (λ row replays. few_players row.game replays) games all
