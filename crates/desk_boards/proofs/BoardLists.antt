-- What a change of one board leaves of the boards.
use Rattle.std.proofs.Common.{◌≡◌, ℕ, ◌≤◌, zero, suc, max, List, [], ◌∷◌, map, All, Option, Some, None, refl, ap, sym, subst, ◌∙◌, arith}
use Rattle.std.specs.Prelude.{slice_get}
use Rattle.std.specs.Option.{option_map}
use Rattle.std.proofs.lemmas.List.Elements.{All-cons, All-drop}
use Rattle.game_board.specs.Board.{Board}
use Rattle.desk_boards.specs.Boards.{latest, set_board, changed_at}

-- a board that stands in a place has what each board has
pub All-at : {X : Type 0} (P : X → Type 0) (xs : List X) (k : ℕ) (x : X) → All P xs → slice_get xs k ≡ Some x → P x
All-at P [] k x h e = absurd cc
All-at P (y ∷ ys) zero x h e = let same : y ≡ x = cc in subst P same (h 0 y (omega arith))
All-at P (y ∷ ys) (suc k) x h e = All-at P ys k x (All-drop P 1 (y ∷ ys) h) e

-- nobody is thinking from a later moment than the latest
pub begin-latest : (boards : List Board) (k : ℕ) (b : Board) → slice_get boards k ≡ Some b → b.begin ≤ latest boards
begin-latest [] k b e = absurd cc
begin-latest (c ∷ boards) zero b e =
    let same : c ≡ b = cc in let begin : c.begin ≡ b.begin = ap (λ (x : Board). x.begin) same in omega arith
begin-latest (c ∷ boards) (suc k) b e = let later = begin-latest boards k b e in omega arith

set_board-cons : (b : Board) (boards : List Board) (k : ℕ) (o : Option Board)
    → set_board (b ∷ boards) (suc k) o ≡ b ∷ set_board boards k o
set_board-cons b boards k None = refl
set_board-cons b boards k (Some c) = refl

changed_at-cons : (b : Board) (boards : List Board) (k : ℕ) (change : Board → Board)
    → changed_at (b ∷ boards) (suc k) change ≡ b ∷ changed_at boards k change
changed_at-cons b boards k change = set_board-cons b boards k (option_map change (slice_get boards k))

-- nobody is thinking from a later moment, where the change leaves none
pub latest-changed_at : (boards : List Board) (k moment : ℕ) (change : Board → Board)
    → ((b : Board) → b.begin ≤ moment → (change b).begin ≤ moment) →
    latest boards ≤ moment → latest (changed_at boards k change) ≤ moment
latest-changed_at [] k moment change early h = h
latest-changed_at (b ∷ boards) zero moment change early h =
    let changed : (change b).begin ≤ moment = early b (omega arith) in
    omega arith
latest-changed_at (b ∷ boards) (suc k) moment change early h =
    let rest : latest (changed_at boards k change) ≤ moment =
    latest-changed_at boards k moment change early (omega arith) in
    let same : latest (changed_at (b ∷ boards) (suc k) change) ≡ max b.begin (latest (changed_at boards k change)) =
    ap latest (changed_at-cons b boards k change) in
    omega arith

-- the boards have what the change keeps of each, as their numbers
pub map-changed_at : {X : Type 0} (of : Board → X) (boards : List Board) (k : ℕ) (change : Board → Board)
    → ((b : Board) → of (change b) ≡ of b) →
    map of (changed_at boards k change) ≡ map of boards
map-changed_at of [] k change same = refl
map-changed_at of (b ∷ boards) zero change same = ap (λ x. x ∷ map of boards) (same b)
map-changed_at of (b ∷ boards) (suc k) change same =
    ap (map of) (changed_at-cons b boards k change)
    ∙ ap (λ xs. of b ∷ xs) (map-changed_at of boards k change same)

-- and what each board had, where the change keeps it
pub All-changed_at : (P : Board → Type 0) (boards : List Board) (k : ℕ) (change : Board → Board) →
    ((b : Board) → slice_get boards k ≡ Some b → P b → P (change b)) → All P boards → All P (changed_at boards k change)
All-changed_at P [] k change step h = h
All-changed_at P (b ∷ boards) zero change step h =
    All-cons P (change b) boards (step b refl (h 0 b (omega arith))) (All-drop P 1 (b ∷ boards) h)
All-changed_at P (b ∷ boards) (suc k) change step h =
    subst (All P) (sym (changed_at-cons b boards k change))
    (All-cons P b (changed_at boards k change) (h 0 b (omega arith))
    (All-changed_at P boards k change step (All-drop P 1 (b ∷ boards) h)))

-- and all of them where the change changes nothing
pub nothing-changed_at : (boards : List Board) (k : ℕ) → changed_at boards k (λ b. b) ≡ boards
nothing-changed_at [] k = refl
nothing-changed_at (b ∷ boards) zero = refl
nothing-changed_at (b ∷ boards) (suc k) =
    changed_at-cons b boards k (λ c. c) ∙ ap (λ (bs : List Board). b ∷ bs) (nothing-changed_at boards k)
