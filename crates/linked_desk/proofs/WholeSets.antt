-- The men of a game are whole, since the list of each board is legal, and the boards of a pair have one list.
use Rattle.std.proofs.Common.{◌≡◌, ℕ, ◌+◌, ◌*◌, ◌≤◌, List, [], ◌∷◌, map, All, Option, Some, None, IfSome, refl, sym, ap, subst, arith}
use Rattle.std.proofs.lemmas.List.Elements.{All-nil, All-cons, All-head, All-tail, All-weaker}
use Rattle.chess_model.specs.declared.man.Colour.{Colour}
use Rattle.chess_model.specs.declared.man.Colour.TheVariants.{White, Black}
use Rattle.chess_model.specs.declared.man.Kind.{Kind}
use Rattle.chess_model.specs.declared.man.Kind.TheVariants.{Pawn, Knight, Bishop, Rook, Queen, King}
use Rattle.chess_model.specs.declared.variant.Terms.{Terms}
use Rattle.chess_model.specs.declared.variant.Variant.{Variant}
use Rattle.chess_model.specs.declared.variant.Variant.TheVariants.{Chess, Crazyhouse, Bughouse, Fischer}
use Rattle.chess_model.specs.Allowed.{HasDrops, IsLegal}
use Rattle.chess_model.specs.Census.{men_of, one_set}
use Rattle.chess_model.specs.Holdings.{count_in}
use Rattle.chess_model.specs.MoveList.{HalfMove}
use Rattle.chess_model.specs.Position.{Position, position_after, hand_of_side}
use Rattle.chess_model.proofs.Censuses.{census_kept}
use Rattle.game_board.specs.Board.{Board, position_of}
use Rattle.game_board.specs.Scoresheet.{IsTrueScore}
use Rattle.game_board.proofs.PairHands.{few_in_hand, most_in_two_sets}
use Rattle.desk_boards.specs.Boards.{board_numbers}
use Rattle.linked_desk.specs.Desk.{GameState, DeskState}
use Rattle.desk_boards.specs.Sound.{AreSame}
use Rattle.linked_desk.specs.Sound.{IsSoundGame, HasSoundGame}
use Rattle.linked_desk.specs.WholeSets.{AreWhole, HasOneSet, HasTwoSets, HaveTwoSets, HasWholeSets, HasPrintedHands, AllAt}
use Rattle.desk_boards.proofs.Pairs.{never_three, numbers_of_two}

one_set_on : (b : Board) → ¬ HasDrops b.terms.variant → IsTrueScore b → HasOneSet b
unfolding position_of
one_set_on b none s = λ c k. census_kept.chess b.terms.variant b.all b.number c k none s.legal

one_set_of : (v : Variant) (b : Board) → ¬ HasDrops v → b.terms.variant ≡ v → IsTrueScore b → HasOneSet b
one_set_of v b none e s = one_set_on b (subst (λ (w : Variant). ¬ HasDrops w) (sym e) none) s

two_sets_on : (b : Board) → b.terms.variant ≡ Crazyhouse → IsTrueScore b → HasTwoSets b
unfolding position_of
two_sets_on b e s = λ k.
    subst (λ (v : Variant).
    men_of White k (position_after v b.all b.number).men + men_of Black k (position_after v b.all b.number).men
    + (count_in (position_after v b.all b.number).white k + count_in (position_after v b.all b.number).black k)
    ≡ 2 * one_set k)
    (sym e)
    (census_kept.crazyhouse b.all b.number k (subst (λ (v : Variant). IsLegal v b.all) e s.legal))

-- of a pair, by its one list
pair_sets : (T : List HalfMove) → IsLegal Bughouse T → (c : Colour) (k : Kind) →
    men_of c k (position_after Bughouse T 1).men + men_of c k (position_after Bughouse T 2).men
    + (count_in (hand_of_side (position_after Bughouse T 1) c) k
    + count_in (hand_of_side (position_after Bughouse T 2) c) k)
    ≡ 2 * one_set k
pair_sets T legal White k = census_kept.pair T White k legal
pair_sets T legal Black k = census_kept.pair T Black k legal

position_is : (b : Board) (T : List HalfMove) (n : ℕ) → b.terms.variant ≡ Bughouse → b.all ≡ T → b.number ≡ n
    → position_of b ≡ position_after Bughouse T n
unfolding position_of
position_is b T n variant all number = λ i. position_after (variant i) (all i) (number i)

two_sets_of : (b c : Board) → b.terms.variant ≡ Bughouse → c.terms.variant ≡ Bughouse → b.number ≡ 1 → c.number ≡ 2
    → c.all ≡ b.all → IsTrueScore b →
    HaveTwoSets (position_of b) (position_of c)
two_sets_of b c first second one two all s =
    subst (λ (p : Position). HaveTwoSets p (position_of c)) (sym (position_is b b.all 1 first refl one))
    (subst (λ (q : Position). HaveTwoSets (position_after Bughouse b.all 1) q)
    (sym (position_is c b.all 2 second all two))
    (pair_sets b.all (subst (λ (v : Variant). IsLegal v b.all) first s.legal)))

whole_boards : (v : Variant) (boards : List Board) → map (λ (b : Board). b.number) boards ≡ board_numbers v
    → All (λ (b : Board). b.terms.variant ≡ v) boards → All IsTrueScore boards →
    AreSame (map (λ (b : Board). b.all) boards) → AreWhole v boards
whole_boards Chess boards numbers terms scores same = λ k d within.
    one_set_of Chess _ (λ drops. drops) (terms k d within) (scores k d within)
whole_boards (Fischer number) boards numbers terms scores same =
    λ k d within. one_set_of (Fischer number) _ (λ drops. drops) (terms k d within) (scores k d within)
whole_boards Crazyhouse boards numbers terms scores same = λ k d within.
    two_sets_on _ (terms k d within) (scores k d within)
whole_boards Bughouse [] numbers terms scores same = absurd cc
whole_boards Bughouse (b ∷ []) numbers terms scores same = absurd cc
whole_boards Bughouse (b ∷ c ∷ []) numbers terms scores same =
    let P : Board → Type 0 = λ x. x.terms.variant ≡ Bughouse in
    let two = numbers_of_two Bughouse b c numbers in
    two_sets_of b c (All-head P b (c ∷ []) terms) (All-head P c [] (All-tail P b (c ∷ []) terms)) two.1 two.2
    (All-head (λ (T : List HalfMove). T ≡ b.all) c.all [] same) (All-head IsTrueScore b (c ∷ []) scores)
whole_boards Bughouse (b ∷ c ∷ d ∷ more) numbers terms scores same = absurd (never_three Bughouse b c d more numbers)

empty_in_chess : (T : List HalfMove) (b : ℕ) (c : Colour) (k : Kind)
    → count_in (hand_of_side (position_after Chess T b) c) k ≤ 16
empty_in_chess T b White Pawn = omega arith
empty_in_chess T b White Knight = omega arith
empty_in_chess T b White Bishop = omega arith
empty_in_chess T b White Rook = omega arith
empty_in_chess T b White Queen = omega arith
empty_in_chess T b White King = omega arith
empty_in_chess T b Black Pawn = omega arith
empty_in_chess T b Black Knight = omega arith
empty_in_chess T b Black Bishop = omega arith
empty_in_chess T b Black Rook = omega arith
empty_in_chess T b Black Queen = omega arith
empty_in_chess T b Black King = omega arith

empty_in_fischer : (number : ℕ) (T : List HalfMove) (b : ℕ) (c : Colour) (k : Kind)
    → count_in (hand_of_side (position_after (Fischer number) T b) c) k ≤ 16
empty_in_fischer number T b White Pawn = omega arith
empty_in_fischer number T b White Knight = omega arith
empty_in_fischer number T b White Bishop = omega arith
empty_in_fischer number T b White Rook = omega arith
empty_in_fischer number T b White Queen = omega arith
empty_in_fischer number T b White King = omega arith
empty_in_fischer number T b Black Pawn = omega arith
empty_in_fischer number T b Black Knight = omega arith
empty_in_fischer number T b Black Bishop = omega arith
empty_in_fischer number T b Black Rook = omega arith
empty_in_fischer number T b Black Queen = omega arith
empty_in_fischer number T b Black King = omega arith

few_in_crazyhouse : (T : List HalfMove) (b : ℕ) → IsLegal Crazyhouse T → (c : Colour) (k : Kind) →
    count_in (hand_of_side (position_after Crazyhouse T b) c) k ≤ 16
few_in_crazyhouse T b legal White k = omega (arith, census_kept.crazyhouse T b k legal, most_in_two_sets k)
few_in_crazyhouse T b legal Black k = omega (arith, census_kept.crazyhouse T b k legal, most_in_two_sets k)

few_in_pair : (T : List HalfMove) (b : ℕ) → 1 ≤ b → b ≤ 2 → IsLegal Bughouse T → (c : Colour) (k : Kind)
    → count_in (hand_of_side (position_after Bughouse T b) c) k ≤ 16
few_in_pair T b low high legal White k = few_in_hand T b White k low high legal
few_in_pair T b low high legal Black k = few_in_hand T b Black k low high legal

few_after : (v : Variant) (T : List HalfMove) (b : ℕ) → 1 ≤ b → b ≤ 2 → IsLegal v T → (c : Colour) (k : Kind)
    → count_in (hand_of_side (position_after v T b) c) k ≤ 16
few_after Chess T b low high legal c k = empty_in_chess T b c k
few_after (Fischer number) T b low high legal c k = empty_in_fischer number T b c k
few_after Crazyhouse T b low high legal c k = few_in_crazyhouse T b legal c k
few_after Bughouse T b low high legal c k = few_in_pair T b low high legal c k

printed_on : (b : Board) → 1 ≤ b.number → b.number ≤ 2 → IsTrueScore b → HasPrintedHands b
unfolding position_of
printed_on b low high s = few_after b.terms.variant b.all b.number low high s.legal

printed_one : (b : Board) → b.number ≡ 1 → All IsTrueScore (b ∷ []) → All HasPrintedHands (b ∷ [])
printed_one b one scores =
    All-cons HasPrintedHands b []
    (printed_on b (omega (arith, one)) (omega (arith, one)) (All-head IsTrueScore b [] scores))
    (All-nil HasPrintedHands)

number_of_one : (v : Variant) (b : Board) → map (λ (x : Board). x.number) (b ∷ []) ≡ board_numbers v → b.number ≡ 1
number_of_one Chess b e = cc
number_of_one Crazyhouse b e = cc
number_of_one (Fischer number) b e = cc
number_of_one Bughouse b e = absurd cc

printed_boards : (v : Variant) (boards : List Board) → map (λ (b : Board). b.number) boards ≡ board_numbers v
    → All IsTrueScore boards → All HasPrintedHands boards
printed_boards v [] numbers scores = All-nil HasPrintedHands
printed_boards v (b ∷ []) numbers scores = printed_one b (number_of_one v b numbers) scores
printed_boards v (b ∷ c ∷ []) numbers scores =
    let two = numbers_of_two v b c numbers in
    let last : All IsTrueScore (c ∷ []) = All-tail IsTrueScore b (c ∷ []) scores in
    All-cons HasPrintedHands b (c ∷ [])
    (printed_on b (omega (arith, two.1)) (omega (arith, two.1)) (All-head IsTrueScore b (c ∷ []) scores))
    (All-cons HasPrintedHands c []
    (printed_on c (omega (arith, two.2)) (omega (arith, two.2)) (All-head IsTrueScore c [] last))
    (All-nil HasPrintedHands))
printed_boards v (b ∷ c ∷ d ∷ more) numbers scores = absurd (never_three v b c d more numbers)

whole_game : (game : Option GameState) → IfSome game IsSoundGame
    → IfSome game (λ (g : GameState). AreWhole g.terms.variant g.boards)
whole_game None s = tt
whole_game (Some g) s =
    whole_boards g.terms.variant g.boards s.boards.numbers
    (All-weaker (λ (b : Board). b.terms ≡ g.terms) (λ (b : Board). b.terms.variant ≡ g.terms.variant)
    (λ b e. ap (λ (t : Terms). t.variant) e) g.boards s.boards.terms)
    s.boards.scores s.boards.together

pub whole_at : (d : DeskState) → HasSoundGame d → HasWholeSets d
whole_at d s = whole_game d.game s

printed_game : (number : ℕ) (game : Option GameState) → IfSome game IsSoundGame
    → AllAt HasPrintedHands (record { number = number; game = game })
printed_game number None s = All-nil HasPrintedHands
printed_game number (Some g) s = printed_boards g.terms.variant g.boards s.boards.numbers s.boards.scores

pub printed_at : (d : DeskState) → HasSoundGame d → AllAt HasPrintedHands d
printed_at d s = printed_game d.number d.game s
