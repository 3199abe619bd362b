-- The boards of a game after one half-move more at one of them, of which the other one has learnt.
use Rattle.std.proofs.Common.{◌≡◌, ◌≤◌, List, [], ◌∷◌, ◌++◌, map, All, Some, sym, ap, subst, ◌∙◌, arith}
use Rattle.std.specs.Prelude.{slice_get}
use Rattle.std.specs.List.{AllByRecursion}
use Rattle.std.proofs.lemmas.List.Elements.{All-nil, All-cons, All-head, All-tail}
use Rattle.chess_model.specs.declared.moves.Move.{Move}
use Rattle.chess_model.specs.declared.variant.Terms.{Terms}
use Rattle.chess_model.specs.declared.variant.Variant.TheVariants.{Bughouse}
use Rattle.chess_model.specs.Allowed.{Allowed}
use Rattle.chess_model.specs.Holdings.{other_board}
use Rattle.chess_model.specs.MoveList.{HalfMove, moves_of, on}
use Rattle.game_board.specs.declared.played.Played.{Played}
use Rattle.game_board.specs.Board.{Board, position_of}
use Rattle.game_board.specs.Learn.{learnt}
use Rattle.game_board.specs.Scoresheet.{IsTrueScore}
use Rattle.game_board.proofs.Scoresheet.{IsTrueScore-learnt}
use Rattle.game_records.specs.declared.stored_game.Half.{Half}
use Rattle.game_records.specs.Bounds.{IsHalf}
use Rattle.game_records.specs.Replays.{CanBePlayed, GoesOn}
use Rattle.fics_words.specs.Boards.{other_number, board_place}
use Rattle.desk_boards.specs.Boards.{board_numbers, changed_at}
use Rattle.fics_words.specs.declared.board_number.BoardNumber.{BoardNumber}
use Rattle.fics_words.specs.declared.board_number.BoardNumber.TheVariants.{First, Second}
use Rattle.desk_boards.specs.Halves.{halves_from, halves_of}
use Rattle.desk_boards.specs.Sound.{AreSame, AreSoundBoards}
use Rattle.desk_boards.proofs.Halved.{half_on, halves_from-one, halves_from-two}
use Rattle.desk_boards.proofs.OneMore.{IsOneMore, MayGrow, may_grow}
use Rattle.desk_boards.proofs.Pairs.{allowed_there, never_three, numbers_of_two, same_two}
use Rattle.desk_boards.proofs.SoundHalves.{never_none, number_of_one, on_two, own_at}
use Rattle.std.proofs.lemmas.Option.{same_Some}

-- the boards with a change of one of them, of which the other one learns that it was this half-move
abbrev pub stepped : List Board → BoardNumber → (Board → Board) → Move → List Board
stepped boards board change m =
    changed_at (changed_at boards (board_place board) change) (board_place (other_number board)) (λ b. learnt b m)

-- sound boards that have these half-moves
pub record AreSoundWith (t : Terms) (halves : List Half) (boards : List Board) : Type 0 where
  pub sound : AreSoundBoards t boards
  pub made : halves_of boards ≡ halves

-- what is on the boards may be said of the half-moves that they have
with_halves : (t : Terms) (halves : List Half) (boards : List Board)
    → map (λ (b : Board). b.number) boards ≡ board_numbers t.variant → All (λ (b : Board). b.terms ≡ t) boards →
    All IsTrueScore boards → All (λ (b : Board). b.played ≤ 1200) boards → AreSame (map (λ (b : Board). b.all) boards)
    → halves_of boards ≡ halves →
    AllByRecursion (IsHalf t.variant) halves → CanBePlayed t halves → AreSoundWith t halves boards
with_halves t halves boards numbers terms scores few together same each played = record {
  sound = record {
    numbers = numbers;
    terms = terms;
    scores = scores;
    few = few;
    together = together;
    halves = subst (AllByRecursion (IsHalf t.variant)) (sym same) each;
    played = subst (CanBePlayed t) (sym same) played;
  };
  made = same;
}

one_alone : (b c : Board) → c.number ≡ b.number
    → map (λ (x : Board). x.number) (c ∷ []) ≡ map (λ (x : Board). x.number) (b ∷ [])
one_alone b c e = ap (λ n. n ∷ []) e

-- the one board of a game
step_alone : (t : Terms) (b new : Board) (p : Played) → AreSoundBoards t (b ∷ []) → IsOneMore b p new
    → MayGrow t (halves_of (b ∷ [])) (half_on b.number p) →
    AreSoundWith t (halves_of (b ∷ []) ++ half_on b.number p ∷ []) (new ∷ [])
step_alone t b new p s more grows =
    let one = (number_of_one t.variant b s.numbers).1 in
    let own = own_at 1 b (All-head IsTrueScore b [] s.scores) one in
    let terms : new.terms ≡ t = more.terms ∙ All-head (λ (x : Board). x.terms ≡ t) b [] s.terms in
    let halves : halves_of (new ∷ []) ≡ halves_of (b ∷ []) ++ half_on b.number p ∷ [] =
    (λ i. halves_from (more.list i) [] (more.all i))
    ∙ (λ i. halves_from (b.list ++ p ∷ []) [] (b.all ++ on (one i) p.what ∷ []))
    ∙ halves_from-one b.list [] b.all p own
    ∙ (λ i. halves_from b.list [] b.all ++ half_on (sym one i) p ∷ []) in
    with_halves t (halves_of (b ∷ []) ++ half_on b.number p ∷ []) (new ∷ []) (one_alone b new more.number ∙ s.numbers)
    (All-cons (λ (x : Board). x.terms ≡ t) new [] terms (All-nil (λ (x : Board). x.terms ≡ t)))
    (All-cons IsTrueScore new [] more.score (All-nil IsTrueScore))
    (All-cons (λ (x : Board). x.played ≤ 1200) new [] more.few (All-nil (λ (x : Board). x.played ≤ 1200)))
    (All-nil (λ (T : List HalfMove). T ≡ new.all)) halves grows.each grows.played

-- what both boards of a pair have, the two of them have
both : (P : Board → Type 0) (b c : Board) → P b → P c → All P (b ∷ c ∷ [])
both P b c x y = All-cons P b (c ∷ []) x (All-cons P c [] y (All-nil P))

-- what the other board learns was allowed where it was made
told_score : (t : Terms) (own other : Board) (m : Move) → t.variant ≡ Bughouse → own.terms ≡ t → other.terms ≡ t
    → own.all ≡ other.all → own.number ≡ other_board other.number →
    Allowed (position_of own) m → IsTrueScore other → IsTrueScore (learnt other m)
told_score t own other m pair here there all number allowed score =
    IsTrueScore-learnt other m (ap (λ (x : Terms). x.variant) there ∙ pair) score
    (allowed_there own other m (here ∙ sym there) all number allowed)

-- the first board of a pair
step_first : (t : Terms) (b c new : Board) (p : Played) → AreSoundBoards t (b ∷ c ∷ []) → IsOneMore b p new
    → MayGrow t (halves_of (b ∷ c ∷ [])) (half_on b.number p) →
    AreSoundWith t (halves_of (b ∷ c ∷ []) ++ half_on b.number p ∷ []) (new ∷ learnt c p.what ∷ [])
step_first t b c new p s more grows =
    let two = numbers_of_two t.variant b c s.numbers in
    let first = All-head (λ (x : Board). x.terms ≡ t) b (c ∷ []) s.terms in
    let second =
    All-head (λ (x : Board). x.terms ≡ t) c [] (All-tail (λ (x : Board). x.terms ≡ t) b (c ∷ []) s.terms) in
    let same : c.all ≡ b.all = All-head (λ (T : List HalfMove). T ≡ b.all) c.all [] s.together in
    let own = own_at 1 b (All-head IsTrueScore b (c ∷ []) s.scores) two.1 in
    let halves : halves_of (new ∷ learnt c p.what ∷ []) ≡ halves_of (b ∷ c ∷ []) ++ half_on b.number p ∷ [] =
    (λ i. halves_from (more.list i) c.list (more.all i))
    ∙ (λ i. halves_from (b.list ++ p ∷ []) c.list (b.all ++ on (two.1 i) p.what ∷ []))
    ∙ halves_from-one b.list c.list b.all p own
    ∙ (λ i. halves_from b.list c.list b.all ++ half_on (sym two.1 i) p ∷ []) in
    let number : other_board c.number ≡ b.number = omega (arith, two.1, two.2) in
    let together : AreSame
    ((b.all ++ on b.number p.what ∷ []) ∷ (c.all ++ on (other_board c.number) p.what ∷ []) ∷ []) =
    same_two b.all c.all p.what b.number (other_board c.number) s.together number in
    with_halves t (halves_of (b ∷ c ∷ []) ++ half_on b.number p ∷ []) (new ∷ learnt c p.what ∷ [])
    (ap (λ n. n ∷ c.number ∷ []) more.number ∙ s.numbers)
    (both (λ (x : Board). x.terms ≡ t) new (learnt c p.what) (more.terms ∙ first) second)
    (both IsTrueScore new (learnt c p.what) more.score
    (told_score t b c p.what two.0 first second (sym same) (sym number) more.allowed
    (All-head IsTrueScore c [] (All-tail IsTrueScore b (c ∷ []) s.scores))))
    (both (λ (x : Board). x.played ≤ 1200) new (learnt c p.what) more.few
    (All-head (λ (x : Board). x.played ≤ 1200) c [] (All-tail (λ (x : Board). x.played ≤ 1200) b (c ∷ []) s.few)))
    (subst (λ (T : List HalfMove). AreSame (T ∷ (c.all ++ on (other_board c.number) p.what ∷ []) ∷ [])) (sym more.all)
    together)
    halves grows.each grows.played

-- and the second one
step_second : (t : Terms) (b c new : Board) (p : Played) → AreSoundBoards t (b ∷ c ∷ []) → IsOneMore c p new
    → MayGrow t (halves_of (b ∷ c ∷ [])) (half_on c.number p) →
    AreSoundWith t (halves_of (b ∷ c ∷ []) ++ half_on c.number p ∷ []) (learnt b p.what ∷ new ∷ [])
step_second t b c new p s more grows =
    let two = numbers_of_two t.variant b c s.numbers in
    let first = All-head (λ (x : Board). x.terms ≡ t) b (c ∷ []) s.terms in
    let second =
    All-head (λ (x : Board). x.terms ≡ t) c [] (All-tail (λ (x : Board). x.terms ≡ t) b (c ∷ []) s.terms) in
    let same : c.all ≡ b.all = All-head (λ (T : List HalfMove). T ≡ b.all) c.all [] s.together in
    let own : moves_of 2 b.all ≡ map (λ (q : Played). q.what) c.list =
    ap (moves_of 2) (sym same)
    ∙ own_at 2 c (All-head IsTrueScore c [] (All-tail IsTrueScore b (c ∷ []) s.scores)) two.2 in
    let number : other_board b.number ≡ c.number = omega (arith, two.1, two.2) in
    let two_is : other_board b.number ≡ 2 = omega (arith, two.1) in
    let halves : halves_of (learnt b p.what ∷ new ∷ []) ≡ halves_of (b ∷ c ∷ []) ++ half_on c.number p ∷ [] =
    (λ i. halves_from b.list (more.list i) (b.all ++ on (two_is i) p.what ∷ []))
    ∙ halves_from-two b.list c.list b.all p (on_two t.variant b.list c.list b.all s.halves) own
    ∙ (λ i. halves_from b.list c.list b.all ++ half_on (sym two.2 i) p ∷ []) in
    let together : AreSame
    ((b.all ++ on (other_board b.number) p.what ∷ []) ∷ (c.all ++ on c.number p.what ∷ []) ∷ []) =
    same_two b.all c.all p.what (other_board b.number) c.number s.together (sym number) in
    with_halves t (halves_of (b ∷ c ∷ []) ++ half_on c.number p ∷ []) (learnt b p.what ∷ new ∷ [])
    (ap (λ n. b.number ∷ n ∷ []) more.number ∙ s.numbers)
    (both (λ (x : Board). x.terms ≡ t) (learnt b p.what) new first (more.terms ∙ second))
    (both IsTrueScore (learnt b p.what) new
    (told_score t c b p.what two.0 second first same (sym number) more.allowed
    (All-head IsTrueScore b (c ∷ []) s.scores))
    more.score)
    (both (λ (x : Board). x.played ≤ 1200) (learnt b p.what) new
    (All-head (λ (x : Board). x.played ≤ 1200) b (c ∷ []) s.few) more.few)
    (subst (λ (T : List HalfMove). AreSame ((b.all ++ on (other_board b.number) p.what ∷ []) ∷ T ∷ [])) (sym more.all)
    together)
    halves grows.each grows.played

-- sound boards stay sound by one half-move more, and have it behind the others
pub sound_step : (t : Terms) (boards : List Board) (board : BoardNumber) (own : Board) (p : Played)
    (change : Board → Board)
    → AreSoundBoards t boards →
    slice_get boards (board_place board) ≡ Some own → IsOneMore own p (change own) →
    ((other : Board) → slice_get boards (board_place (other_number board)) ≡ Some other → GoesOn (position_of other)) →
    AreSoundWith t (halves_of boards ++ half_on own.number p ∷ []) (stepped boards board change p.what)
sound_step t [] board own p change s there more goes = absurd (never_none t.variant s.numbers)
sound_step t (b ∷ []) First own p change s there more goes =
    let grows = may_grow t (b ∷ []) First own (change own) p s there more goes in
    let P : Board → Type 0 = λ x. IsOneMore x p (change x) → MayGrow t (halves_of (b ∷ [])) (half_on x.number p) →
    AreSoundWith t (halves_of (b ∷ []) ++ half_on x.number p ∷ []) (change b ∷ []) in
    subst P (same_Some b own there) (λ m g. step_alone t b (change b) p s m g) more grows
sound_step t (b ∷ []) Second own p change s there more goes = absurd cc
sound_step t (b ∷ c ∷ []) First own p change s there more goes =
    let grows = may_grow t (b ∷ c ∷ []) First own (change own) p s there more goes in
    let P : Board → Type 0 = λ x. IsOneMore x p (change x) → MayGrow t (halves_of (b ∷ c ∷ [])) (half_on x.number p) →
    AreSoundWith t (halves_of (b ∷ c ∷ []) ++ half_on x.number p ∷ []) (change b ∷ learnt c p.what ∷ []) in
    subst P (same_Some b own there) (λ m g. step_first t b c (change b) p s m g) more grows
sound_step t (b ∷ c ∷ []) Second own p change s there more goes =
    let grows = may_grow t (b ∷ c ∷ []) Second own (change own) p s there more goes in
    let P : Board → Type 0 = λ x. IsOneMore x p (change x) → MayGrow t (halves_of (b ∷ c ∷ [])) (half_on x.number p) →
    AreSoundWith t (halves_of (b ∷ c ∷ []) ++ half_on x.number p ∷ []) (learnt b p.what ∷ change c ∷ []) in
    subst P (same_Some c own there) (λ m g. step_second t b c (change c) p s m g) more grows
sound_step t (b ∷ c ∷ d ∷ more) board own p change s there new goes =
    absurd (never_three t.variant b c d more s.numbers)
