-- Boards from which half-moves were taken back are sound, and none of them is at an end.
use Rattle.std.proofs.Common.{◌≡◌, ◌≢◌, ℕ, ◌-◌, ◌≤◌, ◌<◌, zero, suc, Bool, true, false, if◌then◌else◌, List, [], ◌∷◌, ◌++◌, map, length, drop, take, refl, sym, ap, subst, ◌∙◌, append_assoc, arith}
use Rattle.std.specs.List.{AllByRecursion}
use Rattle.std.proofs.lemmas.List.{length-map, map-append, take-map}
use Rattle.std.proofs.lemmas.List.Elements.{All-nil, All-cons, All-head}
use Rattle.chess_model.specs.declared.variant.Terms.{Terms}
use Rattle.chess_model.specs.declared.variant.Variant.{Variant}
use Rattle.chess_model.specs.declared.variant.Variant.TheVariants.{Chess, Crazyhouse, Bughouse, Fischer}
use Rattle.chess_model.specs.MoveList.{HalfMove}
use Rattle.game_board.specs.declared.played.Played.{Played}
use Rattle.game_board.specs.Board.{Board, half_moves, position_of}
use Rattle.game_board.specs.Scoresheet.{IsTrueScore}
use Rattle.game_board.specs.TakeBack.{has_too_few, take_back_after, board_taken_back}
use Rattle.game_board.proofs.ScoreTakenBack.{IsTrueScore-take_back_after, take_and_drop, enough_some, enough_within}
use Rattle.game_records.specs.declared.stored_game.Half.{Half}
use Rattle.game_records.specs.Bounds.{IsHalf}
use Rattle.game_records.specs.Replays as replays
use Rattle.game_records.specs.Replays.{CanBePlayed, GoesOn, MayCome, position_on}
use Rattle.desk_boards.specs.Boards.{latest}
use Rattle.desk_boards.specs.Halves.{halves_from, halves_of}
use Rattle.desk_boards.specs.Sound.{AreSoundBoards, GoOn}
use Rattle.desk_boards.specs.TakenBack.{back_by, boards_taken_back}
use Rattle.desk_boards.proofs.Halved.{half_on}
use Rattle.desk_boards.proofs.OneMore.{position_is}
use Rattle.desk_boards.proofs.Pairs.{never_three, numbers_of_two}
use Rattle.desk_boards.proofs.SoundHalves.{all_of, number_of_one}

-- ---- the half-moves of the one board of a game are those of its list

halves_alone : (list : List Played) → halves_from list [] (half_moves 1 list) ≡ map (half_on 1) list
halves_alone [] = refl
halves_alone (p ∷ list) = ap (λ (halves : List Half). half_on 1 p ∷ halves) (halves_alone list)

halves_of-one : (b : Board) → IsTrueScore b → b.terms.variant ≢ Bughouse → b.number ≡ 1
    → halves_of (b ∷ []) ≡ map (half_on 1) b.list
halves_of-one b score single one =
    ap (halves_from b.list []) (score.alone single ∙ ap (λ (n : ℕ). half_moves n b.list) one) ∙ halves_alone b.list

-- ---- the first half-moves of a list

each-take : {X : Type 0} (P : X → Type 0) (n : ℕ) (xs : List X) → AllByRecursion P xs → AllByRecursion P (take n xs)
each-take P zero xs h = tt
each-take P (suc n) [] h = tt
each-take P (suc n) (x ∷ xs) h = (h.0, each-take P n xs h.1)

-- the half-move behind the first so many
next_of : {X : Type 0} (n : ℕ) (xs : List X) → n < length xs → (x : X) × (more : List X) × (xs ≡ take n xs ++ x ∷ more)
next_of n [] less = absurd (omega (arith, less))
next_of zero (x ∷ xs) less = (x, xs, refl)
next_of (suc n) (x ∷ xs) less =
    let rest = next_of n xs (omega (arith, less)) in
    (rest.0, rest.1, ap (λ ys. x ∷ ys) rest.2)

-- half-moves that can be played can be played without the last ones
pub played_before : (t : Terms) (n : ℕ) (halves : List Half) → CanBePlayed t halves → CanBePlayed t (take n halves)
played_before t n halves played = record {
  each = λ before after h e.
      played.each before (after ++ drop n halves) h
      (sym (take_and_drop n halves) ∙ ap (λ (hs : List Half). hs ++ drop n halves) e
      ∙ append_assoc before (h ∷ after) (drop n halves));
}

-- ---- what a board and the board with half-moves taken back have alike

back_single : (v : Variant) (b : Board) (n moment : ℕ) → v ≢ Bughouse
    → back_by v b n moment ≡ take_back_after b n moment
back_single Chess b n moment single = refl
back_single Crazyhouse b n moment single = refl
back_single (Fischer number) b n moment single = refl
back_single Bughouse b n moment single = absurd (single refl)

pub back_pair : (v : Variant) (b : Board) (n moment : ℕ) → v ≡ Bughouse → back_by v b n moment ≡ b
back_pair v b n moment e = ap (λ (w : Variant). back_by w b n moment) e

-- ---- one board

-- the one board of a game with no more than the first half-moves of another one, which is sound
record IsCut (t : Terms) (b c : Board) : Type 0 where
  left : ℕ
  number : c.number ≡ b.number
  terms : c.terms ≡ b.terms
  list : c.list ≡ take left b.list
  played : c.played ≡ b.played
  score : IsTrueScore c

sound_cut : (t : Terms) (b c : Board) → AreSoundBoards t (b ∷ []) → IsCut t b c → AreSoundBoards t (c ∷ [])
sound_cut t b c s cut =
    let one = number_of_one t.variant b s.numbers in
    let terms : b.terms ≡ t = All-head (λ (x : Board). x.terms ≡ t) b [] s.terms in
    let single : b.terms.variant ≢ Bughouse = λ e. one.0 (sym (ap (λ (x : Terms). x.variant) terms) ∙ e) in
    let before = halves_of-one b (All-head IsTrueScore b [] s.scores) single one.1 in
    let halves : halves_of (c ∷ []) ≡ take cut.left (halves_of (b ∷ [])) =
    halves_of-one c cut.score (λ e. single (sym (ap (λ (x : Terms). x.variant) cut.terms) ∙ e)) (cut.number ∙ one.1)
    ∙ ap (map (half_on 1)) cut.list ∙ sym (take-map (half_on 1) cut.left b.list) ∙ ap (take cut.left) (sym before) in
    record {
      numbers = ap (λ n. n ∷ []) cut.number ∙ s.numbers;
      terms = All-cons (λ (x : Board). x.terms ≡ t) c [] (cut.terms ∙ terms) (All-nil (λ (x : Board). x.terms ≡ t));
      scores = All-cons IsTrueScore c [] cut.score (All-nil IsTrueScore);
      few = All-cons (λ (x : Board). x.played ≤ 1200) c []
          (let few =
          All-head (λ (x : Board). x.played ≤ 1200) b [] s.few in let same = cut.played in omega (arith, few, same))
          (All-nil (λ (x : Board). x.played ≤ 1200));
      together = All-nil (λ (T : List HalfMove). T ≡ c.all);
      halves =
          subst (AllByRecursion (IsHalf t.variant)) (sym halves)
          (each-take (IsHalf t.variant) cut.left (halves_of (b ∷ [])) s.halves);
      played = subst (CanBePlayed t) (sym halves) (played_before t cut.left (halves_of (b ∷ [])) s.played);
    }

-- it goes on where it lacks a half-move that came next
goes_cut : (t : Terms) (b c : Board) → AreSoundBoards t (b ∷ []) → (cut : IsCut t b c) → cut.left < length b.list
    → GoesOn (position_of c)
goes_cut t b c s cut less =
    let one = number_of_one t.variant b s.numbers in
    let terms : b.terms ≡ t = All-head (λ (x : Board). x.terms ≡ t) b [] s.terms in
    let single : b.terms.variant ≢ Bughouse = λ e. one.0 (sym (ap (λ (x : Terms). x.variant) terms) ∙ e) in
    let before = halves_of-one b (All-head IsTrueScore b [] s.scores) single one.1 in
    let halves : halves_of (c ∷ []) ≡ take cut.left (map (half_on 1) b.list) =
    halves_of-one c cut.score (λ e. single (sym (ap (λ (x : Terms). x.variant) cut.terms) ∙ e)) (cut.number ∙ one.1)
    ∙ ap (map (half_on 1)) cut.list ∙ sym (take-map (half_on 1) cut.left b.list) in
    let many = length-map b.list (half_on 1) in
    let next = next_of cut.left b.list less in
    let split : map (half_on 1) b.list
    ≡ take cut.left (map (half_on 1) b.list) ++ half_on 1 next.0 ∷ map (half_on 1) next.1 =
    ap (map (half_on 1)) next.2 ∙ map-append (half_on 1) (take cut.left b.list) (next.0 ∷ next.1)
    ∙ ap (λ (hs : List Half). hs ++ half_on 1 next.0 ∷ map (half_on 1) next.1)
    (sym (take-map (half_on 1) cut.left b.list)) in
    let comes : MayCome t (take cut.left (map (half_on 1) b.list)) (half_on 1 next.0) =
    s.played.each (take cut.left (map (half_on 1) b.list)) (map (half_on 1) next.1) (half_on 1 next.0)
    (before ∙ split) in
    let sound = sound_cut t b c s cut in
    let all =
    All-head (λ (x : Board). replays.without_charges (halves_of (c ∷ [])) ≡ x.all) c [] (all_of t (c ∷ []) sound) in
    let there : position_on t.variant (halves_of (c ∷ [])) c.number ≡ position_of c =
    position_is t (halves_of (c ∷ [])) c (cut.terms ∙ terms) all in
    let here : position_on t.variant (take cut.left (map (half_on 1) b.list)) 1
    ≡ position_on t.variant (halves_of (c ∷ [])) c.number =
    (λ i. position_on t.variant (sym halves i) (sym (cut.number ∙ one.1) i)) in
    subst GoesOn (here ∙ there) comes.follows.going

-- ---- taking back

record IsBack (t : Terms) (b c : Board) : Type 0 where
  sound : AreSoundBoards t (c ∷ [])
  goes : GoesOn (position_of b) → GoesOn (position_of c)

back_either : (t : Terms) (b : Board) (n moment : ℕ) → AreSoundBoards t (b ∷ [])
    → IsTrueScore (take_back_after b n moment) → (few : Bool) → has_too_few b n ≡ few →
    IsBack t b (if few then b else board_taken_back b n moment)
back_either t b n moment s score true e = record { sound = s; goes = λ h. h }
back_either t b n moment s score false e =
    let is : take_back_after b n moment ≡ board_taken_back b n moment =
    ap (λ (few : Bool). if few then b else board_taken_back b n moment) e in
    let cut : IsCut t b (board_taken_back b n moment) = record {
      left = length b.list - n;
      number = refl;
      terms = refl;
      list = refl;
      played = refl;
      score = subst IsTrueScore is score;
    } in
    let some : 1 ≤ n = enough_some n (length b.list) e in
    let within : n ≤ length b.list = enough_within n (length b.list) e in
    record {
      sound = sound_cut t b (board_taken_back b n moment) s cut;
      goes = λ h. goes_cut t b (board_taken_back b n moment) s cut (omega (arith, some, within));
    }

back_alone : (t : Terms) (b : Board) (n moment : ℕ) → AreSoundBoards t (b ∷ []) → b.begin ≤ moment
    → IsBack t b (back_by b.terms.variant b n moment)
back_alone t b n moment s order =
    let terms : b.terms ≡ t = All-head (λ (x : Board). x.terms ≡ t) b [] s.terms in
    let single : b.terms.variant ≢ Bughouse = λ e.
    (number_of_one t.variant b s.numbers).0 (sym (ap (λ (x : Terms). x.variant) terms) ∙ e) in
    let score = IsTrueScore-take_back_after b n moment single (All-head IsTrueScore b [] s.scores) order in
    subst (IsBack t b) (sym (back_single b.terms.variant b n moment single))
    (back_either t b n moment s score (has_too_few b n) refl)

pair_stays : (t : Terms) (b c : Board) (n moment : ℕ) → AreSoundBoards t (b ∷ c ∷ [])
    → back_by b.terms.variant b n moment ≡ b
pair_stays t b c n moment s =
    let terms : b.terms ≡ t = All-head (λ (x : Board). x.terms ≡ t) b (c ∷ []) s.terms in
    back_pair b.terms.variant b n moment
    (ap (λ (x : Terms). x.variant) terms ∙ (numbers_of_two t.variant b c s.numbers).0)

pub sound_back : (t : Terms) (boards : List Board) (n moment : ℕ) → AreSoundBoards t boards → latest boards ≤ moment
    → AreSoundBoards t (boards_taken_back boards n moment)
sound_back t [] n moment s order = s
sound_back t (b ∷ []) n moment s order = (back_alone t b n moment s (omega (arith, order))).sound
sound_back t (b ∷ c ∷ []) n moment s order =
    subst (λ (x : Board). AreSoundBoards t (x ∷ c ∷ [])) (sym (pair_stays t b c n moment s)) s
sound_back t (b ∷ c ∷ d ∷ more) n moment s order = absurd (never_three t.variant b c d more s.numbers)

pub goes_back : (t : Terms) (boards : List Board) (n moment : ℕ) → AreSoundBoards t boards → latest boards ≤ moment
    → GoOn boards → GoOn (boards_taken_back boards n moment)
goes_back t [] n moment s order goes = goes
goes_back t (b ∷ []) n moment s order goes =
    let P : Board → Type 0 = λ x. GoesOn (position_of x) in
    let after : Board = back_by b.terms.variant b n moment in
    All-cons P after [] ((back_alone t b n moment s (omega (arith, order))).goes (All-head P b [] goes)) (All-nil P)
goes_back t (b ∷ c ∷ []) n moment s order goes =
    subst (λ (x : Board). GoOn (x ∷ c ∷ [])) (sym (pair_stays t b c n moment s)) goes
goes_back t (b ∷ c ∷ d ∷ more) n moment s order goes = absurd (never_three t.variant b c d more s.numbers)
