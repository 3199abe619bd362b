-- Sound boards stay sound by one half-move more, which was allowed while no board was at an end.
use Rattle.std.proofs.Common.{◌≡◌, ◌≢◌, ℕ, ◌+◌, ◌-◌, ◌≤◌, zero, suc, List, [], ◌∷◌, ◌++◌, length, length-append, Option, Some, None, inl, inr, refl, sym, ap, subst, ◌∙◌, arith}
use Rattle.std.specs.Prelude.{◌↔◌, IsSome, IsTrue, slice_get}
use Rattle.std.specs.List.{AllByRecursion}
use Rattle.std.proofs.lemmas.Bool.Decides.{Decides-ltb}
use Rattle.std.proofs.lemmas.List.{length-map}
use Rattle.std.proofs.lemmas.List.Elements.{All-head, All-tail}
use Rattle.chess_model.specs.declared.man.Kind.{Kind}
use Rattle.chess_model.specs.declared.man.Kind.TheVariants.{Pawn, Knight, Bishop, Rook, Queen, King}
use Rattle.chess_model.specs.declared.man.Man.{Man}
use Rattle.chess_model.specs.declared.moves.Move.{Move}
use Rattle.chess_model.specs.declared.moves.Move.TheVariants.{Plain, Castle, Drop}
use Rattle.chess_model.specs.declared.variant.Terms.{Terms}
use Rattle.chess_model.specs.declared.variant.Variant.{Variant}
use Rattle.chess_model.specs.declared.variant.Variant.TheVariants.{Chess, Crazyhouse, Bughouse, Fischer}
use Rattle.chess_model.specs.Allowed.{Allowed, GoesAs, HasPromotion, IsPromotion}
use Rattle.chess_model.specs.MoveList.{HalfMove, moves_of, on}
use Rattle.chess_model.specs.Placement.{man_at}
use Rattle.chess_model.specs.Position.{Position, position_after}
use Rattle.game_board.specs.declared.played.Played.{Played}
use Rattle.game_board.specs.Board.{Board, position_of}
use Rattle.game_board.specs.Charges.{is_timed}
use Rattle.game_board.specs.Scoresheet.{IsTrueScore}
use Rattle.game_records.specs.declared.stored_game.Half.{Half}
use Rattle.game_records.specs.Bounds as bounds
use Rattle.game_records.specs.Bounds.{IsCharge, IsHalf}
use Rattle.game_records.specs.Codes.{HasCode, MayBecome}
use Rattle.game_records.specs.Replays.{AreTimed, CanBePlayed, GoesOn, MayCome, MayFollow, OtherGoesOn, without_charges, made_on, position_on}
use Rattle.game_records.proofs.Played.{by_steps}
use Rattle.fics_words.specs.Boards.{other_number, board_place}
use Rattle.desk_boards.specs.Boards.{board_numbers}
use Rattle.fics_words.specs.declared.board_number.BoardNumber.{BoardNumber}
use Rattle.fics_words.specs.declared.board_number.BoardNumber.TheVariants.{First, Second}
use Rattle.desk_boards.specs.Halves.{halves_of}
use Rattle.desk_boards.specs.Sound.{AreSoundBoards}
use Rattle.desk_boards.proofs.BoardLists.{All-at}
use Rattle.desk_boards.proofs.Halved.{half_on}
use Rattle.desk_boards.proofs.Pairs.{never_three, number_at, numbers_of_two}
use Rattle.desk_boards.proofs.SoundHalves.{all_of, never_none, number_of_one}
use Rattle.fics_words.proofs.Each.{each-push}
use Rattle.collections.proofs.Places.{slice_get-append_end}
use Rattle.std.proofs.lemmas.Option.{same_Some}

-- ---- an allowed half-move has a code

becomes : (promo : Option Kind) → IsPromotion promo → MayBecome promo
becomes None h = tt
becomes (Some Pawn) h = h
becomes (Some Knight) h = h
becomes (Some Bishop) h = h
becomes (Some Rook) h = h
becomes (Some Queen) h = h
becomes (Some King) h = h

stays : (promo : Option Kind) → promo ≡ None → MayBecome promo
stays None e = tt
stays (Some k) e = cc

promoted : (p : Position) (k : Kind) (b : ℕ) (promo : Option Kind) → HasPromotion p.to_move k b promo → MayBecome promo
promoted p Pawn b promo h = elim h [ inl last ↦ becomes promo last.1 | inr other ↦ stays promo other.1 ]
promoted p Knight b promo h = stays promo h
promoted p Bishop b promo h = stays promo h
promoted p Rook b promo h = stays promo h
promoted p Queen b promo h = stays promo h
promoted p King b promo h = stays promo h

goes_with : (p : Position) (a b : ℕ) (promo : Option Kind) (man : Option Man) → GoesAs p a b promo man → MayBecome promo
goes_with p a b promo None h = absurd h
goes_with p a b promo (Some m) h = promoted p m.kind b promo h.2

pub has_code : (p : Position) (m : Move) → Allowed p m → HasCode m
has_code p (Plain a b promo) allowed = goes_with p a b promo (man_at p.men a) allowed.move.goes
has_code p (Castle long) allowed = tt
has_code p (Drop Pawn to) allowed = tt
has_code p (Drop Knight to) allowed = tt
has_code p (Drop Bishop to) allowed = tt
has_code p (Drop Rook to) allowed = tt
has_code p (Drop Queen to) allowed = tt
has_code p (Drop King to) allowed = absurd (omega (arith, allowed.move.held))

-- ---- one half-move more of a board

-- a board with one half-move more, which was allowed while the board went on, and has a charge that a clock may have
pub record IsOneMore (own : Board) (p : Played) (new : Board) : Type 0 where
  pub number : new.number ≡ own.number
  pub terms : new.terms ≡ own.terms
  pub list : new.list ≡ own.list ++ p ∷ []
  pub all : new.all ≡ own.all ++ on own.number p.what ∷ []
  pub score : IsTrueScore new
  pub few : new.played ≤ 1200
  pub going : GoesOn (position_of own)
  pub allowed : Allowed (position_of own) p.what
  pub charge : IsCharge p.charge

-- the terms that give clocks
pub timed_is : (t : Terms) → IsTrue (is_timed t) ↔ AreTimed t
timed_is t = ((Decides-ltb 0 (t.minutes + t.increment)).0, (Decides-ltb 0 (t.minutes + t.increment)).1)

-- its charge stands where one belongs
stands_where : (t : Terms) (own new : Board) (p : Played) → own.terms ≡ t → IsOneMore own p new
    → IsSome p.charge ↔ (AreTimed t × (2 ≤ length own.list))
stands_where t own new p terms more =
    let there : slice_get new.list (length own.list) ≡ Some p =
    ap (λ (l : List Played). slice_get l (length own.list)) more.list ∙ slice_get-append_end own.list p in
    let stands = (more.score.charged (length own.list) p there).stands in
    let same : new.terms ≡ t = more.terms ∙ terms in (
      λ h. let s = stands.0 h in ((timed_is t).0 (subst (λ (x : Terms). IsTrue (is_timed x)) same s.0), s.1),
      λ h. stands.1 (subst (λ (x : Terms). IsTrue (is_timed x)) (sym same) ((timed_is t).1 h.0), h.1),
    )

may_follow : (t : Terms) (own new : Board) (p : Played) (at : Position) (made number : ℕ) → own.terms ≡ t
    → at ≡ position_of own → made ≡ length own.list → IsOneMore own p new →
    MayFollow at t made (half_on number p)
may_follow t own new p at made number terms here count more =
    let charged =
    subst (λ (k : ℕ). IsSome p.charge ↔ (AreTimed t × (2 ≤ k))) (sym count) (stands_where t own new p terms more) in
    record {
      going = subst GoesOn (sym here) more.going;
      room =
          let longer = ap length more.list ∙ length-append own.list (p ∷ []) in
          omega (arith, longer, count, more.score.played, more.few);
      allowed = subst (λ (q : Position). Allowed q p.what) (sym here) more.allowed;
      charged = charged;
    }

-- ---- it may come after the half-moves of all boards

-- the position of a board is that of the half-moves on its number
pub position_is : (t : Terms) (halves : List Half) (b : Board) → b.terms ≡ t → without_charges halves ≡ b.all
    → position_on t.variant halves b.number ≡ position_of b
unfolding position_of
position_is t halves b terms all = λ i. position_after (sym terms i).variant (all i) b.number

pub made_is : (halves : List Half) (b : Board) → IsTrueScore b → without_charges halves ≡ b.all
    → made_on halves b.number ≡ length b.list
made_is halves b score all =
    ap (λ (T : List HalfMove). length (moves_of b.number T)) all ∙ ap length score.own ∙ length-map b.list (λ p. p.what)

other_none : (v : Variant) (halves : List Half) (n : ℕ) → v ≢ Bughouse → OtherGoesOn v halves n
other_none Chess halves n single = tt
other_none Crazyhouse halves n single = tt
other_none (Fischer number) halves n single = tt
other_none Bughouse halves n single = absurd (single refl)

-- the other board of a pair, where it is at no end
other_of_two : (t : Terms) (halves : List Half) (n : ℕ) (c : Board) → t.variant ≡ Bughouse → 3 - n ≡ c.number
    → c.terms ≡ t → without_charges halves ≡ c.all → GoesOn (position_of c) →
    OtherGoesOn t.variant halves n
other_of_two t halves n c pair number terms all goes =
    let there : position_on t.variant halves c.number ≡ position_of c = position_is t halves c terms all in
    let here : GoesOn (position_on t.variant halves (3 - n)) =
    subst (λ (k : ℕ). GoesOn (position_on t.variant halves k)) (sym number) (subst GoesOn (sym there) goes) in
    subst (λ (v : Variant). OtherGoesOn v halves n) (sym pair)
    (subst (λ (v : Variant). GoesOn (position_on v halves (3 - n))) pair here)

pub other_goes : (t : Terms) (boards : List Board) (board : BoardNumber) (own : Board) → AreSoundBoards t boards
    → slice_get boards (board_place board) ≡ Some own →
    ((other : Board) → slice_get boards (board_place (other_number board)) ≡ Some other → GoesOn (position_of other))
    → OtherGoesOn t.variant (halves_of boards) own.number
other_goes t [] board own s there goes = absurd (never_none t.variant s.numbers)
other_goes t (b ∷ []) board own s there goes =
    other_none t.variant (halves_of (b ∷ [])) own.number (number_of_one t.variant b s.numbers).0
other_goes t (b ∷ c ∷ []) First own s there goes =
    let two = numbers_of_two t.variant b c s.numbers in
    let same : b.number ≡ own.number = ap (λ (x : Board). x.number) (same_Some b own there) in
    other_of_two t (halves_of (b ∷ c ∷ [])) own.number c two.0 (omega (arith, two.1, two.2, same))
    (All-head (λ (x : Board). x.terms ≡ t) c [] (All-tail (λ (x : Board). x.terms ≡ t) b (c ∷ []) s.terms))
    (All-at (λ (x : Board). without_charges (halves_of (b ∷ c ∷ [])) ≡ x.all) (b ∷ c ∷ []) 1 c (all_of t (b ∷ c ∷ []) s)
    refl)
    (goes c refl)
other_goes t (b ∷ c ∷ []) Second own s there goes =
    let two = numbers_of_two t.variant b c s.numbers in
    let same : c.number ≡ own.number = ap (λ (x : Board). x.number) (same_Some c own there) in
    other_of_two t (halves_of (b ∷ c ∷ [])) own.number b two.0 (omega (arith, two.1, two.2, same))
    (All-head (λ (x : Board). x.terms ≡ t) b (c ∷ []) s.terms)
    (All-at (λ (x : Board). without_charges (halves_of (b ∷ c ∷ [])) ≡ x.all) (b ∷ c ∷ []) 0 b (all_of t (b ∷ c ∷ []) s)
    refl)
    (goes b refl)
other_goes t (b ∷ c ∷ d ∷ more) board own s there goes = absurd (never_three t.variant b c d more s.numbers)

-- the number of a board is one of its variant's
number_in : (v : Variant) (k n : ℕ) → slice_get (board_numbers v) k ≡ Some n → (1 ≤ n) × (n ≤ bounds.boards v)
number_in Chess zero n e = let one : 1 ≡ n = cc in (omega (arith, one), omega (arith, one))
number_in Chess (suc k) n e = absurd cc
number_in Crazyhouse zero n e = let one : 1 ≡ n = cc in (omega (arith, one), omega (arith, one))
number_in Crazyhouse (suc k) n e = absurd cc
number_in (Fischer number) zero n e = let one : 1 ≡ n = cc in (omega (arith, one), omega (arith, one))
number_in (Fischer number) (suc k) n e = absurd cc
number_in Bughouse zero n e = let one : 1 ≡ n = cc in (omega (arith, one), omega (arith, one))
number_in Bughouse (suc zero) n e = let two : 2 ≡ n = cc in (omega (arith, two), omega (arith, two))
number_in Bughouse (suc (suc k)) n e = absurd cc

-- half-moves with one more that a record can have, and that can be played
pub record MayGrow (t : Terms) (halves : List Half) (h : Half) : Type 0 where
  pub each : AllByRecursion (IsHalf t.variant) (halves ++ h ∷ [])
  pub played : CanBePlayed t (halves ++ h ∷ [])

pub may_grow : (t : Terms) (boards : List Board) (board : BoardNumber) (own new : Board) (p : Played)
    → AreSoundBoards t boards → slice_get boards (board_place board) ≡ Some own → IsOneMore own p new →
    ((other : Board) → slice_get boards (board_place (other_number board)) ≡ Some other → GoesOn (position_of other))
    → MayGrow t (halves_of boards) (half_on own.number p)
may_grow t boards board own new p s there more goes =
    let k : ℕ = board_place board in
    let halves : List Half = halves_of boards in
    let terms : own.terms ≡ t = All-at (λ (x : Board). x.terms ≡ t) boards k own s.terms there in
    let all : without_charges halves ≡ own.all =
    All-at (λ (x : Board). without_charges halves ≡ x.all) boards k own (all_of t boards s) there in
    let range = number_in t.variant k own.number (number_at t.variant boards k own s.numbers there) in
    let score : IsTrueScore own = All-at IsTrueScore boards k own s.scores there in
    let comes : MayCome t halves (half_on own.number p) = record {
      follows =
          may_follow t own new p (position_on t.variant halves own.number) (made_on halves own.number) own.number terms
          (position_is t halves own terms all) (made_is halves own score all) more;
      other = other_goes t boards board own s there goes;
    } in
    let half : IsHalf t.variant (half_on own.number p) = record {
      first = range.0;
      last = range.1;
      code = has_code (position_of own) p.what more.allowed;
      charge = more.charge;
    } in
    record {
      each = each-push (IsHalf t.variant) halves (half_on own.number p) s.halves half;
      played = by_steps.grows t halves (half_on own.number p) s.played comes;
    }
