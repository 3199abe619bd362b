use Rattle.std.proofs.Common.{◌≡◌, ℕ, ◌-◌, List, [], ◌∷◌, ◌++◌, length, length-append, sym, ap, subst, ◌∙◌, arith}
use Rattle.std.specs.Prelude.{slice_get}
use Rattle.std.specs.Option.{option_map}
use Rattle.chess_model.specs.declared.variant.Variant.{Variant}
use Rattle.chess_model.specs.declared.variant.Variant.TheVariants.{Bughouse}
use Rattle.chess_model.specs.Allowed.{Allowed, IsLegal}
use Rattle.chess_model.specs.Holdings.{other_board}
use Rattle.chess_model.specs.MoveList.{HalfMove, moves_of, taken}
use Rattle.chess_model.specs.Position.{Position, position_after, Stands}
use Rattle.chess_model.proofs.MoreMoves.{moves_of-other}
use Rattle.variant_rules.specs.Showing.{shown_of}
use Rattle.fics_words.specs.Boards.{board_number}
use Rattle.game_board.specs.declared.played.Made.{Made}
use Rattle.game_board.specs.declared.played.Played.{Played}
use Rattle.game_board.specs.Board.{Board, made}
use Rattle.game_board.specs.BoardFace.{before_own}
use Rattle.game_board.specs.Learn.{learnt, partner_position}
use Rattle.game_board.proofs.Numbers.{is_first, is_second, made-other}
use Rattle.game_board.proofs.OwnMoves.{before_own-other}
use Rattle.game_board.proofs.PairHands.{not_king_if, room_if}
use Rattle.game_board.proofs.Received.{boards_differ, with_captured-variant, Stands-other}
use Rattle.game_board.proofs.TakenBack.{length-made}
use Rattle.game_board.proofs.game_board.GameBoard.learn.Goals as goal
use Rattle.chess_model.proofs.LegalLists.{IsLegal-append}

pub give-requires-clause-not_king : goal.give-requires-clause-not_king
give-requires-clause-not_king c =
    let i = c.self.inside in
    let n : ℕ = board_number i.number in
    let T : List HalfMove = made i.all in
    let pair : i.terms.variant ≡ Bughouse = ap (λ (b : Board). b.terms.variant) c.self.view_is ∙ c.requires.variant in
    let legal : IsLegal Bughouse T = subst (λ (w : Variant). IsLegal w T) pair c.self.invariant.legal in
    let there : position_after Bughouse T (other_board n) ≡ partner_position c.args.self.now =
    ap (λ (w : Variant). position_after w T (other_board n)) (sym pair) ∙ ap partner_position c.self.view_is in
    let allowed : Allowed (position_after Bughouse T (other_board n)) c.args.what =
    subst (λ (p : Position). Allowed p c.args.what) (sym there) c.requires.allowed in
    let man_is : c.args.man ≡ taken (position_after Bughouse T (other_board n)).men c.args.what =
    c.requires.captured ∙ sym (ap (λ (p : Position). taken p.men c.args.what) there) in
    not_king_if T (other_board n) c.args.what c.args.man legal allowed man_is

pub give-requires-clause-room : goal.give-requires-clause-room
give-requires-clause-room c =
    let i = c.self.inside in
    let n : ℕ = board_number i.number in
    let T : List HalfMove = made i.all in
    let pair : i.terms.variant ≡ Bughouse = ap (λ (b : Board). b.terms.variant) c.self.view_is ∙ c.requires.variant in
    let legal : IsLegal Bughouse T = subst (λ (w : Variant). IsLegal w T) pair c.self.invariant.legal in
    let there : position_after Bughouse T (other_board n) ≡ partner_position c.args.self.now =
    ap (λ (w : Variant). position_after w T (other_board n)) (sym pair) ∙ ap partner_position c.self.view_is in
    let allowed : Allowed (position_after Bughouse T (other_board n)) c.args.what =
    subst (λ (p : Position). Allowed p c.args.what) (sym there) c.requires.allowed in
    let man_is : c.args.man ≡ taken (position_after Bughouse T (other_board n)).men c.args.what =
    c.requires.captured ∙ sym (ap (λ (p : Position). taken p.men c.args.what) there) in
    let old : i.position ≡ position_after Bughouse T n =
    c.self.invariant.stands.same
    ∙ ap (λ (w : Variant). position_after w T n) (c.self.invariant.variant ∙ pair) in
    room_if i.position T n c.args.what c.args.man old (is_first i.number) (is_second i.number) legal
    allowed man_is

pub push-requires : goal.push-requires
push-requires c =
    let i = c.self.inside in
    let many : length (made i.all) ≡ length i.all = length-made i.all in
    omega (
      arith,
      c.requires.room,
      many,
      ap (λ (b : Board). length b.all) c.self.view_is,
      ap (λ (b : Board). length b.list) c.self.view_is,
      c.self.invariant.counted,
      c.self.invariant.most,
    )

pub invariant_of-self : goal.invariant_of-self
invariant_of-self c =
    let i = c.self.inside in
    let n : ℕ = board_number i.number in
    let T : List HalfMove = made i.all in
    let pair : i.terms.variant ≡ Bughouse = ap (λ (b : Board). b.terms.variant) c.self.view_is ∙ c.requires.variant in
    let legal : IsLegal Bughouse T = subst (λ (w : Variant). IsLegal w T) pair c.self.invariant.legal in
    let there : position_after Bughouse T (other_board n) ≡ partner_position c.args.self.now =
    ap (λ (w : Variant). position_after w T (other_board n)) (sym pair) ∙ ap partner_position c.self.view_is in
    let allowed : Allowed (position_after Bughouse T (other_board n)) c.args.what =
    subst (λ (p : Position). Allowed p c.args.what) (sym there) c.requires.allowed in
    let man_is : c.args.man ≡ taken (position_after Bughouse T (other_board n)).men c.args.what =
    c.requires.captured ∙ sym (ap (λ (p : Position). taken p.men c.args.what) there) in
    let v : Variant = i.terms.variant in
    let far : HalfMove = record { board = other_board n; what = c.args.what } in
    let pushed : Made = record { board = c.other.result; what = c.args.what } in
    let more : made c.push.new.self ≡ T ++ far ∷ [] =
    ap made c.push.ensures ∙ made-other i.all i.number c.other.result c.args.what c.other.ensures in
    let stands : Stands c.give.new.position (T ++ far ∷ []) n =
    subst (λ (q : Position). Stands q (T ++ far ∷ []) n) (sym c.give.ensures)
    (Stands-other i.position T n c.args.what c.args.man (c.self.invariant.variant ∙ pair) man_is
    c.self.invariant.stands) in
    let many : length (made i.all) ≡ length i.all = length-made i.all in
    record {
      stands = subst (λ (U : List HalfMove). Stands c.give.new.position U n) (sym more) stands;
      variant =
          ap (λ (q : Position). q.variant) c.give.ensures ∙ with_captured-variant i.position c.args.man
          ∙ c.self.invariant.variant;
      legal =
          subst (IsLegal v) (sym more)
          (subst (λ (w : Variant). IsLegal w (T ++ far ∷ [])) (sym pair) (IsLegal-append Bughouse T far legal allowed));
      own =
          ap (moves_of n) more
          ∙ moves_of-other (other_board n) n T c.args.what (boards_differ n)
          ∙ c.self.invariant.own;
      alone = λ h. absurd (h pair);
      others = omega (
        arith,
        c.requires.room,
        many,
        ap (λ (b : Board). length b.all) c.self.view_is,
        ap (λ (b : Board). length b.list) c.self.view_is,
        ap length c.push.ensures,
        length-append i.all (pushed ∷ []),
      );
      white = c.self.invariant.white;
      black = c.self.invariant.black;
      sound = c.self.invariant.sound;
      kept = c.self.invariant.kept;
      each = c.self.invariant.each;
      shown = c.self.invariant.shown
          ∙ ap
          (λ (U : List HalfMove).
          option_map (λ (p : Played). shown_of (position_after v U n) p.what)
          (slice_get i.list (length i.list - 1)))
          (sym (ap (before_own n) more
          ∙ before_own-other n (other_board n) T c.args.what (boards_differ n)));
      steps = λ h. absurd (h pair);
      counted = c.self.invariant.counted;
      most = c.self.invariant.most;
      resumed = c.self.invariant.resumed;
    }

pub returns : goal.returns
returns c =
    let i = c.self.inside in
    let more : made c.push.new.self
    ≡ made i.all ++ record { board = other_board (board_number i.number); what = c.args.what } ∷ [] =
    ap made c.push.ensures ∙ made-other i.all i.number c.other.result c.args.what c.other.ensures in
    let board : List HalfMove → Board =
    λ all. record {
      number = board_number i.number;
      terms = i.terms;
      list = i.list;
      begin = i.begin;
      kept = i.kept;
      played = i.played;
      resumed = i.resumed;
      all = all;
    } in
    ap board more ∙ ap (λ (b : Board). learnt b c.args.what) c.self.view_is
