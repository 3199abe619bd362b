use Rattle.std.proofs.Common.{◌≡◌, ℕ, ◌-◌, ◌<◌, IfSome, All, List, [], ◌∷◌, ◌++◌, map, length, length-append, ap, ◌∙◌, sym, subst, arith}
use Rattle.chess_model.specs.declared.man.Colour.TheVariants.{White, Black}
use Rattle.std.specs.Prelude.{slice_get}
use Rattle.std.specs.Option.{option_map}
use Rattle.std.proofs.lemmas.List.{map-append}
use Rattle.std.proofs.lemmas.List.Elements.{All-append}
use Rattle.chess_model.specs.declared.moves.Move.{Move}
use Rattle.chess_model.specs.declared.variant.Variant.{Variant}
use Rattle.chess_model.proofs.MoreMoves.{moves_of-same}
use Rattle.chess_model.specs.Position.{Position, position_after, Stands}
use Rattle.chess_model.specs.Allowed.{Allowed, IsLegal}
use Rattle.chess_model.specs.MoveList.{HalfMove, moves_of, taken}
use Rattle.clock_ledger.specs.Charges.{IsChargeable}
use Rattle.clock_ledger.specs.Clock.{Ledger}
use Rattle.variant_rules.specs.Showing.{shown_of}
use Rattle.variant_rules.specs.Undos.{IsUndoOf}
use Rattle.fics_words.specs.Boards.{board_number}
use Rattle.game_board.specs.declared.played.Made.{Made}
use Rattle.game_board.specs.declared.played.Played.{Played}
use Rattle.game_board.specs.declared.played.Step.{Step}
use Rattle.game_board.specs.Board.{Board, half_move, half_moves, made, mover_after, position_of}
use Rattle.game_board.specs.BoardFace.{last_shown}
use Rattle.game_board.specs.Charges.{clock_of}
use Rattle.game_board.specs.Steps.{AreSteps}
use Rattle.game_board.proofs.Charged.{has_room}
use Rattle.game_board.proofs.Grown.{clock_of-append, half_moves-append}
use Rattle.game_board.proofs.LastPlayed.{All-one}
use Rattle.game_board.proofs.Movers.{position_of-stands}
use Rattle.game_board.proofs.Steps.{AreSteps-append, shown-append}
use Rattle.game_board.proofs.game_board.GameBoard.add.Goals as goal
use Rattle.chess_model.proofs.LegalLists.{IsLegal-append}

pub make-undo-requires : goal.make-undo-requires
make-undo-requires c =
    let i = c.self.inside in
    let e =
    position_of-stands i.position (record {
      number = board_number i.number;
      terms = i.terms;
      list = i.list;
      begin = i.begin;
      kept = i.kept;
      played = i.played;
      resumed = i.resumed;
      all = made i.all;
    }) c.self.invariant.stands c.self.invariant.variant
    ∙ ap position_of c.self.view_is in
    subst (λ (p : Position). Allowed p c.args.half.now.what) (sym e) c.requires.allowed

-- a colour's clock has room where that colour is to move
pub charge_clocks-requires-clause-white_room : goal.charge_clocks-requires-clause-white_room
charge_clocks-requires-clause-white_room c = λ white.
    let is_mover = ap (λ (b : Board). mover_after b.list) c.self.view_is ∙ sym c.to_move-mover.ensures ∙ white in
    let few : length c.self.inside.list < 1200 =
    omega (arith, c.self.invariant.counted, ap (λ (b : Board). b.played) c.self.view_is) in
    subst (λ (k : Ledger). length k.charges < 600) (sym c.self.invariant.white)
    (has_room White c.self.inside.list is_mover few)

pub charge_clocks-requires-clause-black_room : goal.charge_clocks-requires-clause-black_room
charge_clocks-requires-clause-black_room c = λ black.
    let is_mover = ap (λ (b : Board). mover_after b.list) c.self.view_is ∙ sym c.to_move-mover.ensures ∙ black in
    let few : length c.self.inside.list < 1200 =
    omega (arith, c.self.invariant.counted, ap (λ (b : Board). b.played) c.self.view_is) in
    subst (λ (k : Ledger). length k.charges < 600) (sym c.self.invariant.black)
    (has_room Black c.self.inside.list is_mover few)

pub returns-clause-captured : goal.returns-clause-captured
returns-clause-captured c =
    let i = c.self.inside in
    let same : i.position ≡ position_of c.args.self.now =
    position_of-stands i.position (record {
      number = board_number i.number;
      terms = i.terms;
      list = i.list;
      begin = i.begin;
      kept = i.kept;
      played = i.played;
      resumed = i.resumed;
      all = made i.all;
    }) c.self.invariant.stands c.self.invariant.variant
    ∙ ap position_of c.self.view_is in
    c.captured.ensures ∙ c.make-undo.ensures.captured ∙ ap (λ (p : Position). taken p.men c.args.half.now.what) same

pub push-requires-3 : goal.push-requires-3
push-requires-3 c =
    omega (
      arith,
      c.self.invariant.others,
      c.self.invariant.counted,
      ap (λ (b : Board). b.played) c.self.view_is,
      c.requires.room,
    )

pub invariant_of-self : goal.invariant_of-self
unfolding position_of
invariant_of-self c =
    let i = c.self.inside in
    let n : ℕ = board_number i.number in
    let half : Played = c.args.half.now in
    let step : Step = record { undo = c.make-undo.result; shown = c.shown-shown.result } in
    let q : Position = c.make-undo.new.self in
    let v : Variant = i.terms.variant in
    let T : List HalfMove = made i.all in
    let one : HalfMove = half_move n half in
    let is_mover : mover_after i.list ≡ c.to_move-mover.result =
    ap (λ (b : Board). mover_after b.list) c.self.view_is ∙ sym c.to_move-mover.ensures in
    let grown : c.push-2.new.self ≡ i.list ++ half ∷ [] = c.push-2.ensures in
    let more : made c.push-3.new.self ≡ T ++ one ∷ [] =
    ap made c.push-3.ensures
    ∙ map-append (λ (h : Made). record { board = board_number h.board; what = h.what }) i.all
    (record { board = i.number; what = half.what } ∷ []) in
    let old : i.position ≡ position_after v T n =
    c.self.invariant.stands.same ∙ ap (λ w. position_after w T n) c.self.invariant.variant in
    let now : position_after v T n ≡ position_of c.args.self.now = ap position_of c.self.view_is in
    let allowed : Allowed (position_after v T n) half.what =
    subst (λ (p : Position). Allowed p half.what) (sym now) c.requires.allowed in
    let variant : q.variant ≡ v = c.make-undo.ensures.variant ∙ c.self.invariant.variant in
    let stands : Stands q (T ++ one ∷ []) n = c.make-undo.ensures.stands T n c.self.invariant.stands in
    let new : q ≡ position_after v (T ++ one ∷ []) n =
    stands.same ∙ ap (λ w. position_after w (T ++ one ∷ []) n) variant in
    let shown : step.shown ≡ shown_of (position_after v T n) half.what =
    c.shown-shown.ensures ∙ ap (λ (p : Position). shown_of p half.what) (c.position.ensures ∙ sym now) in
    record {
      stands = subst (λ (U : List HalfMove). Stands q U n) (sym more) stands;
      variant = variant;
      legal =
          subst (λ (U : List HalfMove). IsLegal v U) (sym more) (IsLegal-append v T one c.self.invariant.legal allowed);
      own =
          ap (moves_of n) more ∙ moves_of-same n T half.what
          ∙ ap (λ (ms : List Move). ms ++ half.what ∷ []) c.self.invariant.own
          ∙ sym (map-append (λ (p : Played). p.what) i.list (half ∷ []))
          ∙ ap (map (λ (p : Played). p.what)) (sym grown);
      alone = λ h.
          more ∙ ap (λ (U : List HalfMove). U ++ one ∷ []) (c.self.invariant.alone h)
          ∙ sym (half_moves-append n i.list half) ∙ ap (half_moves n) (sym grown);
      others =
          omega (
            arith,
            c.self.invariant.others,
            ap length grown,
            ap length c.push-3.ensures,
            length-append i.list (half ∷ []),
            length-append i.all (record { board = i.number; what = half.what } ∷ []),
          );
      white =
          c.charge_clocks.ensures.white
          ∙ clock_of-append i.terms White c.to_move-mover.result i.list half i.white c.self.invariant.white is_mover
          ∙ ap (clock_of i.terms White) (sym grown);
      black =
          c.charge_clocks.ensures.black
          ∙ clock_of-append i.terms Black c.to_move-mover.result i.list half i.black c.self.invariant.black is_mover
          ∙ ap (clock_of i.terms Black) (sym grown);
      sound = subst (All (λ (p : Played). IfSome p.charge IsChargeable)) (sym grown)
          (All-append (λ (p : Played). IfSome p.charge IsChargeable) i.list (half ∷ []) c.self.invariant.sound
          (All-one (λ (p : Played). IfSome p.charge IsChargeable) half c.requires.sound));
      kept = tt;
      each =
          omega (
            arith,
            c.self.invariant.each,
            ap length grown,
            ap length c.push.ensures,
            length-append i.list (half ∷ []),
            length-append i.steps (step ∷ []),
          );
      shown = ap (λ (l : List Step). option_map (λ s. s.shown) (slice_get l (length l - 1))) c.push.ensures
          ∙ shown-append v n T i.list i.steps half step shown
          ∙ ap (λ (U : List HalfMove). last_shown v n U (i.list ++ half ∷ [])) (sym more)
          ∙ ap (λ (l : List Played). last_shown v n (made c.push-3.new.self) l) (sym grown);
      steps = λ h.
          let before : T ≡ half_moves n i.list = c.self.invariant.alone h in
          let after : T ++ one ∷ [] ≡ half_moves n (i.list ++ half ∷ []) =
          ap (λ (U : List HalfMove). U ++ one ∷ []) before ∙ sym (half_moves-append n i.list half) in
          let undo : IsUndoOf step.undo (position_after v (half_moves n i.list) n)
          (position_after v (half_moves n (i.list ++ half ∷ [])) n) =
          subst (λ (p : Position).
          IsUndoOf step.undo p (position_after v (half_moves n (i.list ++ half ∷ [])) n))
          (old ∙ ap (λ (U : List HalfMove). position_after v U n) before)
          (subst (λ (p : Position). IsUndoOf step.undo i.position p)
          (new ∙ ap (λ (U : List HalfMove). position_after v U n) after) c.make-undo.ensures.undo) in
          subst (λ (l : List Played). AreSteps v n l c.push.new.self) (sym grown)
          (subst (AreSteps v n (i.list ++ half ∷ [])) (sym c.push.ensures)
          (AreSteps-append v n i.list i.steps half step (c.self.invariant.steps h) undo
          (shown ∙ ap (λ (U : List HalfMove). shown_of (position_after v U n) half.what) before)));
      counted = omega (arith, ap length grown, length-append i.list (half ∷ []), c.self.invariant.counted);
      most = omega (arith, ap (λ (b : Board). b.played) c.self.view_is);
      resumed = omega (arith, ap length grown, length-append i.list (half ∷ []), c.self.invariant.resumed);
    }
