-- Stored games of chess that replay are legal, and may be exported.
use Rattle.std.proofs.Common.{arith, ◌≡◌, ℕ, suc, ◌≤◌, Bool, true, List, [], ◌∷◌, ◌++◌, length, map, refl, sym, ap, subst, ◌∙◌, append_assoc, append-nil, inl, inr}
use Rattle.std.specs.Prelude.{◌&&◌}
use Rattle.std.specs.List.{AllByRecursion, list_all}
use Rattle.std.specs.Char.{IsAsciiAlphabetic}
use Rattle.std.proofs.lemmas.Bool.Decides.{nat_tests}
use Rattle.std.proofs.lemmas.List.Elements.{recursion_from_All}
use Rattle.chess_model.specs.declared.moves.Move.{Move}
use Rattle.chess_model.specs.declared.variant.Terms.{Terms}
use Rattle.chess_model.specs.declared.variant.Variant.{Variant}
use Rattle.chess_model.specs.declared.variant.Variant.TheVariants.{Chess}
use Rattle.chess_model.specs.MoveList.{HalfMove}
use Rattle.chess_model.specs.Allowed.{IsLegal}
use Rattle.chess_model.proofs.LegalLists.{legal_lists}
use Rattle.fics_words.specs.Handle.{IsHandle}
use Rattle.game_records.specs.declared.stored_game.Half.{Half}
use Rattle.game_records.specs.declared.stored_game.StoredGame.{StoredGame}
use Rattle.game_records.specs.Bounds.{AreHalves, IsHalf}
use Rattle.game_records.specs.Replays.{CanBePlayed, MayCome, without_charges}
use Rattle.pgn_book.specs.declared.game.PgnResult.TheVariants.{Open}
use Rattle.pgn_book.specs.declared.game.TagRow.{TagRow}
use Rattle.pgn_book.specs.Lexing.{IsText, is_of_text}
use Rattle.pgn_book.specs.Games.{on_board}
use Rattle.pgn_book.specs.Export.{IsExportable}
use Rattle.pgn_book.specs.Stored.{IsStoredChess, names_row}

-- ---- half-moves that can be played are legal

moves-end : (halves : List Half) (h : Half)
    → without_charges (halves ++ h ∷ []) ≡ without_charges halves ++ record { board = h.board; what = h.what } ∷ []
moves-end [] h = refl
moves-end (x ∷ halves) h =
    ap (λ (l : List HalfMove). record { board = x.board; what = x.what } ∷ l) (moves-end halves h)

legal_behind : (t : Terms) (before rest : List Half) → IsLegal t.variant (without_charges before)
    → CanBePlayed t (before ++ rest) →
    IsLegal t.variant (without_charges (before ++ rest))
legal_behind t before [] legal played =
    subst (λ (l : List Half). IsLegal t.variant (without_charges l)) (sym (append-nil before)) legal
legal_behind t before (h ∷ rest) legal played =
    let come : MayCome t before h = played.each before rest h refl in
    let half : HalfMove = record { board = h.board; what = h.what } in
    let grown : IsLegal t.variant (without_charges before ++ half ∷ []) =
    legal_lists.grows t.variant (without_charges before) half legal come.follows.allowed in
    let longer : IsLegal t.variant (without_charges (before ++ h ∷ [])) =
    subst (IsLegal t.variant) (sym (moves-end before h)) grown in
    let same : (before ++ h ∷ []) ++ rest ≡ before ++ h ∷ rest = append_assoc before (h ∷ []) rest in
    subst (λ (l : List Half). IsLegal t.variant (without_charges l)) same
    (legal_behind t (before ++ h ∷ []) rest longer (subst (CanBePlayed t) (sym same) played))

legal : (t : Terms) (halves : List Half) → CanBePlayed t halves → IsLegal t.variant (without_charges halves)
legal t halves played = legal_behind t [] halves (legal_lists.none t.variant) played

-- ---- exports

-- a handle may stand in a tag
handle_text : (name : List ℕ) → IsHandle name → IsText name
handle_text name h =
    record { bytes = recursive name (recursion_from_All IsAsciiAlphabetic name h.2); most = omega (arith, h.1) }
  where
    at_least : (b : ℕ) → 32 ≤ b → is_of_text b ≡ true
    at_least b l = grind (arith, nat_tests)

    letter : (b : ℕ) → IsAsciiAlphabetic b → is_of_text b ≡ true
    letter b (inl l) = at_least b (omega (arith, l.0))
    letter b (inr l) = at_least b (omega (arith, l.0))

    recursive : (name : List ℕ) → AllByRecursion IsAsciiAlphabetic name → list_all is_of_text name ≡ true
    recursive [] each = refl
    recursive (b ∷ name) each =
        ap (λ (t : Bool). t && list_all is_of_text name) (letter b each.0) ∙ recursive name each.1

on_one : (h : Half) → IsHalf Chess h → h.board ≡ 1
on_one h is = omega (arith, is.first, is.last)

one_board : (halves : List Half) → AllByRecursion (IsHalf Chess) halves
    → without_charges halves ≡ map on_board (map (λ h. h.what) halves)
one_board [] each = refl
one_board (h ∷ halves) each =
    ap (λ (b : ℕ). record { board = b; what = h.what } ∷ without_charges halves) (on_one h each.0)
    ∙ ap (λ (l : List HalfMove). on_board h.what ∷ l) (one_board halves each.1)

same_length : (halves : List Half) → length (map (λ (h : Half). h.what) halves) ≡ length halves
same_length [] = refl
same_length (h ∷ halves) = ap suc (same_length halves)

pub exportable : (g : StoredGame) (moves : List Move) (tags : TagRow) (white black : List ℕ) → IsStoredChess g
    → moves ≡ map (λ h. h.what) g.halves →
    tags ≡ names_row white black → IsHandle white → IsHandle black
    → IsExportable (record { tags = tags; moves = moves; result = Open })
exportable g moves tags white black stored are is w b =
    let halves : AreHalves Chess g.halves =
    subst (λ (v : Variant). AreHalves v g.halves) stored.variant stored.replays.spelled.halves in
    let lawful : IsLegal Chess (without_charges g.halves) =
    subst (λ (v : Variant). IsLegal v (without_charges g.halves)) stored.variant
    (legal g.terms g.halves stored.replays.played) in
    subst (λ (l : List Move). IsExportable (record { tags = tags; moves = l; result = Open })) (sym are)
    (subst
    (λ (row : TagRow). IsExportable (record { tags = row; moves = map (λ (h : Half). h.what) g.halves; result = Open }))
    (sym is)
    (record {
      legal = subst (λ (T : List HalfMove). IsLegal Chess T) (one_board g.halves halves.each) lawful;
      most = omega (arith, same_length g.halves, halves.few);
      event = record { bytes = refl; most = omega arith };
      site = record { bytes = refl; most = omega arith };
      date = record { bytes = refl; most = omega arith };
      round = record { bytes = refl; most = omega arith };
      white = handle_text white w;
      black = handle_text black b;
    }))

-- ---- stored games
