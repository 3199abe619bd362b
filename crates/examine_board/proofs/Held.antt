-- What the fields of an exam keep, as it is opened and as its half-moves change.
use Rattle.std.proofs.Common.{◌≡◌, ℕ, ◌+◌, ◌-◌, ◌*◌, ◌<◌, ◌≤◌, zero, suc, List, [], ◌∷◌, ◌++◌, length, take, refl, sym, ap, subst, ◌∙◌, arith, append-nil}
use Rattle.std.specs.Prelude.{slice_get, slice_index_or, Some}
use Rattle.std.proofs.lemmas.List.{length-append, length-take-le, take_all, take-append-le, take-take}
use Rattle.chess_model.specs.declared.variant.Terms.{Terms}
use Rattle.chess_model.specs.declared.variant.Variant.{Variant}
use Rattle.chess_model.specs.declared.variant.Variant.TheVariants.{Chess, Crazyhouse, Bughouse, Fischer}
use Rattle.game_board.specs.Board.{Board}
use Rattle.game_records.specs.declared.stored_game.Half.{Half}
use Rattle.game_records.specs.declared.stored_game.StoredGame.{StoredGame}
use Rattle.game_records.specs.Bounds as bounds
use Rattle.game_records.specs.Replays.{Replays}
use Rattle.desk_boards.specs.Boards.{new_boards}
use Rattle.examine_board.specs.declared.exam.Exam.TheInside.{Inside}
use Rattle.examine_board.specs.Exam.{boards_of_halves}
use Rattle.examine_board.specs.Holds.{HoldsExam}
use Rattle.examine_board.specs.Laid.{CanBeLaid}
use Rattle.examine_board.proofs.Laying.{CanBeLaid-played, CanBeLaid-take}
use Rattle.std.proofs.lemmas.Option.{slice_get_read}
use Rattle.examine_board.proofs.Lists.{slice_get-first, slice_get-right}
use Rattle.game_board.proofs.Steps.{slice_get-append_left}

-- the list that is looked at, whole
pub whole : (stored : List Half) → take (length stored) stored ++ [] ≡ stored
whole stored = append-nil (take (length stored) stored) ∙ take_all (length stored) stored (omega arith)

few_boards : (v : Variant) (n : ℕ) → n ≤ 1200 * bounds.boards v → n ≤ 2400
few_boards Chess n h = omega (arith, h)
few_boards Crazyhouse n h = omega (arith, h)
few_boards Bughouse n h = omega (arith, h)
few_boards (Fischer number) n h = omega (arith, h)

-- an exam that was just opened
pub holds_opened : (g : StoredGame) (e : Inside) → Replays g → e.terms ≡ g.terms → e.names ≡ g.names
    → e.stored ≡ g.halves → e.shared ≡ length e.stored → e.branch ≡ [] → e.point ≡ 0
    → e.boards ≡ new_boards g.terms 0 → HoldsExam e
holds_opened g e replays terms names stored shared branch point boards =
    let game = replays.spelled in
    let laid : CanBeLaid e.terms e.stored =
    subst (λ (t : Terms). CanBeLaid t e.stored) (sym terms)
    (subst (CanBeLaid g.terms) (sym stored) (CanBeLaid-played g.terms g.halves game.halves.each replays.played)) in
    let list : take e.shared e.stored ++ e.branch ≡ e.stored =
    (λ i. take (shared i) e.stored ++ branch i) ∙ whole e.stored in
    let players : length g.names ≡ 2 * bounds.boards g.terms.variant = game.players in
    record {
      shared = omega (arith, shared);
      few =
          let same = ap length stored in let few = few_boards g.terms.variant (length g.halves) game.halves.few in
          omega (arith, same, few);
      point = omega (arith, point);
      boards = boards ∙ (λ i. boards_of_halves (sym terms i) (take (sym point i) (take e.shared e.stored ++ e.branch)));
      stored = laid;
      list = subst (CanBeLaid e.terms) (sym list) laid;
      names = ap length names ∙ players ∙ ap (λ (t : Terms). 2 * bounds.boards t.variant) (sym terms);
    }

-- an item of the half-moves that are looked at: of the stored ones, or of the branch
pub looked_stored : (shared : ℕ) (stored branch : List Half) (i : ℕ) → shared ≤ length stored → i < shared
    → slice_get (take shared stored ++ branch) i ≡ slice_get (take shared stored) i
looked_stored shared stored branch i within low =
    let many : length (take shared stored) ≡ shared = length-take-le shared stored within in
    slice_get-append_left (take shared stored) branch i (omega (arith, many, low))

pub looked_branch : (shared : ℕ) (stored branch : List Half) (i : ℕ) → shared ≤ length stored → shared ≤ i
    → slice_get (take shared stored ++ branch) i ≡ slice_get branch (i - shared)
looked_branch shared stored branch i within high =
    let many : length (take shared stored) ≡ shared = length-take-le shared stored within in
    let there : i ≡ length (take shared stored) + (i - shared) = omega (arith, many, high) in
    slice_get-right (take shared stored) branch (i - shared) i there

-- so the one that is read is the one in that place
pub looked_here : (shared : ℕ) (stored branch read : List Half) (i : ℕ) (h : Half) → shared ≤ length stored → i < shared
    → read ≡ stored → h ≡ slice_index_or read i h →
    slice_get (take shared stored ++ branch) i ≡ Some h
looked_here shared stored branch read i h within low are is =
    let many = ap length are in
    looked_stored shared stored branch i within low ∙ slice_get-first shared stored i low
    ∙ ap (λ l. slice_get l i) (sym are)
    ∙ slice_get_read read (length read) i h refl (omega (arith, many, within, low)) is

pub looked_there : (shared : ℕ) (stored branch read : List Half) (i : ℕ) (h : Half) → shared ≤ length stored
    → shared ≤ i → i < length (take shared stored ++ branch) → read ≡ branch →
    h ≡ slice_index_or read (i - shared) h → slice_get (take shared stored ++ branch) i ≡ Some h
looked_there shared stored branch read i h within high few are is =
    let all = length-append (take shared stored) branch in
    let first : length (take shared stored) ≡ shared = length-take-le shared stored within in
    let many = ap length are in
    looked_branch shared stored branch i within high ∙ ap (λ l. slice_get l (i - shared)) (sym are)
    ∙ slice_get_read read (length read) (i - shared) h refl (omega (arith, all, first, many, few, high)) is

-- the first of them, cut before the branch or in it
pub cut_stored : (shared point : ℕ) (stored branch : List Half) → shared ≤ length stored → point ≤ shared
    → take point (take shared stored ++ branch) ≡ take point stored
cut_stored shared point stored branch within low =
    let many : length (take shared stored) ≡ shared = length-take-le shared stored within in
    take-append-le point (take shared stored) branch (omega (arith, many, low)) ∙ take-take point shared stored low

pub cut_branch : {X : Type 0} (xs ys : List X) (n : ℕ) → length xs ≤ n
    → take n (xs ++ ys) ≡ xs ++ take (n - length xs) ys
cut_branch [] ys n h = let all : n ≡ n - 0 = omega arith in ap (λ k. take k ys) all
cut_branch (x ∷ xs) ys zero h = absurd (omega (arith, h))
cut_branch (x ∷ xs) ys (suc n) h =
    let left : n - length xs ≡ suc n - length (x ∷ xs) = omega arith in
    ap (λ zs. x ∷ zs) (cut_branch xs ys n (omega (arith, h))) ∙ ap (λ k. x ∷ (xs ++ take k ys)) left

-- the half-moves that are looked at, without those that follow the ones on the boards
pub cut_here : (shared point : ℕ) (stored branch none : List Half) → shared ≤ length stored → point ≤ shared
    → none ≡ [] →
    take point stored ++ none ≡ take point (take shared stored ++ branch)
cut_here shared point stored branch none within low empty =
    ap (λ l. take point stored ++ l) empty ∙ append-nil (take point stored)
    ∙ sym (cut_stored shared point stored branch within low)

pub cut_there : (shared point : ℕ) (stored branch left : List Half) → shared ≤ length stored → shared ≤ point
    → left ≡ take (point - shared) branch →
    take shared stored ++ left ≡ take point (take shared stored ++ branch)
cut_there shared point stored branch left within high are =
    let many : length (take shared stored) ≡ shared = length-take-le shared stored within in
    ap (λ l. take shared stored ++ l) are ∙ ap (λ k. take shared stored ++ take (point - k) branch) (sym many)
    ∙ sym (cut_branch (take shared stored) branch point (omega (arith, many, high)))

-- what an exam keeps of them, once that is all that is looked at
pub record IsCut (t : Terms) (boards : List Board) (list left : List Half) (point : ℕ) : Type 0 where
  pub within : point ≤ length left
  pub end : point ≡ length left
  pub are : boards ≡ boards_of_halves t (take point left)
  pub laid : CanBeLaid t left

pub is_cut : (t : Terms) (boards : List Board) (list left : List Half) (point : ℕ) → point ≤ length list
    → boards ≡ boards_of_halves t (take point list) → CanBeLaid t list → left ≡ take point list →
    IsCut t boards list left point
is_cut t boards list left point within are laid cut =
    let many : length left ≡ point = ap length cut ∙ length-take-le point list within in
    record {
      within = omega (arith, many);
      end = sym many;
      are = are ∙ ap (boards_of_halves t) (sym cut ∙ sym (take_all point left (omega (arith, many))));
      laid = subst (CanBeLaid t) (sym cut) (CanBeLaid-take t list point laid);
    }
