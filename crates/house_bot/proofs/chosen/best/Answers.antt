use Rattle.std.proofs.Common.{arith, rules, ◌≡◌, ◌≢◌, ◌⊎◌, inl, inr, ℕ, ℤ, pos, ◌-◌, ◌<◌, ◌≤◌, List, [], length, None, refl, sym, ap, subst, ◌∙◌}
use Rattle.std.proofs.lemmas.Int.{ints, to_z-of_z}
use Rattle.std.proofs.lemmas.List.{take_all}
use Rattle.chess_model.specs.declared.moves.Move.{Move}
use Rattle.chess_model.specs.declared.variant.Variant.TheVariants.{Bughouse}
use Rattle.chess_model.specs.Position.{Position}
use Rattle.chess_model.specs.Allowed.{Allowed}
use Rattle.chess_model.specs.AllMoves.{allowed_moves}
use Rattle.house_bot.specs.declared.chosen.Choice.{Choice}
use Rattle.house_bot.specs.Value.{move_value, best_move}
use Rattle.house_bot.specs.Searching.{cut, SearchGoesOn, IsOver, better, best_of}
use Rattle.house_bot.proofs.Bounds.{IsTwoSets}
use Rattle.house_bot.proofs.Choices.{no_choice}
use Rattle.house_bot.proofs.Moves.{allowed_at}
use Rattle.house_bot.proofs.Roots.{IsOpen, IsFound, turn_chooses, turn_stays_open, found}
use Rattle.house_bot.proofs.Values.{ended_has_no_moves, has_moves, best_move-zero, best_move-none}
use Rattle.house_bot.proofs.chosen.best.Goals as goal
use mir.Syntax.{w32}
use mir.Val.{SFits, to_z, of_z}

over : (d : ℕ) (p : Position) → p.variant ≢ Bughouse → IsOver d p → (d ≡ 0) ⊎ (allowed_moves p ≡ [])
over d p other (inl zero) = inl zero
over d p other (inr ended) = inr (ended_has_no_moves p other ended)

none_then : (d : ℕ) (p : Position) → (d ≡ 0) ⊎ (allowed_moves p ≡ []) → best_move d p ≡ None
none_then d p (inl zero) = ap (λ n. best_move n p) zero ∙ best_move-zero p
none_then d p (inr none) = best_move-none d p none

pub returns-in-Some-clause-first : goal.returns-in-Some-clause-first
returns-in-Some-clause-first c =
    let p : Position = c.args.p.now in
    sym (none_then c.args.depth p (over c.args.depth p c.requires c.in-Some.ensures.over))

pub returns-in-Some-clause-none : goal.returns-in-Some-clause-none
returns-in-Some-clause-none c =
    let p : Position = c.args.p.now in
    (λ e. over c.args.depth p c.requires c.in-Some.ensures.over, λ h. refl)

pub loop-m-init : goal.loop-m-init
loop-m-init c = record { same = refl; choice = refl; least = omega (arith, ints); below = omega (arith, ints) }

pub deeper-requires-clause-allowed : goal.deeper-requires-clause-allowed
deeper-requires-clause-allowed c =
    let p : Position = c.args.p.now in
    let ms : List Move = c.deref-m-items.result.now in
    let listed : ms ≡ allowed_moves p = c.deref-m-items.ensures.value ∙ c.in_ok-moves.ensures in
    let less : c.loop-m.m-index < length ms = search rules in
    let allowed = allowed_at p ms c.loop-m.m-index c.m-item.result listed less in
    let P : Move → Type 0 = λ m. Allowed p m in
    let Q : Position → Type 0 = λ q. Allowed q c.m-item.result in
    subst Q (sym c.loop-m.invariant.same) (subst P (sym c.m-item.is) allowed)

pub deeper-requires-clause-window : goal.deeper-requires-clause-window
deeper-requires-clause-window c =
    let least = c.loop-m.invariant.least in
    let below = c.loop-m.invariant.below in
    record {
      from = omega (arith, ints, least, below);
      order = omega (arith, ints, least, below);
      to = omega (arith, ints);
    }

pub returns-in_err-worth-clause-same : goal.returns-in_err-worth-clause-same
returns-in_err-worth-clause-same c = c.deeper.ensures.same ∙ c.loop-m.invariant.same

pub loop-m-preserved : goal.loop-m-preserved
loop-m-preserved c =
    let p : Position = c.args.p.now in
    let d : ℕ = c.args.depth - 1 in
    let ms : List Move = c.deref-m-items.result.now in
    let i : ℕ = c.loop-m.m-index in
    let m : Move = c.m-item.result in
    let choice : Choice = c.loop-m.choice in
    let r : ℤ = c.in_ok-worth.worth in
    let listed : ms ≡ allowed_moves p = c.deref-m-items.ensures.value ∙ c.in_ok-moves.ensures in
    let less : i < length ms = search rules in
    let P : Move → Type 0 = λ y. Allowed p y in
    let allowed : Allowed p m = subst P (sym c.m-item.is) (allowed_at p ms i m listed less) in
    let small : d ≤ 255 = omega (arith, c.ranges.depth.fits) in
    let two : IsTwoSets p = record {
      variant = c.requires;
      squares = c.has_two_sets.ensures.squares;
      men = c.has_two_sets.ensures.men c.requires;
    } in
    let bounds : IsOpen choice = record { least = c.loop-m.invariant.least; below = c.loop-m.invariant.below } in
    let fits_choice : SFits w32 choice.worth = omega (arith, ints, bounds.least, bounds.below) in
    let choice_is : to_z w32 (of_z w32 choice.worth) ≡ choice.worth = to_z-of_z w32 choice.worth fits_choice in
    let fits : SFits w32 r = search rules in
    let r_is : to_z w32 (of_z w32 r) ≡ r = to_z-of_z w32 r fits in
    let R : Position → Type 0 = λ q. r ≡ cut (to_z w32 (of_z w32 choice.worth)) (pos 200000) (move_value d q m) in
    let C : ℤ → Type 0 = λ z. r ≡ cut z (pos 200000) (move_value d p m) in
    let e : r ≡ cut choice.worth (pos 200000) (move_value d p m) =
    subst C choice_is (subst R c.loop-m.invariant.same c.in_ok-worth.ensures.value) in
    let chooses =
    turn_chooses d p ms i choice m r small two allowed c.loop-m.invariant.choice c.m-item.is less bounds e in
    let open_still : IsOpen (better choice m r) = turn_stays_open d p choice m r small two allowed bounds e in
    let better_is : c.better-choice.result ≡ better choice m r =
    c.better-choice.ensures ∙ ap (λ z. better choice m z) r_is in
    let O : Choice → Type 0 = λ x. IsOpen x in
    let next : IsOpen c.better-choice.result = subst O (sym better_is) open_still in
    record {
      same = c.deeper.ensures.same ∙ c.loop-m.invariant.same;
      choice = better_is ∙ chooses;
      least = next.least;
      below = next.below;
    }

pub returns-clause-same : goal.returns-clause-same
returns-clause-same c = c.loop-m.invariant.same

-- the choice at the end of the loop is the best of all moves
whole : (c : goal.After-drop-moves-2) → IsFound c.args.depth c.args.p.now c.loop-m.choice
whole c =
    let p : Position = c.args.p.now in
    let d : ℕ = c.args.depth - 1 in
    let ms : List Move = c.deref-m-items.result.now in
    let choice : Choice = c.loop-m.choice in
    let ahead : SearchGoesOn c.args.depth p = c.in_default.ensures.open in
    let listed : ms ≡ allowed_moves p = c.deref-m-items.ensures.value ∙ c.in_ok-moves.ensures in
    let past : length ms ≤ c.loop-m.m-index = search rules in
    let chosen : choice ≡ best_of (move_value d p) no_choice (allowed_moves p) =
    c.loop-m.invariant.choice
    ∙ ap (λ (l : List Move). best_of (move_value d p) no_choice l) (take_all c.loop-m.m-index ms past ∙ listed) in
    let two : IsTwoSets p = record {
      variant = c.requires;
      squares = c.has_two_sets.ensures.squares;
      men = c.has_two_sets.ensures.men c.requires;
    } in
    found c.args.depth d p choice (omega (arith, ahead.left)) (omega (arith, c.ranges.depth.fits)) two ahead
    (has_moves p c.requires ahead.goes) chosen

pub returns-clause-value : goal.returns-clause-value
returns-clause-value c =
    let least = c.loop-m.invariant.least in
    let below = c.loop-m.invariant.below in
    let fits : SFits w32 c.loop-m.choice.worth = omega (arith, ints, least, below) in
    to_z-of_z w32 c.loop-m.choice.worth fits ∙ (whole c).worth

pub returns-clause-first : goal.returns-clause-first
returns-clause-first c = (whole c).first

pub returns-clause-none : goal.returns-clause-none
returns-clause-none c =
    let ahead : SearchGoesOn c.args.depth c.args.p.now = c.in_default.ensures.open in
    let some_allowed : 0 < length (allowed_moves c.args.p.now) = has_moves c.args.p.now c.requires ahead.goes in (
      λ none. absurd ((whole c).some none),
      λ h. absurd (elim h [
        | inl zero ↦ omega (arith, ahead.left, zero)
        | inr none ↦ omega (arith, some_allowed, ap (λ (l : List Move). length l) none)
      ]),
    )
