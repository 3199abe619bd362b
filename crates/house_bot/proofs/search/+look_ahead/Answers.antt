use Rattle.std.proofs.Common.{arith, rules, ◌≡◌, ℕ, ◌+◌, ◌-◌, ◌<◌, ℤ, pos, neg_ℤ, ◌<ℤ◌, ◌≤ℤ◌, Bool, true, false, List, length, take, refl, sym, ap, subst, ◌∙◌}
use Rattle.std.proofs.lemmas.Bool.Decides.{nat_tests}
use Rattle.std.proofs.lemmas.Int.{ints, clamps, to_z-of_z}
use Rattle.chess_model.specs.declared.moves.Move.{Move}
use Rattle.chess_model.specs.Position.{Position}
use Rattle.chess_model.specs.Allowed.{Allowed}
use Rattle.chess_model.specs.AllMoves.{allowed_moves}
use Rattle.variant_rules.specs.Undos.{IsUndoOf}
use Rattle.house_bot.specs.Value.{value, move_value}
use Rattle.house_bot.specs.Searching.{cut, SearchGoesOn, is_tried, raised_by}
use Rattle.house_bot.proofs.Cuts.{negated_fits, negated_given, IsBound-given}
use Rattle.house_bot.proofs.Moves.{allowed_at}
use Rattle.house_bot.proofs.Raises.{raised_in, turn_from, turn_reaches, turn_goes_on, turn_grows, greatest_none, pass_gives, first_pass_reaches, first_pass_from, second_pass_gives}
use Rattle.house_bot.proofs.search.+look_ahead.Goals as goal
use mir.Syntax.{w32}
use mir.Val.{SFits, to_z, of_z}

pub deeper-overflow_sub-result : goal.deeper-overflow_sub-result
deeper-overflow_sub-result t c =
    negated_fits c.in_ok-worth.field-0
    (IsBound-given c.args.low c.args.high (value c.args.depth c.make-undo.new.self) c.in_ok-worth.field-0
    c.requires.window c.in_ok-worth.ensures.value)

pub deeper-returns-clause-same : goal.deeper-returns-clause-same
deeper-returns-clause-same t c =
    let P : Position → Type 0 = λ q. IsUndoOf c.make-undo.result c.args.p.now q in
    c.unmake.ensures c.args.p.now (subst P (sym c.search-worth.ensures.same) c.make-undo.ensures.undo)

pub deeper-returns-clause-value : goal.deeper-returns-clause-value
deeper-returns-clause-value t c =
    negated_given c.args.low c.args.high (value c.args.depth c.make-undo.new.self) c.in_ok-worth.field-0
    c.requires.window c.in_ok-worth.ensures.value
    ∙ ap (λ q. cut c.args.low c.args.high (neg_ℤ (value c.args.depth q))) c.make-undo.ensures.after

pub raised-returns-clause-value : goal.raised-returns-clause-value
raised-returns-clause-value t c =
    let x : ℤ = c.in_ok-worth.worth in
    let w : ℤ = move_value c.args.depth c.args.p.now c.args.m.now in
    let on : is_tried c.args.takes c.args.p.now.men c.args.m.now ≡ true =
    grind (arith, c.is_tried.ensures, c.if-not-is_tried.false) in
    let e : x ≡ cut c.args.low c.args.high w = omega (arith, ints, clamps, c.in_ok-worth.ensures.value) in
    let fits : SFits w32 x = search rules in
    to_z-of_z w32 x fits
    ∙ raised_in (is_tried c.args.takes c.args.p.now.men c.args.m.now) c.args.low c.args.high w x on
    c.requires.window.order e

pub raised_by-raised-requires : goal.raised_by-raised-requires
raised_by-raised-requires t c =
    let p = c.args.p.now in
    let ms : List Move = c.args.moves.now in
    let less : c.loop-m.m-index < length ms = search rules in
    let listed = allowed_at p ms c.loop-m.m-index c.m-item.result c.requires.moves less in
    let P : Move → Type 0 = λ m. Allowed p m in
    let Q : Position → Type 0 = λ q. Allowed q c.m-item.result in
    let allowed : Allowed c.loop-m.p c.m-item.result =
    subst Q (sym c.loop-m.invariant.same) (subst P (sym c.m-item.is) listed) in
    let least = c.loop-m.invariant.least in
    let below = c.loop-m.invariant.below in (
      search rules,
      (
        allowed,
        record {
          from = omega (arith, ints, least, c.requires.window.from);
          order = omega (arith, ints, below);
          to = omega (arith, ints, c.requires.window.to);
        },
      ),
    )

pub raised_by-returns-then-high-best-clause-value : goal.raised_by-returns-then-high-best-clause-value
raised_by-returns-then-high-best-clause-value t c =
    let less : c.loop-m.m-index < length c.args.moves.now = search rules in
    let turn =
    turn_from c.args.depth c.args.takes c.args.p.now c.loop-m.p c.args.low c.args.high c.args.moves.now
    c.loop-m.m-index (to_z w32 c.loop-m.best-bits) c.in_ok-best.best c.m-item.result c.ranges.low c.ranges.high
    c.loop-m.invariant.same c.loop-m.invariant.best c.m-item.is less c.in_ok-best.ensures.value in
    let more : c.args.high ≤ℤ c.in_ok-best.best = omega (arith, ints, c.if-high-best.true) in
    to_z-of_z w32 c.args.high c.ranges.high ∙ turn_reaches turn more

pub raised_by-loop-m-preserved : goal.raised_by-loop-m-preserved
raised_by-loop-m-preserved t c =
    let f : Move → ℤ = move_value c.args.depth c.args.p.now in
    let tried : Move → Bool = is_tried c.args.takes c.args.p.now.men in
    let i : ℕ = c.loop-m.m-index in
    let r : ℤ = c.in_ok-best.best in
    let less : i < length c.args.moves.now = search rules in
    let turn =
    turn_from c.args.depth c.args.takes c.args.p.now c.loop-m.p c.args.low c.args.high c.args.moves.now i
    (to_z w32 c.loop-m.best-bits) r c.m-item.result c.ranges.low c.ranges.high c.loop-m.invariant.same
    c.loop-m.invariant.best c.m-item.is less c.in_ok-best.ensures.value in
    let fits : SFits w32 r = search rules in
    let best_is : to_z w32 (of_z w32 r) ≡ r = to_z-of_z w32 r fits in
    let below : r <ℤ c.args.high = omega (arith, ints, c.if-high-best.false) in
    let grown = turn_grows turn below in
    let least = c.loop-m.invariant.least in
    record {
      same = c.raised.ensures.same ∙ c.loop-m.invariant.same;
      best = best_is ∙ turn_goes_on turn below
          ∙ ap (λ z. raised_by f tried z (take (i + 1) c.args.moves.now))
          (sym (to_z-of_z w32 c.args.low c.ranges.low));
      least = omega (arith, ints, best_is, grown, least);
      below = omega (arith, ints, best_is, below);
    }

pub search-returns-then-is_empty-clause-value : goal.search-returns-then-is_empty-clause-value
search-returns-then-is_empty-clause-value t c =
    let p : Position = c.args.p.now in
    let ahead : SearchGoesOn c.args.depth p = c.in_default.ensures.open in
    let e = ahead.best (c.args.depth - 1) (omega (arith, ahead.left)) in
    let none : length c.in_ok-moves.moves.items ≡ 0 =
    grind (arith, nat_tests, c.is_empty.ensures, c.if-is_empty.true, c.in_ok-moves.moves.ok.0) in
    let zero =
    greatest_none (move_value (c.args.depth - 1) p) (allowed_moves p)
    (sym (ap (λ (l : List Move). length l) c.in_ok-moves.ensures) ∙ none) in
    let r : ℤ = c.clamp-then-is_empty.result in
    let fits : SFits w32 r = search rules in
    let high_is : to_z w32 (of_z w32 c.args.high) ≡ c.args.high = to_z-of_z w32 c.args.high c.ranges.high in
    let low_is : to_z w32 (of_z w32 c.args.low) ≡ c.args.low = to_z-of_z w32 c.args.low c.ranges.low in
    to_z-of_z w32 r fits ∙ c.clamp-then-is_empty.ensures.value ∙ (λ i. cut (low_is i) (high_is i) (pos 0))
    ∙ ap (λ z. cut c.args.low c.args.high z) (sym (e ∙ zero))

pub search-returns-then-high-raised-clause-value : goal.search-returns-then-high-raised-clause-value
search-returns-then-high-raised-clause-value t c =
    let p : Position = c.args.p.now in
    let d : ℕ = c.args.depth - 1 in
    let ms : List Move = allowed_moves p in
    let ahead : SearchGoesOn c.args.depth p = c.in_default.ensures.open in
    let some : 0 < length c.in_ok-moves.moves.items =
    grind (arith, nat_tests, c.is_empty.ensures, c.if-is_empty.false, c.in_ok-moves.moves.ok.0) in
    let some_allowed : 0 < length ms = omega (arith, some, ap (λ (l : List Move). length l) c.in_ok-moves.ensures) in
    let r : ℤ = c.in_ok-raised.raised in
    let first =
    pass_gives d true p p c.args.low c.args.high r c.deref.result.now ms c.ranges.low c.ranges.high refl
    (c.deref.ensures.value ∙ c.in_ok-moves.ensures) c.in_ok-raised.ensures.value in
    let more : c.args.high ≤ℤ r = omega (arith, ints, c.if-high-raised.true) in
    to_z-of_z w32 c.args.high c.ranges.high
    ∙ first_pass_reaches (move_value d p) p.men c.args.low c.args.high r ms c.requires.order some_allowed first more
    ∙ ap (λ z. cut c.args.low c.args.high z) (sym (ahead.best d (omega (arith, ahead.left))))

pub search-raised_by-requires-2 : goal.search-raised_by-requires-2
search-raised_by-requires-2 t c =
    let p : Position = c.args.p.now in
    let d : ℕ = c.args.depth - 1 in
    let ms : List Move = allowed_moves p in
    let ahead : SearchGoesOn c.args.depth p = c.in_default.ensures.open in
    let left = ahead.left in
    let r : ℤ = c.in_ok-raised.raised in
    let first =
    pass_gives d true p p c.args.low c.args.high r c.deref.result.now ms c.ranges.low c.ranges.high refl
    (c.deref.ensures.value ∙ c.in_ok-moves.ensures) c.in_ok-raised.ensures.value in
    let from = first_pass_from (move_value d p) p.men c.args.low c.args.high r ms c.requires.order first in (
      search rules,
      (
        record {
          from = omega (arith, ints, from, c.requires.from);
          order = omega (arith, ints, c.if-high-raised.false);
          to = omega (arith, ints, c.requires.to);
        },
        c.deref-2.ensures.value ∙ c.in_ok-moves.ensures
            ∙ ap (λ (q : Position). allowed_moves q) (sym c.raised_by.ensures.same),
      ),
    )

pub search-returns-clause-value : goal.search-returns-clause-value
search-returns-clause-value t c =
    let p : Position = c.args.p.now in
    let d : ℕ = c.args.depth - 1 in
    let ms : List Move = allowed_moves p in
    let ahead : SearchGoesOn c.args.depth p = c.in_default.ensures.open in
    let some : 0 < length c.in_ok-moves.moves.items =
    grind (arith, nat_tests, c.is_empty.ensures, c.if-is_empty.false, c.in_ok-moves.moves.ok.0) in
    let some_allowed : 0 < length ms = omega (arith, some, ap (λ (l : List Move). length l) c.in_ok-moves.ensures) in
    let r : ℤ = c.in_ok-raised.raised in
    let x : ℤ = c.in_ok-whole.whole in
    let fits : SFits w32 r = search rules in
    let fits_whole : SFits w32 x = search rules in
    let first =
    pass_gives d true p p c.args.low c.args.high r c.deref.result.now ms c.ranges.low c.ranges.high refl
    (c.deref.ensures.value ∙ c.in_ok-moves.ensures) c.in_ok-raised.ensures.value in
    let second =
    pass_gives d false p c.raised_by.new.p r c.args.high x c.deref-2.result.now ms fits c.ranges.high
    c.raised_by.ensures.same (c.deref-2.ensures.value ∙ c.in_ok-moves.ensures) c.in_ok-whole.ensures.value in
    let below : r <ℤ c.args.high = omega (arith, ints, c.if-high-raised.false) in
    to_z-of_z w32 x fits_whole
    ∙ second_pass_gives (move_value d p) p.men c.args.low c.args.high r x ms c.requires.order some_allowed first below
    second
    ∙ ap (λ z. cut c.args.low c.args.high z) (sym (ahead.best d (omega (arith, ahead.left))))
