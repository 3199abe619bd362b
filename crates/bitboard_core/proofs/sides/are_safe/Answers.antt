use Rattle.std.proofs.Common.{ℕ, subst, sym, ◌∙◌}
use Rattle.std.proofs.lemmas.Bool.{true≢false}
use Rattle.chess_model.specs.Attacked.{IsAttacked}
use Rattle.bitboard_core.proofs.SafetyLemmas.{checked-start, checked-more, unsafe-one}
use Rattle.bitboard_core.proofs.sides.are_safe.Goals as goal

pub loop-s-init : goal.loop-s-init
loop-s-init c = record {
  checked =
      checked-start c.args.side.now c.args.by c.args.occupied c.args.kings c.next_square-s.result
      c.next_square-s.ensures.first;
  found = c.next_square-s.ensures.found;
}

pub returns-then-is_struck : goal.returns-then-is_struck
returns-then-is_struck c P men all own =
    let struck : IsAttacked P c.args.by c.square_of.result = (c.is_struck.ensures P men all).0 c.if-is_struck.true in
    let attacked : IsAttacked P c.args.by c.loop-s.s =
    subst (λ (s : ℕ). IsAttacked P c.args.by s) c.square_of.ensures struck in (
      λ f. absurd (true≢false (sym f)),
      λ safe.
          absurd (unsafe-one P c.args.by c.args.kings c.loop-s.s own c.loop-s-test.true
          (c.loop-s.invariant.found c.loop-s-test.true) attacked safe),
    )

pub loop-s-preserved : goal.loop-s-preserved
loop-s-preserved c = record {
  checked =
      checked-more c.args.side.now c.args.by c.args.occupied c.args.kings c.loop-s.s c.next_square-s-in-loop-s.result
      c.loop-s.invariant.checked
      (λ P men all attacked.
      let here : IsAttacked P c.args.by c.square_of.result =
      subst (λ (s : ℕ). IsAttacked P c.args.by s) (sym c.square_of.ensures) attacked in
      absurd (true≢false (sym ((c.is_struck.ensures P men all).1 here) ∙ c.if-is_struck.false)))
      c.next_square-s-in-loop-s.ensures.first;
  found = c.next_square-s-in-loop-s.ensures.found;
}
