use Rattle.std.proofs.Common.{arith, ℕ, inl, inr, sym, subst, ◌∙◌}
use Rattle.std.proofs.lemmas.Bool.{cases_order}
use Rattle.chess_model.specs.declared.man.Kind.TheVariants.{Queen}
use Rattle.chess_model.specs.Reach.{Strikes}
use Rattle.bitboard_core.proofs.SetLemmas.{Has-or_left, Has-or_right}
use Rattle.variant_rules.proofs.guard.seen_from.Goals as goal

pub loop-s-init : goal.loop-s-init
loop-s-init c = record {
  each = λ x t less lt here strikes. absurd (c.next_square-s.ensures.first x (omega arith) less here);
}

pub loop-s-preserved : goal.loop-s-preserved
loop-s-preserved c =
    let q = c.queen_squares-set.result in
    let old = c.loop-s.set in
    record {
      each = λ x t less lt here strikes. elim (cases_order x c.loop-s.s) [
        | inl same ↦
            let from : Strikes c.args.men.now c.args.c Queen c.square_of.result t =
            subst (λ (y : ℕ). Strikes c.args.men.now c.args.c Queen y t) (same ∙ sym c.square_of.ensures) strikes in
            Has-or_right old q t
            (((c.queen_squares-set.ensures c.args.men.now c.args.c c.occupied-occupied.ensures).each t lt).1 from)
        | inr other ↦ elim other [
          | inl before ↦ Has-or_left old q t (c.loop-s.invariant.each x t before lt here strikes)
          | inr after ↦ absurd (c.next_square-s-in-loop-s.ensures.first x (omega (arith, after)) less here)
        ]
      ];
    }

pub returns : goal.returns
returns c = record {
  each = λ x t lx lt here strikes. c.loop-s.invariant.each x t (omega (arith, lx, c.loop-s-test.false)) lt here strikes;
}
