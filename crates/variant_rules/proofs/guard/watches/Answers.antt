use Rattle.std.proofs.Common.{arith, ◌<◌, ℕ, rules, inl, inr, sym, subst, ◌∙◌}
use Rattle.std.proofs.lemmas.Bool.{cases_order, true≢false}
use Rattle.std.proofs.lemmas.Nat.Bits.{bit_at_ones}
use Rattle.chess_model.specs.Placement.{opposite}
use Rattle.chess_model.specs.Attacked.{IsAttacked}
use Rattle.bitboard_core.specs.Sets.{Has}
use Rattle.variant_rules.specs.Checks.{IsBare}
use Rattle.variant_rules.proofs.SightLemmas.{king-bit}
use Rattle.variant_rules.proofs.guard.watches.Goals as goal
use Rattle.bitboard_core.proofs.SafetyLemmas.{Has-king}

pub loop-s-init : goal.loop-s-init
loop-s-init c = record {
  kings = λ t h. h;
  pinned = λ s less king. absurd (c.next_square-s.ensures.first s (omega arith) less king);
  answers = λ b man lb out own. absurd (out (bit_at_ones 64 b lb));
  safe = λ calm s less king. absurd (c.next_square-s.ensures.first s (omega arith) less king);
  check = λ e. absurd (true≢false (sym e));
  here = c.next_square-s.ensures.found;
}

pub loop-s-preserved : goal.loop-s-preserved
loop-s-preserved c =
    let P = c.args.men.now in
    let k = c.args.c in
    let old = c.loop-s.invariant in
    let here : c.square_of.result < 64 = search rules in
    let one = c.watch.ensures in
    let both = c.joined-guard.ensures in
    let king = old.here c.loop-s-test.true in
    let same_square = c.square_of.ensures in
    record {
      kings = λ t h. both.from t (inl (old.kings t h));
      pinned = λ s less held. elim (cases_order s c.loop-s.s) [
        | inl same ↦ record {
          each = λ a la own bare.
              both.from a
              (inr (one.pinned.each a la own (subst (λ (x : ℕ). IsBare P k x a) (same ∙ sym same_square) bare)));
        }
        | inr other ↦ elim other [
          | inl before ↦
              record { each = λ a la own bare. both.from a (inl ((old.pinned s before held).each a la own bare)) }
          | inr after ↦ absurd (c.next_square-s-in-loop-s.ensures.first s (omega (arith, after)) less held)
        ]
      ];
      answers = λ b man lb out own. elim (both.answers b out) [
        | inl left ↦ old.answers b man lb left own
        | inr left ↦ (
          c.square_of.result,
          record {
            square = here;
            held = Has-king P k c.side-kings.result.kings c.square_of.result c.side-kings.ensures.kings here
                (subst (λ (x : ℕ). Has c.side-kings.result.kings x) (sym same_square) king);
            attacked = one.answers.each b man lb left own;
          },
        )
      ];
      safe = λ calm s less held. elim (cases_order s c.loop-s.s) [
        | inl same ↦ λ attacked.
            one.safe (both.safe calm).1
            (subst (λ (x : ℕ). IsAttacked P (opposite k) x) (same ∙ sym same_square) attacked)
        | inr other ↦ elim other [
          | inl before ↦ old.safe (both.safe calm).0 s before held
          | inr after ↦ absurd (c.next_square-s-in-loop-s.ensures.first s (omega (arith, after)) less held)
        ]
      ];
      check = λ e. elim (both.check e) [
        | inl before ↦ old.check before
        | inr mine ↦ (
          c.square_of.result,
          record {
            square = here;
            held = Has-king P k c.side-kings.result.kings c.square_of.result c.side-kings.ensures.kings here
                (subst (λ (x : ℕ). Has c.side-kings.result.kings x) (sym same_square) king);
            attacked = one.check mine;
          },
        )
      ];
      here = c.next_square-s-in-loop-s.ensures.found;
    }

pub returns : goal.returns
returns c =
    let P = c.args.men.now in
    let k = c.args.c in
    let end = c.loop-s-test.false in
    let all = c.loop-s.invariant in
    let kings = c.side-kings.result.kings in
    record {
      kings = λ s ls held. all.kings s (king-bit P k kings s c.side-kings.ensures.kings ls held);
      pinned = λ s ls held.
          all.pinned s (omega (arith, ls, end)) (king-bit P k kings s c.side-kings.ensures.kings ls held);
      answers = all.answers;
      safe = λ calm. record {
        safe = λ s ls check.
            all.safe calm s (omega (arith, ls, end)) (king-bit P k kings s c.side-kings.ensures.kings ls check.0)
            check.1;
      };
      check = λ e safe. let there = all.check e in safe.safe there.0 there.1.square (there.1.held, there.1.attacked);
    }
