use Rattle.std.proofs.Common.{◌<◌, ℕ, rules, inl, inr, sym, subst}
use Rattle.std.proofs.lemmas.Nat.Bits.{bit_at_ones}
use Rattle.chess_model.specs.Placement.{opposite}
use Rattle.chess_model.specs.Attacked.{StrikesFrom}
use Rattle.bitboard_core.proofs.SetLemmas.{Has-and_both}
use Rattle.variant_rules.proofs.CheckLemmas.{has_or_not, attack-of}
use Rattle.variant_rules.proofs.guard.answers.Goals as goal

pub loop-x-init : goal.loop-x-init
loop-x-init c = record {
  all = record { each = λ b man lb out own. absurd (out (bit_at_ones 64 b lb)) };
  here = c.next_square-x.ensures.found;
}

pub loop-x-preserved : goal.loop-x-preserved
loop-x-preserved c =
    let P = c.args.men.now in
    let by = opposite c.args.c in
    let x = c.loop-x.x in
    let old = c.loop-x.set in
    let more = c.stops-set.result in
    let lx = c.loop-x-test.true in
    let strikes : StrikesFrom P by x c.args.s = (c.requires.checkers.each x lx).0 (c.loop-x.invariant.here lx) in
    let strikes_here : StrikesFrom P by c.square_of.result c.args.s =
    subst (λ (y : ℕ). StrikesFrom P by y c.args.s) (sym c.square_of.ensures) strikes in
    record {
      all = record {
        each = λ b man lb out own. elim (has_or_not old b) [
          | inr left ↦ c.loop-x.invariant.all.each b man lb left own
          | inl before ↦ elim (has_or_not more b) [
            | inl both ↦ absurd (out (Has-and_both old more b before both))
            | inr left ↦
                attack-of _ by c.square_of.result c.args.s (let l : c.square_of.result < 64 = search rules in l)
                (c.stops-set.ensures.each b man lb left own strikes_here)
          ]
        ];
      };
      here = c.next_square-x-in-loop-x.ensures.found;
    }
