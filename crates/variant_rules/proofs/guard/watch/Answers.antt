use Rattle.std.proofs.Common.{ℕ, not, nat_eq, sym, ap, subst, ◌∙◌}
use Rattle.std.proofs.lemmas.Bool.{true≢false}
use Rattle.std.proofs.lemmas.Nat.Bits.{bit_at_ones}
use Rattle.chess_model.specs.declared.man.Colour.{Colour}
use Rattle.bitboard_core.specs.Strikers.{IsStrikerSet}
use Rattle.bitboard_core.proofs.SafetyLemmas.{struck-is}
use Rattle.chess_model.specs.Placement.{opposite}
use Rattle.variant_rules.proofs.CheckLemmas.{some-not}
use Rattle.variant_rules.proofs.guard.watch.Goals as goal

pub returns-then-checkers-ne0 : goal.returns-then-checkers-ne0
returns-then-checkers-ne0 c = record {
  pinned = record { each = λ a la own bare. bit_at_ones 64 a la };
  answers = c.answers.ensures;
  safe = λ e. absurd (true≢false e);
  check = λ e.
      (struck-is c.args.men.now (opposite c.args.c) c.args.s c.strikers-checkers.result c.strikers-checkers.type_inv
      (subst (λ (x : Colour). IsStrikerSet c.args.men.now x c.args.s c.strikers-checkers.result)
      c.opposite-enemy.ensures
      (c.strikers-checkers.ensures c.args.men.now c.side.ensures c.occupied.ensures))).0
      (some-not c.strikers-checkers.result c.if-checkers-ne0.true);
}

pub pinned-requires-clause-safe : goal.pinned-requires-clause-safe
pinned-requires-clause-safe c attacked =
    let P = c.args.men.now in
    let checkers = c.strikers-checkers.result in
    let all = subst (λ (x : Colour). IsStrikerSet P x c.args.s checkers) c.opposite-enemy.ensures
    (c.strikers-checkers.ensures P c.side.ensures c.occupied.ensures) in
    true≢false (sym ((struck-is P (opposite c.args.c) c.args.s checkers c.strikers-checkers.type_inv all).1 attacked)
    ∙ ap (λ (x : ℕ). not (nat_eq x 0)) c.if-checkers-ne0.false)

pub returns : goal.returns
returns c =
    let P = c.args.men.now in
    let checkers = c.strikers-checkers.result in
    let all = subst (λ (x : Colour). IsStrikerSet P x c.args.s checkers) c.opposite-enemy.ensures
    (c.strikers-checkers.ensures P c.side.ensures c.occupied.ensures) in
    record {
      pinned = c.pinned.ensures;
      answers = record { each = λ b man lb out own. absurd (out (bit_at_ones 64 b lb)) };
      safe = λ e attacked.
          true≢false (sym
          ((struck-is P (opposite c.args.c) c.args.s checkers c.strikers-checkers.type_inv all).1 attacked)
          ∙ ap (λ (x : ℕ). not (nat_eq x 0)) c.if-checkers-ne0.false);
      check = λ e. absurd (true≢false (sym e));
    }
