use Rattle.std.proofs.Common.{inl, inr, sym, ◌∙◌}
use Rattle.bitboard_core.proofs.SetLemmas.{Has-or_left, Has-or_right, Has-and_both}
use Rattle.variant_rules.proofs.CheckLemmas.{has_or_not}
use Rattle.variant_rules.proofs.guard.joined.Goals as goal
use Rattle.std.proofs.lemmas.Bool.{or_parts, or_cases}

pub returns : goal.returns
returns c =
    let one = c.args.one in
    let two = c.args.two in
    record {
      from = λ t h. elim h [ inl a ↦ Has-or_left one.from two.from t a | inr b ↦ Has-or_right one.from two.from t b ];
      answers = λ t out. elim (has_or_not one.answers t) [
        | inr left ↦ inl left
        | inl a ↦
            elim (has_or_not two.answers t) [
              | inr left ↦ inr left
              | inl b ↦ absurd (out (Has-and_both one.answers two.answers t a b))
            ]
      ];
      safe = λ e. or_parts one.in_check two.in_check (sym c.either.ensures ∙ e);
      check = λ e. or_cases one.in_check two.in_check (sym c.either.ensures ∙ e);
    }
