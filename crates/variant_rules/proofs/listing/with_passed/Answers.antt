use Rattle.std.proofs.Common.{ℕ, inl, inr, sym, subst, ◌∙◌}
use Rattle.std.proofs.lemmas.Bool.{true≢false}
use Rattle.chess_model.specs.declared.man.Kind.TheVariants.{Pawn}
use Rattle.chess_model.specs.Reach.{Strikes}
use Rattle.variant_rules.proofs.ReachLemmas.{passed-adds}
use Rattle.variant_rules.proofs.listing.with_passed.Goals as goal

pub returns-then-has_square : goal.returns-then-has_square
returns-then-has_square c P all =
    let struck = (c.pawn_squares.ensures P).each c.args.s c.has_square.ensures.within in
    let strikes : Strikes P c.args.c Pawn c.args.a c.args.s =
    struck.0 (c.has_square.ensures.value.0 c.if-has_square.true) in
    record {
      each = λ t lt.
          let e = passed-adds P c.args.c c.args.a c.args.s t in
          let more = c.with_square.ensures t lt in (
            λ h. elim (more.0 h) [
              | inl old ↦ e.0 (inl ((all.each t lt).0 old))
              | inr same ↦ e.0 (inr (same, subst (λ (x : ℕ). Strikes P c.args.c Pawn c.args.a x) (sym same) strikes))
            ],
            λ r. elim (e.1 r) [ inl old ↦ more.1 (inl ((all.each t lt).1 old)) | inr new ↦ more.1 (inr new.0) ],
          );
    }

pub returns-else-has_square : goal.returns-else-has_square
returns-else-has_square c P all =
    let struck = (c.pawn_squares.ensures P).each c.args.s c.has_square.ensures.within in
    record {
      each = λ t lt.
          let e = passed-adds P c.args.c c.args.a c.args.s t in (
            λ h. e.0 (inl ((all.each t lt).0 h)),
            λ r. elim (e.1 r) [
              | inl old ↦ (all.each t lt).1 old
              | inr new ↦ absurd (true≢false (sym (c.has_square.ensures.value.1
                  (struck.1 (subst (λ (x : ℕ). Strikes P c.args.c Pawn c.args.a x) new.0 new.1)))
                  ∙ c.if-has_square.false))
            ],
          );
    }
