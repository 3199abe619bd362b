use Rattle.std.proofs.Common.{ℕ, sym, subst, Option}
use Rattle.chess_model.specs.declared.man.Kind.TheVariants.{Pawn}
use Rattle.variant_rules.specs.Listing.{AreTargets}
use Rattle.variant_rules.proofs.listing.pawn_targets.Goals as goal

pub returns-in-Some : goal.returns-in-Some
returns-in-Some c =
    subst (λ (e : Option ℕ). AreTargets c.args.men.now e c.args.c Pawn c.args.a c.with_passed.result) (sym c.in-Some.is)
    (c.with_passed.ensures c.args.men.now c.reach_of-set.ensures)

pub returns-in-None : goal.returns-in-None
returns-in-None c =
    subst (λ (e : Option ℕ). AreTargets c.args.men.now e c.args.c Pawn c.args.a c.reach_of-set.result)
    (sym c.in-None.is)
    (record { each = c.reach_of-set.ensures.each })
