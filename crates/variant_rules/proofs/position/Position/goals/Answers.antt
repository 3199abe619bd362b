use Rattle.std.proofs.Common.{◌≡◌, ◌≢◌, sym, subst, ◌∙◌}
use lib.Bits.{bit_and}
use Rattle.chess_model.specs.declared.man.Kind.{Kind}
use Rattle.chess_model.specs.declared.man.Kind.TheVariants.{Pawn, Knight, Bishop, Rook, Queen, King}
use Rattle.chess_model.specs.Placement.{man_at, IsHeldAs}
use Rattle.variant_rules.specs.Listing.{IsTargetSet, AreGoals}
use Rattle.variant_rules.proofs.MoveLemmas.{other-goals, pawn-goals, all-goals}
use Rattle.variant_rules.proofs.position.Position.goals.Goals as goal

pub returns-in-Pawn : goal.returns-in-Pawn
returns-in-Pawn c =
    let p = c.args.self.now in
    let a = c.args.a in
    let targets = c.targets-targets.result in
    let e : c.args.k ≡ Pawn = c.in-Pawn.is in
    let held = subst (λ (x : Kind). IsHeldAs p.to_move x (man_at p.men a)) e c.requires.held in
    let all = subst (λ (x : Kind). IsTargetSet p x a targets) e c.targets-targets.ensures in
    subst (λ (x : Kind). AreGoals p x a (bit_and targets c.with_passed_square.result)) (sym e)
    (pawn-goals p a targets c.with_passed_square.result c.args.guard.now held all c.requires.guarded
    c.with_passed_square.ensures)

pub returns-in-King : goal.returns-in-King
returns-in-King c =
    all-goals c.args.self.now c.args.k c.args.a c.targets-targets.result c.requires.held c.targets-targets.ensures

pub returns-in-Knight : goal.returns-in-Knight
returns-in-Knight c =
    let e : c.args.k ≡ Knight = c.in-Knight.is in
    let pawn : c.args.k ≢ Pawn = λ f. let g : Knight ≡ Pawn = sym e ∙ f in cc in
    let king : c.args.k ≢ King = λ f. let g : Knight ≡ King = sym e ∙ f in cc in
    other-goals c.args.self.now c.args.k c.args.a c.targets-targets.result c.args.guard.now pawn king c.requires.held
    c.targets-targets.ensures c.requires.guarded

pub returns-in-Bishop : goal.returns-in-Bishop
returns-in-Bishop c =
    let e : c.args.k ≡ Bishop = c.in-Bishop.is in
    let pawn : c.args.k ≢ Pawn = λ f. let g : Bishop ≡ Pawn = sym e ∙ f in cc in
    let king : c.args.k ≢ King = λ f. let g : Bishop ≡ King = sym e ∙ f in cc in
    other-goals c.args.self.now c.args.k c.args.a c.targets-targets.result c.args.guard.now pawn king c.requires.held
    c.targets-targets.ensures c.requires.guarded

pub returns-in-Rook : goal.returns-in-Rook
returns-in-Rook c =
    let e : c.args.k ≡ Rook = c.in-Rook.is in
    let pawn : c.args.k ≢ Pawn = λ f. let g : Rook ≡ Pawn = sym e ∙ f in cc in
    let king : c.args.k ≢ King = λ f. let g : Rook ≡ King = sym e ∙ f in cc in
    other-goals c.args.self.now c.args.k c.args.a c.targets-targets.result c.args.guard.now pawn king c.requires.held
    c.targets-targets.ensures c.requires.guarded

pub returns-in-Queen : goal.returns-in-Queen
returns-in-Queen c =
    let e : c.args.k ≡ Queen = c.in-Queen.is in
    let pawn : c.args.k ≢ Pawn = λ f. let g : Queen ≡ Pawn = sym e ∙ f in cc in
    let king : c.args.k ≢ King = λ f. let g : Queen ≡ King = sym e ∙ f in cc in
    other-goals c.args.self.now c.args.k c.args.a c.targets-targets.result c.args.guard.now pawn king c.requires.held
    c.targets-targets.ensures c.requires.guarded
