use Rattle.std.proofs.Common.{◌≡◌, ℕ, eqb, sym, ap, ◌∙◌, arith}
use Rattle.tourney_desk.specs.Pairing.{is_paired}
use Rattle.tourney_desk.proofs.Paired.{paired_less, paired_more, unpaired_black, unpaired_same, unpaired_white}
use Rattle.tourney_desk.proofs.pairing.is_paired.Goals as goal

pub returns-then-white-players : goal.returns-then-white-players
returns-then-white-players c =
    sym (unpaired_white c.args.players c.args.white c.args.black c.requires c.if-white-players.true)

pub returns-then-black-players : goal.returns-then-black-players
returns-then-black-players c =
    sym (unpaired_black c.args.players c.args.white c.args.black c.requires c.if-black-players.true)

pub returns-then-white-black : goal.returns-then-white-black
returns-then-white-black c =
    ap (λ (p : ℕ × ℕ). eqb p.0 c.args.white) c.as_pair.ensures
    ∙ sym (paired_less c.args.players c.args.white c.args.black c.if-black-players.false c.if-white-black.true)

pub returns-then-black-white : goal.returns-then-black-white
returns-then-black-white c =
    ap (λ (p : ℕ × ℕ). eqb p.0 c.args.white) c.as_pair-then-black-white.ensures
    ∙ sym (paired_more c.args.players c.args.white c.args.black c.if-white-players.false c.if-black-white.true)

pub returns : goal.returns
returns c =
    let same : c.args.white ≡ c.args.black = omega (arith, c.if-white-black.false, c.if-black-white.false) in
    sym (ap (λ b. is_paired c.args.players c.args.white b) (sym same)
    ∙ unpaired_same c.args.players c.args.white c.requires)
