use Rattle.std.proofs.Common.{◌≢◌, ◌<◌, rules, inl, inr, sym}
use Rattle.bitboard_core.proofs.SetLemmas.{Has-and_both}
use Rattle.variant_rules.proofs.CheckLemmas.{has_or_not, stops-near, stops-far}
use Rattle.variant_rules.proofs.guard.stops.Goals as goal

pub returns : goal.returns
returns c =
    let P = c.args.men.now in
    let s = c.args.s in
    let x = c.args.x in
    let ls : c.args.s < 64 = search rules in
    let lx : c.args.x < 64 = search rules in
    let near = c.queen_squares.ensures P c.args.c c.occupied-occupied.ensures in
    let far = c.queen_squares-2.ensures P c.args.c c.occupied-occupied.ensures in
    record {
      each = λ b man lb out own strikes.
          let other : x ≢ b = λ e. out ((c.with_square.ensures b lb).1 (inr (sym e))) in
          elim (has_or_not c.queen_squares.result b) [
            | inr left ↦
                stops-near P c.args.c s x b man c.requires ls lx lb own other (λ h. left ((near.each b lb).1 h)) strikes
            | inl seen ↦ stops-far P c.args.c s x b man c.requires ls lx lb own other
                (λ h.
                out ((c.with_square.ensures b lb).1
                (inl (Has-and_both c.queen_squares.result c.queen_squares-2.result b seen ((far.each b lb).1 h)))))
                strikes
          ];
    }
