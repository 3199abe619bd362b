use Rattle.std.proofs.Common.{arith, ◌++◌, ◌≤◌, ℕ, sym, ap, ◌∙◌}
use Rattle.std.proofs.lemmas.Bool.{true≢false}
use Rattle.std.proofs.lemmas.List.{append-nil}
use Rattle.chess_model.specs.declared.moves.Move.TheVariants.{Drop}
use Rattle.variant_rules.specs.Listing.{drops_below, if_allowed}
use Rattle.variant_rules.proofs.PartLemmas.{if_allowed-not, drops-start, drops-step}
use Rattle.variant_rules.proofs.WholeList.{no-drops-of}
use Rattle.variant_rules.proofs.MoveLemmas.{next-more, appended}
use Rattle.variant_rules.proofs.position.Position.add_drops_of.Goals as goal

pub returns-then-not-has_in_hand : goal.returns-then-not-has_in_hand
returns-then-not-has_in_hand c =
    let out = c.args.out.now.items in
    sym (ap (λ x. out ++ x) (no-drops-of c.args.self.now c.args.k
    (λ t move. true≢false (sym (c.has_in_hand.ensures.1 move.held) ∙ c.if-not-has_in_hand.true))) ∙ append-nil out)

pub loop-t-init : goal.loop-t-init
loop-t-init c =
    let out = c.args.out.now.items in
    let p = c.args.self.now in
    let n = c.next_square-t.result in
    let within : n ≤ 64 = c.next_square-t.ensures.within in
    record {
      done = sym (ap (λ x. out ++ x) (drops-start p c.args.k n (λ t less.
          if_allowed-not p (Drop c.args.k t)
          (c.free_squares-free.ensures c.args.k t (omega (arith, less, within))
          (c.next_square-t.ensures.first t (omega arith) less))))
          ∙ append-nil out);
      here = c.next_square-t.ensures.found;
      within = within;
    }

pub loop-t-preserved : goal.loop-t-preserved
loop-t-preserved c =
    let p = c.args.self.now in
    let k = c.args.k in
    let t = c.loop-t.t in
    let n = c.next_square-t-in-loop-t.result in
    let next = c.next_square-t-in-loop-t.ensures in
    let within : n ≤ 64 = next.within in
    let more = drops-step p k t n (next-more t n c.loop-t-test.true next.from within) (λ u from less.
    if_allowed-not p (Drop k u)
    (c.free_squares-free.ensures k u (omega (arith, less, within)) (next.first u from less)))
    ∙ ap (λ (u : ℕ). drops_below p k t ++ if_allowed p (Drop k u)) (sym c.square_of.ensures) in
    record {
      done = c.in_ok-add_drop.ensures
          ∙ appended c.args.out.now.items (drops_below p k t) (if_allowed p (Drop k c.square_of.result))
          (drops_below p k n)
          c.loop-t.out.items c.loop-t.invariant.done more;
      here = next.found;
      within = within;
    }
