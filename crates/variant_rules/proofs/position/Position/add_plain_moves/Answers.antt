use Rattle.std.proofs.Common.{arith, ◌≡◌, ◌++◌, ◌<◌, ◌≤◌, ℕ, [], sym, ap, ◌∙◌}
use Rattle.std.proofs.lemmas.List.{append-nil}
use Rattle.chess_model.specs.Position.{Position}
use Rattle.chess_model.specs.Men.{is_held_by}
use Rattle.bitboard_core.specs.Sets.{Has, IsSetOf}
use Rattle.variant_rules.specs.Listing.{moves_from_below, plain_moves_below}
use Rattle.variant_rules.proofs.PartLemmas.{plain-start, plain-step}
use Rattle.variant_rules.proofs.MoveLemmas.{nothing_from, next-more, appended}
use Rattle.variant_rules.proofs.position.Position.add_plain_moves.Goals as goal
use Rattle.bitboard_core.proofs.BitsLemmas.{Has-held}

empty : (p : Position) (own k : ℕ) → IsSetOf (is_held_by p.to_move) p.men own → k < 64 → ¬ Has own k
    → moves_from_below p k 64 ≡ []
empty p own k all lk out = nothing_from p k (λ h. out ((Has-held p.men p.to_move own k all lk).1 h))

pub loop-a-init : goal.loop-a-init
loop-a-init c =
    let out = c.args.out.now.items in
    let p = c.args.self.now in
    let n = c.next_square-a.result in
    let within : n ≤ 64 = c.next_square-a.ensures.within in
    record {
      done = sym (ap (λ x. out ++ x) (plain-start p n (λ k less.
          empty p c.own_squares-own.result k c.own_squares-own.ensures (omega (arith, less, within))
          (c.next_square-a.ensures.first k (omega arith) less)))
          ∙ append-nil out);
      here = c.next_square-a.ensures.found;
      within = within;
    }

pub loop-a-preserved : goal.loop-a-preserved
loop-a-preserved c =
    let p = c.args.self.now in
    let a = c.loop-a.a in
    let n = c.next_square-a-in-loop-a.result in
    let next = c.next_square-a-in-loop-a.ensures in
    let within : n ≤ 64 = next.within in
    let more = plain-step p a n (next-more a n c.loop-a-test.true next.from within) (λ k from less.
    empty p c.own_squares-own.result k c.own_squares-own.ensures (omega (arith, less, within)) (next.first k from less))
    ∙ ap (λ (t : ℕ). plain_moves_below p a ++ moves_from_below p t 64) (sym c.square_of.ensures) in
    record {
      done = c.in_ok-add_moves_from.ensures
          ∙ appended c.args.out.now.items (plain_moves_below p a) (moves_from_below p c.square_of.result 64)
          (plain_moves_below p n)
          c.loop-a.out.items c.loop-a.invariant.done more;
      here = next.found;
      within = within;
    }
