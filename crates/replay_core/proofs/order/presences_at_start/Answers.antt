use Rattle.std.proofs.Common.{◌≡◌, Bool, false, cond, ltb, arith, sym, ◌∙◌, ap, refl}
use Rattle.std.proofs.lemmas.Bool.{le-ltb}
use Rattle.std.proofs.lemmas.List.{get_or-replicate}
use Rattle.replay_core.specs.declared.order.Presence.TheVariants.{Away, Here}
use Rattle.replay_core.proofs.order.presences_at_start.Goals as goal

-- all are away
pub loop-place-init : goal.loop-place-init
loop-place-init c = record {
  len = refl;
  each = λ place d lt.
      let none : ltb place 0 ≡ false = le-ltb place 0 (omega arith) in
      get_or-replicate 64 place Away d lt ∙ sym (ap (λ (b : Bool). cond b Here Away) none);
}
