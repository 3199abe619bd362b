use Rattle.std.proofs.Common.{arith, ◌≡◌, inl, inr, refl, sym, ap, subst, Option, None}
use Rattle.std.specs.Prelude.{slice_set, slice_index_or}
use Rattle.std.specs.Int.{bit_at}
use Rattle.std.proofs.lemmas.Bool.{eqb-true, cases_eq}
use Rattle.std.proofs.lemmas.Nat.Bits.{bit_at-zero}
use Rattle.chess_model.specs.declared.man.Kind.TheVariants.{King}
use Rattle.chess_model.specs.declared.man.Man.{Man}
use Rattle.chess_model.specs.Placement.{IsHeldAs}
use Rattle.bitboard_core.specs.Strikers.{man_place, is_placed}
use Rattle.variant_rules.proofs.CheckLemmas.{at-unwritten}
use Rattle.variant_rules.proofs.SightLemmas.{king-bit}
use Rattle.variant_rules.proofs.kings.is_only_king.Goals as goal

pub returns : goal.returns
returns c none =
    let P = c.args.men.now in
    let k = c.args.c in
    let a = c.args.a in
    let left = c.written.result in
    let empty : left ≡ 0 = eqb-true left 0 none in
    let all = c.written.ensures (is_placed (man_place k King)) P None c.requires c.side.ensures.kings refl in
    record {
      only = λ s ls held. elim (cases_eq s a) [
        | inl same ↦ same
        | inr other ↦
            let there : IsHeldAs k King (slice_index_or (slice_set P a None) s None) =
            subst (λ (man : Option Man). IsHeldAs k King man) (sym (at-unwritten P a s None other)) held in
            absurd (omega
            (arith, king-bit (slice_set P a None) k left s all ls there, ap (λ x. bit_at x s) empty, bit_at-zero s))
      ];
    }
