-- The sets by which kings see, after a square has changed.
use Rattle.std.proofs.Common.{arith, ◌≡◌, ◌≢◌, ◌&&◌, ℕ, ◌<◌, ◌^◌, nat_eq, is_some, refl, sym, ap, ◌∙◌, Option, Some, None, w64}
use Rattle.std.specs.Bool.{Decides}
use Rattle.std.specs.Int.{bit_not}
use Rattle.std.proofs.lemmas.Bool.Decides.{Decides-eqb, Decides-and, Decides-like, same_from_decides}
use Rattle.std.proofs.lemmas.Nat.Bits.{bit_at_not}
use Rattle.chess_model.specs.declared.man.Colour.{Colour}
use Rattle.chess_model.specs.declared.man.Kind.{Kind}
use Rattle.chess_model.specs.declared.man.Kind.TheVariants.{King}
use Rattle.chess_model.specs.declared.man.Man.{Man}
use Rattle.chess_model.specs.Men.{same_colour, same_kind, is_held_as}
use Rattle.chess_model.specs.Placement.{Placement, man_at, IsHeldAs}
use Rattle.chess_model.proofs.TestsDecide.{Decides-colour, Decides-kind, Decides-held_as}
use Rattle.bitboard_core.specs.Sets.{Has, bit_if}
use Rattle.bitboard_core.specs.Strikers.{man_place, is_placed, IsOccupied, AreKingsOf}
use Rattle.bitboard_core.proofs.SetLemmas.{bit_if-of_true}
use Rattle.bitboard_core.proofs.StrikerLemmas.{same_place}

-- a man's set is that of its colour and kind
pub held-placed : (c : Colour) (k : Kind) (man : Option Man) → is_held_as c k man ≡ is_placed (man_place c k) man
held-placed c k None = refl
held-placed c k (Some m) =
    let here = man_place m.colour m.kind in
    let both : Decides (same_colour m.colour c && same_kind m.kind k) ((m.colour ≡ c) × (m.kind ≡ k)) =
    Decides-and (same_colour m.colour c) (same_kind m.kind k) (Decides-colour m.colour c) (Decides-kind m.kind k) in
    same_from_decides (same_colour m.colour c && same_kind m.kind k) (nat_eq here (man_place c k)) both
    (Decides-like {P = here ≡ man_place c k} (nat_eq here (man_place c k))
    (λ e. same_place m.colour c m.kind k e) (λ h i. man_place (h.0 i) (h.1 i)) (Decides-eqb here (man_place c k)))

-- the set of a colour's kings has each of them
pub king-bit : (P : Placement) (c : Colour) (kings s : ℕ) → AreKingsOf P c kings → s < 64 → IsHeldAs c King (man_at P s)
    → Has kings s
king-bit P c kings s all ls held =
    all.each s ls
    ∙ bit_if-of_true (is_placed (man_place c King) (man_at P s))
    (sym (held-placed c King (man_at P s)) ∙ (Decides-held_as c King (man_at P s)).1 held)

-- of all squares outside the set of the occupied ones none is occupied
pub free-bit : (P : Placement) (occupied s : ℕ) → occupied < 2 ^ 64 → IsOccupied P occupied → s < 64
    → ¬ Has (bit_not w64 occupied) s →
    man_at P s ≢ None
free-bit P occupied s fits all ls out free =
    out
    (omega (arith, bit_at_not w64 occupied s fits ls, all.each s ls ∙ ap (λ (o : Option Man). bit_if (is_some o)) free))
