-- What the fields of a `Position` keep.
use Rattle.std.specs.Prelude.{◌≡◌, ◌≢◌, ◌+◌, ◌≤◌, length}
use Rattle.chess_model.specs.declared.variant.Variant.TheVariants.{Bughouse}
use Rattle.chess_model.specs.Census.{men_on, men_in}
use Rattle.variant_rules.specs.declared.position.Position.TheInside.{Inside}

-- 64 squares, and where no man comes from another board no more men on them and in the two hands than two sets have
pub record IsOfTwoSets (b : Inside) : Type 0 where
  pub squares : length b.men ≡ 64
  pub men : b.variant ≢ Bughouse → men_on b.men + (men_in b.white + men_in b.black) ≤ 32
