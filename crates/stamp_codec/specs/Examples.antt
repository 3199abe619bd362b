-- Stamped lines worked out by hand, and by another program.
use Rattle.std.specs.Prelude.{◌≡◌, ℕ, List, [], ◌∷◌, codes, Some, None, refl}
use Rattle.std.specs.Fmt.{digits}
use Rattle.stamp_codec.specs.Message.{Text}
use Rattle.stamp_codec.specs.Spelling.{body, padded, swapped, stamped_line}
use Rattle.stamp_codec.specs.Opening.{opened}

-- the text `a` with stamp 0, step by step
padded_letter : padded (body (codes "a") 0) ≡ 0x61 ∷ 0x18 ∷ 0x30 ∷ 0x19 ∷ codes "11111111"
unfolding digits
padded_letter = refl

swapped_places : swapped (codes "ABCDEFGHIJKLab") ≡ codes "LBJDHFGEICKAab"
swapped_places = refl

abbrev letter_line : List ℕ
letter_line = 0xC5 ∷ 0xD1 ∷ 0xBC ∷ 0xDC ∷ 0xA2 ∷ 0xA5 ∷ 0xB0 ∷ 0xBC ∷ 0xA1 ∷ 0x70 ∷ 0x79 ∷ 0x87 ∷ 0x80 ∷ []

spelled_letter : stamped_line (Text (codes "a") 0) ≡ letter_line
unfolding digits
spelled_letter = refl

opened_letter : opened letter_line ≡ Some (Text (codes "a") 0)
unfolding digits
opened_letter = refl

-- a pad that is `0`
opened_pad : opened (0xC4 ∷ 0xD1 ∷ 0xBC ∷ 0xDC ∷ 0xA2 ∷ 0xA5 ∷ 0xB0 ∷ 0xBC ∷ 0xA1 ∷ 0x70 ∷ 0x79 ∷ 0x87 ∷ 0x80 ∷ [])
    ≡ None
unfolding digits
opened_pad = refl

opened_nothing : opened [] ≡ None
unfolding digits
opened_nothing = refl
