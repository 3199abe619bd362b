-- A half-move and its taking back, square by square.
use Rattle.std.proofs.Common.{arith, ◌≡◌, ◌≢◌, ℕ, ◌+◌, ◌<◌, ◌≤◌, ◌⊎◌, refl, sym, ap, ◌∙◌, inl, inr, None, length}
use Rattle.std.specs.Prelude.{slice_set}
use Rattle.std.proofs.lemmas.Bool.{cases_order, cases_eq}
use Rattle.std.proofs.lemmas.List.{length-set, get_or-set_other, get_or-set_same, get_or_default, same_lists}
use Rattle.chess_model.specs.declared.man.Colour.{Colour}
use Rattle.chess_model.specs.declared.moves.Move.{Move}
use Rattle.chess_model.specs.declared.moves.Move.TheVariants.{Plain, Castle, Drop}
use Rattle.chess_model.specs.declared.variant.Variant.{Variant}
use Rattle.chess_model.specs.Placement.{Placement, man_at, opposite, unpromoted, king_home, rook_home, king_end, rook_end}
use Rattle.chess_model.specs.MoveList.{place_after, taking_square, landed}
use Rattle.variant_rules.specs.declared.make.Squares.{Squares}
use Rattle.chess_model.specs.declared.variant.Variant.TheVariants.{Bughouse}
use Rattle.chess_model.specs.Census.{men_on, men_in}
use Rattle.chess_model.specs.Position.{Position}
use Rattle.chess_model.specs.Next.{next}
use Rattle.chess_model.proofs.NoMoreMen.{length-place_after}
use Rattle.variant_rules.specs.declared.make.Undo.{Undo}
use Rattle.variant_rules.specs.Undos.{changed_squares, DifferOn, StoodIn, IsUndoOf}
use Rattle.chess_model.proofs.ChessLaws.{opposite-opposite}

pub differ-after : (v : Variant) (P : Placement) (c : Colour) (m : Move) →
    DifferOn P (place_after v P c m) (changed_squares v P c m).one (changed_squares v P c m).two
    (changed_squares v P c m).three (changed_squares v P c m).four
differ-after v P c (Plain a b promo) = record {
  others = λ s na nb nc nd.
      get_or-set_other (slice_set (slice_set P (taking_square P a b) None) a None) b s (landed (man_at P a) promo) None
      nc
      ∙ get_or-set_other (slice_set P (taking_square P a b) None) a s None None nb
      ∙ get_or-set_other P (taking_square P a b) s None None na;
}
differ-after v P c (Castle long) =
    let k = king_home v c in
    let r = rook_home v c long in
    let x = king_end c long in
    let y = rook_end c long in
    record {
      others = λ s na nb nc nd.
          get_or-set_other (slice_set (slice_set (slice_set P k None) r None) x (man_at P k)) y s (man_at P r) None nd
          ∙ get_or-set_other (slice_set (slice_set P k None) r None) x s (man_at P k) None nc
          ∙ get_or-set_other (slice_set P k None) r s None None nb
          ∙ get_or-set_other P k s None None na;
    }
differ-after v P c (Drop k to) = record { others = λ s na nb nc nd. get_or-set_other P to s (unpromoted c k) None na }

-- one square set to what the first placement has there: it doesn't differ on that square any more
set_back : (P X : Placement) (a s : ℕ) → s < length X → man_at X s ≡ man_at P s ⊎ (s ≡ a)
    → man_at (slice_set X a (man_at P a)) s ≡ man_at P s
set_back P X a s less h = elim (cases_order s a) [
  | inl same ↦ ap (man_at (slice_set X a (man_at P a))) same
      ∙ get_or-set_same X a (man_at P a) None (omega (arith, same, less)) ∙ ap (man_at P) (sym same)
  | inr other ↦
      let apart : s ≢ a = elim other [ inl l ↦ omega (arith, l) | inr l ↦ omega (arith, l) ] in
      get_or-set_other X a s (man_at P a) None apart ∙ elim h [ inl e ↦ e | inr e ↦ absurd (apart e) ]
]

module _ (P Q : Placement) (a b c d : ℕ) (size : length P ≡ 64) (kept : length Q ≡ 64)
    (differ : DifferOn P Q a b c d) where
  one : Placement
  one = slice_set Q a (man_at P a)

  two : Placement
  two = slice_set one b (man_at P b)

  three : Placement
  three = slice_set two c (man_at P c)

  four : Placement
  four = slice_set three d (man_at P d)

  size_one : length one ≡ 64
  unfolding one
  size_one = length-set Q a (man_at P a) ∙ kept

  size_two : length two ≡ 64
  unfolding two
  size_two = length-set one b (man_at P b) ∙ size_one

  size_three : length three ≡ 64
  unfolding three
  size_three = length-set two c (man_at P c) ∙ size_two

  size_four : length four ≡ 64
  unfolding four
  size_four = length-set three d (man_at P d) ∙ size_three

  -- where a square is set once, it stays so
  at_one : (s : ℕ) → s < 64 → (s ≡ a) ⊎ (man_at Q s ≡ man_at P s) → man_at one s ≡ man_at P s
  unfolding one
  at_one s ls h = set_back P Q a s (omega (arith, ls, kept)) (elim h [ inl e ↦ inr e | inr e ↦ inl e ])

  at_two : (s : ℕ) → s < 64 → (s ≡ b) ⊎ (man_at one s ≡ man_at P s) → man_at two s ≡ man_at P s
  unfolding two
  at_two s ls h = set_back P one b s (omega (arith, ls, size_one)) (elim h [ inl e ↦ inr e | inr e ↦ inl e ])

  at_three : (s : ℕ) → s < 64 → (s ≡ c) ⊎ (man_at two s ≡ man_at P s) → man_at three s ≡ man_at P s
  unfolding three
  at_three s ls h = set_back P two c s (omega (arith, ls, size_two)) (elim h [ inl e ↦ inr e | inr e ↦ inl e ])

  at_four : (s : ℕ) → s < 64 → (s ≡ d) ⊎ (man_at three s ≡ man_at P s) → man_at four s ≡ man_at P s
  unfolding four
  at_four s ls h = set_back P three d s (omega (arith, ls, size_three)) (elim h [ inl e ↦ inr e | inr e ↦ inl e ])

  each_back : (s : ℕ) → s < 64 → man_at four s ≡ man_at P s
  each_back s ls = elim (cases_eq s d) [
    | inl e ↦ at_four s ls (inl e)
    | inr nd ↦ at_four s ls (inr (elim (cases_eq s c) [
      | inl e ↦ at_three s ls (inl e)
      | inr nc ↦ at_three s ls (inr (elim (cases_eq s b) [
        | inl e ↦ at_two s ls (inl e)
        | inr nb ↦ at_two s ls (inr (elim (cases_eq s a) [
          | inl e ↦ at_one s ls (inl e)
          | inr na ↦ at_one s ls (inr (differ.others s na nb nc nd))
        ]))
      ]))
    ]))
  ]

-- lists of 64 that agree at each square are one
pub same_placement : (P Q : Placement) → length P ≡ 64 → length Q ≡ 64 → ((s : ℕ) → s < 64 → man_at P s ≡ man_at Q s)
    → P ≡ Q
same_placement P Q size kept each = same_lists P Q (size ∙ sym kept) (λ k d lk.
    let l : k < 64 = omega (arith, lk, size) in
    let lq : k < length Q = omega (arith, lk, size, kept) in
    get_or_default P k d None lk ∙ each k l ∙ get_or_default Q k None d lq)

pub set_four_back : (P Q : Placement) (a b c d : ℕ) → length P ≡ 64 → length Q ≡ 64 → DifferOn P Q a b c d →
    slice_set (slice_set (slice_set (slice_set Q a (man_at P a)) b (man_at P b)) c (man_at P c)) d (man_at P d) ≡ P
unfolding four three two one
set_four_back P Q a b c d size kept differ =
    same_placement (four P Q a b c d size kept differ) P (size_four P Q a b c d size kept differ) size
    (each_back P Q a b c d size kept differ)

-- what was kept, from its parts
pub undo_made : (p : Position) (m : Move) (u : Undo) (squares : Squares) → length p.men ≡ 64 →
    (p.variant ≢ Bughouse → men_on p.men + (men_in p.white + men_in p.black) ≤ 32) →
    squares ≡ changed_squares p.variant p.men p.to_move m →
    u.first.on ≡ squares.one → u.second.on ≡ squares.two → u.third.on ≡ squares.three → u.fourth.on ≡ squares.four →
    StoodIn p.men u.first → StoodIn p.men u.second → StoodIn p.men u.third → StoodIn p.men u.fourth →
    u.en_passant ≡ p.en_passant → u.rights ≡ p.rights → u.quiet ≡ p.quiet → u.white ≡ p.white → u.black ≡ p.black →
    IsUndoOf u p (next p m)
undo_made p m u squares size few which on1 on2 on3 on4 s1 s2 s3 s4 passed rights quiet white black =
    let differ = differ-after p.variant p.men p.to_move m in
    let one : u.first.on ≡ (changed_squares p.variant p.men p.to_move m).one =
    on1 ∙ ap (λ (q : Squares). q.one) which in
    let two : u.second.on ≡ (changed_squares p.variant p.men p.to_move m).two =
    on2 ∙ ap (λ (q : Squares). q.two) which in
    let three : u.third.on ≡ (changed_squares p.variant p.men p.to_move m).three =
    on3 ∙ ap (λ (q : Squares). q.three) which in
    let four : u.fourth.on ≡ (changed_squares p.variant p.men p.to_move m).four =
    on4 ∙ ap (λ (q : Squares). q.four) which in
    record {
      size = size;
      kept_size = length-place_after p.variant p.men p.to_move m ∙ size;
      few = few;
      others = record {
        others = λ s na nb nc nd.
            differ.others s (λ e. na (e ∙ sym one)) (λ e. nb (e ∙ sym two)) (λ e. nc (e ∙ sym three))
            (λ e. nd (e ∙ sym four));
      };
      first = s1;
      second = s2;
      third = s3;
      fourth = s4;
      variant = refl;
      to_move = refl;
      en_passant = passed;
      rights = rights;
      quiet = quiet;
      white = white;
      black = black;
    }

-- the men after the taking back
pub men_back : (u : Undo) (p q : Position) → IsUndoOf u p q →
    slice_set
    (slice_set (slice_set (slice_set q.men u.first.on u.first.man) u.second.on u.second.man) u.third.on u.third.man)
    u.fourth.on u.fourth.man
    ≡ p.men
men_back u p q h =
    (λ i.
    slice_set
    (slice_set (slice_set (slice_set q.men u.first.on (h.first i)) u.second.on (h.second i)) u.third.on (h.third i))
    u.fourth.on (h.fourth i))
    ∙ set_four_back p.men q.men u.first.on u.second.on u.third.on u.fourth.on h.size h.kept_size h.others

-- the position after the taking back
pub position_back : (u : Undo) (p q new : Position) → IsUndoOf u p q → new.variant ≡ q.variant →
    new.men
    ≡ slice_set
    (slice_set (slice_set (slice_set q.men u.first.on u.first.man) u.second.on u.second.man) u.third.on u.third.man)
    u.fourth.on u.fourth.man →
    new.to_move ≡ opposite q.to_move → new.en_passant ≡ u.en_passant → new.rights ≡ u.rights → new.quiet ≡ u.quiet →
    new.white ≡ u.white → new.black ≡ u.black → new ≡ p
position_back u p q new h v men side passed rights quiet white black =
    let men_is = men ∙ men_back u p q h in
    let side_is = side ∙ ap opposite h.to_move ∙ opposite-opposite p.to_move in
    let variant_is = v ∙ h.variant in
    let passed_is = passed ∙ h.en_passant in
    let rights_is = rights ∙ h.rights in
    let quiet_is = quiet ∙ h.quiet in
    let white_is = white ∙ h.white in
    let black_is = black ∙ h.black in
    λ i. record {
      variant = variant_is i;
      men = men_is i;
      to_move = side_is i;
      en_passant = passed_is i;
      rights = rights_is i;
      quiet = quiet_is i;
      white = white_is i;
      black = black_is i;
    }
