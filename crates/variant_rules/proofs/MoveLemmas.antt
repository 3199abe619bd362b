-- The moves of a man to its targets.
use Rattle.std.proofs.Common.{arith, ◌≡◌, ◌≢◌, ℕ, ◌+◌, ◌<◌, ◌≤◌, inl, inr, List, [], ◌∷◌, ◌++◌, Bool, true, false, ◌&&◌, not, nat_eq, is_none, refl, sym, ap, subst, ◌∙◌, Option, Some, None}
use Rattle.std.proofs.lemmas.Bool.{cases_order, eq-eqb}
use Rattle.chess_model.specs.declared.man.Colour.{Colour}
use Rattle.chess_model.specs.declared.man.Kind.{Kind}
use Rattle.chess_model.specs.declared.man.Kind.TheVariants.{Pawn, Knight, Bishop, Rook, Queen, King}
use Rattle.chess_model.specs.declared.man.Man.{Man}
use Rattle.chess_model.specs.declared.moves.Move.{Move}
use Rattle.chess_model.specs.declared.moves.Move.TheVariants.{Plain}
use Rattle.chess_model.specs.Squares.{file_of, rank_of}
use Rattle.chess_model.specs.Placement.{Placement, man_at, opposite, last_rank, IsHeldBy, IsHeldAs}
use Rattle.chess_model.specs.Reach.{Reaches}
use Rattle.chess_model.specs.MoveList.{is_pawn_kind, is_pawn, is_en_passant}
use Rattle.chess_model.specs.Position.{Position}
use Rattle.chess_model.specs.Allowed.{HasPromotion, GoesAs, IsMove, Allowed}
use Rattle.bitboard_core.specs.Sets.{Has}
use Rattle.bitboard_core.proofs.SetLemmas.{Has-and, Has-and_both}
use lib.Bits.{bit_and}
use Rattle.variant_rules.specs.declared.guard.Guard.{Guard}
use Rattle.variant_rules.specs.Listing.{moves_between, moves_from_below, if_allowed, IsGuard, IsTargetSet, AreGoals}
use Rattle.variant_rules.proofs.CheckLemmas.{has_or_not, held-both, none-held}
use Rattle.variant_rules.proofs.PartLemmas.{between-none, between-not, between-one, between-four, from-start, from-step}
use Rattle.chess_model.proofs.ChessLaws.{no_diff}

-- which moves a man of a kind has

goes_of : (p : Position) (k : Kind) (a b : ℕ) (promo : Option Kind) (man : Option Man) → IsHeldAs p.to_move k man →
    Reaches p.men p.en_passant p.to_move k a b → HasPromotion p.to_move k b promo → GoesAs p a b promo man
goes_of p k a b promo None held r h = absurd held
goes_of p k a b promo (Some m) held r h = (
  held.0,
  subst (λ (j : Kind). Reaches p.men p.en_passant p.to_move j a b) (sym held.1) r,
  subst (λ (j : Kind). HasPromotion p.to_move j b promo) (sym held.1) h,
)

goes_only : (p : Position) (k : Kind) (a b : ℕ) (promo : Option Kind) (man : Option Man) → IsHeldAs p.to_move k man
    → GoesAs p a b promo man →
    Reaches p.men p.en_passant p.to_move k a b × HasPromotion p.to_move k b promo
goes_only p k a b promo None held h = absurd held
goes_only p k a b promo (Some m) held h = (
  subst (λ (j : Kind). Reaches p.men p.en_passant p.to_move j a b) held.1 h.1,
  subst (λ (j : Kind). HasPromotion p.to_move j b promo) held.1 h.2,
)

pub move_of : (p : Position) (k : Kind) (a b : ℕ) (promo : Option Kind) → a < 64 → b < 64
    → IsHeldAs p.to_move k (man_at p.men a) →
    Reaches p.men p.en_passant p.to_move k a b → HasPromotion p.to_move k b promo → IsMove p (Plain a b promo)
move_of p k a b promo la lb held r h =
    record { from = la; to = lb; goes = goes_of p k a b promo (man_at p.men a) held r h }

pub move_reaches : (p : Position) (k : Kind) (a b : ℕ) (promo : Option Kind) → IsHeldAs p.to_move k (man_at p.men a)
    → IsMove p (Plain a b promo) →
    Reaches p.men p.en_passant p.to_move k a b
move_reaches p k a b promo held move = (goes_only p k a b promo (man_at p.men a) held move.goes).0

pub move_promotes : (p : Position) (k : Kind) (a b : ℕ) (promo : Option Kind) → IsHeldAs p.to_move k (man_at p.men a)
    → IsMove p (Plain a b promo) →
    HasPromotion p.to_move k b promo
move_promotes p k a b promo held move = (goes_only p k a b promo (man_at p.men a) held move.goes).1

pub plain_has : (c : Colour) (k : Kind) (b : ℕ) → k ≢ Pawn → HasPromotion c k b None
plain_has c Pawn b other = absurd (other refl)
plain_has c Knight b other = refl
plain_has c Bishop b other = refl
plain_has c Rook b other = refl
plain_has c Queen b other = refl
plain_has c King b other = refl

plain_only : (c : Colour) (k : Kind) (b : ℕ) (promo : Option Kind) → k ≢ Pawn → HasPromotion c k b promo → promo ≡ None
plain_only c Pawn b promo other h = absurd (other refl)
plain_only c Knight b promo other h = h
plain_only c Bishop b promo other h = h
plain_only c Rook b promo other h = h
plain_only c Queen b promo other h = h
plain_only c King b promo other h = h

is_pawn_kind-not : (k : Kind) → k ≢ Pawn → is_pawn_kind k ≡ false
is_pawn_kind-not Pawn other = absurd (other refl)
is_pawn_kind-not Knight other = refl
is_pawn_kind-not Bishop other = refl
is_pawn_kind-not Rook other = refl
is_pawn_kind-not Queen other = refl
is_pawn_kind-not King other = refl

is_pawn-not : (c : Colour) (k : Kind) (man : Option Man) → IsHeldAs c k man → k ≢ Pawn → is_pawn man ≡ false
is_pawn-not c k None held other = absurd held
is_pawn-not c k (Some m) held other = ap is_pawn_kind held.1 ∙ is_pawn_kind-not k other

pub not_passing : (P : Placement) (c : Colour) (k : Kind) (a b : ℕ) → IsHeldAs c k (man_at P a) → k ≢ Pawn
    → is_en_passant P a b ≡ false
not_passing P c k a b held other =
    ap (λ (x : Bool). x && (is_none (man_at P b) && not (nat_eq (file_of a) (file_of b))))
    (is_pawn-not c k (man_at P a) held other)

some-none : (k : Kind) (o : Option Kind) → o ≡ Some k → o ≡ None → ⊥
some-none k o e f = cc

-- a man that isn't a pawn has one move to a target
pub other_between : (p : Position) (k : Kind) (a b : ℕ) → IsHeldAs p.to_move k (man_at p.men a) → k ≢ Pawn →
    moves_between p a b ≡ if_allowed p (Plain a b None)
other_between p k a b held other =
    between-one p a b (λ j move.
    some-none j (Some j) refl (plain_only p.to_move k b (Some j) other (move_promotes p k a b (Some j) held move)))

-- so has a pawn before its last rank
pub pawn_between : (p : Position) (a b : ℕ) → IsHeldAs p.to_move Pawn (man_at p.men a)
    → rank_of b ≢ last_rank p.to_move →
    moves_between p a b ≡ if_allowed p (Plain a b None)
pawn_between p a b held before =
    between-one p a b (λ j move. elim (move_promotes p Pawn a b (Some j) held move) [
      | inl h ↦ before h.0
      | inr h ↦ some-none j (Some j) refl h.1
    ])

-- on its last rank it has four
pub last_between : (p : Position) (a b : ℕ) → IsHeldAs p.to_move Pawn (man_at p.men a)
    → rank_of b ≡ last_rank p.to_move →
    moves_between p a b ≡
    if_allowed p (Plain a b (Some Queen))
    ++ (if_allowed p (Plain a b (Some Rook))
    ++ (if_allowed p (Plain a b (Some Bishop)) ++ if_allowed p (Plain a b (Some Knight))))
last_between p a b held last =
    between-four p a b (λ move. elim (move_promotes p Pawn a b None held move) [ inl h ↦ h.1 | inr h ↦ h.0 last ])

-- targets by a set

no_move : (p : Position) (k : Kind) (a set b : ℕ) → IsHeldAs p.to_move k (man_at p.men a) → IsTargetSet p k a set
    → b < 64 → ¬ Has set b →
    (promo : Option Kind) → ¬ IsMove p (Plain a b promo)
no_move p k a set b held all lb out promo move = out ((all.each b lb).1 (move_reaches p k a b promo held move))

-- what is left of its targets without those to which no move is allowed
goals_of : (p : Position) (k : Kind) (a targets some : ℕ) → IsHeldAs p.to_move k (man_at p.men a)
    → IsTargetSet p k a targets →
    ((b : ℕ) → b < 64 → ¬ Has some b → (promo : Option Kind) → ¬ Allowed p (Plain a b promo))
    → AreGoals p k a (bit_and targets some)
goals_of p k a targets some held all less = record {
  reached = λ b lb h. (all.each b lb).0 (Has-and targets some b h).0;
  others = λ b lb out promo allowed. elim (has_or_not targets b) [
    | inl reached ↦ elim (has_or_not some b) [
      | inl both ↦ out (Has-and_both targets some b reached both)
      | inr left ↦ less b lb left promo allowed
    ]
    | inr left ↦ no_move p k a targets b held all lb left promo allowed.move
  ];
}

pub all-goals : (p : Position) (k : Kind) (a targets : ℕ) → IsHeldAs p.to_move k (man_at p.men a)
    → IsTargetSet p k a targets → AreGoals p k a targets
all-goals p k a targets held all = record {
  reached = λ b lb h. (all.each b lb).0 h;
  others = λ b lb out promo allowed. no_move p k a targets b held all lb out promo allowed.move;
}

goes-not_own : (P : Placement) (e : Option ℕ) (c : Colour) (k : Kind) (a b : ℕ) → k ≢ Pawn → Reaches P e c k a b
    → ¬ IsHeldBy c (man_at P b)
goes-not_own P e c Pawn a b other r = absurd (other refl)
goes-not_own P e c Knight a b other r = r.not_own
goes-not_own P e c Bishop a b other r = r.not_own
goes-not_own P e c Rook a b other r = r.not_own
goes-not_own P e c Queen a b other r = r.not_own
goes-not_own P e c King a b other r = r.not_own

not-king : (c : Colour) (k : Kind) (man : Option Man) → IsHeldAs c k man → k ≢ King → ¬ IsHeldAs c King man
not-king c k None held other h = h
not-king c k (Some m) held other h = other (sym held.1 ∙ h.1)

-- a man that is neither a pawn nor a king has no move outside the answers
pub other-goals : (p : Position) (k : Kind) (a targets : ℕ) (guard : Guard) → k ≢ Pawn → k ≢ King
    → IsHeldAs p.to_move k (man_at p.men a) →
    IsTargetSet p k a targets → IsGuard p guard → AreGoals p k a (bit_and targets guard.answers)
other-goals p k a targets guard pawn king held all guarded =
    goals_of p k a targets guard.answers held all (λ b lb out promo allowed.
    guarded.answers a b promo out allowed.move (not-king p.to_move k (man_at p.men a) held king)
    (goes-not_own p.men p.en_passant p.to_move k a b pawn (move_reaches p k a b promo held allowed.move))
    (not_passing p.men p.to_move k a b held pawn) allowed.safe)

-- a pawn that doesn't take in passing

no-and : (x y : Bool) → (x && (y && false)) ≡ false
no-and true true = refl
no-and true false = refl
no-and false y = refl

not-both : (x y : Bool) → (x && (false && y)) ≡ false
not-both true y = refl
not-both false y = refl

some-held : (c : Colour) (man : Option Man) → IsHeldBy c man → is_none man ≡ false
some-held c None h = absurd h
some-held c (Some m) h = refl

pawn-usual : (P : Placement) (e : Option ℕ) (c : Colour) (a b : ℕ) → e ≢ Some b → Reaches P e c Pawn a b →
    (¬ IsHeldBy c (man_at P b)) × (is_en_passant P a b ≡ false)
pawn-usual P e c a b other r = elim r [
  | inl push ↦ (
    none-held c (man_at P b) push.free,
    ap (λ (x : Bool). is_pawn (man_at P a) && (is_none (man_at P b) && not x))
        (eq-eqb (file_of a) (file_of b) (no_diff (file_of a) (file_of b) push.file))
        ∙ no-and (is_pawn (man_at P a)) (is_none (man_at P b)),
  )
  | inr takes ↦ elim (takes.enemy) [
    | inl held ↦ (
      λ own. held-both c (man_at P b) own held,
      ap (λ (x : Bool). is_pawn (man_at P a) && (x && not (nat_eq (file_of a) (file_of b))))
          (some-held (opposite c) (man_at P b) held)
          ∙ not-both (is_pawn (man_at P a)) (not (nat_eq (file_of a) (file_of b))),
    )
    | inr passed ↦ absurd (other passed)
  ]
]

pub king-apart : King ≢ Pawn
king-apart e = cc

pawn-apart : (e : Kind) → e ≡ Pawn → e ≢ King
pawn-apart e here f = cc

pub pawn-goals : (p : Position) (a targets some : ℕ) (guard : Guard) → IsHeldAs p.to_move Pawn (man_at p.men a) →
    IsTargetSet p Pawn a targets → IsGuard p guard →
    ((t : ℕ) → t < 64 → ¬ Has some t → (¬ Has guard.answers t) × (p.en_passant ≢ Some t))
    → AreGoals p Pawn a (bit_and targets some)
pawn-goals p a targets some guard held all guarded less =
    goals_of p Pawn a targets some held all (λ b lb out promo allowed.
    let left = less b lb out in
    let usual = pawn-usual p.men p.en_passant p.to_move a b left.1 (move_reaches p Pawn a b promo held allowed.move) in
    guarded.answers a b promo left.0 allowed.move (not-king p.to_move Pawn (man_at p.men a) held (pawn-apart Pawn refl))
    usual.0 usual.1 allowed.safe)

pub goals-start : (p : Position) (k : Kind) (a set n : ℕ) → AreGoals p k a set → n ≤ 64
    → ((j : ℕ) → 0 ≤ j → j < n → ¬ Has set j) →
    moves_from_below p a n ≡ []
goals-start p k a set n all le none =
    from-start p a n (λ j less. between-not p a j (all.others j (omega (arith, less, le)) (none j (omega arith) less)))

pub goals-step : (p : Position) (k : Kind) (a set m n : ℕ) → AreGoals p k a set → m < n → n ≤ 64 →
    ((j : ℕ) → m + 1 ≤ j → j < n → ¬ Has set j) → moves_from_below p a n ≡ moves_from_below p a m ++ moves_between p a m
goals-step p k a set m n all less le none =
    from-step p a m n less
    (λ j from below. between-not p a j (all.others j (omega (arith, below, le)) (none j from below)))

pub next-more : (b n : ℕ) → b < 64 → (n < 64 → b + 1 ≤ n) → n ≤ 64 → b < n
next-more b n lb from le = elim (cases_order n 64) [
  | inl same ↦ omega (arith, same, lb)
  | inr other ↦ elim other [ inl less ↦ omega (arith, from less) | inr more ↦ absurd (omega (arith, more, le)) ]
]

-- squares without an own man

pub no_own : (p : Position) (a b : ℕ) (promo : Option Kind) (man : Option Man) → ¬ IsHeldBy p.to_move man
    → ¬ GoesAs p a b promo man
no_own p a b promo None other h = h
no_own p a b promo (Some m) other h = other h.0

pub nothing_from : (p : Position) (a : ℕ) → ¬ IsHeldBy p.to_move (man_at p.men a) → moves_from_below p a 64 ≡ []
nothing_from p a other =
    from-start p a 64 (λ b less. between-none p a b (λ promo move. no_own p a b promo (man_at p.men a) other move.goes))

-- appending to what was listed

pub appended : (start done more all : List Move) (out : List Move) → out ≡ start ++ done → all ≡ done ++ more
    → out ++ more ≡ start ++ all
appended start done more all out e f = ap (λ x. x ++ more) e ∙ assoc start done more ∙ ap (λ x. start ++ x) (sym f)
  where
    assoc : (a b c : List Move) → (a ++ b) ++ c ≡ a ++ (b ++ c)
    assoc [] b c = refl
    assoc (x ∷ a) b c = ap (λ t. x ∷ t) (assoc a b c)
