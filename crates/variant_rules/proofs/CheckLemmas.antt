-- Attacks on a square before and after a man comes or goes.
use Rattle.std.proofs.Common.{arith, ◌≡◌, ◌≢◌, ◌⊎◌, ℕ, not, nat_eq, ◌<◌, inl, inr, length, true, sym, ap, subst, ◌∙◌, Option, Some, None}
use Rattle.std.specs.Prelude.{slice_set}
use Rattle.std.proofs.lemmas.Bool.{cases_order, cases_eq}
use Rattle.std.proofs.lemmas.Bool.Decides.{eqb_tells}
use Rattle.std.proofs.lemmas.List.{get_or-set_other, get_or-set_same}
use Rattle.std.specs.Int.{bit_at}
use Rattle.chess_model.specs.declared.man.Colour.{Colour}
use Rattle.chess_model.specs.declared.man.Colour.TheVariants.{White, Black}
use Rattle.chess_model.specs.declared.man.Kind.{Kind}
use Rattle.chess_model.specs.declared.man.Kind.TheVariants.{Pawn, Knight, Bishop, Rook, Queen, King}
use Rattle.chess_model.specs.declared.man.Man.{Man}
use Rattle.chess_model.specs.Squares.{distance, along}
use Rattle.chess_model.specs.Placement.{Placement, man_at, opposite, IsHeldBy}
use Rattle.chess_model.specs.Reach.{Clear, Strikes}
use Rattle.chess_model.specs.Attacked.{StrikesAs, StrikesFrom, IsAttacked}
use Rattle.bitboard_core.specs.Sets.{Has}
use Rattle.variant_rules.specs.Checks.{IsBare}
use Rattle.variant_rules.proofs.LineLemmas.{Fills, distance-along, still-strikes}
use Rattle.chess_model.proofs.NoMoreMen.{IsStep-differs}
use Rattle.chess_model.proofs.ChessLaws.{Strikes-back, opposite-opposite}
use Rattle.chess_model.proofs.Squares.{along-lt}

pub has_or_not : (set t : ℕ) → Has set t ⊎ (¬ Has set t)
has_or_not set t = elim (cases_order (bit_at set t) 1) [
  | inl same ↦ inl same
  | inr other ↦
      inr (λ h. elim other [ inl less ↦ absurd (omega (arith, less, h)) | inr more ↦ absurd (omega (arith, more, h)) ])
]

pub some-not : (n : ℕ) → n ≢ 0 → not (nat_eq n 0) ≡ true
some-not n other = elim (eqb_tells n 0) [ inl same ↦ absurd (other same.1) | inr apart ↦ ap not apart.0 ]

-- men of both colours

colours-apart : (c : Colour) → c ≢ opposite c
colours-apart White e = cc
colours-apart Black e = cc

pub held-both : (c : Colour) (man : Option Man) → IsHeldBy c man → IsHeldBy (opposite c) man → ⊥
held-both c None own other = own
held-both c (Some m) own other = colours-apart c (sym own ∙ other)

pub none-held : (c : Colour) (man : Option Man) → man ≡ None → ¬ IsHeldBy c man
none-held c man e h = subst (λ (x : Option Man). IsHeldBy c x) e h

pub strikes-held : (P : Placement) (c : Colour) (a s : ℕ) (man : Option Man) → StrikesAs P c a s man → IsHeldBy c man
strikes-held P c a s None h = absurd h
strikes-held P c a s (Some m) h = h.0

-- a placement with one square written

pub at-written : (P : Placement) (a : ℕ) (man : Option Man) → length P ≡ 64 → a < 64
    → man_at (slice_set P a man) a ≡ man
at-written P a man size la = get_or-set_same P a man None (omega (arith, la, size))

pub at-unwritten : (P : Placement) (a t : ℕ) (man : Option Man) → t ≢ a → man_at (slice_set P a man) t ≡ man_at P t
at-unwritten P a t man other = get_or-set_other P a t man None other

-- what strikes a square strikes it too where no way to it is blocked

-- seen from s, each square that is empty in Q is empty in R, and each man of that colour in Q stands in R
pub record Eases (Q R : Placement) (by : Colour) (s : ℕ) : Type 0 where
  pub empty : (t : ℕ) → t < 64 → t ≢ s → man_at Q t ≡ None → man_at R t ≡ None
  pub men : (x : ℕ) → x < 64 → x ≢ s → IsHeldBy by (man_at Q x) → man_at R x ≡ man_at Q x

eased-way : (Q R : Placement) (by : Colour) (x s : ℕ) → x < 64 → s < 64 → Eases Q R by s → Clear Q x s → Clear R x s
eased-way Q R by x s lx ls eases clear = record {
  empty = λ k some less.
      let near : distance x (along x s k) ≡ k = distance-along x s k (omega (arith, less)) in
      eases.empty (along x s k) (along-lt x s k lx ls)
      (λ e. absurd (omega (arith, less, near, ap (distance x) e)))
      (clear.empty k some less);
}

eased-strikes : (Q R : Placement) (by c : Colour) (k : Kind) (x s : ℕ) → x < 64 → s < 64 → Eases Q R by s
    → Strikes Q c k x s →
    Strikes R c k x s
eased-strikes Q R by c Pawn x s lx ls eases h =
    record { step = h.step; open_way = eased-way Q R by x s lx ls eases h.open_way }
eased-strikes Q R by c Knight x s lx ls eases h = record { step = h.step; open_way = tt }
eased-strikes Q R by c Bishop x s lx ls eases h =
    record { step = h.step; open_way = eased-way Q R by x s lx ls eases h.open_way }
eased-strikes Q R by c Rook x s lx ls eases h =
    record { step = h.step; open_way = eased-way Q R by x s lx ls eases h.open_way }
eased-strikes Q R by c Queen x s lx ls eases h =
    record { step = h.step; open_way = eased-way Q R by x s lx ls eases h.open_way }
eased-strikes Q R by c King x s lx ls eases h =
    record { step = h.step; open_way = eased-way Q R by x s lx ls eases h.open_way }

pub eased-queen : (Q R : Placement) (c : Colour) (x s : ℕ) → x < 64 → s < 64
    → ((t : ℕ) → t < 64 → man_at Q t ≡ None → man_at R t ≡ None) →
    Strikes Q c Queen x s → Strikes R c Queen x s
eased-queen Q R c x s lx ls empty h = record {
  step = h.step;
  open_way =
      record { empty = λ k some less. empty (along x s k) (along-lt x s k lx ls) (h.open_way.empty k some less) };
}

eased-as : (Q R : Placement) (by : Colour) (x s : ℕ) (man : Option Man) → x < 64 → s < 64 → Eases Q R by s
    → StrikesAs Q by x s man →
    StrikesAs R by x s man
eased-as Q R by x s None lx ls eases h = absurd h
eased-as Q R by x s (Some m) lx ls eases h = (h.0, eased-strikes Q R by by m.kind x s lx ls eases h.1)

apart-as : (Q : Placement) (by : Colour) (x s : ℕ) (man : Option Man) → StrikesAs Q by x s man → x ≢ s
apart-as Q by x s None h = absurd h
apart-as Q by x s (Some m) h = IsStep-differs by m.kind x s h.1.step

pub eased-from : (Q R : Placement) (by : Colour) (x s : ℕ) → x < 64 → s < 64 → Eases Q R by s → StrikesFrom Q by x s
    → StrikesFrom R by x s
eased-from Q R by x s lx ls eases h =
    let same : man_at R x ≡ man_at Q x =
    eases.men x lx (apart-as Q by x s (man_at Q x) h) (strikes-held Q by x s (man_at Q x) h) in
    subst (λ (man : Option Man). StrikesAs R by x s man) (sym same) (eased-as Q R by x s (man_at Q x) lx ls eases h)

pub eased-attack : (Q R : Placement) (by : Colour) (s : ℕ) → s < 64 → Eases Q R by s → IsAttacked Q by s
    → IsAttacked R by s
unfolding IsAttacked
eased-attack Q R by s ls eases h = (h.0, h.1, eased-from Q R by h.0 s h.1 ls eases h.2)

-- a man that blocks no queen's line to s, or none from x, blocks no man on x that strikes s

pub unblocked-near : (P Q : Placement) (c by : Colour) (s x a : ℕ) (man : Option Man) → s < 64 → x < 64
    → Fills P Q c s a →
    StrikesAs Q by x s man → StrikesAs P by x s man
unblocked-near P Q c by s x a None ls lx fills h = absurd h
unblocked-near P Q c by s x a (Some m) ls lx fills h = (h.0, still-strikes P Q c by m.kind s x a ls lx fills h.1)

pub unblocked-far : (P Q : Placement) (c by : Colour) (s x a : ℕ) (man : Option Man) → s < 64 → x < 64
    → Fills P Q c x a →
    StrikesAs Q by x s man → StrikesAs P by x s man
unblocked-far P Q c by s x a None ls lx fills h = absurd h
unblocked-far P Q c by s x a (Some m) ls lx fills h =
    let back : Strikes P (opposite by) m.kind s x =
    still-strikes P Q c (opposite by) m.kind x s a lx ls fills (Strikes-back Q by m.kind x s h.1) in (
      h.0,
      subst (λ (d : Colour). Strikes P d m.kind x s) (opposite-opposite by)
          (Strikes-back P (opposite by) m.kind s x back),
    )

-- a man that goes

pub gone-fills : (P : Placement) (c : Colour) (s a : ℕ) → ¬ Strikes P c Queen s a → Fills P (slice_set P a None) c s a
gone-fills P c s a out = record {
  same = λ t lt other free. sym (at-unwritten P a t None other) ∙ free;
  left = inr out;
}

pub record IsBareFrom (P : Placement) (c : Colour) (s a x : ℕ) : Type 0 where
  pub square : x < 64
  pub apart : x ≢ a
  pub strikes : StrikesAs (slice_set P a None) (opposite c) x s (man_at P x)

pub bare-from : (P : Placement) (c : Colour) (s a : ℕ) → length P ≡ 64 → a < 64 → IsBare P c s a
    → (x : ℕ) × IsBareFrom P c s a x
unfolding IsAttacked
bare-from P c s a size la h =
    let x : ℕ = h.0 in
    let Q : Placement = slice_set P a None in
    let here : StrikesAs Q (opposite c) x s (man_at Q x) = h.2 in
    let apart : x ≢ a = λ e.
    none-held (opposite c) (man_at Q x) (ap (man_at Q) e ∙ at-written P a None size la)
    (strikes-held Q (opposite c) x s (man_at Q x) here) in (
      x,
      record {
        square = h.1;
        apart = apart;
        strikes = subst (λ (man : Option Man). StrikesAs Q (opposite c) x s man) (at-unwritten P a x None apart) here;
      },
    )

pub bare-strikes : (P : Placement) (c : Colour) (s a x : ℕ) → length P ≡ 64 → a < 64 → IsBareFrom P c s a x →
    StrikesFrom (slice_set P a None) (opposite c) x s
bare-strikes P c s a x size la bare =
    subst (λ (man : Option Man). StrikesAs (slice_set P a None) (opposite c) x s man)
    (sym (at-unwritten P a x None bare.apart)) bare.strikes

pub attack-of : (P : Placement) (by : Colour) (x s : ℕ) → x < 64 → StrikesFrom P by x s → IsAttacked P by s
unfolding IsAttacked
attack-of P by x s lx h = (x, lx, h)

-- it stood on a queen's line from s, and on one from the man that strikes s now

pub bare-near : (P : Placement) (c : Colour) (s a x : ℕ) → s < 64 → ¬ IsAttacked P (opposite c) s
    → IsBareFrom P c s a x →
    ¬ (¬ Strikes P c Queen s a)
bare-near P c s a x ls safe bare out =
    safe (attack-of P (opposite c) x s bare.square
    (unblocked-near P (slice_set P a None) c (opposite c) s x a (man_at P x) ls bare.square (gone-fills P c s a out)
    bare.strikes))

pub bare-far : (P : Placement) (c : Colour) (s a x : ℕ) → s < 64 → ¬ IsAttacked P (opposite c) s
    → IsBareFrom P c s a x →
    ¬ (¬ Strikes P c Queen x a)
bare-far P c s a x ls safe bare out =
    safe (attack-of P (opposite c) x s bare.square
    (unblocked-far P (slice_set P a None) c (opposite c) s x a (man_at P x) ls bare.square (gone-fills P c x a out)
    bare.strikes))

-- a man that comes

come-empty : (P : Placement) (c : Colour) (b t : ℕ) (man : Option Man) → length P ≡ 64 → b < 64 → IsHeldBy c man →
    man_at (slice_set P b man) t ≡ None → man_at P t ≡ None
come-empty P c b t man size lb own free = elim (cases_eq t b) [
  | inl same ↦
      absurd
      (none-held c man (sym (at-written P b man size lb) ∙ ap (man_at (slice_set P b man)) (sym same) ∙ free) own)
  | inr other ↦ sym (at-unwritten P b t man other) ∙ free
]

come-fills : (P : Placement) (c : Colour) (s b : ℕ) (man : Option Man) → length P ≡ 64 → s < 64 → b < 64
    → IsHeldBy c man → ¬ Strikes P c Queen s b →
    Fills (slice_set P b man) P c s b
come-fills P c s b man size ls lb own out = record {
  same = λ t lt other free. at-unwritten P b t man other ∙ free;
  left =
      inr (λ h.
      out (eased-queen (slice_set P b man) P c s b ls lb (λ t lt free. come-empty P c b t man size lb own free) h));
}

come-from : (P : Placement) (by : Colour) (s x b : ℕ) (man : Option Man) → x ≢ b
    → StrikesAs (slice_set P b man) by x s (man_at P x) →
    StrikesFrom (slice_set P b man) by x s
come-from P by s x b man other h =
    subst (λ (there : Option Man). StrikesAs (slice_set P b man) by x s there) (sym (at-unwritten P b x man other)) h

pub stops-near : (P : Placement) (c : Colour) (s x b : ℕ) (man : Option Man) → length P ≡ 64 → s < 64 → x < 64 → b < 64
    → IsHeldBy c man → x ≢ b →
    ¬ Strikes P c Queen s b → StrikesFrom P (opposite c) x s → StrikesFrom (slice_set P b man) (opposite c) x s
stops-near P c s x b man size ls lx lb own other out h =
    come-from P (opposite c) s x b man other
    (unblocked-near (slice_set P b man) P c (opposite c) s x b (man_at P x) ls lx
    (come-fills P c s b man size ls lb own out) h)

pub stops-far : (P : Placement) (c : Colour) (s x b : ℕ) (man : Option Man) → length P ≡ 64 → s < 64 → x < 64 → b < 64
    → IsHeldBy c man → x ≢ b →
    ¬ Strikes P c Queen x b → StrikesFrom P (opposite c) x s → StrikesFrom (slice_set P b man) (opposite c) x s
stops-far P c s x b man size ls lx lb own other out h =
    come-from P (opposite c) s x b man other
    (unblocked-far (slice_set P b man) P c (opposite c) s x b (man_at P x) ls lx
    (come-fills P c x b man size lx lb own out) h)
