-- The squares of a way in order, and the squares between two of them.
use Rattle.std.proofs.Common.{arith, ◌≡◌, ℕ, ◌+◌, ◌*◌, ◌<◌, ◌≤◌, Bool, ◌&&◌, nat_lt, sym, ap, subst, ◌∙◌, inl, inr, max, get_or, List}
use Rattle.std.specs.Prelude.{⊤}
use Rattle.std.specs.Bool.{Decides}
use Rattle.std.proofs.lemmas.Bool.Decides.{Decides-eqb, Decides-ltb, Decides-and}
use Rattle.std.proofs.lemmas.Bool.{cases_order}
use Rattle.std.specs.Int.{bit_at, abs_diff}
use Rattle.chess_model.specs.Squares.{file_of, rank_of, square_at, distance, toward, along}
use Rattle.bitboard_core.specs.Sets.{Has, set_of, table_of}
use Rattle.bitboard_core.specs.Rays.{Sense, Rises, Stays, Falls, Leads, is_on, leads, IsOn, IsOpenIn, IsRaySet}
use Rattle.bitboard_core.specs.Stops.{IsUpStop, IsDownStop}
use Rattle.bitboard_core.specs.declared.tables.TheConstants.{NORTH, EAST, SOUTH, WEST, NORTH_EAST, NORTH_WEST, SOUTH_EAST, SOUTH_WEST}
use Rattle.bitboard_core.proofs.TableFacts.{north_is, east_is, south_is, west_is, north_east_is, north_west_is, south_east_is, south_west_is}
use Rattle.bitboard_core.proofs.SetLemmas.{table_of-at, bit_at-set_of, bit_if-true, bit_if-of_true}
use Rattle.chess_model.proofs.Squares.{file-lt, rank-lt, toward-lt}
use Rattle.chess_model.proofs.Weights.{square_at-parts}

-- the coordinate after k of d steps
toward-leads : (s : Sense) (x y k d : ℕ) → Leads s x y d → k ≤ d → Leads s x (toward x y k) k
toward-leads Rises x y k d h l = omega (arith, h)
toward-leads Stays x y k d h l = omega (arith, h)
toward-leads Falls x y k d h l = omega (arith, h)

-- the coordinate to which k steps lead is the one on the way to that after d steps
toward-is : (s : Sense) (x y z k d : ℕ) → Leads s x y d → Leads s x z k → k ≤ d → z ≡ toward x y k
toward-is Rises x y z k d h e l = omega (arith, h, e)
toward-is Stays x y z k d h e l = omega (arith, h, e)
toward-is Falls x y z k d h e l = omega (arith, h, e)

-- the ways that lead to greater numbers, and those that lead to lesser ones
abbrev pub Climbs : Sense → Sense → Type 0
Climbs Rises Rises = ⊤
Climbs Stays Rises = ⊤
Climbs Falls Rises = ⊤
Climbs Rises Stays = ⊤
Climbs Stays Stays = ⊥
Climbs Falls Stays = ⊥
Climbs Rises Falls = ⊥
Climbs Stays Falls = ⊥
Climbs Falls Falls = ⊥

abbrev pub Sinks : Sense → Sense → Type 0
Sinks Rises Rises = ⊥
Sinks Stays Rises = ⊥
Sinks Falls Rises = ⊥
Sinks Rises Stays = ⊥
Sinks Stays Stays = ⊥
Sinks Falls Stays = ⊤
Sinks Rises Falls = ⊤
Sinks Stays Falls = ⊤
Sinks Falls Falls = ⊤

-- the two coordinates of squares after d steps and after k steps
record Steps (f r : Sense) (x y z w d p q k : ℕ) : Type 0 where
  file : Leads f x z d
  rank : Leads r y w d
  file_k : Leads f x p k
  rank_k : Leads r y q k
  on_x : x < 8
  on_y : y < 8
  on_z : z < 8
  on_p : p < 8
  less : k < d

climbs-number : (f r : Sense) (x y z w d p q k : ℕ) → Climbs f r → Steps f r x y z w d p q k → 8 * q + p < 8 * w + z
climbs-number Rises Rises x y z w d p q k way h =
    omega (arith, h.file, h.rank, h.file_k, h.rank_k, h.less, h.on_z, h.on_p)
climbs-number Stays Rises x y z w d p q k way h =
    omega (arith, h.file, h.rank, h.file_k, h.rank_k, h.less, h.on_z, h.on_p)
climbs-number Falls Rises x y z w d p q k way h =
    omega (arith, h.file, h.rank, h.file_k, h.rank_k, h.less, h.on_z, h.on_p, h.on_x)
climbs-number Rises Stays x y z w d p q k way h =
    omega (arith, h.file, h.rank, h.file_k, h.rank_k, h.less, h.on_z, h.on_p)
climbs-number Stays Stays x y z w d p q k way h = absurd way
climbs-number Falls Stays x y z w d p q k way h = absurd way
climbs-number Rises Falls x y z w d p q k way h = absurd way
climbs-number Stays Falls x y z w d p q k way h = absurd way
climbs-number Falls Falls x y z w d p q k way h = absurd way

sinks-number : (f r : Sense) (x y z w d p q k : ℕ) → Sinks f r → Steps f r x y z w d p q k → 8 * w + z < 8 * q + p
sinks-number Rises Rises x y z w d p q k way h = absurd way
sinks-number Stays Rises x y z w d p q k way h = absurd way
sinks-number Falls Rises x y z w d p q k way h = absurd way
sinks-number Rises Stays x y z w d p q k way h = absurd way
sinks-number Stays Stays x y z w d p q k way h = absurd way
sinks-number Falls Stays x y z w d p q k way h =
    omega (arith, h.file, h.rank, h.file_k, h.rank_k, h.less, h.on_z, h.on_p)
sinks-number Rises Falls x y z w d p q k way h =
    omega (arith, h.file, h.rank, h.file_k, h.rank_k, h.less, h.on_z, h.on_p)
sinks-number Stays Falls x y z w d p q k way h =
    omega (arith, h.file, h.rank, h.file_k, h.rank_k, h.less, h.on_z, h.on_p)
sinks-number Falls Falls x y z w d p q k way h =
    omega (arith, h.file, h.rank, h.file_k, h.rank_k, h.less, h.on_z, h.on_p)

-- squares by their coordinates

pub file_of-square_at : (f r : ℕ) → f < 8 → file_of (square_at f r) ≡ f
file_of-square_at f r l = omega arith

pub rank_of-square_at : (f r : ℕ) → f < 8 → rank_of (square_at f r) ≡ r
rank_of-square_at f r l = omega arith

-- a way that goes somewhere: after k steps the distance is k
abbrev Goes : Sense → Sense → Type 0
Goes Stays Stays = ⊥
Goes Rises Rises = ⊤
Goes Stays Rises = ⊤
Goes Falls Rises = ⊤
Goes Rises Stays = ⊤
Goes Falls Stays = ⊤
Goes Rises Falls = ⊤
Goes Stays Falls = ⊤
Goes Falls Falls = ⊤

steps_apart : (f r : Sense) (x y p q k : ℕ) → Goes f r → Leads f x p k → Leads r y q k
    → max (abs_diff x p) (abs_diff y q) ≡ k
steps_apart Rises Rises x y p q k way a b = omega (arith, a, b)
steps_apart Stays Rises x y p q k way a b = omega (arith, a, b)
steps_apart Falls Rises x y p q k way a b = omega (arith, a, b)
steps_apart Rises Stays x y p q k way a b = omega (arith, a, b)
steps_apart Stays Stays x y p q k way a b = absurd way
steps_apart Falls Stays x y p q k way a b = omega (arith, a, b)
steps_apart Rises Falls x y p q k way a b = omega (arith, a, b)
steps_apart Stays Falls x y p q k way a b = omega (arith, a, b)
steps_apart Falls Falls x y p q k way a b = omega (arith, a, b)

Climbs-goes : (f r : Sense) → Climbs f r → Goes f r
Climbs-goes Rises Rises way = tt
Climbs-goes Stays Rises way = tt
Climbs-goes Falls Rises way = tt
Climbs-goes Rises Stays way = tt
Climbs-goes Stays Stays way = absurd way
Climbs-goes Falls Stays way = absurd way
Climbs-goes Rises Falls way = absurd way
Climbs-goes Stays Falls way = absurd way
Climbs-goes Falls Falls way = absurd way

Sinks-goes : (f r : Sense) → Sinks f r → Goes f r
Sinks-goes Rises Rises way = absurd way
Sinks-goes Stays Rises way = absurd way
Sinks-goes Falls Rises way = absurd way
Sinks-goes Rises Stays way = absurd way
Sinks-goes Stays Stays way = absurd way
Sinks-goes Falls Stays way = tt
Sinks-goes Rises Falls way = tt
Sinks-goes Stays Falls way = tt
Sinks-goes Falls Falls way = tt

-- a square between a and t on their way
record IsBetween (f r : Sense) (a t u k : ℕ) : Type 0 where
  square : u < 64
  on : IsOn f r a u
  steps : distance a u ≡ k

-- k steps from a toward t lead to a square of the same way
between : (f r : Sense) (a t k : ℕ) → Goes f r → a < 64 → t < 64 → IsOn f r a t → 0 < k → k < distance a t →
    IsBetween f r a t (along a t k) k
between f r a t k way la lt on some less =
    let u = along a t k in
    let p = toward (file_of a) (file_of t) k in
    let q = toward (rank_of a) (rank_of t) k in
    let small_p : p < 8 = toward-lt (file_of a) (file_of t) k (file-lt a) (file-lt t) in
    let small_q : q < 8 = toward-lt (rank_of a) (rank_of t) k (rank-lt a la) (rank-lt t lt) in
    let le : k ≤ distance a t = omega (arith, less) in
    let file : file_of u ≡ p = file_of-square_at p q small_p in
    let rank : rank_of u ≡ q = rank_of-square_at p q small_p in
    let by_file : Leads f (file_of a) p k = toward-leads f (file_of a) (file_of t) k (distance a t) on.file le in
    let by_rank : Leads r (rank_of a) q k = toward-leads r (rank_of a) (rank_of t) k (distance a t) on.rank le in
    let apart : distance a u ≡ k =
    (λ i. max (abs_diff (file_of a) (file i)) (abs_diff (rank_of a) (rank i)))
    ∙ steps_apart f r (file_of a) (rank_of a) p q k way by_file by_rank in
    record {
      square = omega (arith, small_p, small_q);
      on = record {
        away = omega (arith, some, apart);
        file = subst (λ (d : ℕ). Leads f (file_of a) (file_of u) d) (sym apart)
            (subst (λ (x : ℕ). Leads f (file_of a) x k) (sym file) by_file);
        rank = subst (λ (d : ℕ). Leads r (rank_of a) (rank_of u) d) (sym apart)
            (subst (λ (x : ℕ). Leads r (rank_of a) x k) (sym rank) by_rank);
      };
      steps = apart;
    }

-- of two squares of a way the one with fewer steps lies on the way to the other
along-of : (f r : Sense) (a t u : ℕ) → IsOn f r a t → IsOn f r a u → distance a u ≤ distance a t
    → along a t (distance a u) ≡ u
along-of f r a t u on onu le =
    let file = toward-is f (file_of a) (file_of t) (file_of u) (distance a u) (distance a t) on.file onu.file le in
    let rank = toward-is r (rank_of a) (rank_of t) (rank_of u) (distance a u) (distance a t) on.rank onu.rank le in
    (λ i. square_at (sym file i) (sym rank i)) ∙ square_at-parts u

steps-of : (f r : Sense) (a t u : ℕ) → a < 64 → IsOn f r a t → IsOn f r a u → distance a u < distance a t →
    Steps f r (file_of a) (rank_of a) (file_of t) (rank_of t) (distance a t) (file_of u) (rank_of u) (distance a u)
steps-of f r a t u la on onu less = record {
  file = on.file;
  rank = on.rank;
  file_k = onu.file;
  rank_k = onu.rank;
  on_x = file-lt a;
  on_y = rank-lt a la;
  on_z = file-lt t;
  on_p = file-lt u;
  less = less;
}

parts-lt : (u t : ℕ) → 8 * rank_of u + file_of u < 8 * rank_of t + file_of t → u < t
parts-lt u t h = omega (arith, h)

climbs-lt : (f r : Sense) (a t u : ℕ) → Climbs f r → a < 64 → IsOn f r a t → IsOn f r a u → distance a u < distance a t
    → u < t
climbs-lt f r a t u way la on onu less =
    parts-lt u t
    (climbs-number f r (file_of a) (rank_of a) (file_of t) (rank_of t) (distance a t) (file_of u) (rank_of u)
    (distance a u) way
    (steps-of f r a t u la on onu less))

sinks-lt : (f r : Sense) (a t u : ℕ) → Sinks f r → a < 64 → IsOn f r a t → IsOn f r a u → distance a u < distance a t
    → t < u
sinks-lt f r a t u way la on onu less =
    parts-lt t u
    (sinks-number f r (file_of a) (rank_of a) (file_of t) (rank_of t) (distance a t) (file_of u) (rank_of u)
    (distance a u) way
    (steps-of f r a t u la on onu less))

-- the one with the lesser number has fewer steps on a way that climbs
climbs-steps : (f r : Sense) (a t u : ℕ) → Climbs f r → a < 64 → IsOn f r a t → IsOn f r a u → u < t
    → distance a u < distance a t
climbs-steps f r a t u way la on onu lt = elim (cases_order (distance a u) (distance a t)) [
  | inl same ↦ absurd (omega (
    arith,
    lt,
    sym (along-of f r a t u on onu (omega (arith, same))) ∙ ap (along a t) same
        ∙ along-of f r a t t on on (omega arith),
  ))
  | inr other ↦
      elim other [ inl less ↦ less | inr more ↦ absurd (omega (arith, lt, climbs-lt f r a u t way la onu on more)) ]
]

sinks-steps : (f r : Sense) (a t u : ℕ) → Sinks f r → a < 64 → IsOn f r a t → IsOn f r a u → t < u
    → distance a u < distance a t
sinks-steps f r a t u way la on onu lt = elim (cases_order (distance a u) (distance a t)) [
  | inl same ↦ absurd (omega (
    arith,
    lt,
    sym (along-of f r a t u on onu (omega (arith, same))) ∙ ap (along a t) same
        ∙ along-of f r a t t on on (omega arith),
  ))
  | inr other ↦
      elim other [ inl less ↦ less | inr more ↦ absurd (omega (arith, lt, sinks-lt f r a u t way la onu on more)) ]
]

-- the test of a way

pub Decides-leads : (s : Sense) (x y d : ℕ) → Decides (leads s x y d) (Leads s x y d)
Decides-leads Rises x y d = Decides-eqb y (x + d)
Decides-leads Stays x y d = Decides-eqb y x
Decides-leads Falls x y d = Decides-eqb x (y + d)

Decides-is_on : (f r : Sense) (a t : ℕ) → Decides (is_on f r a t)
    ((0 < distance a t)
    × (Leads f (file_of a) (file_of t) (distance a t) × Leads r (rank_of a) (rank_of t) (distance a t)))
unfolding is_on
Decides-is_on f r a t =
    let file = leads f (file_of a) (file_of t) (distance a t) in
    let rank = leads r (rank_of a) (rank_of t) (distance a t) in
    Decides-and (nat_lt 0 (distance a t)) (file && rank) (Decides-ltb 0 (distance a t))
    (Decides-and file rank (Decides-leads f (file_of a) (file_of t) (distance a t))
    (Decides-leads r (rank_of a) (rank_of t) (distance a t)))

Has-is_on : (f r : Sense) (a t ray : ℕ) → t < 64 → ray ≡ set_of (is_on f r a) → Has ray t → IsOn f r a t
Has-is_on f r a t ray lt e h =
    let b = bit_if-true (is_on f r a t) (sym (ap (λ x. bit_at x t) e ∙ bit_at-set_of (is_on f r a) t lt) ∙ h) in
    let parts = (Decides-is_on f r a t).0 b in
    record { away = parts.0; file = parts.1.0; rank = parts.1.1 }

is_on-Has : (f r : Sense) (a t ray : ℕ) → t < 64 → ray ≡ set_of (is_on f r a) → IsOn f r a t → Has ray t
is_on-Has f r a t ray lt e on =
    ap (λ x. bit_at x t) e ∙ bit_at-set_of (is_on f r a) t lt
    ∙ bit_if-of_true (is_on f r a t) ((Decides-is_on f r a t).1 (on.away, (on.file, on.rank)))

-- a ray that was cut at its first occupied square

pub up_ray : (f r : Sense) (a occupied ray set : ℕ) → Climbs f r → a < 64 → ray ≡ set_of (is_on f r a)
    → IsUpStop ray occupied set →
    IsRaySet f r a occupied set
up_ray f r a occupied ray set way la e stop = record { square = la; each = λ t lt. (to t lt, from t lt) }
  where
    to : (t : ℕ) → t < 64 → Has set t → (IsOn f r a t × IsOpenIn occupied a t)
    to t lt h =
        let parts = (stop.each t lt).0 h in
        let on : IsOn f r a t = Has-is_on f r a t ray lt e parts.0 in (
          on,
          record {
            empty = λ k some less.
                let b = between f r a t k (Climbs-goes f r way) la lt on some less in
                let lower : along a t k < t =
                climbs-lt f r a t (along a t k) way la on b.on (omega (arith, b.steps, less)) in
                parts.1 (along a t k) lower (is_on-Has f r a (along a t k) ray b.square e b.on);
          },
        )

    from : (t : ℕ) → t < 64 → (IsOn f r a t × IsOpenIn occupied a t) → Has set t
    from t lt h = (stop.each t lt).1 (
      is_on-Has f r a t ray lt e h.0,
      λ u less on.
          let onu : IsOn f r a u = Has-is_on f r a u ray (omega (arith, less, lt)) e on in
          let fewer : distance a u < distance a t = climbs-steps f r a t u way la h.0 onu less in
          ap (bit_at occupied) (sym (along-of f r a t u h.0 onu (omega (arith, fewer))))
          ∙ h.1.empty (distance a u) onu.away fewer,
    )

pub down_ray : (f r : Sense) (a occupied ray set : ℕ) → Sinks f r → a < 64 → ray ≡ set_of (is_on f r a)
    → IsDownStop ray occupied set →
    IsRaySet f r a occupied set
down_ray f r a occupied ray set way la e stop = record { square = la; each = λ t lt. (to t lt, from t lt) }
  where
    to : (t : ℕ) → t < 64 → Has set t → (IsOn f r a t × IsOpenIn occupied a t)
    to t lt h =
        let parts = (stop.each t lt).0 h in
        let on : IsOn f r a t = Has-is_on f r a t ray lt e parts.0 in (
          on,
          record {
            empty = λ k some less.
                let b = between f r a t k (Sinks-goes f r way) la lt on some less in
                let higher : t < along a t k =
                sinks-lt f r a t (along a t k) way la on b.on (omega (arith, b.steps, less)) in
                parts.1 (along a t k) b.square higher (is_on-Has f r a (along a t k) ray b.square e b.on);
          },
        )

    from : (t : ℕ) → t < 64 → (IsOn f r a t × IsOpenIn occupied a t) → Has set t
    from t lt h = (stop.each t lt).1 (
      is_on-Has f r a t ray lt e h.0,
      λ u high less on.
          let onu : IsOn f r a u = Has-is_on f r a u ray high e on in
          let fewer : distance a u < distance a t = sinks-steps f r a t u way la h.0 onu less in
          ap (bit_at occupied) (sym (along-of f r a t u h.0 onu (omega (arith, fewer))))
          ∙ h.1.empty (distance a u) onu.away fewer,
    )

-- the rays from the printed tables

pub at_table : (table : List ℕ) (f : ℕ → ℕ → Bool) (a : ℕ) → a < 64 → table ≡ table_of f
    → get_or table a 0 ≡ set_of (f a)
at_table table f a la e = ap (λ xs. get_or xs a 0) e ∙ table_of-at f a la

pub north_ray : (a occupied set : ℕ) → a < 64 → IsUpStop (get_or NORTH a 0) occupied set
    → IsRaySet Stays Rises a occupied set
north_ray a occupied set la stop =
    up_ray Stays Rises a occupied (get_or NORTH a 0) set tt la (at_table NORTH (is_on Stays Rises) a la north_is) stop

pub east_ray : (a occupied set : ℕ) → a < 64 → IsUpStop (get_or EAST a 0) occupied set
    → IsRaySet Rises Stays a occupied set
east_ray a occupied set la stop =
    up_ray Rises Stays a occupied (get_or EAST a 0) set tt la (at_table EAST (is_on Rises Stays) a la east_is) stop

pub north_east_ray : (a occupied set : ℕ) → a < 64 → IsUpStop (get_or NORTH_EAST a 0) occupied set
    → IsRaySet Rises Rises a occupied set
north_east_ray a occupied set la stop =
    up_ray Rises Rises a occupied (get_or NORTH_EAST a 0) set tt la
    (at_table NORTH_EAST (is_on Rises Rises) a la north_east_is) stop

pub north_west_ray : (a occupied set : ℕ) → a < 64 → IsUpStop (get_or NORTH_WEST a 0) occupied set
    → IsRaySet Falls Rises a occupied set
north_west_ray a occupied set la stop =
    up_ray Falls Rises a occupied (get_or NORTH_WEST a 0) set tt la
    (at_table NORTH_WEST (is_on Falls Rises) a la north_west_is) stop

pub south_ray : (a occupied set : ℕ) → a < 64 → IsDownStop (get_or SOUTH a 0) occupied set
    → IsRaySet Stays Falls a occupied set
south_ray a occupied set la stop =
    down_ray Stays Falls a occupied (get_or SOUTH a 0) set tt la (at_table SOUTH (is_on Stays Falls) a la south_is) stop

pub west_ray : (a occupied set : ℕ) → a < 64 → IsDownStop (get_or WEST a 0) occupied set
    → IsRaySet Falls Stays a occupied set
west_ray a occupied set la stop =
    down_ray Falls Stays a occupied (get_or WEST a 0) set tt la (at_table WEST (is_on Falls Stays) a la west_is) stop

pub south_east_ray : (a occupied set : ℕ) → a < 64 → IsDownStop (get_or SOUTH_EAST a 0) occupied set
    → IsRaySet Rises Falls a occupied set
south_east_ray a occupied set la stop =
    down_ray Rises Falls a occupied (get_or SOUTH_EAST a 0) set tt la
    (at_table SOUTH_EAST (is_on Rises Falls) a la south_east_is) stop

pub south_west_ray : (a occupied set : ℕ) → a < 64 → IsDownStop (get_or SOUTH_WEST a 0) occupied set
    → IsRaySet Falls Falls a occupied set
south_west_ray a occupied set la stop =
    down_ray Falls Falls a occupied (get_or SOUTH_WEST a 0) set tt la
    (at_table SOUTH_WEST (is_on Falls Falls) a la south_west_is) stop
