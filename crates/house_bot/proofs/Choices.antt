-- The first best of a list of moves.
use Rattle.std.proofs.Common.{arith, ◌≡◌, ◌≢◌, ℤ, pos, neg_ℤ, ◌<ℤ◌, ◌≤ℤ◌, Bool, true, false, cond, List, [], ◌∷◌, Option, Some, None, refl, sym, ap, ◌∙◌}
use Rattle.std.specs.Prelude.{int_lt}
use Rattle.std.specs.Int.{int_max}
use Rattle.std.specs.List.{find}
use Rattle.std.specs.Ordering.{int_eq, is_eq}
use Rattle.std.specs.declared.cmp.Ordering.TheVariants.{Less, Equal, Greater}
use Rattle.std.proofs.lemmas.Int.{ints, clamps, by_lt_z}
use Rattle.std.proofs.lemmas.Bool.Decides.{Decides-int_eq}
use Rattle.chess_model.specs.declared.moves.Move.{Move}
use Rattle.house_bot.specs.declared.chosen.Choice.{Choice}
use Rattle.house_bot.specs.Searching.{cut, better, best_of}
use Rattle.house_bot.proofs.Cuts.{int_lt-yes, int_lt-no}
use Rattle.house_bot.proofs.Raises.{top, raised_by-grows}

-- the choice of a move
abbrev chosen : Move → ℤ → Choice
chosen m worth = record { worth = worth; what = Some m }

better-new : (old : Choice) (m : Move) (worth : ℤ) → old.worth <ℤ worth → better old m worth ≡ chosen m worth
better-new old m worth h = ap (λ b. cond b (chosen m worth) old) (int_lt-yes old.worth worth h)

better-old : (old : Choice) (m : Move) (worth : ℤ) → worth ≤ℤ old.worth → better old m worth ≡ old
better-old old m worth h = ap (λ b. cond b (chosen m worth) old) (int_lt-no old.worth worth h)

pub better-worth : (old : Choice) (m : Move) (worth : ℤ) → (better old m worth).worth ≡ int_max old.worth worth
better-worth old m worth =
    by_lt_z old.worth worth
    (λ h. ap (λ (c : Choice). c.worth) (better-new old m worth h) ∙ omega (arith, ints, clamps, h))
    (λ h. ap (λ (c : Choice). c.worth) (better-old old m worth h) ∙ omega (arith, ints, clamps, h))

-- a worth that is cut below by what the choice has, and above by more than it is, makes no difference
pub better-cut : (old : Choice) (m : Move) (high worth r : ℤ) → old.worth <ℤ high → worth <ℤ high
    → r ≡ cut old.worth high worth →
    better old m r ≡ better old m worth
better-cut old m high worth r order less e =
    by_lt_z old.worth worth
    (λ h. let same : r ≡ worth = omega (arith, ints, clamps, h, less, order, e) in ap (better old m) same)
    (λ h.
    let same : r ≡ old.worth = omega (arith, ints, clamps, h, less, order, e) in
    better-old old m r (omega (arith, ints, same)) ∙ sym (better-old old m worth h))

pub best_of-worth : (f : Move → ℤ) (old : Choice) (ms : List Move) → (best_of f old ms).worth ≡ top f old.worth ms
best_of-worth f old [] = refl
best_of-worth f old (m ∷ ms) =
    best_of-worth f (better old m (f m)) ms ∙ ap (λ z. top f z ms) (better-worth old m (f m))

int_eq-yes : (a b : ℤ) → a ≡ b → int_eq a b ≡ true
int_eq-yes a b h = (Decides-int_eq a b).1 h

int_eq-no : (a b : ℤ) → a <ℤ b → int_eq a b ≡ false
int_eq-no a b h = ap (λ t. is_eq (cond t Less (cond (int_lt b a) Greater Equal))) (int_lt-yes a b h)

-- a move that is worth more than the choice, where g is the greatest of all
pick_new : (a w g : ℤ) (x y z : Option Move) → a <ℤ w → w ≤ℤ g
    → cond (int_lt w g) y x ≡ cond (int_lt a g) (cond (int_eq w g) x y) z
pick_new a w g x y z more least =
    let right : cond (int_lt a g) (cond (int_eq w g) x y) z ≡ cond (int_eq w g) x y =
    ap (λ b. cond b (cond (int_eq w g) x y) z) (int_lt-yes a g (omega (arith, ints, more, least))) in
    by_lt_z w g
    (λ h. ap (λ b. cond b y x) (int_lt-yes w g h) ∙ sym (right ∙ ap (λ b. cond b x y) (int_eq-no w g h)))
    (λ h.
    let same : w ≡ g = omega (arith, ints, h, least) in
    ap (λ b. cond b y x) (int_lt-no w g h) ∙ sym (right ∙ ap (λ b. cond b x y) (int_eq-yes w g same)))

-- a move that isn't
pick_old : (a w g : ℤ) (x y z : Option Move) → w ≤ℤ a
    → cond (int_lt a g) y z ≡ cond (int_lt a g) (cond (int_eq w g) x y) z
pick_old a w g x y z less =
    by_lt_z a g
    (λ h. ap (λ b. cond (int_lt a g) b z) (sym (ap (λ b. cond b x y) (int_eq-no w g (omega (arith, ints, h, less))))))
    (λ h. ap (λ b. cond b y z) (int_lt-no a g h) ∙ sym (ap (λ b. cond b (cond (int_eq w g) x y) z) (int_lt-no a g h)))

-- the first best is the first of the moves that reaches the greatest, where some is worth more than the choice
pub best_of-first : (f : Move → ℤ) (old : Choice) (ms : List Move) (g : ℤ) → g ≡ top f old.worth ms →
    (best_of f old ms).what ≡ cond (int_lt old.worth g) (find (λ m. int_eq (f m) g) ms) old.what
best_of-first f old [] g e =
    sym (ap (λ b. cond b None old.what) (int_lt-no old.worth g (omega (arith, ints, e))))
best_of-first f old (m ∷ ms) g e =
    let w : ℤ = f m in
    let rest : Option Move = find (λ y. int_eq (f y) g) ms in
    let later : (best_of f (better old m w) ms).what
    ≡ cond (int_lt (better old m w).worth g) rest (better old m w).what =
    best_of-first f (better old m w) ms g (e ∙ ap (λ z. top f z ms) (sym (better-worth old m w))) in
    let grown : int_max old.worth w ≤ℤ top f (int_max old.worth w) ms =
    raised_by-grows f (λ y. true) (int_max old.worth w) ms in
    by_lt_z old.worth w
    (λ h.
    later
    ∙ ap (λ (c : Choice). cond (int_lt c.worth g) rest c.what) (better-new old m w h)
    ∙ pick_new old.worth w g (Some m) rest old.what h (omega (arith, ints, clamps, h, grown, e)))
    (λ h.
    later
    ∙ ap (λ (c : Choice). cond (int_lt c.worth g) rest c.what) (better-old old m w h)
    ∙ pick_old old.worth w g (Some m) rest old.what h)

find-skips : (f : Move → ℤ) (m : Move) (ms : List Move) (g : ℤ) (b : Bool) → int_eq (f m) g ≡ b →
    (f m ≢ g → find (λ y. int_eq (f y) g) ms ≢ None) → cond b (Some m) (find (λ y. int_eq (f y) g) ms) ≢ None
find-skips f m ms g true is rest none = absurd (let no : Some m ≡ None = none in cc)
find-skips f m ms g false is rest none =
    rest (λ same. let no : true ≡ false = sym (int_eq-yes (f m) g same) ∙ is in cc) none

-- a greatest above the bound is reached
pub reached : (f : Move → ℤ) (low g : ℤ) (ms : List Move) → g ≡ top f low ms → low <ℤ g
    → find (λ m. int_eq (f m) g) ms ≢ None
reached f low g [] e h = absurd (omega (arith, ints, e, h))
reached f low g (m ∷ ms) e h =
    find-skips f m ms g (int_eq (f m) g) refl (λ differ.
    let grown = raised_by-grows f (λ y. true) (int_max low (f m)) ms in
    reached f (int_max low (f m)) g ms e (above low (f m) g h (omega (arith, ints, grown, e)) differ))
  where
    above : (a w x : ℤ) → a <ℤ x → int_max a w ≤ℤ x → w ≢ x → int_max a w <ℤ x
    above a w x less most differ =
        by_lt_z (int_max a w) x (λ k. k) (λ k. absurd (differ (omega (arith, ints, clamps, less, most, k))))

-- ---- the choice at the start, and at the end
abbrev pub no_choice : Choice
no_choice = record { worth = neg_ℤ (pos 200000); what = None }
