-- The search for a free file, file by file.
use Rattle.std.specs.Option.{is_some}
use Rattle.std.proofs.Common.{arith, true, false, ◌≡◌, ◌≢◌, ℕ, suc, zero, ◌+◌, ◌<◌, ◌≤◌, [], ◌∷◌, length, get_or, Option, Some, None, slice_set, refl, sym, ap, ◌∙◌}
use Rattle.chess_model.specs.declared.man.Kind.{Kind}
use Rattle.chess_model.specs.FischerArrays.{Files, on_free}

-- the search from file i on
pub on_free_from : ℕ → Kind → ℕ → Files → Files
on_free_from zero k left files = on_free k left files
on_free_from (suc i) k left [] = []
on_free_from (suc i) k left (x ∷ files) = x ∷ on_free_from i k left files

pub from_first : (k : Kind) (left : ℕ) (files : Files) → on_free_from 0 k left files ≡ on_free k left files
unfolding on_free_from
from_first k left files = refl

-- a file that isn't free is passed over
past_held_suc : (i : ℕ) (k : Kind) (left : ℕ) (files : Files) → i < length files → get_or files i None ≢ None →
    on_free_from (suc i) k left files ≡ on_free_from i k left files
unfolding on_free_from
past_held_suc i k left [] less held = absurd (omega (arith, less))
past_held_suc zero k left (None ∷ files) less held = absurd (held refl)
past_held_suc zero k left (Some j ∷ files) less held = refl
past_held_suc (suc i) k left (x ∷ files) less held =
    ap (λ (t : Files). x ∷ t) (past_held_suc i k left files (omega (arith, less)) held)

pub past_held : (i : ℕ) (k : Kind) (left : ℕ) (files : Files) → i < length files → get_or files i None ≢ None →
    on_free_from (i + 1) k left files ≡ on_free_from i k left files
past_held i k left files less held =
    ap (λ (n : ℕ). on_free_from n k left files) (omega arith) ∙ past_held_suc i k left files less held

-- a free file counts
past_free_suc : (i : ℕ) (k : Kind) (left : ℕ) (files : Files) → i < length files → get_or files i None ≡ None →
    on_free_from (suc i) k left files ≡ on_free_from i k (suc left) files
unfolding on_free_from
past_free_suc i k left [] less free = absurd (omega (arith, less))
past_free_suc zero k left (None ∷ files) less free = refl
past_free_suc zero k left (Some j ∷ files) less free = cc
past_free_suc (suc i) k left (x ∷ files) less free =
    ap (λ (t : Files). x ∷ t) (past_free_suc i k left files (omega (arith, less)) free)

pub past_free : (i : ℕ) (k : Kind) (left : ℕ) (files : Files) → i < length files → get_or files i None ≡ None →
    on_free_from (i + 1) k left files ≡ on_free_from i k (suc left) files
past_free i k left files less free =
    ap (λ (n : ℕ). on_free_from n k left files) (omega arith) ∙ past_free_suc i k left files less free

-- the file of index 0 gets the man
pub at_free : (i : ℕ) (k : Kind) (files : Files) → i < length files → get_or files i None ≡ None →
    slice_set files i (Some k) ≡ on_free_from i k 0 files
unfolding on_free_from
at_free i k [] less free = absurd (omega (arith, less))
at_free zero k (None ∷ files) less free = refl
at_free zero k (Some j ∷ files) less free = cc
at_free (suc i) k (x ∷ files) less free = ap (λ (t : Files). x ∷ t) (at_free i k files (omega (arith, less)) free)

pub past_all : (i : ℕ) (k : Kind) (left : ℕ) (files : Files) → length files ≤ i → on_free_from i k left files ≡ files
unfolding on_free_from
past_all i k left [] less = none i
  where
    none : (i : ℕ) → on_free_from i k left [] ≡ []
    none zero = refl
    none (suc i) = refl
past_all zero k left (x ∷ files) less = absurd (omega (arith, less))
past_all (suc i) k left (x ∷ files) less = ap (λ (t : Files). x ∷ t) (past_all i k left files (omega (arith, less)))

pub free_at : (set files : Files) (i : ℕ) → set ≡ files → is_some (get_or set i None) ≡ false
    → get_or files i None ≡ None
free_at set files i same e = ap (λ (t : Files). get_or t i None) (sym same) ∙ no_man (get_or set i None) e
  where
    no_man : (man : Option Kind) → is_some man ≡ false → man ≡ None
    no_man None e = refl
    no_man (Some k) e = absurd (let f : true ≡ false = e in cc)

pub held_at : (set files : Files) (i : ℕ) → set ≡ files → is_some (get_or set i None) ≡ true
    → get_or files i None ≢ None
held_at set files i same e none =
    let gone : get_or set i None ≡ None = ap (λ (t : Files). get_or t i None) same ∙ none in
    let both : false ≡ true = sym (ap (λ (man : Option Kind). is_some man) gone) ∙ e in
    cc
