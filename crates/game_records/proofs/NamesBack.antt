-- Names that were written are read again.
use Rattle.std.proofs.Common.{◌≡◌, ℕ, suc, ◌+◌, ◌-◌, ◌<◌, ◌≤◌, List, [], ◌∷◌, ◌++◌, length, refl, sym, ap, subst, ◌∙◌, arith, append_assoc}
use Rattle.std.specs.List.{AllByRecursion}
use Rattle.std.proofs.Math.Seq.{take-append_seam, drop-append_seam}
use Rattle.fics_words.specs.Handle.{IsHandle}
use Rattle.game_records.specs.Spelling.{name_text, names_text}
use Rattle.game_records.specs.Reading.{name_in, behind_name, names_in, behind_names}
use Rattle.fics_words.proofs.Each.{each-back}

pub name-read : (name rest : List ℕ) → name_in (name_text name ++ rest) ≡ name
name-read name rest = take-append_seam name rest

pub name-behind : (name rest : List ℕ) → behind_name (name_text name ++ rest) ≡ rest
name-behind name rest = drop-append_seam name rest

pub names-read : (names : List (List ℕ)) (rest : List ℕ) → names_in (length names) (names_text names ++ rest) ≡ names
names-read [] rest = refl
names-read (name ∷ names) rest =
    let text : List ℕ = names_text names ++ rest in
    ap (λ (l : List ℕ). name_in l ∷ names_in (length names) (behind_name l))
    (append_assoc (name_text name) (names_text names) rest)
    ∙ ap (λ (x : List ℕ). x ∷ names_in (length names) (behind_name (name_text name ++ text))) (name-read name text)
    ∙ ap (λ (l : List ℕ). name ∷ names_in (length names) l) (name-behind name text)
    ∙ ap (λ (ns : List (List ℕ)). name ∷ ns) (names-read names rest)

pub names-behind : (names : List (List ℕ)) (rest : List ℕ)
    → behind_names (length names) (names_text names ++ rest) ≡ rest
names-behind [] rest = refl
names-behind (name ∷ names) rest =
    ap (λ (l : List ℕ). behind_names (length names) (behind_name l))
    (append_assoc (name_text name) (names_text names) rest)
    ∙ ap (behind_names (length names)) (name-behind name (names_text names ++ rest))
    ∙ names-behind names rest

-- ---- the loops

less_one : (m n : ℕ) (bytes : List ℕ) → m ≡ suc n → names_in m bytes ≡ name_in bytes ∷ names_in n (behind_name bytes)
less_one m n bytes e = ap (λ (k : ℕ). names_in k bytes) e

pub names_step : (count i : ℕ) (bytes : List ℕ) → i < count →
    names_in (count - i) bytes ≡ name_in bytes ∷ names_in (count - (i + 1)) (behind_name bytes)
names_step count i bytes h = less_one (count - i) (count - (i + 1)) bytes (omega arith)

pub names_end : (count i : ℕ) (bytes : List ℕ) → count ≤ i → names_in (count - i) bytes ≡ []
names_end count i bytes h = ap (λ (k : ℕ). names_in k bytes) (let e : count - i ≡ 0 = omega arith in e)

behind_one : (m n : ℕ) (bytes : List ℕ) → m ≡ suc n → behind_names m bytes ≡ behind_names n (behind_name bytes)
behind_one m n bytes e = ap (λ (k : ℕ). behind_names k bytes) e

pub behind_step : (count i : ℕ) (bytes : List ℕ) → i < count →
    behind_names (count - i) bytes ≡ behind_names (count - (i + 1)) (behind_name bytes)
behind_step count i bytes h = behind_one (count - i) (count - (i + 1)) bytes (omega arith)

pub behind_end : (count i : ℕ) (bytes : List ℕ) → count ≤ i → behind_names (count - i) bytes ≡ bytes
behind_end count i bytes h = ap (λ (k : ℕ). behind_names k bytes) (let e : count - i ≡ 0 = omega arith in e)

-- where the next name is no handle, not all are
pub no_handle : (done all : List (List ℕ)) (count i : ℕ) (rest : List ℕ) → i < count
    → done ++ names_in (count - i) rest ≡ all →
    (IsHandle (name_in rest) → ⊥) → AllByRecursion IsHandle all → ⊥
no_handle done all count i rest h e bad each =
    let left = each-back IsHandle done (names_in (count - i) rest) (subst (AllByRecursion IsHandle) (sym e) each) in
    let next = subst (AllByRecursion IsHandle) (names_step count i rest h) left in
    bad next.0

pub ruleset each_name = (names_step, names_end)

pub ruleset behind_each = (behind_step, behind_end)
