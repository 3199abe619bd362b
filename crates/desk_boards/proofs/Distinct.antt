-- Names that differ: the first one from each of the others, and these from one another.
use Rattle.std.proofs.Common.{◌≡◌, ℕ, false, List, [], ◌∷◌, map, length, bytes_eq, refl}
use Rattle.std.specs.Prelude.{◌↔◌}
use Rattle.std.specs.List.{AllByRecursion, IsDistinct, list_any}
use Rattle.fics_words.specs.Handle.{key_of}
use Rattle.std.proofs.lemmas.Bool.{or_parts, or_from}

differs : (key : List ℕ) (names : List (List ℕ))
    → (list_any (λ other. bytes_eq key (key_of other)) names ≡ false)
    ↔ AllByRecursion (λ other. bytes_eq key other ≡ false) (map key_of names)
differs key [] = (λ e. tt, λ h. refl)
differs key (name ∷ names) =
    let rest = differs key names in (
      λ e.
          let parts = or_parts (bytes_eq key (key_of name)) (list_any (λ other. bytes_eq key (key_of other)) names) e in
          (parts.0, rest.0 parts.1),
      λ h.
          or_from (bytes_eq key (key_of name)) (list_any (λ other. bytes_eq key (key_of other)) names) h.0 (rest.1 h.1),
    )

pub distinct_first : (name : List ℕ) (names : List (List ℕ)) → IsDistinct bytes_eq (map key_of (name ∷ names))
    → list_any (λ other. bytes_eq (key_of name) (key_of other)) names ≡ false
unfolding IsDistinct
distinct_first name names d = (differs (key_of name) names).1 d.0

pub distinct_rest : (name : List ℕ) (names : List (List ℕ))
    → list_any (λ other. bytes_eq (key_of name) (key_of other)) names ≡ false →
    IsDistinct bytes_eq (map key_of names) ↔ IsDistinct bytes_eq (map key_of (name ∷ names))
unfolding IsDistinct
distinct_rest name names e = (λ d. ((differs (key_of name) names).0 e, d), λ d. d.1)

pub distinct_none : (names : List (List ℕ)) → length names ≡ 0 → IsDistinct bytes_eq (map key_of names)
unfolding IsDistinct
distinct_none [] e = tt
distinct_none (name ∷ names) e = absurd cc
