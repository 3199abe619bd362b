-- Challenges of which each pair of players has one: some go, and one comes.
use Rattle.std.proofs.Common.{◌≡◌, ℕ, Bool, true, false, not, cond, List, [], ◌∷◌, ◌++◌, refl, sym, ap, ◌∙◌}
use Rattle.std.specs.Prelude.{◌==◌, ◌&&◌}
use Rattle.std.specs.List.{filter, list_any}
use Rattle.std.proofs.lemmas.Bool.{or_from}
use Rattle.std.proofs.lemmas.List.Folds.{list_any-append}
use Rattle.seek_match.specs.declared.challenge.Challenge.{Challenge}
use Rattle.seek_match.specs.Matches.{AreChallenges, is_between, is_same_pair, with_challenge}
use Rattle.collections.proofs.Numbers.{turned}
use Rattle.collections.proofs.Tests.{list_any-filter}

-- a challenge by the first player to the second, as a table asks it
pub keyed_between : (from to : ℕ)
    → (λ (challenge : Challenge). (from == challenge.from) && (to == challenge.to)) ≡ is_between from to
keyed_between from to = λ j challenge. turned from challenge.from j && turned to challenge.to j

is_same_pair-turned : (one other : Challenge) → is_same_pair one other ≡ is_same_pair other one
is_same_pair-turned one other = ap (λ (test : Challenge → Bool). test other) (sym (keyed_between one.from one.to))

kept : (t : Bool) (x : Challenge) (rest : List Challenge) → list_any (is_same_pair x) rest ≡ false → AreChallenges rest
    → AreChallenges (cond t (x ∷ rest) rest)
kept true x rest none more = (none, more)
kept false x rest none more = more

pub AreChallenges-filter : (p : Challenge → Bool) (xs : List Challenge) → AreChallenges xs → AreChallenges (filter p xs)
AreChallenges-filter p [] all = tt
AreChallenges-filter p (x ∷ xs) all =
    kept (p x) x (filter p xs) (list_any-filter (is_same_pair x) p xs all.0) (AreChallenges-filter p xs all.1)

pub AreChallenges-with : (new : Challenge) (xs : List Challenge) → AreChallenges xs
    → AreChallenges (with_challenge new xs)
AreChallenges-with new [] all = (refl, tt)
AreChallenges-with new (x ∷ xs) all =
    let rest = filter (λ old. not (is_same_pair new old)) xs in
    elim (is_same_pair new x)
    as (λ t. is_same_pair new x ≡ t → AreChallenges (cond (not t) (x ∷ rest) rest ++ new ∷ [])) [
      | true ↦ λ _. AreChallenges-with new xs all.1
      | false ↦ λ apart. (
        list_any-append (is_same_pair x) rest (new ∷ [])
            ∙ or_from (list_any (is_same_pair x) rest) (list_any (is_same_pair x) (new ∷ []))
            (list_any-filter (is_same_pair x) (λ old. not (is_same_pair new old)) xs all.0)
            (or_from (is_same_pair x new) false (is_same_pair-turned x new ∙ apart) refl),
        AreChallenges-with new xs all.1,
      )
    ] refl
