-- A list of members' handles in the order of their keys has each member's once.
use Rattle.std.proofs.Common.{◌≡◌, ◌≢◌, ℕ, Ordering, Less, Equal, Greater, Bool, true, false, List, [], ◌∷◌, ◌++◌, map, filter, get_or, refl, sym, ap, subst, ◌∙◌, arith}
use Rattle.std.specs.Prelude.{All, if◌then◌else◌}
use Rattle.std.specs.Cmp.Lexicographic.{slice_cmp}
use Rattle.std.specs.List.{AllPairs}
use Rattle.std.specs.List.Sorted.{IsPermutation}
use Rattle.std.specs.Ordering.{is_eq, is_lt, nat_cmp, ordering_reverse}
use Rattle.std.proofs.lemmas.List.{append-nil}
use Rattle.std.proofs.lemmas.Cmp.{nat_list_cmp_total}
use Rattle.std.proofs.lemmas.List.Elements.{All-nil, All-head, All-tail}
use Rattle.std.proofs.lemmas.List.Kept.{AllPairs-cons, AllPairs-filter}
use Rattle.std.proofs.lemmas.List.Sorted.{IsPermutation-append_left, IsPermutation-middle, IsPermutation-refl, IsPermutation-trans}
use Rattle.std.proofs.lemmas.Map.Text.{is_eq-slice_cmp}
use Rattle.std.proofs.lemmas.Slice.Eq.{bytes_eq-Decides}
use Rattle.fics_words.specs.Handle.{key_of}
use Rattle.lobby_state.specs.declared.member.Member.{Member}
use Rattle.lobby_state.specs.Who.{AreInOrderOfKeys, ListsEach, is_before, with_name, with_names}
use Rattle.lobby_state.proofs.InOrder.{All-with_name, none_in_order, one_more, pairs_head, pairs_tail, stays_in_order}
use Rattle.std.proofs.lemmas.Bool.{false_from_ne_true}

abbrev Differ : List ℕ → List ℕ → Type 0
Differ one another = key_of one ≢ key_of another

abbrev BothDiffer : Member → Member → Type 0
BothDiffer one another = key_of one.name ≢ key_of another.name

-- of two handles with different keys that stand in order, the first comes before the second
before_by : (one another : Ordering) → another ≡ ordering_reverse one → is_lt another ≡ false → is_eq one ≡ false
    → is_lt one ≡ true
before_by Less another turned late differ = refl
before_by Equal another turned late differ = cc
before_by Greater another turned late differ = absurd (let bad : true ≡ false = sym (ap is_lt turned) ∙ late in cc)

none_differ : AllPairs Differ []
none_differ i j d before inside = absurd (omega (arith, inside))

differ_by : (one another : List ℕ) → one ≢ another → is_eq (slice_cmp nat_cmp one another) ≡ false
differ_by one another differ = false_from_ne_true (is_eq (slice_cmp nat_cmp one another))
    (λ e. differ ((bytes_eq-Decides one another).0 (sym (is_eq-slice_cmp one another) ∙ e)))

rises : (one another : List ℕ) → is_before another one ≡ false → Differ one another → is_before one another ≡ true
rises one another late differ =
    before_by (slice_cmp nat_cmp (key_of one) (key_of another)) (slice_cmp nat_cmp (key_of another) (key_of one))
    (nat_list_cmp_total.antisymm (key_of another) (key_of one)) late (differ_by (key_of one) (key_of another) differ)

-- a handle whose key differs from those of the others keeps all keys different
differ_with : (b : Bool) (name other : List ℕ) (names : List (List ℕ)) → All (Differ name) (other ∷ names)
    → AllPairs Differ (other ∷ names)
    → AllPairs Differ (with_name name names)
    → AllPairs Differ (if b then name ∷ other ∷ names else other ∷ with_name name names)
differ_with true name other names new apart rest = AllPairs-cons Differ name (other ∷ names) new apart
differ_with false name other names new apart rest =
    AllPairs-cons Differ other (with_name name names)
    (All-with_name (Differ other) name names (λ e. All-head (Differ name) other names new (sym e))
    (pairs_head Differ other names apart))
    rest

differ_more : (name : List ℕ) (names : List (List ℕ)) → All (Differ name) names → AllPairs Differ names
    → AllPairs Differ (with_name name names)
differ_more name [] new apart = AllPairs-cons Differ name [] (All-nil (Differ name)) apart
differ_more name (other ∷ names) new apart =
    differ_with (is_before name other) name other names new apart
    (differ_more name names (All-tail (Differ name) other names new) (pairs_tail Differ other names apart))

-- the handles of members with different keys, put among others with other keys
all_differ : (names : List (List ℕ)) (members : List Member) → AllPairs Differ names → AllPairs BothDiffer members
    → All (λ member. All (Differ member.name) names) members → AllPairs Differ (with_names names members)
all_differ names [] apart between new = apart
all_differ names (member ∷ members) apart between new =
    let first : All (Differ member.name) names = All-head (λ m. All (Differ m.name) names) member members new in
    let others : All (BothDiffer member) members = pairs_head BothDiffer member members between in
    let behind : All (λ m. All (Differ m.name) names) members =
    All-tail (λ m. All (Differ m.name) names) member members new in
    all_differ (with_name member.name names) members (differ_more member.name names first apart)
    (pairs_tail BothDiffer member members between)
    (λ k d inside. All-with_name (Differ (get_or members k d).name) member.name names
    (λ e. others k d inside (sym e)) (behind k d inside))

-- each handle is there once
each_once : (names : List (List ℕ)) (members : List Member)
    → IsPermutation (names ++ map (λ member. member.name) members) (with_names names members)
each_once names [] =
    subst (λ (ns : List (List ℕ)). IsPermutation ns names) (sym (append-nil names)) (IsPermutation-refl names)
each_once names (member ∷ members) =
    let rest : List (List ℕ) = map (λ m. m.name) members in
    IsPermutation-trans (names ++ member.name ∷ rest) (member.name ∷ (names ++ rest))
    (with_names (with_name member.name names) members)
    (IsPermutation-middle names member.name rest)
    (IsPermutation-trans (member.name ∷ (names ++ rest)) (with_name member.name names ++ rest)
    (with_names (with_name member.name names) members)
    (IsPermutation-append_left rest (member.name ∷ names) (with_name member.name names) (one_more member.name names))
    (each_once (with_name member.name names) members))

-- and in order
all_in_order : (names : List (List ℕ)) (members : List Member) → AreInOrderOfKeys names
    → AreInOrderOfKeys (with_names names members)
all_in_order names [] order = order
all_in_order names (member ∷ members) order =
    all_in_order (with_name member.name names) members (stays_in_order member.name names order)

pub lists_each : (members : List Member) → AllPairs BothDiffer members → ListsEach members (with_names [] members)
lists_each members between =
    let differ = all_differ [] members none_differ between (λ k d inside. All-nil (Differ (get_or members k d).name)) in
    let order = all_in_order [] members none_in_order in
    record {
      each = each_once [] members;
      order = λ i j d before inside. rises (get_or (with_names [] members) i d) (get_or (with_names [] members) j d)
          (order i j d before inside) (differ i j d before inside);
    }

-- so also where some of them are left out
pub lists_each_of : (p : Member → Bool) (members : List Member) → AllPairs BothDiffer members
    → ListsEach (filter p members) (with_names [] (filter p members))
lists_each_of p members between = lists_each (filter p members) (AllPairs-filter BothDiffer p members between)
