-- Charges that were written are read again.
use Rattle.std.proofs.Common.{◌≡◌, ℕ, ◌^◌, ◌<◌, List, [], ◌++◌, drop, refl, ap, ◌∙◌, arith, append_assoc}
use Rattle.std.specs.Prelude.{Option, Some, None}
use Rattle.clock_ledger.specs.declared.charges.Charge.{Charge}
use Rattle.clock_ledger.specs.Charges.{AreStamps}
use Rattle.game_records.specs.Numbers.{four_bytes, eight_bytes}
use Rattle.game_records.specs.Bounds.{IsCharge}
use Rattle.game_records.specs.Spelling.{charge_text}
use Rattle.game_records.specs.Reading.{four_in, eight_in, charge_behind, charge_in, behind_charge}
use Rattle.game_records.proofs.NumbersBack.{four-read, eight-read, eight-behind, sixteen-behind, twenty-behind, twenty_four-behind}

abbrev made : ℕ → ℕ → Option (ℕ × ℕ) → Charge
made begin end client = record { begin = begin; end = end; client = client }

abbrev stamped : ℕ → ℕ → ℕ → ℕ → Option Charge
stamped begin end first second = Some (made begin end (Some (first, second)))

regroup_three : (a b e : List ℕ) → (a ++ (b ++ [])) ++ e ≡ a ++ (b ++ e)
regroup_three a b e = append_assoc a (b ++ []) e ∙ ap (λ (l : List ℕ). a ++ l) (append_assoc b [] e)

regroup_five : (a b c d e : List ℕ) → (a ++ (b ++ (c ++ d))) ++ e ≡ a ++ (b ++ (c ++ (d ++ e)))
regroup_five a b c d e =
    append_assoc a (b ++ (c ++ d)) e
    ∙ ap (λ (l : List ℕ). a ++ l) (append_assoc b (c ++ d) e ∙ ap (λ (l : List ℕ). b ++ l) (append_assoc c d e))

plain-read : (begin end : ℕ) (rest : List ℕ) → begin < 2 ^ 64 → end < 2 ^ 64 →
    charge_behind 1 ((eight_bytes begin ++ (eight_bytes end ++ [])) ++ rest) ≡ Some (made begin end None)
plain-read begin end rest h k =
    let text : List ℕ = eight_bytes begin ++ (eight_bytes end ++ rest) in
    ap (charge_behind 1) (regroup_three (eight_bytes begin) (eight_bytes end) rest)
    ∙ ap (λ (n : ℕ). Some (made n (eight_in (drop 8 text)) None)) (eight-read begin (eight_bytes end ++ rest) h)
    ∙ ap (λ (n : ℕ). Some (made begin n None))
    (ap eight_in (eight-behind begin (eight_bytes end ++ rest)) ∙ eight-read end rest k)

stamped-read : (begin end first second : ℕ) (rest : List ℕ) → begin < 2 ^ 64 → end < 2 ^ 64 → first < 2 ^ 32
    → second < 2 ^ 32 →
    charge_behind 2 ((eight_bytes begin ++ (eight_bytes end ++ (four_bytes first ++ four_bytes second))) ++ rest)
    ≡ stamped begin end first second
stamped-read begin end first second rest h k p q =
    let tail : List ℕ = four_bytes first ++ (four_bytes second ++ rest) in
    let text : List ℕ = eight_bytes begin ++ (eight_bytes end ++ tail) in
    ap (charge_behind 2)
    (regroup_five (eight_bytes begin) (eight_bytes end) (four_bytes first) (four_bytes second) rest)
    ∙ ap (λ (n : ℕ). stamped n (eight_in (drop 8 text)) (four_in (drop 16 text)) (four_in (drop 20 text)))
    (eight-read begin (eight_bytes end ++ tail) h)
    ∙ ap (λ (n : ℕ). stamped begin n (four_in (drop 16 text)) (four_in (drop 20 text)))
    (ap eight_in (eight-behind begin (eight_bytes end ++ tail)) ∙ eight-read end tail k)
    ∙ ap (λ (n : ℕ). stamped begin end n (four_in (drop 20 text)))
    (ap four_in (sixteen-behind begin end tail) ∙ four-read first (four_bytes second ++ rest) p)
    ∙ ap (λ (n : ℕ). stamped begin end first n)
    (ap four_in (twenty-behind begin end first (four_bytes second ++ rest)) ∙ four-read second rest q)

moments-read : (begin end : ℕ) (client : Option (ℕ × ℕ)) (rest : List ℕ) → begin < 2 ^ 64 → end < 2 ^ 64
    → AreStamps client →
    charge_in (charge_text (Some (made begin end client)) ++ rest) ≡ Some (made begin end client)
unfolding charge_in
moments-read begin end None rest h k s = plain-read begin end rest h k
moments-read begin end (Some (first, second)) rest h k s =
    let p = s.0 in
    let q = s.1 in
    stamped-read begin end first second rest h k (omega arith) (omega arith)

pub charge-read : (charge : Option Charge) (rest : List ℕ) → IsCharge charge
    → charge_in (charge_text charge ++ rest) ≡ charge
unfolding charge_in
charge-read None rest h = refl
charge-read (Some charge) rest h =
    let ordered = h.ordered in
    let timely = h.timely in
    moments-read charge.begin charge.end charge.client rest (omega arith) (omega arith) h.stamped

behind_moments : (begin end : ℕ) (client : Option (ℕ × ℕ)) (rest : List ℕ)
    → behind_charge (charge_text (Some (made begin end client)) ++ rest) ≡ rest
unfolding behind_charge
behind_moments begin end None rest =
    ap (drop 16) (regroup_three (eight_bytes begin) (eight_bytes end) rest) ∙ sixteen-behind begin end rest
behind_moments begin end (Some (first, second)) rest =
    ap (drop 24) (regroup_five (eight_bytes begin) (eight_bytes end) (four_bytes first) (four_bytes second) rest)
    ∙ twenty_four-behind begin end first second rest

pub charge-behind : (charge : Option Charge) (rest : List ℕ) → behind_charge (charge_text charge ++ rest) ≡ rest
unfolding behind_charge
charge-behind None rest = refl
charge-behind (Some charge) rest = behind_moments charge.begin charge.end charge.client rest
