-- How large the sum of the charges may be.
use Rattle.std.proofs.Common.{ℕ, ◌-◌, ◌*◌, ◌^◌, ◌≤◌, List, length, arith, Option, Some, None}
use Rattle.std.proofs.lemmas.List.Sums.{sum_by-le}
use Rattle.clock_ledger.specs.declared.charges.Charge.{Charge}
use Rattle.clock_ledger.specs.Charges.{amount, least, IsChargeable}
use Rattle.clock_ledger.specs.Clock.{SumsUp}

-- a client's stamps never add to the time that passed
least-le : (passed : ℕ) (client : Option (ℕ × ℕ)) → least passed client ≤ passed
least-le passed None = omega arith
least-le passed (Some stamps) = omega arith

-- no charge takes more than all the moments that there are
amount-le : (c : Charge) → IsChargeable c → amount c ≤ 2 ^ 48
amount-le c sound = omega (arith, least-le (c.end - c.begin) c.client)

pub SumsUp-le : (cs : List Charge) (sum : ℕ) → SumsUp cs sum → sum ≤ length cs * 2 ^ 48
SumsUp-le cs sum kept =
    let each = sum_by-le amount (2 ^ 48) cs (λ k d within. amount-le _ (kept.sound k d within)) in
    omega (arith, kept.counted, each)
