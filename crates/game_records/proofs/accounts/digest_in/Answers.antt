use Rattle.std.proofs.Common.{arith}
use Rattle.std.proofs.lemmas.List.{length-take}
use Rattle.game_records.proofs.accounts.digest_in.Goals as goal

pub returns-then-bytes-lt32-clause-none : goal.returns-then-bytes-lt32-clause-none
returns-then-bytes-lt32-clause-none c e = omega (arith, length-take 32 c.args.bytes.now)
