-- What a table ends as, where a part of one of its rows is lent.
use Rattle.std.specs.Prelude.{ℕ, Bool, List, Option}
use Rattle.std.specs.Borrow.{Fml, Lends, LendsIf, MutBor, RattleType}
use Rattle.std.specs.HashMap.Lent.{HashMembers}
use Rattle.tables.specs.declared.keyed.Keyed as rows_key
use Rattle.tables.specs.Rows.{change_at, change_first}
use Rattle.tables.specs.contracts.table.Table.{the_row}

module _ (K T P : RattleType) (key : HashMembers K.Denot) (row : rows_key.Ghosts T.Denot K.Denot) where
  -- once the borrow ends, the row at the place has the last value written through it as its part
  abbrev pub lends_part : (T.Denot → P.Denot → T.Denot) → MutBor (List T.Denot) → ℕ → MutBor P.Denot → Fml
  lends_part with_part table place part =
      Lends (the_row K T (record { eq = key.eq }) (record { hash_input = key.hash_input }) row) P table part
      (λ last. change_at place (λ row. with_part row last) table.now)

  -- the same of the row that passes the test, and where none does the table stays as it is
  abbrev pub lends_part_of : (T.Denot → P.Denot → T.Denot) → MutBor (List T.Denot) → (T.Denot → Bool)
      → Option (MutBor P.Denot) → Fml
  lends_part_of with_part table test part =
      LendsIf (the_row K T (record { eq = key.eq }) (record { hash_input = key.hash_input }) row) P table part
      (λ last. change_first test (λ row. with_part row last) table.now) table.now
