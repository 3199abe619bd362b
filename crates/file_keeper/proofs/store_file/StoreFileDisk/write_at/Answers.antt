use Rattle.file_keeper.proofs.store_file.StoreFileDisk.write_at.Goals as goal

pub returns-in-Held-clause-mixed : goal.returns-in-Held-clause-mixed
returns-in-Held-clause-mixed c = rw c.in-Held.is c.write_at.ensures.mixed
