use Rattle.file_keeper.proofs.store_file.StoreFileDisk.read_at.Goals as goal

pub returns-in-Held-clause-read : goal.returns-in-Held-clause-read
returns-in-Held-clause-read c = rw c.in-Held.is c.read_at.ensures.read
