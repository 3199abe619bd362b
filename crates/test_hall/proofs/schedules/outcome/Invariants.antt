use Rattle.test_hall.proofs.schedules.outcome.Given as goal

abbrev pub ghosts-given_back : goal.ghosts-given_back
ghosts-given_back g a = record { hall = a.hall }
