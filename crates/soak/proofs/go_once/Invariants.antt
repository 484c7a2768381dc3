use Rattle.soak.proofs.go_once.Given as goal

abbrev pub ghosts-go_round : goal.ghosts-go_round
ghosts-go_round g a = record { name = a.blank.name; parts = a.blank.parts }
