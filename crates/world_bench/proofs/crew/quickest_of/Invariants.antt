use Rattle.world_bench.proofs.crew.quickest_of.Given as goal

abbrev pub ghosts-quickest : goal.ghosts-quickest
ghosts-quickest g a = record { name = a.blank.name; parts = a.blank.parts }
