use Rattle.each_call.proofs.main.Given as goal

abbrev pub ghosts-share : goal.ghosts-share
ghosts-share g a = record { name = a.blank.name; parts = a.blank.parts }

abbrev pub ghosts-stop : goal.ghosts-stop
ghosts-stop g a = record { name = a.blank.name; parts = a.blank.parts }
