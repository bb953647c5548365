use Rattle.test_views.proofs.views.told.Given as goal

abbrev pub ghosts-reaching : goal.ghosts-reaching
ghosts-reaching a = record { name = a.blank.name; parts = a.blank.parts }

abbrev pub ghosts-seeing : goal.ghosts-seeing
ghosts-seeing a = record { name = a.blank.name; parts = a.blank.parts }
