mod TidyTurns
