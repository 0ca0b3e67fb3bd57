use Rattle.search_pool.proofs.many.pool.Given as goal

abbrev pub ghosts-run_workers-L-Ledger : goal.ghosts-run_workers-L-Ledger
ghosts-run_workers-L-Ledger g a = record { name = a.blanks.made.name; parts = a.blanks.made.parts }

abbrev pub ghosts-run_workers-M-Ledger : goal.ghosts-run_workers-M-Ledger
ghosts-run_workers-M-Ledger g a = record { name = a.blanks.ends.name; parts = a.blanks.ends.parts }

abbrev pub ghosts-run_workers-K-OfProblem : goal.ghosts-run_workers-K-OfProblem
ghosts-run_workers-K-OfProblem g a = record { problem = a.problem }
