use Rattle.try_bench.proofs.service.serve_files.Given as goal

abbrev pub ghosts-serve_rounds : goal.ghosts-serve_rounds
ghosts-serve_rounds g a = record { table = a.scanner.table; plan = a.scanner.plan; asked = λ i k v. Unit {0} }
