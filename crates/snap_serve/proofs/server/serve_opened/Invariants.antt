use Rattle.snap_serve.specs.Scanners.{table_of, plan_of}
use Rattle.snap_serve.proofs.server.serve_opened.Given as goal

abbrev pub ghosts-serve_memory : goal.ghosts-serve_memory
ghosts-serve_memory g a = record {
  table = table_of a.scanners.items;
  plan = plan_of a.scanners.items;
  asked = λ i k v. Unit {0};
}
