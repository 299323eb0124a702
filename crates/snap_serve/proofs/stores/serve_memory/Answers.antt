use Rattle.snap_serve.proofs.stores.serve_memory.Goals as goal

pub returns : goal.returns
returns g c = rw c.new-listener.ensures at c.run_observed.ensures
