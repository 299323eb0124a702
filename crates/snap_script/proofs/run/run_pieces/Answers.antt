use Rattle.std.proofs.{Common.◌<◌, Common.◌++◌, Common.length, Common.take, Common.arith, lemmas.Grind.common_steps}
use Rattle.snap_script.proofs.Runs.{read_on, runs_cut}
use Rattle.snap_script.proofs.run.run_pieces.Goals as goal

pub returns-in-Err : goal.returns-in-Err
returns-in-Err g c = runs_cut c.loop.invariant.2 c.in-Err.error c.in-Err.ensures.bytes

pub returns-in-Err-take : goal.returns-in-Err-take
returns-in-Err-take g c =
    let fed = c.loop.invariant.2 in
    let piece = take c.in-Ok.len c.read.new.buf in
    (_, read_on fed _ piece c.in-Ok.ensures.bytes.0, c.in-Err-take.ensures.err fed.taken _ _ fed.has_taken)

pub loop-preserved : goal.loop-preserved
loop-preserved g c =
    let fed = c.loop.invariant.2 in
    let room : 0 < length c.read.new.buf = grind (arith, common_steps) in
    let piece = take c.in-Ok.len c.read.new.buf in (
      (tt, tt),
      room,
      record {
        taken = fed.taken ++ piece;
        read = read_on fed _ piece c.in-Ok.ensures.bytes.0;
        has_taken = c.in-Ok-take.ensures.ok fed.taken _ fed.has_taken;
      },
    )
