use Rattle.snap_register.{specs.Steps.view_of, proofs.Updates.value_shown}
use Rattle.snap_register.proofs.access.Access.value.Goals as goal

pub returns-clause-value : goal.returns-clause-value
returns-clause-value c =
    let me = c.args.self.now in
    value_shown me.seat.table_id (view_of me) c.args.j _ c.requires.looked
    (me.seated.records_are c.args.j c.requires.segment) c.read_value.ensures.value
