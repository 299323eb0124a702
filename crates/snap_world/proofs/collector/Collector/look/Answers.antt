use Rattle.std.proofs.Common.{slice_set, arith, refl, ap, sym, ◌∙◌}
use Rattle.snap_world.proofs.Looks.{place_there, look_other, look_borrow}
use Rattle.snap_world.proofs.collector.Collector.look.Goals as goal

pub index_mut-requires : goal.index_mut-requires
index_mut-requires c =
    let low = place_there c.args.registers.now.items c.args.self.now c.requires.stands
    c.in-Look.segment (sym c.next.ensures.same ∙ c.in-Look.is) in omega (arith, c.args.self.now.memory.ok.0)

pub returns-in-Borrow : goal.returns-in-Borrow
returns-in-Borrow c = record {
  look = λ n set x g s born regs gat. look_borrow n set x g s c.args.self.now gat c.in-Look.segment
      (sym c.next.ensures.same ∙ c.in-Look.is) c.args.registers.now.items born regs c.index-register.result.now
      c.index-register.ensures c.told.new.self c.told.ensures.set c.told.ensures.told c.next-2.result
      c.next-2.ensures.same c.next-2.ensures.decides c.in-Borrow.field-0 c.in-Borrow.is _ refl c.copy_all.ensures;
}

pub returns-in_default-next : goal.returns-in_default-next
returns-in_default-next c = record {
  look = λ n set x g s born regs gat. look_other n set x g s c.args.self.now gat c.in-Look.segment
      (sym c.next.ensures.same ∙ c.in-Look.is) c.args.registers.now.items born regs c.index-register.result.now
      c.index-register.ensures c.told.new.self c.told.ensures.set c.told.ensures.told c.next-2.result
      c.next-2.ensures.same c.next-2.ensures.decides c.in_default-next.not-Borrow _ refl
      (ap (slice_set c.args.self.now.memory.items c.in-Look.segment) (c.set.ensures ∙ c.as_slice.ensures.bytes));
}
