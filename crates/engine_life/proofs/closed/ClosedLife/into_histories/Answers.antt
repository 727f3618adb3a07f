use Rattle.engine_life.proofs.closed.ClosedLife.into_histories.Goals as goal

pub returns-clause-volumes : goal.returns-clause-volumes
returns-clause-volumes g c = λ i. record {
  log = c.into_disk.ensures i;
  xact = c.args.self.xact;
  subtrans = c.args.self.subtrans;
  offsets = c.args.self.offsets;
  members = c.args.self.members;
}
