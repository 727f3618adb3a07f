use Rattle.std.proofs.Common.{sym, subst, arith}
use Rattle.tx_model.specs.declared.report.DumpOf.{DumpOf}
use Rattle.dump_rules.specs.Gens.{mark_of}
use Rattle.dump_rules.specs.Shown.{AreEpochs}
use Rattle.dump_rules.proofs.Marking.{within}
use Rattle.dump_rules.proofs.shown.epochs_of.Goals as goal

pub returns-in-Members : goal.returns-in-Members
returns-in-Members g c =
    let are = c.requires.1.0 in
    subst (λ (what : DumpOf). AreEpochs g.b what c.member_epochs.result) (sym c.in-Members.is) (record {
      each = λ n there.
          let gives = there.6 in
          let low = within there.4 there.3 there.5 there.7 in
          let at = there.8 in
          c.member_epochs.ensures.offsets (mark_of there.0 (g.b.ok gives.by) there.1 there.2 there.4) n (are.all there.0 there.1 there.2 there.4 gives.by gives.stands) (omega arith) (omega arith);
      most = c.member_epochs.ensures.most;
    })
