use Rattle.std.proofs.Common.{Some, ◌≡◌, cond, sym, ap, ◌∙◌}
use Rattle.tx_events.specs.Events.{same_name}
use Rattle.proc_table.specs.Lives.{xmin_in_place, xmin_of_bytes, xmin_under}
use Rattle.proc_table.specs.declared.named.NamedXmin.{NamedXmin}
use Rattle.proc_table.specs.declared.named.NamedXmins.{NamedXmins}
use Rattle.proc_table.proofs.LiveSteps.{put_last, under_after}
use Rattle.proc_table.proofs.named.NamedXmins.put.Goals.{in-Some+in_ok-key+in_ok-insert, in_default}
use Rattle.proc_table.proofs.named.NamedXmins.put.Goals as goal

pub returns-clause-ok : goal.returns-clause-ok
returns-clause-ok c = λ n.
    let kept : xmin_of_bytes n c.match-self.self.earlier ≡ xmin_under n c.args.self.now = elim c.match-self.branch [
      | in-Some+in_ok-key+in_ok-insert w ↦
          ap (λ (m : NamedXmins). xmin_of_bytes n m.earlier) w.self-is
          ∙ put_last c.args.self.now.last w.in-Some.last (λ n. xmin_of_bytes n c.args.self.now.earlier) (λ n. xmin_of_bytes n w.insert.new.self) w.in-Some.is
          (rw (sym w.in_ok-key.ensures) (under_after w.in_ok-key.key.items c.args.self.now.earlier w.insert.new.self (Some w.in-Some.last.xmin) w.in_ok-insert.ensures.updates)) n
      | in_default w ↦
          ap (λ (m : NamedXmins). xmin_of_bytes n m.earlier) w.self-is ∙ ap (λ l. xmin_in_place n l (xmin_of_bytes n c.args.self.now.earlier)) (sym w.in_default.is)
    ] in
    ap (λ (l : NamedXmin). cond (same_name l.name n) (Some l.xmin) (xmin_of_bytes n c.match-self.self.earlier)) c.of.ensures ∙ ap (cond (same_name c.args.name.now n) (Some c.args.xmin)) kept
