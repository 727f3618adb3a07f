use Rattle.std.proofs.Common.{[], Some, ap, append-nil, arith, length, sym, ◌++◌, ◌≡◌, ◌∙◌}
use Rattle.engine_host.specs.Stores.{disk_in, disks_in, volumes_in}
use Rattle.engine_host.proofs.Refusing.{log_has_none, log_there, multis_have_none, multis_there, no_more, popped_is, popped_left, table_has_none, table_there, with_none}
use Rattle.engine_host.proofs.volumes.take_apart.Goals as goal

pub bank_volumes-volumes-requires : goal.bank_volumes-volumes-requires
bank_volumes-volumes-requires g c = record { room = λ k. omega (arith, no_more (disk_in k) c.args.locks.items, ap length (c.requires.empty k), c.requires.room k) }

pub unreachable-requires-in_default-third : goal.unreachable-requires-in_default-third
unreachable-requires-in_default-third g c =
    let all = c.args.locks.items in
    let long = c.requires.count in
    multis_there all c.in-Some.third c.requires.stand (popped_is 2 all c.bank_volumes-volumes.new.locks.items c.pop.new.self.items c.in-Some.third (omega (arith, long)) c.bank_volumes-volumes.ensures.left c.in-Some.ensures.items) c.in_default-third.not-Multi

pub unreachable-requires-in_default-second : goal.unreachable-requires-in_default-second
unreachable-requires-in_default-second g c =
    let all = c.args.locks.items in
    let long = c.requires.count in
    let two = popped_left 2 all c.bank_volumes-volumes.new.locks.items c.pop.new.self.items c.in-Some.third (omega (arith, long)) c.bank_volumes-volumes.ensures.left c.in-Some.ensures.items in
    table_there all c.in-Some-pop.second c.requires.stand (popped_is 1 all c.pop.new.self.items c.pop-2.new.self.items c.in-Some-pop.second (omega (arith, long)) two c.in-Some-pop.ensures.items) c.in_default-second.not-Proc

pub unreachable-requires-in_default-first : goal.unreachable-requires-in_default-first
unreachable-requires-in_default-first g c =
    let all = c.args.locks.items in
    let long = c.requires.count in
    let two = popped_left 2 all c.bank_volumes-volumes.new.locks.items c.pop.new.self.items c.in-Some.third (omega (arith, long)) c.bank_volumes-volumes.ensures.left c.in-Some.ensures.items in
    let one = popped_left 1 all c.pop.new.self.items c.pop-2.new.self.items c.in-Some-pop.second (omega (arith, long)) two c.in-Some-pop.ensures.items in
    log_there all c.in-Some-pop-2.first c.requires.stand (popped_is 0 all c.pop-2.new.self.items c.pop-3.new.self.items c.in-Some-pop-2.first (omega (arith, long)) one c.in-Some-pop-2.ensures.items) c.in_default-first.not-Log

pub destroy_empty-requires : goal.destroy_empty-requires
destroy_empty-requires g c =
    let all = c.args.locks.items in
    let long = c.requires.count in
    let two = popped_left 2 all c.bank_volumes-volumes.new.locks.items c.pop.new.self.items c.in-Some.third (omega (arith, long)) c.bank_volumes-volumes.ensures.left c.in-Some.ensures.items in
    let one = popped_left 1 all c.pop.new.self.items c.pop-2.new.self.items c.in-Some-pop.second (omega (arith, long)) two c.in-Some-pop.ensures.items in
    let none = ap length (popped_left 0 all c.pop-2.new.self.items c.pop-3.new.self.items c.in-Some-pop-2.first (omega (arith, long)) one c.in-Some-pop-2.ensures.items) in
    omega (arith, none, c.pop-3.new.self.ok.0)

pub returns : goal.returns
returns g c =
    let all = c.args.locks.items in
    let long = c.requires.count in
    let three = c.bank_volumes-volumes.new.locks.items in
    let left = c.bank_volumes-volumes.ensures.left in
    let two = popped_left 2 all three c.pop.new.self.items c.in-Some.third (omega (arith, long)) left c.in-Some.ensures.items in
    let one = popped_left 1 all c.pop.new.self.items c.pop-2.new.self.items c.in-Some-pop.second (omega (arith, long)) two c.in-Some-pop.ensures.items in
    let none = popped_left 0 all c.pop-2.new.self.items c.pop-3.new.self.items c.in-Some-pop-2.first (omega (arith, long)) one c.in-Some-pop-2.ensures.items in
    record {
      log = popped_is 0 all c.pop-2.new.self.items c.pop-3.new.self.items c.in-Some-pop-2.first (omega (arith, long)) one c.in-Some-pop-2.ensures.items ∙ ap Some c.in-Log.is;
      table = popped_is 1 all c.pop.new.self.items c.pop-2.new.self.items c.in-Some-pop.second (omega (arith, long)) two c.in-Some-pop.ensures.items ∙ ap Some c.in-Proc.is;
      multis = popped_is 2 all three c.pop.new.self.items c.in-Some.third (omega (arith, long)) left c.in-Some.ensures.items ∙ ap Some c.in-Multi.is;
      volumes = λ k.
          let f = disk_in k in
          let bare : disks_in k three ≡ [] =
          with_none f three c.pop.new.self.items c.in-Some.third c.in-Some.ensures.items (multis_have_none k c.in-Some.third c.in-Multi.multis c.in-Multi.is)
          ∙ (with_none f c.pop.new.self.items c.pop-2.new.self.items c.in-Some-pop.second c.in-Some-pop.ensures.items (table_has_none k c.in-Some-pop.second c.in-Proc.table c.in-Proc.is)
          ∙ (with_none f c.pop-2.new.self.items c.pop-3.new.self.items c.in-Some-pop-2.first c.in-Some-pop-2.ensures.items (log_has_none k c.in-Some-pop-2.first c.in-Log.log c.in-Log.is)
          ∙ ap (λ l. disks_in k l) none)) in
          ap (λ l. l ++ (volumes_in k c.bank_volumes-volumes.result).items) (sym bare)
          ∙ (c.bank_volumes-volumes.ensures.volumes k ∙ (ap (λ l. disks_in k all ++ l) (c.requires.empty k) ∙ append-nil (disks_in k all)));
    }
