-- A session goes on, call by call.
use Rattle.std.proofs.Common.{ℕ, ◌+◌, ◌-◌, ◌<◌, ◌≤◌, ◌^◌, Bool, true, false, cond, refl, subst, ◌∙◌, arith}
use Rattle.disk_core.specs.declared.log_disk.LogDisk as logs
use Rattle.disk_core.specs.declared.page_disk.PageDisk as disks
use Rattle.hall.specs.declared.hall.Hall.{Hall}
use Rattle.hall.specs.Calls.{start_of}
use Rattle.tx_model.specs.declared.command.Command.{Command}
use Rattle.tx_model.specs.declared.reply.Reply.{Reply}
use Rattle.tx_core.specs.declared.entry.Entry.{Entry}
use Rattle.tx_core.specs.declared.entry.Start.{Start}
use Rattle.engine_parts.specs.declared.part.Part.{Part}
use Rattle.engine_parts.specs.declared.session.Caller.{Caller}
use Rattle.engine_parts.specs.Calls.{MayRun, Ran, next_command}
use Rattle.engine_bench.specs.Going.{GoesOn}

one_at_most : (b : Bool) → cond b 1 0 ≤ 1
one_at_most true = omega arith
one_at_most false = omega arith

module _ {H L P : Type 0} {l : logs.Ghosts L} {p : disks.Ghosts P} (hall : Hall H (Part L P l p) Entry Start) (banks : ℕ) where
  pub own_banks : (c : Caller L P l p) → MayRun hall banks c → MayRun hall (start_of hall).banks c
  own_banks c may = subst (λ b. MayRun hall b c) may.step.each.0 may

  pub stays : (c : Caller L P l p) → MayRun hall banks c → GoesOn hall banks 0 c c
  stays c may = record { may = may; number = refl; commands = omega arith }

  -- a command ran, of which the session has run few
  pub ran_one : (command : Command) (reply : Reply) (done : Bool) (old new : Caller L P l p)
      → MayRun hall banks old → old.session.levels.commands < 2 ^ 48 - 1
      → Ran hall (next_command old) command reply old new → GoesOn hall banks (cond done 1 0) old new
  ran_one command reply done old new may few ran =
      let k = ran.count.0 in
      record {
        may = record {
          step = record { own = ran.own; laid = may.step.laid; each = may.step.each; may = ran.may };
          few = omega (arith, k, few);
        };
        number = ran.count.1;
        commands = (let d = one_at_most done in omega (arith, k, d));
      }

  -- and then more
  pub then : (k m n : ℕ) (a b c : Caller L P l p) → k ≤ m + n → GoesOn hall banks m a b → GoesOn hall banks n b c → GoesOn hall banks k a c
  then k m n a b c low first second = record {
    may = second.may;
    number = second.number ∙ first.number;
    commands = (let x = first.commands in let y = second.commands in omega (arith, low, x, y));
  }
