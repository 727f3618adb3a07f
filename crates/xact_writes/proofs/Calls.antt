-- A write as a call.
use Rattle.std.proofs.Common.{◌≡◌, refl, None, ◌∙◌}
use Rattle.disk_core.specs.declared.log_disk.LogDisk as logs
use Rattle.disk_core.specs.declared.page_disk.PageDisk as disks
use Rattle.hall.specs.declared.hall.Hall.{Hall}
use Rattle.hall.specs.Calls.{IsOf, start_of, view}
use Rattle.tx_model.specs.declared.command.Command.TheVariants as commands
use Rattle.tx_model.specs.declared.reply.Reply.{Reply}
use Rattle.tx_core.specs.declared.entry.Entry.{Entry}
use Rattle.tx_core.specs.declared.entry.Start.{Start}
use Rattle.engine_parts.specs.declared.part.Part.{Part}
use Rattle.engine_parts.specs.declared.session.Caller.{Caller}
use Rattle.engine_parts.specs.Answers.{Acted}
use Rattle.engine_parts.specs.Calls.{Ran}
use Rattle.engine_parts.specs.Sessions.{MayCall, by_at, stance_of}
use Rattle.tx_model.specs.Replies.{alone}
use Rattle.life_law.specs.Refused.{by_standing, refused_by}
use Rattle.tx_core.specs.Entries.{history}
use Rattle.engine_parts.specs.Stages.{pending_in}
use Rattle.engine_parts.proofs.Beholding.{held_unneeded, not_standing}
use Rattle.engine_parts.proofs.KeptMaking.{kept_making}
use Rattle.engine_parts.proofs.Refusing.{keeps_stage}
use Rattle.engine_parts.specs.Makings.{has_more_multis}

module _ {H L P : Type 0} {l : logs.Ghosts L} {p : disks.Ghosts P} (hall : Hall H (Part L P l p) Entry Start) where
  pub ran_write : (old new : Caller L P l p) (reply : Reply) → IsOf hall new.pass → MayCall (start_of hall) (view new.pass) new.number new.session → new.session.stage ≡ old.session.stage → new.session.making ≡ old.session.making → new.session.levels.commands ≡ old.session.levels.commands → new.number ≡ old.number → refused_by commands.Write (stance_of old.session) (pending_in old.session.stage) ≡ None
      → Acted (p.tells) (start_of hall) (by_at old.number old.session.levels.commands) (stance_of old.session) (stance_of new.session) old.session.stage commands.Write reply (view old.pass).seen (view new.pass).seen
      → Ran hall old.session.levels.commands commands.Write reply old new
  ran_write old new reply own may stage making count number free acted = record {
    own = own;
    may = may;
    acted = acted;
    stage = keeps_stage commands.Write reply old.session.stage new.session.stage refl stage;
    held = held_unneeded p.tells (start_of hall) (view new.pass).seen (alone (history (view old.pass).seen) (history (view new.pass).seen)) (by_at old.number old.session.levels.commands) (stance_of old.session) old.session.stage new.session.stage commands.Write reply refl refl acted.allowed;
    still = λ q is. not_standing (by_standing reply) q (acted.standing ∙ free) is;
    making = kept_making commands.Write reply (has_more_multis old.number (view old.pass).seen (view new.pass).seen) old.session.making new.session.making refl making;
    count = (count, number);
  }
