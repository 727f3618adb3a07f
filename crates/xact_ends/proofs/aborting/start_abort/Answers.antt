use Rattle.std.proofs.Common.{◌≡◌, ℕ, ◌≤◌, [], ap, ◌∙◌, subst, sym, refl, length}
use Rattle.std.proofs.lemmas.Bool.{false≢true}
use Rattle.hall.specs.Calls.{view, start_of}
use Rattle.engine_parts.specs.declared.session.Session.{Session}
use Rattle.engine_parts.specs.declared.session.Stage.TheVariants as stages
use Rattle.tx_model.specs.declared.command.Command.TheVariants as commands
use Rattle.engine_parts.specs.Adding.{IsOfAbort, IsRecordBy, MayAdd}
use Rattle.engine_parts.specs.Sessions.{by_at, stance_of}
use Rattle.engine_parts.proofs.Adding.{adds_wider, may_wider}
use Rattle.xact_ends.proofs.Staging.{call_staged, not_aborting}
use Rattle.xact_ends.proofs.aborting.start_abort.Goals as goal

pub log_abort-requires-clause-unaborted : goal.log_abort-requires-clause-unaborted
log_abort-requires-clause-unaborted g c = not_aborting c.args.caller.now.session.stage c.in_default.not-Aborting

pub returns : goal.returns
returns g c =
    let old = c.args.caller.now in
    let s = old.session in
    let opened = s.levels.open_ids.items in
    let e = c.log_abort.ensures in
    record {
      own = e.own;
      may = e.may;
      adds = adds_wider (by_at old.number s.levels.commands) (MayAdd (IsOfAbort opened) ⊥ (λ r. ⊥)) (MayAdd (IsRecordBy commands.Abort (stance_of s) s.stage opened) ⊥ (λ r. ⊥)) (view old.pass).seen (view c.log_abort.new.caller.pass).seen
          (may_wider (IsOfAbort opened) (IsRecordBy commands.Abort (stance_of s) s.stage opened) ⊥ ⊥ (λ r. ⊥) (λ r. ⊥) (λ rec of. (not_aborting s.stage c.in_default.not-Aborting, of)) (λ m. m) (λ r m. m)) e.adds;
      goes = e.goes;
      session = e.session;
      number = e.number;
    }
