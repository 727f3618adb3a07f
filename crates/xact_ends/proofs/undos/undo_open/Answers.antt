use Rattle.std.proofs.Common.{◌≡◌, ℕ, ◌≤◌, Some, ap, ◌∙◌, subst, sym, refl, length, arith, List}
use Rattle.session_levels.specs.Stands.{last_of, levels_of}
use Rattle.session_levels.proofs.LevelLemmas.{innermost_named, levels_length}
use Rattle.tx_model.specs.CommandEvents.{innermost}
use Rattle.engine_parts.specs.Sessions.{inner_id, by_at, stance_of}
use Rattle.xact_ends.proofs.Undone.{ran_undo, ran_unwound}
use Rattle.engine_parts.proofs.Adding.{adds_wider}
use Rattle.xact_ends.proofs.Added.{fault_leaves}
use Rattle.tx_events.specs.Running.{open_ids}
use Rattle.tx_core.specs.Entries.{history}
use Rattle.hall.specs.Calls.{start_of, view}
use Rattle.tx_model.specs.declared.command.Command.TheVariants as commands
use Rattle.xact_ends.proofs.undos.undo_open.Goals as goal

pub returns-then-caller-gt0 : goal.returns-then-caller-gt0
returns-then-caller-gt0 g c = ran_unwound c.args.hall.now c.args.caller.now c.close_unnamed.new.caller c.requires.own c.requires.may c.requires.levels (omega arith) c.requires.stage c.close_unnamed.ensures

pub returns : goal.returns
returns g c =
    let f = c.undo_named in
    let u = c.args.caller.now in
    let s = c.args.caller.now.session in
    let none : s.levels.unnamed ≡ 0 = omega arith in
    let last : last_of s.levels.level_ids.items ≡ Some c.last_id-id.result = subst (λ (l : List ℕ). last_of l ≡ Some c.last_id-id.result) c.deref.ensures.value c.last_id-id.ensures in
    let inner : inner_id s ≡ Some c.last_id-id.result = ap (λ k. innermost (levels_of s.levels.level_ids.items k)) none ∙ (innermost_named s.levels.level_ids.items ∙ last) in
    ran_undo c.args.hall.now c.args.caller.now f.new.caller c.last_id-id.result f.result f.ensures.own f.ensures.may f.ensures.number c.requires.levels inner c.requires.stage
    (adds_wider (by_at u.number s.levels.commands) _ _ (view u.pass).seen (view f.new.caller.pass).seen (fault_leaves commands.Undo (stance_of s) s.stage (open_ids u.number (history (view u.pass).seen)) f.result) f.ensures.adds) f.ensures.undoes

pub undo_named-requires-clause-innermost : goal.undo_named-requires-clause-innermost
undo_named-requires-clause-innermost g c =
    let s = c.args.caller.now.session in
    let none : s.levels.unnamed ≡ 0 = omega arith in
    let last : last_of s.levels.level_ids.items ≡ Some c.last_id-id.result = subst (λ (l : List ℕ). last_of l ≡ Some c.last_id-id.result) c.deref.ensures.value c.last_id-id.ensures in
    ap (λ k. innermost (levels_of s.levels.level_ids.items k)) none ∙ (innermost_named s.levels.level_ids.items ∙ last)

pub undo_named-requires-clause-savepoint : goal.undo_named-requires-clause-savepoint
undo_named-requires-clause-savepoint g c =
    let s = c.args.caller.now.session in
    let long = levels_length s.levels.level_ids.items s.levels.unnamed in
    let two = c.requires.levels in
    omega arith
