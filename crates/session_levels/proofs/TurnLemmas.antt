-- What commands on levels do, and the ends of transactions.
use Rattle.tx_events.proofs.ListSteps.{length_push}
use Rattle.std.proofs.Common.{◌≡◌, ℕ, zero, suc, ◌+◌, ◌<◌, ◌≤◌, List, [], ◌∷◌, ◌++◌, length, Option, refl, sym, ap, subst, ◌∙◌, arith}
use Rattle.tx_events.specs.declared.xact_end.XactEnd.{XactEnd}
use Rattle.tx_events.specs.declared.xact_end.XactEnd.TheVariants as ends
use Rattle.tx_events.specs.declared.event.By.{By}
use Rattle.tx_events.specs.declared.event.Event.{Event}
use Rattle.tx_events.specs.declared.event.Event.TheVariants as events
use Rattle.tx_model.specs.declared.command.Command.TheVariants as commands
use Rattle.tx_model.specs.declared.reply.Reply.TheVariants as replies
use Rattle.tx_events.specs.declared.record.Counters.{Counters}
use Rattle.tx_model.specs.CommandEvents.{undo_event, innermost, commit_event, abort_event}
use Rattle.tx_model.specs.Replies.{most_levels}
use Rattle.tx_model.specs.Stance.{without_last}
use Rattle.tx_events.specs.XactEnds.{end_event}
use Rattle.session_levels.specs.Acts.{Acts, end_command}
use Rattle.session_levels.specs.Stands.{levels_of}
use Rattle.session_levels.proofs.ActsLemmas.{acts_idle}
use Rattle.session_levels.proofs.LevelLemmas.{level_more, level_less, named_less, some_levels, innermost_named, innermost_nameless, last_push, top_of_nameless, levels_length}

pub acts_begun : (base : Counters) (by : By) (h : List Event) (named : List ℕ) (unnamed : ℕ) (snaps : List (List ℕ × ℕ)) → length (levels_of named unnamed) ≡ 0 →
    Acts base by (record { levels = levels_of named unnamed; snaps = snaps }) (record { levels = levels_of named 1; snaps = snaps }) commands.Begin replies.Done h h
acts_begun base by h [] zero snaps e = acts_idle base by _ _ commands.Begin replies.Done h refl refl refl
acts_begun base by h [] (suc n) snaps e = absurd (omega arith)
acts_begun base by h (x ∷ named) n snaps e = absurd (omega arith)

pub acts_saved : (base : Counters) (by : By) (h : List Event) (named : List ℕ) (unnamed : ℕ) (snaps : List (List ℕ × ℕ)) → 1 ≤ length (levels_of named unnamed) → length (levels_of named unnamed) < most_levels →
    Acts base by (record { levels = levels_of named unnamed; snaps = snaps }) (record { levels = levels_of named (unnamed + 1); snaps = snaps }) commands.Save replies.Done h h
acts_saved base by h named unnamed snaps some few =
    acts_idle base by _ _ commands.Save replies.Done h refl (some_levels named unnamed some, few) (ap (λ ls. record { levels = ls; snaps = snaps }) (sym (level_more named unnamed)))

pub acts_released : (base : Counters) (by : By) (h : List Event) (levels levels' : List (Option ℕ)) (snaps : List (List ℕ × ℕ)) → 2 ≤ length levels → levels' ≡ without_last levels →
    Acts base by (record { levels = levels; snaps = snaps }) (record { levels = levels'; snaps = snaps }) commands.Release replies.Done h h
acts_released base by h levels levels' snaps two e = acts_idle base by _ _ commands.Release replies.Done h refl two (ap (λ ls. record { levels = ls; snaps = snaps }) (sym e))

-- a savepoint without an id is rolled back
pub acts_unwound : (base : Counters) (by : By) (h : List Event) (named : List ℕ) (unnamed left : ℕ) (snaps : List (List ℕ × ℕ)) → 2 ≤ length (levels_of named unnamed) → unnamed ≡ suc left →
    Acts base by (record { levels = levels_of named unnamed; snaps = snaps }) (record { levels = levels_of named left; snaps = snaps }) commands.Undo replies.Done h h
acts_unwound base by h named unnamed left snaps two e =
    acts_idle base by _ _ commands.Undo replies.Done h
    (sym (ap (undo_event by) (ap (λ n. innermost (levels_of named n)) e ∙ innermost_nameless named left))) two (ap (λ ls. record { levels = ls; snaps = snaps }) (level_less named unnamed left e))

-- and one with an id
pub acts_undone : (base : Counters) (by : By) (h : List Event) (ids : List ℕ) (id unnamed : ℕ) (snaps : List (List ℕ × ℕ)) → 1 ≤ length ids → unnamed ≡ 0 →
    Acts base by (record { levels = levels_of (ids ++ id ∷ []) unnamed; snaps = snaps }) (record { levels = levels_of ids unnamed; snaps = snaps }) commands.Undo replies.Done h (h ++ events.Undo by id ∷ [])
acts_undone base by h ids id unnamed snaps some none =
    subst (λ n. Acts base by (record { levels = levels_of (ids ++ id ∷ []) n; snaps = snaps }) (record { levels = levels_of ids n; snaps = snaps }) commands.Undo replies.Done h (h ++ events.Undo by id ∷ [])) (sym none)
    (record {
      added = events.Undo by id ∷ [];
      grown = refl;
      own = (refl, tt);
      fitting = sym (ap (undo_event by) (innermost_named (ids ++ id ∷ []) ∙ last_push ids id));
      allowed = let k = levels_length (ids ++ id ∷ []) 0 in let l = length_push ids id in omega arith;
      left = ap (λ ls. record { levels = ls; snaps = snaps }) (named_less ids id);
    })

-- a transaction without an id ends
pub acts_closed : (base : Counters) (by : By) (h : List Event) (unnamed : ℕ) (snaps : List (List ℕ × ℕ)) (how : XactEnd) → 1 ≤ length (levels_of [] unnamed) →
    Acts base by (record { levels = levels_of [] unnamed; snaps = snaps }) (record { levels = []; snaps = snaps }) (end_command how) replies.Done h h
acts_closed base by h unnamed snaps ends.Commit some = acts_idle base by _ _ commands.Commit replies.Done h (sym (ap (commit_event by) (top_of_nameless unnamed))) (some_levels [] unnamed some) refl
acts_closed base by h unnamed snaps ends.Abort some = acts_idle base by _ _ commands.Abort replies.Done h (sym (ap (abort_event by) (top_of_nameless unnamed))) (some_levels [] unnamed some) refl

-- and one with an id
pub acts_ended : (base : Counters) (by : By) (h : List Event) (t : ℕ) (ids : List ℕ) (unnamed : ℕ) (snaps : List (List ℕ × ℕ)) (how : XactEnd) →
    Acts base by (record { levels = levels_of (t ∷ ids) unnamed; snaps = snaps }) (record { levels = []; snaps = snaps }) (end_command how) replies.Done h (h ++ end_event how by t ∷ [])
acts_ended base by h t ids unnamed snaps ends.Commit = record { added = events.Commit by t ∷ []; grown = refl; own = (refl, tt); fitting = refl; allowed = λ e. cc; left = refl }
acts_ended base by h t ids unnamed snaps ends.Abort = record { added = events.Abort by t ∷ []; grown = refl; own = (refl, tt); fitting = refl; allowed = λ e. cc; left = refl }
