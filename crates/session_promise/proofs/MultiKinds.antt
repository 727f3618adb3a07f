-- Which events of multixacts a command has.
use Rattle.std.proofs.Common.{◌≡◌, ◌<◌, ◌≤◌, ℕ, Bool, cond, List, [], Contains, IsTrue, ap, arith, sym, subst, ⊎_elim, length}
use Rattle.tx_events.specs.declared.event.By.{By}
use Rattle.tx_events.specs.declared.event.Event.{Event}
use Rattle.tx_events.specs.declared.multi.MultiEvent.{MultiEvent}
use Rattle.tx_events.specs.declared.multi.MultiEvent.TheVariants as multis
use Rattle.tx_events.specs.declared.record.Counters.{Counters}
use Rattle.tx_events.specs.declared.refusal.Refusal.TheVariants as refusals
use Rattle.tx_events.specs.Multis.{made}
use Rattle.tx_events.proofs.Membership.{Has}
use Rattle.tx_model.specs.declared.command.Command.{Command}
use Rattle.tx_model.specs.declared.command.Command.TheVariants as commands
use Rattle.tx_model.specs.declared.reply.Reply.{Reply}
use Rattle.tx_model.specs.declared.reply.Reply.TheVariants as replies
use Rattle.tx_model.specs.Replies.{RoundSpan}
use Rattle.life_law.specs.Commands.{makes_multi}
use Rattle.life_law.specs.MultiLines.{AreGiven, ArePinned, HasMultiEvents}
use Rattle.tx_core.specs.declared.entry.Entry.{Entry}
use Rattle.tx_core.specs.declared.entry.Start.{Start}
use Rattle.tx_core.specs.MultiEntries.{AreFewMultis, multi_history}
use Rattle.session_promise.specs.Promise.{IsRaisedAsTold, IsRecordedIn}

-- one that isn't a raise
abbrev raised_to : MultiEvent → ℕ
raised_to (multis.Raise by multi offset) = multi
raised_to e = 0

gen_no : (by b : By) (m o multi offset : ℕ) (members : _) → multis.Gen by m o members ≡ multis.Raise b multi offset → ⊥
gen_no by b m o multi offset members e = cc

hold_no : (by b : By) (m multi offset : ℕ) → multis.Hold by m ≡ multis.Raise b multi offset → ⊥
hold_no by b m multi offset e = cc

unhold_no : (by b : By) (m multi offset : ℕ) → multis.Unhold by m ≡ multis.Raise b multi offset → ⊥
unhold_no by b m multi offset e = cc

-- the command raised to this multixact, and was answered `ok`
abbrev IsFreezeTo : ℕ → Command → Reply → Type 0
IsFreezeTo multi (commands.MultiFreeze m) replies.Done = m ≡ multi
IsFreezeTo multi command reply = ⊥

module _ (base : Counters) (h : List Event) (round : RoundSpan) (all : List MultiEvent) (by : By) (b : By) (multi offset : ℕ) where
  abbrev raise : MultiEvent
  raise = multis.Raise b multi offset

  in_none : (es : List MultiEvent) → es ≡ [] → Has es raise → ⊥
  in_none es e h = subst (λ (t : List MultiEvent). Has t raise) e h

  in_given : (pairs : _) (es : List MultiEvent) → AreGiven base h round by pairs es → Has es raise → ⊥
  in_given pairs es g k = ⊎_elim (λ (e : multis.Gen by g.multi g.offset g.members ≡ raise). gen_no by b g.multi g.offset multi offset g.members e) (λ none. none) (subst (λ (t : List MultiEvent). Has t raise) g.events_are k)

  in_pinned : (m : ℕ) (es : List MultiEvent) → ArePinned by m es → Has es raise → ⊥
  in_pinned m es p k = ⊎_elim (λ (e : multis.Hold by m ≡ raise). hold_no by b m multi offset e) (λ t. ⊎_elim (λ (e : multis.Unhold by m ≡ raise). unhold_no by b m multi offset e) (λ none. none) t) (subst (λ (t : List MultiEvent). Has t raise) p k)

  pub raises_alone : (command : Command) (reply : Reply) (es : List MultiEvent) → HasMultiEvents base h round all by command reply es → Has es raise → IsFreezeTo multi command reply
  raises_alone (commands.Multi pairs) (replies.Multi m o warn) es e k = absurd (in_given pairs es e.1 k)
  raises_alone (commands.Multi pairs) (replies.Refused refusal) es e k = absurd (⊎_elim (λ q. in_none es q k) (λ g. in_given pairs es g.1 k) e)
  raises_alone (commands.SeeMulti name m) (replies.Verdicts verdicts) es e k = absurd (in_pinned e.1 es e.4 k)
  raises_alone (commands.SeeMulti name m) (replies.Refused (refusals.NotYet next)) es e k = absurd (in_pinned e.1 es e.4 k)
  raises_alone (commands.SeeMulti name m) (replies.Refused (refusals.DiskFault lock)) es e k = absurd (in_pinned e.1 es e.4 k)
  raises_alone (commands.SeeMulti name m) (replies.Refused refusals.Memory) es e k = absurd (⊎_elim (λ q. in_none es q k) (λ p. in_pinned p.1 es p.4 k) e)
  raises_alone (commands.MultiFreeze m) replies.Done es e k = ⊎_elim
      (λ p. ⊎_elim (λ (q : multis.Hold by m ≡ raise). absurd (hold_no by b m multi offset q))
      (λ t. ⊎_elim (λ (q : multis.Raise by m p.0 ≡ raise). ap raised_to q) (λ u. ⊎_elim (λ (q : multis.Unhold by m ≡ raise). absurd (unhold_no by b m multi offset q)) (λ none. absurd none) u) t)
      (subst (λ (t : List MultiEvent). Has t raise) p.1 k))
      (λ p. ⊎_elim (λ (q : multis.Raise by m p.0 ≡ raise). ap raised_to q) (λ none. absurd none) (subst (λ (t : List MultiEvent). Has t raise) p.1 k))
      e
  raises_alone (commands.MultiFreeze m) (replies.Refused (refusals.NotYet next)) es e k = absurd (in_pinned m es e k)
  raises_alone (commands.MultiFreeze m) (replies.Refused (refusals.DiskFault lock)) es e k = absurd (in_pinned m es e k)
  raises_alone (commands.MultiFreeze m) (replies.Refused (refusals.Held limit)) es e k = absurd (⊎_elim (λ q. in_none es q k) (λ p. in_pinned m es p k) e)
  raises_alone (commands.MultiFreeze m) (replies.Refused refusals.Memory) es e k = absurd (⊎_elim (λ q. in_none es q k) (λ p. in_pinned m es p k) e)
  raises_alone command reply es e k = absurd (in_none es e k)

pub raised_told : (tells : Bool) (start : Start) (lists : List (List Entry)) (by : By) (multi offset : ℕ) (command : Command) (reply : Reply) → IsFreezeTo multi command reply → IsRaisedAsTold tells start lists by command reply
    → IsTrue tells → AreFewMultis lists → multi < start.base.multi → Contains (multi_history lists) (multis.Raise by multi offset) → IsRecordedIn start multi offset
raised_told tells start lists by multi offset (commands.MultiFreeze m) replies.Done f r t few low c =
    subst (λ (x : ℕ). IsRecordedIn start x offset) f (r t few (subst (λ (x : ℕ). x < start.base.multi) (sym f) low) offset (subst (λ (x : ℕ). Contains (multi_history lists) (multis.Raise by x offset)) (sym f) c))
raised_told tells start lists by multi offset command reply f r t few low c = absurd f

-- ---- how many it was given

module _ (base : Counters) (h : List Event) (round : RoundSpan) (all : List MultiEvent) (by : By) where
  made_given : (pairs : _) (es : List MultiEvent) → AreGiven base h round by pairs es → length (made es) ≤ 1
  made_given pairs es g = subst (λ (t : List MultiEvent). length (made t) ≤ 1) (sym g.events_are) (omega arith)

  made_none : (es : List MultiEvent) (m : ℕ) → es ≡ [] → length (made es) ≤ m
  made_none es m e = subst (λ (t : List MultiEvent). length (made t) ≤ m) (sym e) (omega arith)

  made_pinned : (m : ℕ) (es : List MultiEvent) → ArePinned by m es → length (made es) ≤ 0
  made_pinned m es p = subst (λ (t : List MultiEvent). length (made t) ≤ 0) (sym p) (omega arith)

  pub made_most : (command : Command) (reply : Reply) (es : List MultiEvent) → HasMultiEvents base h round all by command reply es → length (made es) ≤ cond (makes_multi command) 1 0
  made_most (commands.Multi pairs) (replies.Multi m o warn) es e = made_given pairs es e.1
  made_most (commands.Multi pairs) (replies.Refused refusal) es e = ⊎_elim (λ q. made_none es 1 q) (λ g. made_given pairs es g.1) e
  made_most (commands.SeeMulti name m) (replies.Verdicts verdicts) es e = made_pinned e.1 es e.4
  made_most (commands.SeeMulti name m) (replies.Refused (refusals.NotYet next)) es e = made_pinned e.1 es e.4
  made_most (commands.SeeMulti name m) (replies.Refused (refusals.DiskFault lock)) es e = made_pinned e.1 es e.4
  made_most (commands.SeeMulti name m) (replies.Refused refusals.Memory) es e = ⊎_elim (λ q. made_none es 0 q) (λ p. made_pinned p.1 es p.4) e
  made_most (commands.MultiFreeze m) replies.Done es e = ⊎_elim
      (λ p. subst (λ (t : List MultiEvent). length (made t) ≤ 0) (sym p.1) (omega arith))
      (λ p. subst (λ (t : List MultiEvent). length (made t) ≤ 0) (sym p.1) (omega arith))
      e
  made_most (commands.MultiFreeze m) (replies.Refused (refusals.NotYet next)) es e = made_pinned m es e
  made_most (commands.MultiFreeze m) (replies.Refused (refusals.DiskFault lock)) es e = made_pinned m es e
  made_most (commands.MultiFreeze m) (replies.Refused (refusals.Held limit)) es e = ⊎_elim (λ q. made_none es 0 q) (λ p. made_pinned m es p) e
  made_most (commands.MultiFreeze m) (replies.Refused refusals.Memory) es e = ⊎_elim (λ q. made_none es 0 q) (λ p. made_pinned m es p) e
  made_most command reply es e = made_none es (cond (makes_multi command) 1 0) e
