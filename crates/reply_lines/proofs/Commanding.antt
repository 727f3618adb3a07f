-- A command's line, rule by rule.
use Rattle.std.proofs.Common.{◌≡◌, ◌≢◌, ◌↔◌, Bool, true, false, List, Option, Some, None, refl, subst}
use Rattle.std.specs.Prelude.{IsTrue}
use Rattle.tx_events.specs.declared.event.By.{By}
use Rattle.tx_events.specs.declared.event.Event.{Event}
use Rattle.tx_events.specs.declared.multi.MultiEvent.{MultiEvent}
use Rattle.tx_events.specs.declared.refusal.Refusal.{Refusal}
use Rattle.tx_events.specs.declared.refusal.Refusal.TheVariants as refusals
use Rattle.tx_model.specs.declared.command.Command.{Command}
use Rattle.tx_model.specs.declared.command.Command.TheVariants as commands
use Rattle.tx_model.specs.declared.reply.Reply.{Reply}
use Rattle.tx_model.specs.declared.reply.Reply.TheVariants as replies
use Rattle.tx_model.specs.declared.report.Line.{Line}
use Rattle.tx_model.specs.Replies.{RoundSpan}
use Rattle.tx_model.specs.Stance.{Stance}
use Rattle.life_law.specs.Pending.{pending}
use Rattle.life_law.specs.Refused.{by_standing, refused_by}
use Rattle.report_law.specs.Answers.{goes_by_places}
use Rattle.report_law.specs.Steps.{HasFirst, HasFirstMultis, IsLawfulByHistory, IsLawfulCommand, IsLawfulReply, IsLogged, Judged, by_members, refused_by_members, unless_memory}
use Rattle.reply_lines.specs.At.{AtLine, IsLawfulUnless, before_at, earlier_at, lines_at, rounds_at, span_at, stance_at}

pub none_unless : {X : Type 0} (o : Option X) (b : Bool) → b ≡ false → ((o ≢ None) → IsTrue b) → o ≡ None
none_unless {X} None b e f = refl
none_unless {X} (Some x) b e f = let t = f (λ n. absurd cc) in absurd cc

-- ---- what goes by places is asked where it is judged

pub goes_is : (judged : Type 0) (j : Judged) (before : List Line) (round multi_round : RoundSpan) (by : By) (s : Stance) (command : Command) (reply : Reply) → goes_by_places command reply ≡ true
    → IsLawfulReply judged j before round multi_round by s command reply ↔ (judged → IsLawfulByHistory j before round multi_round by s command reply)
goes_is judged j before round multi_round by s commands.Write (replies.Wrote warn ids) goes = (λ f y. f (λ t. y), λ f h. f (h goes))
goes_is judged j before round multi_round by s commands.Write (replies.Refused (refusals.Stop next stop)) goes = (λ f y. f (λ t. y), λ f h. f (h goes))
goes_is judged j before round multi_round by s (commands.Snap name) (replies.Snapped lists) goes = (λ f y. f (λ t. y), λ f h. f (h goes))
goes_is judged j before round multi_round by s commands.Horizon (replies.Horizon xmin) goes = (λ f y. f (λ t. y), λ f h. f (h goes))
goes_is judged j before round multi_round by s (commands.See name x) (replies.Seen visible) goes = (λ f y. f (λ t. y), λ f h. f (h goes))
goes_is judged j before round multi_round by s (commands.See name x) (replies.Refused (refusals.TooOld oldest)) goes = (λ f y. f (λ t. y), λ f h. f (h goes))
goes_is judged j before round multi_round by s (commands.Status x) (replies.Known status) goes = (λ f y. f (λ t. y), λ f h. f (h goes))
goes_is judged j before round multi_round by s (commands.Status x) (replies.Refused (refusals.Future next)) goes = (λ f y. f (λ t. y), λ f h. f (h goes))
goes_is judged j before round multi_round by s (commands.Status x) (replies.Refused (refusals.TooOld oldest)) goes = (λ f y. f (λ t. y), λ f h. f (h goes))
goes_is judged j before round multi_round by s (commands.Did x) (replies.Did answer) goes = (λ f y. f (λ t. y), λ f h. f (h goes))
goes_is judged j before round multi_round by s (commands.Did x) (replies.Refused (refusals.TooOld oldest)) goes = (λ f y. f (λ t. y), λ f h. f (h goes))
goes_is judged j before round multi_round by s (commands.Freeze oldest) (replies.Refused (refusals.Backward now)) goes = (λ f y. f (λ t. y), λ f h. f (h goes))
goes_is judged j before round multi_round by s (commands.Freeze oldest) (replies.Refused (refusals.TooNew limit)) goes = (λ f y. f (λ t. y), λ f h. f (h goes))
goes_is judged j before round multi_round by s (commands.Multi pairs) (replies.Multi multi offset warn) goes = (λ f y. f (λ t. y), λ f h. f (h goes))
goes_is judged j before round multi_round by s (commands.Multi pairs) (replies.Refused (refusals.NotGiven x)) goes = (λ f y. f (λ t. y), λ f h. f (h goes))
goes_is judged j before round multi_round by s (commands.Multi pairs) (replies.Refused (refusals.TooOld oldest)) goes = (λ f y. f (λ t. y), λ f h. f (h goes))
goes_is judged j before round multi_round by s (commands.Multi pairs) (replies.Refused (refusals.MultiStop next stop)) goes = (λ f y. f (λ t. y), λ f h. f (h goes))
goes_is judged j before round multi_round by s (commands.Multi pairs) (replies.Refused (refusals.MemberStop next stop)) goes = (λ f y. f (λ t. y), λ f h. f (h goes))
goes_is judged j before round multi_round by s (commands.SeeMulti name m) (replies.Verdicts verdicts) goes = (λ f y. f (λ t. y), λ f h. f (h goes))
goes_is judged j before round multi_round by s (commands.SeeMulti name m) (replies.Refused (refusals.NotYet multi)) goes = (λ f y. f (λ t. y), λ f h. f (h goes))
goes_is judged j before round multi_round by s (commands.SeeMulti name m) (replies.Refused (refusals.MultiTooOld oldest)) goes = (λ f y. f (λ t. y), λ f h. f (h goes))
goes_is judged j before round multi_round by s (commands.SeeMulti name m) (replies.Refused (refusals.MultiFuture next)) goes = (λ f y. f (λ t. y), λ f h. f (h goes))
goes_is judged j before round multi_round by s (commands.MultiFreeze multi) replies.Done goes = (λ f y. f (λ t. y), λ f h. f (h goes))
goes_is judged j before round multi_round by s (commands.MultiFreeze multi) (replies.Refused (refusals.Backward now)) goes = (λ f y. f (λ t. y), λ f h. f (h goes))
goes_is judged j before round multi_round by s (commands.MultiFreeze multi) (replies.Refused (refusals.Held limit)) goes = (λ f y. f (λ t. y), λ f h. f (h goes))
goes_is judged j before round multi_round by s (commands.MultiFreeze multi) (replies.Refused (refusals.NotYet next)) goes = (λ f y. f (λ t. y), λ f h. f (h goes))
goes_is judged j before round multi_round by s command reply goes = absurd cc

pub unjudged_is : (judged : Type 0) (j : Judged) (before : List Line) (round multi_round : RoundSpan) (by : By) (s : Stance) (command : Command) (reply : Reply) (b : Bool) → goes_by_places command reply ≡ true → b ≡ false → IsTrue b ↔ judged
    → IsTrue true ↔ IsLawfulReply judged j before round multi_round by s command reply
unjudged_is judged j before round multi_round by s command reply b goes no_ is =
    let w = goes_is judged j before round multi_round by s command reply goes in
    (λ t. w.1 (λ x. let y = is.1 x in absurd cc), λ l. refl)

pub judged_is : (judged : Type 0) (j : Judged) (before : List Line) (round multi_round : RoundSpan) (by : By) (s : Stance) (command : Command) (reply : Reply) (b : Bool) → goes_by_places command reply ≡ true → judged
    → IsTrue b ↔ IsLawfulByHistory j before round multi_round by s command reply → IsTrue b ↔ IsLawfulReply judged j before round multi_round by s command reply
judged_is judged j before round multi_round by s command reply b goes x told =
    let w = goes_is judged j before round multi_round by s command reply goes in
    (λ t. w.1 (λ y. told.0 t), λ l. told.1 (w.0 l x))

-- ---- the line

pub command_is : (at : AtLine) (l : Line) (s : Stance) (held : Option Refusal) (e m r w u g t : Bool) → s ≡ stance_at at l.by → held ≡ pending at.j.life.recs at.j.life.events (before_at at) l.by.session
    → IsTrue e ↔ ((es : List Event) × HasFirst at.j (before_at at) l es) → IsTrue m ↔ ((es : List MultiEvent) × HasFirstMultis at.j (span_at at) l es)
    → IsTrue r ↔ (by_standing l.reply ≡ unless_memory l.reply (refused_by l.command s held)) → IsTrue w ↔ (by_members l.reply ≡ unless_memory l.reply (refused_by_members l.command))
    → IsTrue u ↔ IsLawfulUnless at l → IsTrue g ↔ IsLogged at.j (before_at at) (stance_at at l.by) l.command l.reply
    → IsTrue t ↔ (IsTrue e × IsTrue m × IsTrue r × IsTrue w × IsTrue u × IsTrue g) → IsTrue t ↔ IsLawfulCommand at.j (rounds_at at) (lines_at at) (earlier_at at) l
command_is at l s held e m r w u g t stands is_held is_e is_m is_r is_w is_u is_g is_t =
    let standing : IsTrue r ↔ (by_standing l.reply ≡ unless_memory l.reply (refused_by l.command (stance_at at l.by) (pending at.j.life.recs at.j.life.events (before_at at) l.by.session))) =
    subst (λ (p : Option Refusal). IsTrue r ↔ (by_standing l.reply ≡ unless_memory l.reply (refused_by l.command (stance_at at l.by) p))) is_held
    (subst (λ (x : Stance). IsTrue r ↔ (by_standing l.reply ≡ unless_memory l.reply (refused_by l.command x held))) stands is_r) in (
      λ x.
          let all = is_t.0 x in
          record { events = is_e.0 all.0; multis = is_m.0 all.1; standing = standing.0 all.2; members = is_w.0 all.3; reply = is_u.0 all.4; logged = is_g.0 all.5 },
      λ c. is_t.1 (is_e.1 c.events, is_m.1 c.multis, standing.1 c.standing, is_w.1 c.members, is_u.1 c.reply, is_g.1 c.logged),
    )
