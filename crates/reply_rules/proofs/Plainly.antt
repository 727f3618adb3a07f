-- What is lawful of a reply that goes by no place of a history.
use Rattle.std.proofs.Common.{◌≡◌, ◌≢◌, ◌↔◌, ℕ, ◌<◌, Bool, false, List, Option, Some, None, refl, sym, ◌∙◌, arith}
use Rattle.std.specs.Prelude.{IsTrue, is_some, nat_lt}
use Rattle.std.proofs.lemmas.Bool.{false≢true, ltb-false}
use Rattle.tx_events.specs.declared.event.By.{By}
use Rattle.tx_events.specs.declared.refusal.Refusal.TheVariants as refusals
use Rattle.tx_model.specs.declared.command.Command.{Command}
use Rattle.tx_model.specs.declared.command.Command.TheVariants as commands
use Rattle.tx_model.specs.declared.reply.Reply.{Reply}
use Rattle.tx_model.specs.declared.reply.Reply.TheVariants as replies
use Rattle.tx_model.specs.declared.report.Line.{Line}
use Rattle.tx_model.specs.Replies.{RoundSpan}
use Rattle.tx_model.specs.Stance.{Stance}
use Rattle.life_law.specs.Refused.{by_standing}
use Rattle.report_law.specs.Answers.{goes_by_places}
use Rattle.report_law.specs.Steps.{IsLawfulReply, Judged}
use Rattle.reply_rules.specs.Plain.{IsPlain, is_by_log}

special : (x : ℕ) → nat_lt 2 x ≡ false → x < 3
special x f = omega (arith, ltb-false 2 x f)

pub plain_is : (judged : Type 0) (j : Judged) (before : List Line) (round multi_round : RoundSpan) (by : By) (s : Stance) (command : Command) (reply : Reply) → goes_by_places command reply ≡ false → by_standing reply ≡ None → is_by_log reply ≡ false
    → IsPlain s command reply ↔ IsLawfulReply judged j before round multi_round by s command reply
plain_is judged j before round multi_round by s commands.Write (replies.Wrote warn ids) plain other log = absurd cc
plain_is judged j before round multi_round by s commands.Write (replies.Refused (refusals.Stop next stop)) plain other log = absurd cc
plain_is judged j before round multi_round by s (commands.Snap name) (replies.Snapped lists) plain other log = absurd cc
plain_is judged j before round multi_round by s commands.Horizon (replies.Horizon xmin) plain other log = absurd cc
plain_is judged j before round multi_round by s (commands.See name x) (replies.Seen visible) plain other log = absurd cc
plain_is judged j before round multi_round by s (commands.See name x) (replies.Refused (refusals.TooOld oldest)) plain other log = absurd cc
plain_is judged j before round multi_round by s (commands.Status x) (replies.Known status) plain other log =
    let low = special x plain in (λ e f. (λ l. e, λ n. absurd (omega arith)), λ f. (f (λ t. absurd (false≢true (sym plain ∙ t)))).0 low)
plain_is judged j before round multi_round by s (commands.Status x) (replies.Refused (refusals.Future next)) plain other log =
    let low = special x plain in (λ e. absurd e, λ f. let n = (f (λ t. absurd (false≢true (sym plain ∙ t)))).0 in absurd (omega arith))
plain_is judged j before round multi_round by s (commands.Status x) (replies.Refused (refusals.TooOld oldest)) plain other log =
    let low = special x plain in (λ e. absurd e, λ f. let n = (f (λ t. absurd (false≢true (sym plain ∙ t)))).0 in absurd (omega arith))
plain_is judged j before round multi_round by s (commands.Did x) (replies.Did answer) plain other log =
    let low = special x.number plain in (λ e f. (λ l. e, λ n. absurd (omega arith)), λ f. (f (λ t. absurd (false≢true (sym plain ∙ t)))).0 low)
plain_is judged j before round multi_round by s (commands.Did x) (replies.Refused (refusals.TooOld oldest)) plain other log =
    let low = special x.number plain in (λ e. absurd e, λ f. let n = (f (λ t. absurd (false≢true (sym plain ∙ t)))).normal in absurd (omega arith))
plain_is judged j before round multi_round by s (commands.Freeze oldest) (replies.Refused (refusals.Backward now)) plain other log = absurd cc
plain_is judged j before round multi_round by s (commands.Freeze oldest) (replies.Refused (refusals.TooNew limit)) plain other log = absurd cc
plain_is judged j before round multi_round by s (commands.Multi pairs) (replies.Multi multi offset warn) plain other log = absurd cc
plain_is judged j before round multi_round by s (commands.Multi pairs) (replies.Refused (refusals.NotGiven x)) plain other log = absurd cc
plain_is judged j before round multi_round by s (commands.Multi pairs) (replies.Refused (refusals.TooOld oldest)) plain other log = absurd cc
plain_is judged j before round multi_round by s (commands.Multi pairs) (replies.Refused (refusals.MultiStop next stop)) plain other log = absurd cc
plain_is judged j before round multi_round by s (commands.Multi pairs) (replies.Refused (refusals.MemberStop next stop)) plain other log = absurd cc
plain_is judged j before round multi_round by s (commands.SeeMulti name m) (replies.Verdicts verdicts) plain other log = absurd cc
plain_is judged j before round multi_round by s (commands.SeeMulti name m) (replies.Refused (refusals.NotYet multi)) plain other log = absurd cc
plain_is judged j before round multi_round by s (commands.SeeMulti name m) (replies.Refused (refusals.MultiTooOld oldest)) plain other log = absurd cc
plain_is judged j before round multi_round by s (commands.SeeMulti name m) (replies.Refused (refusals.MultiFuture next)) plain other log = absurd cc
plain_is judged j before round multi_round by s (commands.MultiFreeze multi) replies.Done plain other log = absurd cc
plain_is judged j before round multi_round by s (commands.MultiFreeze multi) (replies.Refused (refusals.Backward now)) plain other log = absurd cc
plain_is judged j before round multi_round by s (commands.MultiFreeze multi) (replies.Refused (refusals.Held limit)) plain other log = absurd cc
plain_is judged j before round multi_round by s (commands.MultiFreeze multi) (replies.Refused (refusals.NotYet next)) plain other log = absurd cc
plain_is judged j before round multi_round by s command (replies.Refused refusals.AlreadyOpen) plain other log = absurd cc
plain_is judged j before round multi_round by s command (replies.Refused refusals.NoTransaction) plain other log = absurd cc
plain_is judged j before round multi_round by s command (replies.Refused refusals.NoSavepoint) plain other log = absurd cc
plain_is judged j before round multi_round by s command (replies.Refused refusals.DepthLimit) plain other log = absurd cc
plain_is judged j before round multi_round by s command (replies.Refused refusals.NameTaken) plain other log = absurd cc
plain_is judged j before round multi_round by s command (replies.Refused refusals.SnapLimit) plain other log = absurd cc
plain_is judged j before round multi_round by s command (replies.Refused refusals.NoSnapshot) plain other log = absurd cc
plain_is judged j before round multi_round by s command (replies.Refused refusals.Memory) plain other log = absurd cc
plain_is judged j before round multi_round by s command (replies.Refused (refusals.DiskFault lock)) plain other log = absurd cc
plain_is judged j before round multi_round by s command (replies.Refused refusals.LogFault) plain other log = absurd cc
plain_is judged j before round multi_round by s command (replies.Refused (refusals.LogDown at)) plain other log = absurd cc
plain_is judged j before round multi_round by s command (replies.Refused refusals.Full) plain other log = absurd cc
plain_is judged j before round multi_round by s commands.Trim replies.Done plain other log = (λ e. tt, λ e. tt)
plain_is judged j before round multi_round by s commands.Save replies.Done plain other log = (λ e f. e, λ f. f (λ t. absurd (false≢true t)))
plain_is judged j before round multi_round by s command reply plain other log = (λ e f. e, λ f. f (λ t. absurd (false≢true t)))

pub some_is : (b : Bool) (o : Option ℕ) → b ≡ is_some o → IsTrue b ↔ (o ≢ None)
some_is b None is = (λ t. absurd (false≢true (sym is ∙ t)), λ some. absurd (some refl))
some_is b (Some n) is = (λ t none. absurd cc, λ some. is)
