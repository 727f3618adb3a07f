-- A line that may stand is that of one item.
use Rattle.std.proofs.Common.{◌≡◌, ℕ, ◌^◌, ◌<◌, List, [], ◌∷◌, ◌++◌, true, false, Option, Some, None, refl, sym, ap, ◌∙◌, subst, arith, get_or, codes}
use Rattle.std.specs.Fmt.{decimal}
use Rattle.std.specs.Str.{bytes_eq}
use Rattle.std.proofs.lemmas.Bool.{false≢true}
use Rattle.std.proofs.lemmas.Slice.Eq.{bytes_eq-Decides}
use Rattle.tx_events.specs.Events.{by_of}
use Rattle.tx_events.specs.declared.event.Event.{Event}
use Rattle.tx_events.specs.declared.multi.MultiEvent.{MultiEvent}
use Rattle.tx_events.specs.declared.multi.MultiEvent.TheVariants as multis
use Rattle.tx_events.specs.declared.record.Rec.{Rec}
use Rattle.tx_events.specs.declared.refusal.Refusal.{Refusal}
use Rattle.tx_events.specs.declared.refusal.Refusal.TheVariants as refusals
use Rattle.tx_model.specs.declared.report.DumpOf.{DumpOf}
use Rattle.tx_model.specs.declared.report.DumpOf.TheVariants as dumps
use Rattle.tx_model.specs.declared.report.How.{How}
use Rattle.tx_model.specs.declared.report.Line.{Line}
use Rattle.tx_model.specs.declared.report.Step.{Step}
use Rattle.tx_model.specs.declared.report.Step.TheVariants as steps
use Rattle.tx_model.specs.declared.reply.Reply.{Reply}
use Rattle.tx_model.specs.declared.reply.Reply.TheVariants as replies
use Rattle.report_text.specs.Words.{name_at}
use Rattle.tx_events.specs.Multis.{multi_by}
use Rattle.report_text.specs.EventText.{multi_event_word}
use Rattle.report_text.specs.ReplyText.{refusal_word, reply_words}
use Rattle.report_text.specs.ReportText.{command_line, crash_text, dump_words, step_text}
use Rattle.report_words.specs.Fits.{AreNames, FitsCheckpointReply, FitsCheckpointRefusal, IsPending, FitsEvent, FitsLine, FitsMultiEvent, FitsRecord}
use Rattle.report_words.specs.Reading.{◌>>=◌, word_at, number_of, number_at}
use Rattle.report_words.proofs.Again.{number_again, number_at_again}
use Rattle.report_lines.specs.declared.life.Start.{Start}
use Rattle.report_lines.specs.declared.life.LogHead.{LogHead}
use Rattle.report_lines.specs.Commands.{line_at}
use Rattle.report_lines.specs.Events.{event_at, multi_event_at}
use Rattle.report_lines.specs.Fits.{FitsLog, FitsStart, FitsStep}
use Rattle.report_lines.specs.Fixed.{crash_in}
use Rattle.report_lines.specs.Records.{record_line_at, start_at, log_at}
use Rattle.report_lines.specs.Steps.{step_at}
use Rattle.report_words.specs.Texts.{event_line, multi_line, record_line}
use Rattle.report_lines.specs.Texts.{log_line, start_line}
use Rattle.report_lines.proofs.AgainEvents.{event_line_again, multi_line_again}
use Rattle.report_lines.proofs.AgainLines.{command_line_again, log_line_again, record_line_again, start_line_again}
use Rattle.report_lines.proofs.AgainSteps.{step_line_again}
use Rattle.report_lines.proofs.Apart.{apart, some_same}
use Rattle.report_lines.proofs.Crashes.{only}
use Rattle.report_read.specs.Item.{Item}
use Rattle.report_read.specs.Item as items
use Rattle.report_read.specs.Grammar.{AreNamed, IsNamed, Rule, begins_step, is_between, is_history, is_log, is_multis, is_opening, is_round, item_line, may_stand, note, session_of}
use Rattle.report_read.specs.Taking.{note_some, pending_name, said_name, second_word}
use Rattle.report_read.specs.declared.told.Stage.{Stage}
use Rattle.report_read.specs.declared.told.Stage.TheVariants as stages
use Rattle.report_read.specs.declared.told.Told.{Told}
use Rattle.report_read.proofs.LineWords.{item_words, same_words, step_words}

-- ---- stages that a line may stand in

abbrev pub stage_group : Stage → ℕ
stage_group stages.Opening = 0
stage_group stages.Between = 1
stage_group stages.Steps = 2
stage_group stages.Silent = 2
stage_group stages.Spoken = 2
stage_group stages.History = 3
stage_group stages.Multis = 4
stage_group stages.Log = 5
stage_group stages.Closed = 6

abbrev pub item_group : Item → ℕ
item_group items.title = 0
item_group (items.life number s) = 1
item_group (items.round number) = 2
item_group (items.command l) = 2
item_group (items.step s) = 2
item_group items.history = 2
item_group (items.event e) = 3
item_group items.multis = 3
item_group (items.multi e) = 4
item_group (items.log l) = 4
item_group (items.logged number r) = 5
item_group (items.crash how) = 5
item_group items.last = 5

pub opening_is : (s : Stage) → is_opening s ≡ true → s ≡ stages.Opening
opening_is stages.Opening e = refl
opening_is _ e = absurd (false≢true e)

pub between_is : (s : Stage) → is_between s ≡ true → s ≡ stages.Between
between_is stages.Between e = refl
between_is _ e = absurd (false≢true e)

pub history_is : (s : Stage) → is_history s ≡ true → s ≡ stages.History
history_is stages.History e = refl
history_is _ e = absurd (false≢true e)

pub multis_is : (s : Stage) → is_multis s ≡ true → s ≡ stages.Multis
multis_is stages.Multis e = refl
multis_is _ e = absurd (false≢true e)

pub log_is : (s : Stage) → is_log s ≡ true → s ≡ stages.Log
log_is stages.Log e = refl
log_is _ e = absurd (false≢true e)

step_group : (s : Stage) → begins_step s ≡ true → 2 ≡ stage_group s
step_group stages.Steps e = refl
step_group stages.Spoken e = refl
step_group _ e = absurd (false≢true e)

round_group : (s : Stage) → is_round s ≡ true → 2 ≡ stage_group s
round_group stages.Silent e = refl
round_group stages.Spoken e = refl
round_group _ e = absurd (false≢true e)

pub stands_in : (x : Item) (s : Stage) → may_stand x s ≡ true → item_group x ≡ stage_group s
stands_in items.title s e = sym (ap stage_group (opening_is s e))
stands_in (items.life number start) s e = sym (ap stage_group (between_is s e))
stands_in (items.round number) s e = step_group s e
stands_in (items.command l) s e = round_group s e
stands_in (items.step v) s e = step_group s e
stands_in items.history s e = step_group s e
stands_in (items.event v) s e = sym (ap stage_group (history_is s e))
stands_in items.multis s e = sym (ap stage_group (history_is s e))
stands_in (items.multi v) s e = sym (ap stage_group (multis_is s e))
stands_in (items.log l) s e = sym (ap stage_group (multis_is s e))
stands_in (items.logged number r) s e = sym (ap stage_group (log_is s e))
stands_in (items.crash how) s e = sym (ap stage_group (log_is s e))
stands_in items.last s e = sym (ap stage_group (log_is s e))

-- ---- words that differ

pub clash : (a b : List ℕ) → a ≡ b → bytes_eq a b ≡ false → ⊥
clash a b e f = false≢true (sym f ∙ (bytes_eq-Decides a b).1 e)

pub no_number : (n : ℕ) (w : List ℕ) → n < 2 ^ 64 → decimal n ≡ w → number_of w ≡ None → ⊥
no_number n w l e f = let g : Some n ≡ None = sym (number_again n l) ∙ ap number_of e ∙ f in absurd cc

abbrev pub nth : ℕ → List (List ℕ) → List ℕ
nth i ws = get_or ws i []

-- ---- the names that a line says

pub named_same : (old : List (List ℕ)) (s r : ℕ) (m k : List (List ℕ)) → IsNamed old s m → IsNamed old r k → name_at m s ≡ name_at k r → m ≡ k
named_same old s r m k a b e = a.noted ∙ ap (note old) e ∙ sym b.noted

pub event_second : (names : List (List ℕ)) (e : Event) → second_word (item_words names (items.event e)) ≡ Some (name_at names (by_of e).session)
unfolding second_word
event_second names e = refl

pub multi_second : (names : List (List ℕ)) (e : MultiEvent) → second_word (item_words names (items.multi e)) ≡ Some (name_at names (multi_by e).session)
unfolding second_word
multi_second names e = refl

pub command_said : (names : List (List ℕ)) (l : Line) → l.by.command < 2 ^ 64 → said_name (item_words names (items.command l)) ≡ Some (name_at names l.by.session)
unfolding said_name
command_said names l f = rw (number_at_again l.by.command _ f) refl

pub round_unsaid : (names : List (List ℕ)) (n : ℕ) → n < 2 ^ 64 → said_name (item_words names (items.round n)) ≡ None
unfolding said_name
round_unsaid names n l = rw (number_at_again n [] l) refl

pub history_unsaid : (names : List (List ℕ)) → said_name (item_words names items.history) ≡ None
unfolding said_name number_at
history_unsaid names = refl

dump_unsaid : (what : DumpOf) (ws : List (List ℕ)) → number_at (dump_words what ++ ws) ≡ None
unfolding number_at
dump_unsaid dumps.Log ws = refl
dump_unsaid (dumps.Xact page) ws = refl
dump_unsaid (dumps.Subtrans page) ws = refl
dump_unsaid (dumps.Offsets page) ws = refl
dump_unsaid (dumps.Members page) ws = refl

checkpoint_unsaid : (ws : List (List ℕ)) → number_at (codes "->" ∷ ws) ≡ None
unfolding number_at
checkpoint_unsaid ws = refl

pub step_unsaid : (names : List (List ℕ)) (s : Step) → FitsStep names s → said_name (item_words names (items.step s)) ≡ None
unfolding said_name
step_unsaid names (steps.Round number lines) f = absurd f
step_unsaid names (steps.Checkpoint reply) f = rw (checkpoint_unsaid (reply_words names reply)) refl
step_unsaid names (steps.Dump what from size reply) f = rw (dump_unsaid what _) refl

unfoldable pub name_somewhere : List (List ℕ) → Option ℕ → Option (List ℕ)
name_somewhere names None = None
name_somewhere names (Some s) = Some (name_at names s)

unpending : (r : Refusal) (ws : List (List ℕ)) → FitsCheckpointRefusal r → pending_name (codes "checkpoint" ∷ codes "->" ∷ refusal_word r ∷ ws) ≡ None
unfolding pending_name refusal_word
unpending (refusals.LogDown at) [] f = refl
unpending (refusals.LogDown at) (w ∷ ws) f = refl
unpending refusals.LogFault [] f = refl
unpending refusals.LogFault (w ∷ ws) f = refl
unpending (refusals.DiskFault lock) [] f = refl
unpending (refusals.DiskFault lock) (w ∷ ws) f = refl
unpending refusals.Full [] f = refl
unpending refusals.Full (w ∷ ws) f = refl
unpending refusals.Memory [] f = refl
unpending refusals.Memory (w ∷ ws) f = refl
unpending _ _ f = absurd f

pending_again : (r : Refusal) (w : List ℕ) → IsPending r → pending_name (codes "checkpoint" ∷ codes "->" ∷ refusal_word r ∷ w ∷ []) ≡ Some w
unfolding pending_name refusal_word
pending_again refusals.CommitPending w f = refl
pending_again refusals.MultiPending w f = refl
pending_again _ w f = absurd f

no_words : (o : Option (List ℕ × List (List ℕ))) (f : List ℕ × List (List ℕ) → Option (List ℕ)) → ((p : List ℕ × List (List ℕ)) → f p ≡ None) → (o >>= f) ≡ None
no_words None f h = refl
no_words (Some p) f h = h p

dump_unpending : (ws : List (List ℕ)) → pending_name (codes "dump" ∷ ws) ≡ None
unfolding pending_name
dump_unpending ws = no_words (word_at ws) _ (λ a. no_words (word_at a.1) _ (λ b. no_words (word_at b.1) _ (λ c. refl)))

done_unpending : pending_name (codes "checkpoint" ∷ codes "->" ∷ codes "ok" ∷ []) ≡ None
unfolding pending_name
done_unpending = refl

checkpoint_pending : (names : List (List ℕ)) (r : Reply) → FitsCheckpointReply names r → pending_name (codes "checkpoint" ∷ codes "->" ∷ reply_words names r) ≡ name_somewhere names (session_of (steps.Checkpoint r))
unfolding name_somewhere
checkpoint_pending names replies.Done f = done_unpending
checkpoint_pending names (replies.Pending session refusal) f = pending_again refusal (name_at names session) f.1
checkpoint_pending names (replies.Refused refusal) f = unpending refusal _ f
checkpoint_pending names _ f = absurd f

pub step_pending : (names : List (List ℕ)) (s : Step) → FitsStep names s → pending_name (item_words names (items.step s)) ≡ name_somewhere names (session_of s)
unfolding name_somewhere
step_pending names (steps.Round number lines) f = absurd f
step_pending names (steps.Checkpoint reply) f = checkpoint_pending names reply f
step_pending names (steps.Dump what from size reply) f = dump_unpending _

somewhere_named : (old : List (List ℕ)) (o : Option ℕ) (names : List (List ℕ)) → AreNamed old o names → names ≡ note_some old (name_somewhere names o)
unfolding name_somewhere
somewhere_named old None names a = a
somewhere_named old (Some s) names a = a.noted

-- the names of a step are those that its words say
pub step_named : (t : Told) (s : Step) (names : List (List ℕ)) → Rule t (items.step s) names → names ≡ note_some t.names (pending_name (item_words names (items.step s)))
step_named t s names r = somewhere_named t.names (session_of s) names r.0 ∙ ap (note_some t.names) (sym (step_pending names s r.2))

-- ---- one line, one item

pub record SameLine (x y : Item) (m k : List (List ℕ)) : Type 0 where
  pub item : x ≡ y
  pub names : m ≡ k

life_same : (n k : ℕ) (s r : Start) → n ≡ k → n < 2 ^ 64 → FitsStart s → FitsStart r → start_line n s ≡ start_line k r → items.life n s ≡ items.life k r
life_same n k s r e l f g t =
    let same : s ≡ r = apart start_at (start_line n) FitsStart (λ bytes x a b c. start_line_again n bytes x l a b c) s r f g (t ∙ ap (λ i. start_line i r) (sym e)) in
    ap (λ i. items.life i s) e ∙ ap (λ q. items.life k q) same

logged_same : (n k : ℕ) (s r : Rec) → n ≡ k → n < 2 ^ 64 → FitsRecord n s → FitsRecord k r → record_line n s ≡ record_line k r → items.logged n s ≡ items.logged k r
logged_same n k s r e l f g t =
    let same : s ≡ r = apart (record_line_at n) (record_line n) (FitsRecord n) (λ bytes x a b c. record_line_again n bytes x l a b c) s r f (subst (λ i. FitsRecord i r) (sym e) g) (t ∙ ap (λ i. record_line i r) (sym e)) in
    ap (λ i. items.logged i s) e ∙ ap (λ q. items.logged k q) same

pub event_same : (names : List (List ℕ)) (e f : Event) → AreNames names → FitsEvent names e → FitsEvent names f → event_line names e ≡ event_line names f → e ≡ f
event_same names e f n a b t = apart (event_at names) (event_line names) (FitsEvent names) (λ bytes x l g u. event_line_again names bytes x n g l u) e f a b t

pub multi_same : (names : List (List ℕ)) (e f : MultiEvent) → AreNames names → FitsMultiEvent names e → FitsMultiEvent names f → multi_line names e ≡ multi_line names f → e ≡ f
multi_same names e f n a b t = apart (multi_event_at names) (multi_line names) (FitsMultiEvent names) (λ bytes x l g u. multi_line_again names bytes x n l g u) e f a b t

pub command_same : (names : List (List ℕ)) (e f : Line) → AreNames names → FitsLine names e → FitsLine names f → command_line names e ≡ command_line names f → e ≡ f
command_same names e f n a b t = apart (line_at names) (command_line names) (FitsLine names) (λ bytes x l g u. command_line_again names bytes x n l g u) e f a b t

pub step_same : (names : List (List ℕ)) (e f : Step) → AreNames names → FitsStep names e → FitsStep names f → step_text names e ≡ step_text names f → e ≡ f
step_same names e f n a b t = apart (step_at names) (step_text names) (FitsStep names) (λ bytes x l g u. step_line_again names bytes x n l g u) e f a b t

log_same : (e f : LogHead) → FitsLog e → FitsLog f → log_line e ≡ log_line f → e ≡ f
log_same e f a b t = apart log_at log_line FitsLog (λ bytes x l g u. log_line_again bytes x l g u) e f a b t

crash_same : (h k : How) → crash_text (Some h) ≡ crash_text (Some k) → h ≡ k
crash_same h k e =
    let a = only (crash_text (Some h)) (crash_in (crash_text (Some h))) refl h refl in
    let b = only (crash_text (Some h)) (crash_in (crash_text (Some h))) refl k e in
    some_same h k (sym a ∙ b)

-- a line said by a session is no other's
said_clash : (ws vs : List (List ℕ)) (w : List ℕ) → ws ≡ vs → said_name ws ≡ Some w → said_name vs ≡ None → ⊥
said_clash ws vs w e f g = let h : Some w ≡ None = sym f ∙ ap said_name e ∙ g in absurd cc

second_clash : (ws vs : List (List ℕ)) (w : List ℕ) → ws ≡ vs → second_word ws ≡ Some w → second_word vs ≡ None → ⊥
second_clash ws vs w e f g = let h : Some w ≡ None = sym f ∙ ap second_word e ∙ g in absurd cc

pub multis_none : second_word (codes "multis" ∷ []) ≡ None
unfolding second_word
multis_none = refl

step_no_round : (names : List (List ℕ)) (s : Step) (n : ℕ) → FitsStep names s → step_words names s ≡ codes "round" ∷ decimal n ∷ [] → ⊥
step_no_round names (steps.Round number lines) n f e = absurd f
step_no_round names (steps.Checkpoint reply) n f e = clash (codes "checkpoint") (codes "round") (ap (nth 0) e) refl
step_no_round names (steps.Dump what from size reply) n f e = clash (codes "dump") (codes "round") (ap (nth 0) e) refl

step_no_history : (names : List (List ℕ)) (s : Step) → FitsStep names s → step_words names s ≡ codes "history" ∷ [] → ⊥
step_no_history names (steps.Round number lines) f e = absurd f
step_no_history names (steps.Checkpoint reply) f e = clash (codes "checkpoint") (codes "history") (ap (nth 0) e) refl
step_no_history names (steps.Dump what from size reply) f e = clash (codes "dump") (codes "history") (ap (nth 0) e) refl

pub multi_no_log : (names : List (List ℕ)) (e : MultiEvent) (ws : List (List ℕ)) → item_words names (items.multi e) ≡ codes "log" ∷ ws → ⊥
unfolding multi_event_word
multi_no_log names (multis.Gen by multi offset members) ws e = clash (codes "gen") (codes "log") (ap (nth 0) e) refl
multi_no_log names (multis.Hold by multi) ws e = clash (codes "hold") (codes "log") (ap (nth 0) e) refl
multi_no_log names (multis.Unhold by multi) ws e = clash (codes "unhold") (codes "log") (ap (nth 0) e) refl
multi_no_log names (multis.Raise by multi offset) ws e = clash (codes "raise") (codes "log") (ap (nth 0) e) refl

module _ (t : Told) where
  commands_same : (l r : Line) (m k : List (List ℕ)) → Rule t (items.command l) m → Rule t (items.command r) k → command_line m l ≡ command_line k r → SameLine (items.command l) (items.command r) m k
  commands_same l r m k a b e =
      let n : m ≡ k = named_same t.names l.by.session r.by.session m k a.0 b.0 (some_same _ _ (sym (command_said m l a.1.by.command) ∙ ap said_name (same_words t (items.command l) (items.command r) m k a b e) ∙ command_said k r b.1.by.command)) in
      record { item = ap items.command (command_same k l r b.0.are (subst (λ q. FitsLine q l) n a.1) b.1 (ap (λ q. command_line q l) (sym n) ∙ e)); names = n }

  events_same : (l r : Event) (m k : List (List ℕ)) → Rule t (items.event l) m → Rule t (items.event r) k → event_line m l ≡ event_line k r → SameLine (items.event l) (items.event r) m k
  events_same l r m k a b e =
      let n : m ≡ k = named_same t.names (by_of l).session (by_of r).session m k a.0 b.0 (some_same _ _ (sym (event_second m l) ∙ ap second_word (same_words t (items.event l) (items.event r) m k a b e) ∙ event_second k r)) in
      record { item = ap items.event (event_same k l r b.0.are (subst (λ q. FitsEvent q l) n a.1) b.1 (ap (λ q. event_line q l) (sym n) ∙ e)); names = n }

  multis_same : (l r : MultiEvent) (m k : List (List ℕ)) → Rule t (items.multi l) m → Rule t (items.multi r) k → multi_line m l ≡ multi_line k r → SameLine (items.multi l) (items.multi r) m k
  multis_same l r m k a b e =
      let n : m ≡ k = named_same t.names (multi_by l).session (multi_by r).session m k a.0 b.0 (some_same _ _ (sym (multi_second m l) ∙ ap second_word (same_words t (items.multi l) (items.multi r) m k a b e) ∙ multi_second k r)) in
      record { item = ap items.multi (multi_same k l r b.0.are (subst (λ q. FitsMultiEvent q l) n a.1) b.1 (ap (λ q. multi_line q l) (sym n) ∙ e)); names = n }

  steps_same : (l r : Step) (m k : List (List ℕ)) → Rule t (items.step l) m → Rule t (items.step r) k → step_text m l ≡ step_text k r → SameLine (items.step l) (items.step r) m k
  steps_same l r m k a b e =
      let n : m ≡ k = step_named t l m a ∙ ap (λ ws. note_some t.names (pending_name ws)) (same_words t (items.step l) (items.step r) m k a b e) ∙ sym (step_named t r k b) in
      record { item = ap items.step (step_same k l r b.1 (subst (λ q. FitsStep q l) n a.2) b.2 (ap (λ q. step_text q l) (sym n) ∙ e)); names = n }

  -- lines of one stage
  pub same_line : (x y : Item) (m k : List (List ℕ)) → item_group x ≡ item_group y → Rule t x m → Rule t y k → item_line m x ≡ item_line k y → SameLine x y m k
  same_line items.title items.title m k g a b e = record { item = refl; names = a ∙ sym b }
  same_line (items.life n s) (items.life i r) m k g a b e = record { item = life_same n i s r (a.1 ∙ sym b.1) a.2 a.3 b.3 e; names = a.0 ∙ sym b.0 }
  same_line (items.round n) (items.round i) m k g a b e = record { item = ap items.round (a.1 ∙ sym b.1); names = a.0 ∙ sym b.0 }
  same_line (items.round n) (items.command l) m k g a b e = absurd (said_clash _ _ _ (sym (same_words t (items.round n) (items.command l) m k a b e)) (command_said k l b.1.by.command) (round_unsaid m n a.2))
  same_line (items.round n) (items.step s) m k g a b e = absurd (step_no_round k s n b.2 (sym (same_words t (items.round n) (items.step s) m k a b e)))
  same_line (items.round n) items.history m k g a b e = absurd (clash (codes "round") (codes "history") (ap (nth 0) (same_words t (items.round n) items.history m k a b e)) refl)
  same_line (items.command l) (items.round n) m k g a b e = absurd (said_clash _ _ _ (same_words t (items.command l) (items.round n) m k a b e) (command_said m l a.1.by.command) (round_unsaid k n b.2))
  same_line (items.command l) (items.command r) m k g a b e = commands_same l r m k a b e
  same_line (items.command l) (items.step s) m k g a b e = absurd (said_clash _ _ _ (same_words t (items.command l) (items.step s) m k a b e) (command_said m l a.1.by.command) (step_unsaid k s b.2))
  same_line (items.command l) items.history m k g a b e = absurd (said_clash _ _ _ (same_words t (items.command l) items.history m k a b e) (command_said m l a.1.by.command) (history_unsaid k))
  same_line (items.step s) (items.round n) m k g a b e = absurd (step_no_round m s n a.2 (same_words t (items.step s) (items.round n) m k a b e))
  same_line (items.step s) (items.command l) m k g a b e = absurd (said_clash _ _ _ (sym (same_words t (items.step s) (items.command l) m k a b e)) (command_said k l b.1.by.command) (step_unsaid m s a.2))
  same_line (items.step s) (items.step r) m k g a b e = steps_same s r m k a b e
  same_line (items.step s) items.history m k g a b e = absurd (step_no_history m s a.2 (same_words t (items.step s) items.history m k a b e))
  same_line items.history (items.round n) m k g a b e = absurd (clash (codes "history") (codes "round") (ap (nth 0) (same_words t items.history (items.round n) m k a b e)) refl)
  same_line items.history (items.command l) m k g a b e = absurd (said_clash _ _ _ (sym (same_words t items.history (items.command l) m k a b e)) (command_said k l b.1.by.command) (history_unsaid m))
  same_line items.history (items.step s) m k g a b e = absurd (step_no_history k s b.2 (sym (same_words t items.history (items.step s) m k a b e)))
  same_line items.history items.history m k g a b e = record { item = refl; names = a ∙ sym b }
  same_line (items.event l) (items.event r) m k g a b e = events_same l r m k a b e
  same_line (items.event l) items.multis m k g a b e = absurd (second_clash _ _ _ (same_words t (items.event l) items.multis m k a b e) (event_second m l) multis_none)
  same_line items.multis (items.event r) m k g a b e = absurd (second_clash _ _ _ (sym (same_words t items.multis (items.event r) m k a b e)) (event_second k r) multis_none)
  same_line items.multis items.multis m k g a b e = record { item = refl; names = a ∙ sym b }
  same_line (items.multi l) (items.multi r) m k g a b e = multis_same l r m k a b e
  same_line (items.multi l) (items.log h) m k g a b e = absurd (multi_no_log m l _ (same_words t (items.multi l) (items.log h) m k a b e))
  same_line (items.log h) (items.multi r) m k g a b e = absurd (multi_no_log k r _ (sym (same_words t (items.log h) (items.multi r) m k a b e)))
  same_line (items.log h) (items.log i) m k g a b e = record { item = ap items.log (log_same h i a.1 b.1 e); names = a.0 ∙ sym b.0 }
  same_line (items.logged n r) (items.logged i s) m k g a b e = record { item = logged_same n i r s (a.1 ∙ sym b.1) a.2 a.3 b.3 e; names = a.0 ∙ sym b.0 }
  same_line (items.logged n r) (items.crash h) m k g a b e = absurd (no_number n (codes "crash") a.2 (ap (nth 0) (same_words t (items.logged n r) (items.crash h) m k a b e)) refl)
  same_line (items.logged n r) items.last m k g a b e = absurd (no_number n (codes "end") a.2 (ap (nth 0) (same_words t (items.logged n r) items.last m k a b e)) refl)
  same_line (items.crash h) (items.logged n r) m k g a b e = absurd (no_number n (codes "crash") b.2 (sym (ap (nth 0) (same_words t (items.crash h) (items.logged n r) m k a b e))) refl)
  same_line (items.crash h) (items.crash i) m k g a b e = record { item = ap items.crash (crash_same h i e); names = a ∙ sym b }
  same_line (items.crash h) items.last m k g a b e = absurd (clash (codes "crash") (codes "end") (ap (nth 0) (same_words t (items.crash h) items.last m k a b e)) refl)
  same_line items.last (items.logged n r) m k g a b e = absurd (no_number n (codes "end") b.2 (sym (ap (nth 0) (same_words t items.last (items.logged n r) m k a b e))) refl)
  same_line items.last (items.crash h) m k g a b e = absurd (clash (codes "end") (codes "crash") (ap (nth 0) (same_words t items.last (items.crash h) m k a b e)) refl)
  same_line items.last items.last m k g a b e = record { item = refl; names = a ∙ sym b }
  same_line _ _ m k g a b e = absurd (omega arith)
