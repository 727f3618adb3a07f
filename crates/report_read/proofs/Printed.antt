-- What is told has the text of the lines that told it.
use Rattle.std.proofs.Common.{◌≡◌, ℕ, ◌+◌, ◌<◌, List, [], ◌∷◌, ◌++◌, true, Option, Some, None, refl, sym, ap, ◌∙◌, append_assoc, append-nil, subst, arith, length, zero, suc, codes}
use Rattle.std.specs.List.{flat_map}
use Rattle.std.specs.Fmt.{decimal}
use Rattle.std.proofs.lemmas.Bool.{false≢true}
use Rattle.tx_events.specs.Events.{by_of}
use Rattle.tx_events.specs.declared.event.Event.{Event}
use Rattle.tx_events.specs.declared.multi.MultiEvent.{MultiEvent}
use Rattle.tx_events.specs.declared.record.Rec.{Rec}
use Rattle.tx_model.specs.declared.report.How.{How}
use Rattle.tx_model.specs.declared.report.LifeReport.{LifeReport}
use Rattle.tx_model.specs.declared.report.Line.{Line}
use Rattle.tx_model.specs.declared.report.Step.{Step}
use Rattle.tx_model.specs.declared.report.Step.TheVariants as steps
use Rattle.tx_model.specs.declared.reply.Reply.{Reply}
use Rattle.tx_model.specs.declared.reply.Reply.TheVariants as replies
use Rattle.report_text.specs.Words.{line_text, name_at}
use Rattle.report_text.specs.CommandText.{command_words}
use Rattle.tx_events.specs.Multis.{multi_by}
use Rattle.report_text.specs.EventText.{event_word, event_rest, multi_event_word, multi_event_rest}
use Rattle.report_text.specs.RecordText.{records_text}
use Rattle.report_text.specs.ReplyText.{reply_words, refusal_word}
use Rattle.report_text.specs.ReportText.{command_line, crash_text, dump_words, end_text, history_text, life_line, life_text, lives_text, log_text, multis_text, report_text, round_line, step_text, title_text}
use Rattle.report_words.specs.Fits.{FitsCheckpointReply, FitsDumpReply, FitsReply}
use Rattle.report_words.specs.Reading.{name_place}
use Rattle.report_words.specs.Replies.{kind_of}
use Rattle.report_words.specs.declared.reply.Kind.{Kind}
use Rattle.report_lines.specs.Fits.{FitsStep}
use Rattle.report_words.specs.Texts.{event_line, multi_line, record_line}
use Rattle.report_lines.specs.Texts.{log_line, start_line}
use Rattle.report_read.specs.Item.{Item}
use Rattle.report_read.specs.Item as items
use Rattle.report_read.specs.Grammar.{AreNamed, IsNamed, Rule, after, begins_step, history_line, is_round, item_line, life_told, may_stand, multis_line, noted, session_of, steps_told}
use Rattle.report_read.specs.Reports.{IsRun, report_told, run_text}
use Rattle.report_read.specs.declared.told.Stage.{Stage}
use Rattle.report_read.specs.declared.told.Stage.TheVariants as stages
use Rattle.report_read.specs.declared.told.Told.{Told}
use Rattle.report_read.proofs.Same.{opening_is, between_is, history_is, multis_is, log_is}

abbrev Names : Type 0
Names = List (List ℕ)

-- ---- the text so far, with these names

abbrev top : Names → Told → List ℕ
top n t = title_text ++ lives_text n 1 t.lives

abbrev stepped : Names → Told → List Step → List ℕ
stepped n t steps = (top n t ++ start_line (length t.lives + 1) t.start) ++ flat_map (step_text n) steps

abbrev with_history : Names → Told → List ℕ
with_history n t = stepped n t t.steps ++ history_text n t.events

abbrev with_multis : Names → Told → List ℕ
with_multis n t = with_history n t ++ multis_text n t.multis

abbrev with_log : Names → Told → List ℕ
with_log n t = with_multis n t ++ (log_line t.log ++ records_text t.start.from t.recs)

so_far : Names → Stage → Told → List ℕ
so_far n stages.Opening t = []
so_far n stages.Between t = top n t
so_far n stages.Steps t = stepped n t t.steps
so_far n stages.Silent t = stepped n t t.steps ++ (round_line t.round ++ flat_map (command_line n) t.lines)
so_far n stages.Spoken t = stepped n t t.steps ++ (round_line t.round ++ flat_map (command_line n) t.lines)
so_far n stages.History t = with_history n t
so_far n stages.Multis t = with_multis n t
so_far n stages.Log t = with_log n t
so_far n stages.Closed t = top n t ++ end_text

-- ---- lists with one item more

flat_push : {X : Type 0} (f : X → List ℕ) (xs : List X) (x : X) → flat_map f (xs ++ x ∷ []) ≡ flat_map f xs ++ f x
flat_push f [] x = append-nil (f x)
flat_push f (y ∷ xs) x = ap (λ t. f y ++ t) (flat_push f xs x) ∙ sym (append_assoc (f y) (flat_map f xs) (f x))

records_push : (n : ℕ) (rs : List Rec) (r : Rec) → records_text n (rs ++ r ∷ []) ≡ records_text n rs ++ record_line (n + length rs) r
records_push n [] r = let z : n + 0 ≡ n = omega arith in append-nil (record_line n r) ∙ ap (λ k. record_line k r) (sym z)
records_push n (q ∷ rs) r =
    let z : n + 1 + length rs ≡ n + length (q ∷ rs) = omega arith in
    ap (λ t. record_line n q ++ t) (records_push (n + 1) rs r ∙ ap (λ k. records_text (n + 1) rs ++ record_line k r) z)
    ∙ sym (append_assoc (record_line n q) (records_text (n + 1) rs) (record_line (n + length (q ∷ rs)) r))

lives_push : (names : Names) (n : ℕ) (ls : List LifeReport) (l : LifeReport) → lives_text names n (ls ++ l ∷ []) ≡ lives_text names n ls ++ life_text names (n + length ls) l
unfolding lives_text
lives_push names n [] l = let z : n + 0 ≡ n = omega arith in append-nil (life_text names n l) ∙ ap (λ k. life_text names k l) (sym z)
lives_push names n (q ∷ ls) l =
    let z : n + 1 + length ls ≡ n + length (q ∷ ls) = omega arith in
    ap (λ t. life_text names n q ++ t) (lives_push names (n + 1) ls l ∙ ap (λ k. lives_text names (n + 1) ls ++ life_text names k l) z)
    ∙ sym (append_assoc (life_text names n q) (lives_text names (n + 1) ls) (life_text names (n + length (q ∷ ls)) l))

-- ---- one line more

title_told : (n : Names) (t : Told) → so_far n stages.Between (after t items.title) ≡ title_text
unfolding so_far lives_text
title_told n t = append-nil title_text

life_told_text : (n : Names) (t : Told) (number : ℕ) (s : _) → number ≡ length t.lives + 1 → so_far n stages.Steps (after t (items.life number s)) ≡ so_far n stages.Between t ++ start_line number s
unfolding so_far
life_told_text n t number s e = append-nil ((top n t ++ start_line (length t.lives + 1) s)) ∙ ap (λ k. top n t ++ start_line k s) (sym e)

stepped_push : (n : Names) (t : Told) (ss : List Step) (s : Step) → stepped n t (ss ++ s ∷ []) ≡ stepped n t ss ++ step_text n s
stepped_push n t ss s = ap (λ u. (top n t ++ start_line (length t.lives + 1) t.start) ++ u) (flat_push (step_text n) ss s) ∙ sym (append_assoc (top n t ++ start_line (length t.lives + 1) t.start) (flat_map (step_text n) ss) (step_text n s))

-- the steps, where a round that has spoken is one
closed_steps : (n : Names) (t : Told) (s : Stage) → begins_step s ≡ true → stepped n t (steps_told s t) ≡ so_far n s t
unfolding so_far step_text
closed_steps n t stages.Steps e = refl
closed_steps n t stages.Spoken e = stepped_push n t t.steps (steps.Round t.round t.lines)
closed_steps n t _ e = absurd (false≢true e)

round_told : (n : Names) (t : Told) (k : ℕ) → begins_step t.stage ≡ true → so_far n stages.Silent (after t (items.round k)) ≡ so_far n t.stage t ++ round_line k
unfolding so_far
round_told n t k e = ap (λ u. stepped n t (steps_told t.stage t) ++ u) (append-nil (round_line k)) ∙ ap (λ u. u ++ round_line k) (closed_steps n t t.stage e)

spoken_text : (n : Names) (t : Told) (s : Stage) → is_round s ≡ true → so_far n s t ≡ stepped n t t.steps ++ (round_line t.round ++ flat_map (command_line n) t.lines)
unfolding so_far
spoken_text n t stages.Silent e = refl
spoken_text n t stages.Spoken e = refl
spoken_text n t _ e = absurd (false≢true e)

command_told : (n : Names) (t : Told) (l : Line) → is_round t.stage ≡ true → so_far n stages.Spoken (after t (items.command l)) ≡ so_far n t.stage t ++ command_line n l
unfolding so_far
command_told n t l e =
    ap (λ u. stepped n t t.steps ++ (round_line t.round ++ u)) (flat_push (command_line n) t.lines l)
    ∙ ap (λ u. stepped n t t.steps ++ u) (sym (append_assoc (round_line t.round) (flat_map (command_line n) t.lines) (command_line n l)))
    ∙ sym (append_assoc (stepped n t t.steps) (round_line t.round ++ flat_map (command_line n) t.lines) (command_line n l))
    ∙ ap (λ u. u ++ command_line n l) (sym (spoken_text n t t.stage e))

step_told : (n : Names) (t : Told) (s : Step) → begins_step t.stage ≡ true → so_far n stages.Steps (after t (items.step s)) ≡ so_far n t.stage t ++ step_text n s
unfolding so_far
step_told n t s e = stepped_push n t (steps_told t.stage t) s ∙ ap (λ u. u ++ step_text n s) (closed_steps n t t.stage e)

history_told : (n : Names) (t : Told) → begins_step t.stage ≡ true → so_far n stages.History (after t items.history) ≡ so_far n t.stage t ++ history_line
unfolding so_far history_text
history_told n t e = ap (λ u. stepped n t (steps_told t.stage t) ++ u) (append-nil history_line) ∙ ap (λ u. u ++ history_line) (closed_steps n t t.stage e)

event_told : (n : Names) (t : Told) (e : Event) → so_far n stages.History (after t (items.event e)) ≡ so_far n stages.History t ++ event_line n e
unfolding so_far history_text
event_told n t e =
    ap (λ u. stepped n t t.steps ++ (history_line ++ u)) (flat_push (event_line n) t.events e)
    ∙ ap (λ u. stepped n t t.steps ++ u) (sym (append_assoc history_line (flat_map (event_line n) t.events) (event_line n e)))
    ∙ sym (append_assoc (stepped n t t.steps) (history_line ++ flat_map (event_line n) t.events) (event_line n e))

multis_told : (n : Names) (t : Told) → so_far n stages.Multis (after t items.multis) ≡ so_far n stages.History t ++ multis_line
unfolding so_far multis_text
multis_told n t = ap (λ u. with_history n t ++ u) (append-nil multis_line)

multi_told : (n : Names) (t : Told) (e : MultiEvent) → so_far n stages.Multis (after t (items.multi e)) ≡ so_far n stages.Multis t ++ multi_line n e
unfolding so_far multis_text
multi_told n t e =
    ap (λ u. with_history n t ++ (multis_line ++ u)) (flat_push (multi_line n) t.multis e)
    ∙ ap (λ u. with_history n t ++ u) (sym (append_assoc multis_line (flat_map (multi_line n) t.multis) (multi_line n e)))
    ∙ sym (append_assoc (with_history n t) (multis_line ++ flat_map (multi_line n) t.multis) (multi_line n e))

log_told : (n : Names) (t : Told) (l : _) → so_far n stages.Log (after t (items.log l)) ≡ so_far n stages.Multis t ++ log_line l
unfolding so_far
log_told n t l = ap (λ u. with_multis n t ++ u) (append-nil (log_line l))

logged_told : (n : Names) (t : Told) (k : ℕ) (r : Rec) → k ≡ t.start.from + length t.recs → so_far n stages.Log (after t (items.logged k r)) ≡ so_far n stages.Log t ++ record_line k r
unfolding so_far
logged_told n t k r e =
    ap (λ u. with_multis n t ++ (log_line t.log ++ u)) (records_push t.start.from t.recs r ∙ ap (λ i. records_text t.start.from t.recs ++ record_line i r) (sym e))
    ∙ ap (λ u. with_multis n t ++ u) (sym (append_assoc (log_line t.log) (records_text t.start.from t.recs) (record_line k r)))
    ∙ sym (append_assoc (with_multis n t) (log_line t.log ++ records_text t.start.from t.recs) (record_line k r))

-- the text of the life that is told
whole_life : (n : Names) (t : Told) (o : Option How) → title_text ++ lives_text n 1 (t.lives ++ life_told t o ∷ []) ≡ with_log n t ++ crash_text o
unfolding log_text
whole_life n t o =
    let k : 1 + length t.lives ≡ length t.lives + 1 = omega arith in
    let line = life_line (length t.lives + 1) t.start.from t.start.base in
    let ss = flat_map (step_text n) t.steps in
    let h = history_text n t.events in
    let m = multis_text n t.multis in
    let g = log_line t.log ++ records_text t.start.from t.recs in
    ap (λ u. title_text ++ u) (lives_push n 1 t.lives (life_told t o) ∙ ap (λ i. lives_text n 1 t.lives ++ life_text n i (life_told t o)) k)
    ∙ sym (append_assoc title_text (lives_text n 1 t.lives) ((line ++ ss) ++ (((h ++ m) ++ g) ++ crash_text o)))
    ∙ joined (title_text ++ lives_text n 1 t.lives) line ss h m g (crash_text o)
  where
    joined : (a b c d e f x : List ℕ) → a ++ ((b ++ c) ++ (((d ++ e) ++ f) ++ x)) ≡ (((((a ++ b) ++ c) ++ d) ++ e) ++ f) ++ x
    joined a b c d e f x =
        sym (append_assoc a (b ++ c) (((d ++ e) ++ f) ++ x))
        ∙ ap (λ u. u ++ (((d ++ e) ++ f) ++ x)) (sym (append_assoc a b c))
        ∙ sym (append_assoc ((a ++ b) ++ c) ((d ++ e) ++ f) x)
        ∙ ap (λ u. u ++ x) (sym (append_assoc ((a ++ b) ++ c) (d ++ e) f) ∙ ap (λ u. u ++ f) (sym (append_assoc ((a ++ b) ++ c) d e)))

crash_told : (n : Names) (t : Told) (how : How) → so_far n stages.Between (after t (items.crash how)) ≡ so_far n stages.Log t ++ crash_text (Some how)
unfolding so_far
crash_told n t how = whole_life n t (Some how)

last_told : (n : Names) (t : Told) → so_far n stages.Closed (after t items.last) ≡ so_far n stages.Log t ++ end_text
unfolding so_far crash_text
last_told n t = ap (λ u. u ++ end_text) (whole_life n t None ∙ append-nil (with_log n t))

at_stage : (n : Names) (t : Told) (s : Stage) (line : List ℕ) → t.stage ≡ s → so_far n s t ++ line ≡ so_far n t.stage t ++ line
at_stage n t s line e = ap (λ q. so_far n q t ++ line) (sym e)

at_opening : (n : Names) (t : Told) → t.stage ≡ stages.Opening → title_text ≡ so_far n t.stage t ++ title_text
unfolding so_far
at_opening n t e = ap (λ q. so_far n q t ++ title_text) (sym e)

after_line : (n : Names) (t : Told) (x : Item) (names : Names) → may_stand x t.stage ≡ true → Rule t x names → so_far n (after t x).stage (after t x) ≡ so_far n t.stage t ++ item_line n x
after_line n t items.title names a r = title_told n t ∙ at_opening n t (opening_is t.stage a)
after_line n t (items.life number s) names a r = life_told_text n t number s r.1 ∙ at_stage n t stages.Between _ (between_is t.stage a)
after_line n t (items.round k) names a r = round_told n t k a
after_line n t (items.command l) names a r = command_told n t l a
after_line n t (items.step s) names a r = step_told n t s a
after_line n t items.history names a r = history_told n t a
after_line n t (items.event e) names a r = ap (λ q. so_far n q (after t (items.event e))) (history_is t.stage a) ∙ event_told n t e ∙ at_stage n t stages.History _ (history_is t.stage a)
after_line n t items.multis names a r = multis_told n t ∙ at_stage n t stages.History _ (history_is t.stage a)
after_line n t (items.multi e) names a r = ap (λ q. so_far n q (after t (items.multi e))) (multis_is t.stage a) ∙ multi_told n t e ∙ at_stage n t stages.Multis _ (multis_is t.stage a)
after_line n t (items.log l) names a r = log_told n t l ∙ at_stage n t stages.Multis _ (multis_is t.stage a)
after_line n t (items.logged k q) names a r = ap (λ s. so_far n s (after t (items.logged k q))) (log_is t.stage a) ∙ logged_told n t k q r.1 ∙ at_stage n t stages.Log _ (log_is t.stage a)
after_line n t (items.crash how) names a r = crash_told n t how ∙ at_stage n t stages.Log _ (log_is t.stage a)
after_line n t items.last names a r = last_told n t ∙ at_stage n t stages.Log _ (log_is t.stage a)

-- ---- names that go on

-- the names begin with these
pub Extends : Names → Names → Type 0
Extends n names = (s : ℕ) → s < length names → (s < length n) × (name_at n s ≡ name_at names s)

at_front : (xs : Names) (w : List ℕ) (s : ℕ) → s < length xs → name_at (xs ++ w ∷ []) s ≡ name_at xs s
at_front [] w s l = absurd (omega arith)
at_front (x ∷ xs) w zero l = refl
at_front (x ∷ xs) w (suc s) l = at_front xs w s (omega arith)

longer : (xs : Names) (w : List ℕ) (s : ℕ) → s < length xs → s < length (xs ++ w ∷ [])
longer [] w s l = absurd (omega arith)
longer (x ∷ xs) w zero l = omega arith
longer (x ∷ xs) w (suc s) l = let k = longer xs w s (omega arith) in omega arith

noted_extends : (xs : Names) (w : List ℕ) (o : Option ℕ) → Extends (noted xs w o) xs
unfolding Extends
noted_extends xs w None = λ s l. (longer xs w s l, at_front xs w s l)
noted_extends xs w (Some k) = λ s l. (l, refl)

extends_refl : (xs ys : Names) → ys ≡ xs → Extends ys xs
unfolding Extends
extends_refl xs ys e = λ s l. (subst (λ (n : Names). s < length n) (sym e) l, ap (λ (n : Names). name_at n s) e)

extends_trans : (x y z : Names) → Extends x y → Extends y z → Extends x z
unfolding Extends
extends_trans x y z a b = λ s l. ((a s (b s l).0).0, (a s (b s l).0).1 ∙ (b s l).1)

named_extends : (before : Names) (s : ℕ) (names : Names) → IsNamed before s names → Extends names before
named_extends before s names n = subst (λ (m : Names). Extends m before) (sym n.noted) (noted_extends before (name_at names s) (name_place before (name_at names s)))

are_extended : (before : Names) (o : Option ℕ) (names : Names) → AreNamed before o names → Extends names before
are_extended before None names a = extends_refl before names a
are_extended before (Some s) names a = named_extends before s names a

names_extend : (t : Told) (x : Item) (names : Names) → Rule t x names → Extends names t.names
names_extend t (items.life number s) names r = extends_refl t.names names r.0
names_extend t (items.round k) names r = extends_refl t.names names r.0
names_extend t (items.command l) names r = named_extends t.names l.by.session names r.0
names_extend t (items.step s) names r = are_extended t.names (session_of s) names r.0
names_extend t (items.event e) names r = named_extends t.names (by_of e).session names r.0
names_extend t (items.multi e) names r = named_extends t.names (multi_by e).session names r.0
names_extend t (items.log l) names r = extends_refl t.names names r.0
names_extend t (items.logged k q) names r = extends_refl t.names names r.0
names_extend t _ names r = extends_refl t.names names r

-- ---- a line stays as it is where names are added

reply_stays : (k : Kind) (r : Reply) (n names : Names) → FitsReply k r → reply_words n r ≡ reply_words names r
reply_stays k (replies.Pending session refusal) n names f = absurd f
reply_stays k _ n names f = refl

checkpoint_stays : (r : Reply) (n names : Names) → Extends n names → FitsCheckpointReply names r → reply_words n r ≡ reply_words names r
unfolding Extends
checkpoint_stays replies.Done n names x f = refl
checkpoint_stays (replies.Pending session refusal) n names x f = ap (λ w. refusal_word refusal ∷ w ∷ []) (x session f.0).1
checkpoint_stays (replies.Refused refusal) n names x f = refl
checkpoint_stays _ n names x f = absurd f

dump_stays : (r : Reply) (n names : Names) → FitsDumpReply r → reply_words n r ≡ reply_words names r
dump_stays (replies.Bytes bytes) n names f = refl
dump_stays (replies.Cut cutoff) n names f = refl
dump_stays (replies.Refused refusal) n names f = refl
dump_stays _ n names f = absurd f

step_stays : (s : Step) (n names : Names) → Extends n names → FitsStep names s → step_text n s ≡ step_text names s
unfolding step_text
step_stays (steps.Round number lines) n names x f = absurd f
step_stays (steps.Checkpoint reply) n names x f = ap (λ ws. line_text (codes "checkpoint" ∷ codes "->" ∷ ws)) (checkpoint_stays reply n names x f)
step_stays (steps.Dump what from size reply) n names x f = ap (λ ws. line_text (codes "dump" ∷ (dump_words what ++ decimal from ∷ decimal size ∷ codes "->" ∷ ws))) (dump_stays reply n names f.1)

line_stays : (t : Told) (x : Item) (n names : Names) → Extends n names → Rule t x names → item_line n x ≡ item_line names x
unfolding Extends
line_stays t (items.command l) n names x r =
    ap (λ w. line_text (w ∷ decimal l.by.command ∷ (command_words l.command ++ codes "->" ∷ reply_words n l.reply))) (x l.by.session r.0.within).1
    ∙ ap (λ ws. line_text (name_at names l.by.session ∷ decimal l.by.command ∷ (command_words l.command ++ codes "->" ∷ ws))) (reply_stays (kind_of l.command) l.reply n names r.1.reply)
line_stays t (items.step s) n names x r = step_stays s n names x r.2
line_stays t (items.event e) n names x r = ap (λ w. line_text (event_word e ∷ w ∷ decimal (by_of e).command ∷ event_rest e)) (x (by_of e).session r.0.within).1
line_stays t (items.multi e) n names x r = ap (λ w. line_text (multi_event_word e ∷ w ∷ decimal (multi_by e).command ∷ multi_event_rest e)) (x (multi_by e).session r.0.within).1
line_stays t _ n names x r = refl

-- ---- whole runs

run_extends : (t : Told) (run : List (Item × Told)) (last : Told) → IsRun t run last → Extends last.names t.names
run_extends t [] last g = extends_refl t.names last.names (ap (λ (q : Told). q.names) (sym g))
run_extends t (p ∷ ps) last g = extends_trans last.names p.1.names t.names (run_extends p.1 ps last g.1) (names_extend t p.0 p.1.names g.0.rule)

names_apart : (n : Names) (s : Stage) (k : Told) (names : Names) → so_far n s (record k { names = names }) ≡ so_far n s k
unfolding so_far
names_apart n stages.Opening k names = refl
names_apart n _ k names = refl

same_text : (n : Names) (m k : Told) → m ≡ record k { names = m.names } → so_far n m.stage m ≡ so_far n k.stage k
same_text n m k e = ap (λ (q : Told). so_far n q.stage q) e ∙ names_apart n k.stage k m.names

run_told : (t : Told) (run : List (Item × Told)) (last : Told) → IsRun t run last → so_far last.names last.stage last ≡ so_far last.names t.stage t ++ run_text run
run_told t [] last g = ap (λ (q : Told). so_far last.names q.stage q) (sym g) ∙ sym (append-nil (so_far last.names t.stage t))
run_told t (p ∷ ps) last g =
    let n = last.names in
    run_told p.1 ps last g.1
    ∙ ap (λ u. u ++ run_text ps) (same_text n p.1 (after t p.0) g.0.told ∙ after_line n t p.0 p.1.names g.0.stands g.0.rule ∙ ap (λ u. so_far n t.stage t ++ u) (line_stays t p.0 n p.1.names (run_extends p.1 ps last g.1) g.0.rule))
    ∙ append_assoc (so_far n t.stage t) (item_line p.1.names p.0) (run_text ps)

-- a report has the text of the lines that tell it
pub told_text : (t : Told) (run : List (Item × Told)) (last : Told) → t.stage ≡ stages.Opening → IsRun t run last → last.stage ≡ stages.Closed → report_text (report_told last) ≡ run_text run
unfolding so_far
told_text t run last o g c =
    ap (λ s. so_far last.names s last) (sym c) ∙ run_told t run last g ∙ ap (λ s. so_far last.names s t ++ run_text run) o
